-- The effect of each call by the outcome of its checks: 3 out of range, then 4, 5, 12, 6 and 7, then the steps. Assumes nothing.
use mathlib.Core.Path.{◌≡◌, ap, ◌∙◌}
use mathlib.Core.Bool.{Bool, false, cond}
use mathlib.Core.List.{List}
use Prim.Native.Nat.{ℕ, suc, ◌≤◌, ◌<◌}
use native.Mathlib.Omega.{arith}
use lib.Dec.{T, ltb, lt→ltb, ltb→lt}
use Rattle.mucalculus.proofs.Sets.{true_of, false_of}
use Rattle.tokens.specs.declared.Kind.TheVariants.{Relation, Set, Valid}
use Rattle.accounts.specs.declared.Terms.{Terms}
use Rattle.accounts.specs.Terms.{named}
use Rattle.book.specs.Book.{formula_in, Book, relation, set, valid, unfilled, valid_steps, registers, relations, checks, Done, refuse}
use Rattle.book.specs.Book.{relation_steps, set_steps, passing, formula_call, does}

-- ---- a number in range, and out of it

module _ {X : Type 0} (x y : X) (k limit : ℕ) where
  pub in-range : k < limit → cond (ltb k limit) x y ≡ x
  in-range l = ap (λ (t : Bool). cond t x y) (true_of (ltb k limit) (lt→ltb k limit l))

  pub out_of_range : limit ≤ k → cond (ltb k limit) x y ≡ y
  out_of_range l = ap (λ (t : Bool). cond t x y) (false_of (ltb k limit) (λ t. let h = ltb→lt k limit t in omega arith))

-- ---- set and relation

-- a call whose number is in range goes by the number of its checks
checked : (b : Book) (x limit k j : ℕ) (d : Done) → x < limit → k ≡ j → cond (ltb x limit) (passing b k d) (refuse b 3) ≡ passing b j d
checked b x limit k j d l z = in-range (passing b k d) (refuse b 3) x limit l ∙ ap (λ (i : ℕ). passing b i d) z

module _ (b : Book) (acc : Terms) (r R : ℕ) (bs : List ℕ) where
  -- where the list has the account named, the call goes by the number of its checks
  set-checked : (j : ℕ) → r < registers → T (named acc) → checks b Set bs ≡ j
      → does b (set acc r R bs) ≡ passing b j (set_steps b acc r R (formula_in b Set bs))
  set-checked j l t z =
      in-range _ (refuse b 3) r registers l
      ∙ ap (λ (x : Bool). cond x (formula_call b Set bs (set_steps b acc r R)) (refuse b 14)) (true_of (named acc) t)
      ∙ ap (λ (i : ℕ). passing b i (set_steps b acc r R (formula_in b Set bs))) z

  pub does-set : r < registers → T (named acc) → checks b Set bs ≡ 0 → does b (set acc r R bs) ≡ set_steps b acc r R (formula_in b Set bs)
  does-set l t z = set-checked 0 l t z

  pub set-refused : (k : ℕ) → r < registers → T (named acc) → checks b Set bs ≡ suc k → does b (set acc r R bs) ≡ refuse b (suc k)
  set-refused k l t z = set-checked (suc k) l t z

  -- "checked directly after 3"
  pub set_unlisted : r < registers → named acc ≡ false → does b (set acc r R bs) ≡ refuse b 14
  set_unlisted l e =
      in-range _ (refuse b 3) r registers l ∙ ap (λ (x : Bool). cond x (formula_call b Set bs (set_steps b acc r R)) (refuse b 14)) e

  pub set_out_of_range : registers ≤ r → does b (set acc r R bs) ≡ refuse b 3
  set_out_of_range l = out_of_range _ (refuse b 3) r registers l

module _ (b : Book) (t : ℕ) (bs : List ℕ) where
  pub does-relation : t < relations → checks b Relation bs ≡ 0 → does b (relation t bs) ≡ relation_steps b t (formula_in b Relation bs)
  does-relation l z = checked b t relations (checks b Relation bs) 0 (relation_steps b t (formula_in b Relation bs)) l z

  pub relation-refused : (k : ℕ) → t < relations → checks b Relation bs ≡ suc k → does b (relation t bs) ≡ refuse b (suc k)
  relation-refused k l z = checked b t relations (checks b Relation bs) (suc k) (relation_steps b t (formula_in b Relation bs)) l z

  pub relation_out_of_range : relations ≤ t → does b (relation t bs) ≡ refuse b 3
  relation_out_of_range l = out_of_range (formula_call b Relation bs (relation_steps b t)) (refuse b 3) t relations l

module _ (b : Book) (bs : List ℕ) where
  pub does-valid : T (unfilled b) → checks b Valid bs ≡ 0 → does b (valid bs) ≡ valid_steps b (formula_in b Valid bs)
  does-valid t z =
      ap (λ (x : Bool). cond x (formula_call b Valid bs (valid_steps b)) (refuse b 13)) (true_of (unfilled b) t)
      ∙ ap (λ (i : ℕ). passing b i (valid_steps b (formula_in b Valid bs))) z

  pub valid-refused : (k : ℕ) → T (unfilled b) → checks b Valid bs ≡ suc k → does b (valid bs) ≡ refuse b (suc k)
  valid-refused k t z =
      ap (λ (x : Bool). cond x (formula_call b Valid bs (valid_steps b)) (refuse b 13)) (true_of (unfilled b) t)
      ∙ ap (λ (i : ℕ). passing b i (valid_steps b (formula_in b Valid bs))) z

  -- "checked directly after 2"
  pub valid_occupied : unfilled b ≡ false → does b (valid bs) ≡ refuse b 13
  valid_occupied e = ap (λ (x : Bool). cond x (formula_call b Valid bs (valid_steps b)) (refuse b 13)) e
