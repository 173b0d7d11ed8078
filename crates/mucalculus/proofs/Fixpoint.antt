-- Laws of what specs/Fixpoint.antt defines. Assumes nothing.
use mathlib.Core.Path.{◌≡◌, sym, ap, ◌∙◌, subst, subst₂}
use mathlib.Core.Logic.{◌⊎◌, inl, inr}
use mathlib.Core.Bool.{Bool, true, false, ◌&&◌}
use mathlib.Core.List.{List, Memᴰ}
use Prim.Native.Nat.{ℕ, zero, suc, ◌<◌}
use native.Mathlib.Omega.{arith}
use lib.Dec.{T, ltb, lt→ltb}
use lib.ListN.{length}
use Rattle.mucalculus.specs.Sets.{all_states, mem, all, any, bit_lists, same}
use Rattle.mucalculus.proofs.Sets.{mem-all_states, length-table, mem-table, mem-lt, and_in, and_out, all_in, all_out, any_in, any_out}
use Rattle.mucalculus.proofs.Sets.{keep_in, keep_out, bit_lists-all, same_refl, same-eq}
use Rattle.mucalculus.specs.Order.{Below, start, weight}
use Rattle.mucalculus.proofs.Order.{Dir, dir_refl, dir_trans, dir_eq, dir_antisym, length-start, start_dir, start_in, weight-le}
use Rattle.mucalculus.proofs.Order.{rise}
use Rattle.mucalculus.specs.Fixpoint.{fixpoints, least, greatest, Into}

-- both as one notion, for proofs
abbrev pub fix : Bool → ℕ → List Bool → (List Bool → List Bool) → List Bool
fix true k E F = least k E F
fix false k E F = greatest k E F

-- F done j times, starting from A
abbrev pub iter : (List Bool → List Bool) → ℕ → List Bool → List Bool
iter F zero A = A
iter F (suc j) A = F (iter F j A)

pub length_fix : (b : Bool) (k : ℕ) (E : List Bool) (F : List Bool → List Bool) → length (fix b k E F) ≡ k
length_fix true k E F = length-table k _
length_fix false k E F = length-table k _

-- what they name are states that exist
pub fix_in : (b : Bool) (k : ℕ) (E : List Bool) (F : List Bool → List Bool) → Below (fix b k E F) E
fix_in true k E F =
    λ s p. (and_out (mem E s) _
    (and_out (ltb s k) _ (subst T (mem-table k (λ i. mem E i && all (λ (B : List Bool). mem B i) (fixpoints k F)) s) p)).1).0
fix_in false k E F =
    λ s p. (and_out (mem E s) _
    (and_out (ltb s k) _ (subst T (mem-table k (λ i. mem E i && any (λ (B : List Bool). mem B i) (fixpoints k F)) s) p)).1).0

-- F keeps the order
abbrev pub Mono : (List Bool → List Bool) → Type 0
Mono F = (A B : List Bool) → Below A B → Below (F A) (F B)

module _ (k : ℕ) (E : List Bool) (F : List Bool → List Bool) (len : (A : List Bool) → length (F A) ≡ k) (into : Into E F) where
  fixed-length : (A : List Bool) → F A ≡ A → length A ≡ k
  fixed-length A e = ap length (sym e) ∙ len A

  -- a set with F A = A is among the enumerated ones
  fixed_in : (A : List Bool) → F A ≡ A → Memᴰ A (fixpoints k F)
  fixed_in A e =
      keep_in (λ (B : List Bool). same (F B) B) (subst (λ (n : ℕ). Memᴰ A (bit_lists n)) (fixed-length A e) (bit_lists-all A))
      (subst (λ (B : List Bool). T (same B A)) (sym e) (same_refl A))

  fixed_out : (A : List Bool) → Memᴰ A (fixpoints k F) → F A ≡ A
  fixed_out A m = same-eq (F A) A (keep_out (λ (B : List Bool). same (F B) B) (bit_lists k) m)

  fixed-below : (A : List Bool) → F A ≡ A → Below A E
  fixed-below A e = subst (λ (B : List Bool). Below B E) e (into A)

  -- the least is below each fixpoint, the greatest above
  pub fix_bound : (b : Bool) (A : List Bool) → F A ≡ A → Dir b (fix b k E F) A
  fix_bound true A e = λ s p.
      all_out (λ (B : List Bool). mem B s) (fixed_in A e)
      (and_out (mem E s) _
      (and_out (ltb s k) _ (subst T (mem-table k (λ i. mem E i && all (λ (B : List Bool). mem B i) (fixpoints k F)) s) p)).1).1
  fix_bound false A e = λ s p.
      subst T (sym (mem-table k (λ i. mem E i && any (λ (B : List Bool). mem B i) (fixpoints k F)) s))
      (and_in (ltb s k) _ (lt→ltb s k (subst (λ (n : ℕ). s < n) (fixed-length A e) (mem-lt A s p)))
      (and_in (mem E s) _ (fixed-below A e s p) (any_in (λ (B : List Bool). mem B s) (fixed_in A e) p)))

  -- what is below each fixpoint is below the least; what is above each is above the greatest
  fix_limit : (b : Bool) (X : List Bool) → length X ≡ k → Below X E → ((A : List Bool) → F A ≡ A → Dir b X A) → Dir b X (fix b k E F)
  fix_limit true X l i h = λ s p.
      subst T (sym (mem-table k (λ i. mem E i && all (λ (B : List Bool). mem B i) (fixpoints k F)) s))
      (and_in (ltb s k) _ (lt→ltb s k (subst (λ (n : ℕ). s < n) l (mem-lt X s p)))
      (and_in (mem E s) _ (i s p) (all_in (λ (B : List Bool). mem B s) (fixpoints k F) (λ A m. h A (fixed_out A m) s p))))
  fix_limit false X l i h = λ s p.
      let w = any_out (λ (B : List Bool). mem B s) (fixpoints k F)
      (and_out (mem E s) _
      (and_out (ltb s k) _ (subst T (mem-table k (λ i. mem E i && any (λ (B : List Bool). mem B i) (fixpoints k F)) s) p)).1).1 in
      h w.0 (fixed_out w.0 w.1) s w.2

  module _ (mono : Mono F) (b : Bool) where
    dir_mono : (A B : List Bool) → Dir b A B → Dir b (F A) (F B)
    dir_mono = go b
      where
        go : (c : Bool) (A B : List Bool) → Dir c A B → Dir c (F A) (F B)
        go true A B h = mono A B h
        go false A B h = mono B A h

    -- the j-th set of the iteration
    abbrev nth : ℕ → List Bool
    nth j = iter F j (start b k E)

    length_nth : (j : ℕ) → length (nth j) ≡ k
    length_nth zero = length-start b k E
    length_nth (suc j) = len (nth j)

    nth_in : (j : ℕ) → Below (nth j) E
    nth_in zero = start_in b k E
    nth_in (suc j) = into (nth j)

    -- each set of the iteration is below each fixpoint
    nth_below : (j : ℕ) (A : List Bool) → F A ≡ A → Dir b (nth j) A
    nth_below zero A e = start_dir b k E A (fixed-length A e) (fixed-below A e)
    nth_below (suc j) A e = dir_trans b _ _ _ (dir_mono (nth j) A (nth_below j A e)) (dir_eq b e)

    -- the iteration climbs
    nth_climbs : (j : ℕ) → Dir b (nth j) (nth (suc j))
    nth_climbs zero = start_dir b k E (nth 1) (length_nth 1) (nth_in 1)
    nth_climbs (suc j) = dir_mono (nth j) (nth (suc j)) (nth_climbs j)

    step : (j : ℕ) → (nth j ≡ nth (suc j)) ⊎ (weight b (nth j) < weight b (nth (suc j)))
    step j = rise b (nth j) (nth (suc j)) (length_nth j ∙ sym (length_nth (suc j))) (nth_climbs j)

    -- a set of the iteration that F leaves as it is, is the fixpoint that the definition names
    pub iter_found : (j : ℕ) → F (nth j) ≡ nth j → nth j ≡ fix b k E F
    iter_found j e =
        dir_antisym b (nth j) (fix b k E F) (length_nth j ∙ sym (length_fix b k E F))
        (fix_limit b (nth j) (length_nth j) (nth_in j) (λ A. nth_below j A)) (fix_bound b (nth j) e)

    -- the j-th set is a fixpoint, or the next one has more than j places filled
    climb : (j : ℕ) → (F (nth j) ≡ nth j) ⊎ (j < weight b (nth (suc j)))
    climb zero = go (step zero)
      where
        go : (nth zero ≡ nth 1) ⊎ (weight b (nth zero) < weight b (nth 1)) → (F (nth zero) ≡ nth zero) ⊎ (zero < weight b (nth 1))
        go (inl e) = inl (sym e)
        go (inr l) = inr (omega arith)
    climb (suc j) = go (climb j) (step (suc j))
      where
        go : (F (nth j) ≡ nth j) ⊎ (j < weight b (nth (suc j)))
            → (nth (suc j) ≡ nth (suc (suc j))) ⊎ (weight b (nth (suc j)) < weight b (nth (suc (suc j))))
            → (F (nth (suc j)) ≡ nth (suc j)) ⊎ (suc j < weight b (nth (suc (suc j))))
        go (inl e) o = inl (ap F e)
        go (inr h) (inl e) = inl (sym e)
        go (inr h) (inr l) = inr (omega arith)

    -- after k rounds nothing changes any more, so round k + 1 finds the fixpoint
    pub stable : F (nth k) ≡ nth k
    stable = go (climb k)
      where
        go : (F (nth k) ≡ nth k) ⊎ (k < weight b (nth (suc k))) → F (nth k) ≡ nth k
        go (inl e) = e
        go (inr l) = absurd (omega (arith, weight-le b (nth (suc k)), length_nth (suc k)))

    pub fix_iter : nth k ≡ fix b k E F
    fix_iter = iter_found k stable

    -- what the definition names is a fixpoint
    pub fix_fixed : F (fix b k E F) ≡ fix b k E F
    fix_fixed = ap F (sym fix_iter) ∙ stable ∙ fix_iter

-- the order of two functions goes over to their fixpoints
pub fix_mono : (k : ℕ) (E : List Bool) (F G : List Bool → List Bool) → ((A : List Bool) → length (F A) ≡ k)
    → ((A : List Bool) → length (G A) ≡ k) → Into E F → Into E G → Mono F → Mono G
    → ((A B : List Bool) → Below A B → Below (F A) (G B)) → (b : Bool) → Below (fix b k E F) (fix b k E G)
fix_mono k E F G lF lG iF iG mF mG h b = subst₂ Below (fix_iter k E F lF iF mF b) (fix_iter k E G lG iG mG b) (go k)
  where
    go : (j : ℕ) → Below (iter F j (start b k E)) (iter G j (start b k E))
    go zero = dir_refl true (start b k E)
    go (suc j) = h (iter F j (start b k E)) (iter G j (start b k E)) (go j)

-- every set of k states is one of all states
pub into-all : (k : ℕ) (F : List Bool → List Bool) → ((A : List Bool) → length (F A) ≡ k) → Into (all_states k) F
into-all k F len A s p = mem-all_states k s (subst (λ (n : ℕ). s < n) (len A) (mem-lt (F A) s p))
