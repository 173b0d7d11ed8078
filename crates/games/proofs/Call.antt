-- The calls by the book: the set call on the game's bytes does what the first call is said to do; what the second answers by its checks.
-- Assumes nothing.
use mathlib.Core.Path.{◌≡◌, refl, sym, ap, ap₂, ◌∙◌, subst}
use mathlib.Core.Bool.{Bool, true, false, cond, ◌&&◌}
use mathlib.Core.List.{List}
use mathlib.Core.Option.{Option, none, some}
use Prim.Native.Nat.{ℕ, zero, suc, ◌^◌, ◌<◌}
use lib.Dec.{T, ltb, ltb→lt}
use Rattle.mucalculus.specs.Sets.{mem}
use Rattle.mucalculus.proofs.Sets.{and_out, mem-lt}
use Rattle.mucalculus.specs.Order.{Below, start}
use Rattle.mucalculus.proofs.Fixpoint.{iter, fix_iter}
use Rattle.mucalculus.specs.Binder.{body}
use Rattle.mucalculus.proofs.Binder.{body-length, body_in, body_mono}
use Rattle.mucalculus.specs.Form.{Form, Pairs, Model, Env, no_env, inside, steady, reads}
use Rattle.mucalculus.specs.Means.{size, exist, means}
use Rattle.mucalculus.specs.Exist.{Inside}
use Rattle.mucalculus.proofs.Laws.{get_or-table}
use Rattle.tokens.specs.declared.Kind.TheVariants.{Set}
use Rattle.formula.specs.Parse.{got, form_of, formula_of}
use Rattle.formula.specs.Checks.{filled, refusal_of, first_refusal}
use Rattle.accounts.specs.declared.Terms.{Terms}
use Rattle.accounts.specs.Terms.{named}
use Rattle.book.specs.Book.{Book, Done, registers, relations, model_of, reg_filled, rel_filled, checks, formula_in, refuse, set_done, set_steps}
use Rattle.book.specs.Book.{ended}
use Rattle.book.specs.Book.{passing, formula_call, does}
use Rattle.book.specs.Table.{Reply}
use Rattle.book.specs.Leaves.{plain}
use Rattle.book.specs.Stored.{Whole}
use Rattle.games.specs.Game.{forcing, forced, set_after, answerable, answer_to}
use Rattle.games.specs.Call.{body_form, game_form, game_bytes, numbers_in_range, game_call, presses, reactions, goals, forced_in}
use Rattle.games.specs.Call.{game_verdict}
use Rattle.games.specs.Call.{all_filled}
use Rattle.games.specs.Call.{force_done, verdict_reply, reacts}
use Rattle.games.proofs.Rounds.{after-all}
use Rattle.games.proofs.Formula.{game_read, game_bound, game_mentioned, game_steady, body-means}

-- ---- the set of the game is the formula's

module _ (m : Model) (goal guest machine : ℕ) (in-goal : Below (inside (m.reg goal)) (exist m))
    (in-guest : Inside (size m) (exist m) (inside (m.rel guest))) (in-machine : Inside (size m) (exist m) (inside
    (m.rel machine))) where
  -- the sets of its rounds are those of the game's
  pub rounds_mean : (e : Env) (i : ℕ) → iter (body m e 0 (body_form goal guest machine)) i (start true (size m) (exist m))
      ≡ set_after (size m) (inside (m.rel guest)) (inside (m.rel machine)) (inside (m.reg goal)) i
  rounds_mean e zero = refl
  rounds_mean e (suc i) =
      body-means m goal guest machine in-goal in-guest in-machine e
      (iter (body m e 0 (body_form goal guest machine)) i (start true (size m) (exist m)))
      ∙ ap (forcing (size m) (inside (m.rel guest)) (inside (m.rel machine)) (inside (m.reg goal))) (rounds_mean e i)

  -- THE FORMULA'S MEANING IS THE SET OF THE GAME
  pub game_means : (e : Env) → means m e (game_form goal guest machine)
      ≡ forced (size m) (inside (m.rel guest)) (inside (m.rel machine)) (inside (m.reg goal))
  unfolding steady reads
  game_means e =
      sym (fix_iter (size m) (exist m) (body m e 0 (body_form goal guest machine)) (body-length m e 0 (body_form goal guest machine))
      (body_in m e 0 (body_form goal guest machine)) (body_mono m e 0 (body_form goal guest machine) tt tt true) true)
      ∙ rounds_mean e (size m)
      ∙ after-all (size m) (inside (m.rel guest)) (inside (m.rel machine)) (inside (m.reg goal))

-- ---- a whole book is within V

module _ (b : Book) (w : Whole b) where
  exists : (u : ℕ) → u < 2 ^ b.n → T (mem b.valid u) → T (mem (exist (model_of b)) u)
  exists u l p = subst T (sym (get_or-table (2 ^ b.n) (λ x. mem b.valid x) u false l)) p

  pub whole-goal : (r : ℕ) → Below (inside (b.reg r)) (exist (model_of b))
  whole-goal r = go (b.reg r) refl
    where
      go : (o : Option (List Bool)) → b.reg r ≡ o → Below (inside o) (exist (model_of b))
      go none e u p = absurd p
      go (some A) e u p = let h = w.reg r A e in exists u (subst (λ (x : ℕ). u < x) h.0 (mem-lt A u p)) (h.2 u p)

  pub whole_moves : (t : ℕ) → Inside (2 ^ b.n) (exist (model_of b)) (inside (b.rel t))
  whole_moves t = go (b.rel t) refl
    where
      go : (o : Option Pairs) → b.rel t ≡ o → Inside (2 ^ b.n) (exist (model_of b)) (inside o)
      go none e s u l i p = absurd p
      go (some Q) e s u l i p = let h = (w.rel t Q e).2 s u l i p in (exists s l h.0, exists u i h.1)

  pub book-means : (goal guest machine : ℕ) → means (model_of b) no_env (game_form goal guest machine) ≡ forced_in b goal guest machine
  book-means goal guest machine =
      game_means (model_of b) goal guest machine (whole-goal goal) (whole_moves guest) (whole_moves machine) no_env

-- ---- the checks

pub record Ranges (goal guest machine : ℕ) : Type 0 where
  pub goal_in : goal < registers
  pub guest_in : guest < relations
  pub machine_in : machine < relations

pub ranges_out : (goal guest machine : ℕ) → numbers_in_range goal guest machine ≡ true → Ranges goal guest machine
ranges_out goal guest machine e =
    let x = and_out (ltb goal registers) _ (subst T (sym e) tt) in
    let y = and_out (ltb guest relations) _ x.1 in
    record {
      goal_in = ltb→lt goal registers x.0;
      guest_in = ltb→lt guest relations y.0;
      machine_in = ltb→lt machine relations
          y.1;
    }

module _ (b : Book) (goal guest machine : ℕ) where
  -- check 7 of the body, which is that of the formula
  pub filled-all : filled (reg_filled b) (rel_filled b) (body_form goal guest machine) ≡ all_filled b goal guest machine
  unfolding filled
  filled-all = go (reg_filled b goal) (rel_filled b guest) (rel_filled b machine)
    where
      go : (x y z : Bool) → (x && ((y && (z && true)) && (y && true))) ≡ (x && (y && z))
      go true true true = refl
      go true true false = refl
      go true false z = refl
      go false y z = refl

module _ (b : Book) (goal guest machine : ℕ) (r : Ranges goal guest machine) where
  read : formula_of Set b.n (game_bytes goal guest machine) ≡ got (game_form goal guest machine) 12
  read = game_read goal guest machine b.n r.goal_in r.guest_in r.machine_in

  pub game_form_lem : formula_in b Set (game_bytes goal guest machine) ≡ game_form goal guest machine
  game_form_lem = ap form_of read

  -- 4, 5, 12 and 6 never refuse; 7 does where a register or relation named is empty
  pub game_checks : checks b Set (game_bytes goal guest machine) ≡ cond (all_filled b goal guest machine) 0 7
  unfolding first_refusal filled
  game_checks =
      ap (refusal_of (reg_filled b) (rel_filled b)) read
      ∙ by (game_bound goal guest machine) (game_mentioned goal guest machine) (game_steady goal guest machine)
      (same-filled ∙ filled-all b goal guest machine)
    where
      same-filled : filled (reg_filled b) (rel_filled b) (game_form goal guest machine)
          ≡ filled (reg_filled b) (rel_filled b) (body_form goal guest machine)
      same-filled = refl

      by : {x y z f a : Bool} → x ≡ true → y ≡ true → z ≡ true → f ≡ a
          → ◌≡◌ {A = ℕ} (cond x (cond y (cond z (cond f 0 7) 6) 12) 5) (cond a 0 7)
      by {x} {y} {z} {f} {a} i j l h = rw (i, j, l, h) refl

-- ---- the first call

module _ (b : Book) (w : Whole b) (acc : Terms) (r R goal guest machine : ℕ) where
  -- what is stored
  stored_same : set_steps b acc r R (game_form goal guest machine)
      ≡ ended b (game_verdict b goal guest machine acc R) (λ q. set_done b r (forced_in b goal guest machine) q)
  stored_same =
      ap (λ (A : List Bool). ended b (game_verdict b goal guest machine acc R) (λ q. set_done b r A q)) (book-means b w goal guest machine)

  after-checks : Ranges goal guest machine → formula_call b Set (game_bytes goal guest machine) (set_steps b acc r R)
      ≡ cond (all_filled b goal guest machine)
      (ended b (game_verdict b goal guest machine acc R) (λ q. set_done b r (forced_in b goal guest machine) q)) (refuse b 7)
  after-checks i =
      ap₂ (λ (n : ℕ) (f : Form). passing b n (set_steps b acc r R f)) (game_checks b goal guest machine i)
      (game_form_lem b goal guest machine i)
      ∙ ap (passing b (cond (all_filled b goal guest machine) 0 7)) stored_same
      ∙ go (all_filled b goal guest machine) (ended b (game_verdict b goal guest machine acc R) (λ q. set_done b r
      (forced_in b goal guest machine) q))
    where
      go : (a : Bool) (d : Done) → passing b (cond a 0 7) d ≡ cond a d (refuse b 7)
      go true d = refl
      go false d = refl

  -- THE FIRST CALL DOES, AS THE SET CALL THAT IT IS, WHAT IT IS SAID TO DO
  pub force_does : does b (game_call acc r R goal guest machine) ≡ force_done b goal guest machine acc r R
  force_does = go (numbers_in_range goal guest machine) refl
    where
      go : (a : Bool) → numbers_in_range goal guest machine ≡ a
          → (let d = formula_call b Set (game_bytes goal guest machine) (set_steps b acc (cond a r registers) R) in
          let e = cond (named acc) d (refuse b 14) in cond (ltb (cond a r registers) registers) e (refuse b 3))
          ≡ (let stored = ended b (game_verdict b goal guest machine acc R) (λ q. set_done b r (forced_in b goal guest machine) q) in
          let full = cond (all_filled b goal guest machine) stored (refuse b 7) in
          let listed = cond (named acc) full (refuse b 14) in
          cond (a && ltb r registers) listed (refuse b 3))
      go true e =
          ap (λ (d : Done). cond (ltb r registers) (cond (named acc) d (refuse b 14)) (refuse b 3))
          (after-checks (ranges_out goal guest machine e))
      go false e = refl

-- ---- the second call

module _ (b : Book) (acc : Terms) (R goal guest machine s t : ℕ) where
  abbrev pub near : Bool
  near = numbers_in_range goal guest machine && (ltb s (2 ^ b.n) && ltb t (2 ^ b.n))

  abbrev pub reply_in : Reply
  reply_in =
      verdict_reply (game_verdict b goal guest machine acc R)
      (answerable (2 ^ b.n) (presses b guest) (reactions b machine) (goals b goal) s t)
      (answer_to (2 ^ b.n) (presses b guest) (reactions b machine) (goals b goal) s t)

  pub reacts_three : near ≡ false → reacts b goal guest machine acc R s t ≡ plain 3
  reacts_three e =
      ap (λ (c : Bool). cond c (cond (named acc) (cond (all_filled b goal guest machine) reply_in (plain 7)) (plain 14)) (plain 3)) e

  module _ (in-range : near ≡ true) where
    pub reacts_unlisted : named acc ≡ false → reacts b goal guest machine acc R s t ≡ plain 14
    reacts_unlisted e =
        ap (λ (c : Bool). cond c (cond (named acc) (cond (all_filled b goal guest machine) reply_in (plain 7)) (plain 14))
        (plain 3)) in-range
        ∙ ap (λ (c : Bool). cond c (cond (all_filled b goal guest machine) reply_in (plain 7)) (plain 14)) e

    module _ (listed : named acc ≡ true) where
      later : reacts b goal guest machine acc R s t ≡ cond (all_filled b goal guest machine) reply_in (plain 7)
      later =
          ap (λ (c : Bool). cond c (cond (named acc) (cond (all_filled b goal guest machine) reply_in (plain 7)) (plain 14))
          (plain 3)) in-range
          ∙ ap (λ (c : Bool). cond c (cond (all_filled b goal guest machine) reply_in (plain 7)) (plain 14)) listed

      pub reacts-empty : all_filled b goal guest machine ≡ false → reacts b goal guest machine acc R s t ≡ plain 7
      reacts-empty e = later ∙ ap (λ (c : Bool). cond c reply_in (plain 7)) e

      pub reacts-verdict : all_filled b goal guest machine ≡ true → reacts b goal guest machine acc R s t ≡ reply_in
      reacts-verdict e = later ∙ ap (λ (c : Bool). cond c reply_in (plain 7)) e
