-- Laws of what specs/Load.antt defines. Assumes nothing.
use Rattle.std.specs.Prelude.{Result, Ok, Err}
use mathlib.Core.Path.{◌≡◌, refl, sym, subst}
use mathlib.Core.Bool.{Bool, true, false}
use mathlib.Core.List.{List}
use Prim.Native.Nat.{ℕ, ◌≤◌, ◌<◌}
use native.Mathlib.Omega.{arith}
use lib.ListN.{length}
use Rattle.std.specs.Prelude.{Result}
use Rattle.accounts.specs.declared.Count.{Count}
use Rattle.layout.specs.declared.Refusal.{Refusal}
use Rattle.layout.specs.Places.{RELATIONS, MAX_ROWS, BITS, ROWS, words_for}
use Rattle.layout.specs.View.{View, view, header_of}
use Rattle.tokens.specs.declared.Kind.TheVariants.{Relation, Valid}
use Rattle.diagram.specs.Level.{Fn}
use Rattle.diagram.specs.Rows.{Rows}
use Rattle.rows.specs.Sound.{Sound, table_of}
use Rattle.table.specs.Make.{result}
use Rattle.table.specs.declared.Full.{Full}
use Rattle.counting.specs.Taken.{made_in, count_in}
use Rattle.counting.specs.declared.Taken.{Taken}
use Rattle.book.specs.Book.{relation, valid}
use Rattle.book.specs.Pairs.{PairEvals}
use Rattle.contract.specs.Posts.{CallPost}
use Rattle.evaluator.specs.Whole.{PairsPre, PairsPost, RelationPost}
use Rattle.formula_steps.specs.Evaluated.{Tidied}
use Rattle.formula_steps.proofs.Ends.{Through, through-sound, through-done, RelationEnds, relation-value, relation-full, ValidEnds}
use Rattle.formula_steps.proofs.Ends.{valid-value, valid-full}
use Rattle.formula_steps.specs.Replies.{loaded_reply, confined_reply}
use Rattle.formula_steps.specs.Store.{Carries, loaded_of, relation_loaded, confined_of, valid_confined}
use Rattle.formula_steps.proofs.Store.{loaded_late, confined-late, arrow-fits, limits_of}
use Rattle.formula_steps.specs.declared.Loaded.{Loaded}
use Rattle.formula_steps.specs.Load.{RelationReady, ValidReady}

ends_carries : {n N : ℕ} {before after : Rows} {roots : List ℕ} {F : Fn} {p : Count} (fits : Bool) (y : Result Taken Full) → N ≤ MAX_ROWS
    → PairEvals n N before after roots fits F p (result (made_in y)) (count_in y) → Carries y
ends_carries true (Ok t) l d = arrow-fits d.wf l t.arrow d.result.0.arrow
ends_carries false (Ok t) l d = absurd d.result
ends_carries fits (Err x) l d = tt

-- `rows` and `n` are what the code reads and hands on
module _ {old bs : List ℕ} {t rows n : ℕ} (p : RelationReady t old bs) (er : rows ≡ header_of old ROWS) (en : n ≡ header_of old BITS) where
  pub relation-asks : PairsPre (limits_of n rows rows 0) (view rows old) bs
  relation-asks =
      rw (er, en)
      (record { sound = p.sound; bits = refl; rows = refl; limit = omega arith; kind = Relation; is-pairs = refl; passed = p.passed })

  module _ (mid : List ℕ) {y : Result Taken Full} (d : RelationPost (limits_of n rows rows 0) (view rows old) (view rows mid) bs y) where
    post : RelationPost (limits_of (header_of old BITS) (header_of old ROWS) (header_of old ROWS) 0) (table_of old)
        (view (header_of old ROWS) mid) bs y
    post = rw (er, en) at d

    abbrev X : View
    X = view (header_of old ROWS) mid

    -- the book's steps
    evals : RelationEnds old p.sound X post.sound.good post.frame t bs p.range p.passed (result (made_in y)) (count_in y)
    evals = post.evals p.passed

    through : Through old (relation t bs) (loaded_reply (loaded_of y)) (relation_loaded X t y)
    through = go y evals
      where
        go : (y : Result Taken Full)
            → RelationEnds old p.sound X post.sound.good post.frame t bs p.range p.passed (result (made_in y)) (count_in y)
            → Through old (relation t bs) (loaded_reply (loaded_of y)) (relation_loaded X t y)
        go (Ok o) e = relation-value old p.sound X post.sound.good post.frame t bs p.range p.passed o.arrow o.count e
        go (Err x) e = relation-full old p.sound X post.sound.good post.frame t bs p.range p.passed _ e

    -- what `store_relation` asks
    pub relation_storing : (t < RELATIONS) × (words_for rows ≤ length mid) × Carries y
    relation_storing = rw er (p.range, post.sound.good.sizes.room, ends_carries _ y p.sound.good.sizes.N-max evals)

    module _ (after : List ℕ) (e : view rows after ≡ relation_loaded (view rows mid) t y) where
      -- what `tidy` asks
      pub relation_tidying : Sound (view rows after)
      relation_tidying = subst Sound (sym e) (rw er (through-sound p.sound through))

      -- the call
      pub relation_done : {x : Result Loaded Refusal} → x ≡ loaded_of y → (new : List ℕ) → Tidied (view rows after) (view rows new)
          → CallPost (relation t bs) old new (loaded_reply x)
      relation_done i new w =
          rw i (through-done p.sound tt (loaded_late y) through (rw (sym er) (subst (λ (v : View). Tidied v (view rows new)) e w)) refl)

-- ---- valid

module _ {old bs : List ℕ} {rows n : ℕ} (p : ValidReady old bs) (er : rows ≡ header_of old ROWS) (en : n ≡ header_of old BITS) where
  pub valid-asks : PairsPre (limits_of n rows rows 0) (view rows old) bs
  valid-asks =
      rw (er, en)
      (record { sound = p.sound; bits = refl; rows = refl; limit = omega arith; kind = Valid; is-pairs = refl; passed = p.passed })

  module _ (mid : List ℕ) {y : Result Taken Full} (d : PairsPost (limits_of n rows rows 0) (view rows old) (view rows mid) bs y) where
    fixed : PairsPost (limits_of (header_of old BITS) (header_of old ROWS) (header_of old ROWS) 0) (table_of old) (view (header_of old ROWS) mid)
        bs y
    fixed = rw (er, en) at d

    abbrev Y : View
    Y = view (header_of old ROWS) mid

    fixes : ValidEnds old p.sound Y fixed.sound.good fixed.frame bs p.free p.passed (result (made_in y)) (count_in y)
    fixes = fixed.evals Valid refl p.passed

    confines : Through old (valid bs) (confined_reply (confined_of y)) (valid_confined Y y)
    confines = go y fixes
      where
        go : (y : Result Taken Full)
            → ValidEnds old p.sound Y fixed.sound.good fixed.frame bs p.free p.passed (result (made_in y)) (count_in y)
            → Through old (valid bs) (confined_reply (confined_of y)) (valid_confined Y y)
        go (Ok o) e = valid-value old p.sound Y fixed.sound.good fixed.frame bs p.free p.passed o.arrow o.count e
        go (Err x) e = valid-full old p.sound Y fixed.sound.good fixed.frame bs p.free p.passed _ e

    -- what `store_valid` asks
    pub valid_storing : (words_for rows ≤ length mid) × Carries y
    valid_storing = rw er (fixed.sound.good.sizes.room, ends_carries _ y p.sound.good.sizes.N-max fixes)

    module _ (after : List ℕ) (e : view rows after ≡ valid_confined (view rows mid) y) where
      pub valid_tidying : Sound (view rows after)
      valid_tidying = subst Sound (sym e) (rw er (through-sound p.sound confines))

      pub valid_done : {x : Result (Unit {0}) Refusal} → x ≡ confined_of y → (new : List ℕ) → Tidied (view rows after) (view rows new)
          → CallPost (valid bs) old new (confined_reply x)
      valid_done i new w =
          rw i (through-done p.sound tt (confined-late y) confines (rw (sym er) (subst (λ (v : View). Tidied v (view rows new)) e w))
          refl)
