-- Laws of what specs/Store.antt defines. Assumes nothing.
use Rattle.std.specs.Prelude.{Result, Ok, Err}
use mathlib.Core.Path.{◌≡◌, refl, sym, ap, ◌∙◌, subst}
use mathlib.Core.List.{List}
use Prim.Native.Nat.{ℕ, zero, suc, ◌+◌, ◌≤◌, ◌<◌}
use native.Mathlib.Omega.{arith}
use lib.Dec.{T}
use lib.ListN.{length}
use Rattle.std.specs.Prelude.{Result, Ok, Err}
use Rattle.accounts.specs.declared.Terms.{Terms}
use Rattle.accounts.specs.Terms.{rows_under, rounds_under}
use Rattle.accounts.specs.declared.Count.{Count}
use Rattle.layout.specs.Refusals.{keeps_all}
use Rattle.layout.specs.Places.{REGISTERS, MAX_ROWS, BITS, ROWS, words_for, VALID, FIRST_REGISTER, FIRST_RELATION}
use Rattle.layout.specs.View.{View, view, header_of, put_header}
use Rattle.layout.specs.declared.Refusal.{Refusal}
use Rattle.layout.specs.declared.Refusal.TheVariants as refusal
use Rattle.diagram.specs.Rows.{Rows, target, Arrow, ArrowTo, WellFormed}
use Rattle.rows.specs.Sound.{Sound, table_of}
use Rattle.table.specs.declared.Full.{Full}
use Rattle.counting.specs.Taken.{taken, ran_out}
use Rattle.counting.specs.declared.Taken.{Taken}
use Rattle.book.specs.Book.{set}
use Rattle.book.specs.Run.{Outcome, value, full as no_rows, spent}
use Rattle.book.specs.Follow.{Evals}
use Rattle.contract.specs.Posts.{CallPost}
use Rattle.modal.specs.declared.Limits.{Limits}
use Rattle.evaluator.specs.Scene.{evaluated}
use Rattle.evaluator.specs.Scene.{ended_of}
use Rattle.evaluator.specs.Whole.{SetPre, SetPost}
use Rattle.evaluator.specs.declared.Stopped.{Stopped}
use Rattle.evaluator.specs.declared.Value.{Value}
use Rattle.evaluator.specs.declared.Stopped.TheVariants as stopped
use Rattle.formula_steps.specs.Evaluated.{Tidied}
use Rattle.formula_steps.proofs.Ends.{Through, through-sound, through-done, SetEnds, set_value, set_full, set-spent}
use Rattle.formula_steps.specs.Replies.{stored_reply, loaded_reply, confined_reply}
use Rattle.formula_steps.specs.declared.Stored.{Stored}
use Rattle.formula_steps.specs.Store.{Holds, stored_of, set_stored, Carries, loaded_of, relation_loaded, confined_of, valid_confined}
use Rattle.formula_steps.specs.Store.{SetReady}

-- none ends in one of the checks' numbers
stored-late : (y : Result Value Stopped) → T (keeps_all (stored_reply (stored_of y)).number) → ⊥
stored-late (Ok v) h = h
stored-late (Err stopped.Full) h = h
stored-late (Err stopped.Spent) h = h

pub loaded_late : (y : Result Taken Full) → T (keeps_all (loaded_reply (loaded_of y)).number) → ⊥
loaded_late (Ok t) h = h
loaded_late (Err x) h = h

pub confined-late : (y : Result Taken Full) → T (keeps_all (confined_reply (confined_of y)).number) → ⊥
confined-late (Ok t) h = h
confined-late (Err x) h = h

-- an arrow's word fits
fits-to : {m N : ℕ} {rows : Rows} → WellFormed m N rows → N ≤ MAX_ROWS → (a k : ℕ) → target a ≡ k → ArrowTo rows k → suc a < 4_294_967_296
fits-to wf l a zero e u = omega arith
fits-to wf l a (suc i) e u = let h = wf.bounded i u in omega arith

pub arrow-fits : {m N : ℕ} {rows : Rows} → WellFormed m N rows → N ≤ MAX_ROWS → (a : ℕ) → Arrow rows a → suc a < 4_294_967_296
arrow-fits wf l a u = fits-to wf l a (target a) refl u

ends-holds : {n N : ℕ} {before after : Rows} {roots : List ℕ} (o : Outcome) (y : Result Value Stopped) → N ≤ MAX_ROWS
    → Evals n N before after roots o (ended_of y) → Holds y
ends-holds (value A p) (Ok v) l d = arrow-fits d.wf l v.arrow d.result.0.arrow
ends-holds no_rows (Ok v) l d = absurd d.result
ends-holds spent (Ok v) l d = absurd d.result
ends-holds o (Err s) l d = tt

-- ---- the steps of `set_steps`: `rows`, `n` and `R` are what the code reads and hands on

abbrev pub limits_of : ℕ → ℕ → ℕ → ℕ → Limits
limits_of n rows limit R = record { bits = n; rows = rows; limit = limit; rounds = R }

abbrev limits_under : ℕ → ℕ → ℕ → Terms → Limits
limits_under n rows R acc = limits_of n rows (rows_under rows acc) (rounds_under R acc)

module _ {old bs : List ℕ} {acc : Terms} {r rows n limit most : ℕ} (p : SetReady acc r old bs) (er : rows ≡ header_of old ROWS)
    (R : ℕ) (el : limit ≡ rows_under rows acc) (em : most ≡ rounds_under R acc) where
  pub set-asks : n ≡ header_of old BITS → SetPre (limits_of n rows limit most) (view rows old) bs
  set-asks en = rw (el, er) (record { sound = p.sound; bits = en; rows = refl; limit = omega arith; passed = p.passed })

  module _ (mid : List ℕ) {y : Result Value Stopped} (d : SetPost (limits_of n rows limit most) (view rows old) (view rows mid) bs y) where
    post : SetPost (limits_under n (header_of old ROWS) R acc) (table_of old) (view (header_of old ROWS) mid) bs y
    post = rw er at (rw (el, em) at d)

    through : Through old (set acc r R bs) (stored_reply (stored_of y)) (set_stored (view (header_of old ROWS) mid) r y)
    through = go y post.evals
      where
        X : View
        X = view (header_of old ROWS) mid

        go : (y : Result Value Stopped)
            → SetEnds old p.sound X post.sound.good post.frame acc r R bs p.range p.listed p.passed (ended_of y)
            → Through old (set acc r R bs) (stored_reply (stored_of y)) (set_stored X r y)
        go (Ok v) e =
            set_value old p.sound X post.sound.good post.frame acc r R bs p.range p.listed p.passed v.arrow v.count e
        go (Err stopped.Full) e = set_full old p.sound X post.sound.good post.frame acc r R bs p.range p.listed p.passed e
        go (Err stopped.Spent) e = set-spent old p.sound X post.sound.good post.frame acc r R bs p.range p.listed p.passed e

    -- what `store_set` asks
    pub set_storing : (r < REGISTERS) × (words_for rows ≤ length mid) × Holds y
    set_storing = rw er (p.range, post.sound.good.sizes.room, ends-holds _ y p.sound.good.sizes.N-max post.evals)

    module _ (after : List ℕ) (e : view rows after ≡ set_stored (view rows mid) r y) where
      -- what `tidy` asks
      pub set_tidying : Sound (view rows after)
      set_tidying = subst Sound (sym e) (rw er (through-sound p.sound through))

      -- the call
      pub set_done : {x : Result Stored Refusal} → x ≡ stored_of y → (new : List ℕ) → Tidied (view rows after) (view rows new)
          → CallPost (set acc r R bs) old new (stored_reply x)
      set_done i new t =
          rw i (through-done p.sound tt (stored-late y) through (rw (sym er) (subst (λ (v : View). Tidied v (view rows new)) e t)) refl)
