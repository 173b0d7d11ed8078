-- Laws of what specs/Pairs.antt defines. Assumes nothing.
use mathlib.Core.Path.{◌≡◌, refl, sym, ap₂, ◌∙◌, subst}
use mathlib.Core.Bool.{Bool, true, false, ◌&&◌}
use mathlib.Core.List.{List}
use Prim.Native.Nat.{ℕ, ◌*◌}
use lib.Dec.{leb}
use Rattle.mucalculus.specs.Form.{bot, top}
use Rattle.diagram.specs.Level.{Fn}
use Rattle.diagram.specs.Need.{step_need}
use Rattle.diagram.specs.Rows.{Rows, WellFormed}
use Rattle.diagram.proofs.Den.{den-zero, den-one}
use Rattle.diagram.specs.Post.{Result, at, full as no_rows, Denotes}
use Rattle.diagram.specs.Keep.{Keeps}
use Rattle.diagram.proofs.Keep.{keeps_refl}
use Rattle.diagram.specs.Step.{StepPost}
use Rattle.accounts.specs.declared.Count.{Count}
use Rattle.accounts.specs.Count.{needing}
use Rattle.book.proofs.Bridge.{fn_of-holds}
use Rattle.book.specs.Run.{pair_f, pairs_fit, pairs_count}
use Rattle.book.specs.Held.{Held}
use Rattle.book.proofs.Held.{denotes-same, held-arrow, Needed, answered, held-need, step_fits}
use Rattle.book.specs.Pairs.{PairMatches, PairEvals}

module _ (n N : ℕ) where
  -- what stopped stays so
  pub pair-stop : {before after : Rows} {roots : List ℕ} {F : Fn} {e q : Count} (b c : Bool) (G : Fn) (d : Count)
      → PairEvals n N before after roots b F e no_rows q → PairEvals n N before after roots (b && c) G d no_rows q
  pair-stop {after = after} {F = F} {e} {q} b c G d p = record { wf = p.wf; kept = p.kept; result = go b p.result }
    where
      go : (b : Bool) → PairMatches n after b F e no_rows q → PairMatches n after (b && c) G d no_rows q
      go true m = absurd m
      go false m = tt

  -- what follows a value: its steps so far fit
  pub pair_then : {before mid after : Rows} {roots : List ℕ} {F G : Fn} {a : ℕ} {y : Result} {e d p q : Count} (b c : Bool)
      → PairEvals n N before mid roots b F e (at a) p
      → (Denotes (2 * n) mid a F → p ≡ e → PairEvals n N before after roots c G d y q) → PairEvals n N before after roots (b && c) G d y q
  pair_then true c d k = k d.result.0 d.result.1
  pair_then false c d k = absurd d.result

  module _ {before : Rows} {roots : List ℕ} {live : List Fn} (h : Held (2 * n) before roots live) where
    -- ---- the constants take no step

    pub pair-none : (limit : ℕ) (q : Count) → WellFormed (2 * n) N before
        → PairEvals n N before before roots (pairs_fit n limit live bot) (pair_f n bot) (pairs_count n live bot q) (at 0) q
    pair-none limit q wf = record {
      wf = wf;
      kept = keeps_refl wf (held-arrow h);
      result = (denotes-same (sym (fn_of-holds n bot)) (record { arrow = tt; same = λ v. den-zero (2 * n) before v }), refl);
    }

    pub pair-all : (limit : ℕ) (q : Count) → WellFormed (2 * n) N before
        → PairEvals n N before before roots (pairs_fit n limit live top) (pair_f n top) (pairs_count n live top q) (at 1) q
    pair-all limit q wf = record {
      wf = wf;
      kept = keeps_refl wf (held-arrow h);
      result = (denotes-same (sym (fn_of-holds n top)) (record { arrow = tt; same = λ v. den-one (2 * n) before v }), refl);
    }

    -- ---- a step after others

    -- p is what the code counted before it, which is what the book counts
    pub pair_step : {limit : ℕ} {mid after : Rows} {roots' : List ℕ} {live' : List Fn} {F : Fn} (G : Fn) (p c : Count) → p ≡ c
        → (Keeps mid after roots' → Keeps before after roots)
        → Held (2 * n) mid roots' live' → F ≡ G → (answer : Result) → StepPost (2 * n) N limit mid after roots' answer F → (k : ℕ)
        → Needed (2 * n) mid roots' F answer k
        → PairEvals n N before after roots (leb (step_need (2 * n) live' G) limit) G (needing c (step_need (2 * n) live' G)) answer
        (needing p k)
    pair_step {limit} {mid} {after} {roots'} {live'} G p c pc keeping g e answer s' k x' =
        subst (λ (b : Bool). PairEvals n N before after roots b G (needing c (step_need (2 * n) live' G)) answer (needing p k))
        (sym (step_fits n N g answer s)) (record {
          wf = s.wf;
          kept = keeping s.kept;
          result = go answer s x;
        })
      where
        s : StepPost (2 * n) N limit mid after roots' answer G
        s = subst (λ (H : Fn). StepPost (2 * n) N limit mid after roots' answer H) e s'

        x : Needed (2 * n) mid roots' G answer k
        x = subst (λ (H : Fn). Needed (2 * n) mid roots' H answer k) e x'

        go : (answer : Result) → StepPost (2 * n) N limit mid after roots' answer G → Needed (2 * n) mid roots' G answer k
            → PairMatches n after (answered answer) G (needing c (step_need (2 * n) live' G)) answer (needing p k)
        go (at a) q i = (q.result.0, ap₂ needing pc (i ∙ held-need g G))
        go no_rows q i = tt
