-- `in_range`: a state passes where its bits from n on are 0, and so where it is below 2^n. Assumes nothing.
use Rattle.std.proofs.Common.{rules, Bool, true, false, ◌≡◌, ◌≢◌, ◌^◌, ◌/◌, arith}
use Rattle.std.proofs.lemmas.Iterator.{YieldsList-from_slice, cases_from_all}
use Rattle.std.specs.Bool.{MatchBool}
use borrow.Author.Tests.{tests}
use Rattle.rows.specs.Says.{Says, holds, fails}
use Rattle.calls.proofs.Questions.{state_in, state_out}
use Rattle.batch_calls.proofs.in_range.Goals as goal

told : {P Q R : Type 0} (r : Bool) → (P → R) → (Q → R → ⊥) → MatchBool r P Q → Says R r
told true f g m = holds (f m)
told false f g m = fails (g m)

pub returns : goal.returns
returns c =
    told _ (λ a i l. state_in _ _ (a i 0 (omega arith) l))
    (λ o b. omega (arith, state_out _ _ (o.2 0), b o.0 o.1))
    (cases_from_all _ _ _ (λ x. x / 2 ^ c.args.n ≡ 0) (λ x. x / 2 ^ c.args.n ≢ 0) c.all.ensures.ran
    (YieldsList-from_slice c.args.states.now cc) (λ x q k. search (rules, tests)) (λ x q k. search (rules, tests)))
