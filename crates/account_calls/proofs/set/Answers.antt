-- `set`: where the list has the place its rounds are added, else the list stays. Assumes nothing.
use Rattle.std.proofs.Common.{◌≤◌, arith, get_or}
use Rattle.accounts.specs.Account.{tally_top}
use Rattle.accounts.specs.Listed.{none}
use Rattle.account_calls.proofs.Lists.{found, lost, termed}
use Rattle.account_calls.proofs.set.Goals as goal

pub returns-then-at-accounts : goal.returns-then-at-accounts
returns-then-at-accounts c =
    let bound : (get_or c.args.accounts.now c.args.place none).tally ≤ tally_top = omega arith in
    found _ _ _ _ _ _ _ c.set-x.result c.if-at-accounts.true bound
    (termed _ _ _ _ _ _ c.terms_at.ensures c.set-x.ensures) (rw c.rounds_of.ensures at c.add_rounds.ensures)

pub returns-else-at-accounts : goal.returns-else-at-accounts
returns-else-at-accounts c =
    lost _ _ _ _ _ _ _ c.set-x.result c.if-at-accounts.false (termed _ _ _ _ _ _ c.terms_at.ensures c.set-x.ensures)
