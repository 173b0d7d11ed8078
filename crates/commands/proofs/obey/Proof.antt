-- `obey` takes the command apart: each has its function, and a formula is the part from its start to the record's end.
-- Without a sound table it is `obey_unsound`. Assumes nothing.
use Rattle.rows.proofs.Says.{says_pass, says_fail}
use Rattle.commands.proofs.Obeyed.{obeys_as, starts_as}
use borrow.Author.Rules.{rules}
use Rattle.commands.proofs.obey.Statement.{statement}
use Rattle.commands.proofs.obey.Tie as tie

pub obey_spec : {M : Type 1} → statement M
obey_spec =
    tie.close
    (tie.spec
    (λ c κs. says_fail c.if-not-sound.true-raw c.requires.2)
    (λ c. search rules)
    (λ c. c.obey_unsound.ensures c.args.bytes.now
    c.args.size)
    (λ c. search rules)
    (λ c κs. search rules)
    (λ c. search rules)
    (λ c. starts_as c.in-Relation.is c.requires.0)
    (λ c. starts_as c.in-Relation.is c.requires.0)
    (λ c. search rules)
    (λ c κs. says_pass c.if-not-sound.false-raw
    c.requires.2)
    (λ c. search rules)
    (λ c. starts_as c.in-Set.is c.requires.0)
    (λ c. starts_as c.in-Set.is c.requires.0)
    (λ c. search rules)
    (λ c κs. says_pass c.if-not-sound.false-raw
    c.requires.2)
    (λ c. search rules)
    (λ c κs. says_pass c.if-not-sound.false-raw c.requires.2)
    (λ c. search rules)
    (λ c κs. says_pass c.if-not-sound.false-raw c.requires.2)
    (λ c. search rules)
    (λ c κs. says_pass c.if-not-sound.false-raw c.requires.2)
    (λ c. search rules)
    (λ c. obeys_as c.args.bytes.now
    c.args.size
    c.in-Fresh.is c.obey_fresh.ensures)
    (λ c. search rules)
    (λ c. obeys_as c.args.bytes.now
    c.args.size
    c.in-Relation.is c.obey_relation.ensures)
    (λ c. search rules)
    (λ c. obeys_as c.args.bytes.now
    c.args.size
    c.in-Set.is c.obey_set.ensures)
    (λ c. search rules)
    (λ c. obeys_as c.args.bytes.now
    c.args.size
    c.in-Clear.is c.obey_clear.ensures)
    (λ c. search rules)
    (λ c. obeys_as c.args.bytes.now
    c.args.size
    c.in-Count.is c.obey_count.ensures)
    (λ c. search rules)
    (λ c. obeys_as c.args.bytes.now
    c.args.size
    c.in-Collect.is c.obey_collect.ensures))
