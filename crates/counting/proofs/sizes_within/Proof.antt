-- `sizes_within` meets its contract: the base's number and both lists' sizes bound what is live. Assumes nothing.
use mathlib.Core.Path.{◌∙◌}
use mathlib.Core.List.Memᴰ.{append_left}
use mathlib.Core.List.Memᴰ.{append_right}
use native.Mathlib.Omega.{arith}
use Rattle.counting.proofs.CountsLaws.{number-le}
use Rattle.counting.proofs.Bound.{within-yes, within-no}
use Rattle.counting.proofs.sizes_within.Statement.{statement}
use Rattle.counting.proofs.sizes_within.Tie as tie

pub sizes_within_spec : {M : Type 1} → statement M
sizes_within_spec =
    tie.close
    (tie.spec
    (λ c. let l = c.requires.1.base.size in omega arith)
    (λ c. let l = number-le c.requires.0.sound
    c.requires.1.base in omega arith)
    (λ c κs. (
      record {
        sound =
            c.requires.0.sound;
        arrows =
            λ a h. c.requires.0.arrows a
            (append_left c.args.more.now h);
      },
      c.requires.1,
    ))
    (λ c κs. (
      record {
        sound =
            c.requires.0.sound;
        arrows =
            λ a h. c.requires.0.arrows a
            (append_right c.args.roots.now h);
      },
      c.add_sizes-first.ensures.counts,
    ))
    (λ c. c.add_sizes-second.auto.counts
    ∙ c.add_sizes-first.auto.counts)
    (λ c. within-yes
    c.requires.0.sound
    c.requires.1
    c.add_sizes-first.ensures c.add_sizes-second.ensures
    c.if-second-most.true)
    (λ c. c.add_sizes-second.auto.counts
    ∙ c.add_sizes-first.auto.counts)
    (λ c. within-no c.add_sizes-second.ensures))
