-- `free_rows` meets its contract: what is marked is what registers, relations and both lists reach, and that is what stays.
-- Assumes nothing.
use native.Mathlib.Omega.{arith}
use mathlib.Core.List.Memᴰ.{append_left}
use mathlib.Core.List.Memᴰ.{append_right}
use mathlib.Core.List.{◌++◌}
use Rattle.layout.specs.View.{view}
use Rattle.rows.specs.Bits.{MARK_WORDS}
use Rattle.rows.proofs.Bits.{no-marks}
use Rattle.collect.proofs.Lent.{more-marks}
use Rattle.collect.proofs.Answers.{sound-base, free-by}
use borrow.Author.Rules.{rules}
use Rattle.collect.proofs.free_rows.Statement.{statement}
use Rattle.collect.proofs.free_rows.Tie as tie

pub free_rows_spec : {M : Type 1} → statement M
free_rows_spec =
    tie.close
    (tie.spec
    (λ c. search rules)
    (λ c κs. let p = c.requires in (
      record { base = sound-base p.sound; order = omega arith; within = omega arith; ref = p.sound.refs },
      record {
        base = sound-base p.sound;
        arrow = λ a h. p.arrows a (append_left c.args.more.now h);
      },
    ))
    (λ c. search rules)
    (λ c κs. let p = c.requires in
    record {
      base = rw c.mark_roots.auto.marks (sound-base p.sound);
      arrow =
          λ a h. p.arrows a (append_right c.args.roots.now h);
    })
    (λ c. search rules)
    (λ c κs. search rules)
    (λ c. search rules)
    (λ c. free-by
    (view c.args.rows
    c.args.words.now) _ _ _ (no-marks MARK_WORDS) c.gather.ensures
    (c.args.roots.now
    ++ c.args.more.now)
    c.requires (more-marks _ _ _ c.mark_roots.ensures
    c.mark_list.ensures)))
