-- `forget` meets its contract: the active slots are emptied, and so are the keys of the listed rows, which are the used ones.
-- Assumes nothing.
use native.Mathlib.Omega.{arith}
use Rattle.memory.proofs.ForgetLaws.{forget-room, forget-list, forgot_by}
use borrow.Author.Rules.{rules}
use Rattle.memory.proofs.forget.Statement.{statement}
use Rattle.memory.proofs.forget.Tie as tie

pub forget_spec : {M : Type 1} → statement M
forget_spec =
    tie.close
    (tie.spec
    (λ c κs. search rules)
    (λ c κs. search rules)
    (λ c κs. search rules)
    (λ c κs. search rules)
    (λ c κs. (
      omega arith,
      (let e = c.first_slots-slots.ensures in omega arith),
      forget-room _ c.requires
          c.put_header.ensures
          c.put_header-2.ensures,
    ))
    (λ c κs. let g =
    c.requires in let z =
    g.sizes in let r =
    g.ranked.count-le in let e =
    c.header_word-used.ensures in let a =
    c.put_header.auto.words in let b =
    c.put_header-2.auto.words in let d =
    c.empty_slots.auto.words in (
      omega arith,
      omega arith,
      λ k h. forget-list _
          c.requires c.put_header.ensures
          c.put_header-2.ensures
          c.header_word-used.ensures c.empty_slots.ensures h,
    ))
    (λ c. search rules)
    (λ c. forgot_by
    c.header_word-used.ensures
    c.first_slots-slots.ensures
    c.put_header.ensures c.put_header-2.ensures
    c.empty_slots.ensures c.forget_rows.ensures))
