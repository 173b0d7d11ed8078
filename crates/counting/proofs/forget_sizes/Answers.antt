-- `forget_sizes`: the words from the first size on are 0, and those before it stay. Assumes nothing.
use Rattle.std.proofs.Common.{ℕ, ◌-◌, ◌<◌, length, arith, refl, ◌∙◌}
use Rattle.std.proofs.lemmas.List.{length-take, length-take-le, get_or-append_right, get_or_append_left}
use Rattle.std.proofs.lemmas.Slice.{take-put_mid_below}
use Rattle.std.proofs.Math.ListN.{length-drop}
use borrow.Rule.Slice.PartMut.{same_len_mid}
use Rattle.counting.specs.Sizes.{SIZES}
use Rattle.counting.proofs.forget_sizes.Goals as goal

pub returns : goal.returns
returns c =
    let n = c.requires in
    let old = c.args.counts.now in
    let len = c.fill.ensures.len in
    let zero = c.fill.ensures.clones in
    record {
      beside = record {
        size = same_len_mid SIZES (length old - SIZES) old c.fill.new.self len;
        first = take-put_mid_below SIZES (length old - SIZES) old c.fill.new.self SIZES (omega arith) (omega arith);
      };
      zeros = λ j a b.
          let part : j - SIZES < length c.fill.new.self = omega (arith, length-take {A = ℕ}, length-drop {A = ℕ}) in
          get_or-append_right _ _ SIZES j 0 (length-take-le SIZES old (omega arith)) a
          ∙ get_or_append_left c.fill.new.self _ 0 (j - SIZES) part
          ∙ zero (j - SIZES) 0 (omega arith) refl;
    }
