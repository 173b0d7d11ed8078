-- `write_text`: the part written is the text's. Assumes nothing.
use Rattle.std.proofs.Common.{◌≡◌, ◌+◌, ◌-◌, length, refl, sym, append_assoc, drop-drop, arith}
use Rattle.std.proofs.lemmas.List.Edits.{sets-eq}
use Rattle.records.proofs.write_text.Goals as goal

pub returns : goal.returns
returns c =
    let n : c.args.at + length c.args.text.now - c.args.at ≡ length c.args.text.now = omega arith in
    record {
      contents =
          rw (n, c.copy_from_slice.ensures.after, drop-drop, ← append_assoc)
          (sym (sets-eq c.args.text.now c.args.out.now c.args.at c.requires));
      past = refl;
    }
