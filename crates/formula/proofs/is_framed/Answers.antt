-- `is_framed`: each early return contradicts a part of the frame; at the end the length decides. Assumes nothing.
use Rattle.std.proofs.Common.{arith}
use Rattle.formula.proofs.Frames.{framed-parts, framed-last, refuted}
use Rattle.formula.proofs.is_framed.Goals as goal

pub returns-then-bytes-le-START : goal.returns-then-bytes-le-START
returns-then-bytes-le-START c = refuted _ (λ w. let p = framed-parts c.args.bytes.now w in omega arith)

pub returns-then-size-lt-LEAST : goal.returns-then-size-lt-LEAST
returns-then-size-lt-LEAST c = refuted _ (λ w. let p = framed-parts c.args.bytes.now w in omega arith)

pub returns-then-size-gt-MOST : goal.returns-then-size-gt-MOST
returns-then-size-gt-MOST c = refuted _ (λ w. let p = framed-parts c.args.bytes.now w in omega arith)

pub returns : goal.returns
returns c = rw (c.from.ensures, c.from-2.ensures) (framed-last c.args.bytes.now (omega arith) (omega arith))
