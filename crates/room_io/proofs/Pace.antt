-- How many turns there are: at most three for each byte brought and one more, and one that is the last.
-- What `serve` keeps while it makes them. Assumes nothing.
use mathlib.Core.Path.{◌≡◌, refl, sym, ap, ◌∙◌}
use mathlib.Core.Logic.{◌⊎◌, inl, inr, by_cases}
use mathlib.Core.Bool.{Bool, true, false, not}
use mathlib.Core.List.{List, []}
use Prim.Native.Nat.{ℕ, suc, ◌+◌, ◌*◌, ◌-◌, ◌≤◌, ◌<◌}
use native.Mathlib.Decide.{dec_lt}
use native.Mathlib.Omega.{arith}
use lib.ListN.{length, drop, length-append, length-drop}
use lib.Seq.{length-take-le}
use borrow.Author.Tests.{not-true, not-false}
use Rattle.records.proofs.Reading.{never}
use Rattle.rooms.specs.declared.Said.{Said}
use Rattle.rooms.specs.declared.Said.TheVariants.{Line, End, More, Room}
use Rattle.rooms.specs.Replies.{Replies}
use Rattle.rooms.proofs.Replies.{line-fits, more-fits, room_wanted}
use Rattle.rooms.specs.Whole.{zeros}
use Rattle.room_io.specs.declared.Progress.{Progress}
use Rattle.room_io.specs.Calls.{WriteSays}
use Rattle.room_io.specs.Places.{Placed, at_hand, unwritten, Turned}
use Rattle.room_io.specs.Served.{Way, going, State, start, way_after, Came, state_after, after_turn, Turns, none, more, endless, Served}
use Rattle.room_io.proofs.Text.{goes_on, done-ends, program_text, program_begins}

-- ---- the number of turns

-- a byte brought pays for the turn that brought it and for a line and a write; the end of the input is shown once
record Paced (k : ℕ) (s : State) : Type 0 where
  placed : Placed s.progress (length s.input) (length s.output)
  to_write : ℕ
  to_close : ℕ
  writes : 1 ≤ length (unwritten s.progress s.output) → 1 ≤ to_write
  closes : s.progress.ended ≡ false → 1 ≤ to_close
  pace : k + 2 * length (at_hand s.progress s.input) + to_write + to_close ≤ 3 * length s.brought + 1

module _ {k : ℕ} (s : State) (q : Progress) (v j u room : List ℕ) (f : Paced k s) (z : Placed q (length j) (length u)) where
  paced_turn : (r : Said)
      → Replies (at_hand s.progress s.input) s.progress.ended s.words v (drop s.progress.pending s.output) room r
      → (a : Came s q v j u room r) → way_after r q.done ≡ going → Paced (suc k) (state_after s q v j u room r a)
  paced_turn (Line used n) h (b, c, e, d) y =
      let g = line-fits h in
      record {
        placed = z;
        to_write = 1;
        to_close = f.to_close;
        writes = λ x. omega arith;
        closes = λ x. f.closes (sym e ∙ x);
        pace = omega (arith, f.pace, g.some-used, g.used-within, ap length b, length-drop used (at_hand s.progress s.input));
      }
  paced_turn (End n) h a y = never (cc)
  paced_turn More h (b, c) y = by_end q.ended refl
    where
      size : length (at_hand q j) ≡ length (at_hand s.progress s.input) + length b.bytes
      size = ap length b.follow ∙ length-append (at_hand s.progress s.input) b.bytes

      by_end : (e : Bool) → q.ended ≡ e → Paced (suc k) (state_after s q v j u room More (b, c))
      by_end true e = record {
        placed = z;
        to_write = f.to_write;
        to_close = 0;
        writes = λ x. f.writes (omega (arith, x, ap length c));
        closes = λ x. never (cc);
        pace = omega (arith, f.pace, f.closes (more-fits h).0, size, ap length (b.none e), length-append s.brought b.bytes);
      }
      by_end false e = record {
        placed = z;
        to_write = f.to_write;
        to_close = f.to_close;
        writes = λ x. f.writes (omega (arith, x, ap length c));
        closes = λ x. f.closes (more-fits h).0;
        pace = omega (arith, f.pace, size, b.some e, length-append s.brought b.bytes);
      }
  paced_turn Room h (b, c, e, w) y = record {
    placed = z;
    to_write = 0;
    to_close = f.to_close;
    writes = λ x. absurd (omega (arith, x, ap length c));
    closes = λ x. f.closes (sym e ∙ x);
    pace = omega (arith, f.pace, f.writes pending, ap length b);
  }
    where
      pending : 1 ≤ length (unwritten s.progress s.output)
      pending = by_cases (dec_lt 0 s.progress.pending)
          (λ l. omega (arith, l, length-take-le s.progress.pending s.output f.placed.waiting))
          (λ l. absurd (room_wanted h (omega (arith, l, f.placed.line, length-drop s.progress.pending s.output))))

paced : {w i o : List ℕ} {k : ℕ} {s : State} → Placed start (length i) (length o) → Turns w i o k s → s.way ≡ going → Paced k s
paced p none y =
    record { placed = p; to_write = 0; to_close = 1; writes = λ x. absurd (omega arith); closes = λ x. omega arith; pace = omega arith }
paced p (more {s = s} {q} {v} {j} {u} c n t) y =
    paced_turn s q v j u t.room (paced p c (goes_on c n)) t.placed t.reply t.answered t.after y

-- ---- the turns made so far

-- the turns that `serve` makes at most, 2^64 − 1
abbrev most : ℕ
most = 18_446_744_073_709_551_615

-- so far: the turns made and those left are 2^64 − 1
pub record Upto (w₀ i₀ o₀ : List ℕ) (left : ℕ) (p : Progress) (w i o : List ℕ) : Type 0 where
  pub made : ℕ
  pub brought : List ℕ
  pub handed : List ℕ
  pub way : Way
  pub chain : Turns w₀ i₀ o₀ made record { progress = p; words = w; input = i; output = o; brought = brought; handed = handed; way = way }
  pub sum : made + left ≡ most

pub upto-none : (w i o : List ℕ) → Upto w i o most start w i o
upto-none w i o = record { made = 0; brought = []; handed = []; way = going; chain = none; sum = omega arith }

pub upto_next : {w₀ i₀ o₀ w v i j o u : List ℕ} {left : ℕ} {p q : Progress} → Upto w₀ i₀ o₀ left p w i o → 0 < left → not p.done ≡ true
    → Turned p q w v i j o u
    → Upto w₀ i₀ o₀ (left - 1) q v j u
upto_next {w = w} {v = v} {i = i} {j = j} {o = o} {u = u} {p = p} {q = q} x h n t =
    let s = after_turn (record { progress = p; words = w; input = i; output = o; brought = x.brought; handed = x.handed; way = x.way })
    t in
    record {
      made = suc x.made;
      brought = s.brought;
      handed = s.handed;
      way = s.way;
      chain = more x.chain (not-true p.done n) t;
      sum = omega (arith, x.sum);
    }

pub upto-served : {w₀ i₀ o₀ w i o : List ℕ} {left : ℕ} {p : Progress} → w₀ ≡ zeros → Placed start (length i₀) (length o₀)
    → Upto w₀ i₀ o₀ left p w i o
    → (not p.done ≡ false) ⊎ (left ≤ 0) → {q : Progress} → WriteSays p q → Served w₀ w i₀ i o₀ o q
upto-served {w = w} {i = i} {o = o} {left = left} {p = p} e z x end says = record {
  turns = x.made;
  last = record { progress = p; words = w; input = i; output = o; brought = x.brought; handed = x.handed; way = x.way };
  chain = x.chain;
  words = refl;
  input = refl;
  output = refl;
  ended = spent end;
  begins = program_begins e x.chain;
  whole = program_text e x.chain;
  flushed = says;
}
  where
    spent : (not p.done ≡ false) ⊎ (left ≤ 0) → x.way ≡ going → endless ≤ length x.brought
    spent (inl n) y = absurd (done-ends x.chain (not-false p.done n) y)
    spent (inr h) y = let f = paced z x.chain y in omega (arith, x.sum, f.pace)
