-- Laws of what specs/Post.antt defines. Assumes nothing.
use mathlib.Core.Path.{◌≡◌, refl, sym, ap, ◌∙◌, subst, fun_ext}
use mathlib.Core.Logic.{◌≢◌, by_cases}
use mathlib.Core.Bool.{Bool, true, false, cond, not, true≢false, Bool-discrete}
use Prim.Native.Nat.{ℕ, suc, ◌/◌, ◌≤◌, ◌<◌}
use native.Mathlib.Decide.{ℕ_discrete}
use native.Mathlib.Omega.{arith}
use Rattle.diagram.specs.Level.{Val, Fn, CofactorOf}
use Rattle.diagram.proofs.Level.{turn-back, Reads, Splits, splits_turn, part-cofactor, part_refl, part_trans, part_same}
use Rattle.diagram.proofs.Level.{part_of_turned, splits_low, splits_high}
use Rattle.diagram.specs.Rows.{Rows, marked, row, flip, level_of, den, WellFormed, Extends, Same, Adds}
use Rattle.diagram.proofs.Rows.{row-leads, row-arrow, leads-used, carry_arrow, marked-odd, even-marked}
use Rattle.diagram.proofs.Den.{den-row, den-flip}
use Rattle.diagram.proofs.Grow.{extends_refl, extends_trans, arrow_extends, den_extends, same_well_formed, adds_well_formed, put, put-adds}
use Rattle.diagram.specs.Used.{used_count}
use Rattle.diagram.proofs.Used.{used_count_extends}
use Rattle.diagram.proofs.Canon.{not-true, canonical, row-varies, reads_level}
use Rattle.diagram.specs.Post.{Result, at, full, Denotes, Full, Answers, OpPost, Plain, equal_arrows, found_row, added-row, no_row}
use Rattle.diagram.specs.Post.{flipped, Making, as_is, turned}

-- An arrow denotes in a larger table what it denoted.
pub denotes_extends : {m N : ℕ} {old new : Rows} {a : ℕ} {F : Fn} → WellFormed m N old → Extends old new → Denotes m old a F
    → Denotes m new a F
denotes_extends {m} {a = a} wf e d =
    record { arrow = arrow_extends e a d.arrow; same = λ v. den_extends e wf m a d.arrow v ∙ d.same v }

-- An arrow that is there already answers for its function.
pub post-arrow : {m N limit : ℕ} {rows : Rows} {a : ℕ} {F : Fn} → WellFormed m N rows → Denotes m rows a F
    → OpPost m N limit rows rows (at a) F
post-arrow {rows = rows} wf d = record {
  wf = wf;
  kept = extends_refl rows;
  fresh = λ i u n. absurd (true≢false (sym u ∙ n));
  result = d;
}

-- A promise for F is one for each function with the same values.
pub post_cong : {m N limit : ℕ} {before after : Rows} {answer : Result} {F G : Fn} → ((v : Val) → F v ≡ G v)
    → OpPost m N limit before after answer F → OpPost m N limit before after answer G
post_cong {m} {N} {limit} {before} {after} {answer} e p = subst (λ H. OpPost m N limit before after answer H) (fun_ext e) p

-- A full table is full for each function that has F as a cofactor.
pub post-full : {m N limit : ℕ} {before after : Rows} {F G : Fn} → CofactorOf G F → OpPost m N limit before after full F
    → OpPost m N limit before after full G
post-full c p =
    let r = p.result in
    record {
      wf = p.wf;
      kept = p.kept;
      fresh = λ i u n. part_trans (part-cofactor c) (p.fresh i u n);
      result =
          record {
            run_out = r.run_out;
            lost = r.lost;
            part = part_trans (part-cofactor c) r.part;
            varies = r.varies;
            absent = r.absent;
          };
    }

-- An operation for a cofactor G of F, and after it one for F, are one for F.
pub post_then : {m N limit : ℕ} {before mid after : Rows} {part answer : Result} {F G : Fn}
    → CofactorOf F G → OpPost m N limit before mid part G → OpPost m N limit mid after answer F → OpPost m N limit before after answer F
post_then {m} {mid = mid} c p q = record {
  wf = q.wf;
  kept = extends_trans p.kept q.kept;
  fresh = λ i u n. by_cases (Bool-discrete (mid.used i) true)
      (λ w. part_same (part_trans (part-cofactor c) (p.fresh i w n)) (den_extends q.kept p.wf m (row i) (row-arrow mid i w)))
      (λ w. q.fresh i u (not-true _ w));
  result = q.result;
}

-- An operation that then changes no row, as by remembering its result, is the same operation.
pub post-same : {m N limit : ℕ} {before mid after : Rows} {answer : Result} {F : Fn} → Same mid after → OpPost m N limit before mid answer F
    → OpPost m N limit before after answer F
post-same {m} {N} {limit} {mid = mid} {after = after} {answer = answer} {F = F} s p = record {
  wf = same_well_formed s p.wf;
  kept = extends_trans p.kept s.forth;
  fresh = λ i u n.
      let w = s.back.used i u in
      part_same (p.fresh i w n) (den_extends s.forth p.wf m (row i) (row-arrow mid i w));
  result = keeps answer p.result;
}
  where
    keeps : (o : Result) → Answers m N limit mid o F → Answers m N limit after o F
    keeps (at a) r = denotes_extends p.wf s.forth r
    keeps full r = record {
      run_out = let g = used_count_extends N s.forth in omega (arith, r.run_out, g);
      lost = r.lost;
      part = r.part;
      varies = r.varies;
      absent = λ a u e.
          let w = arrow_extends s.back a u in
          r.absent a w (λ v. sym (den_extends s.forth p.wf m a w v) ∙ e v);
    }

-- NOT of an arrow denotes the complement, and an operation for F, its answer turned, is one for the complement.
pub denotes-flip : {m : ℕ} {rows : Rows} {a : ℕ} {F : Fn} → Denotes m rows a F → Denotes m rows (flip a) (λ v. not (F v))
denotes-flip {m} {rows} {a} d = record { arrow = carry_arrow rows true a d.arrow; same = λ v. den-flip m rows a v ∙ ap not (d.same v) }

pub post-flip : {m N limit : ℕ} {before after : Rows} {answer : Result} {F : Fn} → OpPost m N limit before after answer F
    → OpPost m N limit before after (flipped answer) (λ v. not (F v))
post-flip {m} {N} {limit} {after = after} {answer = answer} {F = F} p =
    record { wf = p.wf; kept = p.kept; fresh = λ i u n. part_of_turned true (p.fresh i u n); result = turns answer p.result }
  where
    turns : (o : Result) → Answers m N limit after o F → Answers m N limit after (flipped o) (λ v. not (F v))
    turns (at a) r = denotes-flip r
    turns full r =
        record { run_out = r.run_out; lost = r.lost; part = part_of_turned true r.part; varies = r.varies; absent = r.absent }

-- A row whose arrows denote the two parts of F denotes F.
row-denotes : {m N : ℕ} {rows : Rows} {i l a b : ℕ} {F F0 F1 : Fn} → WellFormed m N rows → Splits m l F F0 F1
    → rows.used i ≡ true → rows.level i ≡ l → rows.low i ≡ a → rows.high i ≡ b
    → Denotes m rows a F0 → Denotes m rows b F1 → Denotes m rows (row i) F
row-denotes {rows = rows} {i = i} wf f u el ea eb d0 d1 = record {
  arrow = row-arrow rows i u;
  same = λ v.
      let s = den-row wf i u v in
      let e0 = d0.same v in
      let e1 = d1.same v in
      let p = f.same v in
      cc (s, e0, e1, p);
}

-- An arrow that denotes a function of levels from k on leads there.
denotes-level : {m N : ℕ} {rows : Rows} {a : ℕ} {F : Fn} (k : ℕ) → WellFormed m N rows → k ≤ m → Denotes m rows a F → Reads k m F
    → k ≤ level_of m rows a
denotes-level {a = a} k wf km d r =
    reads_level wf k a km d.arrow (λ v w h. d.same v ∙ r v w h ∙ sym (d.same w))

-- A choice between equal values.
cond_same : {A : Type 0} (b : Bool) (x : A) → cond b x x ≡ x
cond_same true x = refl
cond_same false x = refl

-- The making of a row over arrows that denote the two parts of F is an operation for F: first where the high arrow carries no NOT.
module _ {m N : ℕ} {before : Rows} {l a b : ℕ} {F F0 F1 : Fn} (wf : WellFormed m N before) (lm : l < m) (f : Splits m l F F0 F1)
    (d0 : Denotes m before a F0) (d1 : Denotes m before b F1) (pb : marked b ≡ false) where
  -- Once the row is added the table is well formed, and the row denotes F.
  grown : {N' : ℕ} {new : Rows} {i : ℕ} → Adds before new i l a b → i < N' → N ≤ N' → a ≢ b
      → ((j : ℕ) → before.used j ≡ true → before.level j ≡ l → before.low j ≡ a → before.high j ≡ b → ⊥) → WellFormed m N' new
  grown s room more ne fresh =
      adds_well_formed wf s room more lm d0.arrow d1.arrow (denotes-level (suc l) wf lm d0 f.reads0)
      (denotes-level (suc l) wf lm d1 f.reads1) ne pb fresh

  added-denotes : {N' : ℕ} {new : Rows} {i : ℕ} → Adds before new i l a b → WellFormed m N' new → Denotes m new (row i) F
  added-denotes s wf' =
      row-denotes wf' f s.used s.level s.low s.high (denotes_extends wf s.kept d0) (denotes_extends wf s.kept d1)

  -- Where no used row is that row, no arrow denotes F, and F is not constant: seen in the table with the row put at N.
  missing : {limit : ℕ} → a ≢ b → limit ≤ used_count before N
      → ((j : ℕ) → before.used j ≡ true → before.level j ≡ l → before.low j ≡ a → before.high j ≡ b → ⊥) → Full m N limit before F
  missing ne out_of_lem fresh =
      let out : before.used N ≡ false = not-true _ (λ u. let h = wf.bounded N u in omega arith) in
      let s = put-adds before N l a b out in
      let wf' = grown {N' = suc N} s (omega arith) (omega arith) ne fresh in
      let d = added-denotes s wf' in
      let y = row-varies wf' N s.used in
      record {
        run_out = out_of_lem;
        lost = F;
        part = part_refl F;
        varies = record { off = y.off; on = y.on; at_off = sym (d.same y.off) ∙ y.at_off; at_on = sym (d.same y.on) ∙ y.at_on };
        absent = λ c u e.
            let g : c ≡ row N =
            canonical wf' c (row N) (arrow_extends s.kept c u) (row-arrow (put before N l a b) N s.used)
            (λ v. den_extends s.kept wf m c u v ∙ e v ∙ sym (d.same v))
            in
            true≢false (sym (leads-used before c N (ap (λ x. x / 2) g ∙ row-leads N) u) ∙ out);
      }

  post-plain : {limit : ℕ} {after : Rows} {answer : Result} → Plain m N limit before after l a b answer
      → OpPost m N limit before after answer F
  post-plain (equal_arrows e s) =
      post-same s (post-arrow wf (record {
        arrow = d0.arrow;
        same = λ v.
            let e0 = d0.same v in
            let e1 = d1.same v in
            let c = cond_same (v l) (den m before a v) in
            let p = f.same v in
            cc (e, e0, e1, c, p);
      }))
  post-plain (found_row i u el ea eb s) = post-same s (post-arrow wf (row-denotes wf f u el ea eb d0 d1))
  post-plain {after = after} (added-row i room ne s fresh) =
      let wf' = grown s room (omega arith) ne fresh in
      let d = added-denotes s wf' in
      record {
        wf = wf';
        kept = s.kept;
        fresh = λ j u n. by_cases (ℕ_discrete j i)
            (λ e. part_same (part_refl F) (λ v. ap (λ k. den m after (row k) v) e ∙ d.same v))
            (λ h. absurd (true≢false (sym (s.only j u h) ∙ n)));
        result = d;
      }
  post-plain (no_row ne out_of_lem fresh s) =
      post-same s (record {
        wf = wf;
        kept = extends_refl before;
        fresh = λ i u n. absurd (true≢false (sym u ∙ n));
        result = missing ne out_of_lem fresh;
      })

-- Then with any arrows.
pub post-make : {m N limit : ℕ} {before after : Rows} {l a b : ℕ} {F F0 F1 : Fn} {answer : Result} → WellFormed m N before → l < m
    → Splits m l F F0 F1
    → Denotes m before a F0 → Denotes m before b F1 → Making m N limit before after l a b answer → OpPost m N limit before after answer F
post-make wf lm f d0 d1 (as_is pb r) = post-plain wf lm f d0 d1 pb r
post-make {m} {N} {limit} {before} {after} {b = b} {F = F} wf lm f d0 d1 (turned mb r e) =
    let odd = marked-odd b mb in
    let p = post-plain wf lm (splits_turn f true) (denotes-flip d0) (denotes-flip d1) (even-marked (flip b) (omega arith)) r in
    subst (λ o. OpPost m N limit before after o F) e (post_cong (λ v. turn-back true (F v)) (post-flip p))

-- What an operation does at level l, by the three ways out of it: the low part is computed, then the high part in the table that the
-- first left, then a row is made over the two answers. F0 is what the first call computes. F1 is what the second computes, and says it of
-- the table that it starts from.
pub data Run (m N limit : ℕ) (before after : Rows) (l : ℕ) (F0 : Fn) (F1 : Rows → Fn) : Result → Type 0 where
  low-full : OpPost m N limit before after full F0 → Run m N limit before after l F0 F1 full
  high-full : {mid : Rows} {a : ℕ} → OpPost m N limit before mid (at a) F0 → OpPost m N limit mid after full (F1 mid)
      → Run m N limit before after l F0 F1 full
  made : {mid high : Rows} {a b : ℕ} {answer : Result} → OpPost m N limit before mid (at a) F0 → OpPost m N limit mid high (at b) (F1 mid)
      → Making m N limit high after l a b answer → Run m N limit before after l F0 F1 answer

-- THE COMPOSITION that every operation shares: such a run is an operation for F, where F splits at level l, below m, into F0 and F1, and
-- larger tables do not change F1.
pub compose : {m N limit : ℕ} {before after : Rows} {l : ℕ} {F F0 : Fn} {F1 : Rows → Fn} {answer : Result}
    → l < m → Splits m l F F0 (F1 before) → ((mid : Rows) → Extends before mid → (v : Val) → F1 mid v ≡ F1 before v)
    → Run m N limit before after l F0 F1 answer → OpPost m N limit before after answer F
compose lm s stable (low-full p) = post-full (splits_low s) p
compose lm s stable (high-full {mid = mid} p q) =
    post_then (splits_low s) p (post-full (splits_high s) (post_cong (stable mid p.kept) q))
compose lm s stable (made {mid = mid} p q r) =
    let q' = post_cong (stable mid p.kept) q in
    post_then (splits_low s) p
    (post_then (splits_high s) q' (post-make q.wf lm s (denotes_extends p.wf q.kept p.result) q'.result r))
