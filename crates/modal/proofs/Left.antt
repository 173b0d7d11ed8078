-- The EXISTS that are left of a diamond's product, at once: where each needs at most the limit and the peak so far, the answer and the
-- count are those of the chain. Assumes nothing.
use Rattle.std.specs.Prelude.{Result}
use mathlib.Core.Path.{◌≡◌, refl, sym, ap, ◌∙◌, subst, fun_ext}
use mathlib.Core.Logic.{⊎_elim}
use mathlib.Core.Bool.{Bool, true, false, ◌&&◌, cond, true≢false}
use mathlib.Core.List.Memᴰ.{cases_cons as mem-cases}
use mathlib.Core.List.Memᴰ.{head as here}
use mathlib.Core.List.Memᴰ.{tail as there}
use mathlib.Core.List.{List, [], ◌∷◌, map}
use mathlib.Core.List.Memᴰ.{append_right}
use mathlib.Core.List.Memᴰ.{cast as mem_cast}
use mathlib.Core.List.Memᴰ.{map as mem-map}
use mathlib.Core.List.Memᴰ.{not-nil as mem-nil}
use Prim.Native.Nat.{ℕ, zero, suc, ◌+◌, ◌-◌, ◌*◌, ◌≤◌, ◌<◌, max, min}
use native.Mathlib.Omega.{arith}
use lib.Dec.{T, leb, leb→le}
use borrow.Author.Tests.{le-leb}
use Rattle.accounts.specs.declared.Count.{Count}
use Rattle.accounts.specs.Count.{needing}
use Rattle.layout.specs.Places.{BITS}
use Rattle.layout.specs.View.{View}
use Rattle.diagram.specs.Level.{Fn}
use Rattle.diagram.specs.Rows.{Rows, Arrow, den, WellFormed}
use Rattle.diagram.specs.Count.{Within}
use Rattle.diagram.specs.Need.{step_need}
use Rattle.diagram.proofs.Needed.{need_mono}
use Rattle.diagram.proofs.Reach.{den_reads_all}
use Rattle.diagram.proofs.Grow.{den_extends}
use Rattle.diagram.specs.Post.{at, Denotes}
use Rattle.diagram.specs.Keep.{Keeps}
use Rattle.diagram.proofs.Keep.{keeps_arrow, keeps_trans, extends_keeps}
use Rattle.diagram.specs.Steps.{exists_f}
use Rattle.diagram.specs.Odd.{exists_from, odd_f}
use Rattle.diagram.specs.Blind.{Blind}
use Rattle.diagram.proofs.Blind.{blind_reads, blind-more, blind-same, exists-blind, from_unread}
use Rattle.rows.specs.Used.{rows_of}
use Rattle.rows.specs.Filled.{filled}
use Rattle.table.proofs.Keep.{sound_extends}
use Rattle.std.specs.Prelude.{Option, Some}
use Rattle.collect.specs.Lent.{live}
use Rattle.operations.specs.Odd.{Grown}
use Rattle.steps.specs.declared.Step.TheVariants.{Exists}
use Rattle.steps.specs.Steps.{StepPre, Stepped, step_f, live_at}
use Rattle.table.specs.declared.Full.{Full}
use Rattle.counting.specs.Taken.{taken, ran_out, made_in, Counted}
use Rattle.counting.specs.declared.Taken.{Taken}
use Rattle.stages.specs.Left.{LeftFits}
use Rattle.stages.specs.Rest.{RestPre, RestPost}
use Rattle.book.specs.Ticks.{exists_needs, counted, full as full_verdict}
use Rattle.book.specs.Run.{value, exists_steps, needing_all, fit}
use Rattle.book.specs.Diamond.{exists_next}
use Rattle.book.proofs.Verdicts.{settle}
use Rattle.book.specs.Held.{Held}
use Rattle.book.proofs.Held.{denoted}
use Rattle.book.specs.Pairs.{PairMatches}
use Rattle.book.proofs.Modal.{Quantifies}
use Rattle.modal.specs.Chain.{Moved}
use Rattle.modal.proofs.Chain.{moved_trans, base-next, base-wf, base-bits, Took, took}
use Rattle.modal.specs.Modal.{QuantifyPre, QuantifyPost}
use Rattle.modal.proofs.Laws.{Quantified, quantify-begins, quantify-base, quantify-asks, quantify-turns, quantify-full}
use Rattle.modal.proofs.Laws.{quantify-ends, held_moved, fit-steps, fit-true, at_own}

-- the chain of EXISTS is EXISTS from the last odd level down
next-from : (j d : ℕ) (C : Fn) → exists_next j (exists_from d j C) ≡ exists_from (j + d) 0 C
unfolding exists_next exists_from
next-from zero d C = let e : 0 + d ≡ d = omega arith in rw e
next-from (suc j) d C = let e : suc j + d ≡ j + suc d = omega arith in rw e (next-from j (suc d) C)

next-is : (n : ℕ) (C : Fn) → exists_next n C ≡ exists_from n 0 C
unfolding exists_from
next-is n C = next-from n 0 C ∙ (let e : n + 0 ≡ n = omega arith in ap (λ (k : ℕ). exists_from k 0 C) e)

-- so, of a function that does not read the other odd levels, EXISTS at every one
next-odd : (j : ℕ) (F : Fn) → j ≤ 16 → Blind j F → exists_next j F ≡ odd_f F
next-odd j F h b = next-is j F ∙ sym (from_unread {f = F} j 16 0 h (blind-more {f = F} j (j + 0) (omega arith) b))

-- needs up to the peak so far raise nothing
needing-none : (ks : List ℕ) (q : Count) → fit q.peak ks ≡ true → needing_all q ks ≡ q
needing-none [] q e = refl
needing-none (k ∷ ks) q e = go (leb k q.peak) refl (needing-none ks q) e
  where
    same : k ≤ q.peak → needing q k ≡ q
    same l = let m : max q.peak k ≡ q.peak = omega (arith, l) in ap (λ (p : ℕ). record { rounds = q.rounds; peak = p }) m

    go : (b : Bool) → leb k q.peak ≡ b → (fit q.peak ks ≡ true → needing_all q ks ≡ q) → (b && fit q.peak ks) ≡ true
        → needing_all (needing q k) ks ≡ q
    go true u rest v = ap (λ (c : Count). needing_all c ks) (same (leb→le k q.peak (subst T (sym u) tt))) ∙ rest v
    go false u rest v = absurd (true≢false (sym v))

-- what is held is among what the roots denote
held-among : {m : ℕ} {rows : Rows} {roots : List ℕ} {fs : List Fn} → Held m rows roots fs → Within fs (map (den m rows) roots)
held-among {m} {rows} {roots} h f mf = let (b, mb, d) = h.each f mf in mem_cast (sym (denoted d)) (mem-map (den m rows) mb)

-- the needs left fit any number that is not less
module _ (n a left most : ℕ) {rows : Rows} {roots : List ℕ} {fs : List Fn} (h : Held (2 * n) rows roots fs)
    (l : LeftFits (2 * n) rows roots a left most) (top : ℕ) (le : most ≤ top) where
  fits-from : (d j : ℕ) → d + j ≡ left → fit top (exists_needs n fs j (exists_from d j (den (2 * n) rows a))) ≡ true
  unfolding exists_from
  fits-from d zero e = refl
  fits-from d (suc j) e =
      let G : Fn = exists_from d (suc j) (den (2 * n) rows a) in
      let H : Fn = exists_from (suc d) j (den (2 * n) rows a) in
      let two : Within (H ∷ G ∷ fs) (H ∷ G ∷ map (den (2 * n) rows) roots) = λ f i.
      ⊎_elim (λ q. here q) (λ t. ⊎_elim (λ q. there (here q)) (λ u. there (there (held-among h f u))) (mem-cases t)) (mem-cases i)
      in
      let k = need_mono (2 * n) (H ∷ G ∷ fs) (H ∷ G ∷ map (den (2 * n) rows) roots) two in
      let z = l d j (omega arith) in
      rw (le-leb (step_need (2 * n) (G ∷ fs) H) top (omega (arith, k, z, le))) (fits-from (suc d) j (omega arith))

  fits-left : fit top (exists_needs n fs left (den (2 * n) rows a)) ≡ true
  unfolding exists_from
  fits-left = fits-from 0 left (omega arith)

-- steps that fit, and do not pass what is counted, leave the count
steps-left : (n limit j : ℕ) (fs : List Fn) (F : Fn) (r : Count) → fit limit (exists_needs n fs j F) ≡ true
    → fit r.peak (exists_needs n fs j F) ≡ true
    → exists_steps n limit fs j F r (λ c. value [] c) ≡ value [] r
steps-left n limit j fs F r e f =
    fit-steps n limit fs j F r
    ∙ ap (λ (b : Bool). settle [] (cond b (counted (needing_all r (exists_needs n fs j F))) full_verdict)) e
    ∙ ap (value []) (needing-none (exists_needs n fs j F) r f)

-- the product reads no level that is not there; one EXISTS more is one odd level less
module _ {n N limit : ℕ} {W : View} {lent : List ℕ} {a : ℕ} (p : QuantifyPre n N limit W lent a) where
  pub blind-begins : Blind n (den (2 * n) (rows_of W) a)
  blind-begins = blind_reads {f = den (2 * n) (rows_of W) a} n (omega arith) (den_reads_all (base-wf p.base) a p.operand)

  module _ {X : View} {q r : Count} {j c : ℕ} (i : Quantified n N limit W X lent a q j c r) (b : Blind j (den (2 * n) (rows_of X) c)) where
    pub blind-turns : {Y : View} {o : Result Taken Full} {d : ℕ} {m : Count} → 0 < j
        → Took n N limit X Y (c ∷ live X lent) r o (exists_f (2 * (j - 1) + 1) (den (2 * n) (rows_of X) c)) → o ≡ taken d m
        → Blind (j - 1) (den (2 * n) (rows_of Y) d)
    blind-turns {Y} {o} {d} {m} l s e =
        let k : ℕ = j - 1 in
        let C : Fn = den (2 * n) (rows_of X) c in
        let t = (rw e at s).post.result.0 in
        let odd : 2 * k + 1 ≡ suc (2 * k) = omega arith in
        let bc : Blind (suc k) C = subst (λ (x : ℕ). Blind x C) (omega arith) b in
        blind-same {f = exists_f (suc (2 * k)) C} k (λ v. t.same v ∙ ap (λ (x : ℕ). exists_f x C v) odd) (exists-blind {f = C} k bc)

    -- what `rest` asks
    pub rest-asks : j ≤ n → RestPre n N limit X lent c j
    rest-asks l = record {
      ready = (quantify-base p i).ready;
      sound = (quantify-base p i).sound;
      arrows = λ x h. keeps_arrow (at_own p i).kept x (append_right (filled W) h);
      arrow = (at_own p i).denotes.arrow;
      blind = b;
      fewer = l;
    }

    -- and what it leaves: the loop goes on in a larger table, or ends
    module _ {Y : View} (g : Grown (2 * n) X Y) where
      grown-moved : Moved n X Y
      grown-moved = record {
        sound =
            sound_extends (quantify-base p i).sound g.good
            (g.frame.header BITS (omega arith) (omega arith) (omega arith) (omega arith))
            (λ h x l. g.frame.header h (omega arith) (omega arith) (omega arith) (omega arith)) g.kept;
        memory = g.memory;
        frame = g.frame;
      }

      both : Moved n W Y
      both = moved_trans i.moved grown-moved

      same : den (2 * n) (rows_of Y) c ≡ den (2 * n) (rows_of X) c
      same = fun_ext (den_extends g.kept (base-wf (quantify-base p i)) (2 * n) c (at_own p i).denotes.arrow)

      wf : WellFormed (2 * n) N (rows_of Y)
      wf = base-wf (base-next p.base both)

      on : Keeps (rows_of X) (rows_of Y) (live W lent)
      on = extends_keeps (base-wf (quantify-base p i)) (λ x h. keeps_arrow (at_own p i).kept x h) g.kept

      pub grown-on : Quantified n N limit W Y lent a q j c r
      grown-on = record {
        moved = both;
        steps = λ fs h.
            let t = i.steps fs h in
            record {
              F = t.F;
              wf = wf;
              kept = keeps_trans t.kept on;
              denotes = record { arrow = keeps_arrow one c (here refl); same = λ v. ap (λ (f : Fn). f v) same ∙ t.denotes.same v };
              rest = t.rest;
              steps = t.steps;
            };
      }
        where
          one : Keeps (rows_of X) (rows_of Y) (c ∷ [])
          one = extends_keeps (base-wf (quantify-base p i))
              (λ x h. ⊎_elim (λ e. subst (Arrow (rows_of X)) (sym e) (at_own p i).denotes.arrow) (λ z. absurd (mem-nil z)) (mem-cases h))
              g.kept

      pub grown-blind : Blind j (den (2 * n) (rows_of Y) c)
      grown-blind = subst (Blind j) (sym same) b

    pub rest-ends : {Y : View} {o : Option ℕ} {v : ℕ} → j ≤ n → RestPost n X Y lent c j (min r.peak limit) o → o ≡ Some v
        → QuantifyPost n N limit W Y lent a q (taken v r)
    rest-ends {Y} {o} {v} le s e fs h = record {
      moved = both s.grown;
      evals = record {
        wf = wf s.grown;
        kept = keeps_trans t.kept (on s.grown);
        result =
            subst (λ (x : Bool). PairMatches n (rows_of Y) x (exists_next n C) (needing_all q (exists_needs n fs n C)) (at v) r) (sym fits.0)
            (denotes, fits.1);
      };
    }
      where
        C : Fn
        C = den (2 * n) (rows_of W) a

        t : Quantifies n N limit (rows_of W) (rows_of X) (live W lent) fs C q j c r
        t = i.steps fs h

        held : Held (2 * n) (rows_of Y) (live Y lent) fs
        held = held_moved lent (both s.grown) (keeps_trans t.kept (on s.grown)) h

        here-is : den (2 * n) (rows_of Y) c ≡ t.F
        here-is = same s.grown ∙ denoted t.denotes

        left : (top : ℕ) → min r.peak limit ≤ top → fit top (exists_needs n fs j t.F) ≡ true
        left top l =
            subst (λ (f : Fn). fit top (exists_needs n fs j f) ≡ true) here-is
            (fits-left n c j (min r.peak limit) held (s.fits v e) top l)

        fits : (fit limit (exists_needs n fs n C) ≡ true) × (r ≡ needing_all q (exists_needs n fs n C))
        fits = fit-true (fit limit (exists_needs n fs n C)) r (needing_all q (exists_needs n fs n C))
            (sym (t.steps (λ z. value [] z) ∙ steps-left n limit j fs t.F r (left limit (omega arith)) (left r.peak (omega arith)))
            ∙ fit-steps n limit fs n C q)

        denotes : Denotes (2 * n) (rows_of Y) v (exists_next n C)
        denotes =
            let d = s.value v e in
            let bits = base-bits p.base in
            let f : odd_f (den (2 * n) (rows_of X) c) ≡ exists_next n C =
            ap odd_f (denoted t.denotes) ∙ sym (next-odd j t.F (omega arith) (subst (Blind j) (denoted t.denotes) b))
            ∙ sym t.rest
            in
            subst (Denotes (2 * n) (rows_of Y) v) f d

-- ---- the loop of EXISTS, with what `rest` asks: its invariant, and what each call and each return gives
pub record Stands (n N limit : ℕ) (W X : View) (lent : List ℕ) (a : ℕ) (q : Count) (j c : ℕ) (r : Count) : Type 0 where
  pub done : Quantified n N limit W X lent a q j c r
  pub blind : Blind j (den (2 * n) (rows_of X) c)
  pub fewer : j ≤ n

module _ {n N limit : ℕ} {W : View} {lent : List ℕ} {a : ℕ} (p : QuantifyPre n N limit W lent a) where
  pub stands-begins : (q : Count) → Stands n N limit W W lent a q n a q
  stands-begins q = record { done = quantify-begins p q; blind = blind-begins p; fewer = omega arith }

  module _ {X : View} {q r : Count} {j c : ℕ} (i : Stands n N limit W X lent a q j c r) where
    pub stands-asks : 0 < j → StepPre (2 * n) N limit X lent (Exists (2 * (j - 1) + 1) c)
    stands-asks less = quantify-asks p i.done (omega (arith, i.fewer))

    module _ {Y : View} {o : Result Taken Full} (less : 0 < j)
        (s : Stepped (2 * n) N limit X Y lent (Exists (2 * (j - 1) + 1) c) (made_in o))
        (k : Counted (2 * n) (rows_of X) (live_at X lent (Exists (2 * (j - 1) + 1) c)) (step_f (2 * n) (rows_of X) (Exists (2 * (j - 1) + 1) c))
        r o) where
      step : Took n N limit X Y (c ∷ live X lent) r o (exists_f (2 * (j - 1) + 1) (den (2 * n) (rows_of X) c))
      step = took (quantify-base p i.done) (stands-asks less) s k

      pub stands-full : o ≡ ran_out → QuantifyPost n N limit W Y lent a q ran_out
      stands-full e = quantify-full p i.done less step e

      pub stands-turns : {d : ℕ} {m : Count} → o ≡ taken d m → Stands n N limit W Y lent a q (j - 1) d m
      stands-turns e =
          record {
            done = quantify-turns p i.done less step e;
            blind = blind-turns p i.done i.blind less step e;
            fewer = omega (arith, i.fewer);
          }

    pub stands-rest : RestPre n N limit X lent c j
    stands-rest = rest-asks p i.done i.blind i.fewer

    pub stands-grown : {Y : View} → Grown (2 * n) X Y → Stands n N limit W Y lent a q j c r
    stands-grown g = record { done = grown-on p i.done i.blind g; blind = grown-blind p i.done i.blind g; fewer = i.fewer }

    pub stands-found : {Y : View} {o : Option ℕ} {v : ℕ} → RestPost n X Y lent c j (min r.peak limit) o → o ≡ Some v
        → QuantifyPost n N limit W Y lent a q (taken v r)
    stands-found s e = rest-ends p i.done i.blind i.fewer s e

    pub stands-ends : j ≤ 0 → QuantifyPost n N limit W X lent a q (taken c r)
    stands-ends z = quantify-ends p i.done z
