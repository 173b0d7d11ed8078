-- A look at the EXISTS left: the counts of a survey that began with no bit bound their needs. Assumes nothing.
use mathlib.Core.Path.{◌≡◌, refl, sym, subst}
use mathlib.Core.Logic.{inl, inr, ⊎_elim}
use mathlib.Core.List.Memᴰ.{append_cases}
use mathlib.Core.List.Memᴰ.{not-nil as mem-nil}
use mathlib.Core.List.{List, [], ◌++◌, map, Memᴰ as Mem}
use mathlib.Core.List.Memᴰ.{append_left}
use mathlib.Core.List.Memᴰ.{append_right}
use mathlib.Core.List.Memᴰ.{map as mem-map}
use mathlib.Core.List.Memᴰ.{of_map as mem-of-map}
use Prim.Native.Nat.{ℕ, zero, suc, ◌*◌, ◌≤◌}
use native.Mathlib.Omega.{arith}
use lib.ListN.{length, replicate, length-replicate}
use Rattle.diagram.specs.Rows.{Rows, target, Leads, row, den}
use Rattle.diagram.proofs.Rows.{row-leads}
use Rattle.diagram.proofs.Count.{pigeonhole}
use Rattle.diagram.specs.Reach.{Reach, root, by-low, by_high}
use Rattle.diagram.proofs.Reach.{Reached, ReachedTo}
use Rattle.diagram.proofs.Keep.{reach-within}
use Rattle.diagram.specs.Post.{Denotes}
use Rattle.diagram.specs.Odd.{odd_f}
use Rattle.diagram.proofs.OddLaws.{odd_constant}
use Rattle.diagram.proofs.Tally.{Surveyed, AddedRows, CoveredBy}
use Rattle.diagram.proofs.Bounds.{Evens}
use Rattle.diagram.specs.Survey.{Passed, Accounted}
use Rattle.diagram.proofs.Survey.{survey-all, survey-done, added-done}
use Rattle.diagram.proofs.Left.{left-counted}
use Rattle.layout.specs.View.{View}
use Rattle.rows.specs.Used.{rows_of}
use Rattle.rows.specs.Bits.{On}
use Rattle.rows.proofs.Bits.{zeros}
use Rattle.rows.specs.Mark.{OnTo, OnArrow}
use Rattle.rows.specs.Sound.{Good}
use Rattle.collect.specs.Lent.{live}
use Rattle.steps.proofs.Steps.{live-arrows}
use Rattle.operations.proofs.Work.{ready-wf}
use Rattle.counting.specs.Counts.{LiveMarked}
use Rattle.stages.specs.Left.{SeenBlank, LeftFits, LookPre}
use Rattle.stages.specs.Levels.{LEVELS, MOST, count_of, Levels, AllWithin}
use Rattle.stages.specs.AddedCounts.{AddedCounts}
use Rattle.stages.proofs.AddedCounts.{counts-none}
use Rattle.stages.specs.Surveys.{Surveys, SurveyPre, SurveyPost}
use Rattle.stages.proofs.Surveys.{surveys-none, arrow-most}

-- rows are marked and arrows have bits once each, so that no count passes the table's size
pub added-levels : {W : View} {roots reached added : List ℕ} → Good W → length added ≡ LEVELS → AddedCounts (rows_of W) roots reached added
    → Levels added
added-levels {W} g e s = record {
  size = e;
  few = λ l. let n = pigeonhole W.rows s.list s.once (λ i h. g.rows.bounded i (s.used i h)) in
      let f = s.few l in let r = g.sizes.N-max in omega (arith, n, f, r);
}

pub surveys-levels : {m : ℕ} {W : View} {seen above reached : List ℕ} → Good W → length above ≡ LEVELS
    → Surveys m (rows_of W) seen above reached → Levels above
surveys-levels {W = W} g e s = record {
  size = e;
  few = λ l. let n = pigeonhole MOST s.list s.once (λ c h. arrow-most g c (s.arrow c h)) in let f = s.few l in omega (arith, n, f);
}

-- no root reaches nothing
reach-nothing : {rows : Rows} {i : ℕ} → Reach rows [] i → ⊥
reach-nothing (root h e) = mem-nil h
reach-nothing (by-low r e) = reach-nothing r
reach-nothing (by_high r e) = reach-nothing r

module _ {m : ℕ} {rows : Rows} {roots seen above reached added : List ℕ} (s : Surveys m rows seen above reached)
    (k : AddedCounts rows roots reached added) where
  -- what the marks are of is reached from the roots and the rows added
  abbrev pub sources : List ℕ
  sources = roots ++ map row k.list

  reached_row : (i : ℕ) → On reached i → Reach rows sources i
  reached_row i o =
      ⊎_elim (λ r. reach-within (λ b j e h. append_left (map row k.list) h) r)
      (λ h. root (append_right roots (mem-map row h)) (row-leads i)) (k.all i o)

  reached_arrow : (b x : ℕ) → target b ≡ x → OnArrow reached b → Reached rows sources b
  reached_arrow b zero e o = subst (ReachedTo rows sources) (sym e) tt
  reached_arrow b (suc i) e o = subst (ReachedTo rows sources) (sym e) (reached_row i (subst (OnTo reached) e o))

  pub looked_added : AddedRows rows roots sources (count_of added)
  looked_added =
      added-done k.list sources (count_of added) k.so_far
      (λ b h. ⊎_elim (λ g. λ j l. inl (root g l)) (listed b) (append_cases roots h))
    where
      listed : (b : ℕ) → Mem b (map row k.list) → Accounted rows roots k.list b
      listed b h j l =
          let (i, mi, e) = mem-of-map row k.list h in
          let q : i ≡ j = omega (arith, e, l) in
          inr (subst (λ (x : ℕ). Mem x k.list) q mi)

  -- what is followed from an arrow with a bit is counted, and covered by what the marks are of
  module _ (a : ℕ) (has : (i : ℕ) → Leads a i → On seen a) where
    passed : Passed rows [] s.list a
    passed i l = inr (s.all a (has i l))

    pub looked_survey : Surveyed rows [] a (count_of above)
    looked_survey = survey-done s.list (count_of above) a s.survey passed

    pub looked_covered : CoveredBy m rows sources a
    looked_covered c t = pick (target c) refl
      where
        pick : (x : ℕ) → target c ≡ x → (b : ℕ) × Reached rows sources b × Denotes m rows b (odd_f (den m rows c))
        pick zero e = (c, reached_arrow c zero e (subst (OnTo reached) (sym e) tt), odd_constant m rows c e)
        pick (suc i) e =
            let h : Mem c s.list = ⊎_elim (λ r. absurd (reach-nothing r)) (λ g. g)
            (survey-all s.list (count_of above) a c s.survey passed t i e) in
            let v = s.covers c h in
            (v.by, reached_arrow v.by (target v.by) refl v.marked, v.denotes)

module _ {n N : ℕ} {W : View} {c roots : List ℕ} {a left : ℕ} (p : LookPre n N W c roots a left) {reached seen₀ : List ℕ}
    {number : ℕ} (v : LiveMarked W roots reached number) (b : SeenBlank N seen₀) where
  begun : AddedCounts (rows_of W) (live W roots) reached (replicate LEVELS 0)
  begun = counts-none v.only (λ l. zeros LEVELS l)

  -- what the survey asks
  pub look-asks : N ≤ 32 * length reached → SurveyPre (2 * n) N W seen₀ (replicate LEVELS 0) reached (replicate LEVELS 0) a
  look-asks e = record {
    ready = p.ready;
    seen-room = b.enough;
    above-size = length-replicate {A = ℕ} LEVELS 0;
    surveys = surveys-none reached b.blank (λ l. zeros LEVELS l);
    marking = record {
      good = p.sound.good;
      arrow = p.arrow;
      room = let q = p.ready.rows_is in omega (arith, e, q);
      counts-size = length-replicate {A = ℕ} LEVELS 0;
      roots = live W roots;
      added-counts = begun;
    };
  }

  module _ {seen above reached' added : List ℕ}
      (s : SurveyPost (2 * n) (rows_of W) seen₀ seen (replicate LEVELS 0) above reached reached' (replicate LEVELS 0) added a) where
    marked-added : AddedCounts (rows_of W) (live W roots) reached' added
    marked-added = s.added-counts (live W roots) begun

    small : n ≤ 16
    small = let e = p.ready.levels-is in let l = p.sound.good.sizes.n_max in omega (arith, e, l)

    -- what the comparison asks
    pub look-levels : length above ≡ LEVELS → length added ≡ LEVELS → Levels above × Levels added × (left ≤ n) × (n ≤ 16)
    look-levels ea ed = (surveys-levels p.sound.good ea s.surveys, added-levels p.sound.good ed marked-added, p.fewer, small)

    -- and what its answer says
    pub look-fits : {most : ℕ} → AllWithin (2 * n) number (count_of above) (count_of added) left most
        → LeftFits (2 * n) (rows_of W) (live W roots) a left most
    look-fits {most} w =
        let none : Evens (2 * n) (rows_of W) (live W roots)
        [] = record { within = λ b h. absurd (mem-nil h); blind = λ b h. absurd (mem-nil h) } in
        left-counted (ready-wf p.ready) refl small p.fewer p.arrow p.blind (live W roots)
        (live-arrows roots p.sound p.arrows) v.number none
        (looked_covered s.surveys marked-added a s.has) (looked_survey s.surveys marked-added a s.has)
        (looked_added s.surveys marked-added) most w
