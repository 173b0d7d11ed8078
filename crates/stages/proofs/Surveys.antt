-- Laws of what specs/Surveys.antt defines. Assumes nothing.
use mathlib.Core.Path.{◌≡◌, refl, sym, ◌∙◌, subst}
use mathlib.Core.Logic.{◌⊎◌, inl, inr, ⊎_elim, by_cases}
use mathlib.Core.Bool.{Bool, true, false, true≢false}
use mathlib.Core.List.Memᴰ.{cases_cons as mem-cases}
use mathlib.Core.List.Memᴰ.{head as here}
use mathlib.Core.List.Memᴰ.{tail as there}
use mathlib.Core.List.{List, [], ◌∷◌}
use mathlib.Core.List.Memᴰ.{not-nil as mem-nil}
use Prim.Native.Nat.{ℕ, zero, suc, ◌+◌, ◌*◌, ◌≤◌, ◌<◌}
use native.Mathlib.Decide.{ℕ_discrete}
use native.Mathlib.Omega.{arith}
use lib.ListN.{length}
use Rattle.diagram.specs.Rows.{Rows, target, Leads, Arrow, ArrowTo, level_of, follow, WellFormed}
use Rattle.diagram.proofs.Rows.{leads-used, leads-level}
use Rattle.diagram.proofs.Den.{follow-arrow, follow_deeper}
use Rattle.diagram.proofs.Grow.{extends_refl}
use Rattle.diagram.proofs.Count.{pigeonhole}
use Rattle.diagram.specs.Odd.{Follows, self, on}
use Rattle.diagram.specs.Survey.{Survey, Passed, bump}
use Rattle.diagram.proofs.Survey.{survey-none, survey-add}
use Rattle.layout.specs.Places.{words_for}
use Rattle.layout.specs.View.{View}
use Rattle.layout.specs.Arrows.{is_row, row_of}
use Rattle.layout.proofs.Arrows.{no_row-leads}
use Rattle.rows.specs.Used.{rows_of}
use Rattle.rows.specs.Bits.{is_on, On, Sets}
use Rattle.rows.proofs.MarkLaws.{on_arrow_le}
use Rattle.rows.specs.Sound.{Good}
use Rattle.std.specs.Prelude.{Option, Some}
use Rattle.operations.specs.Work.{Ready}
use Rattle.operations.proofs.Work.{ready-wf}
use Rattle.operations.specs.Open.{RowIs}
use Rattle.operations.proofs.Open.{RowAt, Opened, depth, row_at, opened, part_falls, low-falls, high-falls}
use Rattle.operations.specs.Odd.{OddKnown}
use Rattle.stages.specs.Levels.{MOST, count_of, OneMore}
use Rattle.stages.proofs.Levels.{one-more-le}
use Rattle.stages.specs.AddedCounts.{MarkAddedPre, MarkAddedPost}
use Rattle.stages.proofs.AddedCounts.{added-at, added_next}
use Rattle.stages.specs.Surveys.{Cover, Surveys, SurveyPre, SurveyPost}

-- no bit, and nothing counted
pub surveys-none : {m : ℕ} {rows : Rows} {seen above : List ℕ} (reached : List ℕ) → ((c : ℕ) → On seen c → ⊥)
    → ((l : ℕ) → count_of above l ≡ 0) → Surveys m rows seen above reached
surveys-none {m} {rows} reached off none = record {
  list = [];
  once = tt;
  arrow = λ c h. absurd (mem-nil h);
  marked = λ c h. absurd (mem-nil h);
  all = λ c o. absurd (off c o);
  survey =
      record {
        closed =
            (survey-none {m = m} {rows = rows} {evens = []}).closed;
        counted =
            λ l. let s = (survey-none {m = m} {rows = rows} {evens = []}).counted l in omega (arith, s);
      };
  covers = λ c h. absurd (mem-nil h);
  few = λ l. let e = none l in omega (arith, e);
}

-- more rows marked
surveys-marked_more : {m : ℕ} {rows : Rows} {seen above reached reached' : List ℕ} → ((i : ℕ) → On reached i → On reached' i)
    → Surveys m rows seen above reached → Surveys m rows seen above reached'
surveys-marked_more {reached = reached} {reached'} f s = record {
  list = s.list;
  once = s.once;
  arrow = s.arrow;
  marked = s.marked;
  all = s.all;
  survey = s.survey;
  covers =
      λ c h. let v = s.covers c h in
      record { by = v.by; denotes = v.denotes; marked = on_arrow_le reached reached' f v.by v.marked };
  few = s.few;
}

-- an arrow is below twice the rows and two
arrow-below : {m N : ℕ} {rows : Rows} (a k : ℕ) → target a ≡ k → WellFormed m N rows → ArrowTo rows k → a < 2 * N + 2
arrow-below a zero e wf u = omega (arith, e)
arrow-below a (suc i) e wf u = let l = wf.bounded i u in omega (arith, e, l)

-- so it has a bit
pub arrow-most : {W : View} → Good W → (a : ℕ) → Arrow (rows_of W) a → a < MOST
arrow-most g a u = let l = arrow-below a (target a) refl g.rows u in let n = g.sizes.N-max in omega (arith, l, n)

pub arrow_in : {m N limit : ℕ} {W : View} (k : ℕ) → Ready m N limit W → 2 * N + 2 ≤ 32 * k → (a : ℕ) → Arrow (rows_of W) a → a < 32 * k
arrow_in k r h a u = let l = arrow-below a (target a) refl r.good.rows u in let e = r.rows_is in omega (arith, l, e, h)

-- what is followed from a part is followed from the arrow, and lies no higher
follows_part : {rows : Rows} {a i : ℕ} (b : Bool) {c : ℕ} → Leads a i → Follows rows (follow rows a i b) c → Follows rows a c
follows_part b l self = on b self l
follows_part b l (on d t k) = on d (follows_part b l t) k

follows_level : {m N : ℕ} {rows : Rows} {a c : ℕ} → WellFormed m N rows → Arrow rows a → Follows rows a c
    → Arrow rows c × (level_of m rows a ≤ level_of m rows c)
follows_level wf u self = (u, omega arith)
follows_level {m} {rows = rows} wf u (on {c = c} {i = i} b t l) =
    let (w, h) = follows_level wf u t in
    let r = leads-used rows c i l w in
    let d = follow_deeper wf c i l b r in
    let e = leads-level m rows c i l in
    (follow-arrow wf c i l b r, omega (arith, h, d, e))

module _ {m N : ℕ} {W : View} {seen above reached added : List ℕ} {a : ℕ} (p : SurveyPre m N W seen above reached added a) where
  -- the arrow has a bit
  pub survey_in : a < 32 * length seen
  survey_in = arrow_in (length seen) p.ready p.seen-room a p.marking.arrow

  -- arrows 0 and 1, and arrows with a bit, add nothing
  survey-same : ((i : ℕ) → Leads a i → On seen a) → SurveyPost m (rows_of W) seen seen above above reached reached added added a
  survey-same h =
      record { kept = λ c o. o; has = h; only = λ c o. inl o; surveys = p.surveys; marked_more = λ i o. o; added-counts = λ roots s. s }

  pub survey_constant : is_row a ≡ false → SurveyPost m (rows_of W) seen seen above above reached reached added added a
  survey_constant h = survey-same (λ i l. let z = no_row-leads a h in absurd (omega (arith, z, l)))

  pub survey_again : On seen a → SurveyPost m (rows_of W) seen seen above above reached reached added added a
  survey_again o = survey-same (λ i l. o)

  -- what covers the arrow is marked first
  pub cover_asks : {f : Option ℕ} {b : ℕ} → f ≡ Some b → OddKnown m W a f → MarkAddedPre W reached added b
  cover_asks {b = b} e k = added-at p.marking (k.at b e).arrow

-- the walk from an arrow to row i that has no bit
module _ {m N : ℕ} {W : View} {s₀ a₀ k₀ d₀ : List ℕ} {a i : ℕ} (p : SurveyPre m N W s₀ a₀ k₀ d₀ a) (h : is_row a ≡ true)
    (ei : i ≡ row_of a) where
  at_row : RowAt (rows_of W) a i
  at_row = row_at a p.marking.arrow h ei

  -- the row is in the table
  pub survey_row-at : (i < W.rows) × (words_for W.rows ≤ W.size)
  survey_row-at = (p.marking.good.rows.bounded i at_row.used, p.marking.good.sizes.room)

  module _ {k₁ d₁ : List ℕ} {f : Option ℕ} {b l lo hi : ℕ} (ef : f ≡ Some b) (known : OddKnown m W a f)
      (sh : MarkAddedPost (rows_of W) k₀ k₁ d₀ d₁ b) (n : RowIs (rows_of W) a i l lo hi) where
    open_at : Opened m (rows_of W) a i l lo hi
    open_at = opened (ready-wf p.ready) at_row n

    -- then the two arrows that are followed from it, first the low one: the measures are 2 d for the work on a row and 2 d + 1 for any
    -- arrow
    pub low-asks : {t : ℕ} → 2 * depth m (rows_of W) a ≡ t → length k₁ ≡ length k₀ → length d₁ ≡ length d₀
        → (2 * depth m (rows_of W) lo + 1 < t) × SurveyPre m N W s₀ a₀ k₁ d₁ lo
    low-asks q ek ed = (
      subst (λ (k : ℕ). 2 * depth m (rows_of W) lo + 1 < k) q
          (part_falls (depth m (rows_of W) lo) (depth m (rows_of W) a) (low-falls open_at)),
      record {
        ready = p.ready;
        seen-room = p.seen-room;
        above-size = p.above-size;
        surveys = surveys-marked_more sh.marks.kept p.surveys;
        marking = added_next p.marking ek ed sh open_at.parts.low-arrow;
      },
    )

    module _ {s₁ a₁ k₂ d₂ : List ℕ} (low : SurveyPost m (rows_of W) s₀ s₁ a₀ a₁ k₁ k₂ d₁ d₂ lo) where
      pub high-asks : {t : ℕ} → 2 * depth m (rows_of W) a ≡ t → length s₁ ≡ length s₀ → length a₁ ≡ length a₀ → length k₂ ≡ length k₀
          → length d₂ ≡ length d₀
          → (2 * depth m (rows_of W) hi + 1 < t) × SurveyPre m N W s₁ a₁ k₂ d₂ hi
      high-asks q es ea ek ed = (
        subst (λ (k : ℕ). 2 * depth m (rows_of W) hi + 1 < k) q
            (part_falls (depth m (rows_of W) hi) (depth m (rows_of W) a) (high-falls open_at (extends_refl (rows_of W)))),
        record {
          ready = p.ready;
          seen-room = let r = p.seen-room in omega (arith, es, r);
          above-size = ea ∙ p.above-size;
          surveys = low.surveys;
          marking = record {
            good = p.marking.good;
            arrow = open_at.parts.high-arrow;
            room = let r = p.marking.room in omega (arith, ek, r);
            counts-size = ed ∙ p.marking.counts-size;
            roots = p.marking.roots;
            added-counts = low.added-counts p.marking.roots (sh.added-counts p.marking.roots p.marking.added-counts);
          };
        },
      )

      module _ {s₂ a₂ k₃ d₃ : List ℕ} (off : is_on s₀ a ≡ false) (high : SurveyPost m (rows_of W) s₁ s₂ a₁ a₂ k₂ k₃ d₂ d₃ hi) where
        -- it has no bit still: what is followed from the parts lies deeper
        apart : (x : ℕ) → Arrow (rows_of W) x → l < level_of m (rows_of W) x → Follows (rows_of W) x a → ⊥
        apart x u lower t =
            let (w, d) = follows_level (ready-wf p.ready) u t in
            let e = open_at.level in
            omega (arith, d, e, lower)

        still-off : On s₂ a → ⊥
        still-off o =
            ⊎_elim (λ q. ⊎_elim (λ r. true≢false (sym r ∙ off)) (λ t. apart lo open_at.parts.low-arrow open_at.parts.low_deeper t)
            (low.only a q))
            (λ t. apart hi open_at.parts.high-arrow open_at.parts.high_deeper t) (high.only a o)

        -- its level has a count, which has not reached its end
        pub survey-counts : length a₂ ≡ length a₀ → (l < length a₂) × (count_of a₂ l < MOST)
        survey-counts e =
            let s = high.surveys in
            let g = p.marking.good in
            let below : (c : ℕ) → Arrow (rows_of W) c → c < 2 * W.rows + 2 = λ c u. arrow-below c (target c) refl g.rows u in
            let n = pigeonhole (2 * W.rows + 2) (a ∷ s.list) ((λ x. still-off (s.marked a x)), s.once)
            (λ c x. ⊎_elim (λ q. rw q (below a p.marking.arrow)) (λ y. below c (s.arrow c y)) (mem-cases x)) in
            let w = s.few l in
            let r = g.sizes.N-max in
            let t = g.sizes.n_max in
            let x = open_at.shallow in
            let z = p.above-size in
            let y = p.ready.levels-is in
            (omega (arith, e, z, x, y, t), omega (arith, n, w, r))

        -- so it gets its bit and is counted, last
        pub survey_row_lem : {s₃ a₃ : List ℕ} → Sets s₂ s₃ a → OneMore a₂ a₃ l → SurveyPost m (rows_of W) s₀ s₃ a₀ a₃ k₀ k₃ d₀ d₃ a
        survey_row_lem {s₃} {a₃} new more = record {
          kept = λ c o. on_bit c (high.kept c (low.kept c o));
          has = λ j q. new.has;
          only = λ c o. by_cases (ℕ_discrete c a) (λ e. inr (rw e self)) (λ d. from c (sym (new.other c d) ∙ o));
          surveys = record {
            list = a ∷ s.list;
            once = ((λ x. still-off (s.marked a x)), s.once);
            arrow = λ c x. ⊎_elim (λ q. subst (Arrow (rows_of W)) (sym q) p.marking.arrow) (λ y. s.arrow c y) (mem-cases x);
            marked = λ c x. ⊎_elim (λ q. subst (On s₃) (sym q) new.has) (λ y. on_bit c (s.marked c y)) (mem-cases x);
            all = λ c o. by_cases (ℕ_discrete c a) (λ e. here e) (λ d. there (s.all c (sym (new.other c d) ∙ o)));
            survey =
                record {
                  closed = more-so_far.closed;
                  counted = λ j. let e = more.each j in
                      let x = more-so_far.counted j in omega (arith, e, x);
                };
            covers = λ c x. ⊎_elim (λ q. subst (Cover m (rows_of W) k₃) (sym q) own) (λ y. s.covers c y) (mem-cases x);
            few = one-more-le more s.few;
          };
          marked_more = λ j o. high.marked_more j (low.marked_more j (sh.marks.kept j o));
          added-counts = λ roots x. high.added-counts roots (low.added-counts roots (sh.added-counts roots x));
        }
          where
            s : Surveys m (rows_of W) s₂ a₂ k₃
            s = high.surveys

            on_bit : (c : ℕ) → On s₂ c → On s₃ c
            on_bit c o = by_cases (ℕ_discrete c a) (λ e. subst (On s₃) (sym e) new.has) (λ d. new.other c d ∙ o)

            from : (c : ℕ) → On s₂ c → On s₀ c ⊎ Follows (rows_of W) a c
            from c o =
                ⊎_elim (λ q. ⊎_elim (λ r. inl r) (λ t. inr (follows_part false at_row.leads (rw n.low at t))) (low.only c q))
                (λ t. inr (follows_part true at_row.leads (rw n.high at t))) (high.only c o)

            passed : (x : ℕ) → ((j : ℕ) → Leads x j → On s₂ x) → Passed (rows_of W) [] s.list x
            passed x has j q = inr (s.all x (has j q))

            more-so_far : Survey m (rows_of W) [] (a ∷ s.list) (bump (count_of a₂) l)
            more-so_far = rw n.level (survey-add s.list (count_of a₂) a i s.survey at_row.leads
                (subst (Passed (rows_of W) [] s.list) n.low (passed lo (λ j q. high.kept lo (low.has j q))))
                (subst (Passed (rows_of W) [] s.list) n.high (passed hi high.has)))

            own : Cover m (rows_of W) k₃ a
            own = record {
              by = b;
              denotes = known.at b ef;
              marked = on_arrow_le k₁ k₃ (λ j o. high.marked_more j (low.marked_more j o)) b sh.marks.has;
            }
