-- Laws of laying a list's halves out (specs/Lists.antt, `Laid`). Assumes nothing.
use mathlib.Core.Path.{◌≡◌, sym, ap, ◌∙◌, subst}
use mathlib.Core.Logic.{◌≢◌, by_cases}
use mathlib.Core.List.{List}
use Prim.Native.Nat.{ℕ, ◌+◌, ◌*◌, ◌≤◌, ◌<◌}
use native.Mathlib.Omega.{arith}
use native.Mathlib.Decide.{dec_lt, ℕ_discrete}
use lib.ListN.{length, get_or}
use Rattle.diagram.specs.Rows.{level_of}
use Rattle.layout.specs.Places.{BITS, LOW, HIGH}
use Rattle.layout.specs.View.{View}
use Rattle.rows.specs.Used.{rows_of}
use Rattle.soundness.specs.Apart.{Apart, Half}
use Rattle.soundness.proofs.ApartLaws.{zero_left, apart_low, apart-high, apart-both}
use Rattle.soundness.specs.Contained.{MANY, Halved}
use Rattle.soundness.proofs.Contained.{row_at, half_of_lem}
use Rattle.soundness.specs.Lists.{Same, Among, ListApart, AllListed, half_of}
use Rattle.soundness.specs.Lists.{HalfAmong, Halves, HalvesPre, LayPre, Laid}
use Rattle.soundness.proofs.ListsLaws.{among_same, listed_same, half_is}

-- the halves of a list, the low ones up to m and the high ones past it
module _ {W : View} {s l b : ℕ} {list found list1 list2 : List ℕ} {from to end into m stop : ℕ} (p : LayPre W s l b list found from to end)
    (x : Halves W l LOW list list1 from to end end m) (y : Halves W l HIGH list1 list2 from to into m stop) where
  halved : (i : ℕ) → from ≤ i → i < to
      → Half (2 * W.header BITS) (rows_of W) 0 l (get_or list i 0) (half_of W l LOW (get_or list i 0)) (half_of W l HIGH (get_or list i 0))
  halved i lo hi = half_is p.lists.good p.shallow (p.lists.each i lo hi)

  -- the list is as it was when the high halves are laid
  still : (i : ℕ) → from ≤ i → i < to → get_or list1 i 0 ≡ get_or list i 0
  still i lo hi = let o = p.lists.order in let o1 = o.1 in x.kept i (omega arith) (omega arith)

  low_at : (j : ℕ) → end ≤ j → j < m → (get_or list2 j 0 ≢ 0) × HalfAmong W l LOW list from to (get_or list2 j 0)
  low_at j lo hi = rw (y.kept j (omega arith) hi) (x.new j lo hi)

  high_at : (j : ℕ) → m ≤ j → j < stop → (get_or list2 j 0 ≢ 0) × HalfAmong W l HIGH list from to (get_or list2 j 0)
  high_at j lo hi =
      let q = y.new j lo hi in
      let h = q.1 in
      (q.0, record { at = h.at; lo = h.lo; hi = h.hi; is = h.is ∙ ap (half_of W l HIGH) (still h.at h.lo h.hi) })

  low_stands : (i : ℕ) → from ≤ i → i < to → half_of W l LOW (get_or list i 0) ≢ 0 → Among list2 end m (half_of W l LOW (get_or list i 0))
  low_stands i lo hi n = among_same y.kept (omega arith) (omega arith) (x.stood i lo hi n)

  high-stands : (i : ℕ) → from ≤ i → i < to → half_of W l HIGH (get_or list i 0) ≢ 0
      → Among list2 into stop (half_of W l HIGH (get_or list i 0))
  high-stands i lo hi =
      subst (λ (a : ℕ). half_of W l HIGH a ≢ 0 → Among list2 into stop (half_of W l HIGH a)) (still i lo hi) (y.stood i lo hi)

  laid-listed : AllListed W (l + 1) list2 end stop
  laid-listed j lo hi = by_cases (dec_lt j m)
      (λ u. let q = low_at j lo u in
      let h = q.1 in
      let z = halved h.at h.lo h.hi in
      let d = z.low_deeper in
      rw h.is (record { arrow = z.low-arrow; some = rw (sym h.is) q.0; level = omega arith }))
      (λ u. let q = high_at j (omega arith) hi in
      let h = q.1 in
      let z = halved h.at h.lo h.hi in
      let d = z.high_deeper in
      rw h.is (record { arrow = z.high-arrow; some = rw (sym h.is) q.0; level = omega arith }))

  laid_kept : Same list list2 0 end
  laid_kept k lo hi = let e = x.least in y.kept k lo (omega arith) ∙ x.kept k lo hi

  module _ {b0 b1 : ℕ} (h : Half (2 * W.header BITS) (rows_of W) s l b b0 b1) where
    low-apart : ListApart W s list from to b → (j : ℕ) → end ≤ j → j < m → Apart (2 * W.header BITS) (rows_of W) s (get_or list2 j 0) b0
    low-apart f j lo hi =
        let q = (low_at j lo hi).1 in rw q.is (apart_low (halved q.at q.lo q.hi) h (f q.at q.lo q.hi))

    high-apart : ListApart W s list from to b → (j : ℕ) → m ≤ j → j < stop → Apart (2 * W.header BITS) (rows_of W) s (get_or list2 j 0) b1
    high-apart f j lo hi =
        let q = (high_at j lo hi).1 in rw q.is (apart-high (halved q.at q.lo q.hi) h (f q.at q.lo q.hi))

    both-apart : ((a : ℕ) → Among list2 end m a → Apart (2 * W.header BITS) (rows_of W) s a b0)
        → ((a : ℕ) → Among list2 into stop a → Apart (2 * W.header BITS) (rows_of W) s a b1) → ListApart W s list from to b
    both-apart f g i lo hi = apart-both (halved i lo hi) h
        (by_cases (ℕ_discrete (half_of W l LOW (get_or list i 0)) 0) (λ e. zero_left _ _ e) (λ n. f _ (low_stands i lo hi n)))
        (by_cases (ℕ_discrete (half_of W l HIGH (get_or list i 0)) 0) (λ e. zero_left _ _ e) (λ n. g _ (high-stands i lo hi n)))

-- arrow b where it is past the level, and where not, as `halve` gives its halves
module _ {W : View} {s l b top b0 b1 : ℕ} {list found : List ℕ} {from to end : ℕ} (p : LayPre W s l b list found from to end)
    (t : top ≡ level_of (2 * W.header BITS) (rows_of W) b + s) (h : Halved (rows_of W) b top l b0 b1) where
  pub second-half : Half (2 * W.header BITS) (rows_of W) s l b b0 b1
  second-half =
      let r = row_at W b p.lists.good p.arrow p.is_row in
      let e = r.level in
      let z = p.level in
      half_of_lem p.lists.good r p.arrow (omega arith) h (omega arith)

  -- as `lay` lays lists: all halves as one, which is cut, or the low ones and the high ones
  pub laid-whole : {list1 list2 : List ℕ} {m mid stop : ℕ} → l < top → Halves W l LOW list list1 from to end end m
      → Halves W l HIGH list1 list2 from to end m stop → end ≤ mid → mid ≤ stop → mid ≤ end + MANY → stop ≤ mid + MANY
      → Laid W s l b list list2 from to end b0 b1 mid stop
  laid-whole {list1} {list2} {m} {mid} {stop} lt x y o0 o1 o2 o3 =
      let e = h.past lt in
      let q : Half (2 * W.header BITS) (rows_of W) s l b b b =
      subst (λ (z : ℕ). Half (2 * W.header BITS) (rows_of W) s l b z b) e.0
      (subst (λ (z : ℕ). Half (2 * W.header BITS) (rows_of W) s l b b0 z) e.1 second-half) in
      let all : ListApart W s list from to b → ListApart W s list2 end stop b =
      (λ f j lo hi. by_cases (dec_lt j m)
      (λ u. low-apart p x y q f j lo u) (λ u. high-apart p x y q f j (omega arith) hi)) in
      let one : ListApart W s list2 end mid b → ListApart W s list2 mid stop b
      → (a : ℕ) → Among list2 end stop a → Apart (2 * W.header BITS) (rows_of W) s a b =
      (λ f g a k. rw (sym k.is) (by_cases (dec_lt k.at mid)
      (λ u. f k.at k.lo u) (λ u. g k.at (omega arith) k.hi))) in
      record {
        half = second-half;
        order = (o0, o1, o2, o3);
        kept = laid_kept p x y;
        each = laid-listed p x y;
        forth = λ f. rw (e.0, e.1) (λ j lo hi. all f j lo (omega arith), λ j lo hi. all f j (omega arith) hi);
        back = rw (e.0, e.1) (λ f g. both-apart p x y q
            (λ a k. one f g a (record { at = k.at; lo = k.lo; hi = (let u = k.hi in let v = y.least in omega arith); is = k.is }))
            (one f g));
      }

  pub laid-halves : {list1 list2 : List ℕ} {mid stop : ℕ} → Halves W l LOW list list1 from to end end mid
      → Halves W l HIGH list1 list2 from to mid mid stop → Laid W s l b list list2 from to end b0 b1 mid stop
  laid-halves x y =
      let o = p.lists.order in
      let o2 = o.2 in
      let x0 = x.least in
      let x1 = x.most in
      let y0 = y.least in
      let y1 = y.most in
      record {
        half = second-half;
        order = (x0, y0, omega arith, omega arith);
        kept = laid_kept p x y;
        each = laid-listed p x y;
        forth = λ f. (low-apart p x y second-half f, high-apart p x y second-half f);
        back = λ f g. both-apart p x y second-half
            (λ a k. rw (sym k.is) (f k.at k.lo k.hi))
            (λ a k. rw (sym k.is) (g k.at k.lo k.hi));
      }

-- what laying the high halves asks after the low ones
pub halves_again : {W : View} {l k from to into end m : ℕ} {list list1 found found1 : List ℕ} → HalvesPre W l list found from to end
    → Halves W l k list list1 from to into end m → length list1 ≡ length list → length found1 ≡ length found
    → HalvesPre W l list1 found1 from to m
halves_again {list = list} {list1} p x z zf =
    let o = p.order in
    let o1 = o.1 in
    let n = x.least in
    record {
      good = p.good;
      each = listed_same list list1 (λ k lo hi. x.kept k (omega arith) (omega arith)) p.each;
      order = (o.0, omega arith, o.2);
      room = (z ∙ p.room.0, zf ∙ p.room.1);
    }
