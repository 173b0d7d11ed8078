-- Laws of the walk of a list against one arrow: by tables, by halves, and what it tells. Assumes nothing.
use mathlib.Core.Path.{◌≡◌, refl, sym, ◌∙◌, subst}
use mathlib.Core.Logic.{◌≢◌, by_cases}
use mathlib.Core.List.{List}
use mathlib.Core.Bool.{Bool, true, false, not}
use Prim.Native.Nat.{ℕ, ◌+◌, ◌-◌, ◌*◌, ◌≤◌, ◌<◌}
use native.Mathlib.Omega.{arith}
use native.Mathlib.Decide.{dec_lt, ℕ_discrete}
use lib.ListN.{length, get_or, replicate, length-replicate}
use Rattle.diagram.specs.Rows.{level_of}
use Rattle.layout.specs.Places.{BITS}
use Rattle.layout.specs.View.{View}
use Rattle.layout.specs.Arrows.{is_row}
use Rattle.rows.specs.Used.{rows_of}
use Rattle.rows.specs.Says.{Says, holds, fails}
use Rattle.rows.proofs.Says.{says_pass, says_fail, says_map}
use Rattle.rows.proofs.Roots.{ref-arrow}
use Rattle.soundness.specs.Apart.{Apart}
use Rattle.soundness.proofs.ApartLaws.{zero_left, zero_right, one_right}
use Rattle.soundness.specs.Cells.{Disjoint}
use Rattle.soundness.proofs.CellsLaws.{tables_tell}
use Rattle.soundness.specs.Tables.{SETS, Known, TablePre, TablePost, SetsPre, SetsPost}
use Rattle.soundness.specs.Pairs.{PAIR_WORDS}
use Rattle.soundness.proofs.PairsLaws.{right-none}
use Rattle.soundness.specs.Contained.{AllApart, Deep, Tells, RefsPre}
use Rattle.soundness.proofs.Contained.{low_reads, high_reads, lists-new, asks-on, told}
use Rattle.soundness.specs.Lists.{ROOM, FOUND, Same, ListApart, AllListed, KeptOpen, StaysRight, LeastPre, Least, LayPre, Laid}
use Rattle.soundness.specs.Lists.{StepPre, Stepped, TablesPre, TablesPost, WalkPre, WalkTold, RefsListed}
use Rattle.soundness.proofs.ListsLaws.{apart-same, listed_same, same_back, listed-from, kept-listed, kept-forth, kept_back}

-- by tables: what is asked of an arrow's and of b's, and what they tell
pub table-first : {W : View} {s base b from to a k : ℕ} {list xs ys xs' : List ℕ} → TablesPre W s base b list from to xs ys
    → from ≤ k → k < to → a ≡ get_or list k 0 → length xs' ≡ length xs → Known W base s 0 xs' → TablePre W base s 0 a xs'
table-first {k = k} p lo hi e z f =
    let n = p.good.sizes.n_max in
    let h = p.lists.last in
    let r = p.lists.room.0 in
    record {
      good = p.good;
      low-base = omega arith;
      shift = p.shift;
      up = omega arith;
      size = omega arith;
      known = f;
      arrow = rw e (p.arrows k lo hi);
    }

pub table-second : {W : View} {s base b from to : ℕ} {list xs ys : List ℕ} → TablesPre W s base b list from to xs ys
    → SetsPre W base s b ys
table-second p =
    let n = p.good.sizes.n_max in
    let h = p.lists.last in
    record {
      asked = record { good = p.good; low-base = omega arith; shift = p.shift; arrow = p.against.arrow };
      is_row = p.is_row;
      size = p.lists.room.1;
      sets = p.lists.second;
    }

pub by_tables : {W : View} {s base b from to a x y : ℕ} {list xs ys xs' ys' : List ℕ} {r : Bool} → TablesPre W s base b list from to xs ys
    → TablePost W base s 0 a x xs' → SetsPost W base s b y ys' → Says (Disjoint x y) r
    → Says (Apart (2 * W.header BITS) (rows_of W) s a b) r
by_tables {W} {s} {base} {b} p f g d =
    let h = p.lists.last in
    let n = p.shift in
    tables_tell p.good.rows base s (omega arith) (omega arith) (omega arith) b p.against.arrow p.deep.level p.against.reads
    f.tabled g.shown d

pub apart_none : {s start b : ℕ} (W : View) (list : List ℕ) → ListApart W s list start start b
apart_none W list k lo hi = absurd (omega arith)

pub apart_more : {s start k a b : ℕ} (W : View) (list : List ℕ) → ListApart W s list start k b → a ≡ get_or list k 0
    → Apart (2 * W.header BITS) (rows_of W) s a b → ListApart W s list start (k + 1) b
apart_more {s} {start} {k} {a} {b} W list p e q j lo hi = by_cases (dec_lt j k)
    (λ u. p j lo u)
    (λ u. let z : j ≡ k = omega arith in rw (z, sym e) q)

before-base : {base : ℕ} (W : View) (b : ℕ) → (Deep W base b → ⊥) → level_of (2 * W.header BITS) (rows_of W) b < base
before-base {base} W b d = by_cases (dec_lt (level_of (2 * W.header BITS) (rows_of W) b) base) (λ h. h)
    (λ h. absurd (d (record { level = omega arith })))

-- the walk where nothing is laid
module _ {W : View} {s base level b from to end : ℕ} {list found memo xs ys : List ℕ}
    (p : WalkPre W s base level b list found from to end memo xs ys) where
  pub walk-says : {r : Bool} → Says (ListApart W s list from to b) r → WalkTold W s base b list list from to end memo xs ys r
  walk-says q = record { tells = told p.asks q; before = λ k lo hi. refl; between = λ k lo hi. refl }

  pub walk_none : from ≡ to → WalkTold W s base b list list from to end memo xs ys true
  walk_none e = walk-says (holds (λ k lo hi. absurd (omega arith)))

  pub walk-nothing : b ≡ 0 → WalkTold W s base b list list from to end memo xs ys true
  walk-nothing e = walk-says (holds (λ k lo hi. zero_right _ _ e))

  pub walk-everything : from ≢ to → b ≡ 1 → WalkTold W s base b list list from to end memo xs ys false
  walk-everything n e =
      let o = p.lists.order in
      let o0 = o.0 in
      let lt : from < to = omega arith in
      let a = p.lists.each from (omega arith) lt in
      walk-says (fails (λ f. one_right p.asks.good.rows a.arrow a.some e (f from (omega arith) lt)))

  pub tables_asked : is_row b ≡ true → Deep W base b → TablesPre W s base b list from to xs ys
  tables_asked n d =
      let o = p.lists.order in
      let o1 = o.1 in
      let z = p.lists.room.0 in
      let y = p.room in
      record {
        good = p.asks.good;
        shift = p.asks.shift;
        lists = p.asks.lists;
        against = p.against;
        is_row = n;
        deep = d;
        order = o.0;
        within = omega arith;
        arrows = λ k lo hi. (p.lists.each k lo hi).arrow;
      }

  pub walk_tables : {xs' ys' : List ℕ} {r : Bool} → TablesPost W s base b list from to xs' ys' r
      → WalkTold W s base b list list from to end memo xs' ys' r
  walk_tables q = record {
    tells = record { says = q.says; right = p.asks.right; first = q.first; second = q.second };
    before = λ k lo hi. refl;
    between = λ k lo hi. refl;
  }

  pub step-asked : is_row b ≡ true → (Deep W base b → ⊥) → StepPre W s b list found from to end memo
  step-asked u d =
      let n = before-base W b d in
      let w = p.asks.lists.last in
      let m = p.asks.good.sizes.n_max in
      let sh = p.asks.shift in
      let y = p.room in
      let e = p.below in
      record {
        lists = record {
          good = p.asks.good;
          each = λ k lo hi. listed-from (p.lists.each k lo hi);
          order = p.lists.order;
          room = p.lists.room;
        };
        room = omega arith;
        size = p.asks.size;
        shift = sh;
        arrow = p.against.arrow;
        is_row = u;
        shallow = omega arith;
      }

-- as `step` makes it
module _ {W : View} {s b from to end last top : ℕ} {list found memo list1 : List ℕ} (p : StepPre W s b list found from to end memo)
    (k : KeptOpen memo s b list list1 from to last) (e : top ≡ level_of (2 * W.header BITS) (rows_of W) b + s) where
  pub least-asked : length list1 ≡ length list → LeastPre W list1 from last top
  least-asked z =
      let o = p.lists.order.1 in
      let m = k.most in
      let x = p.lists.room.0 in
      let y = p.room in
      let w = p.shallow in
      record { good = p.lists.good; each = kept-listed k p.lists.each; order = k.least; within = omega arith; most = omega arith }

  pub lay-asked : {l : ℕ} → length list1 ≡ length list → Least W list1 from last top l → LayPre W s l b list1 found from last end
  lay-asked z q =
      let o1 = p.lists.order.1 in
      let o2 = p.lists.order.2 in
      let m = k.most in
      let w = p.shallow in
      let t = q.most in
      let own = kept-listed k p.lists.each in
      record {
        lists = record {
          good = p.lists.good;
          each = λ j lo hi. record { arrow = (own j lo hi).arrow; some = (own j lo hi).some; level = q.each j lo hi };
          order = (k.least, omega arith, omega arith);
          room = (z ∙ p.lists.room.0, p.lists.room.1);
        };
        room = p.room;
        shift = p.shift;
        arrow = p.arrow;
        is_row = p.is_row;
        level = omega arith;
        shallow = omega arith;
      }

  pub stepped : {l last' next b0 b1 mid stop : ℕ} {list2 : List ℕ} → Least W list1 from last top l
      → Laid W s l b list1 list2 from last end b0 b1 mid stop × (last' ≡ last) × (next ≡ l + 1)
      → Stepped W s b memo list list2 from to end last' next b0 b1 mid stop
  stepped {l} {last'} {next} {b0} {b1} {mid} {stop} {list2} q g =
      let t = q.most in
      subst (λ (x : ℕ). Stepped W s b memo list list2 from to end x next b0 b1 mid stop) (sym g.1) (record {
        list1 = list1;
        l = l;
        kept = k;
        laid = g.0;
        above = λ x h f. q.low x (omega arith) (kept-listed k f);
        below = omega arith;
        after = g.2;
      })

-- where the walk stands after a step: list2 has the halves too
pub record WalkAt (W : View) (s base level b : ℕ) (list found : List ℕ) (from to end : ℕ) (memo xs ys list2 : List ℕ)
    (last next b0 b1 mid stop : ℕ) : Type 0 where
  pub pre : WalkPre W s base level b list found from to end memo xs ys
  pub step : Stepped W s b memo list list2 from to end last next b0 b1 mid stop
  pub above : level < next
  pub below : next ≤ 23

pub walk_at : {W : View} {s base level b from to end last next b0 b1 mid stop : ℕ} {list found memo xs ys list2 : List ℕ}
    → WalkPre W s base level b list found from to end memo xs ys → (Deep W base b → ⊥)
    → Stepped W s b memo list list2 from to end last next b0 b1 mid stop
    → WalkAt W s base level b list found from to end memo xs ys list2 last next b0 b1 mid stop
walk_at {W} {level = level} {b} p d g =
    let n = before-base W b d in
    let w = p.asks.lists.last in
    let m = p.asks.good.sizes.n_max in
    let sh = p.asks.shift in
    let h = g.above level p.below p.lists.each in
    let y = g.below in
    let z = g.after in
    record { pre = p; step = g; above = omega arith; below = omega arith }

module _ {W : View} {s base level b from to end last next b0 b1 mid stop : ℕ} {list found memo xs ys list2 : List ℕ}
    (p : WalkAt W s base level b list found from to end memo xs ys list2 last next b0 b1 mid stop) where
  laid_each : AllListed W next list2 end stop
  laid_each = subst (λ (x : ℕ). AllListed W x list2 end stop) (sym p.step.after) p.step.laid.each

  -- the first call
  pub call-low : {found2 : List ℕ} {t : ℕ} → 64 - level ≡ t → length list2 ≡ length list → length found2 ≡ length found
      → (64 - next < t) × WalkPre W s base next b0 list2 found2 end mid stop memo xs ys
  call-low e z zf =
      let o = p.step.laid.order in
      let o0 = o.0 in
      let o1 = o.1 in
      let o2 = o.2 in
      let o3 = o.3 in
      let u = p.above in
      let v = p.below in
      let y = p.pre.room in
      let x = p.pre.lists.room in
      let d = p.step.laid.half.low_deeper in
      let f = p.step.after in (
        omega arith,
        record {
          asks = p.pre.asks;
          against = record { arrow = p.step.laid.half.low-arrow; reads = low_reads p.step.laid.half p.pre.against.reads };
          below = omega arith;
          lists = record {
            good = p.pre.asks.good;
            each = λ k lo hi. laid_each k lo (omega arith);
            order = (o0, o1, o2);
            room = (z ∙ x.0, zf ∙ x.1);
          };
          room = omega arith;
        },
      )

  module _ {list3 memo3 xs3 ys3 : List ℕ} {r : Bool} (t : WalkTold W s base b0 list2 list3 end mid stop memo3 xs3 ys3 r) where
    since : Same p.step.list1 list3 0 end
    since k lo hi = t.before k lo hi ∙ p.step.laid.kept k lo hi

    -- a list that differs from the kept one past `end` only
    back_to : {memo4 xs4 ys4 : List ℕ} {r4 : Bool} (list4 : List ℕ) → Same p.step.list1 list4 0 end
        → Tells W s base memo4 xs4 ys4 (ListApart W s list from to b) r4 → WalkTold W s base b list list4 from to end memo4 xs4 ys4 r4
    back_to list4 f g =
        let o = p.pre.lists.order in
        let o0 = o.0 in
        let o1 = o.1 in
        record {
          tells = g;
          before = λ k lo hi. f k lo (omega arith) ∙ p.step.kept.before k lo hi;
          between = λ k lo hi. f k (omega arith) hi ∙ p.step.kept.after k lo;
        }

    pub low-fails : not r ≡ true → WalkTold W s base b list list3 from to end memo3 xs3 ys3 false
    low-fails e = back_to list3 since (record {
      says = fails (λ q. says_fail e t.tells.says (p.step.laid.forth (kept-forth W p.step.kept q)).0);
      right = t.tells.right;
      first = t.tells.first;
      second = t.tells.second;
    })

    -- the second call
    pub call-high : {found3 : List ℕ} {m : ℕ} → 64 - level ≡ m → length list3 ≡ length list → length found3 ≡ length found
        → length memo3 ≡ length memo → length xs3 ≡ length xs → length ys3 ≡ length ys
        → (64 - next < m) × WalkPre W s base next b1 list3 found3 mid stop stop memo3 xs3 ys3
    call-high e z zf zm zx zy =
        let o = p.step.laid.order in
        let o0 = o.0 in
        let o1 = o.1 in
        let o2 = o.2 in
        let o3 = o.3 in
        let u = p.above in
        let v = p.below in
        let y = p.pre.room in
        let x = p.pre.lists.room in
        let d = p.step.laid.half.high_deeper in
        let f = p.step.after in (
          omega arith,
          record {
            asks = asks-on p.pre.asks zm zx zy t.tells;
            against = record { arrow = p.step.laid.half.high-arrow; reads = high_reads p.step.laid.half p.pre.against.reads };
            below = omega arith;
            lists = record {
              good = p.pre.asks.good;
              each = listed_same list2 list3 t.between (λ k lo hi. laid_each k (omega arith) hi);
              order = (o1, omega arith, o3);
              room = (z ∙ x.0, zf ∙ x.1);
            };
            room = omega arith;
          },
        )

    module _ {list4 memo4 xs4 ys4 : List ℕ} {r1 : Bool} (t1 : WalkTold W s base b1 list3 list4 mid stop stop memo4 xs4 ys4 r1) where
      -- what remembering the list asks
      pub remember-asked : length list4 ≡ length list → length memo4 ≡ length memo
          → (length memo4 ≡ PAIR_WORDS) × (from ≤ last) × (last ≤ length list4)
      remember-asked z zm =
          let o = p.pre.lists.order.1 in
          let x = p.pre.lists.room.0 in
          let y = p.pre.room in
          let m = p.step.kept.most in (zm ∙ p.pre.asks.size, p.step.kept.least, omega arith)

      since-both : Same p.step.list1 list4 0 end
      since-both k lo hi = let o = p.step.laid.order.0 in t1.before k lo (omega arith) ∙ since k lo hi

      pub high-fails : not r1 ≡ true → WalkTold W s base b list list4 from to end memo4 xs4 ys4 false
      high-fails e = back_to list4 since-both (record {
        says = fails (λ q. says_fail e t1.tells.says
            (apart-same W list2 list3 t.between (p.step.laid.forth (kept-forth W p.step.kept q)).1));
        right = t1.tells.right;
        first = t1.tells.first;
        second = t1.tells.second;
      })

      pub both_pass : {memo5 : List ℕ} → not r ≡ false → not r1 ≡ false → StaysRight list4 from last b memo4 memo5
          → WalkTold W s base b list list4 from to end memo5 xs4 ys4 true
      both_pass e e1 h =
          let o = p.pre.lists.order in
          let o1 = o.1 in
          let m = p.step.kept.most in
          let q : ListApart W s p.step.list1 from last b =
          p.step.laid.back (says_pass e t.tells.says)
          (apart-same W list3 list2 (same_back list2 list3 t.between) (says_pass e1 t1.tells.says)) in
          back_to list4 since-both (record {
            says = holds (kept_back W p.step.kept p.pre.asks.right q);
            right = h.right (2 * W.header BITS) (rows_of W) s
                (apart-same W p.step.list1 list4 (λ k lo hi. since-both k (omega arith) (omega arith)) q) t1.tells.right;
            first = t1.tells.first;
            second = t1.tells.second;
          })

-- the walk of the roots' arrows
pub walk-asked : {W : View} {s start stop b base r : ℕ} {xs list found : List ℕ} → RefsPre W s start stop b xs
    → base ≡ 2 * W.header BITS - 10 → RefsListed W.header list start stop r → length list ≡ ROOM → length found ≡ FOUND
    → WalkPre W s base 0 b list found 0 r r (replicate PAIR_WORDS 0) xs (replicate SETS 0)
walk-asked {W} {list = list} p e q z zf =
    let m = q.most in
    let n = p.roots.some in
    record {
      asks = record {
        good = p.roots.good;
        shift = p.roots.shift;
        size = length-replicate {A = ℕ} PAIR_WORDS 0;
        right = right-none PAIR_WORDS _ _;
        lists = lists-new p e;
      };
      against = p.roots.against;
      below = omega arith;
      lists = record {
        good = p.roots.good;
        each = λ k lo hi.
            let o = q.own k hi in
            let a = o.1 in
            let y = a.is in
            record {
              arrow = rw (let x : get_or list k 0 ≡ W.header a.at - 1 = omega arith in x)
                  (ref-arrow (rows_of W) (W.header a.at) (λ x. omega arith) (p.roots.refs a.at a.lo a.hi));
              some = o.0;
              level = omega arith;
            };
        order = (omega arith, omega arith, omega arith);
        room = (z, zf);
      };
      room = omega arith;
    }

pub refs-told : {W : View} {s start stop b base r : ℕ} {list list' memo xs ys : List ℕ} {k : Bool}
    → RefsListed W.header list start stop r → WalkTold W s base b list list' 0 r r memo xs ys k → Says (AllApart W s start stop b) k
refs-told {W} {s} {b = b} {list = list} q t = says_map
    (λ f h lo hi a e. by_cases (ℕ_discrete a 0) (λ z. zero_left _ _ z)
    (λ n. let i = q.all h lo hi (λ z. omega arith) in
    let z : get_or list i.at 0 ≡ a = i.is ∙ (let y : W.header h - 1 ≡ a = omega arith in y) in
    rw (sym z) (f i.at i.lo i.hi)))
    (λ f j lo hi. let o = (q.own j hi).1 in f o.at o.lo o.hi _ o.is)
    t.tells.says
