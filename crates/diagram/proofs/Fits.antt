-- A table that holds some functions has rows enough for them, and one that is truly full has too few. So refusal 8 is exact.
-- Assumes nothing.
use mathlib.Core.Path.{◌≡◌, refl, sym, ◌∙◌}
use mathlib.Core.Logic.{⊎_elim, by_cases}
use mathlib.Core.Bool.{true, Bool-discrete}
use mathlib.Core.List.Memᴰ.{head as here}
use mathlib.Core.List.Memᴰ.{tail as there}
use mathlib.Core.List.{List, [], ◌∷◌, map, Memᴰ as Mem}
use mathlib.Core.List.Memᴰ.{cases_cons as mem-cases}
use mathlib.Core.List.Memᴰ.{cast as mem_cast}
use mathlib.Core.List.Memᴰ.{map as mem-map}
use mathlib.Core.List.Memᴰ.{of_map as mem-of-map}
use Prim.Native.Nat.{ℕ, ◌≤◌, ◌<◌}
use native.Mathlib.Omega.{arith}
use lib.ListN.{length-map}
use Rattle.diagram.specs.Level.{Val, Fn, CofactorOf, PartOf, Varies}
use Rattle.diagram.proofs.Level.{Reads, part_same}
use Rattle.diagram.specs.Rows.{Rows, row, carry, Arrow, den, WellFormed}
use Rattle.diagram.proofs.Rows.{row-arrow, carry_arrow}
use Rattle.diagram.proofs.Den.{den-carry}
use Rattle.diagram.proofs.Grow.{den_extends}
use Rattle.diagram.proofs.Canon.{not-true, row-varies}
use Rattle.diagram.specs.Count.{Within}
use Rattle.diagram.proofs.Count.{nodup-length, nodup-map}
use Rattle.diagram.specs.Used.{used_rows, used_count}
use Rattle.diagram.proofs.Used.{mem-used_rows, used_rows-mem, nodup-used_rows}
use Rattle.diagram.specs.Need.{need}
use Rattle.diagram.proofs.Needed.{class, classes, class_eq, need-length, needed_source, mem-needed, nodup-needed, part_reads}
use Rattle.diagram.specs.Reach.{Reach}
use Rattle.diagram.proofs.Reach.{reach-part, cofactor-row, den_reads_all, tab, tab_inj}
use Rattle.diagram.specs.Post.{full, Denotes, OpPost}

-- g or its complement is a cofactor of a function of the list.
pub record Part (fs : List Fn) (g : Fn) : Type 0 where
  pub of : Fn
  pub listed : Mem of fs
  pub part : PartOf of g

module _ {m N : ℕ} {rows : Rows} (wf : WellFormed m N rows) where
  -- Functions that a table denotes need at most its used rows.
  pub need-le : (fs : List Fn) → ((f : Fn) → Mem f fs → (a : ℕ) × Denotes m rows a f) → need m fs ≤ used_count rows N
  need-le fs held =
      let n = nodup-length (classes m fs) (map (tab wf) (used_rows rows N)) (nodup-needed m fs) (λ t h.
      let s = needed_source m fs t h in
      let (a, d) = held s.of s.listed in
      let c : CofactorOf (den m rows a) s.part =
      record { upto = s.cofactor.upto; fixed = s.cofactor.fixed; same = λ v. s.cofactor.same v ∙ sym (d.same _) }
      in
      let (i, r, w, q) = cofactor-row wf (a ∷ []) a s.part (here refl) d.arrow c s.varies in
      mem_cast (sym (q ∙ s.told)) (mem-map (tab wf) (mem-used_rows rows N i (wf.bounded i w) w)))
      in
      let c = need-length m fs in
      let e = length-map (used_rows rows N) (tab wf) in
      omega arith

  -- At least `limit` rows are used, all by parts of some functions, and one more part is denoted by no arrow: the functions need more than
  -- `limit` rows.
  pub need_gt : {limit : ℕ} (fs : List Fn) → ((f : Fn) → Mem f fs → Reads 0 m f) → limit ≤ used_count rows N
      → ((i : ℕ) → rows.used i ≡ true → Part fs (den m rows (row i))) → (lost : Fn) → Part fs lost → Varies lost
      → ((a : ℕ) → Arrow rows a → ((v : Val) → den m rows a v ≡ lost v) → ⊥) → limit < need m fs
  need_gt fs reads run_out part lost p y absent =
      let is = used_rows rows N in
      let used : (i : ℕ) → Mem i is → rows.used i ≡ true = λ i h. (used_rows-mem rows N i h).1 in
      let apart : Mem (class m lost) (map (tab wf) is) → ⊥ = λ h.
      let (i, mi, e) = mem-of-map (tab wf) is h in
      let ui = row-arrow rows i (used i mi) in
      let (b, q) = class_eq (den_reads_all wf (row i) ui) (part_reads (reads p.of p.listed) p.part) e in
      absent (carry b (row i)) (carry_arrow rows b (row i) ui) (λ v. den-carry m rows b (row i) v ∙ q v)
      in
      let inj : (i j : ℕ) → Mem i is → Mem j is → tab wf i ≡ tab wf j → i ≡ j = λ i j mi mj e. tab_inj wf i j (used i mi) (used j mj) e in
      let within : Within (class m lost ∷ map (tab wf) is) (classes m fs) = λ t h.
      ⊎_elim (λ e. mem_cast e (mem-needed fs p.listed (reads p.of p.listed) p.part y))
      (λ q.
      let (i, mi, e) = mem-of-map (tab wf) is q in
      let s = part i (used i mi) in
      mem_cast (sym e) (mem-needed fs s.listed (reads s.of s.listed) s.part (row-varies wf i (used i mi))))
      (mem-cases h)
      in
      let c = need-length m fs in
      let n = nodup-length (class m lost ∷ map (tab wf) is) (classes m fs) (apart, nodup-map (tab wf) is inj (nodup-used_rows rows N))
      within in
      let e = length-map is (tab wf) in
      omega arith

  -- In a table of which only what the roots reach is used, every used row is a part of what they denote.
  pub collected_parts : (roots : List ℕ) → ((a : ℕ) → Mem a roots → Arrow rows a) → ((i : ℕ) → rows.used i ≡ true → Reach rows roots i)
      → (i : ℕ) → rows.used i ≡ true → Part (map (den m rows) roots) (den m rows (row i))
  collected_parts roots arrows all i u =
      let (a, ma, c) = reach-part wf arrows (all i u) in
      record { of = den m rows a; listed = mem-map (den m rows) ma; part = c }

-- A try that ran out, from a table of which only parts of what is live were used: they and the result need more than `limit` rows.
pub try_full : {m N limit : ℕ} {before after : Rows} {F : Fn} → WellFormed m N before → (live : List Fn)
    → ((f : Fn) → Mem f (F ∷ live) → Reads 0 m f) → ((i : ℕ) → before.used i ≡ true → Part live (den m before (row i)))
    → OpPost m N limit before after full F → limit < need m (F ∷ live)
try_full {m} {before = before} {F = F} wf live reads parts p =
    let r = p.result in
    need_gt p.wf (F ∷ live) reads r.run_out
    (λ i u. by_cases (Bool-discrete (before.used i) true)
    (λ w.
    let s = parts i w in
    record {
      of = s.of;
      listed = there s.listed;
      part = part_same s.part (den_extends p.kept wf m (row i) (row-arrow before i w));
    })
    (λ w. record { of = F; listed = here refl; part = p.fresh i u (not-true _ w) }))
    r.lost (record { of = F; listed = here refl; part = r.part }) r.varies r.absent
