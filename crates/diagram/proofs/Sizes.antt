-- Laws of what specs/Sizes.antt defines. Assumes nothing.
use mathlib.Core.Path.{◌≡◌, refl, sym, ap, ◌∙◌, subst}
use mathlib.Core.Logic.{◌⊎◌, inl, inr, ⊎_elim}
use mathlib.Core.Bool.{Bool}
use mathlib.Core.List.Memᴰ.{cases_cons as mem-cases}
use mathlib.Core.List.Memᴰ.{head as here}
use mathlib.Core.List.{List, [], ◌∷◌, ◌++◌, map, Memᴰ as Mem}
use mathlib.Core.List.Memᴰ.{append_cases}
use mathlib.Core.List.Memᴰ.{cast as mem_cast}
use mathlib.Core.List.Memᴰ.{map as mem-map}
use mathlib.Core.List.Memᴰ.{of_map as mem-of-map}
use mathlib.Core.List.Memᴰ.{append_left}
use mathlib.Core.List.Memᴰ.{append_right}
use Prim.Native.Nat.{ℕ, ◌+◌, ◌≤◌}
use native.Mathlib.Omega.{arith}
use lib.ListN.{length, length-map, length-append}
use Rattle.diagram.specs.Level.{Fn, CofactorOf, Varies}
use Rattle.diagram.proofs.Level.{Reads, part-cofactor}
use Rattle.diagram.specs.Rows.{Rows, Leads, Arrow, den, WellFormed}
use Rattle.diagram.proofs.Canon.{row-varies}
use Rattle.diagram.specs.Count.{NoDup, Within}
use Rattle.diagram.proofs.Count.{nodup-length, nodup_append}
use Rattle.diagram.specs.Need.{need}
use Rattle.diagram.proofs.Needed.{class, classes, need-length, needed_source, mem-needed, nodup-needed}
use Rattle.diagram.specs.Reach.{Reach}
use Rattle.diagram.proofs.Reach.{den_reads_all, reach-used, reach-part, tab, cofactor-row, reach-count}
use Rattle.diagram.specs.Keep.{Keeps}
use Rattle.diagram.proofs.Keep.{keeps_reach, keeps_reach_back, reach-within}
use Rattle.diagram.specs.Sizes.{Reaches, Outside}

-- They are as many as the roots need.
pub reaches_need : {m N n : ℕ} {rows : Rows} {roots : List ℕ} → WellFormed m N rows → ((a : ℕ) → Mem a roots → Arrow rows a)
    → Reaches rows roots n
    → n ≡ need m (map (den m rows) roots)
reaches_need {roots = roots} wf arrows r = sym r.count ∙ reach-count wf roots arrows r.list r.only r.all r.once

-- Which roots are arrows to rows is all that counts.
pub reaches_same : {n : ℕ} {rows : Rows} {xs ys : List ℕ} → ((a i : ℕ) → Leads a i → Mem a xs → Mem a ys)
    → ((a i : ℕ) → Leads a i → Mem a ys → Mem a xs)
    → Reaches rows xs n → Reaches rows ys n
reaches_same f g r = record {
  list = r.list;
  once = r.once;
  only = λ i h. reach-within f (r.only i h);
  all = λ i t. r.all i (reach-within g t);
  count = r.count;
}

-- Roots that are kept reach as many.
pub reaches_keeps : {n : ℕ} {before after : Rows} {roots : List ℕ} → Keeps before after roots → Reaches before roots n
    → Reaches after roots n
reaches_keeps k r = record {
  list = r.list;
  once = r.once;
  only = λ i h. keeps_reach k (r.only i h);
  all = λ i t. r.all i (keeps_reach_back k t);
  count = r.count;
}

-- More roots, and the rows that they reach and the first do not, each once.
pub reaches_more : {n : ℕ} {rows : Rows} {base roots : List ℕ} (new : List ℕ) → Within base roots → NoDup new
    → ((i : ℕ) → Mem i new → Reach rows roots i)
    → ((i : ℕ) → Mem i new → Reach rows base i → ⊥) → ((i : ℕ) → Reach rows roots i → Reach rows base i ⊎ Mem i new) → Reaches rows base n
    → Reaches rows roots (n + length new)
reaches_more {n} new w once only apart all r = record {
  list = r.list ++ new;
  once = nodup_append r.list new r.once once (λ i h g. apart i g (r.only i h));
  only = λ i h. ⊎_elim (λ g. reach-within (λ a j e. w a) (r.only i g)) (λ g. only i g) (append_cases r.list h);
  all = λ i t. ⊎_elim (λ g. append_left new (r.all i g)) (λ g. append_right r.list g) (all i t);
  count = length-append r.list new ∙ ap (λ (k : ℕ). k + length new) r.count;
}

-- It stays so where arrow and base are kept.
pub outside_keeps : {before after : Rows} {base : List ℕ} {x k : ℕ} → Keeps before after base → Keeps before after (x ∷ [])
    → Outside before base x k → Outside after base x k
outside_keeps kb kx o = record {
  rest = o.rest;
  all = λ i t. ⊎_elim (λ r. inl (keeps_reach kb r)) (λ h. inr h) (o.all i (keeps_reach_back kx t));
  counted = o.counted;
}

-- Functions need at most as many rows as a list has entries that has the classes of all their non-constant cofactors.
pub need-within : (m : ℕ) (fs : List Fn) (ts : List (List Bool)) → ((f g : Fn) → Mem f fs → CofactorOf f g → Varies g → Mem (class m g) ts)
    → need m fs ≤ length ts
need-within m fs ts all =
    let n = nodup-length (classes m fs) ts (nodup-needed m fs) (λ t h.
    let s = needed_source m fs t h in
    mem_cast (sym s.told) (all s.of s.part s.listed s.cofactor s.varies))
    in
    let e = need-length m fs in
    omega arith

-- Each root denotes one of some functions of m levels.
pub record Rooted (m : ℕ) (rows : Rows) (fs : List Fn) (roots : List ℕ) : Type 0 where
  pub reads : (f : Fn) → Mem f fs → Reads 0 m f
  pub listed : (b : ℕ) → Mem b roots → Arrow rows b × Mem (den m rows b) fs

module _ {m N : ℕ} {rows : Rows} (wf : WellFormed m N rows) where
  -- The functions of the roots themselves.
  pub rooted_own : (roots : List ℕ) → ((b : ℕ) → Mem b roots → Arrow rows b) → Rooted m rows (map (den m rows) roots) roots
  rooted_own roots arrows = record {
    reads = λ f mf. let (b, mb, e) = mem-of-map (den m rows) roots mf in subst (Reads 0 m) e (den_reads_all wf b (arrows b mb));
    listed = λ b mb. (arrows b mb, mem-map (den m rows) mb);
  }

  -- A row that is reached from the roots is among what their functions need.
  pub row-needed : {fs : List Fn} {roots : List ℕ} → Rooted m rows fs roots → (i : ℕ) → Reach rows roots i → Mem (tab wf i) (classes m fs)
  row-needed {fs} {roots} p i r =
      let arrows : (b : ℕ) → Mem b roots → Arrow rows b = λ b h. (p.listed b h).0 in
      let (b, mb, c) = reach-part wf arrows r in
      mem-needed fs (p.listed b mb).1 (den_reads_all wf b (arrows b mb)) c (row-varies wf i (reach-used wf arrows r))

-- One arrow more, beside roots that reach what the base does, needs at most its rows outside the base more.
pub need-outside : {m N : ℕ} {rows : Rows} {base : List ℕ} → WellFormed m N rows → (roots : List ℕ) → ((a : ℕ) → Mem a roots → Arrow rows a)
    → Within base roots
    → (x k : ℕ) → Arrow rows x → Outside rows base x k → need m (map (den m rows) (x ∷ roots)) ≤ k + need m (map (den m rows) roots)
need-outside {m} {rows = rows} wf roots arrows w x k u o =
    let p = rooted_own wf roots arrows in
    let fs = map (den m rows) roots in
    let xs = classes m fs in
    let ys = map (tab wf) o.rest in
    let all = need-within m (den m rows x ∷ fs) (xs ++ ys) (λ f g mf c y.
    ⊎_elim (λ e.
    let (i, t, v, q) = cofactor-row wf (x ∷ []) x g (here refl) u (subst (λ f. CofactorOf f g) e c) y in
    mem_cast (sym q)
    (⊎_elim (λ b. append_left {s = xs} ys (row-needed wf p i (reach-within (λ a j e. w a) b)))
    (λ b. append_right xs (mem-map (tab wf) b)) (o.all i t)))
    (λ h. append_left {s = xs} ys (mem-needed fs h (p.reads f h) (part-cofactor c) y))
    (mem-cases mf))
    in
    omega (arith, all, need-length m fs, length-append xs ys, length-map o.rest (tab wf), o.counted)
