-- Laws of what specs/Counted.antt defines. Assumes nothing.
use mathlib.Core.Path.{◌≡◌, refl, sym, ap, ap₂, ◌∙◌, subst}
use mathlib.Core.Logic.{⊎_elim}
use mathlib.Core.Bool.{Bool, true, false, cond, true≢false}
use mathlib.Core.List.Memᴰ.{head as here}
use mathlib.Core.List.Memᴰ.{tail as there}
use mathlib.Core.List.{List, [], ◌∷◌, ◌++◌, map, Memᴰ as Mem}
use mathlib.Core.List.Memᴰ.{cases_cons as mem-cases}
use mathlib.Core.List.Memᴰ.{cast as mem_cast}
use mathlib.Core.List.Memᴰ.{not-nil as mem-nil}
use mathlib.Core.List.Memᴰ.{of_map as mem-of-map}
use mathlib.Core.List.Memᴰ.{append_cases}
use mathlib.Core.List.Memᴰ.{append_left as mem-left}
use Prim.Native.Nat.{ℕ, zero, suc, ◌+◌, ◌/◌, ◌≤◌}
use native.Mathlib.Omega.{arith}
use lib.Dec.{T, eqb, eqb_refl, eqb→eq}
use lib.ListN.{length, length-append}
use Rattle.mucalculus.specs.Sets.{same}
use Rattle.mucalculus.proofs.Sets.{same_refl, same-eq, and_in, and_out, or_left, or_right, or_out}
use Rattle.mucalculus.specs.Means.{bit}
use Rattle.diagram.specs.Rows.{Rows, target, child}
use Rattle.diagram.specs.Count.{NoDup}
use Rattle.diagram.proofs.Count.{nodup-same-length, nodup-map}
use Rattle.batch.specs.Visits.{Visit, after, visits, visits_all, same_visit, listed, distinct, row_reads, singly}
use Rattle.batch.specs.Counted.{Counted}

pub counted_same : {P Q : Visit → Type 0} {r q : ℕ} → ((v : Visit) → P v → Q v) → ((v : Visit) → Q v → P v) → Counted P r → Counted Q q
    → r ≡ q
counted_same to back c d =
    sym c.size
    ∙ nodup-same-length c.list d.list c.nodup d.nodup (λ v m. d.all v (to v (c.only v m)))
    (λ v m. c.all v (back v (d.only v m)))
    ∙ d.size

-- the tests say what they look like
same_visit_lem : (v w : Visit) → T (same_visit v w) → v ≡ w
same_visit_lem v w t =
    let (p, q) = and_out (eqb v.0 w.0) (same v.1 w.1) t in
    ap₂ (λ (x : ℕ) (y : List Bool). (x, y)) (eqb→eq v.0 w.0 p) (same-eq v.1 w.1 q)

visit-same : (v w : Visit) → v ≡ w → T (same_visit v w)
visit-same v w e = subst (λ (x : Visit). T (same_visit v x)) e (and_in (eqb v.0 v.0) (same v.1 v.1) (eqb_refl v.0)
    (same_refl v.1))

listed-mem : (v : Visit) (vs : List Visit) → T (listed v vs) → Mem v vs
listed-mem v [] t = absurd t
listed-mem v (w ∷ ws) t = ⊎_elim (λ p. here (same_visit_lem v w p)) (λ q. there (listed-mem v ws q)) (or_out (same_visit v w) (listed v ws) t)

mem-listed : (v : Visit) (vs : List Visit) → Mem v vs → T (listed v vs)
mem-listed v [] m = absurd (mem-nil m)
mem-listed v (w ∷ ws) m = ⊎_elim
    (λ e. or_left (same_visit v w) (listed v ws) (visit-same v w e))
    (λ t. or_right (same_visit v w) (listed v ws) (mem-listed v ws t))
    (mem-cases m)

-- DISTINCT counts the members
distinct-step : (v : Visit) (vs : List Visit) (n : ℕ) (b : Bool) → listed v vs ≡ b → Counted (λ w. Mem w vs) n
    → Counted (λ w. Mem w (v ∷ vs)) (cond b n (suc n))
distinct-step v vs n true e c = record {
  list = c.list;
  nodup = c.nodup;
  only = λ w m. there (c.only w m);
  all = λ w m. ⊎_elim (λ q. mem_cast q (c.all v (listed-mem v vs (subst T (sym e) tt)))) (λ t. c.all w t) (mem-cases m);
  size = c.size;
}
distinct-step v vs n false e c = record {
  list = v ∷ c.list;
  nodup = ((λ m. subst T e (mem-listed v vs (c.only v m))), c.nodup);
  only = λ w m. ⊎_elim (λ q. here q) (λ t. there (c.only w t)) (mem-cases m);
  all = λ w m. ⊎_elim (λ q. here q) (λ t. there (c.all w t)) (mem-cases m);
  size = ap suc c.size;
}

pub distinct-counted : (vs : List Visit) → Counted (λ w. Mem w vs) (distinct vs)
unfolding distinct
distinct-counted [] = record { list = []; nodup = tt; only = λ w m. m; all = λ w m. m; size = refl }
distinct-counted (v ∷ vs) = distinct-step v vs (distinct vs) (listed v vs) refl (distinct-counted vs)

distinct-le : (vs : List Visit) → distinct vs ≤ length vs
unfolding distinct
distinct-le [] = omega arith
distinct-le (v ∷ vs) = go (listed v vs) (distinct-le vs)
  where
    go : (b : Bool) → distinct vs ≤ length vs → cond b (distinct vs) (suc (distinct vs)) ≤ suc (length vs)
    go true h = omega arith
    go false h = omega arith

-- ---- one question

abbrev rest : List Bool → List Bool
rest [] = []
rest (x ∷ xs) = xs

abbrev starts : List Bool → Bool
starts [] = true
starts (x ∷ xs) = false

after_inj : (b : Bool) (v w : Visit) → after b v ≡ after b w → v ≡ w
after_inj b v w e = ap₂ (λ (x : ℕ) (y : List Bool). (x, y)) (ap (λ (z : Visit). z.0) e) (ap (λ (z : Visit). rest z.1) e)

-- a row that is read at the start is read after no answer
pub start-apart : (i : ℕ) (b : Bool) (vs : List Visit) → Mem (i, []) (map (after b) vs) → ⊥
start-apart i b vs m = let (v, mv, e) = mem-of-map (after b) vs m in true≢false (sym (ap (λ (z : Visit). starts z.1) e))

pub nodup-after : (b : Bool) (vs : List Visit) → NoDup vs → NoDup (map (after b) vs)
nodup-after b vs d = nodup-map (after b) vs (λ v w _ _ e. after_inj b v w e) d

-- no row is read twice
nodup-visits : (f : ℕ) (rows : Rows) (k s : ℕ) → NoDup (visits f rows k s)
unfolding visits
nodup-visits zero rows k s = tt
nodup-visits (suc f) rows zero s = tt
nodup-visits (suc f) rows (suc i) s =
    let b = bit (rows.level i / 2) s in
    let vs = visits f rows (target (child rows i b)) s in
    ((λ m. start-apart i b vs m), nodup-after b vs (nodup-visits f rows (target (child rows i b)) s))

-- so a single question's reads are all that it visits
single : (m : ℕ) (rows : Rows) (a s : ℕ) → row_reads m rows a (s ∷ []) ≡ length (visits m rows (target a) s)
unfolding row_reads visits_all
single m rows a s = counted_same
    (λ v h. ⊎_elim (λ x. x) (λ x. absurd (mem-nil x)) (append_cases (visits m rows (target a) s) h))
    (λ v h. mem-left {s = visits m rows (target a) s} [] h)
    (distinct-counted (visits m rows (target a) s ++ []))
    (record { list = visits m rows (target a) s; nodup = nodup-visits m rows (target a) s; only = λ v h. h; all = λ v h. h; size = refl })

-- "THAT FIGURE IS NEVER ABOVE THE SUM OVER SINGLE QUESTIONS"
together : (m : ℕ) (rows : Rows) (a : ℕ) (ss : List ℕ) → length (visits_all m rows a ss) ≡ singly m rows a ss
unfolding visits_all
together m rows a [] = refl
together m rows a (s ∷ ss) =
    length-append (visits m rows (target a) s) (visits_all m rows a ss)
    ∙ ap₂ (λ (x y : ℕ). x + y) (sym (single m rows a s)) (together m rows a ss)

pub reads_few : (m : ℕ) (rows : Rows) (a : ℕ) (ss : List ℕ) → row_reads m rows a ss ≤ singly m rows a ss
unfolding row_reads
reads_few m rows a ss = let d = distinct-le (visits_all m rows a ss) in let t = together m rows a ss in omega arith
