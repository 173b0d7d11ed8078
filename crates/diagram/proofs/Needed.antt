-- What `needed` holds: the tables of the non-constant cofactors of its functions, of each and its complement one. Assumes nothing.
use mathlib.Core.Path.{◌≡◌, refl, sym, ap, ◌∙◌, subst, fun_ext}
use mathlib.Core.Logic.{◌⊎◌, inl, inr, ⊎_elim, by_cases}
use mathlib.Core.Bool.{Bool, true, false, cond, not, ◌&&◌, ◌||◌, beq, true≢false, false≢true}
use mathlib.Core.List.{List, [], ◌∷◌, map, map-map, map-id, flat_map, head-eq_of_cons-eq, tail-eq_of_cons-eq, Memᴰ as Mem}
use mathlib.Core.List.Memᴰ.{cases_cons as mem-cases}
use mathlib.Core.List.Memᴰ.{head as here}
use mathlib.Core.List.Memᴰ.{not-nil as mem-nil}
use mathlib.Core.List.Memᴰ.{tail as there}
use mathlib.Core.List.Memᴰ.{append_left as mem-left}
use mathlib.Core.List.Memᴰ.{cast as mem_cast}
use mathlib.Core.List.Memᴰ.{map as mem-map}
use mathlib.Core.List.Memᴰ.{of_map as mem-of-map}
use mathlib.Core.List.Memᴰ.{append_cases}
use mathlib.Core.List.Memᴰ.{append_right as mem-right}
use Prim.Native.Nat.{ℕ, zero, suc, ◌≤◌, ◌<◌}
use native.Mathlib.Decide.{dec_le}
use native.Mathlib.Omega.{arith}
use lib.ListN.{length, length-map}
use lib.Dec.{T}
use Rattle.mucalculus.specs.Sets.{bit_lists, same}
use Rattle.mucalculus.proofs.Sets.{bit_lists-all, same-eq, same_refl, true_of}
use Rattle.diagram.specs.Level.{Val, Fn, turn, splice, CofactorOf, PartOf, Varies}
use Rattle.diagram.proofs.Level.{turn-turn, turn-back, turn_inj, splice-below, splice-above, Reads, varies-turn}
use Rattle.diagram.specs.Count.{NoDup, Within, up_to}
use Rattle.diagram.proofs.Count.{nodup-length, mem-up_to}
use Rattle.diagram.specs.Steps.{not_f}
use Rattle.diagram.specs.Need.{val, fix_levels, cofactors, truth_table, has, among, insert, distinct, needed, need}

-- Membership in a `flat_map`, both ways.
mem-flat_map : {A B : Type 0} (g : A → List B) {x : A} {y : B} (xs : List A) → Mem x xs → Mem y (g x) → Mem y (flat_map g xs)
unfolding flat_map
mem-flat_map g [] mx my = absurd (mem-nil mx)
mem-flat_map g {x} {y} (z ∷ xs) mx my =
    ⊎_elim (λ e. mem-left {s = g z} (flat_map g xs) (rw (← e) my)) (λ t. mem-right (g z) (mem-flat_map g xs t my)) (mem-cases mx)

mem_of_flat_map : {A B : Type 0} (g : A → List B) {y : B} (xs : List A) → Mem y (flat_map g xs) → (x : A) × Mem x xs × Mem y (g x)
unfolding flat_map
mem_of_flat_map g [] m = absurd (mem-nil m)
mem_of_flat_map g {y} (z ∷ xs) m =
    ⊎_elim (λ t. (z, here refl, t)) (λ t. let (x, mx, my) = mem_of_flat_map g xs t in (x, there mx, my)) (append_cases (g z) m)

-- The first k bits of a valuation.
unfoldable pub bits_of : ℕ → Val → List Bool
bits_of zero v = []
bits_of (suc k) v = v zero ∷ bits_of k (λ l. v (suc l))

pub length-bits_of : (k : ℕ) (v : Val) → length (bits_of k v) ≡ k
unfolding bits_of
length-bits_of zero v = refl
length-bits_of (suc k) v = ap suc (length-bits_of k (λ l. v (suc l)))

pub val-bits_of : (k : ℕ) (v : Val) (l : ℕ) → l < k → val (bits_of k v) l ≡ v l
unfolding bits_of
val-bits_of zero v l h = absurd (omega arith)
val-bits_of (suc k) v zero h = refl
val-bits_of (suc k) v (suc l) h = val-bits_of k (λ j. v (suc j)) l (omega arith)

pub mem-bits_of : (k : ℕ) (v : Val) → Mem (bits_of k v) (bit_lists k)
mem-bits_of k v = subst (λ (j : ℕ). Mem (bits_of k v) (bit_lists j)) (length-bits_of k v) (bit_lists-all (bits_of k v))

-- Equal tables say the same at each list of bits.
map_same : {A B : Type 0} (f g : A → B) {x : A} (xs : List A) → map f xs ≡ map g xs → Mem x xs → f x ≡ g x
map_same f g [] e m = absurd (mem-nil m)
map_same f g {x} (y ∷ xs) e m =
    ⊎_elim (λ h. ap f h ∙ head-eq_of_cons-eq e ∙ sym (ap g h)) (λ t. map_same f g xs (tail-eq_of_cons-eq e) t) (mem-cases m)

-- The value at a valuation is that at its first m bits.
at_bits : {m : ℕ} {f : Fn} → Reads 0 m f → (v : Val) → f (val (bits_of m v)) ≡ f v
at_bits {m} r v = r _ _ (λ l _ h. val-bits_of m v l h)

-- Two functions of m levels with one table are the same function.
truth_table_inj : {m : ℕ} {f g : Fn} → Reads 0 m f → Reads 0 m g → truth_table m f ≡ truth_table m g → (v : Val) → f v ≡ g v
unfolding truth_table
truth_table_inj {m} {f} {g} rf rg e v =
    sym (at_bits rf v) ∙ map_same (λ bits. f (val bits)) (λ bits. g (val bits)) (bit_lists m) e (mem-bits_of m v) ∙ at_bits rg v

truth_table_cong : (m : ℕ) {f g : Fn} → ((v : Val) → f v ≡ g v) → truth_table m f ≡ truth_table m g
truth_table_cong m e = ap (truth_table m) (fun_ext e)

-- The class of a table: the one of it and its complement that begins with 0.
abbrev first : List Bool → Bool
first [] = false
first (b ∷ bs) = b

unfoldable pub norm : List Bool → List Bool
norm t = map (turn (first t)) t

map-turn : (b c : Bool) (t : List Bool) → map (turn b) (map (turn c) t) ≡ map (turn (turn b c)) t
map-turn b c t = map-map (turn b) (turn c) t ∙ ap (λ (f : Bool → Bool). map f t) (fun_ext (λ x. turn-turn b c x))

map_back : (b : Bool) (t : List Bool) → map (turn b) (map (turn b) t) ≡ t
map_back b t = map-map (turn b) (turn b) t ∙ ap (λ (f : Bool → Bool). map f t) (fun_ext (λ x. turn-back b x)) ∙ map-id t

first-turn : (b : Bool) (t : List Bool) → map (turn (first (map (turn b) t))) (map (turn b) t) ≡ map (turn (first t)) t
first-turn b [] = refl
first-turn b (c ∷ t) = map-turn (turn b c) b (c ∷ t) ∙ ap (λ (d : Bool). map (turn d) (c ∷ t)) (twice b c)
  where
    twice : (x y : Bool) → turn (turn x y) x ≡ y
    twice false false = refl
    twice false true = refl
    twice true false = refl
    twice true true = refl

-- A table and its complement are of one class, and only they.
norm_turn : (b : Bool) (t : List Bool) → norm (map (turn b) t) ≡ norm t
unfolding norm
norm_turn b t = first-turn b t

norm_eq : (t s : List Bool) → norm t ≡ norm s → (b : Bool) × (map (turn b) t ≡ s)
unfolding norm
norm_eq t s e = (turn (first s) (first t), sym (map-turn (first s) (first t) t) ∙ ap (map (turn (first s))) e ∙ map_back (first s) s)

-- The class of a function of m levels.
unfoldable pub class : ℕ → Fn → List Bool
class m f = norm (truth_table m f)

table-turn : (m : ℕ) (b : Bool) (f : Fn) → truth_table m (λ v. turn b (f v)) ≡ map (turn b) (truth_table m f)
unfolding truth_table
table-turn m b f = sym (map-map (turn b) (λ bits. f (val bits)) (bit_lists m))

pub class_turn : (m : ℕ) (b : Bool) (f : Fn) {g : Fn} → ((v : Val) → g v ≡ turn b (f v)) → class m g ≡ class m f
unfolding class
class_turn m b f e = ap norm (truth_table_cong m e ∙ table-turn m b f) ∙ norm_turn b (truth_table m f)

pub class_eq : {m : ℕ} {f g : Fn} → Reads 0 m f → Reads 0 m g → class m f ≡ class m g → (b : Bool) × ((v : Val) → turn b (f v) ≡ g v)
unfolding class
class_eq {m} {f} {g} rf rg e =
    let (b, q) = norm_eq (truth_table m f) (truth_table m g) e in
    (b, truth_table_inj (λ v w h. ap (turn b) (rf v w h)) rg (table-turn m b f ∙ q))

-- The tests of bits, of tables and of lists of tables, as facts.
beq_true : (b c : Bool) → beq b c ≡ true → b ≡ c
beq_true true true e = refl
beq_true true false e = absurd (false≢true e)
beq_true false true e = absurd (false≢true e)
beq_true false false e = refl

beq_refl : (b : Bool) → beq b b ≡ true
beq_refl true = refl
beq_refl false = refl

or-true : (b c : Bool) → (b || c) ≡ true → (b ≡ true) ⊎ (c ≡ true)
or-true true c e = inl refl
or-true false c e = inr e

or_right : (b c : Bool) → c ≡ true → (b || c) ≡ true
or_right true c e = refl
or_right false c e = e

and-true : (b c : Bool) → (b && c) ≡ true → (b ≡ true) × (c ≡ true)
and-true true c e = (refl, e)
and-true false c e = absurd (false≢true e)

has-mem : (b : Bool) (t : List Bool) → has b t ≡ true → Mem b t
unfolding has
has-mem b [] e = absurd (false≢true e)
has-mem b (c ∷ cs) e = ⊎_elim (λ h. here (beq_true b c h)) (λ h. there (has-mem b cs h)) (or-true (beq b c) (has b cs) e)

mem-has : (b : Bool) (t : List Bool) → Mem b t → has b t ≡ true
unfolding has
mem-has b [] m = absurd (mem-nil m)
mem-has b (c ∷ cs) m =
    ⊎_elim (λ h. rw (← h, beq_refl b)) (λ h. or_right (beq b c) (has b cs) (mem-has b cs h)) (mem-cases m)

among-mem : (t : List Bool) (ts : List (List Bool)) → among t ts ≡ true → Mem (norm t) (map norm ts)
unfolding among
among-mem t [] e = absurd (false≢true e)
among-mem t (s ∷ ss) e =
    ⊎_elim (λ h. here
    (⊎_elim (λ g. ap norm (same-eq t s (subst T (sym g) tt)))
    (λ g. sym (norm_turn true t) ∙ ap norm (same-eq (map not t) s (subst T (sym g) tt)))
    (or-true (same t s) (same (map not t) s) h)))
    (λ h. there (among-mem t ss h)) (or-true (same t s || same (map not t) s) (among t ss) e)

same-yes : (t s : List Bool) → t ≡ s → same t s ≡ true
same-yes t s e = subst (λ (x : List Bool). same t x ≡ true) e (true_of (same t t) (same_refl t))

or_left : (b c : Bool) → b ≡ true → (b || c) ≡ true
or_left true c e = refl
or_left false c e = absurd (false≢true e)

same-turned : (t s : List Bool) (b : Bool) → map (turn b) t ≡ s → (same t s || same (map not t) s) ≡ true
same-turned t s false e = or_left (same t s) (same (map not t) s) (same-yes t s (sym (map-id t) ∙ e))
same-turned t s true e = or_right (same t s) (same (map not t) s) (same-yes (map not t) s e)

mem-among : (t : List Bool) (ts : List (List Bool)) → Mem (norm t) (map norm ts) → among t ts ≡ true
unfolding among
mem-among t [] m = absurd (mem-nil m)
mem-among t (s ∷ ss) m =
    ⊎_elim (λ h. let (b, q) = norm_eq t s h in or_left (same t s || same (map not t) s) (among t ss) (same-turned t s b q))
    (λ h. or_right (same t s || same (map not t) s) (among t ss) (mem-among t ss h)) (mem-cases m)

-- A table that is not constant.
abbrev pub mixed : List Bool → Bool
mixed t = has false t && has true t

insert_cases : (t : List Bool) (ts : List (List Bool)) (b c : Bool) → mixed t ≡ b → among t ts ≡ c
    → insert t ts ≡ cond b (cond c ts (t ∷ ts)) ts
unfolding insert
insert_cases t ts b c p q = rw (p, q)

-- What `distinct` keeps.
mem-insert : (t s : List Bool) (ts : List (List Bool)) → Mem s (insert t ts) → ((s ≡ t) × (mixed t ≡ true)) ⊎ Mem s ts
mem-insert t s ts m = go (mixed t) (among t ts) refl refl
  where
    go : (b c : Bool) → mixed t ≡ b → among t ts ≡ c → ((s ≡ t) × (mixed t ≡ true)) ⊎ Mem s ts
    go true true p q = inr (rw (insert_cases t ts true true p q) at m)
    go true false p q = ⊎_elim (λ e. inl (e, p)) (λ h. inr h) (mem-cases (rw (insert_cases t ts true false p q) at m))
    go false true p q = inr (rw (insert_cases t ts false true p q) at m)
    go false false p q = inr (rw (insert_cases t ts false false p q) at m)

insert-mem : (t s : List Bool) (ts : List (List Bool)) → ((s ≡ t) × (mixed t ≡ true)) ⊎ Mem (norm s) (map norm ts)
    → Mem (norm s) (map norm (insert t ts))
insert-mem t s ts h = go (mixed t) (among t ts) refl refl h
  where
    go : (b c : Bool) → mixed t ≡ b → among t ts ≡ c → ((s ≡ t) × (mixed t ≡ true)) ⊎ Mem (norm s) (map norm ts)
        → Mem (norm s) (map norm (insert t ts))
    go true true p q (inl e) = rw (insert_cases t ts true true p q) (mem_cast (ap norm e.0) (among-mem t ts q))
    go true false p q (inl e) = rw (insert_cases t ts true false p q) (here (ap norm e.0))
    go false true p q (inl e) = absurd (false≢true (sym p ∙ e.1))
    go false false p q (inl e) = absurd (false≢true (sym p ∙ e.1))
    go true true p q (inr h) = rw (insert_cases t ts true true p q) h
    go true false p q (inr h) = rw (insert_cases t ts true false p q) (there h)
    go false true p q (inr h) = rw (insert_cases t ts false true p q) h
    go false false p q (inr h) = rw (insert_cases t ts false false p q) h

nodup-insert : (t : List Bool) (ts : List (List Bool)) → NoDup (map norm ts) → NoDup (map norm (insert t ts))
nodup-insert t ts d = go (mixed t) (among t ts) refl refl
  where
    go : (b c : Bool) → mixed t ≡ b → among t ts ≡ c → NoDup (map norm (insert t ts))
    go true true p q = rw (insert_cases t ts true true p q) d
    go true false p q = rw (insert_cases t ts true false p q) ((λ m. true≢false (sym (mem-among t ts m) ∙ q)), d)
    go false true p q = rw (insert_cases t ts false true p q) d
    go false false p q = rw (insert_cases t ts false false p q) d

pub mem-distinct : (s : List Bool) (ts : List (List Bool)) → Mem s (distinct ts) → Mem s ts × (mixed s ≡ true)
unfolding distinct
mem-distinct s [] m = absurd (mem-nil m)
mem-distinct s (t ∷ ts) m =
    ⊎_elim (λ e. (here e.0, ap mixed e.0 ∙ e.1)) (λ h. let r = mem-distinct s ts h in (there r.0, r.1))
    (mem-insert t s (distinct ts) m)

pub distinct-mem : (s : List Bool) (ts : List (List Bool)) → Mem s ts → mixed s ≡ true → Mem (norm s) (map norm (distinct ts))
unfolding distinct
distinct-mem s [] m x = absurd (mem-nil m)
distinct-mem s (t ∷ ts) m x =
    insert-mem t s (distinct ts) (⊎_elim (λ e. inl (e, ap mixed (sym e) ∙ x)) (λ h. inr (distinct-mem s ts h x)) (mem-cases m))

pub nodup-distinct : (ts : List (List Bool)) → NoDup (map norm (distinct ts))
unfolding distinct
nodup-distinct [] = tt
nodup-distinct (t ∷ ts) = nodup-insert t (distinct ts) (nodup-distinct ts)

-- A function of m levels is constant exactly where its table is.
pub varies_mixed : {m : ℕ} {f : Fn} → Reads 0 m f → Varies f → mixed (truth_table m f) ≡ true
unfolding truth_table
varies_mixed {m} {f} r y =
    let at : (v : Val) (b : Bool) → f v ≡ b → has b (truth_table m f) ≡ true = λ v b e.
    mem-has b (truth_table m f) (mem_cast (sym (at_bits r v ∙ e)) (mem-map (λ bits. f (val bits)) (mem-bits_of m v)))
    in
    rw (at y.off false y.at_off) (at y.on true y.at_on)

pub mixed_varies : (m : ℕ) {f : Fn} → mixed (truth_table m f) ≡ true → Varies f
unfolding truth_table
mixed_varies m {f} e =
    let h = and-true (has false (truth_table m f)) (has true (truth_table m f)) e in
    let (x, mx, ex) = mem-of-map (λ bits. f (val bits)) (bit_lists m) (has-mem false (truth_table m f) h.0) in
    let (y, my, ey) = mem-of-map (λ bits. f (val bits)) (bit_lists m) (has-mem true (truth_table m f) h.1) in
    record { off = val x; on = val y; at_off = ex; at_on = ey }

-- A cofactor reads no more levels.
cofactor_reads : {m : ℕ} {f g : Fn} → Reads 0 m f → CofactorOf f g → Reads 0 m g
cofactor_reads r c v w h =
    c.same v ∙ r _ _ (λ l a b. by_cases (dec_le c.upto l)
    (λ k. splice-above c.upto c.fixed v l k ∙ h l a b ∙ sym (splice-above c.upto c.fixed w l k))
    (λ k. splice-below c.upto c.fixed v l (omega arith) ∙ sym (splice-below c.upto c.fixed w l (omega arith))))
    ∙ sym (c.same w)

pub part_reads : {m : ℕ} {f g : Fn} → Reads 0 m f → PartOf f g → Reads 0 m g
part_reads {g = g} r p v w h = turn_inj p.turned (g v) (g w) (cofactor_reads r p.cofactor v w h)

-- To fix the first bits of u is to fix its levels.
fix_levels-bits_of : (k : ℕ) (u : Val) (f : Fn) (v : Val) → fix_levels (bits_of k u) f v ≡ f (splice k u v)
unfolding fix_levels
fix_levels-bits_of k u f v =
    rw (length-bits_of k u)
    (ap f (fun_ext λ l. by_cases (dec_le k l)
    (λ h. splice-above k (val (bits_of k u)) v l h ∙ sym (splice-above k u v l h))
    (λ h. splice-below k (val (bits_of k u)) v l (omega arith) ∙ val-bits_of k u l (omega arith) ∙ sym (splice-below k u v l (omega arith)))))

-- The classes of the needed: as many as are needed.
unfoldable pub classes : ℕ → List Fn → List (List Bool)
classes m fs = map norm (needed m fs)

pub need-length : (m : ℕ) (fs : List Fn) → length (classes m fs) ≡ need m fs
unfolding classes need
need-length m fs = length-map (needed m fs) norm

-- What a class of the needed comes from: a function of the list, and a non-constant cofactor of it.
pub record Source (m : ℕ) (fs : List Fn) (t : List Bool) : Type 0 where
  pub of : Fn
  pub listed : Mem of fs
  pub part : Fn
  pub cofactor : CofactorOf of part
  pub varies : Varies part
  pub told : class m part ≡ t

pub needed_source : (m : ℕ) (fs : List Fn) (t : List Bool) → Mem t (classes m fs) → Source m fs t
unfolding classes class needed cofactors fix_levels
needed_source m fs t h =
    let (s, ms, es) = mem-of-map norm (needed m fs) h in
    let d = mem-distinct s (map (truth_table m) (flat_map (cofactors m) fs)) ms in
    let (g, mg, eg) = mem-of-map (truth_table m) (flat_map (cofactors m) fs) d.0 in
    let (f, mf, mc) = mem_of_flat_map (cofactors m) fs mg in
    let (k, mk, mb) = mem_of_flat_map (λ k. map (λ bits. fix_levels bits f) (bit_lists k)) (up_to (suc m)) mc in
    let (bits, mbits, eb) = mem-of-map (λ bits. fix_levels bits f) (bit_lists k) mb in
    record {
      of = f;
      listed = mf;
      part = g;
      cofactor = record { upto = length bits; fixed = val bits; same = λ v. ap (λ (q : Fn). q v) (sym eb) };
      varies = mixed_varies m (ap mixed eg ∙ d.1);
      told = ap norm eg ∙ es;
    }

-- Every non-constant cofactor of a listed function of m levels is among the needed.
mem-cofactors : (m k : ℕ) (u : Val) (f : Fn) → k ≤ m → Mem (fix_levels (bits_of k u) f) (cofactors m f)
unfolding cofactors
mem-cofactors m k u f h =
    mem-flat_map (λ j. map (λ bits. fix_levels bits f) (bit_lists j)) (up_to (suc m)) (mem-up_to (suc m) k (omega arith))
    (mem-map (λ bits. fix_levels bits f) (mem-bits_of k u))

mem-cofactor : {m : ℕ} {f g : Fn} (fs : List Fn) → Mem f fs → Reads 0 m f → CofactorOf f g → Varies g → Mem (class m g) (classes m fs)
unfolding classes class needed
mem-cofactor {m} {f} {g} fs mf r c y =
    by_cases (dec_le c.upto m)
    (λ h.
    let e : fix_levels (bits_of c.upto c.fixed) f ≡ g = fun_ext (λ v. fix_levels-bits_of c.upto c.fixed f v ∙ sym (c.same v)) in
    let mc : Mem g (flat_map (cofactors m) fs) = mem_cast (sym e)
    (mem-flat_map (cofactors m) fs mf (mem-cofactors m c.upto c.fixed f h)) in
    distinct-mem (truth_table m g) (map (truth_table m) (flat_map (cofactors m) fs)) (mem-map (truth_table m) mc)
    (varies_mixed (cofactor_reads r c) y))
    (λ h. absurd
    (false≢true (sym y.at_off ∙ c.same y.off
    ∙ r _ _
    (λ l a b. splice-below c.upto c.fixed y.off l (omega arith)
    ∙ sym (splice-below c.upto c.fixed y.on l (omega arith)))
    ∙ sym (c.same y.on) ∙ y.at_on)))

pub mem-needed : {m : ℕ} {f g : Fn} (fs : List Fn) → Mem f fs → Reads 0 m f → PartOf f g → Varies g → Mem (class m g) (classes m fs)
mem-needed {m} {g = g} fs mf r p y =
    mem_cast (sym (class_turn m p.turned g (λ v. refl))) (mem-cofactor fs mf r p.cofactor (varies-turn p.turned y))

pub nodup-needed : (m : ℕ) (fs : List Fn) → NoDup (classes m fs)
unfolding classes needed
nodup-needed m fs = nodup-distinct (map (truth_table m) (flat_map (cofactors m) fs))

-- Functions whose classes are among others need no more rows.
need_classes : (m : ℕ) (fs gs : List Fn) → Within (classes m fs) (classes m gs) → need m fs ≤ need m gs
need_classes m fs gs w =
    let n = nodup-length (classes m fs) (classes m gs) (nodup-needed m fs) w in
    let e = need-length m fs in
    let g = need-length m gs in
    omega arith

-- More functions need no fewer rows, and neither order nor repeats count.
needed-within : (m : ℕ) (fs gs : List Fn) → Within fs gs → Within (classes m fs) (classes m gs)
unfolding classes needed
needed-within m fs gs w t h =
    let (s, ms, es) = mem-of-map norm (needed m fs) h in
    let d = mem-distinct s (map (truth_table m) (flat_map (cofactors m) fs)) ms in
    let (g, mg, eg) = mem-of-map (truth_table m) (flat_map (cofactors m) fs) d.0 in
    let (f, mf, mc) = mem_of_flat_map (cofactors m) fs mg in
    mem_cast (sym es)
    (distinct-mem s (map (truth_table m) (flat_map (cofactors m) gs))
    (mem_cast (sym eg) (mem-map (truth_table m) (mem-flat_map (cofactors m) gs (w f mf) mc))) d.1)

pub need_mono : (m : ℕ) (fs gs : List Fn) → Within fs gs → need m fs ≤ need m gs
need_mono m fs gs w = need_classes m fs gs (needed-within m fs gs w)

pub need-same : (m : ℕ) (fs gs : List Fn) → Within fs gs → Within gs fs → need m fs ≡ need m gs
need-same m fs gs p q =
    let a = need_mono m fs gs p in
    let b = need_mono m gs fs q in
    omega arith

-- A complement is constant where the table is.
mixed_not : (t : List Bool) → mixed (map not t) ≡ true → mixed t ≡ true
mixed_not t e =
    let h = and-true (has false (map not t)) (has true (map not t)) e in
    let (x, mx, ex) = mem-of-map not t (has-mem false (map not t) h.0) in
    let (y, my, ey) = mem-of-map not t (has-mem true (map not t) h.1) in
    let low = mem-has false t (mem_cast (sym (ap not ey) ∙ turn-back true y) my) in
    rw low (mem-has true t (mem_cast (sym (ap not ex) ∙ turn-back true x) mx))

-- The classes of a complement are those of the function.
not_within : (m : ℕ) (f : Fn) (fs : List Fn) → Mem f fs → Within (classes m (not_f f ∷ fs)) (classes m fs)
unfolding classes needed cofactors fix_levels
not_within m f fs mf t h =
    let (s, ms, es) = mem-of-map norm (needed m (not_f f ∷ fs)) h in
    let d = mem-distinct s (map (truth_table m) (flat_map (cofactors m) (not_f f ∷ fs))) ms in
    let (g, mg, eg) = mem-of-map (truth_table m) (flat_map (cofactors m) (not_f f ∷ fs)) d.0 in
    let (k, mk, mc) = mem_of_flat_map (cofactors m) (not_f f ∷ fs) mg in
    mem_cast (sym es) (⊎_elim (λ e. own s g d.1 eg (subst (λ (x : Fn). Mem g (cofactors m x)) e mc))
    (λ i. distinct-mem s (map (truth_table m) (flat_map (cofactors m) fs))
    (mem_cast (sym eg) (mem-map (truth_table m) (mem-flat_map (cofactors m) fs i mc))) d.1) (mem-cases mk))
  where
    own : (s : List Bool) (g : Fn) → mixed s ≡ true → truth_table m g ≡ s → Mem g (cofactors m (not_f f))
        → Mem (norm s) (map norm (distinct (map (truth_table m) (flat_map (cofactors m) fs))))
    own s g x eg mc =
        let (k, mk, mb) = mem_of_flat_map (λ k. map (λ bits. fix_levels bits (not_f f)) (bit_lists k)) (up_to (suc m)) mc in
        let (bits, mbits, eb) = mem-of-map (λ bits. fix_levels bits (not_f f)) (bit_lists k) mb in
        let t = truth_table m (fix_levels bits f) in
        let q : s ≡ map not t = sym eg ∙ ap (truth_table m) (sym eb) ∙ table-turn m true (fix_levels bits f) in
        let mf' : Mem (fix_levels bits f) (cofactors m f) = mem-flat_map (λ k. map (λ bits. fix_levels bits f) (bit_lists k)) (up_to (suc m)) mk
        (mem-map (λ bits. fix_levels bits f) mbits) in
        mem_cast (ap norm q ∙ norm_turn true t)
        (distinct-mem t (map (truth_table m) (flat_map (cofactors m) fs)) (mem-map (truth_table m) (mem-flat_map (cofactors m) fs mf mf'))
        (mixed_not t (ap mixed (sym q) ∙ x)))

-- "Two functions that are each other's complement need one row", "NOT needs no new row"
pub need-not : (m : ℕ) (f : Fn) (fs : List Fn) → Mem f fs → need m (not_f f ∷ fs) ≡ need m fs
need-not m f fs mf =
    let a = need_mono m fs (not_f f ∷ fs) (λ g i. there i) in
    let b = need_classes m (not_f f ∷ fs) fs (not_within m f fs mf) in
    omega arith
