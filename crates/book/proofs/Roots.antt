-- The roots of a table, the arrows in its filled registers and relations, hold what is live in the book that it shows. Assumes nothing.
use mathlib.Core.Path.{◌≡◌, refl, sym, ap, ◌∙◌, subst}
use mathlib.Core.Bool.{Bool, true, false, cond}
use mathlib.Core.Logic.{⊎_elim}
use mathlib.Core.List.Memᴰ.{head as here}
use mathlib.Core.List.Memᴰ.{not-nil as mem-nil}
use mathlib.Core.List.Memᴰ.{tail as there}
use mathlib.Core.List.{List, [], ◌++◌, Memᴰ as Mem}
use mathlib.Core.List.Memᴰ.{append_left as mem-left}
use mathlib.Core.List.Memᴰ.{append_right as mem-right}
use mathlib.Core.List.Memᴰ.{cases_cons as mem-cases}
use mathlib.Core.List.Memᴰ.{append_cases}
use mathlib.Core.Option.{Option, none, some}
use Prim.Native.Nat.{ℕ, zero, suc, ◌*◌, ◌<◌}
use native.Mathlib.Omega.{arith}
use Rattle.diagram.specs.Level.{Fn}
use Rattle.diagram.specs.Count.{Within}
use Rattle.diagram.specs.Rows.{Rows}
use Rattle.book.specs.Bridge.{fn_of, fn_of_pairs}
use Rattle.book.specs.Run.{add_filled, contents}
use Rattle.book.specs.Book.{Book, Call, effect, stores, registers, relations, live_of}
use Rattle.book.proofs.Stored.{none-some, some_inj}
use Rattle.book.specs.Table.{Table, Reply, Place, Shows, add_root, arrows_of, roots_of, noted, stores_valid, kept_at}
use Rattle.book.specs.Table.{kept_roots}
use Rattle.book.specs.Held.{Held}
use Rattle.book.proofs.Held.{held-push}

pub arrows_of-mem : (k : ℕ) (h : ℕ → Option ℕ) (i a : ℕ) → i < k → h i ≡ some a → Mem a (arrows_of k h)
arrows_of-mem zero h i a l e = absurd (omega arith)
arrows_of-mem (suc k) h zero a l e = subst (λ (o : Option ℕ). Mem a (add_root o (arrows_of k (λ i. h (suc i))))) (sym e) (here refl)
arrows_of-mem (suc k) h (suc i) a l e = go (h 0) (arrows_of-mem k (λ j. h (suc j)) i a (omega arith) e)
  where
    go : (o : Option ℕ) → Mem a (arrows_of k (λ j. h (suc j))) → Mem a (add_root o (arrows_of k (λ j. h (suc j))))
    go none m = m
    go (some b) m = there m

held-nil : (m : ℕ) (rows : Rows) → Held m rows [] []
held-nil m rows = record { each = λ f i. absurd (mem-nil i); only = λ a i. absurd (mem-nil i) }

held-append : {m : ℕ} {rows : Rows} {as' bs : List ℕ} {fs gs : List Fn} → Held m rows as' fs → Held m rows bs gs
    → Held m rows (as' ++ bs) (fs ++ gs)
held-append {as' = as'} {bs} {fs} {gs} h k = record {
  each = λ f i. ⊎_elim (λ j. let (a, x, d) = h.each f j in (a, mem-left {s = as'} bs x, d))
      (λ j. let (a, x, d) = k.each f j in (a, mem-right as' x, d)) (append_cases fs i);
  only = λ a i. ⊎_elim (λ j. let (f, x, d) = h.only a j in (f, mem-left {s = fs} gs x, d))
      (λ j. let (f, x, d) = k.only a j in (f, mem-right fs x, d)) (append_cases as' i);
}

-- places that show places hold their contents
held-places : {X : Type 0} (m : ℕ) (rows : Rows) (f : X → Fn) (k : ℕ) (h : ℕ → Option X) (g : ℕ → Option ℕ)
    → ((i : ℕ) → i < k → Place m rows f (h i) (g i))
    → Held m rows (arrows_of k g) (contents f k h)
held-places m rows f zero h g p = held-nil m rows
held-places {X} m rows f (suc k) h g p =
    go (h 0) (g 0) (p 0 (omega arith)) (held-places m rows f k (λ i. h (suc i)) (λ i. g (suc i)) (λ i l. p (suc i) (omega arith)))
  where
    go : (o : Option X) (u : Option ℕ) → Place m rows f o u → Held m rows (arrows_of k (λ i. g (suc i))) (contents f k (λ i. h (suc i)))
        → Held m rows (add_root u (arrows_of k (λ i. g (suc i)))) (add_filled f o (contents f k (λ i. h (suc i))))
    go none none q r = r
    go none (some a) q r = absurd q
    go (some x) none q r = absurd q
    go (some x) (some a) q r = held-push r q

-- a table's roots hold what is live in the book that it shows
pub shows-held : (b : Book) (t : Table) → Shows b t → Held (2 * b.n) t.rows (roots_of t) (live_of b)
shows-held b t s =
    held-push
    (held-append (held-places (2 * b.n) t.rows (fn_of b.n) registers b.reg t.reg s.reg)
    (held-places (2 * b.n) t.rows (fn_of_pairs b.n) relations b.rel t.rel s.rel)) s.valid

-- ---- fewer roots

-- an arrow of a filled place
pub of_arrows_of : (k : ℕ) (h : ℕ → Option ℕ) (a : ℕ) → Mem a (arrows_of k h) → (i : ℕ) × (i < k) × (h i ≡ some a)
of_arrows_of zero h a m = absurd (mem-nil m)
of_arrows_of (suc k) h a m = go (h 0) refl (of_arrows_of k (λ i. h (suc i)) a) m
  where
    Below : Type 0
    Below = (i : ℕ) × (i < k) × (h (suc i) ≡ some a)

    up : Below → (i : ℕ) × (i < suc k) × (h i ≡ some a)
    up w = (suc w.0, omega (arith, w.1), w.2)

    go : (o : Option ℕ) → h 0 ≡ o → (Mem a (arrows_of k (λ i. h (suc i))) → Below) → Mem a (add_root o (arrows_of k (λ i. h (suc i))))
        → (i : ℕ) × (i < suc k) × (h i ≡ some a)
    go none e below x = up (below x)
    go (some b) e below x = ⊎_elim (λ q. (0, omega arith, e ∙ ap some (sym q))) (λ y. up (below y)) (mem-cases x)

-- roots that are filled in g too
pub roots-within : (u : Table) (o : Option ℕ) (h g : ℕ → Option ℕ) → ((a : ℕ) → o ≡ some a → u.valid ≡ a)
    → ((i a : ℕ) → i < registers → h i ≡ some a → u.reg i ≡ some a)
    → ((i a : ℕ) → i < relations → g i ≡ some a → u.rel i ≡ some a)
    → Within (add_root o (arrows_of registers h ++ arrows_of relations g)) (roots_of u)
roots-within u o h g v p q a m = first o refl m
  where
    others : Mem a (arrows_of registers h ++ arrows_of relations g) → Mem a (roots_of u)
    others m =
        there (⊎_elim
        (λ x. let w = of_arrows_of registers h a x in
        mem-left {s = arrows_of registers u.reg} (arrows_of relations u.rel)
        (arrows_of-mem registers u.reg w.0 a w.1 (p w.0 a w.1 w.2)))
        (λ x. let w = of_arrows_of relations g a x in
        mem-right (arrows_of registers u.reg) (arrows_of-mem relations u.rel w.0 a w.1 (q w.0 a w.1 w.2)))
        (append_cases (arrows_of registers h) m))

    first : (x : Option ℕ) → o ≡ x → Mem a (add_root x (arrows_of registers h ++ arrows_of relations g)) → Mem a (roots_of u)
    first none e m = others m
    first (some b) e m = ⊎_elim (λ i. here (i ∙ sym (v b e))) others (mem-cases m)

-- what is none where a test holds, and else is filled
cond-filled : (t : Bool) (o : Option ℕ) (a : ℕ) → cond t none o ≡ some a → (t ≡ false) × (o ≡ some a)
cond-filled true o a e = absurd (none-some e)
cond-filled false o a e = (refl, e)

-- what a call leaves of the roots are roots before it
pub kept-before : (c : Call) (y : Reply) (t : Table) → Within (kept_roots c y t) (roots_of t)
kept-before c y t =
    roots-within t (cond (stores_valid c y) none (some t.valid)) (kept_at (effect c).reg y.number t.reg)
    (kept_at (effect c).rel y.number t.rel)
    (λ a e. some_inj (cond-filled (stores_valid c y) (some t.valid) a e).1)
    (λ i a l e. (cond-filled (stores (effect c).reg y.number i) (t.reg i) a e).1)
    (λ i a l e. (cond-filled (stores (effect c).rel y.number i) (t.rel i) a e).1)

-- and after it
pub kept-after : (c : Call) (y : Reply) (t u : Table) → ((r : ℕ) → r < registers → u.reg r ≡ noted (t.reg r) c y r)
    → ((q : ℕ) → q < relations → stores (effect c).rel y.number q ≡ false → u.rel q ≡ t.rel q)
    → (stores_valid c y ≡ false → u.valid ≡ t.valid) → Within (kept_roots c y t) (roots_of u)
kept-after c y t u p q v =
    roots-within u (cond (stores_valid c y) none (some t.valid)) (kept_at (effect c).reg y.number t.reg)
    (kept_at (effect c).rel y.number t.rel)
    (λ a e. let w = cond-filled (stores_valid c y) (some t.valid) a e in v w.0 ∙ some_inj w.1)
    (λ i a l e. p i l ∙ other (stores (effect c).reg y.number i) (cond (effect c).fills (some y.value) none) (t.reg i) a e)
    (λ i a l e. let w = cond-filled (stores (effect c).rel y.number i) (t.rel i) a e in q i l w.0 ∙ w.1)
  where
    -- no target
    other : (b : Bool) (new old : Option ℕ) (a : ℕ) → cond b none old ≡ some a → cond b new old ≡ some a
    other true new old a e = absurd (none-some e)
    other false new old a e = e
