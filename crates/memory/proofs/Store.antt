-- Laws of what specs/Store.antt defines. Assumes nothing.
use mathlib.Core.Path.{◌≡◌, refl, sym, ap, ◌∙◌, subst, subst₂}
use mathlib.Core.Bool.{Bool, true, false, cond}
use mathlib.Core.Logic.{◌≢◌, by_cases}
use Prim.Native.Nat.{ℕ, suc, ◌+◌, ◌-◌, ◌*◌, ◌/◌, ◌%◌, ◌≤◌, ◌<◌}
use native.Mathlib.Decide.{ℕ_discrete, dec_lt}
use native.Mathlib.Omega.{arith}
use native.Mathlib.Numerals.{add-one}
use lib.Dec.{eqb, ltb}
use borrow.Author.Tests.{eq-eqb, ne_eqb, eqb-true, ltb-true, lt-ltb, le-ltb}
use Rattle.diagram.specs.Rows.{Rows, marked, Leads, row, carry}
use Rattle.diagram.proofs.Rows.{leads-is}
use Rattle.layout.specs.Places.{SLOTS, STORED, MEMO_KEY, MEMO_VALUE}
use Rattle.layout.specs.View.{View, upd, put_header, put_cell, put_slot}
use Rattle.rows.specs.Used.{used, rows_of}
use Rattle.std.specs.Prelude.{Result, Ok, Err}
use Rattle.table.specs.declared.Full.{Full}
use Rattle.memory.specs.Frame.{MemoFrame, set_slots}
use Rattle.memory.proofs.Frame.{memo_refl, memo_trans, memo-set, memo-slots, memo-stored, memo_key, memo-value, rows_same, used-same}
use Rattle.memory.specs.Memo.{MOST, kind_in, held, RightFor, Entry, Slots, Right, Remembers}
use Rattle.memory.proofs.Memo.{held-entry}
use Rattle.memory.specs.Store.{Emptied, Fewer, entry_put, Wrote, no_slot, at_slot, RememberPost, new_key, new_value, stored_row, keep_row}

pub emptied-none : (W : View) (from : ℕ) → Emptied W W from from
emptied-none W from = record { slots = W.slot; same = refl; empty = λ s a b. absurd (omega arith); kept = λ p l. refl }

pub emptied-more : {W X Y : View} {from s : ℕ} → from ≤ s → Emptied W X from s → Y ≡ put_slot X (3 * s) 0 → Emptied W Y from (s + 1)
emptied-more {s = s} h e q = record {
  slots = upd e.slots (3 * s) 0;
  same = q ∙ ap (λ (v : View). put_slot v (3 * s) 0) e.same;
  empty = λ t a b. by_cases (ℕ_discrete t s)
      (λ z. rw (z, eq-eqb (3 * s) (3 * s) refl))
      (λ n. rw (ne_eqb (3 * t) (3 * s) (omega arith)) (e.empty t a (omega arith)));
  kept = λ p l. rw (ne_eqb p (3 * s) (omega arith)) (e.kept p l);
}

pub fewer-stored : {W X : View} (v : ℕ) → Slots W → 2 * v ≤ W.header SLOTS → X ≡ put_header W STORED v → Fewer W X
fewer-stored {W} v z h e = subst (Fewer W) (sym e) (record {
  frame = memo-stored W v;
  sizes = record { room = z.room; few = h };
  cell = refl;
  entries = λ s l n. (l, λ p a b. refl);
})

pub fewer_doubled : {W W₁ W₂ X : View} {slots : ℕ} → slots ≡ W.header SLOTS → W₁ ≡ put_header W STORED 0 → Emptied W₁ W₂ slots (2 * slots)
    → X ≡ put_header W₂ SLOTS (2 * slots)
    → 3 * (2 * slots) ≤ 2 * W.rows → Fewer W X
fewer_doubled {W} {slots = slots} es e₁ e e₂ h =
    let is : _ ≡ put_header (set_slots (put_header W STORED 0) e.slots) SLOTS (2 * slots) =
    e₂ ∙ ap (λ (v : View). put_header v SLOTS (2 * slots)) (e.same ∙ ap (λ (v : View). set_slots v e.slots) e₁) in
    let k : (p : ℕ) → p < 3 * slots → e.slots p ≡ W.slot p = λ p l. e.kept p l ∙ ap (λ (v : View). v.slot p) e₁ in
    subst (Fewer W) (sym is) (record {
      frame =
          memo_trans (memo-stored W 0)
          (memo_trans (memo-set (put_header W STORED 0) e.slots) (memo-slots (set_slots (put_header W STORED 0) e.slots) (2 * slots)));
      sizes = record { room = h; few = omega arith };
      cell = refl;
      entries = λ s l n. by_cases (dec_lt s slots)
          (λ y. (rw (← es) y, λ p a b. k p (omega arith)))
          (λ y. absurd (n (e.empty s (omega arith) l)));
    })

-- the steps of `write_entry`
pub wrote_by : {W W₁ W₂ W₃ : View} {at : ℕ} (s x y r : ℕ) → s < W.header SLOTS → at ≡ 3 * s → W₁ ≡ put_slot W at x
    → W₂ ≡ put_slot W₁ (at + 1) y → W₃ ≡ put_slot W₂ (at + 2) r → Wrote W W₃ x y r
wrote_by s x y r l e e₁ e₂ e₃ = at_slot s l (rw (e₃, e₂, e₁, e))

-- as the code tells them apart
pub held-turned : {b : Bool} (key value : ℕ) → b ≡ true → key / 64 ≡ held b key value
held-turned key value e = rw e

pub held_plain : {b : Bool} (key value : ℕ) → b ≡ false → value ≡ held b key value
held_plain key value e = rw e

pub recalled : {key value word K L : ℕ} (b : Bool) (kind : ℕ) → key ≡ K → value ≡ L → key % 64 ≡ kind → word ≡ held b key value → word ≢ 0
    → (kind_in K ≡ kind) × (held b K L ≡ suc (word - 1))
recalled {word = word} b kind ek ev e w n = (rw (← ek) e, rw (← ek, ← ev) (sym w ∙ (let z : word ≡ suc (word - 1) = omega (arith, n) in z)))

module _ {b : Bool} (kind r key value : ℕ) where
  pub key_turned : b ≡ true → kind + 64 * (r + 1) ≡ new_key b kind r key
  key_turned e = rw e

  pub key_same : b ≡ false → key % 64 ≡ kind → key ≡ new_key b kind r key
  key_same e q = rw (e, eq-eqb (key % 64) kind q)

  pub key_other : b ≡ false → key % 64 ≢ kind → kind ≡ new_key b kind r key
  key_other e q = rw (e, ne_eqb (key % 64) kind q)

  pub value-plain : b ≡ false → r + 1 ≡ new_value b kind r key value
  value-plain e = rw e

  pub value_same : b ≡ true → key % 64 ≡ kind → value ≡ new_value b kind r key value
  value_same e q = rw (e, eq-eqb (key % 64) kind q)

  pub value_none : b ≡ true → key % 64 ≢ kind → 0 ≡ new_value b kind r key value
  value_none e q = rw (e, ne_eqb (key % 64) kind q)

-- the steps of `remember_row`
pub kept-none : (W : View) (a i kind r : ℕ) → MOST ≤ r → W ≡ keep_row W a i kind (Ok r)
unfolding keep_row
kept-none W a i kind r h = rw (le-ltb r MOST h)

pub kept-err : (W : View) {e : Full} (a i kind : ℕ) → W ≡ keep_row W a i kind (Err e)
unfolding keep_row
kept-err W a i kind = refl

pub kept_by : (W : View) {W₁ W₂ : View} {key value k v : ℕ} (a i kind r : ℕ) → r < MOST → key ≡ W.cell i MEMO_KEY
    → value ≡ W.cell i MEMO_VALUE
    → k ≡ new_key (marked a) kind r key → v ≡ new_value (marked a) kind r key value → W₁ ≡ put_cell W i MEMO_KEY k
    → W₂ ≡ put_cell W₁ i MEMO_VALUE v → W₂ ≡ keep_row W a i kind (Ok r)
unfolding keep_row
kept_by W a i kind r h ek ev nk nv e₁ e₂ = rw (lt-ltb r MOST h, e₂, e₁, nv, nk, ev, ek)

-- only remembered results change
wrote-frame : {W X : View} {x y r : ℕ} → Wrote W X x y r → MemoFrame W X
wrote-frame {W} (no_slot e) = subst (MemoFrame W) (sym e) (memo_refl W)
wrote-frame {W} {x = x} {y = y} {r = r} (at_slot s l e) = subst (MemoFrame W) (sym e) (memo-set W (entry_put W s x y r).slot)

pub remember-frame : {W X : View} (x y : ℕ) (o : Result ℕ Full) → RememberPost W X x y o → MemoFrame W X
remember-frame x y (Ok r) p = memo_trans p.counted.frame (wrote-frame p.wrote)
remember-frame {W} x y (Err _) p = subst (MemoFrame W) (sym p) (memo_refl W)

stored-frame : (W : View) (a i kind r : ℕ) → MemoFrame W (stored_row W a i kind r)
stored-frame W a i kind r =
    let k : ℕ = new_key (marked a) kind r (W.cell i MEMO_KEY) in
    memo_trans (memo_key W i k)
    (memo-value (put_cell W i MEMO_KEY k) i (new_value (marked a) kind r (W.cell i MEMO_KEY) (W.cell i MEMO_VALUE)))

pub keep_row-frame : (W : View) (a i kind : ℕ) (o : Result ℕ Full) → MemoFrame W (keep_row W a i kind o)
unfolding keep_row
keep_row-frame W a i kind (Err _) = memo_refl W
keep_row-frame W a i kind (Ok r) = go (ltb r MOST)
  where
    go : (b : Bool) → MemoFrame W (cond b (stored_row W a i kind r) W)
    go true = stored-frame W a i kind r
    go false = memo_refl W

-- what W remembers rightly is right in a table that differs in remembered results only
module _ {m : ℕ} {W X : View} (f : MemoFrame W X) (g : Remembers m W) where
  pair-at : {x y r : ℕ} (s : ℕ) → s < W.header SLOTS → W.slot (3 * s) ≡ x → W.slot (3 * s + 1) ≡ y → W.slot (3 * s + 2) ≡ r → x ≢ 0
      → Entry m (rows_of X) x y r
  pair-at {x} {y} {r} s l a b c n =
      subst (λ (t : Rows). Entry m t x y r) (sym (rows_same f))
      (held-entry g n (record { at = s; active = l; first = a; second = b; value = sym c }))

  single-at : {key v : ℕ} (i : ℕ) → used X i ≡ true → W.cell i MEMO_KEY ≡ key → W.cell i MEMO_VALUE ≡ v → Right m (rows_of X) i key v
  single-at {key} {v} i u a b =
      subst (λ (t : Rows). Right m t i key v) (sym (rows_same f))
      (subst₂ (λ (x y : ℕ). Right m (rows_of W) i x y) a b (g.singles i (used-same f i u)))

remembers_fewer : {m : ℕ} {W X : View} → Remembers m W → Fewer W X → Remembers m X
remembers_fewer g f = record {
  sizes = f.sizes;
  pairs = λ s l n.
      let q = f.entries s l n in
      pair-at f.frame g s q.0 (sym (q.1 (3 * s) (omega arith) (omega arith))) (sym (q.1 (3 * s + 1) (omega arith) (omega arith)))
      (sym (q.1 (3 * s + 2) (omega arith) (omega arith))) n;
  singles = λ i u. single-at f.frame g i u (λ q. sym f.cell q i MEMO_KEY) (λ q. sym f.cell q i MEMO_VALUE);
}

module _ {m : ℕ} (W : View) (s x y r : ℕ) (g : Remembers m W) (e : Entry m (rows_of W) x y r) where
  abbrev Y : View
  Y = entry_put W s x y r

  new : Entry m (rows_of W) (Y.slot (3 * s)) (Y.slot (3 * s + 1)) (Y.slot (3 * s + 2))
  new =
      rw (
        ne_eqb (3 * s) (3 * s + 2) (omega arith),
        ne_eqb (3 * s) (3 * s + 1) (omega arith),
        eq-eqb (3 * s) (3 * s) refl,
        ne_eqb (3 * s + 1) (3 * s + 2) (omega arith),
        eq-eqb (3 * s + 1) (3 * s + 1) refl,
        eq-eqb (3 * s + 2) (3 * s + 2) refl,
      ) e

  old : (t p : ℕ) → t ≢ s → 3 * t ≤ p → p < 3 * t + 3 → W.slot p ≡ Y.slot p
  old t p n a b = rw (ne_eqb p (3 * s + 2) (omega arith), ne_eqb p (3 * s + 1) (omega arith), ne_eqb p (3 * s) (omega arith))

  remembers_entry : Remembers m Y
  remembers_entry = record {
    sizes = record { room = g.sizes.room; few = g.sizes.few };
    pairs = λ t l n. by_cases (ℕ_discrete t s)
        (λ q. rw q new)
        (λ q. pair-at (memo-set W Y.slot) g t l (old t (3 * t) q (omega arith) (omega arith))
        (old t (3 * t + 1) q (omega arith) (omega arith)) (old t (3 * t + 2) q (omega arith) (omega arith)) n);
    singles = g.singles;
  }

remembers_wrote : {m : ℕ} {W X : View} {x y r : ℕ} → Remembers m W → Entry m (rows_of W) x y r → Wrote W X x y r → Remembers m X
remembers_wrote {m} g e (no_slot q) = subst (Remembers m) (sym q) g
remembers_wrote {m} {W} {x = x} {y = y} {r = r} g e (at_slot s l q) = subst (Remembers m) (sym q) (remembers_entry W s x y r g e)

-- a right answer is remembered
abbrev pub RightPair : ℕ → Rows → ℕ → ℕ → Result ℕ Full → Type 0
RightPair m rows x y (Ok r) = Entry m rows x y r
RightPair m rows x y (Err _) = Unit {0}

pub remembers_pair : {m : ℕ} {W X : View} (x y : ℕ) (o : Result ℕ Full) → Remembers m W → RightPair m (rows_of W) x y o
    → RememberPost W X x y o → Remembers m X
remembers_pair {m} x y (Ok r) g e p =
    remembers_wrote (remembers_fewer g p.counted) (subst (λ (t : Rows). Entry m t x y r) (sym (rows_same p.counted.frame)) e)
    p.wrote
remembers_pair {m} x y (Err _) g e p = subst (Remembers m) (sym p) g

-- an answer for arrow a
abbrev pub RightRow : ℕ → Rows → ℕ → ℕ → Result ℕ Full → Type 0
RightRow m rows a kind (Ok r) = RightFor m rows kind a r
RightRow m rows a kind (Err _) = Unit {0}

-- what a row remembers after one more answer is right
module _ {m : ℕ} {rows : Rows} {i key value : ℕ} (a kind r : ℕ) (small : kind < 64) (e : Leads a i) (g : Right m rows i key value)
    (d : RightFor m rows kind a r) where
  -- the new answer is for a
  new-one : (b : Bool) → marked a ≡ b → (k v : ℕ) → k ≡ kind → suc r ≡ suc v → RightFor m rows k (carry b (row i)) v
  new-one b q k v ek ev =
      let x : r ≡ v = omega (arith, ev) in
      let y : a ≡ carry b (row i) = leads-is a i e ∙ ap (λ (c : Bool). carry c (row i)) q in
      subst (λ (k : ℕ). RightFor m rows k (carry b (row i)) v) (sym ek) (subst₂ (λ (c z : ℕ). RightFor m rows kind c z) y x d)

  key_kind : kind_in (kind + 64 * (r + 1)) ≡ kind
  key_kind = omega (arith, small)

  key_held : (kind + 64 * (r + 1)) / 64 ≡ suc r
  key_held = omega (arith, small)

  -- the old one is for the other arrow, and of the same kind
  by-mark : (b : Bool) → marked a ≡ b → (t : Bool) → eqb (kind_in key) kind ≡ t → (c : Bool) (v : ℕ)
      → kind_in (new_key b kind r key) ≢ 0 → held c (new_key b kind r key) (new_value b kind r key value) ≡ suc v
      → RightFor m rows (kind_in (new_key b kind r key)) (carry c (row i)) v
  by-mark true q t z true v n h = new-one true q (kind_in (kind + 64 * (r + 1))) v key_kind (sym key_held ∙ h)
  by-mark true q true z false v n h =
      let k = eqb-true (kind_in key) kind z in
      let h' : value ≡ suc v = sym (ap (λ (x : Bool). cond x value 0) z) ∙ h in
      let p = g.each (λ y. n (key_kind ∙ sym k ∙ y)) false v h' in
      subst (λ (x : ℕ). RightFor m rows x (row i) v) (k ∙ sym key_kind) p
  by-mark true q false z false v n h = absurd (let y : 0 ≡ suc v = sym (ap (λ (x : Bool). cond x value 0) z) ∙ h in omega (arith, y))
  by-mark false q true z false v n h =
      let k : kind_in (cond (eqb (kind_in key) kind) key kind)
      ≡ kind = ap (λ (x : Bool). kind_in (cond x key kind)) z ∙ eqb-true (kind_in key) kind z in
      new-one false q (kind_in (cond (eqb (kind_in key) kind) key kind)) v k (sym (add-one r) ∙ h)
  by-mark false q false z false v n h =
      let k : kind_in (cond (eqb (kind_in key) kind) key kind)
      ≡ kind = ap (λ (x : Bool). kind_in (cond x key kind)) z ∙ (let y : kind % 64 ≡ kind = omega (arith, small) in y) in
      new-one false q (kind_in (cond (eqb (kind_in key) kind) key kind)) v k (sym (add-one r) ∙ h)
  by-mark false q true z true v n h =
      let s : cond (eqb (kind_in key) kind) key kind ≡ key = ap (λ (x : Bool). cond x key kind) z in
      subst (λ (x : ℕ). RightFor m rows (kind_in x) (carry true (row i)) v) (sym s)
      (g.each (λ y. n (ap kind_in s ∙ y)) true v (ap (λ (x : ℕ). x / 64) (sym s) ∙ h))
  by-mark false q false z true v n h =
      let y : kind / 64 ≡ suc v = ap (λ (x : Bool). cond x key kind / 64) (sym z) ∙ h in
      absurd (omega (arith, y, small))

  pub stored-right : Right m rows i (new_key (marked a) kind r key) (new_value (marked a) kind r key value)
  stored-right = record { each = λ n c v h. by-mark (marked a) refl (eqb (kind_in key) kind) refl c v n h }

pub remembers_row : {m : ℕ} (W : View) (a i kind : ℕ) (o : Result ℕ Full) → kind < 64 → Leads a i → Remembers m W
    → RightRow m (rows_of W) a kind o → Remembers m (keep_row W a i kind o)
unfolding keep_row
remembers_row W a i kind (Err _) small e g d = g
remembers_row {m} W a i kind (Ok r) small e g d = go (ltb r MOST) refl
  where
    stored : r < MOST → Remembers m (stored_row W a i kind r)
    stored l =
        let f = stored-frame W a i kind r in
        record {
          sizes = record { room = g.sizes.room; few = g.sizes.few };
          pairs = g.pairs;
          singles = λ j u. by_cases (ℕ_discrete j i)
              (λ q. rw (q, eq-eqb i i refl) (stored-right a kind r small e (g.singles i (subst (λ (x : ℕ). used W x ≡ true) q u)) d))
              (λ q. single-at f g j u (rw (ne_eqb j i q)) (rw (ne_eqb j i q)));
        }

    go : (b : Bool) → ltb r MOST ≡ b → Remembers m (cond b (stored_row W a i kind r) W)
    go true q = stored (ltb-true r MOST q)
    go false q = g
