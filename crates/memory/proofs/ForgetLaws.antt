-- Laws of what specs/Forget.antt defines. Assumes nothing.
use mathlib.Core.Path.{◌≡◌, refl, sym, ap, ◌∙◌, subst}
use mathlib.Core.Logic.{by_cases}
use Prim.Native.Nat.{ℕ, ◌+◌, ◌*◌, ◌≤◌, ◌<◌}
use native.Mathlib.Decide.{ℕ_discrete}
use native.Mathlib.Omega.{arith}
use borrow.Author.Tests.{eq-eqb, ne_eqb}
use Rattle.layout.specs.Places.{USED, SLOTS, STORED, RANK, MEMO_KEY}
use Rattle.layout.specs.View.{View, put_header, put_cell}
use Rattle.rows.proofs.Used.{used_in}
use Rattle.rows.specs.Lookup.{Room}
use Rattle.rows.specs.Sound.{Good}
use Rattle.memory.specs.Frame.{set_slots}
use Rattle.memory.proofs.Frame.{memo_trans, memo-slots, memo-stored, room-memo}
use Rattle.memory.specs.Memo.{Remembers}
use Rattle.memory.specs.Store.{Emptied}
use Rattle.memory.specs.Forget.{set_cells, RowsForgot, Forgot}

pub rows_none : (W : View) → RowsForgot W W 0
rows_none W = record { cells = W.cell; same = refl; other = λ j l n. refl; empty = λ q h. absurd (omega arith) }

pub rows-list : {W X : View} {k : ℕ} → RowsForgot W X k → (q : ℕ) → X.list q ≡ W.list q
rows-list f q = ap (λ (v : View). v.list q) f.same

pub rows_more : {W X Y : View} {k i : ℕ} → RowsForgot W X k → i ≡ X.list k → Y ≡ put_cell X i MEMO_KEY 0 → RowsForgot W Y (k + 1)
rows_more {W} {k = k} {i = i} f ei e = record {
  cells = (put_cell (set_cells W f.cells) i MEMO_KEY 0).cell;
  same = e ∙ ap (λ (v : View). put_cell v i MEMO_KEY 0) f.same;
  other = λ j l n. rw (ne_eqb l 5 n) (f.other j l n);
  empty = λ q h. by_cases (ℕ_discrete (W.list q) i)
      (λ z. rw (eq-eqb (W.list q) i z))
      (λ z. rw (ne_eqb (W.list q) i z)
      (f.empty q (by_cases (ℕ_discrete q k) (λ y. absurd (z (rw y (sym (ei ∙ rows-list f k))))) (λ y. omega arith))));
}

-- so what is remembered is right
pub forgot_remembers : {W X : View} (m : ℕ) → Forgot W X → Remembers m X
forgot_remembers m f =
    record {
      sizes =
          f.sizes;
      pairs =
          λ s l n. absurd (n (f.slots s l));
      singles = λ i u. record { each = λ n b v q. absurd (n (let z = f.keys i u in omega (arith, z))) };
    }

-- the steps of `forget`
module _ {W W₁ W₂ : View} (slots : ℕ) (g : Good W) (e₁ : W₁ ≡ put_header W SLOTS slots) (e₂ : W₂ ≡ put_header W₁ STORED 0) where
  pub forget-room : Room W₂
  forget-room =
      room-memo (memo_trans (memo-slots W slots) (memo-stored (put_header W SLOTS slots) 0))
      (e₂ ∙ ap (λ (v : View). put_header v STORED 0) e₁)
      (record { words = g.sizes.room; count-le = g.ranked.count-le; max = g.sizes.N-max })

  pub forget-list : {W₃ : View} {count k : ℕ} → count ≡ W.header USED → Emptied W₂ W₃ 0 slots → k < count → W₃.list k < W.rows
  forget-list {k = k} ec e h =
      rw (ap (λ (v : View). v.list k)
      (e.same ∙ ap (λ (v : View). set_slots v e.slots) (e₂ ∙ ap (λ (v : View). put_header v STORED 0) e₁)))
      (g.ranked.within k (rw (← ec) h))

pub forgot_by : {W W₁ W₂ W₃ X : View} {count slots : ℕ} → count ≡ W.header USED → 3 * slots ≤ 2 * W.rows → W₁ ≡ put_header W SLOTS slots
    → W₂ ≡ put_header W₁ STORED 0
    → Emptied W₂ W₃ 0 slots → RowsForgot W₃ X count → Forgot W X
forgot_by {W} {W₁} {W₂} {W₃} {X} {count} {slots} ec h e₁ e₂ e f =
    let is₃ : W₃ ≡ set_slots (put_header (put_header W SLOTS slots) STORED 0) e.slots =
    e.same ∙ ap (λ (v : View). set_slots v e.slots) (e₂ ∙ ap (λ (v : View). put_header v STORED 0) e₁) in
    let is : X
    ≡ set_cells (set_slots (put_header (put_header W SLOTS slots) STORED 0) e.slots) f.cells = f.same
    ∙ ap (λ (v : View). set_cells v f.cells) is₃ in
    subst (Forgot W) (sym is) (record {
      frame = record {
        rows = refl;
        size = refl;
        header = λ x a b. rw (ne_eqb x 6 b, ne_eqb x 5 a);
        cell = λ j k a b. f.other j k a ∙ ap (λ (v : View). v.cell j k) is₃;
        list = refl;
        head = refl;
        beyond = refl;
      };
      sizes = record { room = h; few = omega arith };
      slots = λ s l. e.empty s (omega arith) l;
      keys = λ i u.
          let p = used_in W.rows (W.header USED) (λ x. f.cells x RANK) W.list i u in
          subst (λ (j : ℕ). f.cells j MEMO_KEY ≡ 0) (ap (λ (v : View). v.list (f.cells i RANK)) is₃ ∙ p.there)
          (f.empty (f.cells i RANK) (rw ec p.place));
    })
