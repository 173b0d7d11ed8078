-- Laws of what specs/Notes.antt defines: nodes, goals that are done, spent arrows and masks. Assumes nothing.
use mathlib.Core.Path.{◌≡◌, refl, sym, ap, ◌∙◌, subst}
use mathlib.Core.Logic.{◌≢◌, ◌⊎◌, inl, inr, by_cases}
use mathlib.Core.Bool.{Bool, true, false, ◌||◌, true≢false}
use mathlib.Core.List.{List}
use Prim.Native.Nat.{ℕ, ◌+◌, ◌*◌, ◌/◌, ◌%◌, ◌^◌, ◌≤◌, ◌<◌}
use native.Mathlib.Decide.{ℕ_discrete}
use native.Mathlib.Omega.{arith}
use lib.Bits.{bit_and, bit_or, bit_xor}
use lib.Dec.{T, eqb, eqb→eq}
use lib.ListN.{length, get_or, set, length-set}
use lib.Pow.{pow_mono, shr_le}
use lib.Seq.{get_or-set_same, get_or-set_other}
use Rattle.mucalculus.specs.Means.{bit}
use Rattle.layout.specs.View.{View}
use Rattle.seek.specs.Walk.{holds_at}
use Rattle.seek.specs.Apart.{level_at}
use Rattle.coin_masks.specs.Masks.{Masked, Beside, MaskPost}
use Rattle.coin_masks.proofs.Bits.{either, bit-and, bit-or, bit_xor_lem, bit-all}
use Rattle.coin_masks.proofs.MasksLaws.{no-bit, or-true, and-true, masked-start, masked-beside}
use Rattle.coin_search.specs.Words.{mark_of}
use Rattle.coin_search.specs.Adds.{AddsPre, Adds, One, AtBit}
use Rattle.coin_search.proofs.AddsLaws.{adds_none, adds_as, grown-marks}
use Rattle.coin_search.specs.Notes.{LowBits, Bitmap, Noted, DoneAt, Spent, spent_key, SpentAt, NotesHold, DoneMet}
use Rattle.coin_search.specs.Notes.{KeyMet, KeyPut, none, put, GoalsWith, SpentPre, NewBitsPre, NewBits}
use Rattle.coin_search.proofs.Nodes.{power_next, low_in, high_in, node-same, node-few, power_is, bit_power, power_wide, shift_is}
use Rattle.coin_search.proofs.Nodes.{state-small, state_of}

-- ---- what stays true

-- the same words in another list
bitmap-same : (n low : ℕ) (w N M : List ℕ) → low ≤ 10 → Bitmap n low w N → ((i : ℕ) → i < 2_048 → get_or M i 0 ≡ get_or N i 0)
    → Bitmap n low w M
bitmap-same n low w N M lt b f p s u lp ls lu eu e =
    b p s u lp ls lu eu (ap (bit (u / 2 ^ low)) (sym (f (s + 2 ^ p) (node-few p s ls (omega arith)))) ∙ e)

module _ {W : View} {n low : ℕ} {w : List ℕ} where
  done-same : {x y q a b : ℕ} → y ≡ x → b ≡ a → DoneAt W n low w x q a → DoneAt W n low w y q b
  done-same {x} {y} {q} {a} {b} ex ea d =
      subst (λ (z : ℕ). DoneAt W n low w z q b) (sym ex) (subst (λ (z : ℕ). DoneAt W n low w x q z) (sym ea) d)

  spent-same : {x y a b : ℕ} → y ≡ x → b ≡ a → SpentAt W n low w x a → SpentAt W n low w y b
  spent-same {x} {y} {a} {b} ex ea d =
      subst (λ (z : ℕ). SpentAt W n low w z b) (sym ex) (subst (λ (z : ℕ). SpentAt W n low w x z) (sym ea) d)

  module _ {N : List ℕ} (h : NotesHold W n low w N) where
    -- where no mark is lost
    pub notes-kept : {v : List ℕ} → ((u : ℕ) → 1 ≤ mark_of w u → 1 ≤ mark_of v u) → NotesHold W n low v N
    notes-kept {v} f = record {
      bits = h.bits;
      bitmap = λ p s u lp ls lu eu e. f u (h.bitmap p s u lp ls lu eu e);
      done = λ q l. record { all = λ u t lu g e. f u ((h.done q l).all u t lu g e) };
      spent = λ k l. record { all = λ p s u t ls es lu eu et b y. f u ((h.spent k l).all p s u t ls es lu eu et b y) };
      masks = h.masks;
    }

    -- masks were remembered
    pub notes-masked : {M : List ℕ} → Masked W low M → Beside N M → NotesHold W n low w M
    notes-masked {M} m b = record {
      bits = h.bits;
      bitmap = bitmap-same n low w N M h.bits.small h.bitmap (λ i l. b i (omega arith));
      done = λ q l. done-same (b (2_048 + q) (omega arith)) (b (3_072 + q) (omega arith)) (h.done q l);
      spent = λ k l. spent-same (b (4_096 + k) (omega arith)) (b (5_117 + k) (omega arith)) (h.spent k l);
      masks = m;
    }

    -- words of nodes changed
    nodes_changed : {M : List ℕ} → length M ≡ 7_365 → Bitmap n low w M → ((i : ℕ) → 2_048 ≤ i → get_or M i 0 ≡ get_or N i 0)
        → NotesHold W n low w M
    nodes_changed {M} e m f = record {
      bits = h.bits;
      bitmap = m;
      done = λ q l. done-same (f (2_048 + q) (omega arith)) (f (3_072 + q) (omega arith)) (h.done q l);
      spent = λ k l. spent-same (f (4_096 + k) (omega arith)) (f (5_117 + k) (omega arith)) (h.spent k l);
      masks = masked-beside h.masks e (λ i l. f i (omega arith));
    }

    -- one state more is noted
    pub notes-noted : {M : List ℕ} {s i j u : ℕ} → s < 2 ^ low → i ≡ s + 2 ^ low → u ≡ s + j * 2 ^ low → Noted w N M u i j
        → NotesHold W n low w M
    notes-noted {M} {s} {i} {j} {u} ls ei eu d = nodes_changed (d.size ∙ h.masks.size) map
        (λ k l. d.others k (λ e. let f = node-few low s ls h.bits.small in omega arith))
      where
        map : Bitmap n low w M
        map p r v lp lr lv ev e = by_cases (ℕ_discrete (r + 2 ^ p) i) here
            (λ o. h.bitmap p r v lp lr lv ev (ap (bit (v / 2 ^ low)) (sym (d.others (r + 2 ^ p) o)) ∙ e))
          where
            here : r + 2 ^ p ≡ i → 1 ≤ mark_of w v
            here q = go (d.bits (v / 2 ^ low) (ap (λ (y : ℕ). bit (v / 2 ^ low) (get_or M y 0)) (sym q) ∙ e))
              where
                same : p ≡ low
                same = node-same p low r s lr ls (q ∙ ei)

                go : (bit (v / 2 ^ low) (get_or N i 0) ≡ true) ⊎ ((v / 2 ^ low ≡ j) × (1 ≤ mark_of w u)) → 1 ≤ mark_of w v
                go (inl b) = h.bitmap p r v lp lr lv ev (ap (λ (y : ℕ). bit (v / 2 ^ low) (get_or N y 0)) q ∙ b)
                go (inr (b, y)) =
                    let c : 2 ^ p ≡ 2 ^ low = ap (λ (y : ℕ). 2 ^ y) same in
                    let d : r ≡ s = omega arith in
                    let a : v % 2 ^ low ≡ s = ap (λ (y : ℕ). v % y) (sym c) ∙ ev ∙ d in
                    subst (λ (z : ℕ). 1 ≤ mark_of w z) (eu ∙ sym (state_of low v a b)) y

    -- what is known of both halves of a node
    module _ {p s node both : ℕ} (lp : p < low) (ls : s < 2 ^ p) (en : node ≡ s + 2 ^ p)
        (eb : both ≡ bit_and (get_or N (node + 2 ^ p) 0) (get_or N (node + 2 * 2 ^ p) 0)) where
      few : node < 2_048
      few = let f = node-few p s ls (let b = h.bits.small in omega arith) in omega arith

      both_bits : (i : ℕ) → bit i both ≡ true
          → (bit i (get_or N (node + 2 ^ p) 0) ≡ true) × (bit i (get_or N (node + 2 * 2 ^ p) 0) ≡ true)
      both_bits i e = and-true (bit i (get_or N (node + 2 ^ p) 0)) (bit i (get_or N (node + 2 * 2 ^ p) 0))
          (sym (bit-and i (get_or N (node + 2 ^ p) 0) (get_or N (node + 2 * 2 ^ p) 0)) ∙ ap (bit i) (sym eb) ∙ e)

      halves : (u : ℕ) → u < 2 ^ n → u % 2 ^ p ≡ s → bit (u / 2 ^ low) both ≡ true → (b : Bool) → bit p u ≡ b → 1 ≤ mark_of w u
      halves u lu eu e true q =
          let d = power_next p in
          let at : s + 2 ^ p + 2 ^ (p + 1) ≡ node + 2 * 2 ^ p = omega arith in
          h.bitmap (p + 1) (s + 2 ^ p) u (omega arith) (omega arith) lu (high_in u p eu q)
          (ap (λ (y : ℕ). bit (u / 2 ^ low) (get_or N y 0)) at ∙ (both_bits (u / 2 ^ low) e).1)
      halves u lu eu e false q =
          let d = power_next p in
          let at : s + 2 ^ (p + 1) ≡ node + 2 ^ p = omega arith in
          h.bitmap (p + 1) s u (omega arith) (omega arith) lu (low_in u p eu q)
          (ap (λ (y : ℕ). bit (u / 2 ^ low) (get_or N y 0)) at ∙ (both_bits (u / 2 ^ low) e).0)

      joined-map : Bitmap n low w (set N node both)
      joined-map o r v lo lr lv ev e = by_cases (ℕ_discrete (r + 2 ^ o) node) here
          (λ z. h.bitmap o r v lo lr lv ev (ap (bit (v / 2 ^ low)) (sym (get_or-set_other N node (r + 2 ^ o) both 0 z)) ∙ e))
        where
          here : r + 2 ^ o ≡ node → 1 ≤ mark_of w v
          here q =
              let same : o ≡ p = node-same o p r s lr ls (q ∙ en) in
              let c : 2 ^ o ≡ 2 ^ p = ap (λ (y : ℕ). 2 ^ y) same in
              let d : r ≡ s = omega arith in
              let a : v % 2 ^ p ≡ s = ap (λ (y : ℕ). v % y) (sym c) ∙ ev ∙ d in
              let b : get_or (set N node both) (r + 2 ^ o) 0 ≡ both = ap (λ (y : ℕ). get_or (set N node both) y 0) q
              ∙ get_or-set_same N node both 0 (let z = h.masks.size in let f = few in omega arith) in
              halves v lv a (ap (bit (v / 2 ^ low)) (sym b) ∙ e) (bit p v) refl

      pub notes-joined : {M : List ℕ} → M ≡ set N node both → NotesHold W n low w M
      notes-joined em = subst (NotesHold W n low w) (sym em) (nodes_changed (length-set N node both ∙ h.masks.size) joined-map
          (λ i l. get_or-set_other N node i both 0 (λ e. let f = few in omega arith)))

    -- goals are done
    pub notes-done : {M : List ℕ} {x q goals : ℕ} → q < 1_024 → DoneAt W n low w x q goals
        → M ≡ set (set N (2_048 + q) x) (3_072 + q) goals → NotesHold W n low w M
    notes-done {M} {x} {q} {goals} lq d em = subst (NotesHold W n low w) (sym em) (record {
      bits = h.bits;
      bitmap = bitmap-same n low w N (set (set N (2_048 + q) x) (3_072 + q) goals) h.bits.small h.bitmap
          (λ i l. other i (λ e. omega arith) (λ e. omega arith));
      done = λ r l. by_cases (ℕ_discrete r q)
          (λ e. subst (λ (y : ℕ). DoneAt W n low w (get_or (set (set N (2_048 + q) x) (3_072 + q) goals) (2_048 + y) 0) y
          (get_or (set (set N (2_048 + q) x) (3_072 + q) goals) (3_072 + y) 0)) (sym e) (done-same first second d))
          (λ e. done-same (other (2_048 + r) (λ z. e (omega arith)) (λ z. omega arith))
          (other (3_072 + r) (λ z. omega arith) (λ z. e (omega arith))) (h.done r l));
      spent = λ k l. spent-same (other (4_096 + k) (λ e. omega arith) (λ e. omega arith))
          (other (5_117 + k) (λ e. omega arith) (λ e. omega arith)) (h.spent k l);
      masks = masked-beside h.masks
          (length-set (set N (2_048 + q) x) (3_072 + q) goals ∙ length-set N (2_048 + q) x ∙ h.masks.size)
          (λ i l. other i (λ e. omega arith) (λ e. omega arith));
    })
      where
        other : (i : ℕ) → i ≢ 2_048 + q → i ≢ 3_072 + q → get_or (set (set N (2_048 + q) x) (3_072 + q) goals) i 0 ≡ get_or N i 0
        other i a b = get_or-set_other (set N (2_048 + q) x) (3_072 + q) i goals 0 b ∙ get_or-set_other N (2_048 + q) i x 0 a

        first : get_or (set (set N (2_048 + q) x) (3_072 + q) goals) (2_048 + q) 0 ≡ x
        first = get_or-set_other (set N (2_048 + q) x) (3_072 + q) (2_048 + q) goals 0 (λ e. omega arith)
            ∙ get_or-set_same N (2_048 + q) x 0 (let z = h.masks.size in omega arith)

        second : get_or (set (set N (2_048 + q) x) (3_072 + q) goals) (3_072 + q) 0 ≡ goals
        second = get_or-set_same (set N (2_048 + q) x) (3_072 + q) goals 0
            (let z = h.masks.size in let y = length-set N (2_048 + q) x in omega arith)

    -- an arrow is spent
    pub notes-put : {key goals : ℕ} {M : List ℕ} → SpentAt W n low w key goals → KeyPut N key goals M → NotesHold W n low w M
    notes-put s none = h
    notes-put {key = key} {goals} s (put q all lq g) = record {
      bits = h.bits;
      bitmap = bitmap-same n low w N (set (set N (4_096 + q) key) (5_117 + q) all) h.bits.small h.bitmap
          (λ i l. other i (λ e. omega arith) (λ e. omega arith));
      done = λ r l. done-same (other (2_048 + r) (λ e. omega arith) (λ e. omega arith))
          (other (3_072 + r) (λ e. omega arith) (λ e. omega arith)) (h.done r l);
      spent = λ k l. by_cases (ℕ_discrete k q)
          (λ e. spent-same (ap (λ (y : ℕ). get_or (set (set N (4_096 + q) key) (5_117 + q) all) (4_096 + y) 0) e ∙ first)
          (ap (λ (y : ℕ). get_or (set (set N (4_096 + q) key) (5_117 + q) all) (5_117 + y) 0) e ∙ second) kept)
          (λ e. spent-same (other (4_096 + k) (λ z. e (omega arith)) (λ z. omega arith))
          (other (5_117 + k) (λ z. omega arith) (λ z. e (omega arith))) (h.spent k l));
      masks = masked-beside h.masks
          (length-set (set N (4_096 + q) key) (5_117 + q) all ∙ length-set N (4_096 + q) key ∙ h.masks.size)
          (λ i l. other i (λ e. omega arith) (λ e. omega arith));
    }
      where
        -- what stood at the place with this key is true as well
        kept : SpentAt W n low w key all
        kept = record {
          all = λ p r u t lr er lu eu et b y. go p r u t lr er lu eu et y (g.from (t / 2 ^ low) b);
        }
          where
            go : (p r u t : ℕ) → r < 2 ^ p → r + 2 ^ p ≡ key / 65_536 % 65_536 → u < 2 ^ n → u % 2 ^ p ≡ r
                → t % 2 ^ low / 2 ^ (level_at W (key / 4_294_967_296) / 2) ≡ key % 65_536 → holds_at W (key / 4_294_967_296) u t ≡ true
                → (bit (t / 2 ^ low) goals ≡ true) ⊎ ((get_or N (4_096 + q) 0 ≡ key) × (bit (t / 2 ^ low) (get_or N (5_117 + q) 0) ≡ true))
                → 1 ≤ mark_of w u
            go p r u t lr er lu eu et y (inl b) = s.all p r u t lr er lu eu et b y
            go p r u t lr er lu eu et y (inr (e, b)) =
                (spent-same (sym e) refl (h.spent q lq)).all p r u t lr er lu eu et b y

        other : (i : ℕ) → i ≢ 4_096 + q → i ≢ 5_117 + q → get_or (set (set N (4_096 + q) key) (5_117 + q) all) i 0 ≡ get_or N i 0
        other i a b = get_or-set_other (set N (4_096 + q) key) (5_117 + q) i all 0 b ∙ get_or-set_other N (4_096 + q) i key 0 a

        first : get_or (set (set N (4_096 + q) key) (5_117 + q) all) (4_096 + q) 0 ≡ key
        first = get_or-set_other (set N (4_096 + q) key) (5_117 + q) (4_096 + q) all 0 (λ e. omega arith)
            ∙ get_or-set_same N (4_096 + q) key 0 (let z = h.masks.size in omega arith)

        second : get_or (set (set N (4_096 + q) key) (5_117 + q) all) (5_117 + q) 0 ≡ all
        second = get_or-set_same (set N (4_096 + q) key) (5_117 + q) all 0
            (let z = h.masks.size in let y = length-set N (4_096 + q) key in omega arith)

    -- what is asked of a node
    pub spent-pre : {q node : ℕ} → q < 2 ^ low → node < 2_048 → SpentPre N q node
    spent-pre lq ln = record {
      size = h.masks.size;
      lower = (let m : 2 ^ low ≤ 2 ^ 10 = pow_mono {i = low} {j = 10} h.bits.small in omega arith);
      node-small = omega arith;
    }

-- ---- the steps of `settle`

module _ {W : View} {n low : ℕ} {w N : List ℕ} {m s count : ℕ} (a : AddsPre n w m count) (h : NotesHold W n low w N) (ls : s < 2 ^ low)
    (j : ℕ) (lj : j < 64) where
  pub settle-even : (left : ℕ) → left % 2 ≡ 0 → Adds n w w m count count (AtBit low s left j)
  settle-even left e = adds_none a (λ u l q. absurd (let y = q.0 in omega arith))

  -- the state, as it is made
  pub made-is : s + j * 2 ^ low % 4_294_967_296 ≡ s + j * 2 ^ low
  made-is = ap (λ (y : ℕ). s + y) (shift_is h.bits j lj)

  pub made-small : s + j * 2 ^ low % 4_294_967_296 < 131_072
  made-small = let e = made-is in let l = state-small h.bits s j ls lj in omega arith

  -- no state
  pub settle-past : (left : ℕ) → 1 * 2 ^ n % 4_294_967_296 ≤ s + j * 2 ^ low % 4_294_967_296
      → Adds n w w m count count (AtBit low s left j)
  settle-past left g = adds_none a (λ u l q.
      let y = q.1 in
      let e = made-is in
      let o = power_is n a.small in
      absurd (omega arith))

  module _ (g : s + j * 2 ^ low % 4_294_967_296 < 1 * 2 ^ n % 4_294_967_296) where
    pub made-below : s + j * 2 ^ low % 4_294_967_296 < 2 ^ n
    made-below = let o = power_is n a.small in omega arith

    module _ {v : List ℕ} {most : ℕ} (E : Adds n w v m count most (One (s + j * 2 ^ low % 4_294_967_296))) where
      pub note-asks : (s + j * 2 ^ low % 4_294_967_296 < length v) × (s + 1 * 2 ^ low % 4_294_967_296 < length N) × (j < 64)
      note-asks = (
        (let z = E.size in let r = a.room in let l = made-below in omega arith),
        (let f = node-few low s ls h.bits.small in let e = power_is low (let b = h.bits.small in omega arith) in
            let z = h.masks.size in omega arith),
        lj,
      )

      pub settle-ends : {M : List ℕ} (left : ℕ) → (left % 2 ≡ 0 → ⊥)
          → Noted v N M (s + j * 2 ^ low % 4_294_967_296) (s + 1 * 2 ^ low % 4_294_967_296) j
          → Adds n w v m count most (AtBit low s left j) × NotesHold W n low v M
      settle-ends left o d = (
        adds_as E (λ u l q. (omega arith, q ∙ made-is)) (λ u l q. inr (q.1 ∙ sym made-is)),
        notes-noted (notes-kept h (grown-marks w v E.grown)) ls
            (ap (λ (y : ℕ). s + y) (power_is low (let b = h.bits.small in omega arith))) made-is d,
      )

-- ---- the returns of `note_mark`

pub noted-none : (w N : List ℕ) (s i j : ℕ) → Noted w N N s i j
noted-none w N s i j = record { size = refl; others = λ k n. refl; bits = λ l e. inl e }

pub noted_one : (w N : List ℕ) (s i j : ℕ) {m : ℕ} → i < length N → j < 64 → m ≡ mark_of w s → (m ≡ 0 → ⊥)
    → Noted w N (set N i (bit_or (get_or N i 0) (1 * 2 ^ j % 18_446_744_073_709_551_616))) s i j
noted_one w N s i j {m} li lj em z = record {
  size = length-set N i (bit_or (get_or N i 0) (1 * 2 ^ j % 18_446_744_073_709_551_616));
  others = λ q o. get_or-set_other N i q (bit_or (get_or N i 0) (1 * 2 ^ j % 18_446_744_073_709_551_616)) 0 o;
  bits = λ l e. from l (bit l (get_or N i 0)) refl
      (sym (bit-or l (get_or N i 0) (1 * 2 ^ j % 18_446_744_073_709_551_616))
      ∙ ap (bit l) (sym (get_or-set_same N i (bit_or (get_or N i 0) (1 * 2 ^ j % 18_446_744_073_709_551_616)) 0 li)) ∙ e);
}
  where
    from : (l : ℕ) (b : Bool) → bit l (get_or N i 0) ≡ b → (bit l (get_or N i 0) || bit l (1 * 2 ^ j % 18_446_744_073_709_551_616)) ≡ true
        → (bit l (get_or N i 0) ≡ true) ⊎ ((l ≡ j) × (1 ≤ mark_of w s))
    from l true q e = inl q
    from l false q e =
        let r : bit l (1 * 2 ^ j % 18_446_744_073_709_551_616) ≡ true =
        ap (λ (y : Bool). y || bit l (1 * 2 ^ j % 18_446_744_073_709_551_616)) (sym q) ∙ e in
        inr (bit_power j l (ap (bit l) (sym (power_wide j lj)) ∙ r), omega arith)

-- ---- the steps of `join`

pub half-few : (p : ℕ) → p < 10 → (1 * 2 ^ p % 4_294_967_296 ≡ 2 ^ p) × (2 ^ p ≤ 512)
half-few p l = (power_is p (omega arith), pow_mono {i = p} {j = 9} (omega arith))

pub join_is : {M : List ℕ} (N : List ℕ) (node p : ℕ) {h : ℕ} → h ≡ 2 ^ p
    → M ≡ set N node (bit_and (get_or N (node + h) 0) (get_or N (node + 2 * h) 0))
    → M ≡ set N node (bit_and (get_or N (node + 2 ^ p) 0) (get_or N (node + 2 * 2 ^ p) 0))
join_is {M} N node p e q = subst (λ (y : ℕ). M ≡ set N node (bit_and (get_or N (node + y) 0) (get_or N (node + 2 * y) 0))) e q

-- ---- the spent arrows

key_arrow : (x node h : ℕ) → h < 65_536 → node < 65_536 → spent_key x node h / 4_294_967_296 ≡ x
key_arrow x node h lh ln = omega arith

key_node : (x node h : ℕ) → h < 65_536 → node < 65_536 → spent_key x node h / 65_536 % 65_536 ≡ node
key_node x node h lh ln = omega arith

key_part : (x node h : ℕ) → h < 65_536 → spent_key x node h % 65_536 ≡ h
key_part x node h lh = omega arith

module _ {W : View} {n low : ℕ} {w : List ℕ} (x node h goals : ℕ) (lh : h < 65_536) (ln : node < 65_536) where
  pub spent_out : SpentAt W n low w (spent_key x node h) goals → Spent W n low w x node h goals
  spent_out e = subst (λ (y : ℕ). Spent W n low w y node h goals) (key_arrow x node h lh ln)
      (subst (λ (y : ℕ). Spent W n low w (spent_key x node h / 4_294_967_296) y h goals) (key_node x node h lh ln)
      (subst (λ (y : ℕ). Spent W n low w (spent_key x node h / 4_294_967_296) (spent_key x node h / 65_536 % 65_536) y goals)
      (key_part x node h lh) e))

  pub spent_in : Spent W n low w x node h goals → SpentAt W n low w (spent_key x node h) goals
  spent_in e = subst (λ (y : ℕ). Spent W n low w (spent_key x node h / 4_294_967_296) (spent_key x node h / 65_536 % 65_536) y goals)
      (sym (key_part x node h lh))
      (subst (λ (y : ℕ). Spent W n low w (spent_key x node h / 4_294_967_296) y h goals) (sym (key_node x node h lh ln))
      (subst (λ (y : ℕ). Spent W n low w y node h goals) (sym (key_arrow x node h lh ln)) e))

-- the part of the lower bits that is in a key
pub part_small : (t l : ℕ) → t < 65_536 → t / 2 ^ l < 65_536
part_small t l h = let m = shr_le t l in omega arith

-- ---- the returns of `is_spent` and `put_spent`

module _ (W : View) (x node q : ℕ) {level key : ℕ} (el : level ≡ level_at W x) (ek : key ≡ spent_key x node (q / 2 ^ (level / 2))) where
  key_is : key ≡ spent_key x node (q / 2 ^ (level_at W x / 2))
  key_is = ek ∙ ap (λ (y : ℕ). spent_key x node (q / 2 ^ (y / 2))) el

  pub key_met : (N : List ℕ) (goals : ℕ) → get_or N (4_096 + key % 1_021) 0 ≡ key
      → eqb (bit_or (get_or N (5_117 + key % 1_021) 0) goals) (get_or N (5_117 + key % 1_021) 0) ≡ true
      → KeyMet N (spent_key x node (q / 2 ^ (level_at W x / 2))) goals
  key_met N goals e b = record {
    at = key % 1_021;
    slot = omega arith;
    is = e ∙ key_is;
    has = λ j g.
        let same = eqb→eq (bit_or (get_or N (5_117 + key % 1_021) 0) goals) (get_or N (5_117 + key % 1_021) 0) (subst T (sym b) tt) in
        ap (bit j) (sym same) ∙ bit-or j (get_or N (5_117 + key % 1_021) 0) goals ∙ or-true (bit j (get_or N (5_117 + key % 1_021) 0)) g;
  }

  pub key_put : {N M : List ℕ} (goals all : ℕ) → GoalsWith N (key % 1_021) key goals all
      → M ≡ set (set N (4_096 + key % 1_021) key) (5_117 + key % 1_021) all → KeyPut N (spent_key x node (q / 2 ^ (level_at W x / 2))) goals M
  key_put {N} {M} goals all g e = subst (KeyPut N (spent_key x node (q / 2 ^ (level_at W x / 2))) goals) (sym e)
      (subst (λ (y : ℕ). KeyPut N y goals (set (set N (4_096 + key % 1_021) key) (5_117 + key % 1_021) all)) key_is
      (put (key % 1_021) all (omega arith) g))

-- ---- the returns of `goals_with`

pub with_none : (N : List ℕ) (k key goals : ℕ) → GoalsWith N k key goals goals
with_none N k key goals = record { from = λ j e. inl e }

pub with_kept : (N : List ℕ) (k key goals : ℕ) → get_or N (4_096 + k) 0 ≡ key
    → GoalsWith N k key goals (bit_or (get_or N (5_117 + k) 0) goals)
with_kept N k key goals e = record {
  from = λ j b. go j (bit j (get_or N (5_117 + k) 0)) refl (sym (bit-or j (get_or N (5_117 + k) 0) goals) ∙ b);
}
  where
    go : (j : ℕ) (a : Bool) → bit j (get_or N (5_117 + k) 0) ≡ a → (bit j (get_or N (5_117 + k) 0) || bit j goals) ≡ true
        → (bit j goals ≡ true) ⊎ ((get_or N (4_096 + k) 0 ≡ key) × (bit j (get_or N (5_117 + k) 0) ≡ true))
    go j true q _ = inr (e, q)
    go j false q o = inl (ap (λ (y : Bool). y || bit j goals) (sym q) ∙ o)

-- ---- the returns of `new_bits`

module _ {W : View} {low x goals : ℕ} {N : List ℕ} {node known : ℕ} (a : NewBitsPre W low x N node) (ek : known ≡ get_or N node 0) where
  -- all are marked
  pub new_none : known ≡ 18_446_744_073_709_551_615 → NewBits W low x goals N N node 0
  new_none e = record {
    masked = a.masked;
    beside = λ i l. refl;
    has = λ i l _. inl (ap (bit i) (sym ek ∙ e) ∙ bit-all i l);
    only = λ _ i l b. absurd (true≢false (sym b ∙ no-bit i));
  }

  -- the arrow reads lower bits
  pub new-all : level_at W x < 2 * low → NewBits W low x goals N N node 18_446_744_073_709_551_615
  new-all e = record {
    masked = a.masked;
    beside = λ i l. refl;
    has = λ i l _. inr (bit-all i l);
    only = λ d i l b. absurd (omega arith);
  }

  pub new-mask : {M : List ℕ} {mask : ℕ} → 2 * low ≤ level_at W x → MaskPost W low x goals N M mask
      → NewBits W low x goals N M node (bit_xor (bit_or mask known) known)
  new-mask {M} {mask} d m = record {
    masked = m.masked;
    beside = m.beside;
    has = λ i l t. has i (bit i known) refl (m.is.has i l (t d));
    only = λ _ i l b. m.is.only i l (only (bit i mask) (bit i known) (sym (cell i) ∙ b));
  }
    where
      cell : (i : ℕ) → bit i (bit_xor (bit_or mask known) known) ≡ either (bit i mask || bit i known) (bit i known)
      cell i = bit_xor_lem i (bit_or mask known) known ∙ ap (λ (y : Bool). either y (bit i known)) (bit-or i mask known)

      only : (x y : Bool) → either (x || y) y ≡ true → x ≡ true
      only true y e = refl
      only false true e = absurd (true≢false (sym e))
      only false false e = absurd (true≢false (sym e))

      has : (i : ℕ) (y : Bool) → bit i known ≡ y → bit i mask ≡ true
          → (bit i (get_or N node 0) ≡ true) ⊎ (bit i (bit_xor (bit_or mask known) known) ≡ true)
      has i true e b = inl (ap (bit i) (sym ek) ∙ e)
      has i false e b = inr (cell i ∙ ap (λ (y : Bool). either (bit i mask || y) y) e ∙ ap (λ (y : Bool). either (y || false) false) b)

-- ---- the return of `is_done`

pub done-met : (N : List ℕ) (x q j : ℕ) → get_or N (2_048 + q) 0 ≡ x → eqb (get_or N (3_072 + q) 0 / 2 ^ j % 2) 1 ≡ true → DoneMet N x q j
done-met N x q j e b = record { is = e; has = b }

-- ---- the start

pub notes-start : {W : View} {n low : ℕ} {w N : List ℕ} → LowBits n low → length N ≡ 7_365 → ((i : ℕ) → get_or N i 0 ≡ 0)
    → NotesHold W n low w N
notes-start {W} {n} {low} {w} {N} b e z = record {
  bits = b;
  bitmap = λ p s u lp ls lu eu t. absurd (true≢false (sym t ∙ ap (bit (u / 2 ^ low)) (z (s + 2 ^ p)) ∙ no-bit (u / 2 ^ low)));
  done = λ q l. record {
    all = λ u t lu g y. absurd (true≢false (sym g.upper ∙ ap (bit (t / 2 ^ low)) (z (3_072 + q)) ∙ no-bit (t / 2 ^ low)));
  };
  spent = λ k l. record {
    all = λ p s u t ls es lu eu et g y. absurd (true≢false (sym g ∙ ap (bit (t / 2 ^ low)) (z (5_117 + k)) ∙ no-bit (t / 2 ^ low)));
  };
  masks = masked-start e z;
}
