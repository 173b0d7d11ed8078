-- Laws of what specs/Expand.antt defines: each return of `expand`. Assumes nothing.
use mathlib.Core.Path.{◌≡◌, refl, sym, ap, ◌∙◌, subst}
use mathlib.Core.Logic.{◌⊎◌, inl, inr, by_cases}
use mathlib.Core.Bool.{Bool, true, false, true≢false}
use mathlib.Core.List.{List}
use Prim.Native.Nat.{ℕ, suc, ◌+◌, ◌-◌, ◌*◌, ◌/◌, ◌%◌, ◌^◌, ◌≤◌, ◌<◌}
use native.Mathlib.Decide.{dec_le}
use native.Mathlib.Omega.{arith}
use lib.Dec.{eqb}
use lib.ListN.{length, get_or, set}
use lib.Bits.{bit_and}
use lib.Pow.{pow_mono, mod-mod-pow, field, shl-shr, shr-shr, split}
use Rattle.mucalculus.specs.Means.{bit}
use Rattle.layout.specs.Places.{BITS}
use Rattle.layout.specs.View.{View}
use Rattle.diagram.proofs.Den.{den-zero}
use Rattle.rows.specs.Used.{rows_of}
use Rattle.book.specs.States.{pair_val}
use Rattle.book.proofs.States.{pair_val-now, pair_val-next}
use Rattle.seek.specs.Walk.{HoldsPre, holds_at}
use Rattle.seek.specs.Apart.{level_at, Followed}
use Rattle.coin_masks.specs.Masks.{LeadsTo}
use Rattle.coin_masks.proofs.MasksLaws.{no-bit, word_bit}
use Rattle.coin_masks.proofs.ReadsLaws.{reads_both, reads_high, level-later}
use Rattle.coin_search.specs.Words.{mark_of}
use Rattle.coin_search.specs.Adds.{Adds, InMask}
use Rattle.coin_search.proofs.AddsLaws.{adds_none, adds_on, adds_as, adds_then}
use Rattle.coin_search.specs.Notes.{Goal, Led, Spent, SpentAt, spent_key, NotesHold, KeyMet, KeyPut, NewBitsPre, NewBits}
use Rattle.coin_search.specs.Expand.{Stepped, ExpandPre, Reached}
use Rattle.coin_search.proofs.Nodes.{low_in, high_in, low_out, high_out, node-same, node-is, node-few, node-fewer, power_next}
use Rattle.coin_search.proofs.Nodes.{state-bit, state_word, state-place}
use Rattle.coin_search.proofs.NotesLaws.{notes-masked, notes-joined, notes-put, spent_in, spent_out, part_small}

-- ---- the return of `step`

pub step-ends : {W : View} {x p l y z : ℕ} {here there : Bool} → HoldsPre W x → p < 16 → l ≡ 2 * p → Followed W x l here y
    → Followed W y (l + 1) there z → Stepped W x p here there z
step-ends {W} {x} {p} {l} {y} {z} {here} {there} h lp el f g = record {
  pre = g.pre;
  same = λ u t a b.
      let now-bit : pair_val u t l ≡ here = ap (pair_val u t) el ∙ pair_val-now p u t ∙ a in
      let odd : l + 1 ≡ suc (2 * p) = omega arith in
      let next_bit : pair_val u t (l + 1) ≡ there = ap (pair_val u t) odd ∙ pair_val-next p u t ∙ b in
      g.same u t next_bit ∙ f.same u t now-bit;
  later = λ d.
      let a = level-later f h (omega arith) (omega arith) in
      let b = level-later g f.pre (omega arith) (omega arith) in
      omega arith;
}

-- a bit below `low` is one of the lower bits
lower-bit : (low p t : ℕ) → p < low → bit p (t % 2 ^ low) ≡ bit p t
lower-bit low p t l =
    let e : (suc (low - suc p)) + p ≡ low = omega arith in
    let f : t % 2 ^ low / 2 ^ p ≡ t / 2 ^ p % 2 ^ suc (low - suc p) =
    subst (λ (y : ℕ). t % 2 ^ y / 2 ^ p ≡ t / 2 ^ p % 2 ^ suc (low - suc p)) e (field t (suc (low - suc p)) p) in
    let z : (low - suc p) + 1 ≡ suc (low - suc p) = omega arith in
    let g : t / 2 ^ p % 2 ^ suc (low - suc p) % 2 ≡ t / 2 ^ p % 2 =
    subst (λ (y : ℕ). t / 2 ^ p % 2 ^ y % 2 ≡ t / 2 ^ p % 2) z (mod-mod-pow (t / 2 ^ p) (low - suc p) 1) in
    ap (λ (y : ℕ). eqb (y % 2) 1) f ∙ ap (λ (y : ℕ). eqb y 1) g

-- the state of the 64 that has the same six bits
six : (low u : ℕ) → u / 2 ^ low * 2 ^ low / 2 ^ low ≡ u / 2 ^ low
six low u = shl-shr (u / 2 ^ low) low

-- the node's number, as it is made
module _ {W : View} {n low : ℕ} {w N : List ℕ} {q m x p s count : ℕ} (a : ExpandPre W n low w N q m x p s count) where
  pub few_bits : p ≤ 10
  few_bits = let d = a.depth in let b = a.notes.bits.small in omega arith

  pub made-node : s + 1 * 2 ^ p % 4_294_967_296 ≡ s + 2 ^ p
  made-node = node-is p s a.lower (let f = few_bits in omega arith)

  pub made-few : s + 1 * 2 ^ p % 4_294_967_296 < 2_048
  made-few = let e = made-node in let f = node-few p s a.lower few_bits in omega arith

  pub made-small : s + 1 * 2 ^ p % 4_294_967_296 < 65_536
  made-small = let f = made-few in omega arith

  pub lower-few : q < 65_536
  lower-few = let m : 2 ^ low ≤ 2 ^ 10 = pow_mono {i = low} {j = 10} a.notes.bits.small in let g = a.goal in omega arith

module _ {W : View} {n low : ℕ} {w N : List ℕ} {q m x p s count : ℕ} (a : ExpandPre W n low w N q m x p s count) (goals : ℕ) where
  -- the arrow leads nowhere
  pub expands_nothing : x ≡ 0 → Adds n w w m count count (Reached W low q goals x p s)
  expands_nothing e = adds_none a.adds (λ u l r.
      let d = r.1 in
      absurd (true≢false (sym d.step ∙ ap (λ (y : ℕ). holds_at W y u d.goal) e
      ∙ den-zero (2 * W.header BITS) (rows_of W) (pair_val u d.goal))))

  pub new-asks : {node : ℕ} → node ≡ s + 2 ^ p → NewBitsPre W low x N node
  new-asks e = record {
    arrow = a.arrow;
    small = a.notes.bits.small;
    masked = a.notes.masks;
    place = let f = node-few p s a.lower (let d = a.depth in let b = a.notes.bits.small in omega arith) in omega arith;
  }

  module _ {M : List ℕ} {node r : ℕ} (lg : goals < 18_446_744_073_709_551_616) (en : node ≡ s + 2 ^ p)
      (b : NewBits W low x goals N M node r) where
    pub new-notes : NotesHold W n low w M
    new-notes = notes-masked a.notes b.masked b.beside

    -- what the arrow leads from is marked or new
    marked-or-new : (u : ℕ) → u < 2 ^ n → Reached W low q goals x p s u → (1 ≤ mark_of w u) ⊎ (bit (u / 2 ^ low) r ≡ true)
    marked-or-new u l (e, d) = go (b.has (u / 2 ^ low) (state-bit a.notes.bits u l) leads)
      where
        leads : 2 * low ≤ level_at W x → LeadsTo W low x goals (u / 2 ^ low)
        leads deep = record {
          goal = d.goal / 2 ^ low;
          below = word_bit (d.goal / 2 ^ low) goals lg d.is.upper;
          is = d.is.upper;
          step = reads_both W x a.arrow low (u / 2 ^ low * 2 ^ low) u (d.goal / 2 ^ low * 2 ^ low) d.goal deep (six low u)
              (six low d.goal) ∙ d.step;
        }

        go : (bit (u / 2 ^ low) (get_or N node 0) ≡ true) ⊎ (bit (u / 2 ^ low) r ≡ true) → (1 ≤ mark_of w u) ⊎ (bit (u / 2 ^ low) r ≡ true)
        go (inl y) = inl (a.notes.bitmap p s u a.depth a.lower l e (ap (λ (z : ℕ). bit (u / 2 ^ low) (get_or N z 0)) (sym en) ∙ y))
        go (inr y) = inr y

    -- nothing is new
    pub expands_known : r ≡ 0 → Adds n w w m count count (Reached W low q goals x p s) × NotesHold W n low w M
    expands_known z = (adds_none a.adds (λ u l d. from u (marked-or-new u l d)), new-notes)
      where
        from : (u : ℕ) → (1 ≤ mark_of w u) ⊎ (bit (u / 2 ^ low) r ≡ true) → 1 ≤ mark_of w u
        from u (inl y) = y
        from u (inr y) = absurd (true≢false (sym y ∙ ap (bit (u / 2 ^ low)) z ∙ no-bit (u / 2 ^ low)))

    -- the walk has come to a word
    module _ (ep : p ≡ low) where
      same_power : 2 ^ p ≡ 2 ^ low
      same_power = ap (λ (y : ℕ). 2 ^ y) ep

      pub word_asks : s < 2 ^ low
      word_asks = let e = same_power in let l = a.lower in omega arith

      deep : 2 * low ≤ level_at W x
      deep = let d = a.deep in omega arith

      led : (u : ℕ) → LeadsTo W low x goals (u / 2 ^ low) → Led W low q goals x u
      led u t = record {
        goal = q + t.goal * 2 ^ low;
        is = record {
          lower = state_word low q t.goal a.goal;
          upper = ap (λ (y : ℕ). bit y goals) (state-place low q t.goal a.goal) ∙ t.is;
        };
        step = reads_both W x a.arrow low u (u / 2 ^ low * 2 ^ low) (q + t.goal * 2 ^ low) (t.goal * 2 ^ low) deep (sym (six low u))
            (state-place low q t.goal a.goal ∙ sym (shl-shr t.goal low)) ∙ t.step;
      }

      pub expands_word : {v O : List ℕ} {most : ℕ} → Adds n w v m count most (InMask low s r) × NotesHold W n low v O
          → Adds n w v m count most (Reached W low q goals x p s) × NotesHold W n low v O
      expands_word (c, h) = (
        adds_as c
            (λ u l i. (ap (λ (y : ℕ). u % y) same_power ∙ i.0, led u (b.only deep (u / 2 ^ low) (state-bit a.notes.bits u l) i.1)))
            (λ u l d. from u d (marked-or-new u l d)),
        h,
      )
        where
          from : (u : ℕ) → Reached W low q goals x p s u → (1 ≤ mark_of w u) ⊎ (bit (u / 2 ^ low) r ≡ true)
              → (1 ≤ mark_of w u) ⊎ InMask low s r u
          from u d (inl y) = inl y
          from u d (inr y) = inr (ap (λ (z : ℕ). u % z) (sym same_power) ∙ d.0, y)

  -- it was spent
  module _ {M : List ℕ} {node : ℕ} (h : NotesHold W n low w M) (en : node ≡ s + 2 ^ p) (ln : node < 65_536) (lq : q < 65_536) where
    pub expands_spent : {b : Bool} → (b ≡ true → KeyMet M (spent_key x node (q / 2 ^ (level_at W x / 2))) goals) → b ≡ true
        → Adds n w w m count count (Reached W low q goals x p s) × NotesHold W n low w M
    expands_spent f e = (
      adds_none a.adds (λ u l d. spent.all p s u d.1.goal a.lower (sym en) l d.0
          (ap (λ (y : ℕ). y / 2 ^ (level_at W x / 2)) d.1.is.lower) ((f e).has (d.1.goal / 2 ^ low) d.1.is.upper) d.1.step),
      h,
    )
      where
        spent : Spent W n low w x node (q / 2 ^ (level_at W x / 2)) (get_or M (5_117 + (f e).at) 0)
        spent =
            let g = f e in
            spent_out x node (q / 2 ^ (level_at W x / 2)) (get_or M (5_117 + g.at) 0) (part_small q (level_at W x / 2) lq) ln
            (subst (λ (y : ℕ). SpentAt W n low w y (get_or M (5_117 + g.at) 0)) g.is (h.spent g.at g.slot))

-- what agrees in its part of the lower bits and in the six others agrees in all that the arrow reads
part-agrees : (low l t c q : ℕ) → t % 2 ^ low ≡ q → t / 2 ^ low ≡ c / 2 ^ low → c % 2 ^ low / 2 ^ l ≡ q / 2 ^ l → c / 2 ^ l ≡ t / 2 ^ l
part-agrees low l t c q et ec eh = by_cases (dec_le l low) below above
  where
    below : l ≤ low → c / 2 ^ l ≡ t / 2 ^ l
    below h =
        let d : (low - l) + l ≡ low = omega arith in
        let f : (y : ℕ) → y % 2 ^ low / 2 ^ l ≡ y / 2 ^ l % 2 ^ (low - l) =
        (λ y. subst (λ (z : ℕ). y % 2 ^ z / 2 ^ l ≡ y / 2 ^ l % 2 ^ (low - l)) d (field y (low - l) l)) in
        let o : l + (low - l) ≡ low = omega arith in
        let g : (y : ℕ) → y / 2 ^ l / 2 ^ (low - l) ≡ y / 2 ^ low = (λ y. shr-shr y l (low - l) ∙ ap (λ (z : ℕ). y / 2 ^ z) o) in
        let rest : c / 2 ^ l % 2 ^ (low - l) ≡ t / 2 ^ l % 2 ^ (low - l) =
        sym (f c) ∙ eh ∙ ap (λ (y : ℕ). y / 2 ^ l) (sym et) ∙ f t in
        let top : c / 2 ^ l / 2 ^ (low - l) ≡ t / 2 ^ l / 2 ^ (low - l) = g c ∙ sym ec ∙ sym (g t) in
        sym (split (c / 2 ^ l) (low - l)) ∙ ap (λ (y : ℕ). y * 2 ^ (low - l) + c / 2 ^ l % 2 ^ (low - l)) top
        ∙ ap (λ (y : ℕ). t / 2 ^ l / 2 ^ (low - l) * 2 ^ (low - l) + y) rest ∙ split (t / 2 ^ l) (low - l)

    above : (l ≤ low → ⊥) → c / 2 ^ l ≡ t / 2 ^ l
    above h =
        let o : low + (l - low) ≡ l = omega arith in
        let g : (y : ℕ) → y / 2 ^ l ≡ y / 2 ^ low / 2 ^ (l - low) =
        (λ y. ap (λ (z : ℕ). y / 2 ^ z) (sym o) ∙ sym (shr-shr y low (l - low))) in
        g c ∙ ap (λ (y : ℕ). y / 2 ^ (l - low)) (sym ec) ∙ sym (g t)

-- ---- the two halves

module _ {W : View} {n low : ℕ} {w N : List ℕ} {q m x p s count : ℕ} (a : ExpandPre W n low w N q m x p s count) (ne : p ≡ low → ⊥) where
  before : p < low
  before = let d = a.depth in omega arith

  pub step-asks : HoldsPre W x × (p < 16)
  step-asks = (a.arrow, let b = a.notes.bits.small in let l = before in omega arith)

  pub low-asks : {M : List ℕ} {z : ℕ} {side : Bool} → NotesHold W n low w M → Stepped W x p false side z
      → ExpandPre W n low w M q m z (p + 1) s count
  low-asks h t = record {
    adds = a.adds;
    notes = h;
    arrow = t.pre;
    deep = t.later a.deep;
    depth = let l = before in omega arith;
    lower = let d = power_next p in let l = a.lower in omega arith;
    goal = a.goal;
  }

  pub high-asks : {v M : List ℕ} {z more node : ℕ} {side : Bool} {P : ℕ → Type 0} → node ≡ s + 2 ^ p
      → Adds n w v m count more P × NotesHold W n low v M → Stepped W x p true side z → ExpandPre W n low v M q m z (p + 1) node more
  high-asks e (b, h) t = record {
    adds = adds_on a.adds b;
    notes = h;
    arrow = t.pre;
    deep = t.later a.deep;
    depth = let l = before in omega arith;
    lower = let d = power_next p in let l = a.lower in omega arith;
    goal = a.goal;
  }

  pub join-asks : {v M : List ℕ} {node : ℕ} → node ≡ s + 2 ^ p → NotesHold W n low v M → (p < 10) × (node < 1_024) × (length M ≡ 7_365)
  join-asks e h =
      let b = a.notes.bits.small in
      let l = before in
      let f = node-fewer p s a.lower (omega arith) in
      (omega arith, omega arith, h.masks.size)

  pub joined-notes : {v M O : List ℕ} {node : ℕ} → node ≡ s + 2 ^ p → NotesHold W n low v M
      → O ≡ set M node (bit_and (get_or M (node + 2 ^ p) 0) (get_or M (node + 2 * 2 ^ p) 0)) → NotesHold W n low v O
  joined-notes e h j = notes-joined h before a.lower e refl j

  -- both halves
  module _ {v z : List ℕ} {y o more most node : ℕ} {side : Bool} (goals : ℕ) (en : node ≡ s + 2 ^ p) (es : side ≡ bit p q)
      (f : Stepped W x p false side y) (g : Stepped W x p true side o)
      (E : Adds n w v m count more (Reached W low q goals y (p + 1) s))
      (F : Adds n v z m more most (Reached W low q goals o (p + 1) node)) where
    goal_bit : {t : ℕ} → Goal low q goals t → bit p t ≡ side
    goal_bit {t} i = sym (lower-bit low p t before) ∙ ap (bit p) i.lower ∙ sym es

    pub expands_both : Adds n w z m count most (Reached W low q goals x p s)
    expands_both = adds_as (adds_then E F) to (λ u l d. inr (from u d (bit p u) refl))
      where
        to : (u : ℕ) → u < 2 ^ n → Reached W low q goals y (p + 1) s u ⊎ Reached W low q goals o (p + 1) node u
            → Reached W low q goals x p s u
        to u l (inl (e, d)) =
            let (r, b) = low_out u p a.lower e in
            (r, record { goal = d.goal; is = d.is; step = sym (f.same u d.goal b (goal_bit d.is)) ∙ d.step })
        to u l (inr (e, d)) =
            let (r, b) = high_out u p a.lower (e ∙ en) in
            (r, record { goal = d.goal; is = d.is; step = sym (g.same u d.goal b (goal_bit d.is)) ∙ d.step })

        from : (u : ℕ) → Reached W low q goals x p s u → (b : Bool) → bit p u ≡ b
            → Reached W low q goals y (p + 1) s u ⊎ Reached W low q goals o (p + 1) node u
        from u (e, d) false b =
            inl (low_in u p e b, record { goal = d.goal; is = d.is; step = f.same u d.goal b (goal_bit d.is) ∙ d.step })
        from u (e, d) true b =
            inr
            (high_in u p e b ∙ sym en, record { goal = d.goal; is = d.is; step = g.same u d.goal b (goal_bit d.is) ∙ d.step })

    -- and it is spent now
    spent-now : node < 65_536 → q < 65_536 → SpentAt W n low z (spent_key x node (q / 2 ^ (level_at W x / 2))) goals
    spent-now ln lq = spent_in x node (q / 2 ^ (level_at W x / 2)) goals (part_small q (level_at W x / 2) lq) ln (record { all = all })
      where
        all : (i r u c : ℕ) → r < 2 ^ i → r + 2 ^ i ≡ node → u < 2 ^ n → u % 2 ^ i ≡ r
            → c % 2 ^ low / 2 ^ (level_at W x / 2) ≡ q / 2 ^ (level_at W x / 2) → bit (c / 2 ^ low) goals ≡ true → holds_at W x u c ≡ true
            → 1 ≤ mark_of z u
        all i r u c lr er lu eu ec b h =
            let d : i ≡ p = node-same i p r s lr a.lower (er ∙ en) in
            let k : 2 ^ i ≡ 2 ^ p = ap (λ (j : ℕ). 2 ^ j) d in
            let same : r ≡ s = omega arith in
            let t : ℕ = q + c / 2 ^ low * 2 ^ low in
            let lower : (q + c / 2 ^ low * 2 ^ low) % 2 ^ low ≡ q = state_word low q (c / 2 ^ low) a.goal in
            let upper : (q + c / 2 ^ low * 2 ^ low) / 2 ^ low ≡ c / 2 ^ low = state-place low q (c / 2 ^ low) a.goal in
            expands_both.complete u lu (
              ap (λ (j : ℕ). u % j) (sym k) ∙ eu ∙ same,
              record {
                goal = q + c / 2 ^ low * 2 ^ low;
                is = record { lower = lower; upper = ap (λ (j : ℕ). bit j goals) upper ∙ b };
                step = sym (reads_high W x a.arrow u c (q + c / 2 ^ low * 2 ^ low)
                    (part-agrees low (level_at W x / 2) (q + c / 2 ^ low * 2 ^ low) c q lower upper ec)) ∙ h;
              },
            )

    pub expands_halves : {M O R : List ℕ} → node < 65_536 → q < 65_536 → NotesHold W n low z M
        → O ≡ set M node (bit_and (get_or M (node + 2 ^ p) 0) (get_or M (node + 2 * 2 ^ p) 0))
        → KeyPut O (spent_key x node (q / 2 ^ (level_at W x / 2))) goals R
        → Adds n w z m count most (Reached W low q goals x p s) × NotesHold W n low z R
    expands_halves ln lq h j k = (expands_both, notes-put (notes-joined h before a.lower en refl j) (spent-now ln lq) k)
