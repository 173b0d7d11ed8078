-- Canonicity: in a well-formed table two arrows that denote the same function are the same arrow, marks included. Assumes nothing.
use mathlib.Core.Path.{◌≡◌, refl, sym, ap, ◌∙◌}
use mathlib.Core.Logic.{◌≢◌, by_cases}
use mathlib.Core.Bool.{Bool, true, false, true≢false, false≢true}
use Prim.Native.Nat.{ℕ, zero, suc, ◌+◌, ◌≤◌, ◌<◌}
use native.Mathlib.Decide.{dec_lt, ℕ_discrete}
use native.Mathlib.Omega.{arith}
use Rattle.diagram.specs.Level.{Val, turn, Varies, upd}
use Rattle.diagram.proofs.Level.{Reads, upd_other, upd_unread}
use Rattle.diagram.specs.Rows.{Rows, marked, target, Leads, row, carry, Arrow, level_of, child, follow, den, WellFormed}
use Rattle.diagram.proofs.Rows.{row-arrow, arrow-told, carry-marked, carry_inj, leads-used, leads-level}
use Rattle.diagram.proofs.Den.{den-zero, den-one, den_reads, den-child, follow-arrow, follow_deeper}

-- A valuation at which two arrows differ.
pub record Differ (m : ℕ) (rows : Rows) (a b : ℕ) : Type 0 where
  pub at : Val
  pub apart : den m rows a at ≢ den m rows b at

differ_sym : {m : ℕ} {rows : Rows} {a b : ℕ} → Differ m rows a b → Differ m rows b a
differ_sym d = record { at = d.at; apart = λ e. d.apart (sym e) }

-- A bit that is not 0 is 1, and one that is not 1 is 0.
pub not-false : (b : Bool) → b ≢ false → b ≡ true
not-false true h = refl
not-false false h = absurd (h refl)

pub not-true : (b : Bool) → b ≢ true → b ≡ false
not-true true h = absurd (h refl)
not-true false h = refl

-- A bit told by what it turns 0 into.
turn-told : (b c : Bool) → turn b false ≡ turn c false → b ≡ c
turn-told false false e = refl
turn-told false true e = absurd (false≢true e)
turn-told true false e = absurd (true≢false e)
turn-told true true e = refl

module _ {m N : ℕ} {rows : Rows} (wf : WellFormed m N rows) where
  -- A difference of an arrow that is followed for the bit b is one of the arrow: from one that leads past its level, and from one that
  -- leads to the same level.
  lift : (a i : ℕ) (b : Bool) (c : ℕ) → Leads a i → rows.used i ≡ true → Arrow rows c → rows.level i < level_of m rows c
      → Differ m rows (follow rows a i b) c → Differ m rows a c
  lift a i b c e u uc lc d = record {
    at = upd d.at (rows.level i) b;
    apart = λ q. d.apart (sym (den-child wf a i e b u d.at) ∙ q ∙ upd_unread d.at (rows.level i) b (den_reads wf m c uc) lc);
  }

  lift-both : (a c i j : ℕ) (b : Bool) → Leads a i → Leads c j → rows.used i ≡ true → rows.used j ≡ true → rows.level i ≡ rows.level j
      → Differ m rows (follow rows a i b) (follow rows c j b) → Differ m rows a c
  lift-both a c i j b e g u w el d = record {
    at = upd d.at (rows.level i) b;
    apart =
        λ q. d.apart
        (sym (den-child wf a i e b u d.at) ∙ q ∙ ap (λ l. den m rows c (upd d.at l b)) el ∙ den-child wf c j g b w d.at);
  }

  -- What the induction gives: arrows that differ and lead past level k differ at a valuation.
  abbrev Below : ℕ → Type 0
  Below k = (a b : ℕ) → Arrow rows a → Arrow rows b → k < level_of m rows a → k < level_of m rows b → a ≢ b → Differ m rows a b

  -- The two arrows that are followed are not the same.
  follow-apart : (a i : ℕ) → rows.used i ≡ true → follow rows a i false ≢ follow rows a i true
  follow-apart a i u e = (wf.ok i u).reduced (carry_inj (marked a) (rows.low i) (rows.high i) e)

  -- An arrow to a row, and one that leads past its level.
  one_side : (a i b : ℕ) → Leads a i → rows.used i ≡ true → Arrow rows b → rows.level i < level_of m rows b → Below (rows.level i)
      → Differ m rows a b
  one_side a i b e u ub lb below =
      let lo = follow rows a i false in
      let hi = follow rows a i true in
      by_cases (ℕ_discrete lo b)
      (λ q. lift a i true b e u ub lb
      (below hi b (follow-arrow wf a i e true u) ub (follow_deeper wf a i e true u) lb (λ g. follow-apart a i u (q ∙ sym g))))
      (λ h. lift a i false b e u ub lb (below lo b (follow-arrow wf a i e false u) ub (follow_deeper wf a i e false u) lb h))

  -- Arrows to two rows of one level, of which those that are followed are the same, are the same: no high arrow carries a NOT.
  followed_same : (a c i j : ℕ) → Leads a i → Leads c j → rows.used i ≡ true → rows.used j ≡ true → rows.level i ≡ rows.level j
      → follow rows a i false ≡ follow rows c j false → follow rows a i true ≡ follow rows c j true → a ≡ c
  followed_same a c i j e g u w el lo hi =
      let k : (x k : ℕ) → rows.used k ≡ true → marked (carry (marked x) (rows.high k)) ≡ turn (marked x) false = λ x k uk.
      carry-marked (marked x) (rows.high k) ∙ ap (turn (marked x)) (wf.ok k uk).plain
      in
      let q : marked a ≡ marked c = turn-told (marked a) (marked c) (sym (k a i u) ∙ ap marked hi ∙ k c j w) in
      let back : (b : Bool) → follow rows a i b ≡ follow rows c j b → child rows i b ≡ child rows j b = λ b s.
      carry_inj (marked a) (child rows i b) (child rows j b) (s ∙ ap (λ x. carry x (child rows j b)) (sym q))
      in
      let ij = wf.shared i j u w el (back false lo) (back true hi) in
      arrow-told a c (e ∙ ap suc ij ∙ sym g) q

  -- Arrows to two rows of one level.
  two-side : (a c i j : ℕ) → Leads a i → Leads c j → rows.used i ≡ true → rows.used j ≡ true → rows.level i ≡ rows.level j → a ≢ c
      → Below (rows.level i)
      → Differ m rows a c
  two-side a c i j e g u w el ne below =
      let deep : (b : Bool) → rows.level i < level_of m rows (follow rows c j b) = λ b. rw el (follow_deeper wf c j g b w) in
      let at : (b : Bool) → follow rows a i b ≢ follow rows c j b → Differ m rows a c = λ b h.
      lift-both a c i j b e g u w el
      (below (follow rows a i b) (follow rows c j b) (follow-arrow wf a i e b u) (follow-arrow wf c j g b w) (follow_deeper wf a i e b u)
      (deep b) h)
      in
      by_cases (ℕ_discrete (follow rows a i false) (follow rows c j false))
      (λ q. at true (λ r. ne (followed_same a c i j e g u w el q r)))
      (λ h. at false h)

  -- Arrows to two rows: the one of the lesser level is taken apart.
  rows-differ : (a c i j : ℕ) → Leads a i → Leads c j → Arrow rows a → Arrow rows c → a ≢ c → Below (rows.level i) → Below (rows.level j)
      → Differ m rows a c
  rows-differ a c i j e g ua uc ne bi bj =
      let u = leads-used rows a i e ua in
      let w = leads-used rows c j g uc in
      let la = leads-level m rows a i e in
      let lc = leads-level m rows c j g in
      by_cases (dec_lt (rows.level i) (rows.level j)) (λ h. one_side a i c e u uc (rw lc h) bi)
      (λ h. by_cases (dec_lt (rows.level j) (rows.level i)) (λ q. differ_sym (one_side c j a g w ua (rw la q) bj))
      (λ q. two-side a c i j e g u w (omega arith) ne bi))

  -- A constant is 0 or 1.
  constants_differ : (a b : ℕ) → target a ≡ 0 → target b ≡ 0 → a ≢ b → Differ m rows a b
  constants_differ zero zero e g ne = absurd (ne refl)
  constants_differ zero (suc zero) e g ne =
      record { at = λ l. false; apart = λ q. false≢true (sym (den-zero m rows _) ∙ q ∙ den-one m rows _) }
  constants_differ zero (suc (suc b)) e g ne = absurd (omega arith)
  constants_differ (suc zero) zero e g ne =
      record { at = λ l. false; apart = λ q. true≢false (sym (den-one m rows _) ∙ q ∙ den-zero m rows _) }
  constants_differ (suc zero) (suc zero) e g ne = absurd (ne refl)
  constants_differ (suc zero) (suc (suc b)) e g ne = absurd (omega arith)
  constants_differ (suc (suc a)) b e g ne = absurd (omega arith)

  -- An arrow to a row and a constant.
  constant_side : (d a i b : ℕ) → Leads a i → target b ≡ 0 → m ≤ level_of m rows a + d → Arrow rows a → Arrow rows b
      → ((k : ℕ) → k < m → m ≤ k + d → Below k)
      → Differ m rows a b
  constant_side d a i b e z ha ua ub below =
      let u = leads-used rows a i e ua in
      let o = wf.ok i u in
      let la = leads-level m rows a i e in
      let lb : level_of m rows b ≡ m = rw z in
      one_side a i b e u ub (rw lb o.shallow) (below (rows.level i) o.shallow (rw la at ha))

  -- Two arrows, by cases, where the induction gives what holds past each level k that d covers.
  differ-step : (d a b x y : ℕ) → target a ≡ x → target b ≡ y → m ≤ level_of m rows a + d → m ≤ level_of m rows b + d → Arrow rows a
      → Arrow rows b → a ≢ b
      → ((k : ℕ) → k < m → m ≤ k + d → Below k) → Differ m rows a b
  differ-step d a b zero zero ea eb ha hb ua ub ne below = constants_differ a b ea eb ne
  differ-step d a b zero (suc j) ea eb ha hb ua ub ne below = differ_sym (constant_side d b j a eb ea hb ub ua below)
  differ-step d a b (suc i) zero ea eb ha hb ua ub ne below = constant_side d a i b ea eb ha ua ub below
  differ-step d a b (suc i) (suc j) ea eb ha hb ua ub ne below =
      let la = leads-level m rows a i ea in
      let lb = leads-level m rows b j eb in
      let si = (wf.ok i (leads-used rows a i ea ua)).shallow in
      let sj = (wf.ok j (leads-used rows b j eb ub)).shallow in
      rows-differ a b i j ea eb ua ub ne (below (rows.level i) si (rw la at ha)) (below (rows.level j) sj (rw lb at hb))

  differ-by : (d a b : ℕ) → m ≤ level_of m rows a + d → m ≤ level_of m rows b + d → Arrow rows a → Arrow rows b → a ≢ b → Differ m rows a b
  differ-by zero a b ha hb ua ub ne = differ-step 0 a b (target a) (target b) refl refl ha hb ua ub ne (λ k h g. absurd (omega arith))
  differ-by (suc d) a b ha hb ua ub ne =
      differ-step (suc d) a b (target a) (target b) refl refl ha hb ua ub ne
      (λ k h g a' b' ua' ub' la lb ne'. differ-by d a' b' (omega arith) (omega arith) ua' ub' ne')

  -- Two arrows that are not the same differ at some valuation.
  pub differ : (a b : ℕ) → Arrow rows a → Arrow rows b → a ≢ b → Differ m rows a b
  differ a b ua ub ne = differ-by m a b (omega arith) (omega arith) ua ub ne

  -- Canonicity.
  pub canonical : (a b : ℕ) → Arrow rows a → Arrow rows b → ((v : Val) → den m rows a v ≡ den m rows b v) → a ≡ b
  canonical a b ua ub e =
      by_cases (ℕ_discrete a b) (λ g. g) (λ ne. let d = differ a b ua ub ne in absurd (d.apart (e d.at)))

  -- A row denotes no constant.
  pub row-varies : (i : ℕ) → rows.used i ≡ true → Varies (den m rows (row i))
  row-varies i u =
      let d0 = differ (row i) 0 (row-arrow rows i u) tt (omega arith) in
      let d1 = differ (row i) 1 (row-arrow rows i u) tt (omega arith) in
      record {
        off = d1.at;
        on = d0.at;
        at_off = not-true _ (λ e. d1.apart (e ∙ sym (den-one m rows d1.at)));
        at_on = not-false _ (λ e. d0.apart (e ∙ sym (den-zero m rows d0.at)));
      }

  -- What an arrow to a row does not tell apart is no reason for the row: an arrow reads its level.
  pub level-told : (a i : ℕ) → Leads a i → rows.used i ≡ true
      → ((v : Val) → den m rows a (upd v (rows.level i) false) ≡ den m rows a (upd v (rows.level i) true)) → ⊥
  level-told a i e u same =
      let d = differ (follow rows a i false) (follow rows a i true) (follow-arrow wf a i e false u) (follow-arrow wf a i e true u)
      (follow-apart a i u) in
      d.apart (sym (den-child wf a i e false u d.at) ∙ same d.at ∙ den-child wf a i e true u d.at)

  -- An arrow whose function reads only levels from k on leads to no lesser level.
  reads_level_at : (k a x : ℕ) → target a ≡ x → k ≤ m → Arrow rows a → Reads k m (den m rows a) → k ≤ level_of m rows a
  reads_level_at k a zero e km u r = rw e km
  reads_level_at k a (suc i) e km u r =
      let w = leads-used rows a i e u in
      let l = rows.level i in
      by_cases (dec_lt l k)
      (λ h. absurd
      (level-told a i e w (λ v. r _ _ (λ j kj _. upd_other v l false j (omega arith) ∙ sym (upd_other v l true j (omega arith))))))
      (λ h. rw (leads-level m rows a i e) (omega arith))

  pub reads_level : (k a : ℕ) → k ≤ m → Arrow rows a → Reads k m (den m rows a) → k ≤ level_of m rows a
  reads_level k a km u r = reads_level_at k a (target a) refl km u r
