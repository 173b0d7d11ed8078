-- The words and the stack hold the scene after steps, with a value pushed, and with a variable opened. Assumes nothing.
use mathlib.Core.Path.{◌≡◌, refl, sym, ap, ◌∙◌, subst}
use mathlib.Core.Logic.{◌≢◌, by_cases}
use mathlib.Core.Bool.{Bool, true, false, cond, true≢false}
use mathlib.Core.List.Memᴰ.{append_left}
use mathlib.Core.List.Memᴰ.{append_right}
use mathlib.Core.List.{List, [], ◌∷◌, ◌++◌, Memᴰ as Mem}
use mathlib.Core.Option.{Option, none, some}
use Prim.Native.Nat.{ℕ, zero, suc, ◌+◌, ◌*◌, ◌≤◌, ◌<◌}
use native.Mathlib.Decide.{ℕ_discrete, dec_lt}
use native.Mathlib.Numerals.{add-one}
use native.Mathlib.Omega.{arith}
use borrow.Author.Tests.{eq-eqb, ne_eqb}
use lib.ListN.{length, get_or, set, take, length-set, get_or-eq_default}
use lib.Seq.{get_or-set_same, get_or-set_other, get_or-take, length-take-le, take-suc-set, take-set-le, take-take}
use Rattle.mucalculus.specs.Form.{put, filled as has_content}
use Rattle.mucalculus.specs.Order.{Below}
use Rattle.layout.specs.Places.{VALID, FIRST_REGISTER, FIRST_RELATION, ROOTS_END, HEADER}
use Rattle.layout.specs.View.{View}
use Rattle.diagram.specs.Level.{Fn}
use Rattle.diagram.specs.Rows.{Rows, Arrow}
use Rattle.diagram.specs.Post.{Denotes}
use Rattle.diagram.specs.Keep.{Keeps}
use Rattle.diagram.proofs.Keep.{keeps_denotes}
use Rattle.rows.specs.Used.{rows_of}
use Rattle.rows.specs.Sound.{Sound}
use Rattle.rows.specs.Within.{valid_of}
use Rattle.rows.specs.Filled.{filled}
use Rattle.rows.proofs.Filled.{filled-mem}
use Rattle.collect.specs.Lent.{live}
use Rattle.collect.proofs.Lent.{get_or-mem}
use Rattle.book.specs.Bridge.{fn_of, fn_of_pairs}
use Rattle.book.specs.Table.{Place}
use Rattle.book.proofs.Held.{denoted, held-arrow, held-push, held_keeps}
use Rattle.contract.specs.Seen.{arrow_in}
use Rattle.contract.proofs.Seen.{word_of, valid_word}
use Rattle.steps.specs.Steps.{Fits}
use Rattle.steps.proofs.Steps.{live_same}
use Rattle.steps.specs.declared.Step.{Step}
use Rattle.modal.specs.declared.Limits.{Limits}
use Rattle.modal.specs.Chain.{Alike, Moved}
use Rattle.modal.proofs.Chain.{alike_trans, alike_cons, operands-first, base-next, step-pre}
use Rattle.modal.proofs.Laws.{held-mem}
use Rattle.evaluator.specs.Scene.{stack_size, Scene, exist_in, Open, Ready, LivePre}
use Rattle.evaluator.proofs.Scene.{pushed, opened}

-- a place's content is kept with its row
place_kept : {X : Type 0} (m : ℕ) {before after : Rows} {roots : List ℕ} (f : X → Fn) (o : Option X) (u : Option ℕ)
    → Keeps before after roots → ((a : ℕ) → u ≡ some a → Mem a roots)
    → Place m before f o u → Place m after f o u
place_kept m f none none k i p = tt
place_kept m f none (some a) k i p = absurd p
place_kept m f (some x) none k i p = absurd p
place_kept m f (some x) (some a) k i p = keeps_denotes k (i a refl) p

-- a variable that is open is one of the scope's
pub in_scope : (l : List Bool) (P : ℕ) → get_or l P false ≡ true → P < length l
in_scope l P e = by_cases (dec_lt P (length l)) (λ h. h) (λ n. absurd (true≢false (sym e ∙ get_or-eq_default l false (omega arith))))

-- what stood below a pushed value stands there still
pub still-below : (held : ℕ) (last stack : List ℕ) (a : ℕ) → take (held + 1) last ≡ take (held + 1) (set stack held a)
    → take held last ≡ take held stack
still-below held last stack a e =
    sym (take-take held (held + 1) last (omega arith)) ∙ ap (take held) e ∙ take-take held (held + 1) (set stack held a) (omega arith)
    ∙ take-set-le held stack held a (omega arith)

-- a place that is filled holds an arrow
pub filled-place : {X : Type 0} (m : ℕ) (rows : Rows) (f : X → Fn) (o : Option X) (w : ℕ) → has_content o ≡ true
    → Place m rows f o (arrow_in w)
    → (x : X) × (o ≡ some x) × (a : ℕ) × (w ≡ suc a) × Denotes m rows a (f x)
filled-place m rows f none w h p = absurd (true≢false (sym h))
filled-place m rows f (some x) zero h p = absurd p
filled-place m rows f (some x) (suc a) h p = (x, refl, a, refl, p)

-- V's arrow is a root, whatever is lent
pub valid-root : {W : View} (lent : List ℕ) → Sound W → Mem (valid_of W) (live W lent)
valid-root {W} lent s =
    append_left lent
    (filled-mem W (valid_of W) (record { at = VALID; from = omega arith; below = omega arith; holds = valid_word W s.valid }))

-- and V's word may be read as one
pub valid-asks : {W : View} → Sound W → (VALID < HEADER) × (HEADER ≤ W.size) × (0 < W.header VALID)
valid-asks {W} s = (omega arith, let l = s.good.sizes.room in omega arith, let e = valid_word W s.valid in omega arith)

-- the arrow that was read
pub valid-read : (W : View) (x : ℕ) → x + 1 ≡ W.header VALID → x ≡ valid_of W
valid-read W x e = omega arith

module _ {L : Limits} {W : View} {stack places : List ℕ} {held : ℕ} {σ : Scene} (R : Ready L W stack places held σ) where
  -- ---- roots

  -- an arrow in the live part of the stack is a root
  pub stack_root : (p : ℕ) → p < held → Mem (get_or stack p 0) σ.roots
  stack_root p l =
      let z : length (take held stack) ≡ held = length-take-le held stack (let a = R.size in let b = R.within in omega arith) in
      let m = get_or-mem (take held stack) p (omega arith) in
      R.roots.to _ (append_right (filled W) (subst (λ (x : ℕ). Mem x (take held stack)) (get_or-take held stack p 0 l) m))

  -- so is one in V's word, a register or a relation
  pub word_root : (h a : ℕ) → VALID ≤ h → h < ROOTS_END → arrow_in (W.header h) ≡ some a → Mem a (live W (take held stack))
  word_root h a f b e =
      append_left (take held stack) (filled-mem W a (record { at = h; from = f; below = b; holds = word_of (W.header h) a e }))

  -- V is live
  pub valid-mem : Mem (valid_of W) σ.roots
  valid-mem = R.roots.to (valid_of W) (valid-root (take held stack) R.base.sound)

  pub valid-live : Mem (fn_of L.bits (exist_in L.bits σ)) σ.fns
  valid-live = subst (λ (F : Fn). Mem F σ.fns) (denoted R.valid) (held-mem R.lives valid-mem)

  pub lent-arrows : (a : ℕ) → Mem a (take held stack) → Arrow (rows_of W) a
  lent-arrows a h = held-arrow R.lives a (R.roots.to a (append_right (filled W) h))

  -- the live words are lent to a step
  pub live-pre : {s : Step} → Fits (2 * L.bits) (rows_of W) s → LivePre L W stack held s
  live-pre f = record { within = let a = R.within in let b = R.size in omega arith; asks = step-pre R.base lent-arrows f }

  -- ---- after steps

  module _ {X : View} (m : Moved L.bits W X) (k : Keeps (rows_of W) (rows_of X) σ.roots) where
    same_word : (h : ℕ) → FIRST_REGISTER ≤ h → arrow_in (W.header h) ≡ arrow_in (X.header h)
    same_word h l = ap arrow_in (sym (m.frame.header h (omega arith) (omega arith) (omega arith) (omega arith)))

    place-next : {Y : Type 0} (f : Y → Fn) (o : Option Y) (h : ℕ) → FIRST_REGISTER ≤ h → h < ROOTS_END
        → Place (2 * L.bits) (rows_of W) f o (arrow_in (W.header h))
        → Place (2 * L.bits) (rows_of X) f o (arrow_in (X.header h))
    place-next f o h a b p =
        subst (λ (u : Option ℕ). Place (2 * L.bits) (rows_of X) f o u) (same_word h a)
        (place_kept (2 * L.bits) f o (arrow_in (W.header h)) k (λ x q. R.roots.to x (word_root h x (omega arith) b q)) p)

    valid-next : Denotes (2 * L.bits) (rows_of X) (valid_of X) (fn_of L.bits (exist_in L.bits σ))
    valid-next =
        let same : X.header VALID ≡ W.header VALID = m.frame.header VALID (omega arith) (omega arith) (omega arith) (omega arith) in
        let e : valid_of W ≡ valid_of X = omega arith in
        subst (λ (x : ℕ). Denotes (2 * L.bits) (rows_of X) x (fn_of L.bits (exist_in L.bits σ))) e
        (keeps_denotes k (R.roots.to (valid_of W) (valid-root (take held stack) R.base.sound)) R.valid)

    module _ (after : List ℕ) (z : length after ≡ length stack) (e : take held after ≡ take held stack) where
      same_place : (p : ℕ) → p < held → get_or stack p 0 ≡ get_or after p 0
      same_place p l = sym (get_or-take held stack p 0 l) ∙ ap (λ (s : List ℕ). get_or s p 0) (sym e) ∙ get_or-take held after p 0 l

      pub ready-next : Ready L X after places held σ
      ready-next = record {
        base = base-next R.base m;
        valid = valid-next;
        reg = λ r l. place-next (fn_of L.bits) (σ.reg r) (FIRST_REGISTER + r) (omega arith) (omega arith) (R.reg r l);
        rel = λ t l. place-next (fn_of_pairs L.bits) (σ.rel t) (FIRST_RELATION + t) (omega arith) (omega arith) (R.rel t l);
        in-reg = R.in-reg;
        in-rel = R.in-rel;
        in-env = R.in-env;
        roots = subst (λ (xs : List ℕ). Alike xs σ.roots) (sym (live_same m.frame (take held after) ∙ ap (live W) e)) R.roots;
        lives = held_keeps R.lives k;
        size = z ∙ R.size;
        within = R.within;
        vars = R.vars;
        slots = R.slots;
        open_at = λ P o. let w = R.open_at P o in record {
          below = w.below;
          denotes =
              subst (λ (x : ℕ). Denotes (2 * L.bits) (rows_of X) x (fn_of L.bits (σ.env P))) (same_place (get_or places P 0) w.below)
              (keeps_denotes k (stack_root (get_or places P 0) w.below) w.denotes);
        };
      }

  -- ---- a value more

  module _ (a : ℕ) (F : Fn) (d : Denotes (2 * L.bits) (rows_of W) a F) (room : held < stack_size) where
    more-roots : Alike (live W (take (held + 1) (set stack held a))) (a ∷ σ.roots)
    more-roots =
        let t : take (held + 1) (set stack held a)
        ≡ take held stack ++ (a ∷ []) = rw (add-one held) (take-suc-set stack held a (let s = R.size in omega arith)) in
        subst (λ (xs : List ℕ). Alike (live W xs) (a ∷ σ.roots)) (sym t)
        (alike_trans (operands-first (filled W) (take held stack) (a ∷ [])) (alike_cons a R.roots))

    -- what stood below stands there
    below-same : (p : ℕ) → p < held → get_or (set stack held a) p 0 ≡ get_or stack p 0
    below-same p l = get_or-set_other stack held p a 0 (omega arith)

    still_open : (P : ℕ) → get_or σ.scope P false ≡ true → Open L.bits W (set stack held a) places (held + 1) (σ.env P) P
    still_open P o = let w = R.open_at P o in record {
      below = let l = w.below in omega arith;
      denotes =
          subst (λ (x : ℕ). Denotes (2 * L.bits) (rows_of W) x (fn_of L.bits (σ.env P))) (sym (below-same (get_or places P 0) w.below))
          w.denotes;
    }

    pub ready-push : Ready L W (set stack held a) places (held + 1) (pushed σ a F)
    ready-push = record {
      base = R.base;
      valid = R.valid;
      reg = R.reg;
      rel = R.rel;
      in-reg = R.in-reg;
      in-rel = R.in-rel;
      in-env = R.in-env;
      roots = more-roots;
      lives = held-push R.lives d;
      size = length-set stack held a ∙ R.size;
      within = omega arith;
      vars = R.vars;
      slots = R.slots;
      open_at = still_open;
    }

  -- ---- a variable opened

  module _ (a : ℕ) (A : List Bool) (d : Denotes (2 * L.bits) (rows_of W) a (fn_of L.bits A)) (i : Below A (exist_in L.bits σ))
      (room : held < stack_size) where
    pub ready_open : (P : ℕ) → Ready L W (set stack held a) (set places P held) (held + 1) (opened L.bits σ P a A)
    ready_open P = record {
      base = R.base;
      valid = R.valid;
      reg = R.reg;
      rel = R.rel;
      in-reg = R.in-reg;
      in-rel = R.in-rel;
      in-env = λ Q o. by_cases (ℕ_discrete Q P)
          (λ e. subst (λ (C : List Bool). Below C (exist_in L.bits σ)) (sym (ap (λ (b : Bool). cond b A (σ.env Q)) (eq-eqb Q P e))) i)
          (λ n. subst (λ (C : List Bool). Below C (exist_in L.bits σ)) (sym (ap (λ (b : Bool). cond b A (σ.env Q)) (ne_eqb Q P n)))
          (R.in-env Q (sym (get_or-set_other σ.scope P Q true false n) ∙ o)));
      roots = more-roots a (fn_of L.bits A) d room;
      lives = held-push R.lives d;
      size = length-set stack held a ∙ R.size;
      within = omega arith;
      vars = length-set σ.scope P true ∙ R.vars;
      slots = length-set places P held ∙ R.slots;
      open_at = λ Q o. by_cases (ℕ_discrete Q P) (at_P Q o) (λ n. not_P Q n (sym (get_or-set_other σ.scope P Q true false n) ∙ o));
    }
      where
        at_P : (Q : ℕ) → get_or (set σ.scope P true) Q false ≡ true → Q ≡ P
            → Open L.bits W (set stack held a) (set places P held) (held + 1) (put σ.env P A Q) Q
        at_P Q o e =
            let l : Q < length (set σ.scope P true) = in_scope (set σ.scope P true) Q o in
            let n : P < length places = let s = length-set σ.scope P true in let v = R.vars in let w = R.slots in omega arith in
            let p : get_or (set places P held) Q 0
            ≡ held = ap (λ (x : ℕ). get_or (set places P held) x 0) e ∙ get_or-set_same places P held 0 n in
            let s : get_or (set stack held a) (get_or (set places P held) Q 0) 0
            ≡ a = ap (λ (x : ℕ). get_or (set stack held a) x 0) p ∙ get_or-set_same stack held a 0 (let z = R.size in omega arith) in
            let B : put σ.env P A Q ≡ A = ap (λ (b : Bool). cond b A (σ.env Q)) (eq-eqb Q P e) in
            record {
              below = omega arith;
              denotes =
                  subst (λ (C : List Bool). Denotes (2 * L.bits) (rows_of W) (get_or (set stack held a) (get_or (set places P held) Q 0) 0)
                  (fn_of L.bits C)) (sym B)
                  (subst (λ (x : ℕ). Denotes (2 * L.bits) (rows_of W) x (fn_of L.bits A)) (sym s) d);
            }

        not_P : (Q : ℕ) → Q ≢ P → get_or σ.scope Q false ≡ true
            → Open L.bits W (set stack held a) (set places P held) (held + 1) (put σ.env P A Q) Q
        not_P Q n o =
            let w = still_open a (fn_of L.bits A) d room Q o in
            let p : get_or (set places P held) Q 0 ≡ get_or places Q 0 = get_or-set_other places P Q held 0 n in
            let B : put σ.env P A Q ≡ σ.env Q = ap (λ (b : Bool). cond b A (σ.env Q)) (ne_eqb Q P n) in
            record {
              below = let l = w.below in omega arith;
              denotes =
                  subst (λ (C : List Bool). Denotes (2 * L.bits) (rows_of W) (get_or (set stack held a) (get_or (set places P held) Q 0) 0)
                  (fn_of L.bits C)) (sym B)
                  (subst (λ (x : ℕ). Denotes (2 * L.bits) (rows_of W) (get_or (set stack held a) x 0) (fn_of L.bits (σ.env Q))) (sym p)
                  w.denotes);
            }
