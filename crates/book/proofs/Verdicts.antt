-- The verdict on the ticks is what the computing run answers, over states and over pairs. Its count is the formula's rounds and the largest
-- need of its steps; 8 and 9 come exactly by their causes. Assumes nothing.
use mathlib.Core.Path.{◌≡◌, refl, sym, ap, ap₂, ◌∙◌, subst}
use mathlib.Core.Logic.{◌↔◌}
use mathlib.Core.Bool.{Bool, true, false, ◌&&◌, cond}
use mathlib.Core.List.{List, [], ◌∷◌, ◌++◌}
use Prim.Native.Nat.{ℕ, zero, suc, ◌+◌, ◌*◌, ◌^◌, ◌≤◌, ◌<◌, max}
use native.Mathlib.Omega.{arith}
use native.Mathlib.Nat.{add-zero, lt_of_not-le}
use lib.Dec.{T, leb, ltb, ltb→lt, lt→ltb}
use lib.ListN.{length}
use Rattle.mucalculus.specs.Sets.{same}
use Rattle.mucalculus.proofs.Sets.{same-eq, same_refl, and_out, false_of}
use Rattle.mucalculus.specs.Order.{start}
use Rattle.mucalculus.proofs.Fixpoint.{fix, iter, Mono, iter_found, stable}
use Rattle.mucalculus.specs.Fixpoint.{Into}
use Rattle.mucalculus.specs.Form.{Form, bot, top, neg, conj, disj, now, next, var, reg, box, dia, mu, nu, until, Pairs, Model, Env, put}
use Rattle.mucalculus.specs.Form.{reads, steady}
use Rattle.mucalculus.specs.Means.{compl, inter, union, bit_states, always, sometimes, size, exist, related, means}
use Rattle.mucalculus.specs.Exist.{Inside}
use Rattle.mucalculus.proofs.Exist.{related-inside, further_in, box_in, onward-into, means_in}
use Rattle.mucalculus.specs.Binder.{body}
use Rattle.mucalculus.proofs.Binder.{body-length, body_in, body_mono}
use Rattle.mucalculus.specs.Until.{further, onward}
use Rattle.mucalculus.proofs.Until.{onward-length, onward_mono, until-least}
use Rattle.mucalculus.specs.Rounds.{runs, rounds}
use Rattle.diagram.specs.Level.{Fn}
use Rattle.diagram.specs.Need.{step_need}
use Rattle.diagram.specs.Steps.{and_f, shift_f, exists_f}
use Rattle.accounts.specs.declared.Count.{Count}
use Rattle.accounts.specs.Count.{needing, another}
use Rattle.book.specs.Bridge.{fn_of, fn_of_pairs}
use Rattle.book.specs.Over.{states, pairs, pair_f, levels, all_pairs}
use Rattle.book.proofs.Over.{points_of, points_value}
use Rattle.book.specs.Ticks.{Tick, step, round, steps, round_ticks, ticks, exists_needs, not_need, two_need, bit_needs, not_needs}
use Rattle.book.specs.Ticks.{within_needs, relation_ticks, dia_needs, box_needs, further_ticks, keep_ticks, until_ticks, Verdict, counted}
use Rattle.book.specs.Ticks.{full, spent, verdict, within_rounds, peak, needs_in}
use Rattle.book.specs.Run.{fit, Outcome, value, full as full_run, spent as spent_run, and_then, exists_steps, not_step, two_step, two_by}
use Rattle.book.specs.Run.{dia_steps, box_steps, further_steps, both_by, keep_round, until_round, loop, neg_step, run, pair_needs}
use Rattle.book.specs.Run.{relation_needs, pairs_fit, pairs_count, needing_all, relation_fits, relation_count}
use Rattle.book.proofs.Run.{bit_step}

-- how many rounds a list of ticks has
abbrev pub rounds_in : List Tick → ℕ
rounds_in [] = zero
rounds_in (step k ∷ l) = rounds_in l
rounds_in (round ∷ l) = suc (rounds_in l)

-- steps after steps: all fit where both do, and they are counted one after the other
pub fit_append : (N : ℕ) (xs ys : List ℕ) → fit N (xs ++ ys) ≡ (fit N xs && fit N ys)
fit_append N [] ys = refl
fit_append N (x ∷ xs) ys = go (leb x N) (fit_append N xs ys)
  where
    go : (b : Bool) → fit N (xs ++ ys) ≡ (fit N xs && fit N ys) → (b && fit N (xs ++ ys)) ≡ ((b && fit N xs) && fit N ys)
    go true e = e
    go false e = refl

pub count-append : (q : Count) (xs ys : List ℕ) → needing_all q (xs ++ ys) ≡ needing_all (needing_all q xs) ys
count-append q [] ys = refl
count-append q (x ∷ xs) ys = count-append (needing q x) xs ys

-- the verdict with the set A as a run's outcome
abbrev pub settle : List Bool → Verdict → Outcome
settle A (counted q) = value A q
settle A full = full_run
settle A spent = spent_run

-- go on with the count
abbrev verdict_then : Verdict → (Count → Verdict) → Verdict
verdict_then (counted q) h = h q
verdict_then full h = full
verdict_then spent h = spent

steps-append : (xs ys : List ℕ) → steps (xs ++ ys) ≡ steps xs ++ steps ys
steps-append [] ys = refl
steps-append (x ∷ xs) ys = ap (λ (l : List Tick). step x ∷ l) (steps-append xs ys)

needs-append : (xs ys : List Tick) → needs_in (xs ++ ys) ≡ needs_in xs ++ needs_in ys
needs-append [] ys = refl
needs-append (step k ∷ xs) ys = ap (λ (ks : List ℕ). k ∷ ks) (needs-append xs ys)
needs-append (round ∷ xs) ys = needs-append xs ys

-- steps after steps are steps
steps_then : (xs ys : List Tick) → xs ≡ steps (needs_in xs) → ys ≡ steps (needs_in ys) → xs ++ ys ≡ steps (needs_in (xs ++ ys))
steps_then xs ys i j =
    ap₂ (λ (k l : List Tick). k ++ l) i j ∙ sym (steps-append (needs_in xs) (needs_in ys)) ∙ ap steps (sym (needs-append xs ys))

module _ (N R : ℕ) where
  -- one list after the other
  pub verdict-append : (r : Count) (xs ys : List Tick) → verdict N R r (xs ++ ys) ≡ verdict_then (verdict N R r xs) (λ q. verdict N R q ys)
  verdict-append r [] ys = refl
  verdict-append r (step k ∷ xs) ys = go (leb k N) (verdict-append (needing r k) xs ys)
    where
      go : (t : Bool) → verdict N R (needing r k) (xs ++ ys) ≡ verdict_then (verdict N R (needing r k) xs) (λ q. verdict N R q ys)
          → cond t (verdict N R (needing r k) (xs ++ ys)) full
          ≡ verdict_then (cond t (verdict N R (needing r k) xs) full) (λ q. verdict N R q ys)
      go true e = e
      go false e = refl
  verdict-append r (round ∷ xs) ys = go (ltb r.rounds R) (verdict-append (another r) xs ys)
    where
      go : (t : Bool) → verdict N R (another r) (xs ++ ys) ≡ verdict_then (verdict N R (another r) xs) (λ q. verdict N R q ys)
          → cond t (verdict N R (another r) (xs ++ ys)) spent
          ≡ verdict_then (cond t (verdict N R (another r) xs) spent) (λ q. verdict N R q ys)
      go true e = e
      go false e = refl

  -- a count that is the verdict
  pub counted_same : (c d : Count) → counted c ≡ counted d → c ≡ d
  counted_same c d e = cc

  -- no verdict is two
  pub not_full : (c : Count) → full ≡ counted c → ⊥
  not_full c e = let z : ◌≡◌ {A = ℕ} 0 1 = cc in absurd (omega arith)

  pub not-spent : (c : Count) → spent ≡ counted c → ⊥
  not-spent c e = let z : ◌≡◌ {A = ℕ} 0 1 = cc in absurd (omega arith)

  -- the count of rounds does not fall
  verdict_grows : (r : Count) (xs : List Tick) (q : Count) → verdict N R r xs ≡ counted q → r.rounds ≤ q.rounds
  verdict_grows r [] q e = let i : r.rounds ≡ q.rounds = ap (λ (c : Count). c.rounds) (counted_same r q e) in omega arith
  verdict_grows r (step k ∷ xs) q e = go (leb k N) (verdict_grows (needing r k) xs q) e
    where
      go : (t : Bool) → (verdict N R (needing r k) xs ≡ counted q → r.rounds ≤ q.rounds)
          → cond t (verdict N R (needing r k) xs) full ≡ counted q → r.rounds ≤ q.rounds
      go true h i = h i
      go false h i = absurd (not_full q i)
  verdict_grows r (round ∷ xs) q e = go (ltb r.rounds R) (verdict_grows (another r) xs q) e
    where
      go : (t : Bool) → (verdict N R (another r) xs ≡ counted q → suc r.rounds ≤ q.rounds)
          → cond t (verdict N R (another r) xs) spent ≡ counted q → r.rounds ≤ q.rounds
      go true h i = let l = h i in omega arith
      go false h i = absurd (not-spent q i)

  -- steps alone
  pub steps-verdict : (r : Count) (ks : List ℕ) → verdict N R r (steps ks) ≡ cond (fit N ks) (counted (needing_all r ks)) full
  steps-verdict r [] = refl
  steps-verdict r (k ∷ ks) = go (leb k N) (steps-verdict (needing r k) ks)
    where
      go : (t : Bool) → verdict N R (needing r k) (steps ks) ≡ cond (fit N ks) (counted (needing_all (needing r k) ks)) full
          → cond t (verdict N R (needing r k) (steps ks)) full ≡ cond (t && fit N ks) (counted (needing_all r (k ∷ ks))) full
      go true e = e
      go false e = refl

  -- one step more in front
  settle_step : (C : List Bool) (r : Count) (k : ℕ) (l : List Tick)
      → settle C (verdict N R r (step k ∷ l)) ≡ cond (leb k N) (settle C (verdict N R (needing r k) l)) full_run
  settle_step C r k l = go (leb k N)
    where
      go : (t : Bool) → settle C (cond t (verdict N R (needing r k) l) full) ≡ cond t (settle C (verdict N R (needing r k) l)) full_run
      go true = refl
      go false = refl

  -- what follows a value
  settle_then : (x : Outcome) (A C : List Bool) (r : Count) (xs ys : List Tick) (G : List Bool → Count → Outcome)
      → x ≡ settle A (verdict N R r xs)
      → ((q : Count) → r.rounds ≤ q.rounds → G A q ≡ settle C (verdict N R q ys)) → and_then x G ≡ settle C (verdict N R r (xs ++ ys))
  settle_then x A C r xs ys G d h =
      ap (λ (o : Outcome). and_then o G) d ∙ go (verdict N R r xs) refl ∙ ap (settle C) (sym (verdict-append r xs ys))
    where
      go : (w : Verdict) → verdict N R r xs ≡ w → and_then (settle A w) G ≡ settle C (verdict_then w (λ q. verdict N R q ys))
      go (counted q) e = h q (verdict_grows r xs q e)
      go full e = refl
      go spent e = refl

  -- ---- the steps

  -- a last step
  last_step : (C : List Bool) (q : Count) (k : ℕ)
      → cond (leb k N) (value C (needing q k)) full_run ≡ settle C (verdict N R q (steps (k ∷ [])))
  last_step C q k = sym (settle_step C q k [])

  pub exists-ticks : (n : ℕ) (live : List Fn) (C : List Bool) (q : Count) (j : ℕ) (F : Fn)
      → exists_steps n N live j F q (λ c. value C c) ≡ settle C (verdict N R q (steps (exists_needs n live j F)))
  exists-ticks n live C q zero F = refl
  exists-ticks n live C q (suc j) F =
      let E = exists_f (suc (2 * j)) F in
      let k = step_need (2 * n) (F ∷ live) E in
      ap (λ (o : Outcome). cond (leb k N) o full_run) (exists-ticks n live C (needing q k) j E)
      ∙ sym (settle_step C q k (steps (exists_needs n live j E)))

  pub dia_ticks : (n : ℕ) (live : List Fn) (Q : Pairs) (A : List Bool) (q : Count)
      → dia_steps n N live Q A q ≡ settle (sometimes (2 ^ n) Q A) (verdict N R q (steps (dia_needs n live Q A)))
  dia_ticks n live Q A q =
      let S = shift_f (fn_of n A) in
      let C = and_f S (fn_of_pairs n Q) in
      let B = sometimes (2 ^ n) Q A in
      let k = step_need (2 * n) (fn_of n A ∷ live) S in
      let l = step_need (2 * n) (S ∷ fn_of_pairs n Q ∷ live) C in
      ap (λ (o : Outcome). cond (leb k N) o full_run)
      (ap (λ (o : Outcome). cond (leb l N) o full_run) (exists-ticks n live B (needing (needing q k) l) n C)
      ∙ sym (settle_step B (needing q k) l (steps (exists_needs n live n C))))
      ∙ sym (settle_step B q k (step l ∷ steps (exists_needs n live n C)))

  -- a bit and NOT, each with its AND
  pub bit-ticks : (n : ℕ) (live : List Fn) (E : List Bool) (p : ℕ) (q : Count)
      → bit_step n N live E p q ≡ settle (inter (2 ^ n) (bit_states (2 ^ n) p) E) (verdict N R q (steps (bit_needs n live E p)))
  bit-ticks n live E p q =
      let B = bit_states (2 ^ n) p in
      let C = inter (2 ^ n) B E in
      let k = step_need (2 * n) live (fn_of n B) in
      let l = two_need n live (inter (2 ^ n)) B E in
      ap (λ (o : Outcome). cond (leb k N) o full_run) (last_step C (needing q k) l) ∙ sym (settle_step C q k (steps (l ∷ [])))

  pub not-ticks : (n : ℕ) (live : List Fn) (E A : List Bool) (q : Count)
      → not_step n N live E A q ≡ settle (inter (2 ^ n) (compl (2 ^ n) A) E) (verdict N R q (steps (not_needs n live E A)))
  not-ticks n live E A q =
      let B = compl (2 ^ n) A in
      let C = inter (2 ^ n) B E in
      let k = not_need n live A in
      let l = two_need n live (inter (2 ^ n)) B E in
      ap (λ (o : Outcome). cond (leb k N) o full_run) (last_step C (needing q k) l) ∙ sym (settle_step C q k (steps (l ∷ [])))

  -- two parts, left before right, the left one's value live during the right one's steps
  both-ticks : (lv : List Bool → Fn) (n : ℕ) (live : List Fn) (op : List Bool → List Bool → List Bool)
      (x : Outcome) (y : List Bool → Count → Outcome) (A B : List Bool) (r : Count) (xs ys : List Tick)
      → x ≡ settle A (verdict N R r xs) → ((q : Count) → y A q ≡ settle B (verdict N R q ys))
      → both_by lv n N live op x y
      ≡ settle (op A B) (verdict N R r (xs ++ (ys ++ steps (step_need (2 * n) (lv B ∷ lv A ∷ live) (lv (op A B)) ∷ []))))
  both-ticks lv n live op x y A B r xs ys i j =
      let last = step_need (2 * n) (lv B ∷ lv A ∷ live) (lv (op A B)) ∷ [] in
      settle_then x A (op A B) r xs (ys ++ steps last) _ i
      (λ q h. settle_then (y A q) B (op A B) q ys (steps last) (λ X p. two_by lv n N live op A X p) (j q)
      (λ p o. last_step (op A B) p (step_need (2 * n) (lv B ∷ lv A ∷ live) (lv (op A B)))))

  -- over a relation whose pairs are within E
  module _ (n : ℕ) (E : List Bool) (Q : Pairs) (in_e : Inside (2 ^ n) E Q) where
    pub box-ticks : (live : List Fn) (A : List Bool) (q : Count)
        → box_steps n N live E Q A q ≡ settle (inter (2 ^ n) (always (2 ^ n) Q A) E) (verdict N R q (steps (box_needs n live E Q A)))
    box-ticks live A q =
        let B = inter (2 ^ n) (compl (2 ^ n) A) E in
        let C = sometimes (2 ^ n) Q B in
        let D = inter (2 ^ n) (compl (2 ^ n) C) E in
        let first = not_needs n live E A in
        let mid = dia_needs n live Q B in
        let last = not_needs n live E C in
        settle_then (not_step n N live E A q) B D q (steps first) (steps mid ++ steps last) _ (not-ticks n live E A q)
        (λ p h. settle_then (dia_steps n N live Q B p) C D p (steps mid) (steps last) (λ X o. not_step n N live E X o)
        (dia_ticks n live Q B p) (λ o i. not-ticks n live E C o))
        ∙ ap₂ (λ (X : List Bool) (l : List Tick). settle X (verdict N R q l)) (box_in (2 ^ n) E Q in_e A)
        (ap (λ (l : List Tick). steps first ++ l) (sym (steps-append mid last)) ∙ sym (steps-append first (mid ++ last)))

    pub further_ticks_lem : (b : Bool) (live : List Fn) (A : List Bool) (q : Count)
        → further_steps b n N live E Q A q ≡ settle (further b (2 ^ n) Q A) (verdict N R q (further_ticks b n live E Q A))
    further_ticks_lem true live A q = dia_ticks n live Q A q
    further_ticks_lem false live A q =
        let B = inter (2 ^ n) (always (2 ^ n) Q A) E in
        both-ticks (fn_of n) n live (inter (2 ^ n)) (box_steps n N live E Q A q) (λ C p. dia_steps n N (fn_of n C ∷ live) Q E p) B
        (sometimes (2 ^ n) Q E) q (steps (box_needs n live E Q A)) (steps (dia_needs n (fn_of n B ∷ live) Q E))
        (box-ticks live A q) (λ p. dia_ticks n (fn_of n B ∷ live) Q E p)
        ∙ ap (λ (X : List Bool). settle X (verdict N R q (further_ticks false n live E Q A))) (further_in (2 ^ n) E Q in_e A)

    -- a round of until, given its parts
    until_ticks_lem : (live : List Fn) (b : Bool) (F G : List Bool) (fs gs : List Fn → List Tick) (xs ys : List Fn → Count → Outcome)
        → ((l : List Fn) (q : Count) → xs l q ≡ settle F (verdict N R q (fs l)))
        → ((l : List Fn) (q : Count) → ys l q ≡ settle G (verdict N R q (gs l))) → (A : List Bool) (q : Count)
        → until_round n N live b E Q xs ys A q ≡ settle (onward b (2 ^ n) Q F G A) (verdict N R q (until_ticks n live b E Q F G fs gs A))
    until_ticks_lem live b F G fs gs xs ys i j A q =
        let held = fn_of n A ∷ live in
        let l = fn_of n G ∷ held in
        let D = further b (2 ^ n) Q A in
        both-ticks (fn_of n) n held (union (2 ^ n)) (ys held q) (λ B p. keep_round n N (fn_of n B ∷ held) b E Q xs A p) G (inter (2 ^ n) F D) q
        (gs held) (keep_ticks n l b E Q F fs A) (j held q)
        (λ p.
        both-ticks (fn_of n) n l (inter (2 ^ n)) (xs l p) (λ B o. further_steps b n N (fn_of n B ∷ l) E Q A o) F D p (fs l)
        (further_ticks b n (fn_of n F ∷ l) E Q A) (i l p)
        (λ o. further_ticks_lem b (fn_of n F ∷ l) A o))

  -- a binder's rounds, given those of its body
  module _ (k : ℕ) (E : List Bool) (b : Bool) (F : List Bool → List Bool) (h : List Bool → List Tick) (g : List Bool → Count → Outcome)
      (len : (A : List Bool) → length (F A) ≡ k) (into : Into E F) (mono : Mono F)
      (exact : (A : List Bool) (q : Count) → g A q ≡ settle (F A) (verdict N R q (h A))) where
    abbrev nth : ℕ → List Bool
    nth i = iter F i (start b k E)

    -- with fuel j the loop from the i-th set answers as the ticks of d + 1 rounds say
    abbrev Rounds : ℕ → Type 0
    Rounds j =
        (d i : ℕ) (r : Count) → i + d ≡ k → R ≤ r.rounds + j
        → loop R g j (nth i) r ≡ settle (fix b k E F) (verdict N R r (round_ticks h F (suc d) (nth i)))

    -- after a round: it left the set as it is, or the next one follows
    ends : (j : ℕ) → Rounds j → (d i : ℕ) (q : Count) → i + d ≡ k → R ≤ q.rounds + j → (t : Bool) → same (F (nth i)) (nth i) ≡ t
        → cond t (value (F (nth i)) q) (loop R g j (F (nth i)) q)
        ≡ settle (fix b k E F) (verdict N R q (cond t [] (round_ticks h F d (F (nth i)))))
    ends j below d i q s f true u =
        let e = same-eq (F (nth i)) (nth i) (subst T (sym u) tt) in
        ap (λ (X : List Bool). value X q) (e ∙ iter_found k E F len into mono b i e)
    ends j below zero i q s f false u =
        absurd (subst T (ap (λ (n : ℕ). same (F (nth n)) (nth n)) (sym s ∙ add-zero i) ∙ u)
        (subst (λ (X : List Bool). T (same X (nth k))) (sym (stable k E F len into mono b)) (same_refl (nth k))))
    ends j below (suc d) i q s f false u = below d (suc i) q (omega arith) f

    loop-ticks : (j : ℕ) → Rounds j
    loop-ticks zero d i r s f =
        ap (λ (t : Bool). settle (fix b k E F)
        (cond t (verdict N R (another r) (h (nth i) ++ cond (same (F (nth i)) (nth i)) [] (round_ticks h F d (F (nth i))))) spent))
        (sym (false_of (ltb r.rounds R) (λ t. let l = ltb→lt r.rounds R t in omega arith)))
    loop-ticks (suc j) d i r s f = go (loop-ticks j) (ltb r.rounds R)
      where
        rest : List Tick
        rest = cond (same (F (nth i)) (nth i)) [] (round_ticks h F d (F (nth i)))

        -- what follows the round
        follow : List Bool → Count → Outcome
        follow B p = cond (same B (nth i)) (value B p) (loop R g j B p)

        go : Rounds j → (t : Bool)
            → cond t (and_then (g (nth i) (another r)) follow) spent_run
            ≡ settle (fix b k E F) (cond t (verdict N R (another r) (h (nth i) ++ rest)) spent)
        go below true =
            settle_then (g (nth i) (another r)) (F (nth i)) (fix b k E F) (another r) (h (nth i)) rest follow (exact (nth i) (another r))
            (λ q l. ends j below d i q s (omega arith) (same (F (nth i)) (nth i)) refl)
        go below false = refl

  -- ---- sets

  module _ (m : Model) where
    -- two parts, left before right, the left one's value live during the right one's steps
    two-ticks : (e : Env) (live : List Fn) (f g : Form) (r : Count) (op : List Bool → List Bool → List Bool)
        → run (states m e) N R live f r ≡ settle (means m e f) (verdict N R r (ticks (states m e) live f))
        → ((l : List Fn) (q : Count) → run (states m e) N R l g q ≡ settle (means m e g) (verdict N R q (ticks (states m e) l g)))
        → and_then (run (states m e) N R live f r)
        (λ A q. and_then (run (states m e) N R (fn_of m.n A ∷ live) g q) (λ B p. two_step m.n N live op A B p))
        ≡ settle (op (means m e f) (means m e g))
        (verdict N R r
        (ticks (states m e) live f
        ++ (ticks (states m e) (fn_of m.n (means m e f) ∷ live) g
        ++ steps (two_need m.n live op (means m e f) (means m e g) ∷ []))))
    two-ticks e live f g r op i j =
        let l = fn_of m.n (means m e f) ∷ live in
        both-ticks (fn_of m.n) m.n live op (run (states m e) N R live f r) (λ A q. run (states m e) N R (fn_of m.n A ∷ live) g q)
        (means m e f) (means m e g) r (ticks (states m e) live f) (ticks (states m e) l g) i (j l)

    -- THE VERDICT IS THE RUN'S ANSWER: the value is the meaning, and its rounds, 8 and 9 are the verdict's
    pub run-ticks : (e : Env) (live : List Fn) (f : Form) (r : Count) → T (steady f)
        → run (states m e) N R live f r ≡ settle (means m e f) (verdict N R r (ticks (states m e) live f))
    unfolding steady
    run-ticks e live bot r t = refl
    run-ticks e live top r t = refl
    run-ticks e live (neg f) r t =
        settle_then (run (states m e) N R live f r) (means m e f) (means m e (neg f)) r (ticks (states m e) live f) _
        (λ A q. not_step m.n N live (exist m) A q) (run-ticks e live f r t)
        (λ q l. not-ticks m.n live (exist m) (means m e f) q)
    run-ticks e live (conj f g) r t =
        let w = and_out (steady f) (steady g) t in
        two-ticks e live f g r (inter (size m)) (run-ticks e live f r w.0) (λ l q. run-ticks e l g q w.1)
    run-ticks e live (disj f g) r t =
        let w = and_out (steady f) (steady g) t in
        two-ticks e live f g r (union (size m)) (run-ticks e live f r w.0) (λ l q. run-ticks e l g q w.1)
    run-ticks e live (now p) r t = bit-ticks m.n live (exist m) p r
    run-ticks e live (next p) r t = refl
    run-ticks e live (var P) r t = refl
    run-ticks e live (reg x) r t = refl
    run-ticks e live (box x f) r t =
        settle_then (run (states m e) N R live f r) (means m e f) (means m e (box x f)) r (ticks (states m e) live f) _
        (λ A q. box_steps m.n N live (exist m) (related m x) A q) (run-ticks e live f r t)
        (λ q l. box-ticks m.n (exist m) (related m x) (related-inside m x) live (means m e f) q)
    run-ticks e live (dia x f) r t =
        settle_then (run (states m e) N R live f r) (means m e f) (means m e (dia x f)) r (ticks (states m e) live f) _
        (λ A q. dia_steps m.n N live (related m x) A q) (run-ticks e live f r t)
        (λ q l. dia_ticks m.n live (related m x) (means m e f) q)
    run-ticks e live (mu P f) r t =
        let w = and_out (reads true P f) (steady f) t in
        loop-ticks (size m) (exist m) true (body m e P f) (λ A. ticks (states m (put e P A)) (fn_of m.n A ∷ live) f)
        (λ A q. run (states m (put e P A)) N R (fn_of m.n A ∷ live) f q)
        (body-length m e P f) (body_in m e P f) (body_mono m e P f w.1 w.0 true)
        (λ A q. run-ticks (put e P A) (fn_of m.n A ∷ live) f q w.1) R (size m) zero r (omega arith) (omega arith)
    run-ticks e live (nu P f) r t =
        let w = and_out (reads true P f) (steady f) t in
        loop-ticks (size m) (exist m) false (body m e P f) (λ A. ticks (states m (put e P A)) (fn_of m.n A ∷ live) f)
        (λ A q. run (states m (put e P A)) N R (fn_of m.n A ∷ live) f q)
        (body-length m e P f) (body_in m e P f) (body_mono m e P f w.1 w.0 false)
        (λ A q. run-ticks (put e P A) (fn_of m.n A ∷ live) f q w.1) R (size m) zero r (omega arith) (omega arith)
    run-ticks e live (until b t f g) r s =
        let w = and_out (steady f) (steady g) s in
        let F = means m e f in
        let G = means m e g in
        let Q = related m t in
        let into = onward-into m t b F G (means_in m e f) (means_in m e g) in
        loop-ticks (size m) (exist m) true (onward b (size m) Q F G)
        (until_ticks m.n live b (exist m) Q F G (λ l. ticks (states m e) l f) (λ l. ticks (states m e) l g))
        (until_round m.n N live b (exist m) Q (λ l q. run (states m e) N R l f q) (λ l q. run (states m e) N R l g q))
        (onward-length (size m) Q b F G) into (onward_mono (size m) Q b F G)
        (until_ticks_lem m.n (exist m) Q (related-inside m t) live b F G (λ l. ticks (states m e) l f) (λ l. ticks (states m e) l g)
        (λ l q. run (states m e) N R l f q) (λ l q. run (states m e) N R l g q) (λ l q. run-ticks e l f q w.0)
        (λ l q. run-ticks e l g q w.1))
        R (size m) zero r (omega arith) (omega arith)
        ∙ ap (λ (X : List Bool). settle X (verdict N R r (ticks (states m e) live (until b t f g))))
        (sym (until-least (size m) Q b F G (exist m) into))

  -- ---- pairs

  -- one step alone, whose need is k
  one-ticks : (B : List Bool) (q : Count) (k j : ℕ) → k ≡ j
      → cond (leb k N) (value B (needing q k)) full_run ≡ settle B (verdict N R q (steps (j ∷ [])))
  one-ticks B q k j e = last_step B q k ∙ ap (λ (x : ℕ). settle B (verdict N R q (steps (x ∷ [])))) e

  module _ (n : ℕ) where
    -- two parts, whose values' functions are F, G and H
    pairs-two : (live : List Fn) (f g h : Form) (op : List Bool → List Bool → List Bool) (r : Count)
        → points_of n h ≡ op (points_of n f) (points_of n g)
        → run (pairs n) N R live f r ≡ settle (points_of n f) (verdict N R r (ticks (pairs n) live f))
        → ((l : List Fn) (q : Count) → run (pairs n) N R l g q ≡ settle (points_of n g) (verdict N R q (ticks (pairs n) l g)))
        → both_by (levels (pairs n)) n N live op (run (pairs n) N R live f r) (λ A q. run (pairs n) N R (levels (pairs n) A ∷ live) g q)
        ≡ settle (points_of n h)
        (verdict N R r
        (ticks (pairs n) live f
        ++ (ticks (pairs n) (pair_f n f ∷ live) g ++ steps (step_need (2 * n) (pair_f n g ∷ pair_f n f ∷ live) (pair_f n h) ∷ []))))
    pairs-two live f g h op r e i j =
        let xs = ticks (pairs n) live f in
        let rest : Fn → Fn → Fn → List Tick = λ F G H. ticks (pairs n) (F ∷ live) g ++ steps (step_need (2 * n) (G ∷ F ∷ live) H ∷ []) in
        let A = points_of n f in
        let B = points_of n g in
        let l = levels (pairs n) A ∷ live in
        both-ticks (levels (pairs n)) n live op (run (pairs n) N R live f r) (λ X q. run (pairs n) N R (levels (pairs n) X ∷ live) g q) A B
        r xs (ticks (pairs n) l g) i (j l)
        ∙ ap (λ (X : List Bool). settle X (verdict N R r (xs ++ rest (levels (pairs n) A) (levels (pairs n) B) (levels (pairs n) X))))
        (sym e)
        ∙ ap (λ (F : Fn). settle (points_of n h) (verdict N R r (xs ++ rest F (levels (pairs n) B) (levels (pairs n) (points_of n h)))))
        (points_value n f)
        ∙ ap₂ (λ (G H : Fn). settle (points_of n h) (verdict N R r (xs ++ rest (pair_f n f) G H))) (points_value n g) (points_value n h)

    -- the same of a relation's formula, whose value is the list of its pairs
    pub run-pairs : (live : List Fn) (f : Form) (r : Count)
        → run (pairs n) N R live f r ≡ settle (points_of n f) (verdict N R r (ticks (pairs n) live f))
    run-pairs live bot r = refl
    run-pairs live top r = refl
    run-pairs live (neg f) r =
        settle_then (run (pairs n) N R live f r) (points_of n f) (points_of n (neg f)) r (ticks (pairs n) live f) _
        (λ A q. neg_step (pairs n) N live A q) (run-pairs live f r)
        (λ q l. one-ticks (points_of n (neg f)) q _ _
        (ap₂ (λ (F G : Fn). step_need (2 * n) (F ∷ live) G) (points_value n f) (points_value n (neg f))))
    run-pairs live (conj f g) r = pairs-two live f g (conj f g) (inter (all_pairs n)) r refl (run-pairs live f r) (λ l q. run-pairs l g q)
    run-pairs live (disj f g) r = pairs-two live f g (disj f g) (union (all_pairs n)) r refl (run-pairs live f r) (λ l q. run-pairs l g q)
    run-pairs live (now p) r = one-ticks (points_of n (now p)) r _ _ (ap (step_need (2 * n) live) (points_value n (now p)))
    run-pairs live (next p) r = one-ticks (points_of n (next p)) r _ _ (ap (step_need (2 * n) live) (points_value n (next p)))
    run-pairs live (var P) r = refl
    run-pairs live (reg x) r = refl
    run-pairs live (box x f) r = refl
    run-pairs live (dia x f) r = refl
    run-pairs live (mu P f) r = refl
    run-pairs live (nu P f) r = refl
    run-pairs live (until b t f g) r = refl

    -- "relation has no rounds"
    pub pairs-steps : (live : List Fn) (f : Form) → ticks (pairs n) live f ≡ steps (pair_needs n live f)
    pairs-steps live bot = refl
    pairs-steps live top = refl
    pairs-steps live (neg f) = steps_then (ticks (pairs n) live f) _ (pairs-steps live f) refl
    pairs-steps live (conj f g) =
        steps_then (ticks (pairs n) live f) _ (pairs-steps live f)
        (steps_then (ticks (pairs n) (pair_f n f ∷ live) g) _ (pairs-steps (pair_f n f ∷ live) g) refl)
    pairs-steps live (disj f g) =
        steps_then (ticks (pairs n) live f) _ (pairs-steps live f)
        (steps_then (ticks (pairs n) (pair_f n f ∷ live) g) _ (pairs-steps (pair_f n f ∷ live) g) refl)
    pairs-steps live (now p) = refl
    pairs-steps live (next p) = refl
    pairs-steps live (var P) = refl
    pairs-steps live (reg x) = refl
    pairs-steps live (box x f) = refl
    pairs-steps live (dia x f) = refl
    pairs-steps live (mu P f) = refl
    pairs-steps live (nu P f) = refl
    pairs-steps live (until b t f g) = refl

    -- so what is told of them is their needs
    pub pairs-ticks : (live : List Fn) (f : Form) (r : Count)
        → verdict N R r (ticks (pairs n) live f) ≡ cond (pairs_fit n N live f) (counted (pairs_count n live f r)) full
    pairs-ticks live f r = ap (verdict N R r) (pairs-steps live f) ∙ steps-verdict r (pair_needs n live f)

    -- with the three steps after it
    pub relation_ticks_lem : (live : List Fn) (E : List Bool) (f : Form) (r : Count)
        → verdict N R r (relation_ticks n live E f) ≡ cond (relation_fits n N live E f) (counted (relation_count n live E f r)) full
    relation_ticks_lem live E f r =
        let w = within_needs n live (fn_of n E) (pair_f n f) in
        ap (verdict N R r) (ap (λ (l : List Tick). l ++ steps w) (pairs-steps live f) ∙ sym (steps-append (pair_needs n live f) w))
        ∙ steps-verdict r (relation_needs n live E f)

  -- ---- 8, exactly

  -- 8 exactly where the need of some step within the rounds is above N
  pub verdict-full : (r : Count) (l : List Tick) → (verdict N R r l ≡ full) ↔ (fit N (within_rounds R r.rounds l) ≡ false)
  verdict-full r [] = ((λ e. absurd (not_full r (sym e))), (λ e. let z : ◌≡◌ {A = ℕ} 0 1 = cc in absurd (omega arith)))
  verdict-full r (step k ∷ l) = go (leb k N) (verdict-full (needing r k) l)
    where
      go : (t : Bool) → (verdict N R (needing r k) l ≡ full) ↔ (fit N (within_rounds R r.rounds l) ≡ false)
          → (cond t (verdict N R (needing r k) l) full ≡ full) ↔ ((t && fit N (within_rounds R r.rounds l)) ≡ false)
      go true h = h
      go false h = ((λ e. refl), (λ e. refl))
  verdict-full r (round ∷ l) = go (ltb r.rounds R) (verdict-full (another r) l)
    where
      go : (t : Bool) → (verdict N R (another r) l ≡ full) ↔ (fit N (within_rounds R (suc r.rounds) l) ≡ false)
          → (cond t (verdict N R (another r) l) spent ≡ full) ↔ (fit N (cond t (within_rounds R (suc r.rounds) l) []) ≡ false)
      go true h = h
      go false h =
          ((λ e. let z : ◌≡◌ {A = ℕ} 0 1 = cc in absurd (omega arith)), (λ e. let z : ◌≡◌ {A = ℕ} 0 1 = cc in absurd (omega arith)))

  -- ---- the count, and 9 exactly

  -- what is counted after a list
  abbrev pub after : Count → List Tick → Count
  after r l = record { rounds = r.rounds + rounds_in l; peak = max r.peak (peak (needs_in l)) }

  -- one tick more in front
  after-step : (r : Count) (k : ℕ) (l : List Tick) → after (needing r k) l ≡ after r (step k ∷ l)
  after-step r k l =
      let e : max (max r.peak k) (peak (needs_in l)) ≡ max r.peak (max k (peak (needs_in l))) = omega arith in
      ap (λ (p : ℕ). record { rounds = r.rounds + rounds_in l; peak = p }) e

  after-round : (r : Count) (l : List Tick) → after (another r) l ≡ after r (round ∷ l)
  after-round r l =
      let e : suc r.rounds + rounds_in l ≡ r.rounds + suc (rounds_in l) = omega arith in
      ap (λ (q : ℕ). record { rounds = q; peak = max r.peak (peak (needs_in l)) }) e

  after_none : (r : Count) → after r [] ≡ r
  after_none r =
      let e : max r.peak 0 ≡ r.peak = omega arith in
      let i : r.rounds + 0 ≡ r.rounds = omega arith in ap₂ (λ (q p : ℕ). record { rounds = q; peak = p }) i e

  -- what is counted is the rounds of the list and the largest of its needs, and the rounds are within R
  pub verdict-counted : (r : Count) (l : List Tick) (q : Count) → r.rounds ≤ R → verdict N R r l ≡ counted q
      → (q ≡ after r l) × (q.rounds ≤ R)
  verdict-counted r [] q h e =
      let i : q ≡ r = sym (counted_same r q e) in (i ∙ sym (after_none r), subst (λ (c : Count). c.rounds ≤ R) (sym i) h)
  verdict-counted r (step k ∷ l) q h e = go (leb k N) (verdict-counted (needing r k) l q h) e
    where
      go : (t : Bool) → (verdict N R (needing r k) l ≡ counted q → (q ≡ after (needing r k) l) × (q.rounds ≤ R))
          → cond t (verdict N R (needing r k) l) full ≡ counted q → (q ≡ after r (step k ∷ l)) × (q.rounds ≤ R)
      go true below i = let w = below i in (w.0 ∙ after-step r k l, w.1)
      go false below i = absurd (not_full q i)
  verdict-counted r (round ∷ l) q h e = go (ltb r.rounds R) refl (verdict-counted (another r) l q) e
    where
      go : (t : Bool) → ltb r.rounds R ≡ t
          → (suc r.rounds ≤ R → verdict N R (another r) l ≡ counted q → (q ≡ after (another r) l) × (q.rounds ≤ R))
          → cond t (verdict N R (another r) l) spent ≡ counted q
          → (q ≡ after r (round ∷ l)) × (q.rounds ≤ R)
      go true u below i = let w = below (ltb→lt r.rounds R (subst T (sym u) tt)) i in (w.0 ∙ after-round r l, w.1)
      go false u below i = absurd (not-spent q i)

  -- 9 exactly where every need within the rounds is at most N and the list has more rounds than R
  pub verdict-spent : (r : Count) (l : List Tick) → r.rounds ≤ R
      → (verdict N R r l ≡ spent) ↔ (T (fit N (within_rounds R r.rounds l)) × (R < r.rounds + rounds_in l))
  verdict-spent r [] h = ((λ e. absurd (not-spent r (sym e))), (λ w. absurd (omega (arith, w.1))))
  verdict-spent r (step k ∷ l) h = go (leb k N) (verdict-spent (needing r k) l h)
    where
      go : (t : Bool) → (verdict N R (needing r k) l ≡ spent) ↔ (T (fit N (within_rounds R r.rounds l)) × (R < r.rounds + rounds_in l))
          → (cond t (verdict N R (needing r k) l) full ≡ spent)
          ↔ (T (t && fit N (within_rounds R r.rounds l)) × (R < r.rounds + rounds_in l))
      go true below = below
      go false below = ((λ e. let z : ◌≡◌ {A = ℕ} 0 1 = cc in absurd (omega arith)), (λ w. absurd w.0))
  verdict-spent r (round ∷ l) h = go (ltb r.rounds R) refl (verdict-spent (another r) l)
    where
      go : (t : Bool) → ltb r.rounds R ≡ t
          → (suc r.rounds ≤ R
          → (verdict N R (another r) l ≡ spent) ↔ (T (fit N (within_rounds R (suc r.rounds) l)) × (R < suc r.rounds + rounds_in l)))
          → (cond t (verdict N R (another r) l) spent ≡ spent)
          ↔ (T (fit N (cond t (within_rounds R (suc r.rounds) l) [])) × (R < r.rounds + suc (rounds_in l)))
      go true u below =
          let w = below (ltb→lt r.rounds R (subst T (sym u) tt)) in
          ((λ e. ((w.0 e).0, omega (arith, (w.0 e).1))), (λ x. w.1 (x.0, omega (arith, x.1))))
      go false u below = ((λ e. (tt, let n : R ≤ r.rounds = ge u in omega arith)), (λ x. refl))
        where
          ge : ltb r.rounds R ≡ false → R ≤ r.rounds
          ge i = let l : R < suc r.rounds = lt_of_not-le (λ l. subst T i (lt→ltb r.rounds R l)) in omega arith

  -- within the rounds of an answered list are all its steps
  pub within_all : (r : Count) (l : List Tick) (q : Count) → verdict N R r l ≡ counted q → within_rounds R r.rounds l ≡ needs_in l
  within_all r [] q e = refl
  within_all r (step k ∷ l) q e = go (leb k N) (within_all (needing r k) l q) e
    where
      go : (t : Bool) → (verdict N R (needing r k) l ≡ counted q → within_rounds R r.rounds l ≡ needs_in l)
          → cond t (verdict N R (needing r k) l) full ≡ counted q → k ∷ within_rounds R r.rounds l ≡ k ∷ needs_in l
      go true below i = ap (λ (ks : List ℕ). k ∷ ks) (below i)
      go false below i = absurd (not_full q i)
  within_all r (round ∷ l) q e = go (ltb r.rounds R) (within_all (another r) l q) e
    where
      go : (t : Bool) → (verdict N R (another r) l ≡ counted q → within_rounds R (suc r.rounds) l ≡ needs_in l)
          → cond t (verdict N R (another r) l) spent ≡ counted q → cond t (within_rounds R (suc r.rounds) l) [] ≡ needs_in l
      go true below i = below i
      go false below i = absurd (not-spent q i)

-- ---- the rounds of a formula's ticks are the formula's rounds

rounds-append : (xs ys : List Tick) → rounds_in (xs ++ ys) ≡ rounds_in xs + rounds_in ys
rounds-append [] ys = omega arith
rounds-append (step k ∷ xs) ys = rounds-append xs ys
rounds-append (round ∷ xs) ys = omega (arith, rounds-append xs ys)

rounds-steps : (ks : List ℕ) → rounds_in (steps ks) ≡ zero
rounds-steps [] = refl
rounds-steps (k ∷ ks) = rounds-steps ks

-- a part, and the steps after it
rounds_then : (xs : List Tick) (ks : List ℕ) (q : ℕ) → rounds_in xs ≡ q → rounds_in (xs ++ steps ks) ≡ q
rounds_then xs ks q e = omega (arith, rounds-append xs (steps ks), rounds-steps ks)

rounds-two : (xs ys : List Tick) (ks : List ℕ) (p q : ℕ) → rounds_in xs ≡ p → rounds_in ys ≡ q → rounds_in (xs ++ (ys ++ steps ks)) ≡ p + q
rounds-two xs ys ks p q d e = omega (arith, rounds-append xs (ys ++ steps ks), rounds_then ys ks q e)

rounds-loop : (h : List Bool → List Tick) (F : List Bool → List Bool) (c : List Bool → ℕ) → ((A : List Bool) → rounds_in (h A) ≡ c A)
    → (j : ℕ) (A : List Bool) → rounds_in (round_ticks h F j A) ≡ runs F c j A
rounds-loop h F c e zero A = refl
rounds-loop h F c e (suc j) A =
    omega (
      arith,
      rounds-append (h A) (cond (same (F A) A) [] (round_ticks h F j (F A))),
      e A,
      go (same (F A) A) (rounds-loop h F c e j (F A)),
    )
  where
    go : (t : Bool) → rounds_in (round_ticks h F j (F A)) ≡ runs F c j (F A)
        → rounds_in (cond t [] (round_ticks h F j (F A))) ≡ cond t zero (runs F c j (F A))
    go true i = refl
    go false i = i

rounds-further : (b : Bool) (n : ℕ) (live : List Fn) (E : List Bool) (Q : Pairs) (A : List Bool)
    → rounds_in (further_ticks b n live E Q A) ≡ zero
rounds-further true n live E Q A = rounds-steps (dia_needs n live Q A)
rounds-further false n live E Q A =
    let B = inter (2 ^ n) (always (2 ^ n) Q A) E in
    rounds-two (steps (box_needs n live E Q A)) (steps (dia_needs n (fn_of n B ∷ live) Q E))
    (two_need n live (inter (2 ^ n)) B (sometimes (2 ^ n) Q E) ∷ []) zero zero
    (rounds-steps (box_needs n live E Q A)) (rounds-steps (dia_needs n (fn_of n B ∷ live) Q E))

-- "Every evaluated body, inner ones included, is one round"
pub ticks-rounds : (m : Model) (e : Env) (live : List Fn) (f : Form) → rounds_in (ticks (states m e) live f) ≡ rounds m e f
ticks-rounds m e live bot = refl
ticks-rounds m e live top = refl
ticks-rounds m e live (neg f) =
    rounds_then (ticks (states m e) live f) (not_needs m.n live (exist m) (means m e f)) (rounds m e f) (ticks-rounds m e live f)
ticks-rounds m e live (conj f g) =
    let l = fn_of m.n (means m e f) ∷ live in
    rounds-two (ticks (states m e) live f) (ticks (states m e) l g) (two_need m.n live (inter (size m)) (means m e f) (means m e g) ∷ [])
    (rounds m e f) (rounds m e g) (ticks-rounds m e live f) (ticks-rounds m e l g)
ticks-rounds m e live (disj f g) =
    let l = fn_of m.n (means m e f) ∷ live in
    rounds-two (ticks (states m e) live f) (ticks (states m e) l g) (two_need m.n live (union (size m)) (means m e f) (means m e g) ∷ [])
    (rounds m e f) (rounds m e g) (ticks-rounds m e live f) (ticks-rounds m e l g)
ticks-rounds m e live (now p) = refl
ticks-rounds m e live (next p) = refl
ticks-rounds m e live (var P) = refl
ticks-rounds m e live (reg x) = refl
ticks-rounds m e live (box t f) =
    rounds_then (ticks (states m e) live f) (box_needs m.n live (exist m) (related m t) (means m e f)) (rounds m e f)
    (ticks-rounds m e live f)
ticks-rounds m e live (dia t f) =
    rounds_then (ticks (states m e) live f) (dia_needs m.n live (related m t) (means m e f)) (rounds m e f) (ticks-rounds m e live f)
ticks-rounds m e live (mu P f) =
    rounds-loop (λ A. ticks (states m (put e P A)) (fn_of m.n A ∷ live) f) (body m e P f) (λ A. rounds m (put e P A) f)
    (λ A. ticks-rounds m (put e P A) (fn_of m.n A ∷ live) f)
    (suc (size m)) (start true (size m) (exist m))
ticks-rounds m e live (nu P f) =
    rounds-loop (λ A. ticks (states m (put e P A)) (fn_of m.n A ∷ live) f) (body m e P f) (λ A. rounds m (put e P A) f)
    (λ A. ticks-rounds m (put e P A) (fn_of m.n A ∷ live) f)
    (suc (size m)) (start false (size m) (exist m))
ticks-rounds m e live (until b t f g) =
    let F = means m e f in
    let G = means m e g in
    let Q = related m t in
    rounds-loop (until_ticks m.n live b (exist m) Q F G (λ l. ticks (states m e) l f) (λ l. ticks (states m e) l g))
    (onward b (size m) Q F G) (λ A. rounds m e g + rounds m e f)
    (λ A.
    let held = fn_of m.n A ∷ live in
    let l = fn_of m.n G ∷ held in
    let D = further b (size m) Q A in
    rounds-two (ticks (states m e) held g) (keep_ticks m.n l b (exist m) Q F (λ l. ticks (states m e) l f) A)
    (two_need m.n held (union (size m)) G (inter (size m) F D) ∷ []) (rounds m e g) (rounds m e f) (ticks-rounds m e held g)
    (rounds-two (ticks (states m e) l f) (further_ticks b m.n (fn_of m.n F ∷ l) (exist m) Q A)
    (two_need m.n l (inter (size m)) F D ∷ []) (rounds m e f) zero (ticks-rounds m e l f)
    (rounds-further b m.n (fn_of m.n F ∷ l) (exist m) Q A) ∙ add-zero (rounds m e f)))
    (suc (size m)) (start true (size m) (exist m))
