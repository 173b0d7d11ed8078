-- Laws of what specs/Turns.antt defines. Assumes nothing.
use mathlib.Core.Path.{◌≡◌, refl, sym, ap, ◌∙◌, subst}
use mathlib.Core.Logic.{◌≢◌}
use mathlib.Core.Bool.{Bool, true, false, cond}
use mathlib.Core.List.Memᴰ.{head as here}
use mathlib.Core.List.Memᴰ.{tail as there}
use mathlib.Core.List.{List, ◌∷◌}
use Prim.Native.Nat.{ℕ, zero, suc, ◌+◌, ◌*◌, ◌^◌, ◌≤◌, ◌<◌}
use native.Mathlib.Omega.{arith}
use lib.Dec.{T, leb, ltb, lt→ltb, ltb→lt}
use Rattle.mucalculus.specs.Sets.{mem, same}
use Rattle.mucalculus.proofs.Sets.{length-table, same_refl, same-eq, true_of, false_of}
use Rattle.mucalculus.specs.Order.{Below, start}
use Rattle.mucalculus.proofs.Order.{length-start, start_in}
use Rattle.mucalculus.specs.Form.{Form, bot, top, neg, conj, disj, now, next, var, reg, box, dia, mu, nu, until, Pairs, Model, Env, put}
use Rattle.mucalculus.specs.Means.{compl, inter, union, bit_states, sometimes, size, exist, related, means}
use Rattle.mucalculus.proofs.Means.{length-means}
use Rattle.mucalculus.specs.Exist.{Inside}
use Rattle.mucalculus.proofs.Exist.{inter_left, inter_right, union_in, sometimes_in, related-inside, means_in}
use Rattle.diagram.specs.Level.{Fn}
use Rattle.diagram.specs.Need.{step_need}
use Rattle.diagram.specs.Rows.{Rows, den, WellFormed}
use Rattle.diagram.proofs.Canon.{canonical}
use Rattle.diagram.specs.Post.{Denotes}
use Rattle.diagram.specs.Keep.{Keeps}
use Rattle.diagram.proofs.Keep.{keeps_refl, keeps_on, keeps_denotes}
use Rattle.diagram.specs.Steps.{and_f, shift_f, exists_f}
use Rattle.accounts.specs.declared.Count.{Count}
use Rattle.accounts.specs.Count.{needing, another}
use Rattle.book.specs.Over.{states}
use Rattle.book.specs.Bridge.{fn_of, fn_of_pairs, Sized}
use Rattle.book.proofs.Bridge.{fn_of_inj}
use Rattle.book.specs.Run.{Outcome, value, full, spent, and_then, step, exists_steps, not_step, two_step, dia_steps, box_steps}
use Rattle.book.specs.Run.{further_steps, both_steps, keep_round, until_round, loop, run}
use Rattle.book.proofs.Run.{bit_step}
use Rattle.book.specs.Held.{Held}
use Rattle.book.proofs.Held.{held-arrow}
use Rattle.book.specs.Follow.{Ended, ends, nine, Evals}
use Rattle.book.proofs.Follow.{Matches, Stops, evals-same, evals-stop, evals-from, denotes-none, denotes-clip}
use Rattle.book.specs.Turns.{start_arrow}

-- ---- every value of a run has a place for each state and holds existing states alone, and no round is uncounted

-- a value has a place for each state, at least r rounds are counted, and its states are E's
abbrev pub Good : ℕ → List Bool → ℕ → Outcome → Type 0
Good n E r (value A q) = Sized n A × (r ≤ q.rounds) × Below A E
Good n E r full = Unit {0}
Good n E r spent = Unit {0}

-- what goes on from a set of existing states does so too
abbrev pub GoodOn : ℕ → List Bool → (List Bool → Count → Outcome) → Type 0
GoodOn n E G = (A : List Bool) (q : Count) → Sized n A → Below A E → Good n E q.rounds (G A q)

module _ (n : ℕ) (E : List Bool) where
  good-from : (r q : ℕ) (o : Outcome) → r ≤ q → Good n E q o → Good n E r o
  good-from r q (value A p) l h = (h.0, omega (arith, h.1), h.2)
  good-from r q full l h = tt
  good-from r q spent l h = tt

  cond-good : (r : ℕ) (b : Bool) (o u : Outcome) → Good n E r o → Good n E r u → Good n E r (cond b o u)
  cond-good r true o u h i = h
  cond-good r false o u h i = i

  step-good : (r N : ℕ) (live : List Fn) (F : Fn) (q : Count) (go : Count → Outcome) → r ≤ q.rounds
      → ((c : Count) → r ≤ c.rounds → Good n E r (go c)) → Good n E r (step n N live F q go)
  step-good r N live F q go l h =
      cond-good r (leb (step_need (2 * n) live F) N) (go (needing q (step_need (2 * n) live F))) full
      (h (needing q (step_need (2 * n) live F)) l) tt

  then-good : (r : ℕ) (o : Outcome) (G : List Bool → Count → Outcome) → Good n E r o → GoodOn n E G → Good n E r (and_then o G)
  then-good r (value A q) G g h = good-from r q.rounds (G A q) g.1 (h A q g.0 g.2)
  then-good r full G g h = tt
  then-good r spent G g h = tt

  two_good : (N : ℕ) (live : List Fn) (op : List Bool → List Bool → List Bool) (A B : List Bool) → Sized n (op A B) → Below (op A B) E
      → (r : ℕ) (q : Count) → r ≤ q.rounds → Good n E r (two_step n N live op A B q)
  two_good N live op A B z i r q l =
      step-good r N (fn_of n B ∷ fn_of n A ∷ live) (fn_of n (op A B)) q (λ c. value (op A B) c) l (λ c j. (z, j, i))

  exists-good : (r N : ℕ) (live : List Fn) (j : ℕ) (F : Fn) (q : Count) (go : Count → Outcome) → r ≤ q.rounds
      → ((c : Count) → r ≤ c.rounds → Good n E r (go c)) → Good n E r (exists_steps n N live j F q go)
  exists-good r N live zero F q go l h = h q l
  exists-good r N live (suc j) F q go l h =
      step-good r N (F ∷ live) (exists_f (suc (2 * j)) F) q (λ c. exists_steps n N live j (exists_f (suc (2 * j)) F) c go) l
      (λ c i. exists-good r N live j (exists_f (suc (2 * j)) F) c go i h)

  -- what is ANDed with V
  in-good : (N : ℕ) (live : List Fn) (B : List Bool) (r : ℕ) (q : Count) → r ≤ q.rounds
      → Good n E r (two_step n N live (inter (2 ^ n)) B E q)
  in-good N live B r q l = two_good N live (inter (2 ^ n)) B E (length-table (2 ^ n) _) (inter_right (2 ^ n) B E) r q l

  bit-good : (N : ℕ) (live : List Fn) (p : ℕ) (q : Count) → Good n E q.rounds (bit_step n N live E p q)
  bit-good N live p q =
      step-good q.rounds N live (fn_of n (bit_states (2 ^ n) p)) q (λ c. two_step n N live (inter (2 ^ n)) (bit_states (2 ^ n) p) E c)
      (omega arith) (λ c i. in-good N live (bit_states (2 ^ n) p) q.rounds c i)

  not_good : (N : ℕ) (live : List Fn) → GoodOn n E (λ A q. not_step n N live E A q)
  not_good N live A q z a =
      step-good q.rounds N (fn_of n A ∷ live) (fn_of n (compl (2 ^ n) A)) q (λ c. two_step n N live (inter (2 ^ n)) (compl (2 ^ n) A) E c)
      (omega arith) (λ c i. in-good N live (compl (2 ^ n) A) q.rounds c i)

  both-good : (N : ℕ) (live : List Fn) (op : List Bool → List Bool → List Bool) → ((A B : List Bool) → Sized n (op A B))
      → ((A B : List Bool) → Below A E → Below B E → Below (op A B) E)
      → (r : ℕ) (x : Outcome) (y : List Bool → Count → Outcome) → Good n E r x → GoodOn n E y → Good n E r (both_steps n N live op x y)
  both-good N live op sized within r x y g h =
      then-good r x _ g
      (λ A q z a. then-good q.rounds (y A q) _ (h A q z a)
      (λ B p z' c. two_good N live op A B (sized A B) (within A B a c) p.rounds p (omega arith)))

  -- AND and OR of sets of existing states
  and-within : (A B : List Bool) → Below A E → Below B E → Below (inter (2 ^ n) A B) E
  and-within A B a c s p = a s (inter_left (2 ^ n) A B s p)

  or-within : (A B : List Bool) → Below A E → Below B E → Below (union (2 ^ n) A B) E
  or-within A B a c = union_in (2 ^ n) A B E a c

  module _ (R : Pairs) (in_e : Inside (2 ^ n) E R) where
    dia_good : (N : ℕ) (live : List Fn) → GoodOn n E (λ A q. dia_steps n N live R A q)
    dia_good N live A q z a =
        let S = shift_f (fn_of n A) in
        let C = and_f S (fn_of_pairs n R) in
        let B = sometimes (2 ^ n) R A in
        step-good q.rounds N (fn_of n A ∷ live) S q
        (λ c. step n N (S ∷ fn_of_pairs n R ∷ live) C c (λ d. exists_steps n N live n C d (λ e. value B e))) (omega arith) (λ c i.
        step-good q.rounds N (S ∷ fn_of_pairs n R ∷ live) C c (λ d. exists_steps n N live n C d (λ e. value B e)) i (λ d j.
        exists-good q.rounds N live n C d (λ e. value B e) j (λ e k. (length-table (2 ^ n) _, k, sometimes_in (2 ^ n) E R in_e A))))

    box-good : (N : ℕ) (live : List Fn) → GoodOn n E (λ A q. box_steps n N live E R A q)
    box-good N live A q z a =
        then-good q.rounds (not_step n N live E A q) _ (not_good N live A q z a)
        (λ B p y b. then-good p.rounds (dia_steps n N live R B p) _ (dia_good N live B p y b) (λ C o x c. not_good N live C o x c))

    further-good : Sized n E → (b : Bool) (N : ℕ) (live : List Fn) → GoodOn n E (λ A q. further_steps b n N live E R A q)
    further-good e true N live A q z a = dia_good N live A q z a
    further-good e false N live A q z a =
        both-good N live (inter (2 ^ n)) (λ B D. length-table (2 ^ n) _) and-within q.rounds (box_steps n N live E R A q)
        (λ B p. dia_steps n N (fn_of n B ∷ live) R E p) (box-good N live A q z a)
        (λ B p y b. dia_good N (fn_of n B ∷ live) E p e (λ s p. p))

    -- a round of until, given its parts
    keep-good : Sized n E → (N : ℕ) (live : List Fn) (b : Bool) (fs : List Fn → Count → Outcome)
        → ((l : List Fn) (q : Count) → Good n E q.rounds (fs l q)) → GoodOn n E (λ A q. keep_round n N live b E R fs A q)
    keep-good e N live b fs h A q z a =
        both-good N live (inter (2 ^ n)) (λ F D. length-table (2 ^ n) _) and-within q.rounds (fs live q)
        (λ F o. further_steps b n N (fn_of n F ∷ live) E R A o) (h live q) (λ F o y f. further-good e b N (fn_of n F ∷ live) A o z a)

    pub until-good : Sized n E → (N : ℕ) (live : List Fn) (b : Bool) (fs gs : List Fn → Count → Outcome)
        → ((l : List Fn) (q : Count) → Good n E q.rounds (fs l q)) → ((l : List Fn) (q : Count) → Good n E q.rounds (gs l q))
        → GoodOn n E (λ A q. until_round n N live b E R fs gs A q)
    until-good e N live b fs gs h i A q z a =
        let held = fn_of n A ∷ live in
        both-good N held (union (2 ^ n)) (λ G C. length-table (2 ^ n) _) or-within q.rounds (gs held q)
        (λ G p. keep_round n N (fn_of n G ∷ held) b E R fs A p) (i held q) (λ G p y g. keep-good e N (fn_of n G ∷ held) b fs h A p z a)

  loop-good : (R : ℕ) (G : List Bool → Count → Outcome) → GoodOn n E G → (j : ℕ) (A : List Bool) (r : Count) → Sized n A → Below A E
      → Good n E r.rounds (loop R G j A r)
  loop-good R G h zero A r z a = tt
  loop-good R G h (suc j) A r z a = go (loop-good R G h j) (G A (another r)) (h A (another r) z a) (ltb r.rounds R)
    where
      go : ((B : List Bool) (q : Count) → Sized n B → Below B E → Good n E q.rounds (loop R G j B q)) → (u : Outcome)
          → Good n E (suc r.rounds) u → (t : Bool)
          → Good n E r.rounds (cond t (and_then u (λ B q. cond (same B A) (value B q) (loop R G j B q))) spent)
      go below (value B q) g true =
          cond-good r.rounds (same B A) (value B q) (loop R G j B q) (g.0, omega (arith, g.1), g.2)
          (good-from r.rounds q.rounds (loop R G j B q) (omega (arith, g.1)) (below B q g.0 g.2))
      go below full g true = tt
      go below spent g true = tt
      go below u g false = tt

module _ (m : Model) (N R : ℕ) where
  -- a set made by a test, of existing states, without a step
  made-good : (A : List Bool) → Sized m.n A → Below A (exist m) → (r : Count) → Good m.n (exist m) r.rounds (value A r)
  made-good A z a r = (z, omega arith, a)

  sized : Sized m.n (exist m)
  sized = length-table (size m) (λ s. mem m.valid s)

  pub run-good : (e : Env) (live : List Fn) (f : Form) (r : Count) → Good m.n (exist m) r.rounds (run (states m e) N R live f r)
  run-good e live bot r = made-good (means m e bot) (length-means m e bot) (means_in m e bot) r
  run-good e live top r = made-good (means m e top) (length-means m e top) (means_in m e top) r
  run-good e live (neg f) r =
      then-good m.n (exist m) r.rounds (run (states m e) N R live f r) _ (run-good e live f r) (not_good m.n (exist m) N live)
  run-good e live (conj f g) r =
      both-good m.n (exist m) N live (inter (size m)) (λ A B. length-table (size m) _) (and-within m.n (exist m)) r.rounds
      (run (states m e) N R live f r) (λ A q. run (states m e) N R (fn_of m.n A ∷ live) g q) (run-good e live f r)
      (λ A q z a. run-good e (fn_of m.n A ∷ live) g q)
  run-good e live (disj f g) r =
      both-good m.n (exist m) N live (union (size m)) (λ A B. length-table (size m) _) (or-within m.n (exist m)) r.rounds
      (run (states m e) N R live f r) (λ A q. run (states m e) N R (fn_of m.n A ∷ live) g q) (run-good e live f r)
      (λ A q z a. run-good e (fn_of m.n A ∷ live) g q)
  run-good e live (now p) r = bit-good m.n (exist m) N live p r
  run-good e live (next p) r = made-good (means m e (next p)) (length-means m e (next p)) (means_in m e (next p)) r
  run-good e live (var P) r = made-good (means m e (var P)) (length-means m e (var P)) (means_in m e (var P)) r
  run-good e live (reg x) r = made-good (means m e (reg x)) (length-means m e (reg x)) (means_in m e (reg x)) r
  run-good e live (box t f) r =
      then-good m.n (exist m) r.rounds (run (states m e) N R live f r) _ (run-good e live f r)
      (box-good m.n (exist m) (related m t) (related-inside m t) N live)
  run-good e live (dia t f) r =
      then-good m.n (exist m) r.rounds (run (states m e) N R live f r) _ (run-good e live f r)
      (dia_good m.n (exist m) (related m t) (related-inside m t) N live)
  run-good e live (mu P f) r =
      loop-good m.n (exist m) R _ (λ A q z a. run-good (put e P A) (fn_of m.n A ∷ live) f q) R (start true (size m) (exist m)) r
      (length-start true (size m) (exist m)) (start_in true (size m) (exist m))
  run-good e live (nu P f) r =
      loop-good m.n (exist m) R _ (λ A q z a. run-good (put e P A) (fn_of m.n A ∷ live) f q) R (start false (size m) (exist m)) r
      (length-start false (size m) (exist m)) (start_in false (size m) (exist m))
  run-good e live (until b t f g) r =
      loop-good m.n (exist m) R _
      (until-good m.n (exist m) (related m t) (related-inside m t) sized N live b (λ l q. run (states m e) N R l f q)
      (λ l q. run (states m e) N R l g q) (λ l q. run-good e l f q) (λ l q. run-good e l g q))
      R (start true (size m) (exist m)) r (length-start true (size m) (exist m)) (start_in true (size m) (exist m))

-- ---- one arrow exactly where one set

module _ (n N : ℕ) {rows : Rows} (wf : WellFormed (2 * n) N rows) {a b : ℕ} (A B : List Bool) (da : Denotes (2 * n) rows a (fn_of n A))
    (db : Denotes (2 * n) rows b (fn_of n B)) where
  pub arrow-same : Sized n A → Sized n B → b ≡ a → T (same B A)
  arrow-same la lb e =
      subst (λ (C : List Bool). T (same C A))
      (fn_of_inj n A B la lb (λ v. sym (da.same v) ∙ ap (λ (x : ℕ). den (2 * n) rows x v) (sym e) ∙ db.same v)) (same_refl A)

  pub arrow-apart : b ≢ a → same B A ≡ false
  arrow-apart ne =
      false_of (same B A)
      (λ t. ne
      (canonical wf b a db.arrow da.arrow (λ v. db.same v ∙ ap (λ (C : List Bool). fn_of n C v) (same-eq B A t) ∙ sym (da.same v))))

-- ---- the loop of rounds

-- where a binder's loop stands, r being counted and `a` the arrow of the current set: the loop's invariant. `o` is what the binder comes to
pub record Turning (n N R : ℕ) (E : List Bool) (before rows : Rows) (roots : List ℕ)
    (G : List Bool → Count → Outcome) (o : Outcome) (a : ℕ) (r : Count) : Type 0 where
  pub A : List Bool
  pub fuel : ℕ
  pub enough : R ≤ r.rounds + fuel
  pub sized : Sized n A
  pub exists : Below A E
  pub wf : WellFormed (2 * n) N rows
  pub kept : Keeps before rows roots
  pub denotes : Denotes (2 * n) rows a (fn_of n A)
  pub rest : o ≡ loop R G fuel A r

module _ (R : ℕ) (G : List Bool → Count → Outcome) where
  -- one turn of the book's loop
  loop-turn : (j : ℕ) (A : List Bool) (r : Count) → r.rounds < R → R ≤ r.rounds + j
      → (k : ℕ) × (j ≡ suc k) × (loop R G j A r ≡ and_then (G A (another r)) (λ B q. cond (same B A) (value B q) (loop R G k B q)))
  loop-turn zero A r l e = absurd (omega arith)
  loop-turn (suc k) A r l e = (
    k,
    refl,
    ap (λ (b : Bool). cond b (and_then (G A (another r)) (λ B q. cond (same B A) (value B q) (loop R G k B q))) spent)
        (true_of (ltb r.rounds R) (lt→ltb r.rounds R l)),
  )

  loop-out : (j : ℕ) (A : List Bool) (r : Count) → R ≤ r.rounds → loop R G j A r ≡ spent
  loop-out zero A r l = refl
  loop-out (suc k) A r l =
      ap (λ (b : Bool). cond b (and_then (G A (another r)) (λ B q. cond (same B A) (value B q) (loop R G k B q))) spent)
      (false_of (ltb r.rounds R) (λ t. let h = ltb→lt r.rounds R t in omega arith))

module _ (n N R : ℕ) (E : List Bool) {before : Rows} {roots : List ℕ} (G : List Bool → Count → Outcome) (good : GoodOn n E G) where
  pub turn-start : {live : List Fn} (b : Bool) (r : Count) (w : ℕ) → Denotes (2 * n) before w (fn_of n E) → WellFormed (2 * n) N before
      → Held (2 * n) before roots live
      → Turning n N R E before before roots G (loop R G R (start b (2 ^ n) E) r) (start_arrow b w) r
  turn-start b r w d wf h = record {
    A = start b (2 ^ n) E;
    fuel = R;
    enough = omega arith;
    sized = length-start b (2 ^ n) E;
    exists = start_in b (2 ^ n) E;
    wf = wf;
    kept = keeps_refl wf (held-arrow h);
    denotes = starts b;
    rest = refl;
  }
    where
      starts : (b : Bool) → Denotes (2 * n) before (start_arrow b w) (fn_of n (start b (2 ^ n) E))
      starts true = denotes-none n N before
      starts false = denotes-clip n N E d

  module _ {rows : Rows} {o : Outcome} {a : ℕ} {r : Count} (t : Turning n N R E before rows roots G o a r) where
    -- a round is wanted when R are counted
    pub turn_out : R ≤ r.rounds → Evals n N before rows roots o nine
    turn_out l = evals-same (sym (t.rest ∙ loop-out R G t.fuel t.A r l)) (record { wf = t.wf; kept = t.kept; result = tt })

    module _ (l : r.rounds < R) where
      -- the body stopped
      pub turn-stop : {after : Rows} (y : Ended) → Evals n N rows after (a ∷ roots) (G t.A (another r)) y → Stops y
          → Evals n N before after roots o y
      turn-stop y d s =
          let (k, e, f) = loop-turn R G t.fuel t.A r l t.enough in
          evals-same (sym (t.rest ∙ f))
          (evals-stop n N (G t.A (another r)) y (λ B q. cond (same B t.A) (value B q) (loop R G k B q)) s
          (evals-from n N t.kept (λ b i. there i) d))

      -- the body's value is the same set: the binder ends with it
      pub turn_end : {after : Rows} {b : ℕ} {q : Count} → Evals n N rows after (a ∷ roots) (G t.A (another r)) (ends b q) → b ≡ a
          → Evals n N before after roots o (ends b q)
      turn_end {after} {b} {q} d e =
          let (k, i, f) = loop-turn R G t.fuel t.A r l t.enough in
          evals-same (sym (t.rest ∙ f)) (go k (G t.A (another r)) (good t.A (another r) t.sized t.exists) d.result)
        where
          go : (k : ℕ) (u : Outcome) → Good n E (suc r.rounds) u → Matches n after u (ends b q)
              → Evals n N before after roots (and_then u (λ B q. cond (same B t.A) (value B q) (loop R G k B q))) (ends b q)
          go k (value B p) g m =
              let s = arrow-same n N d.wf t.A B (keeps_denotes d.kept (here refl) t.denotes) m.0 t.sized g.0 e in
              evals-same (sym (ap (λ (x : Bool). cond x (value B p) (loop R G k B p)) (true_of (same B t.A) s)))
              (record { wf = d.wf; kept = keeps_on t.kept d.kept; result = m })
          go k full g m = absurd m
          go k spent g m = absurd m

      -- otherwise it becomes the current set
      pub turn_on : {after : Rows} {b : ℕ} {q : Count} → Evals n N rows after (a ∷ roots) (G t.A (another r)) (ends b q) → b ≢ a
          → Turning n N R E before after roots G o b q
      turn_on {after} {b} {q} d ne =
          let (k, i, f) = loop-turn R G t.fuel t.A r l t.enough in
          go k i (G t.A (another r)) (t.rest ∙ f) (good t.A (another r) t.sized t.exists) d.result
        where
          go : (k : ℕ) → t.fuel ≡ suc k → (u : Outcome) → o ≡ and_then u (λ B q. cond (same B t.A) (value B q) (loop R G k B q))
              → Good n E (suc r.rounds) u → Matches n after u (ends b q)
              → Turning n N R E before after roots G o b q
          go k i (value B p) f g m =
              let s = arrow-apart n N d.wf t.A B (keeps_denotes d.kept (here refl) t.denotes) m.0 ne in
              record {
                A = B;
                fuel = k;
                enough = omega (arith, t.enough, i, g.1, ap (λ (c : Count). c.rounds) m.1);
                sized = g.0;
                exists = g.2;
                wf = d.wf;
                kept = keeps_on t.kept d.kept;
                denotes = m.0;
                rest = f ∙ ap (λ (x : Bool). cond x (value B p) (loop R G k B p)) s ∙ ap (loop R G k B) (sym m.1);
              }
          go k i full f g m = absurd m
          go k i spent f g m = absurd m
