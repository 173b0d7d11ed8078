-- Laws of what specs/Chain.antt defines. Assumes nothing.
use mathlib.Core.Path.{◌≡◌, refl, sym, ap, ◌∙◌, subst}
use mathlib.Core.Logic.{⊎_elim}
use mathlib.Core.Bool.{Bool, true, false, ◌&&◌}
use mathlib.Core.List.Memᴰ.{head as here}
use mathlib.Core.List.Memᴰ.{tail as there}
use mathlib.Core.List.{List, ◌∷◌, ◌++◌, map, Memᴰ as Mem}
use mathlib.Core.List.Memᴰ.{cases_cons as mem-cases}
use mathlib.Core.List.Memᴰ.{map as mem-map}
use mathlib.Core.List.Memᴰ.{of_map as mem-of-map}
use mathlib.Core.List.Memᴰ.{append_cases}
use mathlib.Core.List.Memᴰ.{append_left}
use mathlib.Core.List.Memᴰ.{append_right}
use Prim.Native.Nat.{ℕ, ◌*◌, ◌≤◌, ◌<◌}
use native.Mathlib.Omega.{arith}
use lib.Dec.{leb}
use Rattle.std.specs.Prelude.{Result, Ok, Err}
use Rattle.accounts.specs.declared.Count.{Count}
use Rattle.accounts.specs.Count.{needing}
use Rattle.layout.specs.Places.{MAX_BITS}
use Rattle.layout.specs.View.{View}
use Rattle.diagram.specs.Level.{Fn}
use Rattle.diagram.specs.Rows.{Rows, Arrow, den, WellFormed}
use Rattle.diagram.specs.Count.{Within}
use Rattle.diagram.specs.Need.{step_need}
use Rattle.diagram.specs.Post.{Result as Answer, at, full, Denotes}
use Rattle.diagram.specs.Keep.{Keeps}
use Rattle.diagram.proofs.Keep.{keeps_trans, keeps_within}
use Rattle.diagram.specs.Step.{StepPost, StepResult}
use Rattle.rows.specs.Used.{rows_of}
use Rattle.rows.specs.Filled.{filled}
use Rattle.table.specs.Make.{result}
use Rattle.collect.specs.Lent.{live}
use Rattle.operations.proofs.Work.{op_refl, op_trans, ready-wf, ready-frame}
use Rattle.steps.specs.declared.Step.{Step}
use Rattle.steps.specs.Steps.{step_f, operands_of, live_at, Fits, StepPre, Stepped}
use Rattle.steps.proofs.Steps.{operand-arrow, live-arrows}
use Rattle.table.specs.declared.Full.{Full}
use Rattle.counting.specs.Taken.{taken, ran_out, made_in, count_in, Counted}
use Rattle.counting.specs.declared.Taken.{Taken}
use Rattle.book.specs.Held.{Held}
use Rattle.book.proofs.Held.{held-arrow, held-need}
use Rattle.book.specs.Pairs.{PairMatches, PairEvals}
use Rattle.book.proofs.Pairs.{pair-stop, pair_then, pair_step}
use Rattle.modal.specs.Chain.{Alike, Base, Moved, Ran}

-- ---- roots

pub alike_cons : {A : Type 0} {xs ys : List A} (x : A) → Alike xs ys → Alike (x ∷ xs) (x ∷ ys)
alike_cons x s = record {
  to = λ a h. ⊎_elim (λ e. here e) (λ i. there (s.to a i)) (mem-cases h);
  from = λ a h. ⊎_elim (λ e. here e) (λ i. there (s.from a i)) (mem-cases h);
}

pub alike_trans : {A : Type 0} {xs ys zs : List A} → Alike xs ys → Alike ys zs → Alike xs zs
alike_trans s t = record { to = λ a h. t.to a (s.to a h); from = λ a h. s.from a (t.from a h) }

pub alike_sym : {A : Type 0} {xs ys : List A} → Alike xs ys → Alike ys xs
alike_sym s = record { to = s.from; from = s.to }

-- a member once more
pub alike_once : {A : Type 0} {xs : List A} {x : A} → Mem x xs → Alike xs (x ∷ xs)
alike_once {A} {xs} {x} m = record {
  to = λ a h. there h;
  from = λ a h. ⊎_elim (λ e. subst (λ (y : A). Mem y xs) (sym e) m) (λ i. i) (mem-cases h);
}

-- what is held by some roots is held by others with the same members
pub held_alike : {m : ℕ} {rows : Rows} {xs ys : List ℕ} {fs : List Fn} → Alike xs ys → Held m rows xs fs → Held m rows ys fs
held_alike s h = record {
  each = λ f i. let (a, j, d) = h.each f i in (a, s.to a j, d);
  only = λ a i. h.only a (s.from a i);
}

pub denotes-own : {m : ℕ} {rows : Rows} {a : ℕ} → Arrow rows a → Denotes m rows a (den m rows a)
denotes-own u = record { arrow = u; same = λ v. refl }

-- roots hold what they denote
pub held-own : {m : ℕ} {rows : Rows} {roots : List ℕ} → ((a : ℕ) → Mem a roots → Arrow rows a) → Held m rows roots (map (den m rows) roots)
held-own {m} {rows} {roots} u = record {
  each = λ f i. let (a, j, e) = mem-of-map (den m rows) roots i in (a, j, subst (λ (g : Fn). Denotes m rows a g) e (denotes-own (u a j)));
  only = λ a i. (den m rows a, mem-map (den m rows) i, denotes-own (u a i));
}

-- a step needs the same over some roots and over others with the same members
pub need_alike : (m : ℕ) (rows : Rows) {xs ys : List ℕ} (F : Fn) → ((a : ℕ) → Mem a ys → Arrow rows a) → Alike xs ys
    → step_need m (map (den m rows) xs) F ≡ step_need m (map (den m rows) ys) F
need_alike m rows F u s = held-need (held_alike (alike_sym s) (held-own u)) F

-- a step's promise over some roots is one over others with the same members
pub step-roots : {m N limit : ℕ} {before after : Rows} {xs ys : List ℕ} {F : Fn} (answer : Answer) → ((a : ℕ) → Mem a ys → Arrow before a)
    → Alike xs ys
    → StepPost m N limit before after xs answer F → StepPost m N limit before after ys answer F
step-roots {m} {N} {limit} {before} {after} {xs} {ys} {F} answer u s p =
    record { wf = p.wf; kept = keeps_within s.from p.kept; result = go answer p.result }
  where
    same : step_need m (map (den m before) xs) F ≡ step_need m (map (den m before) ys) F
    same = need_alike m before F u s

    go : (answer : Answer) → StepResult m limit before after xs answer F → StepResult m limit before after ys answer F
    go (at a) r = (r.0, subst (λ (k : ℕ). k ≤ limit) same r.1)
    go full r = subst (λ (k : ℕ). limit < k) same r

-- and so is its count
pub counted-roots : (m : ℕ) (before : Rows) {xs ys : List ℕ} (F : Fn) (q : Count) (o : Result Taken Full) → ((a : ℕ) → Mem a ys
    → Arrow before a)
    → Alike xs ys
    → Counted m before xs F q o → Counted m before ys F q o
counted-roots m before F q (Ok t) u s e = e ∙ ap (needing q) (need_alike m before F u s)
counted-roots m before F q (Err x) u s e = tt

-- ---- the table between steps

pub moved_refl : {n N limit : ℕ} {W : View} → Base n N limit W → Moved n W W
moved_refl {W = W} b = record { sound = b.sound; memory = b.ready.memory; frame = op_refl W }

pub moved_trans : {n : ℕ} {U W X : View} → Moved n U W → Moved n W X → Moved n U X
moved_trans p q = record { sound = q.sound; memory = q.memory; frame = op_trans p.frame q.frame }

module _ {n N limit : ℕ} {W : View} (b : Base n N limit W) where
  pub base-next : {X : View} → Moved n W X → Base n N limit X
  base-next p = record { ready = ready-frame b.ready p.frame p.sound.good p.memory; sound = p.sound }

  pub base-wf : WellFormed (2 * n) N (rows_of W)
  base-wf = ready-wf b.ready

  pub base-bits : n ≤ MAX_BITS
  base-bits = let e = b.ready.levels-is in let l = b.sound.good.sizes.n_max in omega arith

  -- what a step asks, with the arrows that it is lent
  pub step-pre : {lent : List ℕ} {s : Step} → ((a : ℕ) → Mem a lent → Arrow (rows_of W) a) → Fits (2 * n) (rows_of W) s
      → StepPre (2 * n) N limit W lent s
  step-pre u f = record { sound = b.sound; ready = b.ready; arrows = u; fits = f }

-- a step for F after the count q, whose roots have its operands among them
pub record Took (n N limit : ℕ) (W X : View) (roots : List ℕ) (q : Count) (o : Result Taken Full) (F : Fn) : Type 0 where
  pub moved : Moved n W X
  pub post : StepPost (2 * n) N limit (rows_of W) (rows_of X) roots (result (made_in o)) F
  pub count : Counted (2 * n) (rows_of W) roots F q o

-- operands at the end or at the front
pub operands-first : {A : Type 0} (xs ys zs : List A) → Alike (xs ++ (ys ++ zs)) (zs ++ (xs ++ ys))
operands-first xs ys zs = record {
  to = λ a h. ⊎_elim (λ i. append_right zs (append_left {s = xs} ys i))
      (λ j. ⊎_elim (λ i. append_right zs (append_right xs i)) (λ k. append_left {s = zs} (xs ++ ys) k) (append_cases ys j))
      (append_cases xs h);
  from = λ a h. ⊎_elim (λ k. append_right xs (append_right ys k))
      (λ j. ⊎_elim (λ i. append_left {s = xs} (ys ++ zs) i) (λ i. append_right xs (append_left {s = ys} zs i)) (append_cases xs j))
      (append_cases zs h);
}

pub took : {n N limit : ℕ} {W X : View} {lent : List ℕ} {s : Step} {q : Count} {o : Result Taken Full} → Base n N limit W
    → StepPre (2 * n) N limit W lent s
    → Stepped (2 * n) N limit W X lent s (made_in o) → Counted (2 * n) (rows_of W) (live_at W lent s) (step_f (2 * n) (rows_of W) s) q o
    → Took n N limit W X (operands_of s ++ live W lent) q o (step_f (2 * n) (rows_of W) s)
took {n} {W = W} {lent = lent} {s = s} {q = q} {o = o} b p d c = record {
  moved = record { sound = d.sound; memory = d.memory; frame = d.frame };
  post = step-roots (result (made_in o)) arrows (operands-first (filled W) lent (operands_of s)) d.post;
  count = counted-roots (2 * n) (rows_of W) (step_f (2 * n) (rows_of W) s) q o arrows (operands-first (filled W) lent (operands_of s)) c;
}
  where
    arrows : (a : ℕ) → Mem a (operands_of s ++ live W lent) → Arrow (rows_of W) a
    arrows a h =
        ⊎_elim (operand-arrow (2 * n) (rows_of W) s p.fits a) (live-arrows lent b.sound p.arrows a) (append_cases (operands_of s) h)

-- ---- a chain

-- where rows ran out, what is counted is nobody's
uncounted : {n N : ℕ} {before after : Rows} {roots : List ℕ} {F : Fn} {c p q : Count} (b : Bool)
    → PairEvals n N before after roots b F c full p → PairEvals n N before after roots b F c full q
uncounted true r = absurd r.result
uncounted false r = record { wf = r.wf; kept = r.kept; result = tt }

-- one step is a chain: its roots `ys`, with the operands among them, hold `fs`
pub ran_step : {n N limit : ℕ} {W X : View} {roots ys : List ℕ} {fs : List Fn} {q : Count} {o : Result Taken Full} {F : Fn}
    → Held (2 * n) (rows_of W) ys fs → Within roots ys
    → Took n N limit W X ys q o F → Ran n N W X roots (leb (step_need (2 * n) fs F) limit) F (needing q (step_need (2 * n) fs F)) o
ran_step {n} {N} {limit} {W} {X} {roots} {ys} {fs} {q} {o} {F} h w p = record { moved = p.moved; evals = go o p.post p.count }
  where
    own : Held (2 * n) (rows_of W) roots (map (den (2 * n) (rows_of W)) roots)
    own = held-own (λ a i. held-arrow h a (w a i))

    go : (o : Result Taken Full) → StepPost (2 * n) N limit (rows_of W) (rows_of X) ys (result (made_in o)) F
        → Counted (2 * n) (rows_of W) ys F q o
        → PairEvals n N (rows_of W) (rows_of X) roots (leb (step_need (2 * n) fs F) limit) F (needing q (step_need (2 * n) fs F))
        (result (made_in o)) (count_in o)
    go (Ok t) s e =
        subst (λ (x : Count). PairEvals n N (rows_of W) (rows_of X) roots (leb (step_need (2 * n) fs F) limit) F
        (needing q (step_need (2 * n) fs F)) (at t.arrow) x) (sym e)
        (pair_step n N own F q q refl (keeps_within w) h refl (at t.arrow) s (step_need (2 * n) (map (den (2 * n) (rows_of W)) ys) F) refl)
    go (Err x) s e = uncounted (leb (step_need (2 * n) fs F) limit) (pair_step n N own F q q refl (keeps_within w) h refl full s 0 tt)

-- the chain stopped, whatever was to follow
pub ran_stop : {n N : ℕ} {W X : View} {roots : List ℕ} {b : Bool} {F : Fn} {d : Count} {o : Result Taken Full} (c : Bool) (G : Fn)
    (e : Count)
    → o ≡ ran_out → Ran n N W X roots b F d o
    → Ran n N W X roots (b && c) G e ran_out
ran_stop {n} {N} {W} {X} {roots} {b} {F} {d} c G e i r =
    let p : PairEvals n N (rows_of W) (rows_of X) roots b F d full (count_in ran_out) =
    subst (λ (x : Result Taken Full). PairEvals n N (rows_of W) (rows_of X) roots b F d (result (made_in x)) (count_in x)) i r.evals in
    record { moved = r.moved; evals = pair-stop n N b c G e p }

-- a value denotes its function, and its count is the book's
pair-value : (n : ℕ) (rows : Rows) {a : ℕ} {F : Fn} {c q : Count} (b : Bool) → PairMatches n rows b F c (at a) q
    → Denotes (2 * n) rows a F × (q ≡ c)
pair-value n rows true m = m
pair-value n rows false m = absurd m

-- a chain after a chain that answered `a`
module _ {n N : ℕ} {W X : View} {roots : List ℕ} {b : Bool} {F : Fn} {d : Count} {o : Result Taken Full} {a : ℕ} {p : Count}
    (e : o ≡ taken a p)
    (r : Ran n N W X roots b F d o) where
  first : PairEvals n N (rows_of W) (rows_of X) roots b F d (at a) p
  first = subst (λ (x : Result Taken Full). PairEvals n N (rows_of W) (rows_of X) roots b F d (result (made_in x)) (count_in x)) e r.evals

  pub ran_kept : Keeps (rows_of W) (rows_of X) roots
  ran_kept = r.evals.kept

  pub ran_value : Denotes (2 * n) (rows_of X) a F
  ran_value = (pair-value n (rows_of X) b first.result).0

  -- what follows counts on from p: D says how
  pub ran_then : {Y : View} {c : Bool} {G : Fn} {t : Result Taken Full} (D : Count → Count) → Ran n N X Y roots c G (D p) t
      → Ran n N W Y roots (b && c) G (D d) t
  ran_then {Y} {c} {G} {t} D q = record {
    moved = moved_trans r.moved q.moved;
    evals = pair_then n N b c first (λ v i. record {
      wf = q.evals.wf;
      kept = keeps_trans ran_kept q.evals.kept;
      result = subst (λ (x : Count). PairMatches n (rows_of Y) c G (D x) (result (made_in t)) (count_in t)) i q.evals.result;
    });
  }
