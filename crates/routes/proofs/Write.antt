-- Laws of what specs/Write.antt defines. Assumes nothing.
use mathlib.Core.Path.{◌≡◌, refl, sym, ap, ap₂, ◌∙◌, subst}
use mathlib.Core.Bool.{Bool, ◌&&◌}
use mathlib.Core.List.{List, [], ◌∷◌, Memᴰ as Mem}
use Prim.Native.Nat.{ℕ, suc, ◌+◌, ◌-◌, ◌*◌, ◌^◌, ◌≤◌, ◌<◌}
use native.Mathlib.Omega.{arith}
use lib.Dec.{T, ltb}
use lib.ListN.{length, set}
use lib.Pow.{pow_mono}
use Rattle.mucalculus.specs.Sets.{mem}
use Rattle.mucalculus.proofs.Sets.{and_out, true_of}
use Rattle.mucalculus.specs.Form.{Pairs}
use Rattle.mucalculus.specs.Means.{pair}
use Rattle.layout.specs.Places.{BITS}
use Rattle.layout.specs.View.{View}
use Rattle.diagram.specs.Rows.{den}
use Rattle.diagram.specs.Post.{Denotes}
use Rattle.diagram.specs.Keep.{Keeps}
use Rattle.diagram.proofs.Keep.{keeps_trans, keeps_denotes, keeps_refl}
use Rattle.rows.specs.Used.{rows_of}
use Rattle.rows.specs.Filled.{filled}
use Rattle.rows.proofs.Filled.{filled-arrow}
use Rattle.book.specs.States.{pair_val}
use Rattle.book.proofs.States.{now_of-pair_val, next_of-pair_val}
use Rattle.book.specs.Bridge.{fn_of, fn_of_pairs}
use Rattle.book.specs.Held.{Held}
use Rattle.book.proofs.Held.{held_keeps}
use Rattle.modal.specs.Chain.{Base}
use Rattle.modal.proofs.Chain.{moved_refl, moved_trans, base-next, base-bits, base-wf}
use Rattle.paths.specs.Runs.{runs_into, first_of, toward, onward, written}
use Rattle.paths.proofs.First.{first-same}
use Rattle.paths.proofs.Layers.{run-lt}
use Rattle.paths.proofs.Written.{towards}
use Rattle.seek.specs.Walk.{holds_at}
use Rattle.seek.specs.Search.{next_in}
use Rattle.layers.specs.Scene.{Scene, Start, Layered, layer_of}
use Rattle.layers.proofs.Scene.{filled-same, fits-before}
use Rattle.layers.specs.Again.{AgainPre, AgainPost}
use Rattle.layers.specs.Pass.{Steps}
use Rattle.layers.proofs.Pass.{holds-pre}
use Rattle.routes.specs.Write.{put_all, PlacePre, PlacePost, Onward, WritePre, WritePost}

-- ---- lists

put-cons : (i : ℕ) (l : List ℕ) (x : ℕ) (m : List ℕ) → put_all (suc i) l (x ∷ m) ≡ x ∷ put_all i l m
put-cons i [] x m = refl
put-cons i (s ∷ l) x m = put-cons (suc i) l x (set m i s)

pub put_written : (l m : List ℕ) → length l ≤ length m → put_all 0 l m ≡ written l m
put_written [] m h = refl
put_written (s ∷ l) [] h = absurd (omega arith)
put_written (s ∷ l) (x ∷ m) h = put-cons 0 l s m ∙ ap (λ (k : List ℕ). s ∷ k) (put_written l m (omega arith))

-- ---- the scene in later words

module _ {n N limit : ℕ} {W X : View} {t b : ℕ} (p : Start n N limit W t b) (q : Steps n W X) where
  pub same-roots : filled X ≡ filled W
  same-roots = filled-same q.moved.frame

  pub start-later : Start n N limit X t b
  start-later = record {
    base = base-next p.base q.moved;
    t_live = subst (λ (xs : List ℕ). Mem t xs) (sym same-roots) p.t_live;
    b_live = subst (λ (xs : List ℕ). Mem b xs) (sym same-roots) p.b_live;
  }

  abbrev pub scene-later : Scene n W t b → Scene n X t b
  scene-later S = record {
    fs = S.fs;
    R = S.R;
    B = S.B;
    held = subst (λ (xs : List ℕ). Held (2 * n) (rows_of X) xs S.fs) (sym same-roots) (held_keeps S.held q.kept);
    relation = keeps_denotes q.kept p.t_live S.relation;
    goal = keeps_denotes q.kept p.b_live S.goal;
    sized = S.sized;
  }

  pub steps-later : {Y : View} {S : Scene n X t b} {i x : ℕ} → Layered n X Y t b S i x → Steps n W Y
  steps-later {Y} l = record {
    moved = moved_trans q.moved l.moved;
    kept = keeps_trans q.kept (subst (λ (xs : List ℕ). Keeps (rows_of X) (rows_of Y) xs) same-roots l.kept);
  }

pub steps-start : {n N limit : ℕ} {W : View} {t b : ℕ} → Start n N limit W t b → Steps n W W
steps-start p = record { moved = moved_refl p.base; kept = keeps_refl (base-wf p.base) (filled-arrow p.base.sound) }

-- ---- the least next state, of sets

next-mem : (n : ℕ) (X : View) {t x : ℕ} (R : Pairs) (L : List Bool) → 2 * n ≡ 2 * X.header BITS
    → Denotes (2 * n) (rows_of X) t (fn_of_pairs n R) → Denotes (2 * n) (rows_of X) x (fn_of n L)
    → (s : ℕ) → s < 2 ^ n → (u : ℕ) → u < 2 ^ n → next_in X t s x u ≡ (pair R s u && mem L u)
next-mem n X {t} {x} R L e dt dx s l u i = ap₂ ◌&&◌ step inside
  where
    step : holds_at X t s u ≡ pair R s u
    step = subst (λ (m : ℕ). den m (rows_of X) t (pair_val s u) ≡ pair R s u) e
        (dt.same (pair_val s u) ∙ ap₂ (pair R) (now_of-pair_val n s u l) (next_of-pair_val n s u i))

    inside : holds_at X x u 0 ≡ mem L u
    inside = subst (λ (m : ℕ). den m (rows_of X) x (pair_val u 0) ≡ mem L u) e (dx.same (pair_val u 0) ∙ ap (mem L) (now_of-pair_val n u 0 i))

-- what the walk over rows finds is the least next state in the set
pub toward-found : (n : ℕ) (X : View) {t x : ℕ} (R : Pairs) (L : List Bool) → 2 * n ≡ 2 * X.header BITS
    → Denotes (2 * n) (rows_of X) t (fn_of_pairs n R) → Denotes (2 * n) (rows_of X) x (fn_of n L)
    → (s : ℕ) → s < 2 ^ n → first_of (2 ^ n) (next_in X t s x) ≡ toward (2 ^ n) R L s
toward-found n X {t} {x} R L e dt dx s l =
    first-same (2 ^ n) (next_in X t s x) (λ u. pair R s u && mem L u) (next-mem n X R L e dt dx s l)

-- a state fits into a place of the list
pub state-small : {n N limit : ℕ} {W : View} {s : ℕ} → Base n N limit W → s < 2 ^ n → s < 65_536
state-small {n} b l = let m : 2 ^ n ≤ 65_536 = pow_mono (base-bits b) in omega arith

-- ---- one state of a run, whatever made its set: L is the set of arrow x in words that steps have left

module _ {n N limit : ℕ} {W Y : View} {t b x : ℕ} (p : Start n N limit W t b) (q : Steps n W Y) (S : Scene n W t b) (L : List Bool)
    (d : Denotes (2 * n) (rows_of Y) x (fn_of n L)) where
  base_there : Base n N limit Y
  base_there = base-next p.base q.moved

  relation-there : Denotes (2 * n) (rows_of Y) t (fn_of_pairs n S.R)
  relation-there = keeps_denotes q.kept p.t_live S.relation

  -- what is found is the least next state in the set
  pub step-found : (s : ℕ) → s < 2 ^ n → first_of (2 ^ n) (next_in Y t s x) ≡ toward (2 ^ n) S.R L s
  step-found s l = toward-found n Y S.R L base_there.ready.levels-is relation-there d s l

  -- so it may be asked for where there is one
  pub step-asks : {s at : ℕ} {list : List ℕ} → s < 2 ^ n → toward (2 ^ n) S.R L s < 2 ^ n → at < length list
      → PlacePre n Y t s x at list
  step-asks {s} l g r = record {
    walks = (holds-pre base_there relation-there.arrow, holds-pre base_there d.arrow, base-bits p.base);
    there = subst (λ (u : ℕ). u < 2 ^ n) (sym (step-found s l)) g;
    room = r;
  }

-- it fits into its place
pub next_small : {n : ℕ} {W : View} {t s x at u : ℕ} {list : List ℕ} → PlacePre n W t s x at list → u ≡ first_of (2 ^ n) (next_in W t s x)
    → u < 65_536
next_small {n} a e = let m : 2 ^ n ≤ 65_536 = pow_mono a.walks.2 in let l = a.there in omega (arith, m, l, e)

-- ---- writing

-- where the loop stands: s is the last state written, and the rest goes from place i on
pub record Writing (n limit : ℕ) (W X : View) (t b : ℕ) (S : Scene n W t b) (d first : ℕ) (old now : List ℕ) (s left i : ℕ) : Type 0 where
  pub steps : Steps n W X
  pub rest : put_all i (onward (2 ^ n) S.R S.B left s) now ≡ put_all 1 (onward (2 ^ n) S.R S.B d first) old
  pub runs : T (runs_into (2 ^ n) S.R S.B s (onward (2 ^ n) S.R S.B left s))

module _ {n N limit : ℕ} {W : View} {t b d first : ℕ} {old : List ℕ} (p : WritePre n N limit W t b d first old) where
  pub write_starts : (S : Scene n W t b) → Onward limit S d first → Writing n limit W W t b S d first old old first d 1
  write_starts S r = record { steps = steps-start p.start; rest = refl; runs = r.1 }

  module _ {X : View} {now : List ℕ}
      {s left i : ℕ} (q : (S : Scene n W t b) → Onward limit S d first → Writing n limit W X t b S d first old now s left i) where
    abbrev at-scene : Writing n limit W X t b p.scene d first old now s left i
    at-scene = q p.scene p.ready

    pub write_again : 0 < left → left ≤ d → AgainPre n N limit X t b (left - 1)
    write_again l h = record {
      start = start-later p.start at-scene.steps;
      scene = scene-later p.start at-scene.steps p.scene;
      fits = true_of _ (fits-before limit p.scene (left - 1) d (omega arith) (subst T (sym p.ready.0) tt));
    }

    module _ {Y : View} {x : ℕ} (g : AgainPost n X Y t b (left - 1) x) where
      made : (S : Scene n W t b) (r : Onward limit S d first) → Layered n X Y t b (scene-later p.start (q S r).steps S) (left - 1) x
      made S r = g (scene-later p.start (q S r).steps S)

      steps-after : (S : Scene n W t b) (r : Onward limit S d first) → Steps n W Y
      steps-after S r = steps-later p.start (q S r).steps (made S r)

      module _ (l : 0 < left) where
        eleft : left ≡ suc (left - 1)
        eleft = omega arith

        -- the state that is written, and those after it
        abbrev next : Scene n W t b → ℕ
        next S = towards (2 ^ n) S.R S.B (left - 1) s

        abbrev rest : Scene n W t b → ℕ → List ℕ
        rest S v = onward (2 ^ n) S.R S.B (left - 1) v

        here : (S : Scene n W t b) → Onward limit S d first → s < 2 ^ n
        here S r = run-lt (2 ^ n) S.R S.B s (onward (2 ^ n) S.R S.B left s) (q S r).runs

        -- a run goes on from it
        ahead : (S : Scene n W t b) → Onward limit S d first → T (runs_into (2 ^ n) S.R S.B (next S) (rest S (next S)))
        ahead S r =
            let k = 2 ^ n in
            let w = subst (λ (m : ℕ). T (runs_into k S.R S.B s (onward k S.R S.B m s))) eleft (q S r).runs in
            (and_out (pair S.R s (next S)) _ (and_out (ltb s k) _ w).1).1

        pub next-asks : i < length now → PlacePre n Y t s x i now
        next-asks h =
            let S = p.scene in
            let r = p.ready in
            step-asks p.start (steps-after S r) S (layer_of S (left - 1)) (made S r).layer-is (here S r)
            (run-lt (2 ^ n) S.R S.B (next S) (rest S (next S)) (ahead S r)) h

        pub write_turns : {u : ℕ} {new : List ℕ} → PlacePost n Y t s x i now new u → (S : Scene n W t b) → Onward limit S d first
            → Writing n limit W Y t b S d first old new u (left - 1) (i + 1)
        write_turns {u} {new} w S r =
            let k = 2 ^ n in
            let j : suc i ≡ i + 1 = omega arith in
            let e : u ≡ next S =
            w.is ∙ step-found p.start (steps-after S r) S (layer_of S (left - 1)) (made S r).layer-is s (here S r) in
            let P : ℕ → List ℕ → List ℕ
            → Type 0 = λ m l now. put_all m l now ≡ put_all 1 (onward k S.R S.B d first) old in
            let f : P (suc i) (rest S (next S)) (set now i (next S)) =
            subst (λ (m : ℕ). P i (onward k S.R S.B m s) now) eleft (q S r).rest in
            let f1 = subst (λ (v : ℕ). P (suc i) (rest S v) (set now i v)) (sym e) f in
            let f2 = subst (λ (m : ℕ). P m (rest S u) (set now i u)) j f1 in
            record {
              steps = steps-after S r;
              rest = subst (λ (m : List ℕ). P (i + 1) (rest S u) m) (sym w.list) f2;
              runs = subst (λ (v : ℕ). T (runs_into k S.R S.B v (rest S v))) (sym e) (ahead S r);
            }

    pub write_ends : left ≤ 0 → WritePost n limit W X t b d first old now
    write_ends l S r =
        let k = 2 ^ n in
        let z : left ≡ 0 = omega arith in
        record {
          steps = (q S r).steps;
          list = subst (λ (m : ℕ). put_all i (onward k S.R S.B m s) now ≡ put_all 1 (onward k S.R S.B d first) old) z
              (q S r).rest;
        }
