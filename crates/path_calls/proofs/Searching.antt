-- The search from the words of a table: the scene that they hold, and what is left. Assumes nothing.
use mathlib.Core.Path.{◌≡◌, refl, sym, subst}
use mathlib.Core.Bool.{Bool}
use mathlib.Core.List.{List}
use mathlib.Core.Option.{Option, none, some}
use Prim.Native.Nat.{ℕ, suc, ◌+◌, ◌*◌, ◌<◌}
use native.Mathlib.Omega.{arith}
use Rattle.std.specs.Prelude.{Result}
use Rattle.mucalculus.specs.Form.{inside}
use Rattle.layout.specs.declared.Refusal.{Refusal}
use Rattle.layout.specs.Places.{FIRST_REGISTER, FIRST_RELATION}
use Rattle.layout.specs.View.{View}
use Rattle.diagram.specs.Level.{Fn}
use Rattle.diagram.specs.Rows.{Rows}
use Rattle.diagram.specs.Post.{Denotes}
use Rattle.rows.specs.Used.{rows_of}
use Rattle.rows.specs.Sound.{Sound}
use Rattle.collect.specs.Answers.{FreeManyPost}
use Rattle.memory.specs.Forget.{Forgot}
use Rattle.book.specs.Bridge.{fn_of, Sized}
use Rattle.book.specs.Book.{registers, live_of}
use Rattle.book.proofs.BookOf.{whole-book_of}
use Rattle.book.specs.Table.{Place}
use Rattle.contract.specs.Seen.{seen_in}
use Rattle.contract.proofs.Seen.{sound-table}
use Rattle.formula_steps.proofs.After.{After}
use Rattle.layers.specs.Scene.{Scene}
use Rattle.layers.specs.Pass.{PassPre}
use Rattle.routes.specs.Find.{FindPost}
use Rattle.path_calls.specs.Search.{book_in, Named, SearchPre, SearchPost}
use Rattle.path_calls.proofs.Opened.{place-some, shows, place, relation-there, start-base, start-held, live_at, left_after}

pub place-sized : (n m : ℕ) (rows : Rows) (a : ℕ) (g : List Bool → Fn) (o : Option (List Bool)) → Place m rows g o (some a)
    → ((x : List Bool) → o ≡ some x → Sized n x) → Sized n (inside o)
place-sized n m rows a g none p h = absurd p
place-sized n m rows a g (some x) p h = h x refl

module _ {n N limit : ℕ} {W : View} {t a b : ℕ} (p : SearchPre n N limit W t a b) {X : View} (f : Forgot W X) where
  module _ {ra rb rt : ℕ} (m : Named W ra rb rt a b t) where
    set_is : {c r : ℕ} → r < registers → W.header (FIRST_REGISTER + r) ≡ suc c
        → Place (2 * n) (rows_of X) (fn_of n) ((book_in W).reg r) (some c)
    set_is {c} {r} l e = place p.opens f fn_of ((book_in W).reg r) (FIRST_REGISTER + r) e ((shows p.opens f).reg r l)

    abbrev scene : Scene n X t b
    scene = record {
      fs = live_of (book_in W);
      R = inside ((book_in W).rel rt);
      B = inside ((book_in W).reg rb);
      held = start-held p.opens f;
      relation = relation-there p.opens f m.t_in m.t_is;
      goal = place-some (fn_of n) ((book_in W).reg rb) (set_is m.b_in m.b_is);
      sized =
          place-sized n (2 * n) (rows_of X) b (fn_of n) ((book_in W).reg rb) (set_is m.b_in m.b_is)
          (λ x e. subst (λ (k : ℕ). Sized k x) (sym p.opens.bits)
          ((whole-book_of (seen_in W) (sound-table W p.opens.sound)).reg rb x e).0);
    }

    from : Denotes (2 * n) (rows_of X) a (fn_of n (inside ((book_in W).reg ra)))
    from = place-some (fn_of n) ((book_in W).reg ra) (set_is m.a_in m.a_is)

    asks-named : PassPre n N limit X t a b
    asks-named = record {
      start = record {
        base = start-base p.opens f;
        t_live = live_at p.opens f (FIRST_RELATION + rt) (omega arith) (let l = m.t_in in omega arith) m.t_is;
        b_live = live_at p.opens f (FIRST_REGISTER + rb) (omega arith) (let l = m.b_in in omega arith) m.b_is;
      };
      a_live = live_at p.opens f (FIRST_REGISTER + ra) (omega arith) (let l = m.a_in in omega arith) m.a_is;
      scene = scene;
      A = inside ((book_in W).reg ra);
      from = from;
    }

  pub search-asks : PassPre n N limit X t a b
  search-asks = asks-named p.named

  -- what freeing asks
  pub search_frees : {Y : View} (old : List ℕ) {new : List ℕ} {r : Result ℕ Refusal} → FindPost n limit X Y t a b old new r → Sound Y
  search_frees old v = (v (scene p.named) (inside ((book_in W).reg p.ra)) (from p.named)).steps.moved.sound

  pub search-done : {Y Z : View} (old : List ℕ) {new : List ℕ} {r : Result ℕ Refusal} → FindPost n limit X Y t a b old new r
      → FreeManyPost Y Z
      → SearchPost n limit W Z t a b old new r
  search-done {Y} {Z} old {new} {r} v g ra rb rt m =
      let w = v (scene m) (inside ((book_in W).reg ra)) (from m) in
      let z : After W Z = left_after p.opens f w.steps g in
      record { sound = z.sound; frame = z.frame; kept = z.kept; told = w.told }
