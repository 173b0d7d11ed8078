-- The search from the words of a table: the scene that they hold, and what is left. Assumes nothing.
use mathlib.Core.Path.{◌≡◌, sym, subst}
use mathlib.Core.List.{List}
use Prim.Native.Nat.{ℕ, ◌+◌, ◌-◌, ◌*◌}
use native.Mathlib.Omega.{arith}
use Rattle.std.specs.Prelude.{Result}
use Rattle.mucalculus.specs.Form.{inside}
use Rattle.layout.specs.declared.Refusal.{Refusal}
use Rattle.layout.specs.Places.{BITS, VALID, FIRST_RELATION}
use Rattle.layout.specs.View.{View}
use Rattle.diagram.specs.Post.{Denotes}
use Rattle.rows.specs.Used.{rows_of}
use Rattle.rows.specs.Within.{valid_of}
use Rattle.rows.specs.Sound.{Sound}
use Rattle.collect.specs.Answers.{FreeManyPost}
use Rattle.memory.specs.Forget.{Forgot}
use Rattle.book.specs.Bridge.{fn_of, Sized}
use Rattle.book.specs.Book.{live_of}
use Rattle.book.proofs.BookOf.{whole-book_of}
use Rattle.contract.specs.Seen.{seen_in}
use Rattle.contract.proofs.Seen.{sound-table}
use Rattle.formula_steps.proofs.After.{After}
use Rattle.layers.specs.Scene.{Scene}
use Rattle.path_calls.specs.Search.{book_in}
use Rattle.path_calls.proofs.Opened.{shows, moved, relation-there, start-base, start-held, live_at, left_after}
use Rattle.moments.specs.Find.{FindPre, FindPost}
use Rattle.log_calls.specs.Search.{Named, SearchPre, SearchPost}

module _ {n N limit : ℕ} {W : View} {t v : ℕ} {one two : List ℕ} (p : SearchPre n N limit W t v one two) {X : View} (f : Forgot W X) where
  module _ {rt : ℕ} (m : Named W rt t v) where
    valid-there : Denotes (2 * n) (rows_of X) v (fn_of n (book_in W).valid)
    valid-there =
        let e : valid_of W ≡ v = omega (arith, m.v_is) in
        moved p.opens f (λ k u. Denotes (2 * k) u v (fn_of k (book_in W).valid))
        (subst (λ (a : ℕ). Denotes (2 * W.header BITS) (rows_of W) a (fn_of (W.header BITS) (book_in W).valid)) e
        (shows p.opens f).valid)

    abbrev scene : Scene n X t v
    scene = record {
      fs = live_of (book_in W);
      R = inside ((book_in W).rel rt);
      B = (book_in W).valid;
      held = start-held p.opens f;
      relation = relation-there p.opens f m.t_in m.t_is;
      goal = valid-there;
      sized = subst (λ (k : ℕ). Sized k (book_in W).valid) (sym p.opens.bits)
          (whole-book_of (seen_in W) (sound-table W p.opens.sound)).valid;
    }

    asks-named : FindPre n N limit X t v one two
    asks-named = record {
      start = record {
        base = start-base p.opens f;
        t_live = live_at p.opens f (FIRST_RELATION + rt) (omega arith) (let l = m.t_in in omega arith) m.t_is;
        b_live = live_at p.opens f VALID (omega arith) (omega arith) m.v_is;
      };
      scene = scene;
      logs = p.logs;
    }

  pub search-asks : FindPre n N limit X t v one two
  search-asks = asks-named p.named

  -- what freeing asks
  pub search_frees : {Y : View} (old : List ℕ) {new : List ℕ} {r : Result (Unit {0}) Refusal}
      → FindPost n limit X Y t v one two old new r → Sound Y
  search_frees old u = (u (scene p.named)).steps.moved.sound

  pub search-done : {Y Z : View} (old : List ℕ) {new : List ℕ} {r : Result (Unit {0}) Refusal}
      → FindPost n limit X Y t v one two old new r → FreeManyPost Y Z
      → SearchPost n limit W Z t v one two old new r
  search-done {Y} {Z} old {new} {r} u g rt m =
      let w = u (scene m) in
      let z : After W Z = left_after p.opens f w.steps g in
      record { sound = z.sound; frame = z.frame; kept = z.kept; told = w.told }
