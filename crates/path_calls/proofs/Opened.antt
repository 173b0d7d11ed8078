-- A table from which a search for a run begins, with nothing remembered: what the places of its header stand for, and what is left of its
-- words where rows are freed afterwards. Both searches, by two registers and by two logs, stand on it. Assumes nothing.
use mathlib.Core.Path.{◌≡◌, sym, ap, ◌∙◌, subst}
use mathlib.Core.List.{List, Memᴰ as Mem}
use mathlib.Core.Option.{Option, none, some}
use Prim.Native.Nat.{ℕ, suc, ◌+◌, ◌*◌, ◌≤◌, ◌<◌}
use native.Mathlib.Omega.{arith}
use Rattle.mucalculus.specs.Form.{inside}
use Rattle.layout.specs.Places.{BITS, VALID, FIRST_RELATION}
use Rattle.layout.specs.View.{View}
use Rattle.diagram.specs.Level.{Fn}
use Rattle.diagram.specs.Rows.{Rows}
use Rattle.diagram.specs.Post.{Denotes}
use Rattle.diagram.specs.Keep.{Keeps}
use Rattle.rows.specs.Used.{rows_of}
use Rattle.rows.specs.Filled.{filled}
use Rattle.rows.proofs.Filled.{filled-mem}
use Rattle.collect.specs.Answers.{FreeManyPost}
use Rattle.memory.proofs.Frame.{rows_same}
use Rattle.memory.specs.Forget.{Forgot}
use Rattle.operations.specs.Work.{OpFrame}
use Rattle.operations.proofs.Work.{op_trans, op_memo}
use Rattle.steps.proofs.Again.{start-ready}
use Rattle.book.specs.Bridge.{fn_of_pairs}
use Rattle.book.specs.Book.{relations, live_of}
use Rattle.book.proofs.BookOf.{shows-book_of}
use Rattle.book.specs.Table.{Place, Shows, roots_of}
use Rattle.book.proofs.Roots.{shows-held}
use Rattle.book.specs.Held.{Held}
use Rattle.contract.specs.Seen.{arrow_in, seen_in}
use Rattle.contract.proofs.Seen.{sound-table}
use Rattle.contract.proofs.Roots.{filled_root, root-filled}
use Rattle.modal.specs.Chain.{Base}
use Rattle.modal.proofs.Chain.{held_alike}
use Rattle.formula_steps.proofs.After.{After, freed}
use Rattle.layers.specs.Pass.{Steps}
use Rattle.layers.proofs.Scene.{filled-same}
use Rattle.path_calls.specs.Search.{book_in, Opens}

-- what a filled place's arrow stands for
pub place-some : {Y : Type 0} {m : ℕ} {rows : Rows} {a : ℕ} (g : List Y → Fn) (o : Option (List Y)) → Place m rows g o (some a)
    → Denotes m rows a (g (inside o))
place-some g none p = absurd p
place-some g (some x) p = p

module _ {n N limit : ℕ} {W : View} (p : Opens n N limit W) {X : View} (f : Forgot W X) where
  pub shows : Shows (book_in W) (seen_in W)
  shows = shows-book_of (seen_in W) (sound-table W p.sound)

  frame : OpFrame W X
  frame = op_memo f.frame

  same-rows : rows_of W ≡ rows_of X
  same-rows = sym (rows_same f.frame)

  -- what is said of the table of the words is said of the one that forgot
  pub moved : (P : ℕ → Rows → Type 0) → P (W.header BITS) (rows_of W) → P n (rows_of X)
  moved P q = subst (λ (k : ℕ). P k (rows_of X)) (sym p.bits) (subst (P (W.header BITS)) same-rows q)

  -- what a place of the header holds
  pub place : {Y : Type 0} {c : ℕ} (g : ℕ → Y → Fn) (o : Option Y) (h : ℕ) → W.header h ≡ suc c
      → Place (2 * W.header BITS) (rows_of W) (g (W.header BITS)) o (arrow_in (W.header h))
      → Place (2 * n) (rows_of X) (g n) o (some c)
  place {c = c} g o h e q =
      moved (λ k u. Place (2 * k) u (g k) o (some c))
      (subst (λ (w : ℕ). Place (2 * W.header BITS) (rows_of W) (g (W.header BITS)) o (arrow_in w)) e q)

  -- relation rt
  pub relation-there : {rt t : ℕ} → rt < relations → W.header (FIRST_RELATION + rt) ≡ suc t
      → Denotes (2 * n) (rows_of X) t (fn_of_pairs n (inside ((book_in W).rel rt)))
  relation-there {rt} l e =
      place-some (fn_of_pairs n) ((book_in W).rel rt) (place fn_of_pairs ((book_in W).rel rt) (FIRST_RELATION + rt) e (shows.rel rt l))

  pub start-base : Base n N limit X
  start-base =
      let q = start-ready p.sound f (ap (λ (k : ℕ). 2 * k) p.bits) p.rows p.limit-le in record { ready = q.1; sound = q.0 }

  pub start-held : Held (2 * n) (rows_of X) (filled X) (live_of (book_in W))
  start-held =
      let g = moved (λ k u. Held (2 * k) u (roots_of (seen_in W)) (live_of (book_in W))) (shows-held (book_in W) (seen_in W) shows) in
      subst (λ (xs : List ℕ). Held (2 * n) (rows_of X) xs (live_of (book_in W))) (sym (filled-same frame))
      (held_alike (record { to = root-filled W p.sound.valid; from = filled_root W }) g)

  -- what V, a register or a relation holds is live
  pub live_at : {c : ℕ} (h : ℕ) → VALID ≤ h → h < FIRST_RELATION + relations → W.header h ≡ suc c → Mem c (filled X)
  live_at {c} h l k e =
      filled-mem X c
      (record {
        at = h;
        from = omega arith;
        below = omega arith;
        holds = frame.header h (omega arith) (omega arith) (omega arith) (omega arith) ∙ e;
      })

  -- after the search's steps, and rows freed
  pub left_after : {Y Z : View} → Steps n X Y → FreeManyPost Y Z → After W Z
  left_after {Y} {Z} q g =
      let z : After X Z = freed (record { sound = q.moved.sound; frame = q.moved.frame; kept = q.kept }) g in
      record {
        sound = z.sound;
        frame = op_trans frame z.frame;
        kept = subst (λ (u : Rows). Keeps u (rows_of Z) (filled W)) (sym same-rows)
            (subst (λ (xs : List ℕ). Keeps (rows_of X) (rows_of Z) xs) (filled-same frame) z.kept);
      }
