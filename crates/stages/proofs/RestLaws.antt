-- Laws of what specs/Rest.antt defines. Assumes nothing.
use mathlib.Core.Path.{◌≡◌, refl, sym, subst, fun_ext}
use mathlib.Core.Logic.{◌≢◌, ⊎_elim}
use mathlib.Core.Bool.{Bool, true, false, true≢false}
use mathlib.Core.List.Memᴰ.{cases_cons as mem-cases}
use mathlib.Core.List.Memᴰ.{not-nil as mem-nil}
use mathlib.Core.List.{List, [], ◌∷◌, ◌++◌, Memᴰ as Mem}
use mathlib.Core.List.Memᴰ.{append_cases}
use Prim.Native.Nat.{ℕ, ◌*◌, ◌<◌}
use native.Mathlib.Omega.{arith}
use Rattle.layout.specs.Places.{BITS, MAX_ROWS}
use Rattle.layout.specs.View.{View}
use Rattle.diagram.specs.Rows.{Rows, Arrow, den}
use Rattle.diagram.specs.Odd.{odd_f}
use Rattle.diagram.specs.Blind.{Blind}
use Rattle.diagram.proofs.Grow.{arrow_extends, den_extends}
use Rattle.diagram.proofs.Keep.{extends_keeps}
use Rattle.diagram.specs.Post.{Denotes}
use Rattle.diagram.proofs.Post.{denotes_extends}
use Rattle.layout.specs.Arrows.{is_row, row_of}
use Rattle.rows.specs.Used.{rows_of}
use Rattle.rows.proofs.Used.{of_arrow}
use Rattle.rows.specs.Sound.{Sound}
use Rattle.rows.proofs.Filled.{filled-arrow}
use Rattle.table.proofs.Keep.{sound_extends}
use Rattle.std.specs.Prelude.{Some, None, Ok}
use Rattle.collect.specs.Answers.{FreePre}
use Rattle.operations.proofs.Work.{ready-look, ready-wf}
use Rattle.operations.specs.Odd.{Grown, OddPost}
use Rattle.operations.proofs.Odd.{grown-none, ready-grown, grown_trans}
use Rattle.counting.specs.Counts.{BaseOf, CountsOf}
use Rattle.counting.proofs.CountsLaws.{base_keeps, counts_extends}
use Rattle.stages.specs.Left.{LookPre, LookPost}
use Rattle.stages.specs.declared.Looked.{Looked}
use Rattle.stages.specs.declared.Looked.TheVariants as looked
use Rattle.stages.specs.Rest.{RestPre, SurePost, RestPost}

module _ {n N limit : ℕ} {W : View} {roots : List ℕ} {a left : ℕ} (p : RestPre n N limit W roots a left) where
  -- ---- a table to which rows were added
  module _ {X : View} (g : Grown (2 * n) W X) where
    pub sound-grown : Sound X
    sound-grown =
        sound_extends p.sound g.good (g.frame.header BITS (omega arith) (omega arith) (omega arith) (omega arith))
        (λ h b l. g.frame.header h (omega arith) (omega arith) (omega arith) (omega arith)) g.kept

    pub pre-grown : RestPre n N limit X roots a left
    pre-grown = record {
      ready = ready-grown p.ready g;
      sound = sound-grown;
      arrows = λ b h. arrow_extends g.kept b (p.arrows b h);
      arrow = arrow_extends g.kept a p.arrow;
      blind = subst (Blind left) (fun_ext (λ v. sym (den_extends g.kept p.sound.good.rows (2 * n) a p.arrow v))) p.blind;
      fewer = p.fewer;
    }

    pub base-grown : {c : List ℕ} → BaseOf W c → BaseOf X c
    base-grown k = base_keeps g.frame (extends_keeps p.sound.good.rows (filled-arrow p.sound) g.kept) k

    pub counts-grown : {c : List ℕ} → CountsOf W c → CountsOf X c
    counts-grown k = counts_extends p.sound g.frame g.kept k

    pub sure-grown : {Y : View} {most : ℕ} {r : Bool} → SurePost n X Y roots a left most r → SurePost n W Y roots a left most r
    sure-grown s = record { grown = grown_trans g s.grown; fits = s.fits }

  -- ---- a look
  pub look-asks : {c : List ℕ} → BaseOf W c → LookPre n N W c roots a left
  look-asks k =
      record {
        ready = ready-look p.ready;
        sound = p.sound;
        base = k;
        arrows = p.arrows;
        arrow = p.arrow;
        blind = p.blind;
        fewer = p.fewer;
      }

  pub sure-yes : {most : ℕ} {r : Looked} → LookPost n W roots a left most r → r ≡ looked.Fits → SurePost n W W roots a left most true
  sure-yes l e = record { grown = grown-none p.ready; fits = λ t. l.fits e }

  pub sure-no : {most : ℕ} → SurePost n W W roots a left most false
  sure-no = record { grown = grown-none p.ready; fits = λ t. absurd (true≢false (sym t)) }

  -- ---- all at once
  -- a row that the arrow leads to is one of the table
  pub row_within : is_row a ≡ true → row_of a < MAX_ROWS
  row_within h =
      let l = p.sound.good.rows.bounded (row_of a) (of_arrow (rows_of W) a h refl p.arrow) in
      let n = p.sound.good.sizes.N-max in
      omega (arith, l, n)

  pub sizes-ask : (x : ℕ) → ((rows : Rows) → Arrow rows a → Arrow rows x) → FreePre W (roots ++ (a ∷ a ∷ x ∷ []))
  sizes-ask x u = record { sound = p.sound; arrows = λ b h. ⊎_elim (p.arrows b) (λ t. one b t) (append_cases roots h) }
    where
      is : {b c : ℕ} → b ≡ c → Arrow (rows_of W) c → Arrow (rows_of W) b
      is e w = subst (Arrow (rows_of W)) (sym e) w

      one : (b : ℕ) → Mem b (a ∷ a ∷ x ∷ []) → Arrow (rows_of W) b
      one b h = ⊎_elim (λ e. is e p.arrow)
          (λ t. ⊎_elim (λ e. is e p.arrow) (λ t. ⊎_elim (λ e. is e (u (rows_of W) p.arrow)) (λ z. absurd (mem-nil z)) (mem-cases t))
          (mem-cases t)) (mem-cases h)

  pub rest-none : {X : View} {most : ℕ} → Grown (2 * n) W X → RestPost n W X roots a left most None
  rest-none g = record { grown = g; value = λ v e. absurd (nothing v e); fits = λ v e. absurd (nothing v e) }
    where
      nothing : (v : ℕ) → None ≡ Some v → ⊥
      nothing v e = let z : ◌≡◌ {A = ℕ} 0 1 = cc in omega arith

  pub rest_idle : {most : ℕ} → RestPost n W W roots a left most None
  rest_idle = rest-none (grown-none p.ready)

  module _ {X : View} {c : ℕ} (o : OddPost (2 * n) W X a (Ok c))
      {Y : View} {most : ℕ} {b : Bool} (s : SurePost n X Y roots a left most b) where
    pub rest_at : b ≡ true → RestPost n W Y roots a left most (Some c)
    rest_at e = record {
      grown = grown_trans o.grown s.grown;
      value = λ w q. let z : c ≡ w = cc in subst (λ (x : ℕ). Denotes (2 * n) (rows_of Y) x (odd_f (den (2 * n) (rows_of W) a))) z denotes;
      fits = λ w q. s.fits e;
    }
      where
        denotes : Denotes (2 * n) (rows_of Y) c (odd_f (den (2 * n) (rows_of W) a))
        denotes = denotes_extends (ready-wf (ready-grown p.ready o.grown)) s.grown.kept (o.result c refl)
