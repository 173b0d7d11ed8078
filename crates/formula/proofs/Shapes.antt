-- What each check says of an operator by its parts, AND and OR alike, box and diamond, mu and nu. Assumes nothing.
use mathlib.Core.Path.{◌≡◌, refl}
use mathlib.Core.Bool.{Bool, true, false, not, ◌&&◌, ◌||◌}
use mathlib.Core.List.{List}
use Prim.Native.Nat.{ℕ}
use lib.Dec.{eqb}
use lib.ListN.{get_or, set}
use Rattle.mucalculus.specs.Form.{Form, neg, bound, lacks, mentioned, reads, steady}
use Rattle.tokens.specs.declared.Leaf.{Leaf}
use Rattle.tokens.specs.declared.Leaf.TheVariants.{False, True, Now, Next, Var, Reg}
use Rattle.tokens.specs.declared.Join.TheVariants.{And, Or}
use Rattle.tokens.specs.declared.Mode.{Mode}
use Rattle.tokens.specs.declared.Mode.TheVariants as mode
use Rattle.tokens.specs.declared.Fix.{Fix}
use Rattle.tokens.specs.declared.Fix.TheVariants.{Mu, Nu}
use Rattle.tokens.specs.declared.Two.{Two}
use Rattle.tokens.specs.declared.Two.TheVariants.{Join as Joins, Until}
use Rattle.formula.specs.Parse.{leaf_form, two_form, modal_form, binder_form}
use Rattle.formula.specs.Checks.{filled, two_filled}

-- ---- bound

pub bound-neg : (s : List Bool) (f : Form) → bound s (neg f) ≡ bound s f
unfolding bound
bound-neg s f = refl

pub bound-join : (s : List Bool) (w : Two) (f g : Form) → bound s (two_form w f g) ≡ (bound s f && bound s g)
unfolding bound
bound-join s (Joins And) f g = refl
bound-join s (Joins Or) f g = refl
bound-join s (Until mode.All t) f g = refl
bound-join s (Until mode.Some t) f g = refl

pub bound-modal : (s : List Bool) (m : Mode) (t : ℕ) (f : Form) → bound s (modal_form m t f) ≡ bound s f
unfolding bound
bound-modal s mode.All t f = refl
bound-modal s mode.Some t f = refl

pub bound_binder : (s : List Bool) (x : Fix) (P : ℕ) (f : Form)
    → bound s (binder_form x P f) ≡ (not (get_or s P false) && bound (set s P true) f)
unfolding bound
bound_binder s Mu P f = refl
bound_binder s Nu P f = refl

-- ---- reads

pub reads_neg : (even : Bool) (p : ℕ) (f : Form) → reads even p (neg f) ≡ reads (not even) p f
unfolding reads
reads_neg even p f = refl

pub reads_join : (even : Bool) (p : ℕ) (w : Two) (f g : Form) → reads even p (two_form w f g) ≡ (reads even p f && reads even p g)
unfolding reads
reads_join even p (Joins And) f g = refl
reads_join even p (Joins Or) f g = refl
reads_join even p (Until mode.All t) f g = refl
reads_join even p (Until mode.Some t) f g = refl

pub reads_modal : (even : Bool) (p : ℕ) (m : Mode) (t : ℕ) (f : Form) → reads even p (modal_form m t f) ≡ reads even p f
unfolding reads
reads_modal even p mode.All t f = refl
reads_modal even p mode.Some t f = refl

pub reads_binder : (even : Bool) (p : ℕ) (x : Fix) (P : ℕ) (f : Form) → reads even p (binder_form x P f) ≡ reads even p f
unfolding reads
reads_binder even p Mu P f = refl
reads_binder even p Nu P f = refl

-- ---- steady

pub steady-neg : (f : Form) → steady (neg f) ≡ steady f
unfolding steady
steady-neg f = refl

pub steady-join : (w : Two) (f g : Form) → steady (two_form w f g) ≡ (steady f && steady g)
unfolding steady
steady-join (Joins And) f g = refl
steady-join (Joins Or) f g = refl
steady-join (Until mode.All t) f g = refl
steady-join (Until mode.Some t) f g = refl

pub steady-modal : (m : Mode) (t : ℕ) (f : Form) → steady (modal_form m t f) ≡ steady f
unfolding steady
steady-modal mode.All t f = refl
steady-modal mode.Some t f = refl

pub steady_binder : (x : Fix) (P : ℕ) (f : Form) → steady (binder_form x P f) ≡ (reads true P f && steady f)
unfolding steady
steady_binder Mu P f = refl
steady_binder Nu P f = refl

-- ---- lacks

pub lacks-neg : (p : ℕ) (f : Form) → lacks p (neg f) ≡ lacks p f
unfolding lacks
lacks-neg p f = refl

pub lacks-join : (p : ℕ) (w : Two) (f g : Form) → lacks p (two_form w f g) ≡ (lacks p f && lacks p g)
unfolding lacks
lacks-join p (Joins And) f g = refl
lacks-join p (Joins Or) f g = refl
lacks-join p (Until mode.All t) f g = refl
lacks-join p (Until mode.Some t) f g = refl

pub lacks-modal : (p : ℕ) (m : Mode) (t : ℕ) (f : Form) → lacks p (modal_form m t f) ≡ lacks p f
unfolding lacks
lacks-modal p mode.All t f = refl
lacks-modal p mode.Some t f = refl

pub lacks_binder : (p : ℕ) (x : Fix) (P : ℕ) (f : Form) → lacks p (binder_form x P f) ≡ (eqb P p || lacks p f)
unfolding lacks
lacks_binder p Mu P f = refl
lacks_binder p Nu P f = refl

-- ---- mentioned

pub mentioned-neg : (f : Form) → mentioned (neg f) ≡ mentioned f
unfolding mentioned
mentioned-neg f = refl

pub mentioned-join : (w : Two) (f g : Form) → mentioned (two_form w f g) ≡ (mentioned f && mentioned g)
unfolding mentioned
mentioned-join (Joins And) f g = refl
mentioned-join (Joins Or) f g = refl
mentioned-join (Until mode.All t) f g = refl
mentioned-join (Until mode.Some t) f g = refl

pub mentioned-modal : (m : Mode) (t : ℕ) (f : Form) → mentioned (modal_form m t f) ≡ mentioned f
unfolding mentioned
mentioned-modal mode.All t f = refl
mentioned-modal mode.Some t f = refl

pub mentioned_binder : (x : Fix) (P : ℕ) (f : Form) → mentioned (binder_form x P f) ≡ (not (lacks P f) && mentioned f)
unfolding mentioned
mentioned_binder Mu P f = refl
mentioned_binder Nu P f = refl

-- ---- filled

pub filled-neg : (regs rels : ℕ → Bool) (f : Form) → filled regs rels (neg f) ≡ filled regs rels f
unfolding filled
filled-neg regs rels f = refl

pub filled-join : (regs rels : ℕ → Bool) (w : Two) (f g : Form)
    → filled regs rels (two_form w f g) ≡ (two_filled rels w && (filled regs rels f && filled regs rels g))
unfolding filled
filled-join regs rels (Joins And) f g = refl
filled-join regs rels (Joins Or) f g = refl
filled-join regs rels (Until mode.All t) f g = refl
filled-join regs rels (Until mode.Some t) f g = refl

pub filled-modal : (regs rels : ℕ → Bool) (m : Mode) (t : ℕ) (f : Form)
    → filled regs rels (modal_form m t f) ≡ (rels t && filled regs rels f)
unfolding filled
filled-modal regs rels mode.All t f = refl
filled-modal regs rels mode.Some t f = refl

pub filled_binder : (regs rels : ℕ → Bool) (x : Fix) (P : ℕ) (f : Form) → filled regs rels (binder_form x P f) ≡ filled regs rels f
unfolding filled
filled_binder regs rels Mu P f = refl
filled_binder regs rels Nu P f = refl

-- an even reader takes every leaf, and a leaf has no binder
pub reads_leaf : (p : ℕ) (l : Leaf) → true ≡ reads true p (leaf_form l)
unfolding reads
reads_leaf p False = refl
reads_leaf p True = refl
reads_leaf p (Now q) = refl
reads_leaf p (Next q) = refl
reads_leaf p (Var q) = refl
reads_leaf p (Reg r) = refl

pub steady-leaf : (l : Leaf) → true ≡ steady (leaf_form l)
unfolding steady
steady-leaf False = refl
steady-leaf True = refl
steady-leaf (Now q) = refl
steady-leaf (Next q) = refl
steady-leaf (Var q) = refl
steady-leaf (Reg r) = refl
