-- Formulas of the mu-calculus as trees, what they are read over, and the conditions that checks 4, 5, 12 and 6 put on a tree.
-- Assumes nothing.
use Rattle.std.specs.Prelude.{Bool, true, false, not, ◌&&◌, ◌||◌, cond, List, [], ℕ, eqb, get_or, set, replicate}
use Rattle.std.proofs.Math.Option.{Option, none, some}

-- a formula; the comment gives its bytes
pub data Form : Type 0 where
  bot top : Form  -- 00, 01
  neg : Form → Form  -- 02 f
  conj disj : Form → Form → Form  -- 03 f g, 04 f g
  now next : ℕ → Form  -- 10 + p, 20 + p: current bit p, next bit p
  var reg : ℕ → Form  -- 30 + P, 40 + r: variable P, register r
  box dia : ℕ → Form → Form  -- 60 + t f, 68 + t f: over relation t
  mu nu : ℕ → Form → Form  -- 70 + P f, 80 + P f: variable P bound in f
  until : Bool → ℕ → Form → Form → Form  -- 90 + t f g with `true`, 98 + t f g with `false`: on some, on every run of relation t, f until g

-- a set of pairs: place s of the list holds the set of the next states of s
abbrev pub Pairs : Type 0
Pairs = List (List Bool)

-- what a formula is read over: n state bits, V, "the set V of states that exist", and relations and registers, each empty or filled
pub record Model : Type 0 where
  pub n : ℕ
  pub valid : List Bool
  pub rel : ℕ → Option Pairs
  pub reg : ℕ → Option (List Bool)

-- a set for each variable
abbrev pub Env : Type 0
Env = ℕ → List Bool

-- no variable has a member
abbrev pub no_env : Env
no_env P = []

-- h with the value x at P
abbrev pub put : {X : Type 0} → (ℕ → X) → ℕ → X → ℕ → X
put h P x Q = cond (eqb Q P) x (h Q)

-- what is in a register or relation; an empty one is read as no member
abbrev pub inside : {X : Type 0} → Option (List X) → List X
inside none = []
inside (some l) = l

-- a register or relation has a content
abbrev pub filled : {X : Type 0} → Option X → Bool
filled none = false
filled (some x) = true

-- ---- conditions on a tree

-- check 5, "variable unbound, or bound inside itself": each variable stands below a binder of it, and no binder below a binder of its
-- variable; `scope` says which variables are open
unfoldable pub bound : List Bool → Form → Bool
bound scope bot = true
bound scope top = true
bound scope (neg f) = bound scope f
bound scope (conj f g) = bound scope f && bound scope g
bound scope (disj f g) = bound scope f && bound scope g
bound scope (now p) = true
bound scope (next p) = true
bound scope (var P) = get_or scope P false
bound scope (reg r) = true
bound scope (box t f) = bound scope f
bound scope (dia t f) = bound scope f
bound scope (mu P f) = not (get_or scope P false) && bound (set scope P true) f
bound scope (nu P f) = not (get_or scope P false) && bound (set scope P true) f
bound scope (until b t f g) = bound scope f && bound scope g

-- no variable is open: the 16 variables at a formula's start
abbrev pub none_open : List Bool
none_open = replicate 16 false

-- P "occurs nowhere free in" f
unfoldable pub lacks : ℕ → Form → Bool
lacks P bot = true
lacks P top = true
lacks P (neg f) = lacks P f
lacks P (conj f g) = lacks P f && lacks P g
lacks P (disj f g) = lacks P f && lacks P g
lacks P (now p) = true
lacks P (next p) = true
lacks P (var Q) = not (eqb Q P)
lacks P (reg r) = true
lacks P (box t f) = lacks P f
lacks P (dia t f) = lacks P f
lacks P (mu Q f) = eqb Q P || lacks P f
lacks P (nu Q f) = eqb Q P || lacks P f
lacks P (until b t f g) = lacks P f && lacks P g

-- check 12, "a binder's variable occurs nowhere free in its body": of no binder (the X of until is its own, and no binder of the bytes)
unfoldable pub mentioned : Form → Bool
mentioned bot = true
mentioned top = true
mentioned (neg f) = mentioned f
mentioned (conj f g) = mentioned f && mentioned g
mentioned (disj f g) = mentioned f && mentioned g
mentioned (now p) = true
mentioned (next p) = true
mentioned (var P) = true
mentioned (reg r) = true
mentioned (box t f) = mentioned f
mentioned (dia t f) = mentioned f
mentioned (mu P f) = not (lacks P f) && mentioned f
mentioned (nu P f) = not (lacks P f) && mentioned f
mentioned (until b t f g) = mentioned f && mentioned g

-- "each NOT turns an even reading odd and an odd one even": no P is read odd, where the reading begins even or not
unfoldable pub reads : Bool → ℕ → Form → Bool
reads even P bot = true
reads even P top = true
reads even P (neg f) = reads (not even) P f
reads even P (conj f g) = reads even P f && reads even P g
reads even P (disj f g) = reads even P f && reads even P g
reads even P (now p) = true
reads even P (next p) = true
reads even P (var Q) = even || not (eqb Q P)
reads even P (reg r) = true
reads even P (box t f) = reads even P f
reads even P (dia t f) = reads even P f
reads even P (mu Q f) = reads even P f
reads even P (nu Q f) = reads even P f
reads even P (until b t f g) = reads even P f && reads even P g

-- check 6, "Polarity: below its binder P is read even"
unfoldable pub steady : Form → Bool
steady bot = true
steady top = true
steady (neg f) = steady f
steady (conj f g) = steady f && steady g
steady (disj f g) = steady f && steady g
steady (now p) = true
steady (next p) = true
steady (var P) = true
steady (reg r) = true
steady (box t f) = steady f
steady (dia t f) = steady f
steady (mu P f) = reads true P f && steady f
steady (nu P f) = reads true P f && steady f
steady (until b t f g) = steady f && steady g
