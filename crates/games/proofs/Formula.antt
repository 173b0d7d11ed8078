-- The game's formula: its bytes are read as it, it passes checks 4, 5, 12 and 6, and its meaning is the set of the game. Assumes nothing.
use mathlib.Core.Path.{◌≡◌, refl, ap, ap₂, ◌∙◌}
use mathlib.Core.Bool.{Bool, true, false, not, ◌&&◌, ◌||◌}
use mathlib.Core.List.{List, []}
use Prim.Native.Nat.{ℕ, ◌<◌}
use native.Mathlib.Omega.{arith}
use lib.Dec.{T, ltb, lt→ltb}
use lib.ListN.{set}
use Rattle.mucalculus.specs.Sets.{mem, table, all_states, all, any}
use Rattle.mucalculus.proofs.Sets.{true_of, mem-all_states}
use Rattle.mucalculus.specs.Order.{Below}
use Rattle.mucalculus.specs.Form.{Pairs, Model, Env, put, inside, bound, none_open}
use Rattle.mucalculus.specs.Form.{mentioned, lacks, steady, reads}
use Rattle.mucalculus.proofs.Form.{depth}
use Rattle.mucalculus.specs.Means.{pair, inter, union, always, sometimes, size, exist, related, means}
use Rattle.mucalculus.specs.Exist.{Inside}
use Rattle.mucalculus.proofs.Exist.{inter-agrees, related-inside, related_same, sometimes-same, further_in, sometimes-pairs, always-pairs}
use Rattle.mucalculus.proofs.Until.{over-same}
use Rattle.mucalculus.proofs.Laws.{get_or-table, table_ext, table_out}
use Rattle.tokens.specs.declared.Grammar.TheVariants.{States, Runs}
use Rattle.tokens.specs.declared.Kind.TheVariants.{Set}
use Rattle.formula.specs.Parse.{got, parse, formula_of}
use Rattle.formula.proofs.Bytes.{bytes_of, takes, Framing}
use Rattle.formula.proofs.Accepted.{accepted_of}
use Rattle.formula.proofs.Written.{tree, written_read}
use Rattle.games.specs.Game.{has_move, has_answer, forcing}
use Rattle.games.specs.Call.{body_form, game_form, game_bytes}

module _ (goal guest machine : ℕ) (n : ℕ) (g-in : goal < 32) (p-in : guest < 8) (m-in : machine < 8) where
  body-takes : takes n Runs (body_form goal guest machine) ≡ true
  unfolding takes
  body-takes = rw (
    true_of (ltb goal 32) (lt→ltb goal 32 g-in),
    true_of (ltb guest 8) (lt→ltb guest 8 p-in),
    true_of (ltb machine 8)
        (lt→ltb machine 8 m-in),
  ) refl

  -- the body stands at place 4
  pub body-read : parse n Runs 63 (game_bytes goal guest machine) 4 ≡ got (body_form goal guest machine) 12
  unfolding bytes_of depth
  body-read =
      written_read n Runs (game_bytes goal guest machine) (tree (body_form goal guest machine)) 63 4 [] (omega arith) body-takes refl

  whole_takes : takes n States (game_form goal guest machine) ≡ true
  unfolding takes
  whole_takes = rw (
    true_of (ltb goal 32) (lt→ltb goal 32 g-in),
    true_of (ltb guest 8) (lt→ltb guest 8 p-in),
    true_of (ltb machine 8)
        (lt→ltb machine 8 m-in),
  ) refl

  framing : Framing Set n (game_bytes goal guest machine) (game_form goal guest machine)
  unfolding bytes_of depth
  framing = record {
    version = 1;
    grammar = States;
    known = refl;
    is = refl;
    deep = omega arith;
    taken = whole_takes;
    short = omega arith;
  }

  -- the bytes are read as the formula
  pub game_read : formula_of Set n (game_bytes goal guest machine) ≡ got (game_form goal guest machine) 12
  game_read = accepted_of Set n (game_bytes goal guest machine) (game_form goal guest machine) framing

-- checks 5, 12 and 6 pass
pub body-bound : (goal guest machine : ℕ) → bound (set none_open 0 true) (body_form goal guest machine) ≡ true
unfolding bound
body-bound goal guest machine = refl

pub game_bound : (goal guest machine : ℕ) → bound none_open (game_form goal guest machine) ≡ true
unfolding bound
game_bound goal guest machine = refl

pub game_mentioned : (goal guest machine : ℕ) → mentioned (game_form goal guest machine) ≡ true
unfolding mentioned lacks
game_mentioned goal guest machine = refl

pub game_steady : (goal guest machine : ℕ) → steady (game_form goal guest machine) ≡ true
unfolding steady reads
game_steady goal guest machine = refl

pub body-steady : (goal guest machine : ℕ) → T (steady (body_form goal guest machine))
unfolding steady
body-steady goal guest machine = tt

-- ---- the meaning

and_both : (a c : Bool) → (a && c) ≡ (c && a)
and_both true true = refl
and_both true false = refl
and_both false true = refl
and_both false false = refl

module _ (m : Model) (goal guest machine : ℕ) (in-goal : Below (inside (m.reg goal)) (exist m))
    (in-guest : Inside (size m) (exist m) (inside (m.rel guest))) (in-machine : Inside (size m) (exist m) (inside
    (m.rel machine))) where
  abbrev k : ℕ
  k = size m

  abbrev E : List Bool
  E = exist m

  abbrev G : Pairs
  G = inside (m.rel guest)

  abbrev M : Pairs
  M = inside (m.rel machine)

  abbrev B : List Bool
  B = inside (m.reg goal)

  -- a machine's move into A
  answers_mean : (A : List Bool) → sometimes k (related m machine) (inter k A E) ≡ sometimes k M A
  answers_mean A =
      sometimes-same k E (related m machine) (related-inside m machine) (inter k A E) A (inter-agrees k E A)
      ∙ sometimes-pairs k (related m machine) M (related_same m machine in-machine) A

  -- every press, and some press
  presses_mean : (D : List Bool) → inter k (inter k (always k (related m guest) D) E) (sometimes k (related m guest) E)
      ≡ inter k (always k G D) (sometimes k G (all_states k))
  presses_mean D =
      further_in k E (related m guest) (related-inside m guest) D
      ∙ ap₂ (inter k) (always-pairs k (related m guest) G (related_same m guest in-guest) D)
      (sometimes-pairs k (related m guest) G (related_same m guest in-guest) (all_states k))

  -- a round of the formula is a round of the game
  pub body-means : (e : Env) (A : List Bool) → means m (put e 0 A) (body_form goal guest machine) ≡ forcing k G M B A
  body-means e A =
      ap (λ (D : List Bool). union k (inter k B E) (inter k (inter k (always k (related m guest) D) E) (sometimes k (related m guest) E)))
      (answers_mean A)
      ∙ ap (union k (inter k B E)) (presses_mean (sometimes k M A))
      ∙ table_ext k _ _ (λ s l. ap₂ ◌||◌ (goal_mean s l) (second s l))
    where
      goal_mean : (s : ℕ) → s < k → mem (inter k B E) s ≡ mem B s
      goal_mean s l = get_or-table k (λ s. mem B s && mem E s) s false l ∙ go (mem B s) (mem E s) (in-goal s)
        where
          go : (a c : Bool) → (T a → T c) → (a && c) ≡ a
          go true true h = refl
          go true false h = absurd (h tt)
          go false c h = refl

      second : (s : ℕ) → s < k → mem (inter k (always k G (sometimes k M A)) (sometimes k G (all_states k))) s
          ≡ (has_move k G s && all (λ t. not (pair G s t) || has_answer k M A t) (table k (λ t. t)))
      second s l =
          get_or-table k (λ s. mem (always k G (sometimes k M A)) s && mem (sometimes k G (all_states k)) s) s false l
          ∙ and_both (mem (always k G (sometimes k M A)) s) (mem (sometimes k G (all_states k)) s)
          ∙ ap₂ ◌&&◌ moves_mean every_mean
        where
          moves_mean : mem (sometimes k G (all_states k)) s ≡ has_move k G s
          moves_mean =
              get_or-table k (λ s. any (λ t. pair G s t && mem (all_states k) t) (table k (λ t. t))) s false l
              ∙ over-same true (λ t. pair G s t && mem (all_states k) t) (λ t. pair G s t) (table k (λ t. t))
              (table_out k (λ t. t) (λ t. (pair G s t && mem (all_states k) t) ≡ pair G s t)
              (λ t i. ap (λ (c : Bool). pair G s t && c) (true_of (mem (all_states k) t) (mem-all_states k t i)) ∙ and-true (pair G s t)))
            where
              and-true : (a : Bool) → (a && true) ≡ a
              and-true true = refl
              and-true false = refl

          every_mean : mem (always k G (sometimes k M A)) s ≡ all (λ t. not (pair G s t) || has_answer k M A t) (table k (λ t. t))
          every_mean =
              get_or-table k (λ s. all (λ t. not (pair G s t) || mem (sometimes k M A) t) (table k (λ t. t))) s false l
              ∙ over-same false (λ t. not (pair G s t) || mem (sometimes k M A) t) (λ t. not (pair G s t) || has_answer k M A t)
              (table k (λ t. t))
              (table_out k (λ t. t) (λ t. (not (pair G s t) || mem (sometimes k M A) t) ≡ (not (pair G s t) || has_answer k M A t))
              (λ t i. ap (λ (c : Bool). not (pair G s t) || c)
              (get_or-table k (λ t. any (λ u. pair M t u && mem A u) (table k (λ u. u))) t false i)))
