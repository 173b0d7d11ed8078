-- Laws of what specs/Keep.antt defines. Assumes nothing.
use mathlib.Core.Path.{◌≡◌, refl, sym, ap, ◌∙◌, fun_ext}
use mathlib.Core.List.Memᴰ.{head as here}
use mathlib.Core.List.Memᴰ.{tail as there}
use mathlib.Core.List.{List, [], ◌∷◌, map, Memᴰ as Mem}
use Prim.Native.Nat.{ℕ, zero, suc}
use Rattle.diagram.specs.Level.{Val, Fn, turn}
use Rattle.diagram.specs.Rows.{Rows, marked, target, Leads, Arrow, ArrowTo, den_to, den, WellFormed, Extends}
use Rattle.diagram.specs.Count.{Within}
use Rattle.diagram.proofs.Grow.{extends_refl}
use Rattle.diagram.specs.Post.{Denotes}
use Rattle.diagram.specs.Reach.{Reach, root, by-low, by_high}
use Rattle.diagram.proofs.Reach.{Reached, ReachedTo, reached_root, reached_low, reached_high, reach-used}
use Rattle.diagram.specs.Keep.{Keeps}

module _ {before after : Rows} {roots : List ℕ} (k : Keeps before after roots) where
  -- A reached arrow is an arrow still, and denotes what it did.
  keeps_to : (x : ℕ) → ReachedTo before roots x → ArrowTo after x
  keeps_to zero r = tt
  keeps_to (suc i) r = k.used i r

  pub keeps_reached : (a : ℕ) → Reached before roots a → Arrow after a
  keeps_reached a r = keeps_to (target a) r

  den_to_reached : (f x : ℕ) → ReachedTo before roots x → (v : Val) → den_to f after x v ≡ den_to f before x v
  unfolding den_to
  den_to_reached zero x r v = refl
  den_to_reached (suc f) zero r v = refl
  den_to_reached (suc f) (suc i) r v =
      let eh = den_to_reached f (target (before.high i)) (reached_high before roots r (before.high i) refl) v in
      let el = den_to_reached f (target (before.low i)) (reached_low before roots r (before.low i) refl) v in
      cc (eh, el, k.level i r, k.low i r, k.high i r)

  den_reached : (f a : ℕ) → Reached before roots a → (v : Val) → den f after a v ≡ den f before a v
  unfolding den
  den_reached f a r v = ap (turn (marked a)) (den_to_reached f (target a) r v)

  -- So is each root, and denotes what it did.
  pub keeps_arrow : (a : ℕ) → Mem a roots → Arrow after a
  keeps_arrow a h = keeps_reached a (reached_root before roots a h)

  pub keeps_den : (m a : ℕ) → Mem a roots → (v : Val) → den m after a v ≡ den m before a v
  keeps_den m a h v = den_reached m a (reached_root before roots a h) v

  pub keeps_denotes : {m a : ℕ} {F : Fn} → Mem a roots → Denotes m before a F → Denotes m after a F
  keeps_denotes {m} {a} h d = record { arrow = keeps_arrow a h; same = λ v. keeps_den m a h v ∙ d.same v }

  -- So the roots' list of functions is the same.
  pub keeps_map : (m : ℕ) → map (den m after) roots ≡ map (den m before) roots
  keeps_map m = go roots (λ a h. h)
    where
      go : (few : List ℕ) → Within few roots → map (den m after) few ≡ map (den m before) few
      go [] w = refl
      go (a ∷ few) w =
          let e : den m after a ≡ den m before a = fun_ext (keeps_den m a (w a (here refl))) in
          let r = go few (λ b h. w b (there h)) in
          cc (e, r)

  -- The roots reach what they did, and nothing else.
  pub keeps_reach : {i : ℕ} → Reach before roots i → Reach after roots i
  keeps_reach (root h e) = root h e
  keeps_reach (by-low {i = i} r e) = by-low (keeps_reach r) (ap target (k.low i r) ∙ e)
  keeps_reach (by_high {i = i} r e) = by_high (keeps_reach r) (ap target (k.high i r) ∙ e)

  pub keeps_reach_back : {i : ℕ} → Reach after roots i → Reach before roots i
  keeps_reach_back (root h e) = root h e
  keeps_reach_back (by-low {i = i} r e) = let s = keeps_reach_back r in by-low s (ap target (sym (k.low i s)) ∙ e)
  keeps_reach_back (by_high {i = i} r e) = let s = keeps_reach_back r in by_high s (ap target (sym (k.high i s)) ∙ e)

-- What is kept twice is kept.
pub keeps_trans : {a b c : Rows} {roots : List ℕ} → Keeps a b roots → Keeps b c roots → Keeps a c roots
keeps_trans p q = record {
  used = λ i r. q.used i (keeps_reach p r);
  level = λ i r. q.level i (keeps_reach p r) ∙ p.level i r;
  low = λ i r. q.low i (keeps_reach p r) ∙ p.low i r;
  high = λ i r. q.high i (keeps_reach p r) ∙ p.high i r;
}

-- Fewer roots reach less; only roots that are arrows to rows count.
pub reach-within : {rows : Rows} {few roots : List ℕ} → ((a j : ℕ) → Leads a j → Mem a few → Mem a roots) → {i : ℕ} → Reach rows few i
    → Reach rows roots i
reach-within w (root {a = a} {i = i} h e) = root (w a i e h) e
reach-within w (by-low r e) = by-low (reach-within w r) e
reach-within w (by_high r e) = by_high (reach-within w r) e

pub keeps_within : {before after : Rows} {few roots : List ℕ} → Within few roots → Keeps before after roots → Keeps before after few
keeps_within w k = record {
  used = λ i r. k.used i (reach-within (λ a j e. w a) r);
  level = λ i r. k.level i (reach-within (λ a j e. w a) r);
  low = λ i r. k.low i (reach-within (λ a j e. w a) r);
  high = λ i r. k.high i (reach-within (λ a j e. w a) r);
}

-- What is kept, and then kept with one root more.
pub keeps_on : {a b c : Rows} {roots : List ℕ} {x : ℕ} → Keeps a b roots → Keeps b c (x ∷ roots) → Keeps a c roots
keeps_on p q = keeps_trans p (keeps_within (λ i h. there h) q)

-- A larger table keeps what roots that are arrows reach.
pub extends_keeps : {m N : ℕ} {before after : Rows} {roots : List ℕ} → WellFormed m N before → ((a : ℕ) → Mem a roots → Arrow before a)
    → Extends before after → Keeps before after roots
extends_keeps wf arrows e = record {
  used = λ i r. e.used i (reach-used wf arrows r);
  level = λ i r. e.level i (reach-used wf arrows r);
  low = λ i r. e.low i (reach-used wf arrows r);
  high = λ i r. e.high i (reach-used wf arrows r);
}

-- A table keeps what it has.
pub keeps_refl : {m N : ℕ} {rows : Rows} {roots : List ℕ} → WellFormed m N rows → ((a : ℕ) → Mem a roots → Arrow rows a)
    → Keeps rows rows roots
keeps_refl {rows = rows} wf arrows = extends_keeps wf arrows (extends_refl rows)
