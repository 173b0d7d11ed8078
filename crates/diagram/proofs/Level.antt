-- Laws of what specs/Level.antt defines. Assumes nothing.
use mathlib.Core.Path.{◌≡◌, refl, sym, ap, ◌∙◌, fun_ext}
use mathlib.Core.Logic.{◌≢◌, by_cases}
use mathlib.Core.Bool.{Bool, true, false, cond, not, true≢false}
use Prim.Native.Nat.{ℕ, suc, ◌≤◌, ◌<◌, max}
use native.Mathlib.Decide.{dec_lt}
use native.Mathlib.Omega.{arith}
use lib.Dec.{T, ltb, eqb, ltb→lt, lt→ltb, eqb→eq, eqb_refl}
use Rattle.diagram.specs.Level.{Val, Fn, upd, splice, turn, CofactorOf, PartOf, Varies}

-- The function that is f1 where level l is 1 and f0 where it is 0.
abbrev pub branch : ℕ → Fn → Fn → Fn
branch l f0 f1 v = cond (v l) (f1 v) (f0 v)

-- f reads no level but those from lo up to, and not with, hi.
abbrev pub Reads : ℕ → ℕ → Fn → Type 0
Reads lo hi f = (v w : Val) → ((l : ℕ) → lo ≤ l → l < hi → v l ≡ w l) → f v ≡ f w

-- F is F0 where level l is 0 and F1 where it is 1, and both read only greater levels.
pub record Splits (m l : ℕ) (F F0 F1 : Fn) : Type 0 where
  pub same : (v : Val) → F v ≡ branch l F0 F1 v
  pub reads0 : Reads (suc l) m F0
  pub reads1 : Reads (suc l) m F1

-- A test that passes is true, and one that cannot pass is false.
pub T_true : (b : Bool) → T b → b ≡ true
T_true true t = refl
T_true false t = absurd t

pub T_false : (b : Bool) → (T b → ⊥) → b ≡ false
T_false true h = absurd (h tt)
T_false false h = refl

pub upd_same : (v : Val) (l : ℕ) (b : Bool) → upd v l b l ≡ b
unfolding upd
upd_same v l b = rw (T_true (eqb l l) (eqb_refl l))

pub upd_other : (v : Val) (l : ℕ) (b : Bool) (k : ℕ) → k ≢ l → upd v l b k ≡ v k
unfolding upd
upd_other v l b k h = rw (T_false (eqb k l) (λ t. h (eqb→eq k l t)))

pub splice-below : (k : ℕ) (u v : Val) (l : ℕ) → l < k → splice k u v l ≡ u l
unfolding splice
splice-below k u v l h = rw (T_true (ltb l k) (lt→ltb l k h))

pub splice-above : (k : ℕ) (u v : Val) (l : ℕ) → k ≤ l → splice k u v l ≡ v l
unfolding splice
splice-above k u v l h = rw (T_false (ltb l k) (λ t. let q : l < k = ltb→lt l k t in omega arith))

-- To fix levels below k, and then more below k', is to fix those below the greater of the two.
pub splice-splice : (k k' : ℕ) (u u' v : Val) → splice k u (splice k' u' v) ≡ splice (max k k') (splice k u u') v
splice-splice k k' u u' v =
    fun_ext λ l.
    by_cases (dec_lt l k)
    (λ h. splice-below k u _ l h ∙ sym (splice-below (max k k') (splice k u u') v l (omega arith) ∙ splice-below k u u' l h))
    (λ h. splice-above k u _ l (omega arith) ∙ by_cases (dec_lt l k')
    (λ g. splice-below k' u' v l g ∙ sym (splice-below (max k k') (splice k u u') v l (omega arith) ∙ splice-above k u u' l (omega arith)))
    (λ g. splice-above k' u' v l (omega arith) ∙ sym (splice-above (max k k') (splice k u u') v l (omega arith))))

-- A function is a cofactor of itself, and a cofactor of a cofactor is one.
cofactor_refl : (f : Fn) → CofactorOf f f
cofactor_refl f = record { upto = 0; fixed = λ _. false; same = λ v. ap f (fun_ext λ l. sym (splice-above 0 _ v l (omega arith))) }

cofactor_trans : {f g h : Fn} → CofactorOf f g → CofactorOf g h → CofactorOf f h
cofactor_trans {f} p q = record {
  upto = max p.upto q.upto;
  fixed = splice p.upto p.fixed q.fixed;
  same = λ v. q.same v ∙ p.same _ ∙ ap f (splice-splice p.upto q.upto p.fixed q.fixed v);
}

-- To turn twice is to turn once, by the two bits; so turning twice by one bit changes nothing.
pub turn-turn : (b c x : Bool) → turn b (turn c x) ≡ turn (turn b c) x
turn-turn false c x = refl
turn-turn true false x = refl
turn-turn true true true = refl
turn-turn true true false = refl

pub turn-back : (b x : Bool) → turn b (turn b x) ≡ x
turn-back false x = refl
turn-back true true = refl
turn-back true false = refl

pub turn_inj : (b x y : Bool) → turn b x ≡ turn b y → x ≡ y
turn_inj b x y e = sym (turn-back b x) ∙ ap (turn b) e ∙ turn-back b y

-- What is turned is a part, if what was turned is.
cofactor-turn : {f g : Fn} (b : Bool) → CofactorOf f g → CofactorOf (λ v. turn b (f v)) (λ v. turn b (g v))
cofactor-turn b c = record { upto = c.upto; fixed = c.fixed; same = λ v. ap (turn b) (c.same v) }

-- A cofactor is one of each function with the same values.
cofactor-same : {f g h : Fn} → CofactorOf f g → ((v : Val) → h v ≡ g v) → CofactorOf f h
cofactor-same c e = record { upto = c.upto; fixed = c.fixed; same = λ v. e v ∙ c.same v }

pub part-cofactor : {f g : Fn} → CofactorOf f g → PartOf f g
part-cofactor c = record { turned = false; cofactor = c }

pub part_refl : (f : Fn) → PartOf f f
part_refl f = part-cofactor (cofactor_refl f)

pub part_trans : {f g h : Fn} → PartOf f g → PartOf g h → PartOf f h
part_trans {f} {g} {h} p q = record {
  turned = turn p.turned q.turned;
  cofactor =
      cofactor-same (cofactor_trans p.cofactor (cofactor-turn p.turned q.cofactor))
      (λ v. sym (turn-turn p.turned q.turned (h v)));
}

pub part_same : {f g h : Fn} → PartOf f g → ((v : Val) → h v ≡ g v) → PartOf f h
part_same p e = record { turned = p.turned; cofactor = cofactor-same p.cofactor (λ v. ap (turn p.turned) (e v)) }

-- A turned function has the parts of the function, and is one of them.
pub part_turned : {f g : Fn} (b : Bool) → ((v : Val) → g v ≡ turn b (f v)) → PartOf f g
part_turned {f} b e = record { turned = b; cofactor = cofactor-same (cofactor_refl f) (λ v. ap (turn b) (e v) ∙ turn-back b (f v)) }

pub part_of_turned : {f g : Fn} (b : Bool) → PartOf f g → PartOf (λ v. turn b (f v)) g
part_of_turned {f} b p = part_trans (part_turned b (λ v. sym (turn-back b (f v)))) p

-- What varies is no constant,
pub varies-not : {g : Fn} (c : Bool) → Varies g → ((v : Val) → g v ≡ c) → ⊥
varies-not c y h = true≢false (sym y.at_on ∙ h y.on ∙ sym (h y.off) ∙ y.at_off)

-- and varies turned.
pub varies-turn : {f : Fn} (b : Bool) → Varies f → Varies (λ v. turn b (f v))
varies-turn false y = record { off = y.off; on = y.on; at_off = y.at_off; at_on = y.at_on }
varies-turn true y = record { off = y.on; on = y.off; at_off = ap not y.at_on; at_on = ap not y.at_off }

module _ {m l : ℕ} {F F0 F1 : Fn} (s : Splits m l F F0 F1) where
  -- Both parts of a split are cofactors: what F is where level l is b, and reads only greater levels.
  splits_at : (b : Bool) (G : Fn) → Reads (suc l) m G → ((v : Val) → v l ≡ b → F v ≡ G v) → CofactorOf F G
  splits_at b G r e = record {
    upto = suc l;
    fixed = λ k. b;
    same = λ v. r v _ (λ k h _. sym (splice-above (suc l) (λ j. b) v k h)) ∙ sym (e _ (splice-below (suc l) (λ j. b) v l (omega arith)));
  }

  pub splits_low : CofactorOf F F0
  splits_low = splits_at false F0 s.reads0 (λ v e. s.same v ∙ ap (λ b. cond b (F1 v) (F0 v)) e)

  pub splits_high : CofactorOf F F1
  splits_high = splits_at true F1 s.reads1 (λ v e. s.same v ∙ ap (λ b. cond b (F1 v) (F0 v)) e)

  -- A turned function splits into the turned parts.
  pub splits_turn : (b : Bool) → Splits m l (λ v. turn b (F v)) (λ v. turn b (F0 v)) (λ v. turn b (F1 v))
  splits_turn b = record {
    same = λ v. ap (turn b) (s.same v) ∙ through (v l) (F1 v) (F0 v);
    reads0 = λ v w h. ap (turn b) (s.reads0 v w h);
    reads1 = λ v w h. ap (turn b) (s.reads1 v w h);
  }
    where
      through : (c x y : Bool) → turn b (cond c x y) ≡ cond c (turn b x) (turn b y)
      through true x y = refl
      through false x y = refl

-- What reads only levels from k on reads only those from a lesser level on.
pub reads_from : {k m : ℕ} {f : Fn} (j : ℕ) → j ≤ k → Reads k m f → Reads j m f
reads_from j jk r v w h = r v w (λ l a b. h l (omega arith) b)

-- What reads levels from k on keeps its value where a lower level is set.
pub upd_unread : {k m : ℕ} {f : Fn} (v : Val) (l : ℕ) (b : Bool) → Reads k m f → l < k → f (upd v l b) ≡ f v
upd_unread v l b r h = r _ _ (λ j g _. upd_other v l b j (omega arith))
