-- Laws of what specs/OneFare.antt defines. Assumes nothing.
use mathlib.Core.Path.{◌≡◌, refl, sym, ap, ap₂, ◌∙◌, subst}
use mathlib.Core.Logic.{◌≢◌, inl, inr}
use mathlib.Core.Bool.{Bool}
use mathlib.Core.List.{List, [], ◌∷◌, map, List-discrete}
use mathlib.Core.Option.{Option, none, some}
use Prim.Native.Nat.{ℕ, zero, suc, ◌-◌, ◌^◌, ◌≤◌, ◌<◌}
use native.Mathlib.Nat.{lt_of_not-le}
use native.Mathlib.Decide.{ℕ_discrete, dec_le}
use native.Mathlib.Omega.{arith}
use lib.ListN.{length, drop, length-map}
use Rattle.book.specs.Book.{Book, registers}
use Rattle.book.specs.BookOf.{book_of}
use Rattle.contract.specs.Seen.{seen, SoundWords}
use Rattle.paths.specs.Runs.{written}
use Rattle.coins.specs.Runs.{Transitions, PricedStep, total, states_along, relations_along, coins}
use Rattle.coins.proofs.Cost.{same_total, same_length}
use Rattle.coins.specs.Post.{FareReply, fare_refused, FareTold, told_none, told-short, told-run, BothThere, FareBy, FarePost}
use Rattle.coins.specs.OneFare.{OneFare}

-- a list with a run at its first places: its length and the places past the run
written-size : (l m : List ℕ) → length (written l m) ≡ length m
written-size [] m = refl
written-size (x ∷ l) [] = refl
written-size (x ∷ l) (y ∷ m) = ap suc (written-size l m)

written-past : (k : ℕ) (l m : List ℕ) → length l ≤ k → drop k (written l m) ≡ drop k m
written-past k [] m h = refl
written-past zero (x ∷ l) m h = absurd (omega arith)
written-past (suc k) (x ∷ l) [] h = refl
written-past (suc k) (x ∷ l) (y ∷ m) h = written-past k l m (omega arith)

module _ {k : ℕ} {leads : Transitions} {A B : ℕ → Bool} {prices states relations : List ℕ} where
  -- which of 10, 11 and an answer it is does not depend on the run, nor do total, charge and number of states
  pub told-one : {s t q r : List ℕ} {y z : FareReply} → FareTold k leads A B prices states s relations q y
      → FareTold k leads A B prices states t relations r z → y ≡ z
  told-one (told_none n) (told_none m) = refl
  told-one (told_none n) (told-short s l c o) = absurd (n s l c.run)
  told-one (told_none n) (told-run s l c o w) = absurd (n s l c.run)
  told-one (told-short s l c o) (told_none n) = absurd (n s l c.run)
  told-one (told-short s l c o) (told-short t m d p) = refl
  told-one (told-short s l c o) (told-run t m d p w) = absurd (o (record {
    for_states = let e = same_length c d in let h = p.for_states in omega arith;
    for_steps = let e = same_length c d in let h = p.for_steps in omega arith;
  }))
  told-one (told-run s l c o w) (told_none n) = absurd (n s l c.run)
  told-one (told-run s l c o w) (told-short t m d p) = absurd (p (record {
    for_states = let e = same_length c d in let h = o.for_states in omega arith;
    for_steps = let e = same_length c d in let h = o.for_steps in omega arith;
  }))
  told-one (told-run s l c o w) (told-run t m d p v) =
      ap₂ (λ (x n : ℕ). record { number = 0; total = x; charge = coins x; states = suc n }) (same_total c d) (same_length c d)

  -- the lists after it: lengths, and the places past the run, where the number is 0
  pub told-size : {s q : List ℕ} {y : FareReply} → FareTold k leads A B prices states s relations q y → y.number ≡ 0
      → (length s ≡ length states) × (length q ≡ length relations) × (drop y.states s ≡ drop y.states states)
      × (drop (y.states - 1) q ≡ drop (y.states - 1) relations)
  told-size (told_none n) e = absurd (omega (arith, e))
  told-size (told-short s l c o) e = absurd (omega (arith, e))
  told-size (told-run s l c o w) e =
      let n : length (map (λ (p : PricedStep). p.state) l) ≡ length l = length-map l (λ p. p.state) in
      let h : length (relations_along l) ≡ length l = length-map l (λ p. p.relation) in (
        ap length w.of_states ∙ written-size (states_along s l) states,
        ap length w.of_steps ∙ written-size (relations_along l) relations,
        ap (drop (suc (length l))) w.of_states ∙ written-past (suc (length l)) (states_along s l) states (omega arith),
        ap (drop (suc (length l) - 1)) w.of_steps ∙ written-past (suc (length l) - 1) (relations_along l) relations (omega arith),
      )

same-reply : {y z : FareReply} → y.number ≡ z.number → y.total ≡ z.total → y.charge ≡ z.charge → y.states ≡ z.states → y ≡ z
same-reply a b c d = λ i. record { number = a i; total = b i; charge = c i; states = d i }

-- two replies and the ends of the lists, each refusal of which keeps both lists
module _ {states relations s t q r : List ℕ} {y z : FareReply} (f : y.number ≢ 0 → (s ≡ states) × (q ≡ relations))
    (g : z.number ≢ 0 → (t ≡ states) × (r ≡ relations)) where
  -- one reply, which is a refusal: both lists are kept
  kept-one : y ≡ z → y.number ≢ 0 → OneFare s t q r y z
  kept-one e n =
      let x = f n in
      let u = g (λ h. n (ap (λ (c : FareReply). c.number) e ∙ h)) in
      let first = x.0 ∙ sym u.0 in
      let second = x.1 ∙ sym u.1 in
      record {
        reply = e;
        states-size = ap length first;
        relations-size = ap length second;
        states-past = ap (drop y.states) first;
        relations-past = ap (drop (y.states - 1)) second;
        refusal = λ _. (first, second);
      }

  pub refused-one : (k : ℕ) → y ≡ fare_refused (suc k) → z ≡ fare_refused (suc k) → OneFare s t q r y z
  refused-one k e h = kept-one (e ∙ sym h) (λ n. let x : y.number ≡ suc k = ap (λ (c : FareReply). c.number) e in omega arith)

  -- answered, or refused with 10 or 11
  told_fare : {k : ℕ} {leads : Transitions} {A B : ℕ → Bool} {prices : List ℕ} → FareTold k leads A B prices states s relations q y
      → FareTold k leads A B prices states t relations r z → OneFare s t q r y z
  told_fare m n = go (ℕ_discrete y.number 0)
    where
      e : y ≡ z
      e = told-one m n

      go : Dec (y.number ≡ 0) → OneFare s t q r y z
      go (no d) = kept-one e d
      go (yes h) =
          let x = told-size m h in
          let u = told-size n (sym (ap (λ (c : FareReply). c.number) e) ∙ h) in
          let c : y.states ≡ z.states = ap (λ (c : FareReply). c.states) e in
          record {
            reply = e;
            states-size = x.0 ∙ sym u.0;
            relations-size = x.1 ∙ sym u.1;
            states-past = x.2 ∙ sym (subst (λ (i : ℕ). drop i t ≡ drop i states) (sym c) u.2);
            relations-past = x.3 ∙ sym (subst (λ (i : ℕ). drop (i - 1) r ≡ drop (i - 1) relations) (sym c) u.3);
            refusal = λ d. absurd (d h);
          }

  -- by one book
  pub by_one : (c : Book) (a b : ℕ) {prices work : List ℕ} → FareBy c a b prices work states s relations q y
      → FareBy c a b prices work states t relations r z → OneFare s t q r y z
  by_one c a b {work = work} i j = lent (dec_le (2 ^ c.n) (length work))
    where
      second : 2 ^ c.n ≤ length work → BothThere a b → (A : List Bool) → c.reg a ≡ some A → (x : Option (List Bool)) → c.reg b ≡ x
          → OneFare s t q r y z
      second h l A p none u = refused-one 6 (i.empty h l (inr u)) (j.empty h l (inr u))
      second h l A p (some B) u = told_fare (i.told h l A B p u) (j.told h l A B p u)

      first : 2 ^ c.n ≤ length work → BothThere a b → (x : Option (List Bool)) → c.reg a ≡ x → OneFare s t q r y z
      first h l none p = refused-one 6 (i.empty h l (inl p)) (j.empty h l (inl p))
      first h l (some A) p = second h l A p (c.reg b) refl

      range : 2 ^ c.n ≤ length work → Dec (suc a ≤ registers) → Dec (suc b ≤ registers) → OneFare s t q r y z
      range h (yes k) (yes l) = first h (record { first = k; second = l }) (c.reg a) refl
      range h (no k) l = refused-one 2 (i.range h (λ o. k o.first)) (j.range h (λ o. k o.first))
      range h (yes k) (no l) = refused-one 2 (i.range h (λ o. l o.second)) (j.range h (λ o. l o.second))

      lent : Dec (2 ^ c.n ≤ length work) → OneFare s t q r y z
      lent (no h) = let l : length work < 2 ^ c.n = lt_of_not-le h in refused-one 0 (i.work_fits l) (j.work_fits l)
      lent (yes h) = range h (dec_le (suc a) registers) (dec_le (suc b) registers)

module _ {a b : ℕ} {words prices work : List ℕ} {states relations : List ℕ} {v w s t q r : List ℕ} {y z : FareReply}
    (f : FarePost a b words prices work v states s relations q y) (g : FarePost a b words prices work w states t relations r z) where
  sound-one : length prices ≡ 8 → SoundWords words → OneFare s t q r y z
  sound-one e o = by_one f.kept g.kept (book_of (seen words)) a b (f.by-book e o) (g.by-book e o)

  -- whether the words are sound is not decided
  not-two : (OneFare s t q r y z → ⊥) → ⊥
  not-two n = go (ℕ_discrete (length prices) 8)
    where
      go : Dec (length prices ≡ 8) → ⊥
      go (no d) = n (refused-one f.kept g.kept 0 (f.prices_fit d) (g.prices_fit d))
      go (yes e) =
          let sound : SoundWords words → ⊥ = λ o. n (sound-one e o) in
          n (refused-one f.kept g.kept 1 (f.unsound e sound) (g.unsound e sound))

  -- what can be told apart agrees
  agree : {X : Type 0} → Dec X → (OneFare s t q r y z → X) → X
  agree (yes e) h = e
  agree (no d) h = absurd (not-two (λ e. d (h e)))

  lists_agree : (l m : List ℕ) → (OneFare s t q r y z → l ≡ m) → l ≡ m
  lists_agree l m h = agree (List-discrete ℕ_discrete l m) h

  pub coins-one : OneFare s t q r y z
  coins-one = record {
    reply = same-reply {y = y} {z = z} (same (λ x. x.number)) (same (λ x. x.total)) (same (λ x. x.charge)) (same (λ x. x.states));
    states-size = agree (ℕ_discrete (length s) (length t)) (λ o. o.states-size);
    relations-size = agree (ℕ_discrete (length q) (length r)) (λ o. o.relations-size);
    states-past = lists_agree (drop y.states s) (drop y.states t) (λ o. o.states-past);
    relations-past = lists_agree (drop (y.states - 1) q) (drop (y.states - 1) r) (λ o. o.relations-past);
    refusal = λ n. (lists_agree s t (λ o. (o.refusal n).0), lists_agree q r (λ o. (o.refusal n).1));
  }
    where
      same : (h : FareReply → ℕ) → h y ≡ h z
      same h = agree (ℕ_discrete (h y) (h z)) (λ o. ap h o.reply)
