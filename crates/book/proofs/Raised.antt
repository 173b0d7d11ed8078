-- Laws of what specs/Raised.antt defines. Assumes nothing.
use mathlib.Core.Path.{◌≡◌, refl, sym, ap, ◌∙◌, subst}
use mathlib.Core.Bool.{Bool, true, false, cond, ◌&&◌}
use mathlib.Core.List.{List, [], ◌∷◌, ◌++◌}
use mathlib.Core.Option.{Option, none, some}
use Prim.Native.Nat.{ℕ, zero, suc, ◌+◌, ◌*◌, ◌≤◌, ◌<◌}
use native.Mathlib.Omega.{arith}
use lib.Dec.{T, leb, leb→le, le→leb, ltb, eqb}
use Rattle.mucalculus.proofs.Sets.{and_in, and_out, true_of}
use Rattle.mucalculus.specs.Form.{no_env, filled}
use Rattle.mucalculus.specs.Means.{means}
use Rattle.tokens.specs.declared.Kind.TheVariants.{Relation, Set, Valid}
use Rattle.accounts.specs.declared.Terms.{Terms}
use Rattle.accounts.specs.declared.Account.{Account}
use Rattle.accounts.specs.Account.{list_fits}
use Rattle.accounts.specs.Terms.{terms_of, lent, named, rows_under, rounds_under}
use Rattle.accounts.specs.declared.Count.{Count}
use Rattle.accounts.specs.Count.{nothing}
use Rattle.book.specs.Ticks.{ticks, relation_ticks, Verdict, counted, full, spent}
use Rattle.book.specs.Over.{states, pairs}
use Rattle.book.proofs.Larger.{verdict-more}
use Rattle.book.specs.Book.{formula_in, Book, fresh, fresh_fits, fresh_number, Call, relation, set, valid, clear, collect, Question}
use Rattle.book.specs.Book.{node, member, count, Answer, registers, relations, model_of, live_of, unfilled, checks, Done, refuse, ended}
use Rattle.book.specs.Book.{relation_done, set_done, valid_done, relation_steps, set_steps, valid_steps, passing, does, play, answer}
use Rattle.book.proofs.Stored.{none-some, range_cases, set_cases, relation_cases, valid_cases}
use Rattle.book.proofs.Leaves.{shows-filled}
use Rattle.book.specs.Table.{Table, Reply, SettledTo, Agrees}
use Rattle.book.specs.BookOf.{book_of}
use Rattle.book.specs.Contract.{Implements}
use Rattle.book.specs.Demand.{Event, calls, book_after, Trace, stop, go, pause, Session, AllAgree, Demand}
use Rattle.book.proofs.Demand.{third_demand}
use Rattle.book.specs.Tallies.{spent_at, rounds_at}
use Rattle.book.specs.Raised.{Eased, SameCall, same_relation, same_set, same-valid, same-clear, same-collect, AllRaised, with_row_count}
use Rattle.book.specs.Raised.{AllZero, SameReply, AllSame, Upgrade, SameVerdicts, Cut, Looser}

-- ---- raised limits

-- all are answered
abbrev pub AllAnswered : List Answer → Type 0
AllAnswered [] = Unit {0}
AllAnswered (a ∷ l) = (a.number ≡ 0) × AllAnswered l

-- ---- one call

module _ (M : ℕ) where
  -- the same answer, and the same book but for its rows
  abbrev Same : Done → Done → Type 0
  Same d e = e ≡ (with_row_count d.0 M, d.1)

  same_ended : (b c : Book) (v w : Verdict) (f g : Count → Done) → ((q : Count) → v ≡ counted q → w ≡ counted q)
      → ((q : Count) → Same (f q) (g q)) → (ended b v f).1.number ≡ 0 → Same (ended b v f) (ended c w g)
  same_ended b c (counted q) w f g h i z = subst (λ (x : Verdict). Same (f q) (ended c x g)) (sym (h q refl)) (i q)
  same_ended b c full w f g h i z = absurd (omega arith)
  same_ended b c spent w f g h i z = absurd (omega arith)

  same-passing : (b c : Book) (k : ℕ) (d e : Done) → (d.1.number ≡ 0 → Same d e) → (passing b k d).1.number ≡ 0
      → Same (passing b k d) (passing c k e)
  same-passing b c zero d e h z = h z
  same-passing b c (suc k) d e h z = absurd (omega arith)

  same_test : (t : Bool) (d e x y : Done) (k : ℕ) → (d.1.number ≡ 0 → Same d e) → x.1.number ≡ suc k → (cond t d x).1.number ≡ 0
      → Same (cond t d x) (cond t e y)
  same_test true d e x y k h i z = h z
  same_test false d e x y k h i z = absurd (omega arith)

  named-same : (acc acc' : Terms) → Eased acc acc' → named acc' ≡ named acc
  named-same acc acc' r = ap (λ (x : ℕ). list_fits x acc'.place) r.count ∙ ap (list_fits acc.count) r.place

  -- A CALL THAT IS ANSWERED is answered alike under raised limits
  pub does-more : (b : Book) → b.N ≤ M → {c d : Call} → SameCall Eased c d → (does b c).1.number ≡ 0
      → Same (does b c) (does (with_row_count b M) d)
  does-more b l (same_relation t bs) z =
      let f = formula_in b Relation bs in
      let B = with_row_count b M in
      same_test (ltb t relations) _ _ (refuse b 3) (refuse B 3) 2
      (same-passing b B (checks b Relation bs) (relation_steps b t f) (relation_steps B t f)
      (same_ended b B _ _ (λ q. relation_done b t f q) (λ q. relation_done B t f q)
      (λ q e. verdict-more b.N M 0 0 l (omega arith) nothing (relation_ticks b.n (live_of b) b.valid f) q e) (λ q. refl))) refl z
  does-more b l (same_set acc acc' r R R' bs e i) z =
      let f = formula_in b Set bs in
      let B = with_row_count b M in
      let rows = e.rows in
      let rounds = e.rounds in
      let due : Bool
      → Done = λ t. cond (ltb r registers) (cond t (passing B (checks B Set bs) (set_steps B acc' r R' f)) (refuse B 14)) (refuse B 3) in
      let fed : Same (does b (set acc r R bs)) (due (named acc)) =
      same_test (ltb r registers) _ _ (refuse b 3) (refuse B 3) 2
      (same_test (named acc) _ _ (refuse b 14) (refuse B 14) 13
      (same-passing b B (checks b Set bs) (set_steps b acc r R f) (set_steps B acc' r R' f)
      (same_ended b B _ _ (λ q. set_done b r (means (model_of b) no_env f) q) (λ q. set_done B r (means (model_of b) no_env f) q)
      (λ q e. verdict-more (rows_under b.N acc) (rows_under M acc') (rounds_under R acc) (rounds_under R' acc') (omega arith) (omega arith)
      nothing (ticks (states (model_of b) no_env) (live_of b) f) q e) (λ q. refl))) refl) refl z
      in
      subst (λ (t : Bool). Same (does b (set acc r R bs)) (due t)) (sym (named-same acc acc' e)) fed
  does-more b l (same-valid bs) z =
      let f = formula_in b Valid bs in
      let B = with_row_count b M in
      same_test (unfilled b) _ _ (refuse b 13) (refuse B 13) 12
      (same-passing b B (checks b Valid bs) (valid_steps b f) (valid_steps B f)
      (same_ended b B _ _ (λ q. valid_done b f) (λ q. valid_done B f)
      (λ q e. verdict-more b.N M 0 0 l (omega arith) nothing (ticks (pairs b.n) (live_of b) f) q e) (λ q. refl))) refl z
  does-more b l (same-clear r) z = same_test (ltb r registers) _ _ (refuse b 3) (refuse (with_row_count b M) 3) 2 (λ _. refl) refl z
  does-more b l same-collect z = refl

  -- the rows of the book do not change
  rows-kept : (b : Book) (c : Call) → (does b c).0.N ≡ b.N
  rows-kept b (relation t bs) = relation_cases (λ (d : Done). d.0.N ≡ b.N) b t bs (λ k i j. refl) (λ l p q. refl)
  rows-kept b (set acc r R bs) = set_cases (λ (d : Done). d.0.N ≡ b.N) b acc r R bs (λ k i j. refl) (λ l p q. refl)
  rows-kept b (valid bs) = valid_cases (λ (d : Done). d.0.N ≡ b.N) b bs (λ k i j. refl) (λ t p. refl)
  rows-kept b (clear r) = range_cases (λ (d : Done). d.0.N ≡ b.N) r registers _ _ (λ l. refl) (λ l. refl)
  rows-kept b collect = refl

  -- ---- a list of calls

  pub rows-after : (b : Book) (cs : List Call) → (play b cs).0.N ≡ b.N
  rows-after b [] = refl
  rows-after b (c ∷ cs) = rows-after (does b c).0 cs ∙ rows-kept b c

  -- SAME VERDICTS, of the book: the same answers, and the same book but for its rows
  pub play-more : (b : Book) → b.N ≤ M → (cs ds : List Call) → AllRaised cs ds → AllAnswered (play b cs).1
      → play (with_row_count b M) ds ≡ (with_row_count (play b cs).0 M, (play b cs).1)
  play-more b l [] [] r a = refl
  play-more b l [] (d ∷ ds) r a = absurd r
  play-more b l (c ∷ cs) [] r a = absurd r
  play-more b l (c ∷ cs) (d ∷ ds) r a =
      let now = does-more b l r.0 a.0 in
      let rest = play-more (does b c).0 (subst (λ (k : ℕ). k ≤ M) (sym (rows-kept b c)) l) cs ds r.1 a.1 in
      ap (λ (x : Done). ((play x.0 ds).0, x.1 ∷ (play x.0 ds).1)) now
      ∙ ap (λ (x : Book × List Answer). (x.0, (does b c).1 ∷ x.1)) rest

-- the same answer to each question: "the same sets, counts"
pub answer-more : (b : Book) (M : ℕ) (q : Question) → answer (with_row_count b M) q ≡ answer b q
answer-more b M (node r) = refl
answer-more b M (member r s) = refl
answer-more b M (count r) = refl

-- "N still at most 60,000 and the lent words enough for it": fresh is answered too
pub fresh-more : (n N M words words' k : ℕ) → N ≤ M → M ≤ 60_000 → 256 + 12 * M ≤ words' → fresh_number n N words k ≡ 0
    → fresh_number n M words' k ≡ 0
fresh-more n N M words words' k l most enough z = go (fresh_fits n N words) refl (lent k) refl z
  where
    fits : T (fresh_fits n N words) → T (fresh_fits n M words')
    fits t =
        let w = and_out (leb 1 n && leb n 16) ((leb 1 N && leb N 60_000) && leb (256 + 12 * N) words) t in
        let x = and_out (leb 1 N && leb N 60_000) (leb (256 + 12 * N) words) w.1 in
        let least = leb→le 1 N (and_out (leb 1 N) (leb N 60_000) x.0).0 in
        and_in (leb 1 n && leb n 16) ((leb 1 M && leb M 60_000) && leb (256 + 12 * M) words') w.0
        (and_in (leb 1 M && leb M 60_000) (leb (256 + 12 * M) words')
        (and_in (leb 1 M) (leb M 60_000) (le→leb 1 M (omega arith)) (le→leb M 60_000 most)) (le→leb (256 + 12 * M) words' enough))

    go : (t : Bool) → fresh_fits n N words ≡ t → (u : Bool) → lent k ≡ u → ◌≡◌ {A = ℕ} (cond t (cond u 0 14) 1) 0
        → fresh_number n M words' k ≡ 0
    go true e true i y =
        ap (λ (t : Bool). cond t (cond (lent k) 0 14) 1) (true_of (fresh_fits n M words') (fits (subst T (sym e) tt)))
        ∙ ap (λ (u : Bool). cond u 0 14) i
    go true e false i y = absurd (omega arith)
    go false e u i y = absurd (omega arith)

-- ---- over any implementation

-- the book's answers are answers where the replies are
answered-book : (as' : List Answer) (l : List Event) → AllAgree as' l → AllZero l → AllAnswered as'
answered-book [] [] d z = tt
answered-book [] (x ∷ l) d z = absurd d
answered-book (a ∷ as') [] d z = absurd d
answered-book (a ∷ as') (x ∷ l) d z = (sym d.0.number ∙ z.0, answered-book as' l d.1 z.1)

zero_same : (as' : List Answer) (l l' : List Event) → AllSame as' l l' → AllZero l → AllZero l'
zero_same [] [] [] d z = tt
zero_same [] [] (x ∷ l) d z = absurd d
zero_same [] (x ∷ l) l' d z = absurd d
zero_same (a ∷ as') [] l' d z = absurd d
zero_same (a ∷ as') (x ∷ l) [] d z = absurd d
zero_same (a ∷ as') (x ∷ l) (x' ∷ l') d z = (d.0.number ∙ z.0, zero_same as' l l' d.1 z.1)

settled_same : (o : Option ℕ) (y y' : ℕ) → SettledTo o y → SettledTo o y' → (x : ℕ) → o ≡ some x → y' ≡ y
settled_same none y y' h i x e = absurd (none-some e)
settled_same (some z) y y' h i x e = i ∙ sym h

same-reply : (a : Answer) (y y' : Reply) → Agrees a y → Agrees a y' → SameReply a y y'
same-reply a y y' d e = record {
  number = e.number ∙ sym d.number;
  rounds = e.rounds ∙ sym d.rounds;
  peak = e.peak ∙ sym d.peak;
  value = settled_same a.value y.value y'.value d.value e.value;
}

all_same : (as' : List Answer) (l l' : List Event) → AllAgree as' l → AllAgree as' l' → AllSame as' l l'
all_same [] [] [] d e = tt
all_same [] [] (x ∷ l) d e = absurd e
all_same [] (x ∷ l) l' d e = absurd d
all_same (a ∷ as') [] l' d e = absurd d
all_same (a ∷ as') (x ∷ l) [] d e = absurd e
all_same (a ∷ as') (x ∷ l) (x' ∷ l') d e = (same-reply a x.1 x'.1 d.0 e.0, all_same as' l l' d.1 e.1)

module _ {W : Type 0} {words : W → ℕ} {sound : W → Type 0} {view : W → Table} {makes : W → ℕ → ℕ → ℕ → W → Reply → Type 0}
    {contract : W → Call → W → Reply → Type 0} {rests : W → W → Type 0} {asks : W → Question → W → Reply → Type 0}
    (I : Implements W words sound view makes contract rests asks) where
  module _ (n N M : ℕ) (more : N ≤ M) (most : M ≤ 60_000) {l l' : List Event} {w w' : W} (s : Session W makes contract rests n N l w)
      (u : Upgrade W words makes contract rests n M s.count l' w')
      (raised : AllRaised (calls l) (calls l')) (zero-all : AllZero l) where
    first : Demand sound view asks n N l w
    first = third_demand I n N s

    answers : AllAnswered (play (fresh n N) (calls l)).1
    answers = answered-book (play (fresh n N) (calls l)).1 l first.agree zero-all

    -- the book of the larger table
    larger : play (fresh n M) (calls l') ≡ (with_row_count (book_after n N l) M, (play (fresh n N) (calls l)).1)
    larger = play-more M (fresh n N) more (calls l) (calls l') raised answers

    -- its fresh is answered
    fresh_fits_lem : (k : ℕ) → fresh_number n N (words s.lent) s.count ≡ k → fresh_number n M (words u.lent) s.count ≡ 0
    fresh_fits_lem zero e = fresh-more n N M (words s.lent) (words u.lent) s.count more most u.enough e
    fresh_fits_lem (suc k) e =
        absurd (omega (arith, s.answered, ((I.starts s.lent s.made n N s.count s.reply s.start).refuses k e).0.0))

    fresh-answered : u.reply.number ≡ 0
    fresh-answered =
        ((I.starts u.lent u.made n M s.count u.reply u.start).answers
        (fresh_fits_lem (fresh_number n N (words s.lent) s.count) refl)).0.0

    second : Demand sound view asks n M l' w'
    second =
        third_demand I n M
        (record {
          lent = u.lent;
          count = s.count;
          made = u.made;
          reply = u.reply;
          start = u.start;
          answered = fresh-answered;
          rest = u.rest;
        })

    larger_book : book_after n M l' ≡ with_row_count (book_after n N l) M
    larger_book = ap (λ (x : Book × List Answer). x.0) larger

    -- the two books' registers are one
    same-register : (r : ℕ) → (book_after n M l').reg r ≡ (book_after n N l).reg r
    same-register r = ap (λ (x : Book). x.reg r) larger_book

    same-sets : book_of (view w') ≡ with_row_count (book_of (view w)) M
    same-sets = second.holds ∙ larger_book ∙ ap (λ (x : Book). with_row_count x M) (sym first.holds)

    same-replies : AllSame (play (fresh n N) (calls l)).1 l l'
    same-replies =
        all_same (play (fresh n N) (calls l)).1 l l' first.agree
        (subst (λ (x : List Answer). AllAgree x l') (ap (λ (x : Book × List Answer). x.1) larger) second.agree)

    -- the same answer is due
    same_answer_lem : (q : Question) → answer (book_after n M l') q ≡ answer (book_after n N l) q
    same_answer_lem q = ap (λ (x : Book). answer x q) larger_book ∙ answer-more (book_after n N l) M q

    same_asked : (q : Question) (v v' : W) (y y' : Reply) → asks w q v y → asks w' q v' y' → SameReply (answer (book_of (view w)) q) y y'
    same_asked q v v' y y' p p' = subst (λ (x : Book). SameReply (answer x q) y y') (sym first.holds)
        (same-reply (answer (book_after n N l) q) y y' (first.questions v q y p).1.agrees
        (subst (λ (a : Answer). Agrees a y') (same_answer_lem q) (second.questions v' q y' p').1.agrees))

    -- a register with a number is filled
    filled-set : (r x : ℕ) → r < registers → (view w).reg r ≡ some x → (A : List Bool) × ((book_after n N l).reg r ≡ some A)
    filled-set r x i e = let d = shows-filled (book_after n N l) (view w) r x first.shows i e in (d.0, d.1)

    -- BIGGER TABLES, SAME VERDICTS
    pub bigger_tables : SameVerdicts view asks n N M u.reply l l' w w'
    bigger_tables = record {
      started = fresh-answered;
      answered = zero_same (play (fresh n N) (calls l)).1 l l' same-replies zero-all;
      replies = same-replies;
      sets = same-sets;
      asked = same_asked;
      same-filled = λ r i. sym (second.reg_filled r i) ∙ ap filled (same-register r) ∙ first.reg_filled r i;
      numbers = λ r q i j x y x' y' a b c d.
          let (A, f) = filled-set r x i a in
          let (B, g) = filled-set q y j b in
          let one = first.numbers r q i j A B x y f g (sym (first.current r i) ∙ a) (sym (first.current q j) ∙ b) in
          let two = second.numbers r q i j A B x' y' (same-register r ∙ f) (same-register q ∙ g) (sym (second.current r i) ∙ c)
          (sym (second.current q j) ∙ d) in
          ((λ e. two.1 (one.0 e)), (λ e. one.1 (two.0 e)));
    }

-- ---- "after each call": the first calls of a list are a list

-- the first call of a list, with what rests before it, and the list after it
record Off (W : Type 0) (contract : W → Call → W → Reply → Type 0) (rests : W → W → Type 0) (w : W) (x : Event) (m : List Event) (w' : W)
    : Type 0 where
  after : W
  led : (l : List Event) (u : W) → Trace W contract rests after l u → Trace W contract rests w (x ∷ l) u
  rest : Trace W contract rests after m w'

first_off : {W : Type 0} {contract : W → Call → W → Reply → Type 0} {rests : W → W → Type 0} {w w' : W} {x : Event} {m : List Event}
    → Trace W contract rests w (x ∷ m) w' → Off W contract rests w x m w'
first_off (go {v = v} p t) = record { after = v; led = λ l u s. go p s; rest = t }
first_off (pause q t) = let o = first_off t in record { after = o.after; led = λ l u s. pause q (o.led l u s); rest = o.rest }

-- every list can be cut after its first calls
pub trace_cut : {W : Type 0} {contract : W → Call → W → Reply → Type 0} {rests : W → W → Type 0} {w w' : W} (l k : List Event)
    → Trace W contract rests w (l ++ k) w' → Cut W contract rests w l k w'
trace_cut {w = w} [] k t = record { mid = w; first = stop; rest = t }
trace_cut {W = W} {contract = contract} {rests = rests} {w = w} {w' = w'} (x ∷ l) k t =
    let o = first_off t in
    let c = trace_cut {w = (first_off t).after} l k o.rest in record { mid = c.mid; first = o.led l c.mid c.first; rest = c.rest }

-- BIGGER TABLES, SAME VERDICTS, AFTER EACH CALL: after the first calls l and l' of the two lists, wherever they are cut
pub after-each : {W : Type 0} {words : W → ℕ} {sound : W → Type 0} {view : W → Table} {makes : W → ℕ → ℕ → ℕ → W → Reply → Type 0}
    {contract : W → Call → W → Reply → Type 0} {rests : W → W → Type 0} {asks : W → Question → W → Reply → Type 0}
    → Implements W words sound view makes contract rests asks → (n N M : ℕ) → N ≤ M → M ≤ 60_000
    → (l k l' k' : List Event) {w w' : W} (s : Session W makes contract rests n N (l ++ k) w)
    (u : Upgrade W words makes contract rests n M s.count (l' ++ k') w')
    → AllRaised (calls l) (calls l') → AllZero l → (x : Cut W contract rests s.made l k w)
    (x' : Cut W contract rests u.made l' k' w')
    → SameVerdicts view asks n N M u.reply l l' x.mid x'.mid
after-each I n N M more most l k l' k' s u r z x x' =
    bigger_tables I n N M more most
    (record {
      lent = s.lent;
      count = s.count;
      made = s.made;
      reply = s.reply;
      start = s.start;
      answered = s.answered;
      rest = x.first;
    })
    (record { lent = u.lent; enough = u.enough; made = u.made; reply = u.reply; start = u.start; rest = x'.first }) r z

-- ---- the accounts

-- what a set is fed of it
pub eased_list : {l l' : List Account} → Looser l l' → (p : ℕ) → Eased (terms_of l p) (terms_of l' p)
eased_list e p = record { count = e.length; place = refl; rows = e.rows p; rounds = e.rounds p }

-- the rounds of an account's answered sets are the same, and so are the tallies (`tally_since_fresh`)
pub rounds-same : (p : ℕ) (as' : List Answer) (l l' : List Event) → AllRaised (calls l) (calls l') → AllSame as' l l'
    → rounds_at p l' ≡ rounds_at p l
rounds-same p [] [] [] r d = refl
rounds-same p [] [] (x ∷ l) r d = absurd d
rounds-same p [] (x ∷ l) l' r d = absurd d
rounds-same p (a ∷ as') [] l' r d = absurd d
rounds-same p (a ∷ as') (x ∷ l) [] r d = absurd d
rounds-same p (a ∷ as') (x ∷ l) (x' ∷ l') r d =
    ap (λ (k : ℕ). k + rounds_at p l') (one r.0 x.1 x'.1 d.0)
    ∙ ap (λ (k : ℕ). spent_at p x.0 x.1.number x.1.rounds + k) (rounds-same p as' l l' r.1 d.1)
  where
    one : {c c' : Call} → SameCall Eased c c' → (y y' : Reply) → SameReply a y y'
        → spent_at p c' y'.number y'.rounds ≡ spent_at p c y.number y.rounds
    one (same_relation t bs) y y' h = refl
    one (same_set acc acc' i R R' bs e j) y y' h =
        ap (λ (k : ℕ). cond (eqb k 0 && eqb p acc'.place) y'.rounds 0) h.number
        ∙ ap (λ (k : ℕ). cond (eqb y.number 0 && eqb p k) y'.rounds 0) e.place
        ∙ ap (λ (k : ℕ). cond (eqb y.number 0 && eqb p acc.place) k 0) h.rounds
    one (same-valid bs) y y' h = refl
    one (same-clear i) y y' h = refl
    one same-collect y y' h = refl
