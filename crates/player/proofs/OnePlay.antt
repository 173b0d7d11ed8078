-- Laws of what specs/OnePlay.antt defines. Assumes nothing.
use Rattle.std.specs.Prelude.{Result, Ok, Err}
use mathlib.Core.Path.{◌≡◌, refl, sym, ap, ap₂, ◌∙◌, subst}
use mathlib.Core.Logic.{◌⊎◌, inl, inr, by_cases}
use mathlib.Core.Bool.{true}
use mathlib.Core.Option.{some}
use mathlib.Core.List.{List, [], ◌∷◌, ◌++◌, List-discrete, cons≢nil, head-eq_of_cons-eq, tail-eq_of_cons-eq}
use Prim.Native.Nat.{ℕ, zero, suc}
use native.Mathlib.Omega.{arith}
use native.Mathlib.Decide.{ℕ_discrete}
use lib.ListN.{length}
use Rattle.std.specs.Prelude.{Ok}
use Rattle.accounts.specs.declared.Terms.{Terms}
use Rattle.layout.specs.View.{View}
use Rattle.mucalculus.specs.Form.{no_env}
use Rattle.mucalculus.specs.Means.{means}
use Rattle.mucalculus.specs.Order.{weight}
use Rattle.tokens.specs.declared.Kind.TheVariants.{Set}
use Rattle.book.specs.Book.{Book, Call, relation, set, valid, clear, collect, count, fresh, fresh_number, model_of, formula_in, does, answer}
use Rattle.book.specs.Program.{Command, start, call, states}
use Rattle.book.specs.Stored.{Whole}
use Rattle.book.proofs.Stored.{whole_fresh, whole-does, some_inj, none-some}
use Rattle.book.specs.Table.{Reply, Agrees, Serves, Tells}
use Rattle.book.specs.Leaves.{valued}
use Rattle.book.proofs.Leaves.{shows-fresh}
use Rattle.book.specs.BookOf.{book_of}
use Rattle.book.proofs.BookOf.{whole-book_of, only-book}
use Rattle.book.specs.OneReply.{settled_in}
use Rattle.book.proofs.OneReply.{call-value, ask-value}
use Rattle.rows.specs.Sound.{table_of}
use Rattle.contract.specs.Seen.{seen, SoundWords}
use Rattle.contract.proofs.Seen.{sound-table, any-words}
use Rattle.contract.specs.Posts.{CallPost}
use Rattle.contract.proofs.Answered.{count-means}
use Rattle.contract.proofs.OneAnswer.{fresh-one}
use Rattle.calls.proofs.FreshLaws.{fresh-words-one}
use Rattle.commands.specs.declared.Outcome.{Outcome}
use Rattle.commands.specs.Obey.{Obeys, shown_reply, node_reply, Posted}
use Rattle.commands.specs.OneOutcome.{OneOutcome}
use Rattle.commands.proofs.OneOutcome.{plain-one, obey-one}
use Rattle.player.specs.declared.Unplayed.{Unplayed}
use Rattle.player.specs.declared.Unplayed.TheVariants.{Short, Unreadable}
use Rattle.player.specs.Play.{commands, Entry, commands_of, Chain, done, next, AllPost, DonePost, PlayPost}
use Rattle.player.proofs.Chained.{commands-length}
use Rattle.player.specs.OnePlay.{settled_words, settled_list}

-- sound words of one length that stand for one book
pub record Alike (a b : List ℕ) : Type 0 where
  pub first : SoundWords a
  pub second : SoundWords b
  pub book : book_of (seen a) ≡ book_of (seen b)
  pub size : length a ≡ length b

alike_ends : {a b v w : List ℕ} → v ≡ a → w ≡ b → Alike a b → Alike v w
alike_ends {a} {b} {v} {w} i j h = subst (λ (x : List ℕ). Alike v x) (sym j) (subst (λ (x : List ℕ). Alike x b) (sym i) h)

-- ---- one command on words alike

-- a call's number, rounds, peak and value, and words alike again
record Steps (c : Call) (v w : List ℕ) (y z : Reply) : Type 0 where
  number : y.number ≡ z.number
  rounds : y.rounds ≡ z.rounds
  peak : y.peak ≡ z.peak
  value : settled_in c y.value ≡ settled_in c z.value
  ends : Alike v w

call-steps : (c : Call) {a b v w : List ℕ} {y z : Reply} → Alike a b → CallPost c a v y → CallPost c b w z → Steps c v w y z
call-steps c {a} {b} {v} {w} {y} {z} h p q = record {
  number = s.1.agrees.number ∙ sym t.agrees.number;
  rounds = s.1.agrees.rounds ∙ sym t.agrees.rounds;
  peak = s.1.agrees.peak ∙ sym t.agrees.peak;
  value = call-value c (book_of (seen a)) s.1 t;
  ends = record {
    first = s.0;
    second = (q.performs.served h.second).0;
    book = sym (only-book (does (book_of (seen a)) c).0 (seen v) whole s.1.shows)
        ∙ only-book (does (book_of (seen a)) c).0 (seen w) whole t.shows;
    size = (p.kept h.first).size ∙ h.size ∙ sym (q.kept h.second).size;
  };
}
  where
    whole : Whole (does (book_of (seen a)) c).0
    whole = whole-does (book_of (seen a)) c (whole-book_of (seen a) (sound-table (table_of a) h.first))

    s : SoundWords v × Serves (book_of (seen a)) c (seen a) (seen v) y
    s = p.performs.served h.first

    t : Serves (book_of (seen a)) c (seen b) (seen w) z
    t = subst (λ (k : Book). Serves k c (seen b) (seen w) z) (sym h.book) (q.performs.served h.second).1

-- the states in the set of an answered set call, 0 where it is refused
set-states : (acc : Terms) (r R : ℕ) (bs a b v w : List ℕ) (x z : Outcome) → book_of (seen a) ≡ book_of (seen b)
    → Posted (call (set acc r R bs)) a v x → Posted (call (set acc r R bs)) b w z
    → x.number ≡ z.number → x.value ≡ z.value
set-states acc r R bs a b v w x z k p q e = by_cases (ℕ_discrete x.number 0)
    (λ i.
    count-means a v acc r R bs (node_reply x) p.0 i (valued x.value) (p.1.0 i)
    ∙ ap (λ (d : Book). weight true (means (model_of d) no_env (formula_in d Set bs))) k
    ∙ sym (count-means b w acc r R bs (node_reply z) q.0 (sym e ∙ i) (valued z.value) (q.1.0 (sym e ∙ i))))
    (λ n. p.1.1 (omega arith) ∙ sym (q.1.1 (omega (arith, e))))

fresh-steps : (n N : ℕ) (a b v w : List ℕ) (x z : Outcome) → Alike a b → x.operation ≡ z.operation → Posted (start n N) a v x
    → Posted (start n N) b w z → OneOutcome x z × Alike v w
fresh-steps n N a b v w x z h o p q = go (fresh_number n N (length a) 1) refl
  where
    there : (k : ℕ) → fresh_number n N (length a) 1 ≡ k → fresh_number n N (length b) 1 ≡ k
    there k e = ap (λ (j : ℕ). fresh_number n N j 1) (sym h.size) ∙ e

    sized : (c u : List ℕ) (y : Outcome) → Posted (start n N) c u y → y.number ≡ 0 → length u ≡ length c
    sized c u y g e = ap (λ (T' : View). T'.size) (g.1 e)

    go : (k : ℕ) → fresh_number n N (length a) 1 ≡ k → OneOutcome x z × Alike v w
    go zero e =
        let (f, sv, ev) = p.0.answers e in
        let (g, sw, ew) = q.0.answers (there zero e) in (
          plain-one o (f.0 ∙ sym g.0) (f.1 ∙ sym g.1) (f.3 ∙ sym g.3) (f.2 ∙ sym g.2) p.2 q.2,
          record {
            first = sv;
            second = sw;
            book = sym (only-book (fresh n N) (seen v) (whole_fresh n N) (shows-fresh n N (seen v) ev))
                ∙ only-book (fresh n N) (seen w) (whole_fresh n N) (shows-fresh n N (seen w) ew);
            size = sized a v x p f.0 ∙ h.size ∙ sym (sized b w z q g.0);
          },
        )
    go (suc k) e =
        let (f, i) = p.0.refuses k e in
        let (g, j) = q.0.refuses k (there (suc k) e) in
        (plain-one o (f.0 ∙ sym g.0) (f.1 ∙ sym g.1) (f.3 ∙ sym g.3) (f.2 ∙ sym g.2) p.2 q.2, alike_ends i j h)

count-steps : (r : ℕ) (a b v w : List ℕ) (x z : Outcome) → Alike a b → x.operation ≡ z.operation → Posted (states r) a v x
    → Posted (states r) b w z → OneOutcome x z × Alike v w
count-steps r a b v w x z h o p q =
    let s = (p.1.told h.first).agrees in
    let t = subst (λ (k : Book). Agrees (answer k (count r)) (shown_reply z)) (sym h.book) (q.1.told h.second).agrees in
    let first : Tells (book_of (seen a)) (count r) (seen a).reg (shown_reply x) = record { agrees = s; node_says = tt } in
    let second : Tells (book_of (seen a)) (count r) (seen a).reg (shown_reply z) = record { agrees = t; node_says = tt } in (
      plain-one o (s.number ∙ sym t.number) (s.rounds ∙ sym t.rounds)
          (ask-value (count r) (book_of (seen a)) (seen a).reg first second) (s.peak ∙ sym t.peak) p.2 q.2,
      alike_ends p.0 q.0 h,
    )

step-one : (c : Command) {a b v w : List ℕ} {x z : Outcome} → Alike a b → Obeys c a v x → Obeys c b w z → OneOutcome x z × Alike v w
step-one (start n N) {a} {b} {v} {w} {x} {z} h p q =
    fresh-steps n N a b v w x z h (p.operation ∙ sym q.operation) p.posted q.posted
step-one (states r) {a} {b} {v} {w} {x} {z} h p q = count-steps r a b v w x z h (p.operation ∙ sym q.operation) p.posted q.posted
step-one (call (relation t bs)) h p q =
    let s = call-steps (relation t bs) h p.posted.0 q.posted.0 in
    (plain-one (p.operation ∙ sym q.operation) s.number s.rounds s.value s.peak p.posted.1 q.posted.1, s.ends)
step-one (call (valid bs)) h p q =
    let s = call-steps (valid bs) h p.posted.0 q.posted.0 in
    (plain-one (p.operation ∙ sym q.operation) s.number s.rounds s.value s.peak p.posted.1 q.posted.1, s.ends)
step-one (call (clear r)) h p q =
    let s = call-steps (clear r) h p.posted.0 q.posted.0 in
    (plain-one (p.operation ∙ sym q.operation) s.number s.rounds s.value s.peak p.posted.1 q.posted.1, s.ends)
step-one (call collect) h p q =
    let s = call-steps collect h p.posted.0 q.posted.0 in
    (plain-one (p.operation ∙ sym q.operation) s.number s.rounds s.value s.peak p.posted.1 q.posted.1, s.ends)
step-one (call (set acc r R bs)) {a} {b} {v} {w} {x} {z} h p q =
    let s = call-steps (set acc r R bs) h p.posted.0 q.posted.0 in (
      record {
        operation = p.operation ∙ sym q.operation;
        number = s.number;
        rounds = s.rounds;
        value = set-states acc r R bs a b v w x z h.book p.posted q.posted s.number;
        peak = s.peak;
        node = s.value;
      },
      s.ends,
    )

-- on the same words that are not sound, the same words are left
unsound-end : (c : Command) {a v w : List ℕ} {x z : Outcome} → (SoundWords a → ⊥) → Obeys c a v x → Obeys c a w z → v ≡ w
unsound-end (start n N) {a} {v} {w} {x} {z} no-sound p q =
    let e = ap (λ (y : Reply). y.number) (fresh-one n N 1 p.posted.0 q.posted.0).0 in
    by_cases (ℕ_discrete x.number 0) (λ i. fresh-words-one n N a v w (Ok tt) (p.posted.1 i) (q.posted.1 (sym e ∙ i)))
    (λ k. (fresh-one n N 1 p.posted.0 q.posted.0).2 (omega arith))
unsound-end (states r) n p q = p.posted.0 ∙ sym q.posted.0
unsound-end (call c) n p q = (p.posted.0.performs.unsound n).1 ∙ sym (q.posted.0.performs.unsound n).1

-- ---- a list

joined : {x y k l : List ℕ} → x ≡ y → k ≡ l → x ++ k ≡ y ++ l
joined d e = ap₂ ◌++◌ d e

settled_words_lem : {x z : Outcome} → OneOutcome x z → settled_words x ≡ settled_words z
settled_words_lem o = λ i. o.number i ∷ o.node i ∷ o.rounds i ∷ o.value i ∷ o.peak i ∷ []

-- two chains of the same commands, from the same words or from words alike
pub chain-one : {a b v w : List ℕ} {k l : List Entry} → (a ≡ b) ⊎ Alike a b → Chain a k v → Chain b l w → commands_of k ≡ commands_of l
    → settled_list k ≡ settled_list l
chain-one r done done e = refl
chain-one r done (next q u) e = absurd (cons≢nil (sym e))
chain-one r (next p t) done e = absurd (cons≢nil e)
chain-one {b = b} (inr h) (next {e = x} {l = k} p t) (next {v = w} {e = z} {l = l} q u) e =
    let q' = subst (λ (c : Command). Obeys c b w z.outcome) (sym (head-eq_of_cons-eq e)) q in
    let s = step-one x.command h p q' in
    joined (settled_words_lem s.0) (chain-one (inr s.1) t u (tail-eq_of_cons-eq e))
chain-one {a = a} {b} (inl i) (next {v = v} {e = x} {l = k} p t) (next {v = w} {e = z} {l = l} q u) e =
    let q' = subst (λ (y : List ℕ). Obeys x.command y w z.outcome) (sym i)
    (subst (λ (c : Command). Obeys c b w z.outcome) (sym (head-eq_of_cons-eq e)) q) in
    joined (settled_words_lem (obey-one x.command p q')) (any-words a (List-discrete ℕ_discrete (settled_list k) (settled_list l))
    (λ s. chain-one (inr (step-one x.command (record { first = s; second = s; book = refl; size = refl }) p q').1) t u
    (tail-eq_of_cons-eq e))
    (λ n. chain-one (inl (unsound-end x.command n p q')) t u (tail-eq_of_cons-eq e)))

-- every record obeyed: what is listed
pub all_one : (bs w v u l m n : List ℕ) (p : AllPost bs w v l m) (q : AllPost bs w u l n)
    → settled_list p.entries ≡ settled_list q.entries
all_one bs w v u l m n p q = chain-one (inl refl) p.chain q.chain (some_inj (sym p.read ∙ q.read))

-- as many records are obeyed as can be read
obeyed : {bs w v l m : List ℕ} {k : ℕ} → DonePost bs w v l m k → (cs : List Command) → commands bs ≡ some cs → k ≡ length cs
obeyed p cs e = p.count ∙ sym (commands-length p.all.entries) ∙ ap length (some_inj (sym p.all.read ∙ e))

-- `play` itself: done with the same count, or refused alike
pub play-one : (bs w v u l m n : List ℕ) (x z : Result ℕ Unplayed) → PlayPost bs w v l m x → PlayPost bs w u l n z → x ≡ z
play-one bs w v u l m n (Ok k) (Ok j) p q =
    ap Ok (obeyed p.1 _ q.1.all.read ∙ sym (obeyed q.1 _ q.1.all.read))
play-one bs w v u l m n (Ok k) (Err Short) p q = let ((cs, e, f), g) = q in absurd (omega (arith, p.0, f, obeyed p.1 cs e))
play-one bs w v u l m n (Ok k) (Err Unreadable) p q = absurd (none-some (sym q.0 ∙ p.1.all.read))
play-one bs w v u l m n (Err Short) (Ok k) p q = let ((cs, e, f), g) = p in absurd (omega (arith, q.0, f, obeyed q.1 cs e))
play-one bs w v u l m n (Err Short) (Err Short) p q = refl
play-one bs w v u l m n (Err Short) (Err Unreadable) p q = absurd (none-some (sym q.0 ∙ p.0.1))
play-one bs w v u l m n (Err Unreadable) (Ok k) p q = absurd (none-some (sym p.0 ∙ q.1.all.read))
play-one bs w v u l m n (Err Unreadable) (Err Short) p q = absurd (none-some (sym p.0 ∙ q.0.1))
play-one bs w v u l m n (Err Unreadable) (Err Unreadable) p q = refl
