-- THE THIRD DEMAND for a list of records: every list since an answered fresh is a session of the calls' own contracts. Assumes nothing.
use Rattle.std.specs.Prelude.{Result, Ok, Err}
use mathlib.Core.Path.{◌≡◌, refl, sym, ap, ◌∙◌, subst}
use mathlib.Core.Bool.{Bool, true, false, cond}
use mathlib.Core.List.{List, [], ◌∷◌, ◌++◌, append-nil, append_assoc}
use mathlib.Core.Option.{Option, none, some}
use Prim.Native.Nat.{ℕ, suc, ◌+◌, ◌*◌, ◌≤◌, ◌<◌, zero}
use native.Mathlib.Omega.{arith}
use lib.Dec.{eqb}
use lib.ListN.{length, drop, length-append}
use lib.Seq.{sets}
use borrow.Author.Tests.{eqb-true, eqb-false}
use Rattle.book.specs.Book.{Call, fresh_number}
use Rattle.book.specs.Program.{Command, start, call, states, record_length, command_at}
use Rattle.book.specs.Table.{Reply}
use Rattle.book.specs.Demand.{Event, Trace, stop, go, pause, Demand}
use Rattle.contract.specs.Seen.{seen, SoundWords}
use Rattle.contract.specs.Posts.{FreshPost}
use Rattle.contract.specs.Closed.{performs, rests, asks}
use Rattle.contract.proofs.Closed.{words-demand}
use Rattle.commands.specs.declared.Outcome.{Outcome}
use Rattle.commands.specs.Obey.{shown_reply, reply_of, Posted, Obeys}
use Rattle.records.specs.Text.{Wrote}
use Rattle.records.proofs.TextLaws.{wrote_then}
use Rattle.player.specs.declared.Unplayed.{Unplayed}
use Rattle.player.specs.declared.Unplayed.TheVariants.{Short, Unreadable}
use Rattle.player.specs.Play.{Entry, entry_words, outcome_words, commands_of, words_of, Chain, done, next, Since, noted, since, Standing}
use Rattle.player.specs.Play.{commands, AllPost, DonePost, PlayPost, entries_of}
use Rattle.player.proofs.Passes.{some_inj, Passed, passed_none, passed-next, passed-all, passed-left}

-- ---- sessions

-- a call more at the end of a trace
trace_last : {w v w' : List ℕ} {l : List Event} (c : Call) (y : Reply) → Trace (List ℕ) performs rests w l v → performs v c w' y
    → Trace (List ℕ) performs rests w (l ++ ((c, y) ∷ [])) w'
trace_last c y stop p = go p stop
trace_last c y (go q t) p = go q (trace_last c y t p)
trace_last c y (pause q t) p = pause q (trace_last c y t p)

-- or a call that stores nothing
trace_rests : {w v w' : List ℕ} {l : List Event} → Trace (List ℕ) performs rests w l v → rests v w' → Trace (List ℕ) performs rests w l w'
trace_rests stop p = pause p stop
trace_rests (go q t) p = go q (trace_rests t p)
trace_rests (pause q t) p = pause q (trace_rests t p)

-- such a call may stand between two lists that are played, and anywhere in them
pub standing-rests : (s : Option Since) {w v : List ℕ} → Standing s w → rests w v → Standing s v
standing-rests none h p = tt
standing-rests (some s) h p =
    record {
      lent = h.lent;
      count = h.count;
      made = h.made;
      reply = h.reply;
      start = h.start;
      answered = h.answered;
      rest = trace_rests h.rest p;
    }

-- a refused fresh keeps all words
fresh_kept : (n N count : ℕ) {old new : List ℕ} {y : Reply} → FreshPost n N count old new y → (y.number ≡ 0 → ⊥) → new ≡ old
fresh_kept n N count {old} {new} {y} p never = pick (fresh_number n N (length old) count) refl
  where
    pick : (k : ℕ) → fresh_number n N (length old) count ≡ k → new ≡ old
    pick zero e = absurd (never (p.answers e).0.0)
    pick (suc k) e = (p.refuses k e).1

-- one command more, played or called by itself
pub standing-next : (s : Option Since) (c : Command) (w v : List ℕ) (x : Outcome) → Standing s w → Posted c w v x → Standing (noted s c x) v
standing-next s (start n N) w v x h p = pick (eqb x.number 0) refl
  where
    pick : (t : Bool) → eqb x.number 0 ≡ t → Standing (cond t (some record { n = n; N = N; events = [] }) s) v
    pick true e =
        record { lent = w; count = 1; made = v; reply = shown_reply x; start = p.0; answered = eqb-true x.number 0 e; rest = stop }
    pick false e = subst (Standing s) (sym (fresh_kept n N 1 p.0 (eqb-false x.number 0 e))) h
standing-next none (call c) w v x h p = tt
standing-next (some s) (call c) w v x h p =
    record {
      lent = h.lent;
      count = h.count;
      made = h.made;
      reply = h.reply;
      start = h.start;
      answered = h.answered;
      rest = trace_last c (reply_of c x) h.rest p.0;
    }
standing-next s (states r) w v x h p = subst (Standing s) (sym p.0) h

standing : (s : Option Since) (w v : List ℕ) {l : List Entry} → Standing s w → Chain w l v → Standing (since s l) v
standing s w v h done = h
standing s w v h (next {v = u} {e = e} o t) =
    standing (noted s e.command e.outcome) u v (standing-next s e.command w u e.outcome h o.posted) t

-- the whole claim for the list since the last answered fresh
pub standing-demand : {w : List ℕ} {before : Option Since} (s : Since) → Standing before w → before ≡ some s
    → Demand SoundWords seen asks s.n s.N s.events w
standing-demand {w} s h e = words-demand s.n s.N (subst (λ (o : Option Since). Standing o w) e h)

-- ---- as far as the records have been obeyed

-- an entry more at the end
chain-last : {w v w' : List ℕ} {l : List Entry} (e : Entry) → Chain w l v → Obeys e.command v w' e.outcome
    → Chain w (l ++ (e ∷ [])) w'
chain-last e done o = next o done
chain-last e (next q t) o = next q (chain-last e t o)

commands-last : (l : List Entry) (e : Entry) → commands_of (l ++ (e ∷ [])) ≡ commands_of l ++ (e.command ∷ [])
commands-last [] e = refl
commands-last (d ∷ l) e = ap (λ (cs : List Command). d.command ∷ cs) (commands-last l e)

words_last : (l : List Entry) (e : Entry) → words_of (l ++ (e ∷ [])) ≡ words_of l ++ outcome_words e.outcome
words_last [] e = append-nil (outcome_words e.outcome)
words_last (d ∷ l) e =
    ap (λ (ws : List ℕ). outcome_words d.outcome ++ ws) (words_last l e)
    ∙ sym (append_assoc (outcome_words d.outcome) (words_of l) (outcome_words e.outcome))

pub commands-length : (l : List Entry) → length (commands_of l) ≡ length l
commands-length [] = refl
commands-length (e ∷ l) = ap suc (commands-length l)

words-length : (l : List Entry) → length (words_of l) ≡ length l * entry_words
words-length [] = refl
words-length (e ∷ l) = omega (arith, words-length l)

-- the records in the first so many bytes are obeyed, and their outcomes stand in the list up to a place
pub record Progress (bs w₀ l₀ : List ℕ) (at place : ℕ) (w l : List ℕ) : Type 0 where
  pub entries : List Entry
  pub passed : Passed bs at (commands_of entries)
  pub placed : place ≡ length entries * entry_words
  pub chain : Chain w₀ entries w
  pub listed : Wrote l₀ 0 (words_of entries) l place

pub progress-none : (bs w l : List ℕ) → Progress bs w l 0 0 w l
progress-none bs w l =
    record { entries = []; passed = passed_none bs; placed = refl; chain = done; listed = record { contents = refl; past = refl } }

pub progress-next : {bs w₀ l₀ w l w' l' : List ℕ} {at place : ℕ} (r : ℕ) (e : Entry) → Progress bs w₀ l₀ at place w l → at < length bs
    → command_at (drop at bs) ≡ some e.command → r ≡ 2 + record_length (drop at bs) → r ≤ length (drop at bs)
    → Obeys e.command w w' e.outcome
    → l' ≡ sets l place (outcome_words e.outcome) → Progress bs w₀ l₀ (at + r) (place + entry_words) w' l'
progress-next {bs} {w₀} {l₀} {w} {l} {w'} {l'} {at} {place} r e p h read size within o i = record {
  entries = p.entries ++ (e ∷ []);
  passed = subst (Passed bs (at + r)) (sym (commands-last p.entries e)) (passed-next e.command r p.passed h read size within);
  placed = omega (arith, p.placed, length-append p.entries (e ∷ []));
  chain = chain-last e p.chain o;
  listed =
      subst (λ (ws : List ℕ). Wrote l₀ 0 ws l' (place + entry_words)) (sym (words_last p.entries e))
      (wrote_then (words_of p.entries) (outcome_words e.outcome) p.listed record { contents = i; past = refl });
}

-- there is room for the next outcome
pub room_at : {bs w₀ l₀ w l : List ℕ} {at place : ℕ} {cs : List Command} → Progress bs w₀ l₀ at place w l → commands bs ≡ some cs
    → length cs * entry_words ≤ length l₀ → at < length bs
    → place + entry_words ≤ length l₀
room_at {cs = cs} p e room h = omega (arith, p.placed, (passed-left cs p.passed e h).1, commands-length p.entries)

pub progress-all : {bs w₀ l₀ w l : List ℕ} {at place : ℕ} → Progress bs w₀ l₀ at place w l → length bs ≤ at → AllPost bs w₀ w l₀ l
progress-all p h = record { entries = p.entries; read = passed-all p.passed h; chain = p.chain; listed = p.listed.contents }

-- no record at all
pub all_none : {bs : List ℕ} (w l : List ℕ) {k : ℕ} (cs : List Command) → commands bs ≡ some cs → length cs ≡ k → k ≡ 0 → AllPost bs w w l l
all_none w l [] e i z = record { entries = []; read = e; chain = done; listed = refl }
all_none w l (c ∷ cs) e i z = absurd (omega arith)

-- all of them, with the claim
pub all_done : {bs w w' l l' : List ℕ} {k : ℕ} {cs : List Command} → AllPost bs w w' l l' → commands bs ≡ some cs → length cs ≡ k
    → DonePost bs w w' l l' k
all_done {cs = cs} p e i = record {
  all = p;
  count = sym i ∙ ap (λ (x : List Command). length x) (some_inj (sym e ∙ p.read)) ∙ commands-length p.entries;
  stands = λ before h. standing before _ _ h p.chain;
  demand = λ before h s q. standing-demand s (standing before _ _ h p.chain) q;
}

-- ---- one `play` after the other

-- whatever it came to: a list that was not played changes nothing
pub play-stands : (bs w w' l l' : List ℕ) (x : Result ℕ Unplayed) (p : PlayPost bs w w' l l' x) (before : Option Since) → Standing before w
    → Standing (since before (entries_of bs w w' l l' x p)) w'
play-stands bs w w' l l' (Ok k) p before h = p.1.stands before h
play-stands bs w w' l l' (Err Short) p before h = subst (Standing before) (sym p.1.0) h
play-stands bs w w' l l' (Err Unreadable) p before h = subst (Standing before) (sym p.1.0) h

since-both : (before : Option Since) (a b : List Entry) → since (since before a) b ≡ since before (a ++ b)
since-both before [] b = refl
since-both before (e ∷ a) b = since-both (noted before e.command e.outcome) a b

-- two lists played one after the other, and a call that stores nothing between them, have the whole claim of one list, since the last
-- answered fresh in either or before both
pub play_again : (bs w w' l l' : List ℕ) (x : Result ℕ Unplayed) (p : PlayPost bs w w' l l' x) (v : List ℕ) → rests w' v → (cs w'' m m' : List ℕ)
    (y : Result ℕ Unplayed) (q : PlayPost cs v w'' m m' y)
    (before : Option Since) → Standing before w → (s : Since)
    → since before (entries_of bs w w' l l' x p ++ entries_of cs v w'' m m' y q) ≡ some s
    → Demand SoundWords seen asks s.n s.N s.events w''
play_again bs w w' l l' x p v r cs w'' m m' y q before h s e =
    let first = entries_of bs w w' l l' x p in
    let h₁ = standing-rests (since before first) (play-stands bs w w' l l' x p before h) r in
    let h' = play-stands cs v w'' m m' y q (since before first) h₁ in
    standing-demand s h' (since-both before first (entries_of cs v w'' m m' y q) ∙ e)
