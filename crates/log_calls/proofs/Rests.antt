-- TWO LOGS IN A LIST: the call stores nothing, so it may stand anywhere in the lists of the third demand and of "Bigger tables, same
-- verdicts"; and where it is not full in the one table the larger one tells the same. Assumes nothing.
use mathlib.Core.Path.{◌≡◌, sym, ap, ◌∙◌}
use mathlib.Core.List.{List, ◌++◌}
use Prim.Native.Nat.{ℕ, ◌≤◌}
use Rattle.book.specs.Book.{Book}
use Rattle.book.specs.Table.{Reply}
use Rattle.book.specs.BookOf.{book_of}
use Rattle.book.specs.Demand.{Event, calls, book_after, Session}
use Rattle.book.specs.Raised.{AllZero, Looser, Cut}
use Rattle.contract.specs.Seen.{seen}
use Rattle.contract.specs.Closed.{makes, performs, rests}
use Rattle.contract.proofs.Closed.{words-demand, kept-rests}
use Rattle.contract.specs.Shared.{Lent, Step, Rest, SharedSession}
use Rattle.contract.specs.Bigger.{AllAgain, SharedUpgrade}
use Rattle.contract.proofs.Bigger.{each-sound, each_alike}
use Rattle.paths.specs.Call.{Ended}
use Rattle.logs.specs.Call.{logged}
use Rattle.logs.proofs.Raised.{logged-more}
use Rattle.log_calls.specs.Post.{LogPost}

-- THE CALL STORES NOTHING, answered or refused
pub log_rests : {t : ℕ} {one two old new lent left : List ℕ} {y : Reply} → LogPost t one two old new lent left y → rests old new
log_rests {y = y} p = kept-rests {y = y} (λ s. (p.told s).sound) p.book p.kept

-- ANSWERED BY THE BOOK: wherever it stands in a list, by the calls before it
pub log_listed : (n N : ℕ) {w : List ℕ} {l : List Event} → Session (List ℕ) makes performs rests n N l w
    → (t : ℕ) (one two : List ℕ) {v lent left : List ℕ} {y : Reply} → LogPost t one two w v lent left y
    → (y ≡ (logged (book_after n N l) t one two lent).reply) × (left ≡ (logged (book_after n N l) t one two lent).list)
log_listed n N x t one two {lent = lent} p =
    let d = words-demand n N x in (
      (p.told d.good).reply ∙ ap (λ (c : Book). (logged c t one two lent).reply) d.holds,
      (p.told d.good).list ∙ ap (λ (c : Book). (logged c t one two lent).list) d.holds,
    )

-- ALIKE: at the same place of a list and of the same list with every limit raised or equal, what the one table tells is told by the other:
-- the same run, or that there is none (10), or the same refusal; but where the smaller one is full (8)
pub log_again : (n N M : ℕ) → N ≤ M → M ≤ 60_000
    → (l k l' k' : List Event) {end end' : Lent} (x : SharedSession n N (l ++ k) end) (u : SharedUpgrade n M (l' ++ k') end')
    → Looser x.lent.accounts u.lent.accounts → AllAgain (calls l) (calls l') → AllZero l
    → (c : Cut Lent Step Rest x.made l k end) (c' : Cut Lent Step Rest u.made l' k' end')
    → (t : ℕ) (one two : List ℕ) {v v' lent left left' : List ℕ} {y y' : Reply} → LogPost t one two c.mid.words v lent left y
    → LogPost t one two c'.mid.words v' lent left' y' → (y.number ≡ 8 → ⊥) → (y' ≡ y) × (left' ≡ left)
log_again n N M more most l k l' k' x u loose again zeros c c' t one two {lent = lent} p q z =
    let (s, s') = each-sound n N M more most l k l' k' x u loose again zeros c c' in
    let same : logged (book_of (seen c'.mid.words)) t one two lent ≡ logged (book_of (seen c.mid.words)) t one two lent =
    each_alike n N M more most l k l' k' x u loose again zeros c c' (λ d. logged d t one two lent)
    (λ d. logged d t one two lent) (λ e. e.reply.number ≡ 8 → ⊥)
    (λ d i o. logged-more M one two lent d i t o) (λ e. z (ap (λ (r : Reply). r.number) (p.told s).reply ∙ e)) in (
      (q.told s').reply ∙ ap (λ (e : Ended). e.reply) same ∙ sym (p.told s).reply,
      (q.told s').list ∙ ap (λ (e : Ended). e.list) same ∙ sym (p.told s).list,
    )
