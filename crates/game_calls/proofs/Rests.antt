-- THE SECOND CALL IN A LIST: it stores nothing, so it may stand anywhere in the lists of the third demand and of "Bigger tables, same
-- verdicts"; and where it is neither full nor out of rounds in the one table the larger one tells the same. Assumes nothing.
use mathlib.Core.Path.{◌≡◌, sym, ap, ◌∙◌}
use mathlib.Core.List.{List, ◌++◌}
use Prim.Native.Nat.{ℕ, ◌≤◌}
use Rattle.accounts.specs.declared.Terms.{Terms}
use Rattle.accounts.specs.Terms.{terms_of}
use Rattle.book.specs.Book.{Book}
use Rattle.book.specs.Table.{Reply}
use Rattle.book.specs.Demand.{Event, calls, book_after, Session}
use Rattle.book.specs.Raised.{AllZero, Looser, Cut}
use Rattle.book.proofs.Raised.{eased_list}
use Rattle.contract.specs.Closed.{makes, performs, rests}
use Rattle.contract.proofs.Closed.{words-demand, kept-rests}
use Rattle.contract.specs.Shared.{Lent, Step, Rest, SharedSession}
use Rattle.contract.specs.Bigger.{AllAgain, SharedUpgrade}
use Rattle.contract.proofs.Bigger.{shared-each, each-sound, each_alike}
use Rattle.games.specs.Call.{reacts}
use Rattle.games.proofs.Raised.{Firm, reacts-more}
use Rattle.game_calls.specs.Post.{ReactPost}

-- THE CALL STORES NOTHING, answered or refused
pub react-rests : {acc : Terms} {R goal guest machine s t : ℕ} {old new : List ℕ} {y : Reply}
    → ReactPost acc R goal guest machine s t old new y → rests old new
react-rests {y = y} p = kept-rests {y = y} (λ s. (p.told s).sound) p.book p.kept

-- ANSWERED BY THE BOOK: wherever it stands in a list, by the calls before it
pub react-listed : (n N : ℕ) {w : List ℕ} {l : List Event} → Session (List ℕ) makes performs rests n N l w
    → (acc : Terms) (R goal guest machine s t : ℕ) {v : List ℕ} {y : Reply} → ReactPost acc R goal guest machine s t w v y
    → y ≡ reacts (book_after n N l) goal guest machine acc R s t
react-listed n N x acc R goal guest machine s t p =
    let d = words-demand n N x in (p.told d.good).reply ∙ ap (λ (c : Book). reacts c goal guest machine acc R s t) d.holds

-- ALIKE: at the same place of a list and of the same list with every limit raised or equal, R too, what the one table tells is told by the
-- other: the same answer, or that there is none (15), or the same refusal; but where the smaller one is full (8) or out of rounds (9)
pub react_again : (n N M : ℕ) → N ≤ M → M ≤ 60_000
    → (l k l' k' : List Event) {end end' : Lent} (x : SharedSession n N (l ++ k) end) (u : SharedUpgrade n M (l' ++ k') end')
    → Looser x.lent.accounts u.lent.accounts → AllAgain (calls l) (calls l') → AllZero l
    → (c : Cut Lent Step Rest x.made l k end) (c' : Cut Lent Step Rest u.made l' k' end')
    → (place R R' goal guest machine s t : ℕ) → R ≤ R' → {v v' : List ℕ} {y y' : Reply}
    → ReactPost (terms_of c.mid.accounts place) R goal guest machine s t c.mid.words v y
    → ReactPost (terms_of c'.mid.accounts place) R' goal guest machine s t c'.mid.words v' y'
    → (y.number ≡ 8 → ⊥) → (y.number ≡ 9 → ⊥) → y' ≡ y
react_again n N M more most l k l' k' x u loose again zeros c c' place R R' goal guest machine s t i p q rows rounds =
    let (o, o') = each-sound n N M more most l k l' k' x u loose again zeros c c' in
    let still = (shared-each n N M more most l k l' k' x u loose again zeros c c').looser in
    let same = each_alike n N M more most l k l' k' x u loose again zeros c c'
    (λ d. reacts d goal guest machine (terms_of c.mid.accounts place) R s t)
    (λ d. reacts d goal guest machine (terms_of c'.mid.accounts place) R' s t) Firm
    (λ d h f. reacts-more M d h (terms_of c.mid.accounts place) (terms_of c'.mid.accounts place) (eased_list still place) R R' i
    goal guest machine s t f) (
      (λ e. rows (ap (λ (r : Reply). r.number) (p.told o).reply ∙ e)),
      (λ e. rounds (ap (λ (r : Reply). r.number) (p.told o).reply ∙ e)),
    ) in
    (q.told o').reply ∙ same ∙ sym (p.told o).reply
