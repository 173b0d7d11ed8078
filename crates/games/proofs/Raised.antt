-- "Bigger tables, same verdicts" for the second call: where it is neither full nor out of rounds, a book with more rows, under limits
-- raised or equal, tells the same. Assumes nothing.
use mathlib.Core.Path.{◌≡◌, refl, ap, ap₂, ◌∙◌}
use mathlib.Core.Bool.{Bool, true, false, cond, ◌&&◌}
use Prim.Native.Nat.{ℕ, ◌^◌, ◌≤◌}
use native.Mathlib.Omega.{arith}
use lib.Dec.{ltb}
use Rattle.accounts.specs.declared.Count.{Count}
use Rattle.accounts.specs.declared.Terms.{Terms}
use Rattle.accounts.specs.Account.{list_fits}
use Rattle.accounts.specs.Count.{nothing}
use Rattle.accounts.specs.Terms.{named, rows_under, rounds_under}
use Rattle.mucalculus.specs.Form.{no_env}
use Rattle.book.specs.Over.{states}
use Rattle.book.specs.Ticks.{ticks, Verdict, counted, full, spent}
use Rattle.book.specs.Book.{Book, model_of, live_of}
use Rattle.book.specs.Table.{Reply}
use Rattle.book.specs.Leaves.{plain}
use Rattle.book.specs.Raised.{Eased, with_row_count}
use Rattle.book.proofs.Larger.{verdict-more}
use Rattle.games.specs.Game.{answerable, answer_to}
use Rattle.games.specs.Call.{game_form, game_verdict, presses, reactions, goals, numbers_in_range, all_filled, verdict_reply, reacts}

-- neither 8 nor 9
abbrev pub Firm : Reply → Type 0
Firm y = (y.number ≡ 8 → ⊥) × (y.number ≡ 9 → ⊥)

-- a verdict that is kept tells the same
verdict_reply-more : (v v' : Verdict) (ok : Bool) (u : ℕ) → ((q : Count) → v ≡ counted q → v' ≡ counted q) → Firm (verdict_reply v ok u)
    → verdict_reply v' ok u ≡ verdict_reply v ok u
verdict_reply-more (counted q) v' ok u h f = ap (λ (w : Verdict). verdict_reply w ok u) (h q refl)
verdict_reply-more full v' ok u h f = absurd (f.0 refl)
verdict_reply-more spent v' ok u h f = absurd (f.1 refl)

-- after the checks, which do not read the rows
checked : (x y z : Bool) (a a' : Reply) → (Firm a → a' ≡ a) → Firm (cond x (cond y (cond z a (plain 7)) (plain 14)) (plain 3))
    → cond x (cond y (cond z a' (plain 7)) (plain 14)) (plain 3) ≡ cond x (cond y (cond z a (plain 7)) (plain 14)) (plain 3)
checked true true true a a' h f = h f
checked true true false a a' h f = refl
checked true false z a a' h f = refl
checked false y z a a' h f = refl

-- THE SECOND CALL, neither full nor out of rounds, is told alike with more rows and limits raised or equal: the same answer, or the same
-- refusal, 15 too
pub reacts-more : (M : ℕ) (b : Book) → b.N ≤ M → (acc acc' : Terms) → Eased acc acc' → (R R' : ℕ) → R ≤ R' → (goal guest machine s t : ℕ)
    → Firm (reacts b goal guest machine acc R s t)
    → reacts (with_row_count b M) goal guest machine acc' R' s t ≡ reacts b goal guest machine acc R s t
reacts-more M b l acc acc' e R R' i goal guest machine s t f =
    let k = 2 ^ b.n in
    let ok = answerable k (presses b guest) (reactions b machine) (goals b goal) s t in
    let u = answer_to k (presses b guest) (reactions b machine) (goals b goal) s t in
    let near = numbers_in_range goal guest machine && (ltb s k && ltb t k) in
    let less = e.rows in
    let fewer = e.rounds in
    let kept : (q : Count) → game_verdict b goal guest machine acc R ≡ counted q → game_verdict
    (with_row_count b M) goal guest machine acc' R' ≡ counted q
    = λ q. verdict-more (rows_under b.N acc) (rows_under M acc') (rounds_under R acc) (rounds_under R' acc') (omega arith)
    (omega arith) nothing
    (ticks (states (model_of b) no_env) (live_of b) (game_form goal guest machine)) q in
    ap (λ (x : Bool). cond near (cond x (cond (all_filled b goal guest machine)
    (verdict_reply (game_verdict (with_row_count b M) goal guest machine acc' R') ok u) (plain 7))
    (plain 14)) (plain 3))
    (ap₂ list_fits e.count e.place)
    ∙ checked near (named acc) (all_filled b goal guest machine) (verdict_reply
    (game_verdict b goal guest machine acc R) ok u)
    (verdict_reply (game_verdict (with_row_count b M) goal guest machine acc' R') ok u)
    (verdict_reply-more (game_verdict b goal guest machine acc R) (game_verdict
    (with_row_count b M) goal guest machine acc' R') ok u kept) f
