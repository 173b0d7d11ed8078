-- A list from fresh on over words of zeros, and what calls leave of a table in which no row is used and V is every state. Assumes nothing.
use mathlib.Core.Path.{◌≡◌, refl, ap, ◌∙◌}
use mathlib.Core.List.{List}
use Prim.Native.Nat.{ℕ, ◌+◌, ◌<◌}
use native.Mathlib.Omega.{arith}
use lib.ListN.{set as write}
use borrow.Author.Tests.{ne_eqb}
use Rattle.accounts.specs.declared.Terms.{Terms}
use Rattle.layout.specs.Places.{REGISTERS, RELATIONS, ROWS, USED, VALID, ALL_STATES, FIRST_REGISTER, FIRST_RELATION}
use Rattle.layout.specs.View.{View, header_of}
use Rattle.layout.proofs.View.{view-header}
use Rattle.rows.specs.Used.{Sizes}
use Rattle.book.specs.Book.{Book, relation, set, valid}
use Rattle.book.specs.BookOf.{book_of}
use Rattle.book.specs.Table.{Reply}
use Rattle.book.specs.Leaves.{plain}
use Rattle.book.specs.Demand.{Event, book_after, Trace, stop, Session}
use Rattle.contract.specs.Seen.{seen, SoundWords}
use Rattle.contract.specs.Posts.{CallPost}
use Rattle.contract.specs.Closed.{makes, performs, rests}
use Rattle.contract.proofs.Closed.{words-demand}
use Rattle.witness.proofs.Words.{zeros, fresh_of, stored_in, fresh-zero, fresh-valid, view-stored}
use Rattle.witness.proofs.Made.{Roomy, fresh-done}

-- ---- a list from fresh on

module _ (n N k : ℕ) (z : Sizes n N k) where
  pub session : {l : List Event} {ws : List ℕ} → Trace (List ℕ) performs rests (fresh_of n N k) l ws
      → Session (List ℕ) makes performs rests n N l ws
  session t =
      record { lent = zeros k; count = 1; made = fresh_of n N k; reply = plain 0; start = fresh-done n N k z; answered = refl; rest = t }

  module _ {l : List Event} {ws : List ℕ} (t : Trace (List ℕ) performs rests (fresh_of n N k) l ws) where
    -- the words after it are sound, and hold what the book does
    pub sound : SoundWords ws
    sound = (words-demand n N (session t)).good

    pub holds : book_of (seen ws) ≡ book_after n N l
    holds = (words-demand n N (session t)).holds

-- ---- no row is used, and V is every state

-- sound words of a table with N rows, so
pub record Stands (N : ℕ) (ws : List ℕ) : Type 0 where
  pub sound : SoundWords ws
  pub rows : header_of ws ROWS ≡ N
  pub used : header_of ws USED ≡ 0
  pub valid : header_of ws VALID ≡ ALL_STATES

pub fresh-stands : (n N k : ℕ) → Sizes n N k → Stands N (fresh_of n N k)
fresh-stands n N k z =
    let room = z.room in
    record {
      sound = sound n N k z stop;
      rows = ap (λ (b : Book). b.N) (holds n N k z stop);
      used = fresh-zero n N k USED room (omega arith) (omega arith) (omega arith) (omega arith) (omega arith);
      valid = fresh-valid n N k room;
    }

module _ {N : ℕ} {ws : List ℕ} (s : Stands N ws) where
  pub all_one : (seen ws).valid ≡ 1
  all_one = let e = s.valid in omega arith

  -- an account that limits neither N rows nor R rounds further
  pub roomy : (R : ℕ) (acc : Terms) → Roomy N R acc → Roomy (header_of ws ROWS) R acc
  roomy R acc a = let e = s.rows in let l = a.rows in record { place = a.place; rows = omega arith; rounds = a.rounds }

  -- after an answered valid of every state
  pub valid-stands : {bs : List ℕ} {y : Reply} → CallPost (valid bs) ws (write ws VALID ALL_STATES) y → Stands N (write ws VALID ALL_STATES)
  valid-stands p =
      let e = view-header (header_of ws ROWS) ws s.sound.good.sizes.room VALID ALL_STATES (omega arith) in
      record {
        sound = (p.performs.served s.sound).0;
        rows = ap (λ (v : View). v.header ROWS) e ∙ s.rows;
        used = ap (λ (v : View). v.header USED) e ∙ s.used;
        valid = ap (λ (v : View). v.header VALID) e;
      }

  -- after an answered relation t without a new row
  pub relation-stands : (t x : ℕ) {bs : List ℕ} {y : Reply} → t < RELATIONS
      → CallPost (relation t bs) ws (write ws (FIRST_RELATION + t) x) y
      → Stands N (write ws (FIRST_RELATION + t) x)
  relation-stands t x l p =
      let e = view-header (header_of ws ROWS) ws s.sound.good.sizes.room (FIRST_RELATION + t) x (omega arith) in
      record {
        sound = (p.performs.served s.sound).0;
        rows = ap (λ (v : View). v.header ROWS) e ∙ rw (ne_eqb ROWS (FIRST_RELATION + t) (omega arith)) s.rows;
        used = ap (λ (v : View). v.header USED) e ∙ rw (ne_eqb USED (FIRST_RELATION + t) (omega arith)) s.used;
        valid = ap (λ (v : View). v.header VALID) e ∙ rw (ne_eqb VALID (FIRST_RELATION + t) (omega arith)) s.valid;
      }

  -- after an answered set without a new row
  pub stored-stands : {acc : Terms} (r R a : ℕ) {bs : List ℕ} {y : Reply} → r < REGISTERS → CallPost (set acc r R bs) ws (stored_in ws r a) y
      → Stands N (stored_in ws r a)
  stored-stands r R a l p =
      let e = view-stored (header_of ws ROWS) r a ws s.sound.good.sizes.room l in
      record {
        sound = (p.performs.served s.sound).0;
        rows = ap (λ (v : View). v.header ROWS) e ∙ rw (ne_eqb ROWS (FIRST_REGISTER + r) (omega arith)) s.rows;
        used = ap (λ (v : View). v.header USED) e ∙ rw (ne_eqb USED (FIRST_REGISTER + r) (omega arith)) s.used;
        valid = ap (λ (v : View). v.header VALID) e ∙ rw (ne_eqb VALID (FIRST_REGISTER + r) (omega arith)) s.valid;
      }
