-- `kudzuclamp_force` is a set call: from the bytes that the code made to the game's. Assumes nothing.
use mathlib.Core.Path.{◌≡◌, refl, subst}
use mathlib.Core.Bool.{Bool, true, false, cond}
use mathlib.Core.List.{List}
use Prim.Native.Nat.{ℕ, ◌%◌}
use Rattle.accounts.specs.declared.Account.{Account}
use Rattle.accounts.specs.declared.Terms.{Terms}
use Rattle.book.specs.Book.{set, registers}
use Rattle.book.specs.Table.{Reply}
use Rattle.contract.specs.Posts.{CallPost, SetAllPost}
use Rattle.games.specs.Call.{numbers_in_range, game_target, game_bytes}
use Rattle.games.proofs.Call.{ranges_out}
use Rattle.game_calls.proofs.Leaves.{bytes_are}
use Rattle.exports.specs.Games.{ForceAllPost}

-- 3 comes before the bytes are looked at
bytes-free : (acc : Terms) (R : ℕ) (bs cs : List ℕ) {old new : List ℕ} {y : Reply} → CallPost (set acc registers R bs) old new y
    → CallPost (set acc registers R cs) old new y
bytes-free acc R bs cs p = record {
  performs = record {
    unsound = p.performs.unsound;
    served = λ s. let q = p.performs.served s in (
      q.0,
      record {
        shows = q.1.shows;
        agrees = q.1.agrees;
        numbers = q.1.numbers;
        rels = q.1.rels;
        valid = q.1.valid;
        kept = q.1.kept;
        swept = q.1.swept;
      },
    );
  };
  kept = λ s. let k = p.kept s in
      record { all = k.all; size = k.size; header = k.header; spare = k.spare; beyond = k.beyond; exact = k.exact };
}

pub force_from_set : (place r R goal guest machine : ℕ) {old new : List ℕ} {before after : List Account} {y : Reply}
    → SetAllPost place (game_target r goal guest machine) R (game_bytes (goal % 32) (guest % 8) (machine % 8)) old new before after y
    → ForceAllPost place r R goal guest machine old new before after y
force_from_set place r R goal guest machine {old} {new} {before} {after} {y} p =
    go (numbers_in_range goal guest machine) (λ e. bytes_are goal guest machine (ranges_out goal guest machine e)) p
  where
    go : (b : Bool) {bs cs : List ℕ} → (b ≡ true → bs ≡ cs) → SetAllPost place (cond b r registers) R bs old new before after y
        → SetAllPost place (cond b r registers) R cs old new before after y
    go true e p = subst (λ (xs : List ℕ). SetAllPost place r R xs old new before after y) (e refl) p
    go false e p = record { table = bytes-free _ R _ _ p.table; list = p.list }
