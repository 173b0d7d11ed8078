-- The leaves of the calls, and the second call from the rounds to the book's answer. Assumes nothing.
use mathlib.Core.Path.{◌≡◌, refl, sym, ap, ap₂, ◌∙◌, subst}
use mathlib.Core.Bool.{Bool, true, false, not, cond, ◌&&◌}
use mathlib.Core.List.{List}
use Prim.Native.Nat.{ℕ, ◌*◌, ◌%◌, ◌^◌, ◌≤◌, ◌<◌}
use native.Mathlib.Omega.{arith}
use lib.Dec.{T, ltb, ltb→lt, lt→ltb}
use Rattle.std.specs.Prelude.{Result, Ok, Err}
use Rattle.accounts.specs.declared.Count.{Count}
use Rattle.accounts.specs.declared.Terms.{Terms}
use Rattle.accounts.specs.Terms.{rows_under, rounds_under}
use Rattle.mucalculus.proofs.Sets.{true_of, false_of, and_in}
use Rattle.mucalculus.specs.Form.{Pairs, filled as has_content}
use Rattle.layout.specs.Places.{BITS, ROWS}
use Rattle.layout.specs.declared.Refusal.{Refusal}
use Rattle.layout.specs.declared.Refusal.TheVariants as refusal
use Rattle.layout.specs.View.{View, view, header_of}
use Rattle.diagram.specs.Rows.{Arrow}
use Rattle.diagram.specs.Post.{Denotes}
use Rattle.rows.specs.Used.{rows_of}
use Rattle.rows.specs.Sound.{Sound, table_of}
use Rattle.collect.specs.Answers.{FreeManyPost}
use Rattle.collect.proofs.Answers.{sound-base}
use Rattle.book.specs.Bridge.{fn_of, fn_of_pairs}
use Rattle.book.specs.Ticks.{Verdict, counted}
use Rattle.book.specs.Book.{Book, registers, relations, reg_filled, rel_filled}
use Rattle.book.specs.Table.{Shows}
use Rattle.book.specs.BookOf.{book_of}
use Rattle.book.proofs.BookOf.{shows-book_of}
use Rattle.book.specs.Leaves.{valued}
use Rattle.contract.specs.Seen.{seen}
use Rattle.contract.proofs.Seen.{sound-table}
use Rattle.modal.specs.declared.Limits.{Limits}
use Rattle.formula_steps.proofs.Evaluated.{and_no}
use Rattle.formula_steps.proofs.After.{After, freed, register-is, relation-is}
use Rattle.seek.specs.Walk.{HoldsPre}
use Rattle.games.specs.Game.{open_move, answerable, answer_to}
use Rattle.games.specs.Call.{numbers_in_range, game_target, game_bytes, presses, reactions, goals, all_filled, verdict_reply}
use Rattle.games.proofs.Call.{Ranges}
use Rattle.game_steps.specs.declared.Asked.{Asked}
use Rattle.evaluator.specs.declared.Stopped.{Stopped}
use Rattle.evaluator.specs.declared.Stopped.TheVariants as stopped
use Rattle.game_steps.specs.Iterate.{AnswerNoted}
use Rattle.game_steps.specs.Whole.{Given, RoundsPre, RoundsPost, RoundsSay, is_made, is-full, is_spent}
use Rattle.layers.proofs.Pass.{set_holds}
use Rattle.game_steps.proofs.Standing.{pair-holds, place-holds}
use Rattle.game_calls.specs.Reacting.{response_reply, open_move_at, response_of, ReactingPre, Reacting}

-- ---- in_range

module _ (goal guest machine : ℕ) where
  pub range-goal : registers ≤ goal → false ≡ numbers_in_range goal guest machine
  range-goal l =
      sym (ap (λ (b : Bool). b && (ltb guest relations && ltb machine relations))
      (false_of (ltb goal registers) (λ h. let i = ltb→lt goal registers h in omega arith)))

  pub range-guest : relations ≤ guest → false ≡ numbers_in_range goal guest machine
  range-guest l =
      sym (ap (λ (b : Bool). ltb goal registers && (b && ltb machine relations))
      (false_of (ltb guest relations) (λ h. let i = ltb→lt guest relations h in omega arith)) ∙ and_no (ltb goal registers))

  pub range-machine : relations ≤ machine → false ≡ numbers_in_range goal guest machine
  range-machine l =
      sym (ap (λ (b : Bool). ltb goal registers && (ltb guest relations && b))
      (false_of (ltb machine relations) (λ h. let i = ltb→lt machine relations h in omega arith))
      ∙ ap (λ (b : Bool). ltb goal registers && b) (and_no (ltb guest relations)) ∙ and_no (ltb goal registers))

  pub range-yes : goal < registers → guest < relations → machine < relations → true ≡ numbers_in_range goal guest machine
  range-yes g p m =
      sym (true_of (numbers_in_range goal guest machine)
      (and_in (ltb goal registers) _ (lt→ltb goal registers g)
      (and_in (ltb guest relations) _ (lt→ltb guest relations p) (lt→ltb machine relations m))))

  -- ---- game_target

  module _ (r : ℕ) {b : Bool} (e : b ≡ numbers_in_range goal guest machine) where
    pub target_in : b ≡ true → r ≡ game_target r goal guest machine
    target_in t = ap (λ (c : Bool). cond c r registers) (sym t ∙ e)

    pub target_out : b ≡ false → registers ≡ game_target r goal guest machine
    target_out t = ap (λ (c : Bool). cond c r registers) (sym t ∙ e)

  -- ---- game_bytes

  -- numbers in range are what is left of them
  pub bytes_are : Ranges goal guest machine → game_bytes (goal % 32) (guest % 8) (machine % 8) ≡ game_bytes goal guest machine
  bytes_are i =
      let g = i.goal_in in
      let p = i.guest_in in
      let m = i.machine_in in
      let eg : goal % 32 ≡ goal = omega arith in
      let ep : guest % 8 ≡ guest = omega arith in
      let em : machine % 8 ≡ machine = omega arith in rw (eg, ep, em) refl

-- ---- is_open_move

pub open_move-no : (g q : Bool) {r : Bool} → r ≡ g → r ≡ true → false ≡ (not g && q)
open_move-no g q e t = ap (λ (b : Bool). not b && q) (sym t ∙ e)

pub open_move-yes : (g q : Bool) {r p : Bool} → r ≡ g → r ≡ false → p ≡ q → p ≡ (not g && q)
open_move-yes g q e f h = h ∙ ap (λ (b : Bool). not b && q) (sym f ∙ e)

-- ---- respond

module _ (n : ℕ) where
  pub response_full : {w : Result ℕ Stopped} → w ≡ Err stopped.Full → response_of n (Err stopped.Full) ≡ response_of n w
  response_full e = ap (response_of n) (sym e)

  pub response_spent : {w : Result ℕ Stopped} → w ≡ Err stopped.Spent → response_of n (Err stopped.Spent) ≡ response_of n w
  response_spent e = ap (response_of n) (sym e)

  module _ (u : ℕ) {w : Result ℕ Stopped} (e : w ≡ Ok u) {states : ℕ} (p : states ≡ 2 ^ n) where
    response_by : {b : Bool} → ltb u (2 ^ n) ≡ b → cond b (Ok u) (Err refusal.NoAnswer) ≡ response_of n w
    response_by h = ap (λ (b : Bool). cond b (Ok u) (Err refusal.NoAnswer)) (sym h) ∙ ap (response_of n) (sym e)

    pub response_state : u < states → Ok u ≡ response_of n w
    response_state l = response_by (true_of (ltb u (2 ^ n)) (lt→ltb u (2 ^ n) (omega arith)))

    pub response_none : states ≤ u → Err refusal.NoAnswer ≡ response_of n w
    response_none l = response_by (false_of (ltb u (2 ^ n)) (λ h. let i = ltb→lt u (2 ^ n) h in omega arith))

-- ---- the answer, from what was heard

module _ (k : ℕ) (G M : Pairs) (B : List Bool) (s t n : ℕ) (e : k ≡ 2 ^ n) where
  made-is : (p : Count) (x : ℕ) → AnswerNoted k G M B s t x → (b : Bool) → answerable k G M B s t ≡ b
      → response_reply (response_of n (Ok x)) ≡ verdict_reply (counted p) b (answer_to k G M B s t)
  made-is p x h false i =
      let z : x ≡ k = h.none i in
      ap (λ (c : Bool). response_reply (cond c (Ok x) (Err refusal.NoAnswer)))
      (false_of (ltb x (2 ^ n)) (λ j. let l = ltb→lt x (2 ^ n) j in omega arith))
  made-is p x h true i =
      let w = h.found (subst T (sym i) tt) in
      let l = w.1 in
      ap (λ (c : Bool). response_reply (cond c (Ok x) (Err refusal.NoAnswer))) (true_of (ltb x (2 ^ n)) (lt→ltb x
      (2 ^ n) (omega arith)))
      ∙ ap valued w.0

  pub reply-is : {v : Verdict} {w : Result ℕ Stopped} → RoundsSay (AnswerNoted k G M B s t) v w
      → response_reply (response_of n w) ≡ verdict_reply v (answerable k G M B s t) (answer_to k G M B s t)
  reply-is is-full = refl
  reply-is is_spent = refl
  reply-is (is_made {q = p} {x = x} h) = made-is p x h (answerable k G M B s t) refl

-- ---- the second call after its checks

abbrev pub limits_of : ℕ → ℕ → ℕ → ℕ → Limits
limits_of bits rows limit rounds = record { bits = bits; rows = rows; limit = limit; rounds = rounds }

abbrev pub asked_of : ℕ → ℕ → ℕ → Bool → Asked
asked_of z s t o = record { machine = z; state = s; press = t; open_move = o }

module _ {old : List ℕ} {goal guest machine x y z s t : ℕ} (p : ReactingPre old goal guest machine x y z s t) where
  abbrev W : View
  W = table_of old

  abbrev bk : Book
  bk = book_of (seen old)

  abbrev n : ℕ
  n = header_of old BITS

  shows : Shows bk (seen old)
  shows = shows-book_of (seen old) (sound-table W p.sound)

  goal-denotes : Denotes (2 * n) (rows_of W) x (fn_of n (goals bk goal))
  goal-denotes = place-holds (fn_of n) (bk.reg goal) p.goal-is (shows.reg goal p.goal_in)

  guest-denotes : Denotes (2 * n) (rows_of W) y (fn_of_pairs n (presses bk guest))
  guest-denotes = place-holds (fn_of_pairs n) (bk.rel guest) p.guest-is (shows.rel guest p.guest_in)

  walk : {c : ℕ} → Arrow (rows_of W) c → HoldsPre W c
  walk u = record { mark = record { base = sound-base p.sound; arrow = u }; bits = p.sound.good.sizes.n_max }

  pub open_move-asks : {rows : ℕ} → rows ≡ header_of old ROWS → HoldsPre (view rows old) x × HoldsPre (view rows old) y
  open_move-asks {rows} er = subst (λ (N : ℕ). HoldsPre (view N old) x × HoldsPre (view N old) y) (sym er) (
    walk goal-denotes.arrow,
    walk
        guest-denotes.arrow,
  )

  open_move-is : {rows : ℕ} {ok : Bool} → rows ≡ header_of old ROWS → ok ≡ open_move_at (view rows old) x y s t
      → ok ≡ open_move (presses bk guest) (goals bk goal) s t
  open_move-is {rows} {ok} er e =
      subst (λ (N : ℕ). ok ≡ open_move_at (view N old) x y s t) er e
      ∙ ap₂ (λ (a c : Bool). not a && c) (set_holds n W (goals bk goal) refl goal-denotes s p.state)
      (pair-holds n W (presses bk guest) refl guest-denotes s t p.state p.press)

  pub bytes-made : {xs : List ℕ} → xs ≡ game_bytes (goal % 32) (guest % 8) (machine % 8) → xs ≡ game_bytes goal guest machine
  bytes-made e =
      e ∙ bytes_are goal guest machine (record { goal_in = p.goal_in; guest_in = p.guest_in; machine_in = p.machine_in })

  all_filled_lem : all_filled bk goal guest machine ≡ true
  all_filled_lem =
      true_of (all_filled bk goal guest machine)
      (and_in (reg_filled bk goal) _ (and_in (ltb goal registers) _ (lt→ltb goal registers p.goal_in)
      (subst T (sym (ap has_content (register-is old p.goal_in (sym p.goal-is)))) tt))
      (and_in (rel_filled bk guest) _ (and_in (ltb guest relations) _ (lt→ltb guest relations p.guest_in)
      (subst T (sym (ap has_content (relation-is old p.guest_in (sym p.guest-is)))) tt))
      (and_in (ltb machine relations) _ (lt→ltb machine relations p.machine_in)
      (subst T (sym (ap has_content (relation-is old p.machine_in (sym p.machine-is)))) tt))))

  given : {bits limit rounds : ℕ} {bs : List ℕ} {o : Bool} → bits ≡ n → bs ≡ game_bytes goal guest machine
      → o ≡ open_move (presses bk guest) (goals bk goal) s t
      → Given (limits_of bits (header_of old ROWS) limit rounds) W bs (asked_of z s t o) goal guest machine
  given {bits} eb es eo = record {
    goal_in = p.goal_in;
    guest_in = p.guest_in;
    machine_in = p.machine_in;
    filled = all_filled_lem;
    bytes = es;
    machine-is = p.machine-is;
    state = subst (λ (m : ℕ). s < 2 ^ m) (sym eb) p.state;
    press = subst (λ (m : ℕ). t < 2 ^ m) (sym eb) p.press;
    open_is = eo;
  }

  module _ {rows bits limit rounds : ℕ} (acc : Terms) (R : ℕ) (er : rows ≡ header_of old ROWS) (eb : bits ≡ n)
      (el : limit ≡ rows_under rows acc) (em : rounds ≡ rounds_under R acc) {bs : List ℕ} (es : bs ≡ game_bytes goal guest machine)
      {o : Bool} (eo : o ≡ open_move_at (view rows old) x y s t) where
    pub game_asks : RoundsPre (limits_of bits rows limit rounds) (view rows old) bs (asked_of z s t o)
    game_asks = rw (el, er) (record {
      sound = p.sound;
      bits = eb;
      rows = refl;
      limit = omega arith;
      goal = goal;
      guest = guest;
      machine = machine;
      given = given eb es (open_move-is er eo);
    })

    module _ {Y : View} {w : Result ℕ Stopped}
        (v : RoundsPost (limits_of bits rows limit rounds) (view rows old) Y bs (asked_of z s t o) w) where
      post : RoundsPost (limits_of bits (header_of old ROWS) (rows_under (header_of old ROWS) acc) (rounds_under R acc)) W Y bs
          (asked_of z s t o) w
      post = rw er at (rw (el, em) at v)

      pub freeing : Sound Y
      freeing = (post goal guest machine (given eb es (open_move-is er eo))).sound

      pub game_done : {new : List ℕ} → FreeManyPost Y (view rows new) → {r : Result ℕ Refusal} → r ≡ response_of bits w
          → Reacting acc R goal guest machine s t old new (response_reply r)
      game_done {new} f {r} e =
          let q = post goal guest machine (given eb es (open_move-is er eo)) in
          let a : After W (view (header_of old ROWS) new) = freed (record { sound = q.sound; frame = q.frame; kept = q.kept })
          (rw er at f) in
          record {
            sound = a.sound;
            frame = a.frame;
            kept = a.kept;
            reply = ap response_reply e
                ∙ ap (λ (m : ℕ). response_reply (response_of m w)) eb
                ∙ reply-is (2 ^ n) (presses bk guest) (reactions bk machine) (goals bk goal) s t n refl q.says;
          }
