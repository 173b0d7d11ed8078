-- The search for a run: the first pass, then the run's states, where the list has room. Assumes nothing.
use Rattle.std.specs.Prelude.{◌≡◌, Bool, List, ◌∷◌, ℕ, ◌*◌, ◌^◌, ◌≤◌, ◌<◌, length, Result, Ok, Err}
use Rattle.layout.specs.Refusals.{refusal_number}
use Rattle.layout.specs.View.{View}
use Rattle.layout.specs.declared.Refusal.{Refusal}
use Rattle.layout.specs.declared.Refusal.TheVariants as refusal
use Rattle.diagram.specs.Post.{Denotes}
use Rattle.rows.specs.Used.{rows_of}
use Rattle.book.specs.Bridge.{fn_of}
use Rattle.book.specs.Table.{Reply}
use Rattle.book.specs.Leaves.{plain}
use Rattle.paths.specs.Runs.{Outcome, outcome, written, onward}
use Rattle.paths.specs.Call.{ends}
use Rattle.layers.specs.Scene.{Scene, Start}
use Rattle.layers.specs.Pass.{Steps}
use Rattle.routes.specs.Write.{Onward}

-- "For each answer that is an enum, a definition gives this paper's number and values for each of the enum's cases"
abbrev pub found_reply : Result ℕ Refusal → Reply
found_reply (Ok c) = record { number = 0; rounds = 0; peak = 0; value = c }
found_reply (Err e) = plain (refusal_number e)

-- the answer and the list are the outcome's
pub record Told (o : Outcome) (r : Result ℕ Refusal) (old new : List ℕ) : Type 0 where
  pub reply : found_reply r ≡ (ends o old).reply
  pub list : new ≡ (ends o old).list

-- ---- the run from its first state

pub record RunPre (n N limit : ℕ) (W : View) (t b d s : ℕ) : Type 0 where
  pub start : Start n N limit W t b
  pub scene : Scene n W t b
  pub ready : Onward limit scene d s
  pub few : d ≤ 65_537

-- the run l is written, or the list is too short
pub data RunTold (l old : List ℕ) : List ℕ → Result ℕ Refusal → Type 0 where
  is_written : length l ≤ length old → RunTold l old (written l old) (Ok (length l))
  is-short : length old < length l → RunTold l old old (Err refusal.Short)

abbrev pub run_of : {n : ℕ} {W : View} {t b : ℕ} → Scene n W t b → ℕ → ℕ → List ℕ
run_of {n} S d s = s ∷ onward (2 ^ n) S.R S.B d s

pub record RunDone (n limit : ℕ) (W X : View) (t b : ℕ) (S : Scene n W t b) (d s : ℕ) (old new : List ℕ)
    (r : Result ℕ Refusal) : Type 0 where
  pub steps : Steps n W X
  pub told : RunTold (run_of S d s) old new r

abbrev pub RunPost : ℕ → ℕ → View → View → ℕ → ℕ → ℕ → ℕ → List ℕ → List ℕ → Result ℕ Refusal → Type 0
RunPost n limit W X t b d s old new r = (S : Scene n W t b) → Onward limit S d s → RunDone n limit W X t b S d s old new r

-- ---- the whole search

pub record Finds (n limit : ℕ) (W X : View) (t b : ℕ) (S : Scene n W t b) (A : List Bool) (old new : List ℕ)
    (r : Result ℕ Refusal) : Type 0 where
  pub steps : Steps n W X
  pub told : Told (outcome n limit S.fs S.R A S.B (length old)) r old new

abbrev pub FindPost : ℕ → ℕ → View → View → ℕ → ℕ → ℕ → List ℕ → List ℕ → Result ℕ Refusal → Type 0
FindPost n limit W X t a b old new r =
    (S : Scene n W t b) (A : List Bool) → Denotes (2 * n) (rows_of W) a (fn_of n A) → Finds n limit W X t b S A old new r
