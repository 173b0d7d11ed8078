-- What the evaluator's functions ask of the words and promise of them, by name: `Asks` is a `Pre` and `Gives` a `Post` over the view, and
-- the counts are those of the table. Assumes nothing.
use Rattle.std.specs.Prelude.{List, ℕ, Result}
use Rattle.tokens.specs.Tokens.{only_now}
use Rattle.tokens.specs.declared.Grammar.{Grammar}
use Rattle.tokens.specs.declared.Join.{Join}
use Rattle.tokens.specs.declared.Leaf.{Leaf}
use Rattle.tokens.specs.declared.Mode.{Mode}
use Rattle.accounts.specs.declared.Count.{Count}
use Rattle.steps.specs.declared.Step.{Step}
use Rattle.table.specs.declared.Full.{Full}
use Rattle.counting.specs.declared.Taken.{Taken}
use Rattle.modal.specs.declared.Limits.{Limits}
use Rattle.modal.specs.Modal.{ModalPre}
use Rattle.modal.specs.Posts.{view_in, Counted}
use Rattle.evaluator.specs.declared.Body.{Body}
use Rattle.evaluator.specs.declared.Context.{Context}
use Rattle.evaluator.specs.declared.Stopped.{Stopped}
use Rattle.evaluator.specs.declared.Value.{Value}
use Rattle.evaluator.specs.Scene.{OverPost, LivePre, LivePost, JoinedPre, JoinedPost, ConfinedPre, ConfinedPost, LeafPre, LeafPost}
use Rattle.evaluator.specs.Scene.{EvalPre, EvalPost, NegatePost, BothPre, BothPost, ModePre, ModePost, ReachPre, ReachPost}
use Rattle.evaluator.specs.Scene.{FurtherPre, FurtherPost, KeepPre, KeepPost, RoundPre, RoundPost, TurnPre, TurnPost, BindPre}
use Rattle.evaluator.specs.Scene.{BindPost}
use Rattle.evaluator.specs.Whole.{WithinPre, WithinPost, SetPre, SetPost, PairsPre, PairsPost, RelationPost, OncePre, OncePost}

-- before a call
module _ (l : Limits) (words counts stack : List ℕ) where
  abbrev pub LiveAsks : (held : ℕ) (s : Step) → Type 0
  LiveAsks held s = Counted l words counts (LivePre l (view_in l words) stack held s)

  abbrev pub JoinedAsks : (held : ℕ) (j : Join) (a : ℕ) (second : Result Value Stopped) → Type 0
  JoinedAsks held j a second = Counted l words counts (JoinedPre l (view_in l words) stack held j a second)

  abbrev pub ConfinedAsks : (held : ℕ) (first : Result Taken Full) → Type 0
  ConfinedAsks held first = Counted l words counts (ConfinedPre l (view_in l words) stack held first)

  abbrev pub LeafAsks : (c : Context) (g : Grammar) (x : Leaf) → Type 0
  LeafAsks c g x = Counted l words counts (LeafPre g l (view_in l words) stack c x)

  abbrev pub ReachAsks : (c : Context) (t x end : ℕ) → Type 0
  ReachAsks c t x end = Counted l words counts (ReachPre l (view_in l words) stack c t x end)

  abbrev pub FurtherAsks : (c : Context) (t x : ℕ) → Type 0
  FurtherAsks c t x = Counted l words counts (FurtherPre l (view_in l words) stack c t x)

  abbrev pub EvalAsks : (bs : List ℕ) (c : Context) (g : Grammar) → Type 0
  EvalAsks bs c g = Counted l words counts (EvalPre g l (view_in l words) stack bs c)

  abbrev pub BothAsks : (bs : List ℕ) (c : Context) (g : Grammar) → Type 0
  BothAsks bs c g = Counted l words counts (BothPre g l (view_in l words) stack bs c)

  abbrev pub ModeAsks : (bs : List ℕ) (c : Context) (t : ℕ) → Type 0
  ModeAsks bs c t = Counted l words counts (ModePre l (view_in l words) stack bs c t)

  abbrev pub BindAsks : (bs : List ℕ) (c : Context) (b : Body) → Type 0
  BindAsks bs c b = Counted l words counts (BindPre l (view_in l words) stack bs c b)

  abbrev pub TurnAsks : (bs : List ℕ) (c : Context) (b : Body) (x : ℕ) → Type 0
  TurnAsks bs c b x = Counted l words counts (TurnPre l (view_in l words) stack bs c b x)

  abbrev pub KeepAsks : (bs : List ℕ) (c : Context) (t x : ℕ) → Type 0
  KeepAsks bs c t x = Counted l words counts (KeepPre l (view_in l words) stack bs c t x)

  abbrev pub RoundAsks : (bs : List ℕ) (c : Context) (middle t x : ℕ) → Type 0
  RoundAsks bs c middle t x = Counted l words counts (RoundPre l (view_in l words) stack bs c middle t x)

  abbrev pub OnceAsks : (bs : List ℕ) (x : ℕ) (q : Count) → Type 0
  OnceAsks bs x q = Counted l words counts (OncePre l (view_in l words) stack bs x q)

  abbrev pub WithinAsks : (a : ℕ) → Type 0
  WithinAsks a = Counted l words counts (WithinPre l (view_in l words) stack a)

  -- the live words are lent
  abbrev pub OverAsks : (relation a : ℕ) → Type 0
  OverAsks relation a = Counted l words counts (ModalPre l.bits l.rows l.limit (view_in l words) stack relation a)

-- after one that leaves the stack as it was, or says nothing of it
module _ (l : Limits) (before after counts stack : List ℕ) where
  abbrev pub LiveGives : (held : ℕ) (s : Step) (count : Count) (r : Result Taken Full) → Type 0
  LiveGives held s count r = Counted l after counts (LivePost l (view_in l before) (view_in l after) stack held s count r)

  abbrev pub JoinedGives : (held : ℕ) (j : Join) (a : ℕ) (second r : Result Value Stopped) → Type 0
  JoinedGives held j a second r = Counted l after counts (JoinedPost l (view_in l before) (view_in l after) stack held j a second r)

  abbrev pub ConfinedGives : (held : ℕ) (g : Grammar) (first r : Result Taken Full) → Type 0
  ConfinedGives held g first r = Counted l after counts (ConfinedPost (only_now g) l (view_in l before) (view_in l after) stack held first r)

  abbrev pub LeafGives : (c : Context) (g : Grammar) (x : Leaf) (r : Result Taken Full) → Type 0
  LeafGives c g x r = Counted l after counts (LeafPost g l (view_in l before) (view_in l after) stack c x r)

  abbrev pub ReachGives : (c : Context) (m : Mode) (t x end : ℕ) (r : Result Value Stopped) → Type 0
  ReachGives c m t x end r = Counted l after counts (ReachPost l (view_in l before) (view_in l after) stack c m t x end r)

  abbrev pub WithinGives : (a : ℕ) (count : Count) (r : Result Taken Full) → Type 0
  WithinGives a count r = Counted l after counts (WithinPost l (view_in l before) (view_in l after) stack a count r)

  abbrev pub OverGives : (m : Mode) (relation a : ℕ) (count : Count) (r : Result Taken Full) → Type 0
  OverGives m relation a count r =
      Counted l after counts (OverPost m l.bits l.rows l.limit (view_in l before) (view_in l after) stack relation a count r)

-- after one that may change the stack above its live words
module _ (l : Limits) (before after counts stack last : List ℕ) where
  abbrev pub FurtherGives : (c : Context) (m : Mode) (t x end : ℕ) (r : Result Value Stopped) → Type 0
  FurtherGives c m t x end r = Counted l after counts (FurtherPost l (view_in l before) (view_in l after) stack last c m t x end r)

  abbrev pub EvalGives : (bs : List ℕ) (c : Context) (g : Grammar) (r : Result Value Stopped) → Type 0
  EvalGives bs c g r = Counted l after counts (EvalPost g l (view_in l before) (view_in l after) stack last bs c r)

  abbrev pub NegateGives : (bs : List ℕ) (c : Context) (g : Grammar) (r : Result Value Stopped) → Type 0
  NegateGives bs c g r = Counted l after counts (NegatePost g l (view_in l before) (view_in l after) stack last bs c r)

  abbrev pub BothGives : (bs : List ℕ) (c : Context) (g : Grammar) (j : Join) (r : Result Value Stopped) → Type 0
  BothGives bs c g j r = Counted l after counts (BothPost g l (view_in l before) (view_in l after) stack last bs c j r)

  abbrev pub ModeGives : (bs : List ℕ) (c : Context) (m : Mode) (t : ℕ) (r : Result Value Stopped) → Type 0
  ModeGives bs c m t r = Counted l after counts (ModePost l (view_in l before) (view_in l after) stack last bs c m t r)

  abbrev pub BindGives : (bs : List ℕ) (c : Context) (b : Body) (r : Result Value Stopped) → Type 0
  BindGives bs c b r = Counted l after counts (BindPost l (view_in l before) (view_in l after) stack last bs c b r)

  abbrev pub TurnGives : (bs : List ℕ) (c : Context) (b : Body) (x : ℕ) (r : Result Value Stopped) → Type 0
  TurnGives bs c b x r = Counted l after counts (TurnPost l (view_in l before) (view_in l after) stack last bs c b x r)

  abbrev pub KeepGives : (bs : List ℕ) (c : Context) (m : Mode) (t x end : ℕ) (r : Result Value Stopped) → Type 0
  KeepGives bs c m t x end r = Counted l after counts (KeepPost l (view_in l before) (view_in l after) stack last bs c m t x end r)

  abbrev pub RoundGives : (bs : List ℕ) (c : Context) (middle : ℕ) (m : Mode) (t x : ℕ) (r : Result Value Stopped) → Type 0
  RoundGives bs c middle m t x r = Counted l after counts (RoundPost l (view_in l before) (view_in l after) stack last bs c middle m t x r)

  abbrev pub OnceGives : (bs : List ℕ) (x : ℕ) (q : Count) (r : Result Value Stopped) → Type 0
  OnceGives bs x q r = Counted l after counts (OncePost l (view_in l before) (view_in l after) stack last bs x q r)

-- a whole call's formula
module _ (l : Limits) (words bs : List ℕ) where
  abbrev pub SetAsks : Type 0
  SetAsks = SetPre l (view_in l words) bs

  abbrev pub PairsAsks : Type 0
  PairsAsks = PairsPre l (view_in l words) bs

module _ (l : Limits) (before after bs : List ℕ) where
  abbrev pub SetGives : (r : Result Value Stopped) → Type 0
  SetGives r = SetPost l (view_in l before) (view_in l after) bs r

  abbrev pub PairsGives : (r : Result Taken Full) → Type 0
  PairsGives r = PairsPost l (view_in l before) (view_in l after) bs r

  abbrev pub RelationGives : (r : Result Taken Full) → Type 0
  RelationGives r = RelationPost l (view_in l before) (view_in l after) bs r
