-- A local array, lent as a `&[u8]` for a lifetime that is made for a call, and back as room. Assumes `Logic`.
use mathlib.Core.Path.{refl}
use Prim.Native.Nat.{ℕ}
use mathlib.Core.List.{List, [], ◌∷◌}
use lib.ListN.{length}
use seplogic.Ra.Ura.{Ura}
use base.Fraction.{full_share}
use mir.Syntax.{Ty, Lifetime, ty_array, ty_int, w8}
use mir.Val.{Val}
use base.Logic.{ent, sep, ex}
use base.Fml.{Lft, Fml, fsep, fat, fdead, flent, Incl}
use ghost.Rules.{Toks, span}
use types.Logic.{Logic, sem, lfts}
use types.Kit.{‵, raw, ◌$◌, ◌∵◌, !, qed, by, move, keep, use1, rewrite, fsplit, fjoin, fpick, fpack, feq_l, updating, now as at_once, done}
use types.Run.{forget}
use types.Tokens.{lent_back}
use types.Share.{arr_parts}
use denote.Array.{Array, array_val}
use denote.ArrayMemory.{Array-apart, Array-whole}
use denote.Builtin.{u8}
use denote.Lend.{LentShrs, lends_shr_slice}
use denote.Memory.{cell_at, part_at, part_of, shares, shared_of}
use denote.Shares.{SharesAsFrom}
use denote.Slice.{Room}

-- the array's type, and what is lent
abbrev pub bytes_ty : List ℕ → Ty
bytes_ty xs = ty_array (ty_int w8) (length xs)

abbrev pub Held : List ℕ → ℕ → Fml
Held xs b = (arr_parts (shares u8) (length xs)).part full_share xs b 0

module _ {M : Type 1} {𝓤 : Ura M} (𝓛 : Logic 𝓤) (κ : Lft) (xs : List ℕ) (b : ℕ) where
  open 𝓛 use {H, A}

  -- With what today's kit asks of a loan: that u8 is shared from l on, and tokens whose span lies in l and in κ, which come back.
  pub lends : (ℓ : Lifetime) (u : Val) → Room u8 (length xs) → (l : Lft) → SharesAsFrom 𝓛 full_share u8 (shared_of u8) l
      → (ts : Toks) → Incl (span ts) l → Incl (span ts) κ
      → ent 𝓤 (sep 𝓤 (H.at full_share (bytes_ty xs) b 0 u) (sep 𝓤 (sem 𝓛 ((Array u8 (length xs)).own_val xs (u ∷ []))) (lfts 𝓛 ts)))
      (H.⇛ (sep 𝓤 (LentShrs 𝓛 u8 ℓ κ full_share xs b 0) (lfts 𝓛 ts)))
  unfolding part_of
  lends ℓ u room l s ts inc sp =
      qed 𝓛 (‵ (fat full_share (bytes_ty xs) b 0 u) ∷ ‵ ((Array u8 (length xs)).own_val xs (u ∷ [])) ∷ raw (lfts 𝓛 ts) ∷ [])
      {P = H.⇛ (sep 𝓤 (LentShrs 𝓛 u8 ℓ κ full_share xs b 0) (lfts 𝓛 ts))} ∵
      use1 𝓛 (‵ (cell_at full_share (bytes_ty xs ∷ []) (u ∷ []) b 0)) (𝓛.laws.at_raw full_share (bytes_ty xs) b 0 u) $ fjoin ! $
      fpack ! (List Val) (λ vs. fsep (cell_at full_share (bytes_ty xs ∷ []) vs b 0) ((Array u8 (length xs)).own_val xs vs)) (u ∷ []) $
      use1 𝓛 (‵ (Held xs b)) (Array-apart 𝓛 u8 full_share tt (length xs) xs b 0) $
      by ! (lends_shr_slice 𝓛 u8 ℓ κ full_share xs b 0 room l s ts inc sp)

  pub back : ent 𝓤 (sep 𝓤 (A.dead κ) (A.lent κ (Held xs b))) (H.⇛ (H.room (bytes_ty xs) b 0))
  unfolding part_of
  back =
      qed 𝓛 (‵ (fdead κ) ∷ ‵ (flent κ (Held xs b)) ∷ []) {P = H.⇛ (H.room (bytes_ty xs) b 0)} ∵
      updating ! $ lent_back ! tt $
      use1 𝓛 (‵ (part_at (Array u8 (length xs)) full_share xs b 0)) (Array-whole 𝓛 u8 full_share (length xs) xs b 0) $
      fpick ! (λ vs. fsplit ! $ move ! (1 ∷ []) $ fpick ! (λ us. fsplit ! $ fsplit ! $ feq_l ! (λ e. feq_l ! (λ l.
      rewrite ! 1 (λ (ws : List Val). ‵ (cell_at full_share (bytes_ty xs ∷ []) ws b 0)) e refl $ move ! (1 ∷ []) $
      use1 𝓛 (‵ (fat full_share (bytes_ty xs) b 0 (array_val us))) (𝓛.laws.raw_at full_share (bytes_ty xs) b 0 (array_val us)) $
      forget ! 0 refl $ at_once ! $ keep ! (0 ∷ []) $ done !))))
