-- The lifetime of a loan that ends before another: a new lifetime's token and a token of κ make one of both together, for the loan, beside one of κ.
-- Once the loan is over, both are had again as they were.
-- Assumes nothing but `Logic`.
use Prim.Native.Nat.{ℕ}
use mathlib.Core.List.{[], ◌∷◌}
use seplogic.Ra.Ura.{Ura}
use base.Fraction.{full_share, left, right}
use base.Logic.{SProp, ent, sep, wand, apply∗}
use base.Fml.{Lft, Share, flft}
use types.Logic.{Logic}
use types.Kit.{‵, raw, ◌⊛◌, ◌$◌, ◌∵◌, !, qed, move, use1, use2, split, done}

module _ {M : Type 1} {𝓤 : Ura M} (𝓛 : Logic 𝓤) (a : ℕ) (κ : Lft) (q : Share) where
  -- what is kept while the loan stands: the way back to the new lifetime's whole token
  open 𝓛 use {A}

  abbrev pub Back : SProp 𝓤
  Back = wand 𝓤 (A.lft (a ∷ []) (left q)) (A.lft (a ∷ []) full_share)

  pub begins : ent 𝓤 (sep 𝓤 (A.lft (a ∷ []) full_share) (A.lft κ q)) (sep 𝓤 (A.lft (a ∷ κ) (left q)) (sep 𝓤 (A.lft κ (right q)) Back))
  begins =
      qed 𝓛 (‵ (flft (a ∷ []) full_share) ∷ ‵ (flft κ q) ∷ []) ∵
      use1 𝓛 (‵ (flft (a ∷ []) (left q)) ⊛ raw Back) (𝓛.lfts.lft_carve a (left q)) $ split ! $
      move ! (2 ∷ []) $ use1 𝓛 (‵ (flft κ (left q)) ⊛ ‵ (flft κ (right q))) (𝓛.lfts.lft_split κ q) $ split ! $
      -- [κ's left half; its right half; the new lifetime's; the way back]
      move ! (2 ∷ 0 ∷ []) $ use2 𝓛 (‵ (flft (a ∷ κ) (left q))) (𝓛.lfts.lft_meet (a ∷ []) κ (left q)) $ done !

  pub ends : ent 𝓤 (sep 𝓤 (A.lft (a ∷ κ) (left q)) (sep 𝓤 (A.lft κ (right q)) Back)) (sep 𝓤 (A.lft (a ∷ []) full_share) (A.lft κ q))
  ends =
      qed 𝓛 (‵ (flft (a ∷ κ) (left q)) ∷ ‵ (flft κ (right q)) ∷ raw Back ∷ []) ∵
      use1 𝓛 (‵ (flft (a ∷ []) (left q)) ⊛ ‵ (flft κ (left q))) (𝓛.lfts.lft_unmeet (a ∷ []) κ (left q)) $ split ! $
      -- [the new lifetime's; κ's left half; its right half; the way back]
      move ! (1 ∷ 2 ∷ []) $ use2 𝓛 (‵ (flft κ q)) (𝓛.lfts.lft_join κ q) $
      move ! (1 ∷ 2 ∷ []) $ use2 𝓛 (‵ (flft (a ∷ []) full_share)) (apply∗ 𝓤 (A.lft (a ∷ []) (left q)) (A.lft (a ∷ []) full_share)) $ done !
