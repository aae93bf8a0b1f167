-- What every walk over a reader says of it: the struct's type, its laws and its machine values, and the types of a code's locals.
-- Assumes nothing: these are definitions.
use Prim.Native.Nat.{ℕ}
use mathlib.Core.List.{List, [], ◌∷◌}
use lib.ListN.{length}
use mir.Syntax.{Lifetime, named, Local, local, value_local, Ty}
use mir.Val.{Val}
use base.Fml.{Lft, Fml}
use contract.Lifetimes.{Lfts}
use denote.RattleType.{RattleType}
use denote.Memory.{pointee}
use denote.Builtin.{u8}
use denote.Ref.{Bor, NamedLft}
use denote.Signature.{named_lft}
use denote.Slice.{slice_val, ShrSlice}
use denote.Struct.Declared.{Declared}
use denote.Struct.Laws as LL
use Rattle.token_reader.specs.declared.Tokens.{Tokens}
use Rattle.tokenizer.specs.declared.Cursor.{Cursor}
use Rattle.tokenizer.specs.contracts.Cursor as K
use Rattle.tokenizer.proofs.Cursor.TheLaws as K'
use Rattle.token_reader.specs.contracts.Tokens as T
use Rattle.token_reader.proofs.Tokens.TheLaws as T'

-- a reader whose text is lent for κ, which the code names ℓ
module _ (ℓ : Lifetime) (κ : Lft) where
  abbrev pub α : NamedLft
  α = record { mir = ℓ; lft = κ }

  abbrev pub D : Declared
  D = T.the_type α

  abbrev pub L : LL.Laws D
  L = T'.the_laws α

  abbrev pub R : RattleType
  R = T.the_row α

  -- its machine value, and what it owns
  abbrev pub mach : Tokens → Val
  mach h = LL.val D L h

  abbrev pub own : Tokens → Fml
  own h = R.own_val h (mach h ∷ [])

-- its type, over the lifetimes of a signature that has one
abbrev pub B : Lfts 1 → RattleType
B κs = T.the_row (named_lft 1 0 tt κs)

-- the machine values of a cursor and of a text
abbrev pub kval : Cursor → Val
kval c = LL.val K.the_type K'.the_laws c

abbrev pub tval : Bor (List ℕ) → Val
tval s = slice_val s.ref_ptr (length s.now)

-- what a text owns that is lent for κ
abbrev pub text_own : Lft → Bor (List ℕ) → Fml
text_own κ s = (ShrSlice (named 0) κ u8).own_val s (tval s ∷ [])

-- a local that is no memory, and a slice in one
abbrev pub by_value : Ty → Local
by_value t = local t value_local

abbrev pub slice : Lifetime → Ty
slice ℓ = pointee (ShrSlice ℓ [] u8).written
