-- Which X or Y is refused (request 2026-03): "at the text of the first offending X or Y 30 for inf or nan, 31 for an exponent beyond 9,999 either way or a scaled size
-- over 10^17".
use Rattle.std.specs.Prelude.{◌≡◌, true, false, ℕ, ◌+◌, length}
use mathlib.Core.List.{List, ◌∷◌, ◌++◌, flat_map}
use Rattle.lists.specs.Lists.{All}
use Rattle.refusals.specs.Refusals.{no_finite_number, number_too_large}
use Rattle.scan.specs.Bytes.{is_sign}
use Rattle.scan.specs.Front.{after_one}
use Rattle.number.specs.Lexeme.{is_named}
use Rattle.store.specs.Rows.{span_start_at}
use Rattle.tree.specs.Tree.{Coord, coord_texts}
use Rattle.decimal.specs.Decimal.{written}
use Rattle.decimal.specs.Units.{is_far, is_large}
use Rattle.node_boxes.specs.Boxes.{x_text, y_text}

-- ---- one number's text: what is wrong with it, or nothing is
pub data Offence (l : List ℕ) : ℕ → Type 0 where
  -- "30 for inf or nan"
  not_finite : is_named (after_one is_sign l) ≡ true → Offence l no_finite_number
  -- "31 for an exponent beyond 9,999 either way"
  too_far : is_named (after_one is_sign l) ≡ false → is_far (written l) ≡ true → Offence l number_too_large
  -- "or a scaled size over 10^17"
  too_large : is_named (after_one is_sign l) ≡ false → is_far (written l) ≡ false → is_large (written l) ≡ true → Offence l number_too_large

pub record Clean (l : List ℕ) : Type 0 where
  pub no_word : is_named (after_one is_sign l) ≡ false
  pub near : is_far (written l) ≡ false
  pub small : is_large (written l) ≡ false

-- ---- a coordinate whose numbers stand from the number row k on: "the place of 30 and 31 is the span's start"
pub data AtFault (numbers : List ℕ) (k : ℕ) (c : Coord) : ℕ → ℕ → Type 0 where
  in_x : {number : ℕ} → Offence (x_text c) number → AtFault numbers k c number (span_start_at numbers k)
  in_y : {number : ℕ} → Clean (x_text c) → Offence (y_text c) number → AtFault numbers k c number (span_start_at numbers (k + 1))

pub record CleanCoord (c : Coord) : Type 0 where
  pub x : Clean (x_text c)
  pub y : Clean (y_text c)

-- ---- "the first offending X or Y", in number order: none of the coordinates before it offends
pub record FirstAtFault (numbers : List ℕ) (cs : List Coord) (number place : ℕ) : Type 0 where
  pub before : List Coord
  pub one : Coord
  pub after : List Coord
  pub is : cs ≡ before ++ one ∷ after
  pub clean : All CleanCoord before
  pub fault : AtFault numbers (length (flat_map coord_texts before)) one number place
