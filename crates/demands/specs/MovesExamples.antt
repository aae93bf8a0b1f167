-- The premises of request 2026-06's theorems are met, by computation: calls of both moves for `POINT(1 2)` that are not refused, and calls that are: by the reading side, with 27 and with 23.
use Rattle.std.specs.Prelude.{refl, ℕ, replicate}
use mathlib.Core.List.{List, [], ◌∷◌, ◌++◌, flat_map}
use Rattle.std.proofs.Common.{arith}
use Rattle.lists.specs.Lists.{every}
use Rattle.scan.specs.Front.{begins, after_one, after_all, is_nil}
use Rattle.words.specs.Words.{same_word}
use Rattle.kinds.specs.Kinds.{width}
use Rattle.number.specs.Lexeme.{is_named, is_digits, is_exponent, is_decimal, is_unsigned, is_lexeme}
use Rattle.store.specs.Rows.{cell, firsts, rows_in, spans_in, flat_rows, flat_spans}
use Rattle.tree.specs.Tree.{rows_with}
use Rattle.tree.specs.TreeIn.{on_front, as_a, times, find_text, find_row, exactly_one, at_most_one, find_parts, find_node, whole}
use Rattle.shape.specs.Numbers.{are_numbers}
use Rattle.shape.specs.Store.{are_whole, tree_of, well_formed}
use Rattle.fields.specs.Counts.{count_after, count_bytes}
use Rattle.fields.specs.Fields.{field, length_in, is_field, is_sized}
use Rattle.stored_form.specs.declared.Version.{Version}
use Rattle.stored_form.specs.Form.{version1, version2, Known, head_field, node_field, number_field, stored_rows, fits_rows, stored_of}
use Rattle.stored_form.specs.Reading.{is_other_version, head_in, fields_from, place_after, roomed, checked, reading_of}
use Rattle.stored_moves.specs.declared.MoveAnswer.{MoveAnswer}
use Rattle.stored_moves.specs.Moving.{moving_of}
use Rattle.demands.specs.Moves.{Move}

-- `POINT(1 2)` in version 1 and in version 2
low_form : List ℕ
low_form = 1 ∷ 0 ∷ 5 ∷ 1 ∷ 0 ∷ 1 ∷ 0 ∷ 2 ∷ 2 ∷ 0 ∷ 4 ∷ 1 ∷ 0 ∷ 0 ∷ 1 ∷ 3 ∷ 0 ∷ 1 ∷ 49 ∷ 3 ∷ 0 ∷ 1 ∷ 50 ∷ []

high_form : List ℕ
high_form = 1 ∷ 0 ∷ 9 ∷ 2 ∷ 0 ∷ 0 ∷ 0 ∷ 1 ∷ 0 ∷ 0 ∷ 0 ∷ 2 ∷ 2 ∷ 0 ∷ 6 ∷ 1 ∷ 0 ∷ 0 ∷ 0 ∷ 0 ∷ 1 ∷ 3 ∷ 0 ∷ 1 ∷ 49 ∷ 3 ∷ 0 ∷ 1 ∷ 50 ∷ []

-- a version that may be, and that holds 19 bytes
tiny : Version
tiny = record { number = 9; width = 1; largest = 255; limit = 19 }

all : ℕ
unfolding low_form high_form tiny flat_map every begins after_one after_all is_nil same_word is_named is_digits is_exponent is_decimal is_unsigned is_lexeme width cell firsts rows_in spans_in flat_rows flat_spans rows_with on_front as_a times find_text find_row exactly_one at_most_one find_parts find_node whole are_numbers are_whole tree_of well_formed count_after count_bytes field length_in is_field is_sized head_field node_field number_field stored_rows fits_rows stored_of is_other_version head_in fields_from place_after roomed checked reading_of moving_of
all = 0

abbrev answered : ℕ → MoveAnswer
answered n = record { number = 0; place = 0; length = n; nodes = 1; numbers = 2 }

abbrev refused_with : ℕ → ℕ → MoveAnswer
refused_with number place = record { number = number; place = place; length = 0; nodes = 0; numbers = 0 }

-- up, and what was moved back, with a place and a byte to spare
up_and_back : Move version1 version2 low_form (replicate 4 7) (replicate 5 7) 30 (answered 29) (1 ∷ 0 ∷ 1 ∷ 0 ∷ []) (18 ∷ 1 ∷ 22 ∷ 1 ∷ 0 ∷ []) (high_form ++ (0 ∷ []))
    × Move version2 version1 high_form (replicate 4 7) (replicate 5 7) 24 (answered 23) (1 ∷ 0 ∷ 1 ∷ 0 ∷ []) (24 ∷ 1 ∷ 28 ∷ 1 ∷ 0 ∷ []) (low_form ++ (0 ∷ []))
unfolding all
up_and_back = (record { answer = refl; nodes = refl; numbers = refl; output = refl }, record { answer = refl; nodes = refl; numbers = refl; output = refl })

-- the reading side's refusal (with 23 at fault too), 27 (with 23 at fault too), and 23
refused_moves : Move version1 version2 high_form (7 ∷ 7 ∷ []) (7 ∷ []) 2 (refused_with 26 3) (0 ∷ 0 ∷ []) (0 ∷ []) (0 ∷ 0 ∷ [])
    × Move version2 tiny high_form (replicate 4 7) (replicate 5 7) 2 (refused_with 27 0) (replicate 4 0) (replicate 5 0) (0 ∷ 0 ∷ [])
    × Move version2 version1 high_form (replicate 4 7) (replicate 5 7) 22 (refused_with 23 0) (replicate 4 0) (replicate 5 0) (replicate 22 0)
unfolding all
refused_moves = (record { answer = refl; nodes = refl; numbers = refl; output = refl }, record { answer = refl; nodes = refl; numbers = refl; output = refl }, record { answer = refl; nodes = refl; numbers = refl; output = refl })

tiny_may_be : Known tiny
unfolding all
tiny_may_be = record { named = omega arith; narrow = omega arith; counts = refl; limited = omega arith }
