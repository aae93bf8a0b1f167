-- Worked examples of this crate's definitions, by computation.
use Rattle.std.specs.Prelude.{◌≡◌, refl, ℕ}
use mathlib.Core.List.{List, [], ◌∷◌, ◌++◌, flat_map}
use Rattle.kinds.specs.Kinds.{width}
use Rattle.scan.specs.Text.{bytes}
use Rattle.scan.specs.Front.{begins, after_one, after_all, is_nil}
use Rattle.words.specs.Words.{same_word}
use Rattle.lists.specs.Lists.{every}
use Rattle.number.specs.Lexeme.{is_named, is_digits, is_exponent, is_decimal, is_unsigned, is_lexeme}
use Rattle.store.specs.Rows.{Row, node_over, cell, firsts, rows_in, spans_in, flat_rows}
use Rattle.tree.specs.Tree.{rows_with}
use Rattle.tree.specs.TreeIn.{on_front, as_a, times, find_text, find_row, exactly_one, at_most_one, find_parts, find_node, whole}
use Rattle.shape.specs.Visits.{walk_each, walk_parts}
use Rattle.shape.specs.Numbers.{text_at, are_numbers}
use Rattle.shape.specs.Store.{are_whole, tree_of, walk_of}
use Rattle.strict.specs.declared.StrictAnswer.{StrictAnswer}
use Rattle.strict.specs.Rules.{letter_a, letter_b, letter_c, letter_d, no_letter, same_bytes, same_texts, closed, fails_c, fault}
use Rattle.strict.specs.Strict.{answer, found, strict_of}

text : List ℕ
text = bytes "0 1 2 inf INF"

-- spans of the text's numbers
n0 : List ℕ
n0 = 0 ∷ 1 ∷ []

n1 : List ℕ
n1 = 2 ∷ 1 ∷ []

n2 : List ℕ
n2 = 4 ∷ 1 ∷ []

inf : List ℕ
inf = 6 ∷ 3 ∷ []

INF : List ℕ
INF = 10 ∷ 3 ∷ []

says : List Row → List ℕ → StrictAnswer
says rows numbers = strict_of text (flat_rows rows) numbers

-- a node with no rows under it
leaf : ℕ → ℕ → ℕ → List Row
leaf k d n = node_over k d n []

-- a line string, and a polygon of one ring, with n coordinates
line_string : ℕ → List Row
line_string n = leaf 2 0 n

ring : ℕ → List Row
ring n = node_over 3 0 1 (line_string n)

-- three coordinates of a ring
three : List ℕ
three = inf ++ n0 ++ n1 ++ n1 ++ n2 ++ n2

fine : StrictAnswer
fine = answer 0 no_letter 0

all : ℕ
unfolding text n0 n1 n2 inf INF says leaf line_string ring three fine flat_rows begins after_one after_all is_nil same_word is_named is_digits is_exponent is_decimal is_unsigned is_lexeme every cell firsts rows_in spans_in width flat_map rows_with on_front as_a times find_text find_row exactly_one at_most_one find_parts find_node whole walk_each walk_parts text_at are_numbers are_whole tree_of walk_of same_bytes same_texts closed fails_c fault found strict_of
all = 0

-- the letters are their ASCII bytes
letters : letter_a ∷ letter_b ∷ letter_c ∷ letter_d ∷ [] ≡ bytes "ABCD"
letters = refl

-- `LINESTRING(0 1)` fails A, and so does a ring of one coordinate, at its own row
few : (says (line_string 1) (n0 ++ n1) ≡ answer 0 letter_a 0) × (says (ring 1) (n0 ++ n1) ≡ answer 0 letter_a 1)
unfolding all
few = (refl, refl)

-- a ring of three fails B, though it ends where it starts
three_only : says (ring 3) (n0 ++ n1 ++ n2 ++ n2 ++ n0 ++ n1) ≡ answer 0 letter_b 1
unfolding all
three_only = refl

-- a ring of four: closed; with another Y at its end; with `INF` for `inf`; and an empty one
closing : (says (ring 4) (three ++ inf ++ n0) ≡ fine) × (says (ring 4) (three ++ inf ++ n1) ≡ answer 0 letter_c 1) × (says (ring 4) (three ++ INF ++ n0) ≡ answer 0 letter_c 1) × (says (ring 0) [] ≡ fine)
unfolding all
closing = (refl, refl, refl, refl)

-- `GEOMETRYCOLLECTION Z(POINT(0 1))` fails D at the child
dimension : says (node_over 7 1 1 (leaf 1 0 1)) (n0 ++ n1) ≡ answer 0 letter_d 1
unfolding all
dimension = refl

-- A and D at one node: A; D in row 1 and A in row 2: D
order : (says (node_over 7 1 1 (line_string 1)) (n0 ++ n1) ≡ answer 0 letter_a 1) × (says (node_over 7 0 2 (leaf 1 1 0 ++ line_string 1)) (n0 ++ n1) ≡ answer 0 letter_d 1)
unfolding all
order = (refl, refl)

-- a line string that is no ring need not be closed
line : says (line_string 2) (n0 ++ n1 ++ n1 ++ n2) ≡ fine
unfolding all
line = refl

-- a number lacks
ill : says (line_string 2) n0 ≡ answer 22 no_letter 0
unfolding all
ill = refl
