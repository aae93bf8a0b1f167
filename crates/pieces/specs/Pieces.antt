-- As which pieces the parts of a canonical text are put, and what the pen and the slice are after them.
use Rattle.std.specs.Prelude.{◌≡◌, cond, not, List, [], ◌∷◌, ◌++◌, ℕ, eqb}
use Rattle.scan.specs.Bytes.{space, comma, plus}
use Rattle.scan.specs.Front.{begins}
use Rattle.kinds.specs.Kinds.{dim_xy}
use Rattle.names.specs.Names.{names, endings, string_of}
use Rattle.canonical_text.specs.Canonical.{needs_plus}
use Rattle.nodes.specs.declared.Visit.{Visit}
use Rattle.nodes.specs.Nodes.{is_free}
use Rattle.pen.specs.declared.Pen.{Pen}
use Rattle.pen.specs.Pen.{pen_after, out_after}

-- ---- pieces put one after the other, each as a whole or, where it has no room, not at all
unfoldable pub pen_after_each : Pen → List ℕ → List (List ℕ) → Pen
pen_after_each p out [] = p
pen_after_each p out (x ∷ xs) = pen_after_each (pen_after p out x) (out_after p out x) xs

unfoldable pub out_after_each : Pen → List ℕ → List (List ℕ) → List ℕ
out_after_each p out [] = out
out_after_each p out (x ∷ xs) = out_after_each (pen_after p out x) (out_after p out x) xs

pub record PutsEach (pieces : List (List ℕ)) (p : Pen) (out : List ℕ) (r : Pen) (out' : List ℕ) : Type 0 where
  pub stands : r ≡ pen_after_each p out pieces
  pub bytes : out' ≡ out_after_each p out pieces

-- ---- the pieces
-- a number's text after the byte `lead`, or after that byte and a plus
unfoldable pub number_pieces : ℕ → List ℕ → List (List ℕ)
number_pieces lead w = cond (begins needs_plus w) ((lead ∷ []) ∷ (plus ∷ w) ∷ []) ((lead ∷ w) ∷ [])

-- a word, if there is one
unfoldable pub word_pieces : List ℕ → List (List ℕ)
word_pieces [] = []
word_pieces (b ∷ w) = (b ∷ w) ∷ []

unfoldable pub name_pieces : ℕ → List (List ℕ)
name_pieces kind = word_pieces (string_of names kind)

unfoldable pub dimension_pieces : ℕ → List (List ℕ)
dimension_pieces d = cond (eqb d dim_xy) [] ((space ∷ []) ∷ word_pieces (string_of endings d))

unfoldable pub comma_pieces : Visit → List (List ℕ)
comma_pieces v = cond (eqb v.parent.next 0) [] ((comma ∷ []) ∷ [])

unfoldable pub head_pieces : Visit → List (List ℕ)
head_pieces v = cond (not (is_free v.parent.kind)) [] (name_pieces v.kind ++ (dimension_pieces v.dimension ++ cond (eqb v.parts 0) ((space ∷ []) ∷ []) []))
