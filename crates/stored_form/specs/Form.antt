-- The stored form of a tree (document 02, 2026-01 and 2026-05), over any version of it.
use Rattle.std.specs.Prelude.{◌≡◌, Bool, cond, ◌&&◌, ℕ, ◌+◌, ◌*◌, ◌^◌, ◌≤◌, ◌<◌, leb, length}
use Rattle.std.proofs.Math.Option.{Option, none, some}
use mathlib.Core.List.{List, ◌∷◌, ◌++◌, flat_map}
use Rattle.lists.specs.Lists.{every}
use Rattle.limits.specs.Limits.{depth_limit}
use Rattle.refusals.specs.Refusals.{ill_formed_store, does_not_fit}
use Rattle.store.specs.Rows.{Row}
use Rattle.store.specs.Answers.{Output, bytes, refusal}
use Rattle.tree.specs.Tree.{Tree, rows, texts}
use Rattle.shape.specs.Store.{tree_of}
use Rattle.fields.specs.Counts.{byte, count_bytes}
use Rattle.fields.specs.Fields.{head_length, longest, field}
use Rattle.stored_form.specs.declared.Version.{Version}
use Rattle.stored_form.specs.declared.Edition.{Edition}
use Rattle.stored_form.specs.declared.Edition.TheVariants.{First, Second}

-- ---- versions
-- "version 1 (one byte), node count, number count (two bytes each)"; "1 over 1,048,576 bytes"
abbrev pub version1 : Version
version1 = record { number = 1; width = 2; largest = 65535; limit = 1048576 }

-- "stored version 2 has four-byte counts and parts, with a whole limit of 67,108,864 bytes; the field length remains two bytes"
abbrev pub version2 : Version
version2 = record { number = 2; width = 4; largest = 4294967295; limit = 67108864 }

-- "Each version has its own entry"
abbrev pub version_of : Edition → Version
version_of First = version1
version_of Second = version2

-- what a version may be
pub record Known (v : Version) : Type 0 where
  pub named : v.number < byte
  pub narrow : v.width ≤ 4
  pub counts : v.largest + 1 ≡ byte ^ v.width
  pub limited : v.limit < 2 ^ 32

-- ---- the fields
abbrev pub head_tag : ℕ
head_tag = 1

abbrev pub node_tag : ℕ
node_tag = 2

abbrev pub number_tag : ℕ
number_tag = 3

-- the lengths of a head's and of a node's content, by the width of a count
abbrev pub head_size : ℕ → ℕ
head_size w = 1 + 2 * w

abbrev pub node_size : ℕ → ℕ
node_size w = 2 + w

-- "Tag 1 once, first: version 1 (one byte), node count, number count (two bytes each)."
unfoldable pub head_field : Version → ℕ → ℕ → List ℕ
head_field v n m = field head_tag (v.number ∷ (count_bytes v.width n ++ count_bytes v.width m))

-- "Then tag 2 per node: kind, dimension (one byte each), parts (two)."
unfoldable pub node_field : ℕ → Row → List ℕ
node_field w r = field node_tag (r.kind ∷ r.dimension ∷ count_bytes w r.parts)

-- "Then tag 3 per number: its text."
unfoldable pub number_field : List ℕ → List ℕ
number_field x = field number_tag x

-- "Nothing follows."
unfoldable pub stored_rows : Version → List Row → List (List ℕ) → List ℕ
stored_rows v rs ns = head_field v (length rs) (length ns) ++ (flat_map (node_field v.width) rs ++ flat_map number_field ns)

-- where the first node field stands, and the one after i others
abbrev pub first_node : ℕ → ℕ
first_node w = head_length + head_size w

abbrev pub node_place : ℕ → ℕ → ℕ
node_place w i = first_node w + i * (head_length + node_size w)

-- ---- of trees
-- "where a count, a text or the whole doesn't fit the form": node count, number count, parts, texts, the whole
unfoldable pub fits_rows : Version → List Row → List (List ℕ) → Bool
fits_rows v rs ns =
    (leb (length rs) v.largest && leb (length ns) v.largest) &&
    (every (λ (r : Row). leb r.parts v.largest) rs && every (λ (x : List ℕ). leb (length x) longest) ns) &&
    leb (length (stored_rows v rs ns)) v.limit

abbrev pub stored_bytes : Version → Tree depth_limit → List ℕ
stored_bytes v t = stored_rows v (rows depth_limit t) (texts depth_limit t)

abbrev pub fits_tree : Version → Tree depth_limit → Bool
fits_tree v t = fits_rows v (rows depth_limit t) (texts depth_limit t)

-- ---- writing: "22, then 27 where a count, a text or the whole doesn't fit the form, then 23"
abbrev pub stored_tree : Version → Option (Tree depth_limit) → Output
stored_tree v none = refusal ill_formed_store
stored_tree v (some t) = cond (fits_tree v t) (bytes (stored_bytes v t)) (refusal does_not_fit)

unfoldable pub stored_of : Version → List ℕ → List ℕ → List ℕ → Output
stored_of v text nodes numbers = stored_tree v (tree_of text nodes numbers)
