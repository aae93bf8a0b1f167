-- Well-formed stores (document 01, "The store").
use Rattle.std.specs.Prelude.{Bool, cond, ◌&&◌, List, ℕ, ◌%◌, eqb, length}
use Rattle.std.proofs.Math.Option.{Option, none}
use Rattle.limits.specs.Limits.{depth_limit}
use Rattle.store.specs.Rows.{Row, Span, node_width, number_width, node_room, number_room, rows_in, spans_in}
use Rattle.tree.specs.Tree.{Tree}
use Rattle.tree.specs.TreeIn.{span_texts, tree_in}
use Rattle.lists.specs.Options.{is_some, map_o}
use Rattle.nodes.specs.declared.Met.{Met}
use Rattle.nodes.specs.Nodes.{above}
use Rattle.shape.specs.Numbers.{are_numbers}
use Rattle.shape.specs.Visits.{walk_tree}

-- ---- all node rows and all number rows of lent slices
abbrev pub all_rows : List ℕ → List Row
all_rows nodes = rows_in nodes (node_room nodes)

abbrev pub all_spans : List ℕ → List ℕ → List Span
all_spans text numbers = spans_in text numbers (number_room numbers)

abbrev pub all_texts : List ℕ → List ℕ → List (List ℕ)
all_texts text numbers = span_texts (all_spans text numbers)

-- "a slice length not divisible by 3 or 2 is ill formed"
unfoldable pub are_whole : List ℕ → List ℕ → Bool
are_whole nodes numbers = eqb (length nodes % node_width) 0 && eqb (length numbers % number_width) 0

-- the one tree that a store is, if it is one: every meaning of a store is a function of it
unfoldable pub tree_of : List ℕ → List ℕ → List ℕ → Option (Tree depth_limit)
tree_of text nodes numbers = cond (are_whole nodes numbers && are_numbers text numbers) (tree_in depth_limit (all_rows nodes) (all_texts text numbers)) none

-- "A store is well formed if its rows are exactly one preorder tree [..], the numbers are exactly as many as needed, and each lies in its text and is a lexeme."
unfoldable pub well_formed : List ℕ → List ℕ → List ℕ → Bool
well_formed text nodes numbers = is_some (tree_of text nodes numbers)

-- what a walk from above the root meets in a tree
abbrev pub walk_root : Tree depth_limit → List Met
walk_root t = walk_tree depth_limit above 0 0 t

-- what a walk through a store meets, if it is well formed
unfoldable pub walk_of : List ℕ → List ℕ → List ℕ → Option (List Met)
walk_of text nodes numbers = map_o walk_root (tree_of text nodes numbers)
