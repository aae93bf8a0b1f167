-- The parts of a record: "a letter, the fields of that letter as u32 each, the rows as u32 each, and the text, which is what is left of the n bytes".
use Rattle.std.specs.Prelude.{ℕ, ◌+◌, ◌-◌, ◌*◌, ◌≤◌, ◌≡◌, Bool, cond, Option, Some, None, ◌&&◌, List, ◌++◌, leb, length, drop}
use Rattle.store.specs.Rows.{firsts}
use Rattle.console.specs.Console.{u32_at}
use Rattle.records.specs.declared.slices.Slices.{Slices}

-- "It takes texts up to 131,072 bytes, slices up to 98,304 places each"
abbrev pub max_text : ℕ
max_text = 131072

abbrev pub max_slice : ℕ
max_slice = 98304

-- a text that isn't too long stands from a place on
unfoldable pub has_text_at : List ℕ → ℕ → Bool
has_text_at l at = leb at (length l) && leb (length l - at) max_text

-- the lengths of both slices stand first, that of the nodes before that of the numbers
abbrev pub node_places : List ℕ → ℕ
node_places l = u32_at l 0

abbrev pub number_places : List ℕ → ℕ
number_places l = u32_at l 4

abbrev pub after_lengths : ℕ
after_lengths = 8

abbrev pub slices : ℕ → ℕ → ℕ → Slices
slices nodes numbers text = record { nodes = nodes; numbers = numbers; text = text }

-- what is told of both slices where a text is to stand from a place on
unfoldable pub slices_at : List ℕ → ℕ → Option Slices
slices_at l text = cond ((leb (node_places l) max_slice && leb (number_places l) max_slice) && has_text_at l text) (Some (slices (node_places l) (number_places l) text)) None

-- what is told is within the limits and the bytes
pub record Within (s : Slices) (bytes : ℕ) : Type 0 where
  pub nodes : s.nodes ≤ max_slice
  pub numbers : s.numbers ≤ max_slice
  pub text : s.text ≤ bytes

-- slices that are to be filled: the text stands behind their lengths
abbrev pub lent_in : List ℕ → Option Slices
lent_in l = slices_at l after_lengths

-- slices whose rows the record brings: the text stands behind the rows
unfoldable pub text_after_rows : List ℕ → ℕ
text_after_rows l = after_lengths + (node_places l + number_places l) * 4

abbrev pub brought_in : List ℕ → Option Slices
brought_in l = slices_at l (text_after_rows l)

-- the first n numbers that stand one after the other
unfoldable pub numbers_in : List ℕ → ℕ → List ℕ
numbers_in l n = firsts (λ i. u32_at l (i * 4)) n

-- places with those numbers at their front
unfoldable pub filled : List ℕ → ℕ → List ℕ → List ℕ
filled l n places = numbers_in l n ++ drop n places

-- the rows of the nodes, then at once those of the numbers, each at the front of what was lent for them; nothing where they don't fit
abbrev pub rows_of_nodes : List ℕ → Option Slices → List ℕ → List ℕ
rows_of_nodes l None ns = ns
rows_of_nodes l (Some s) ns = filled (drop after_lengths l) s.nodes ns

abbrev pub rows_of_numbers : List ℕ → Option Slices → List ℕ → List ℕ
rows_of_numbers l None ms = ms
rows_of_numbers l (Some s) ms = filled (drop (after_lengths + s.nodes * 4) l) s.numbers ms

pub record Loads (l ns ms : List ℕ) (s : Option Slices) (ns' ms' : List ℕ) : Type 0 where
  pub told : s ≡ brought_in l
  pub nodes : ns' ≡ rows_of_nodes l s ns
  pub numbers : ms' ≡ rows_of_numbers l s ms
