-- What private functions of the writer measure, and what they ask.
use Rattle.std.specs.Prelude.{◌≡◌, true, cond, ◌&&◌, ◌||◌, ℕ, ◌+◌, ◌≤◌, ◌<◌, leb, ltb, length, drop}
use mathlib.Core.List.{List, [], ◌∷◌, ◌++◌, flat_map}
use Rattle.lists.specs.Lists.{every, All}
use Rattle.store.specs.Rows.{Row, node_room, number_room, span_length_at, firsts}
use Rattle.shape.specs.Store.{all_rows, all_texts, well_formed}
use Rattle.fields.specs.Counts.{byte}
use Rattle.fields.specs.Fields.{head_length, longest}
use Rattle.stored_form.specs.declared.Version.{Version}
use Rattle.stored_form.specs.Form.{head_field, node_field, number_field, stored_rows, node_place, fits_rows}

-- ---- measuring
-- the lengths of all number texts, as their rows say them
abbrev pub lengths_in : List ℕ → List ℕ
lengths_in numbers = firsts (span_length_at numbers) (number_room numbers)

-- how many bytes the fields of texts of these lengths have
unfoldable pub fields_length : List ℕ → ℕ
fields_length [] = 0
fields_length (n ∷ ns) = head_length + n + fields_length ns

-- the same; or one more than the limit where a text fits no field, or all of them don't fit the limit
unfoldable pub numbers_measure : ℕ → List ℕ → ℕ
numbers_measure limit ns = cond (every (λ (n : ℕ). leb n longest) ns && leb (fields_length ns) limit) (fields_length ns) (limit + 1)

-- with the head and `count` nodes before them; one more than the limit where a count doesn't fit
unfoldable pub measure_of : Version → ℕ → List ℕ → ℕ
measure_of v count ns = cond (ltb v.largest count || ltb v.largest (length ns)) (v.limit + 1) (node_place v.width count + numbers_measure v.limit ns)

-- ---- putting
-- one byte says the kind, and one the dimension
abbrev pub SmallRow : Row → Type 0
SmallRow r = (r.kind < byte) × (r.dimension < byte)

-- rows that a version has bytes for
pub record RowsFit (v : Version) (nodes numbers : List ℕ) : Type 0 where
  pub node_count_law : node_room nodes ≤ v.largest
  pub number_count_law : number_room numbers ≤ v.largest
  pub small : All SmallRow (all_rows nodes)

-- the head and the node fields, before a rest
abbrev pub rows_before : Version → List ℕ → List ℕ → List ℕ → List ℕ
rows_before v nodes numbers rest = head_field v (node_room nodes) (number_room numbers) ++ (flat_map (node_field v.width) (all_rows nodes) ++ rest)

-- ---- writing what was read
-- stored bytes of a version, with the rows that they were read to
pub record StoredIn (v : Version) (source nodes numbers : List ℕ) : Type 0 where
  pub well : well_formed source nodes numbers ≡ true
  pub stored : source ≡ stored_rows v (all_rows nodes) (all_texts source numbers)
  pub fits : fits_rows v (all_rows nodes) (all_texts source numbers) ≡ true

-- their number fields stand from `middle` on
pub record NumbersFrom (middle : ℕ) (source numbers : List ℕ) : Type 0 where
  pub within : middle ≤ length source
  pub fields : drop middle source ≡ flat_map number_field (all_texts source numbers)
