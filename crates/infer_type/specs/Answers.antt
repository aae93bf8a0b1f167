-- What an answer of infer_type can be, each with its whole reason and the place, in terms of the text alone (document 01, "Refusal numbers" and "infer_type").
-- The reasons come in order: 1, 2, 24, then without `(` 21 and 20, then 19.
use Rattle.std.specs.Prelude.{ℕ, ◌≤◌, ◌<◌, ◌≡◌, true, false, ◌⊎◌, List, length, get_or, drop, Some, None}
use Rattle.limits.specs.Limits.{text_limit, over_limit}
use Rattle.scan.specs.Runs.{Many}
use Rattle.scan.specs.Front.{rest, part, begins}
use Rattle.utf8.specs.Utf8.{is_utf8, first_ill}
use Rattle.scan.specs.Bytes.{paren_open, is_ascii}
use Rattle.names.specs.Strings.{empty}
use Rattle.names.specs.Names.{front}
use Rattle.names.specs.declared.Front.{Front}
use Rattle.kinds.specs.Kinds.{kind_point, kind_geometry_collection, dim_xyzm}
use Rattle.infer_type.specs.declared.Inferred.{Inferred}
use Rattle.refusals.specs.Refusals.{text_too_long, ill_formed_utf8, unsupported_name, empty_without_space, neither_paren_nor_empty, non_ascii}
use Rattle.infer_type.specs.Part.{is_trimmed, is_looked}
use Rattle.infer_type.specs.Search.{has_word, before_word, after_word}
use Rattle.infer_type.specs.Infer.{accepted, refused, blank, dimension_in}

-- "first byte after trimming, or the text's length": what stands before the place is trimmed, and a byte that stands there isn't
pub record Start (text : List ℕ) (place : ℕ) : Type 0 where
  pub within : place ≤ length text
  pub trimmed : Many is_trimmed (part text 0 place)
  pub kept : begins is_trimmed (rest text place) ≡ false

-- "the first such byte": non-ASCII, with neither such a byte nor a `(` from the start up to it
pub record Wide (text : List ℕ) (start place : ℕ) : Type 0 where
  pub from : start ≤ place
  pub within : place < length text
  pub byte : is_ascii (get_or text place 0) ≡ false
  pub looked : Many is_looked (part text start place)

-- the part looked at: 1 and 2 are passed, what stands in front is trimmed, and up to `stop` there is neither a `(` nor a non-ASCII byte (24)
pub record Looked (text : List ℕ) (start stop : ℕ) : Type 0 where
  pub short : over_limit (length text) ≡ false
  pub utf8 : is_utf8 text ≡ true
  pub starts : Start text start
  pub from : start ≤ stop
  pub plain : Many is_looked (part text start stop)

-- "ends before the first `(`, else at the end"
abbrev pub Paren : List ℕ → ℕ → Type 0
Paren text stop = (stop < length text) × (get_or text stop 0 ≡ paren_open)

abbrev pub NoParen : List ℕ → ℕ → Type 0
NoParen text stop = stop ≡ length text

-- "it must contain EMPTY (21); before the first EMPTY there must be a space (20)"
abbrev pub Spaced : List ℕ → Type 0
Spaced l = (has_word empty l ≡ true) × (has_word blank (before_word empty l) ≡ true)

-- a kind and a dimension that there are
abbrev pub InRange : ℕ → ℕ → Type 0
InRange kind dimension = (kind_point ≤ kind) × (kind ≤ kind_geometry_collection) × (dimension ≤ dim_xyzm)

pub data Answer (text : List ℕ) : Inferred → Type 0 where
  long : over_limit (length text) ≡ true → Answer text (refused text_too_long text_limit)
  ill : over_limit (length text) ≡ false → is_utf8 text ≡ false → Answer text (refused ill_formed_utf8 (first_ill text))
  wide : {start place : ℕ} → over_limit (length text) ≡ false → is_utf8 text ≡ true → Start text start → Wide text start place → Answer text (refused non_ascii place)
  neither : {start stop : ℕ} → Looked text start stop → NoParen text stop → has_word empty (part text start stop) ≡ false → Answer text (refused neither_paren_nor_empty start)
  no_space : {start stop : ℕ} → Looked text start stop → NoParen text stop → has_word empty (part text start stop) ≡ true → has_word blank (before_word empty (part text start stop)) ≡ false → Answer text (refused empty_without_space start)
  no_name : {start stop : ℕ} → Looked text start stop → Paren text stop ⊎ (NoParen text stop × Spaced (part text start stop)) → front (part text start stop) ≡ None → Answer text (refused unsupported_name start)
  -- "With `(`: it must begin with a name (19); in the rest, `ZM` before `Z` before `M`."
  named_paren : {start stop : ℕ} {name : Front} → Looked text start stop → Paren text stop → front (part text start stop) ≡ Some name → InRange name.kind (dimension_in (drop name.len (part text start stop)))
      → Answer text (accepted name.kind (dimension_in (drop name.len (part text start stop))))
  -- "search between the first space and that EMPTY; then the name"
  named_empty : {start stop : ℕ} {name : Front} → Looked text start stop → NoParen text stop → Spaced (part text start stop) → front (part text start stop) ≡ Some name → InRange name.kind (dimension_in (after_word blank (before_word empty (part text start stop))))
      → Answer text (accepted name.kind (dimension_in (after_word blank (before_word empty (part text start stop)))))
