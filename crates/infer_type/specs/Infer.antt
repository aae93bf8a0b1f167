-- What infer_type answers for any bytes (document 01, "infer_type").
use Rattle.std.specs.Prelude.{ℕ, Bool, cond, not, List, [], ◌∷◌, ltb, length, drop, Option, Some, None}
use Rattle.limits.specs.Limits.{text_limit, over_limit}
use Rattle.scan.specs.Bytes.{space}
use Rattle.utf8.specs.Utf8.{is_utf8, first_ill}
use Rattle.kinds.specs.Kinds.{dim_xy, dim_xyz, dim_xym, dim_xyzm}
use Rattle.names.specs.Strings.{empty}
use Rattle.names.specs.Names.{endings, string_of, front}
use Rattle.names.specs.declared.Front.{Front}
use Rattle.infer_type.specs.declared.Inferred.{Inferred}
use Rattle.refusals.specs.Refusals.{text_too_long, ill_formed_utf8, unsupported_name, empty_without_space, neither_paren_nor_empty, non_ascii}
use Rattle.infer_type.specs.Part.{trimmed_at, end_at, wide_at, looked}
use Rattle.infer_type.specs.Search.{has_word, before_word, after_word}

-- "Number and place are 0 when accepted, all after the place 0 when refused."
abbrev pub accepted : ℕ → ℕ → Inferred
accepted kind dimension = record { number = 0; place = 0; kind = kind; dimension = dimension }

abbrev pub refused : ℕ → ℕ → Inferred
refused number place = record { number = number; place = place; kind = 0; dimension = 0 }

-- does the ending of a dimension stand anywhere in the list
abbrev pub has_ending : ℕ → List ℕ → Bool
has_ending dimension l = has_word (string_of endings dimension) l

-- "`ZM` before `Z` before `M`"; "Found neither `Z` nor `M`: XY."
unfoldable pub dimension_in : List ℕ → ℕ
dimension_in l = cond (has_ending dim_xyzm l) dim_xyzm (cond (has_ending dim_xyz l) dim_xyz (cond (has_ending dim_xym l) dim_xym dim_xy))

-- the name's kind with the dimension, or "unsupported name"
abbrev pub inferred_as : ℕ → Option Front → ℕ → Inferred
inferred_as place (Some name) dimension = accepted name.kind dimension
inferred_as place None dimension = refused unsupported_name place

-- what stands after the name
abbrev pub behind_name : Option Front → List ℕ → List ℕ
behind_name (Some name) l = drop name.len l
behind_name None l = l

-- "With `(`: it must begin with a name (19); in the rest, `ZM` before `Z` before `M`."
unfoldable pub with_paren : ℕ → List ℕ → Inferred
with_paren place l = inferred_as place (front l) (dimension_in (behind_name (front l) l))

-- the space before EMPTY, as a word
abbrev pub blank : List ℕ
blank = space ∷ []

-- "Without: it must contain EMPTY (21); before the first EMPTY there must be a space (20); search between the first space and that EMPTY; then the name (19)."
unfoldable pub without_paren : ℕ → List ℕ → Inferred
without_paren place l =
    cond (not (has_word empty l)) (refused neither_paren_nor_empty place)
    (cond (not (has_word blank (before_word empty l))) (refused empty_without_space place)
    (inferred_as place (front l) (dimension_in (after_word blank (before_word empty l)))))

-- "non-ASCII byte in the part looked at", "the first such byte"; else by whether a `(` ends that part
unfoldable pub infer_looked : List ℕ → Inferred
infer_looked text =
    cond (ltb (wide_at text) (end_at text)) (refused non_ascii (wide_at text))
    (cond (ltb (end_at text) (length text)) (with_paren (trimmed_at text) (looked text))
    (without_paren (trimmed_at text) (looked text)))

-- "It and infer_type test nothing else of the lent text but, for infer_type, 1 and 2 first, then 24."
unfoldable pub infer_type : List ℕ → Inferred
infer_type text =
    cond (over_limit (length text)) (refused text_too_long text_limit)
    (cond (not (is_utf8 text)) (refused ill_formed_utf8 (first_ill text))
    (infer_looked text))
