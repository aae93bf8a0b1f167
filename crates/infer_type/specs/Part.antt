-- The part of a text that infer_type looks at.
use Rattle.std.specs.Prelude.{ℕ, Bool, not, ◌||◌, ◌&&◌, List, eqb, leb}
use Rattle.scan.specs.Bytes.{space, paren_open}
use Rattle.scan.specs.Runs.{first_not}
use Rattle.scan.specs.Front.{part}
use Rattle.scan.specs.Bytes.{is_ascii}

-- "bytes 9 to 13 and 32"
abbrev pub is_trimmed : ℕ → Bool
is_trimmed b = (leb 9 b && leb b 13) || eqb b space

abbrev pub is_no_paren : ℕ → Bool
is_no_paren b = not (eqb b paren_open)

-- "Trim bytes 9 to 13 and 32 in front (more than the tokenizer's blanks).": "first byte after trimming, or the text's length"
unfoldable pub trimmed_at : List ℕ → ℕ
trimmed_at text = first_not is_trimmed text 0

-- "The part looked at ends before the first `(`, else at the end"
unfoldable pub end_at : List ℕ → ℕ
end_at text = first_not is_no_paren text (trimmed_at text)

abbrev pub looked : List ℕ → List ℕ
looked text = part text (trimmed_at text) (end_at text)

-- the first non-ASCII byte after trimming, or the text's length
unfoldable pub wide_at : List ℕ → ℕ
wide_at text = first_not is_ascii text (trimmed_at text)

-- neither a `(` nor non-ASCII: what one scan for both passes over
abbrev pub is_looked : ℕ → Bool
is_looked b = is_ascii b && is_no_paren b
