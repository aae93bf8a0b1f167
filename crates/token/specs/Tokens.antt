-- What a demand for a token finds (document 01, "Tokens").
use Rattle.std.specs.Prelude.{ℕ, ◌+◌, ◌-◌, ◌<◌, ◌≡◌, Bool, true, false, cond, ◌||◌, List, [], length, get_or, eqb, leb}
use Rattle.scan.specs.Bytes.{nul, paren_open, paren_close, comma, plus, is_blank, is_inner, is_numberlike, is_plus}
use Rattle.scan.specs.Front.{part, after_one, is_nil}
use Rattle.scan.specs.Runs.{first_not, after_one_at}
use Rattle.refusals.specs.Refusals.{bad_number, nothing_after_plus, number_goes_wrong}
use Rattle.bad_numbers.specs.Openings.{GoesWrongAt, goes_wrong}
use Rattle.number.specs.declared.Lexeme.{Lexeme}
use Rattle.number.specs.Lexeme.{is_lexeme, up_to_stop}
use Rattle.token.specs.declared.Token.TheVariants.{Comma, Number, ParenClose, ParenOpen, Word}
use Rattle.token.specs.declared.Found.{Found}
use Rattle.token.specs.declared.Read.{Read}
use Rattle.token.specs.declared.Refusal.{Refusal}

abbrev pub read : Found → ℕ → Read
read f i = record { found = f; at = i }

-- where the number or the word at p ends
abbrev pub end_of : List ℕ → ℕ → ℕ
end_of text p = first_not is_inner text p

-- "One leading `+` is dropped": where the text of the number at p starts
abbrev pub text_start : List ℕ → ℕ → ℕ
text_start text p = after_one_at is_plus text p

-- Document 01 as it was before request 2026-02: "A bad number that is taken gives 6", and the place is "the start of the token at fault (a `+` counts as its
-- start)". It is given no more, and stands here for what is said of the change (grammar/specs/Former).
abbrev pub bad_number_at : ℕ → Refusal
bad_number_at p = record { number = bad_number; place = p }

-- "Refusals: 28 and 29 in the place of 6." (document 02)
abbrev pub is_bad_number : ℕ → Bool
is_bad_number e = eqb e nothing_after_plus || eqb e number_goes_wrong

abbrev pub nothing_left : ℕ → Refusal
nothing_left p = record { number = nothing_after_plus; place = p }

abbrev pub gone_wrong : ℕ → Refusal
gone_wrong p = record { number = number_goes_wrong; place = p }

-- "Refusal 6 becomes two: nothing left after the dropped plus (place: that plus), and a number that goes wrong. For the second the place is the first byte at
-- which no lexeme can go on, or the token's end where more was needed." (document 02): of the number that starts at p with the bytes run
unfoldable pub wrong_number_at : ℕ → List ℕ → Refusal
wrong_number_at p run =
    cond (is_nil (after_one is_plus run)) (nothing_left p)
    (gone_wrong (after_one_at is_plus run 0 + p + goes_wrong (after_one is_plus run)))

-- of the one that stands at p in a text
unfoldable pub bad_at : List ℕ → ℕ → Refusal
bad_at text p = wrong_number_at p (part text p (end_of text p))

-- "The kept number text is what follows the dropped `+`.": of the number at p
abbrev pub number_text : List ℕ → ℕ → List ℕ
number_text text p = part text (text_start text p) (end_of text (text_start text p))

-- the same said over the grammar: of a number token at p nothing is left after its plus, or it goes wrong n bytes behind it
pub data WrongNumber (text : List ℕ) (p : ℕ) : Refusal → Type 0 where
  nothing_left_law : get_or text p 0 ≡ plus → number_text text p ≡ [] → WrongNumber text p (nothing_left p)
  goes_wrong_law : {n : ℕ} → 0 < length (number_text text p) → GoesWrongAt (number_text text p) n → WrongNumber text p (gone_wrong (text_start text p + n))

-- "Both run to a blank (taken too) or to NUL, `(`, `)` or `,` (not taken)."
abbrev pub after_blank : List ℕ → ℕ → ℕ
after_blank text end = after_one_at is_blank text end

-- "and the rest must be a lexeme"
abbrev pub number_or : Bool → ℕ → ℕ → ℕ → Found
number_or true p start end = Found.Is p (Number start (end - start))
number_or false p start end = Found.BadNumber p

abbrev pub number_from : List ℕ → ℕ → ℕ → Lexeme → Read
number_from text p start x = read (number_or x.good p start x.end) (after_blank text x.end)

-- the number at p. "The kept number text is what follows the dropped `+`."
unfoldable pub number_at : List ℕ → ℕ → Read
number_at text p = number_from text p (text_start text p) (up_to_stop is_lexeme text (text_start text p))

-- the word at p
unfoldable pub word_at : List ℕ → ℕ → Read
word_at text p = read (Found.Is p (Word p (end_of text p - p))) (after_blank text (end_of text p))

-- what the byte b at p starts: "NUL at token start answers "no token" and is passed over"; "`(`, `)` and `,` are tokens";
-- "a token starting with `.`, `-`, `+` or a digit is a number; anything else starts a word"
unfoldable pub start_at : List ℕ → ℕ → ℕ → Read
start_at text p b =
    cond (eqb b nul) (read (Found.NoToken p) (p + 1))
    (cond (eqb b paren_open) (read (Found.Is p ParenOpen) (p + 1))
    (cond (eqb b paren_close) (read (Found.Is p ParenClose) (p + 1))
    (cond (eqb b comma) (read (Found.Is p Comma) (p + 1))
    (cond (is_numberlike b) (number_at text p)
    (word_at text p)))))

-- what stands at p, where no blank stands; "at the true end "no token" comes each time"
unfoldable pub token_at : List ℕ → ℕ → Read
token_at text p = cond (leb (length text) p) (read (Found.NoToken (length text)) (length text)) (start_at text p (get_or text p 0))

-- "A run of blanks is skipped until the first other character."
unfoldable pub read_at : List ℕ → ℕ → Read
read_at text from = token_at text (first_not is_blank text from)
