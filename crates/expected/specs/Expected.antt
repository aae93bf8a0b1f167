-- What was expected where a number goes wrong (asked for with request 2026-02): "words that say what was expected there (a digit; a digit or sign after `e`;
-- `inf`, `infinity` or `nan` after a sign; nothing more)".
use Rattle.std.specs.Prelude.{ℕ, zero, suc, ◌-◌, cond, List, eqb, length, get_or}
use Rattle.scan.specs.Bytes.{is_inner, is_plus, is_sign}
use Rattle.scan.specs.Front.{part, after_one, is_nil}
use Rattle.scan.specs.Runs.{after_one_at}
use Rattle.number.specs.Lexeme.{is_e, is_lexeme}
use Rattle.bad_numbers.specs.Openings.{opens_word}
use Rattle.refusals.specs.Refusals.{nothing_after_plus, number_goes_wrong}
use Rattle.expected.specs.Expectations.{no_expectation, nothing_more, a_digit, digit_or_sign, number_or_word, rest_of_word}

-- behind x, with which a lexeme begins: nothing more if x is one; a number or a word if there is but a sign; the rest of a word that is begun; behind `e` a digit or
-- a sign; else, behind a point or an exponent's sign, a digit
unfoldable pub expected_after : List ℕ → ℕ
expected_after x =
    cond (is_lexeme x) nothing_more
    (cond (is_nil (after_one is_sign x)) number_or_word
    (cond (opens_word (after_one is_sign x)) rest_of_word
    (cond (is_e (get_or x (length x - 1) 0)) digit_or_sign a_digit)))

-- where the run of inner bytes begins that ends before the place: a token that goes up to there starts so
unfoldable pub run_start : List ℕ → ℕ → ℕ
run_start text zero = 0
run_start text (suc i) = cond (is_inner (get_or text i 0)) (run_start text i) (suc i)

-- at a place of a text: behind what stands of the number there, without the plus that is dropped
unfoldable pub expected_at : List ℕ → ℕ → ℕ
expected_at text place = expected_after (part text (after_one_at is_plus text (run_start text place)) place)

-- of a refusal: 28 stands where a number or a word was expected behind the plus, 29 where a number goes wrong; of any other nothing is told
unfoldable pub expected_of : List ℕ → ℕ → ℕ → ℕ
expected_of text number place =
    cond (eqb number nothing_after_plus) number_or_word
    (cond (eqb number number_goes_wrong) (expected_at text place) no_expectation)
