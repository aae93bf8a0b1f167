-- What was expected where a number goes wrong, each with the words that it is told in: made by tools/refusals from crates/expected/words.txt.
use Rattle.std.specs.Prelude.{ℕ, Option, Some, None}
use Rattle.expected.specs.declared.expectations.Expectation.{Expectation}
use Rattle.expected.specs.declared.expectations.Expectation.TheVariants.{NothingMore, ADigit, DigitOrSign, NumberOrWord, RestOfWord}

-- of any other refusal nothing is told
abbrev pub no_expectation : ℕ
no_expectation = 0

-- "nothing more was expected"
abbrev pub nothing_more : ℕ
nothing_more = 1

-- "a digit was expected"
abbrev pub a_digit : ℕ
a_digit = 2

-- "a digit or a sign was expected after e"
abbrev pub digit_or_sign : ℕ
digit_or_sign = 3

-- "a digit, a point, inf, infinity or nan was expected after the sign"
abbrev pub number_or_word : ℕ
number_or_word = 4

-- "inf, infinity or nan was expected after the sign"
abbrev pub rest_of_word : ℕ
rest_of_word = 5

-- the number of each
abbrev pub expectation_number : Expectation → ℕ
expectation_number NothingMore = nothing_more
expectation_number ADigit = a_digit
expectation_number DigitOrSign = digit_or_sign
expectation_number NumberOrWord = number_or_word
expectation_number RestOfWord = rest_of_word

-- and where there may be none
abbrev pub told_number : Option Expectation → ℕ
told_number None = no_expectation
told_number (Some e) = expectation_number e
