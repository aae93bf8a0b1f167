-- The message of a number that goes wrong with what was expected there, a line each, from 0 on: made by tools/refusals from crates/expected/words.txt.
use Rattle.std.specs.Prelude.{ℕ, List}
use Rattle.scan.specs.Text.{bytes}

unfoldable pub expected_lines : List ℕ
expected_lines = bytes "No expectation\nUnable to parse input number as the desired output type: nothing more was expected\nUnable to parse input number as the desired output type: a digit was expected\nUnable to parse input number as the desired output type: a digit or a sign was expected after e\nUnable to parse input number as the desired output type: a digit, a point, inf, infinity or nan was expected after the sign\nUnable to parse input number as the desired output type: inf, infinity or nan was expected after the sign\n"
