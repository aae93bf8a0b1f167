-- Worked examples with more digits than are computed by counting them: so many digits are the fewest.
-- Assumes nothing.
use mathlib.Core.Path.{◌≡◌, sym}
use native.Mathlib.Omega.{arith}
use lib.IntN.{pos, negsuc}
use Rattle.scan.specs.Text.{bytes}
use Rattle.printing.specs.Printing.{decimal}
use Rattle.printing.proofs.Digits.{digits_are}
use Rattle.signed_lines.specs.Signed.{signed, fraction, units}
use Rattle.signed_lines.specs.Examples.{joined}

-- the largest size of a box in units, and in wholes, and the largest of an i64
tens : (decimal 10000000 ≡ bytes "10000000") × (decimal 10000000000 ≡ bytes "10000000000") × (decimal 100000000000000000 ≡ bytes "100000000000000000") × (decimal 9223372036854775808 ≡ bytes "9223372036854775808")
tens = (
  sym (digits_are 10000000 8 (omega arith, omega arith, λ a. omega arith)),
  sym (digits_are 10000000000 11 (omega arith, omega arith, λ a. omega arith)),
  sym (digits_are 100000000000000000 18 (omega arith, omega arith, λ a. omega arith)),
  sym (digits_are 9223372036854775808 19 (omega arith, omega arith, λ a. omega arith)),
)

whole : (joined (signed (pos 10000000)) ≡ bytes "10000000") × (joined (signed (negsuc 9999999)) ≡ bytes "-10000000")
unfolding joined
whole = (rw tens.0, rw tens.0)

largest : (joined (signed (pos 100000000000000000)) ≡ bytes "100000000000000000") × (joined (signed (negsuc 99999999999999999)) ≡ bytes "-100000000000000000") × (joined (signed (negsuc 9223372036854775807)) ≡ bytes "-9223372036854775808")
unfolding joined
largest = (rw tens.2, rw tens.2, rw tens.3)

farthest : (joined (units (pos 100000000000000000)) ≡ bytes "10000000000.0000000") × (joined (units (negsuc 99999999999999999)) ≡ bytes "-10000000000.0000000")
unfolding joined fraction
farthest = (rw tens.1, rw tens.1)
