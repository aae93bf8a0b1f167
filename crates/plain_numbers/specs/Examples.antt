-- Worked examples of this crate's definitions, by computation.
use Rattle.std.specs.Prelude.{◌≡◌, refl, Bool, false, Option, Some, None, [], ◌∷◌, ℕ, eqb}
use Rattle.lists.specs.Lists.{passing, bytes_that}
use Rattle.scan.specs.Text.{bytes}
use Rattle.scan.specs.Runs.{run, first_not, after_one_at}
use Rattle.plain_numbers.specs.declared.Plain.{Plain}
use Rattle.plain_numbers.specs.Plain.{fraction_end, decimal_end, plain, plain_at}

all : ℕ
unfolding run first_not after_one_at fraction_end decimal_end plain_at
all = 0

-- a blank behind it is passed, another stop is not
found : (plain_at (bytes "12 3") 0 ≡ Some (plain 2 3)) × (plain_at (bytes "x-1.5\n ") 1 ≡ Some (plain 5 6)) × (plain_at (bytes "-4,") 0 ≡ Some (plain 2 2)) × (plain_at (bytes "4)") 0 ≡ Some (plain 1 1)) × (plain_at (bytes "4.(") 0 ≡ Some (plain 2 2)) × (plain_at (bytes "04.50\0") 0 ≡ Some (plain 5 5))
unfolding all
found = (refl, refl, refl, refl, refl, refl)

-- what a token would be read for: a plus, an exponent, no digit in front, a blank in front, another byte behind, the end
none : (plain_at (bytes "+4 ") 0 ≡ None) × (plain_at (bytes "4e5 ") 0 ≡ None) × (plain_at (bytes ".5 ") 0 ≡ None) × (plain_at (bytes "- ") 0 ≡ None) × (plain_at (bytes " 4 ") 0 ≡ None) × (plain_at (bytes "4x ") 0 ≡ None) × (plain_at (bytes "1.2.3 ") 0 ≡ None) × (plain_at (bytes "4") 0 ≡ None) × (plain_at (bytes "4 ") 7 ≡ None)
unfolding all
none = (refl, refl, refl, refl, refl, refl, refl, refl, refl)

-- ---- by the whole range of bytes
ends_at : ℕ → Option Plain → Bool
ends_at n (Some r) = eqb r.end n
ends_at n None = false

goes_on_at : ℕ → Option Plain → Bool
goes_on_at n (Some r) = eqb r.next n
goes_on_at n None = false

-- those that a plain number starts with, before `4 `, and those that follow a minus there
first : (bytes_that (λ b. ends_at 2 (plain_at (b ∷ bytes "4 ") 0)) ≡ 45 ∷ 48 ∷ 49 ∷ 50 ∷ 51 ∷ 52 ∷ 53 ∷ 54 ∷ 55 ∷ 56 ∷ 57 ∷ [])
    × (bytes_that (λ b. ends_at 3 (plain_at (45 ∷ b ∷ bytes "4 ") 0)) ≡ 48 ∷ 49 ∷ 50 ∷ 51 ∷ 52 ∷ 53 ∷ 54 ∷ 55 ∷ 56 ∷ 57 ∷ [])
unfolding all passing ends_at goes_on_at
first = (refl, refl)

-- those that it has between `4` and `4 `, and between `4.` and `4 `
inner : (bytes_that (λ b. ends_at 3 (plain_at (52 ∷ b ∷ bytes "4 ") 0)) ≡ 46 ∷ 48 ∷ 49 ∷ 50 ∷ 51 ∷ 52 ∷ 53 ∷ 54 ∷ 55 ∷ 56 ∷ 57 ∷ [])
    × (bytes_that (λ b. ends_at 4 (plain_at (52 ∷ 46 ∷ b ∷ bytes "4 ") 0)) ≡ 48 ∷ 49 ∷ 50 ∷ 51 ∷ 52 ∷ 53 ∷ 54 ∷ 55 ∷ 56 ∷ 57 ∷ [])
unfolding all passing ends_at goes_on_at
inner = (refl, refl)

-- those that end `4` before a blank, and those of them that are passed: one blank
ends : (bytes_that (λ b. ends_at 1 (plain_at (52 ∷ b ∷ bytes " ") 0)) ≡ 0 ∷ 9 ∷ 10 ∷ 13 ∷ 32 ∷ 40 ∷ 41 ∷ 44 ∷ [])
    × (bytes_that (λ b. goes_on_at 1 (plain_at (52 ∷ b ∷ bytes " ") 0)) ≡ 0 ∷ 40 ∷ 41 ∷ 44 ∷ [])
    × (bytes_that (λ b. goes_on_at 2 (plain_at (52 ∷ b ∷ bytes " ") 0)) ≡ 9 ∷ 10 ∷ 13 ∷ 32 ∷ [])
unfolding all passing ends_at goes_on_at
ends = (refl, refl, refl)
