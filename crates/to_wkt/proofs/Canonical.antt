-- Laws of the canonical text, a step at a time.
-- Assumes nothing.
use mathlib.Core.Path.{◌≡◌, refl, ap}
use mathlib.Core.List.{List, ◌∷◌}
use Prim.Native.Nat.{ℕ, zero, suc, ◌+◌, ◌-◌, ◌*◌, ◌≤◌, ◌<◌}
use native.Mathlib.Omega.{arith}
use native.Mathlib.Nat.{zero-mul, suc-mul, mul-le-mul_right}
use Rattle.scan.specs.Bytes.{space, comma}
use Rattle.kinds.specs.Kinds.{kind_line_string, width}
use Rattle.store.specs.Rows.{number_room}
use Rattle.nodes.specs.declared.Visit.{Visit}
use Rattle.kinds.proofs.Widths.{width_some}
use Rattle.walk.specs.Walk.{NumbersIn}
use Rattle.pieces.specs.Canonical.{put_number}
use Rattle.to_wkt.specs.Canonical.{put_spaced, put_coordinate, put_listed, put_coordinates}

-- ---- loops: one of what is left, and the others
less : (n i : ℕ) → i < n → n - i ≡ suc (n - (i + 1))
less n i h = omega arith

none_left : (n i : ℕ) → n ≤ i → n - i ≡ 0
none_left n i h = omega arith

module _ (text numbers : List ℕ) where
  -- n numbers from i on, and n coordinates, the first after the byte `lead`
  unfoldable pub led_numbers : ℕ → ℕ → ℕ → List ℕ → List ℕ
  led_numbers lead i zero rest = rest
  led_numbers lead i (suc n) rest = lead ∷ put_number text numbers i (put_spaced text numbers (i + 1) n rest)

  unfoldable pub led_coordinates : ℕ → ℕ → ℕ → ℕ → List ℕ → List ℕ
  led_coordinates lead at w zero rest = rest
  led_coordinates lead at w (suc n) rest = lead ∷ put_coordinate text numbers at w (put_listed text numbers (at + w) w n rest)

  led_spaced : (i n : ℕ) (rest : List ℕ) → put_spaced text numbers i n rest ≡ led_numbers space i n rest
  unfolding put_spaced led_numbers
  led_spaced i zero rest = refl
  led_spaced i (suc n) rest = refl

  led_listed : (at w n : ℕ) (rest : List ℕ) → put_listed text numbers at w n rest ≡ led_coordinates comma at w n rest
  unfolding put_listed led_coordinates
  led_listed at w zero rest = refl
  led_listed at w (suc n) rest = refl

  module _ (lead first w i : ℕ) where
    pub numbers_on : i < w → (rest : List ℕ) → led_numbers lead (first + i) (w - i) rest ≡ lead ∷ put_number text numbers (first + i) (led_numbers space (first + (i + 1)) (w - (i + 1)) rest)
    unfolding led_numbers
    numbers_on h rest = let z : first + i + 1 ≡ first + (i + 1) = omega arith in rw (less w i h, z) (ap (λ l. lead ∷ put_number text numbers (first + i) l) (led_spaced (first + (i + 1)) (w - (i + 1)) rest))

    pub numbers_end : w ≤ i → (rest : List ℕ) → led_numbers lead (first + i) (w - i) rest ≡ rest
    unfolding led_numbers
    numbers_end h rest = rw (none_left w i h)

  pub numbers_all : (lead first w : ℕ) → 1 ≤ w → (rest : List ℕ) → lead ∷ put_coordinate text numbers first w rest ≡ led_numbers lead (first + 0) (w - 0) rest
  unfolding led_numbers put_coordinate
  numbers_all lead first w h rest = let z : first + 0 ≡ first = omega arith in let y : w - 0 ≡ suc (w - 1) = omega arith in rw (z, y)

  module _ (lead first w n i : ℕ) where
    pub coordinates_on : i < n → (rest : List ℕ) → led_coordinates lead (first + i * w) w (n - i) rest ≡ lead ∷ put_coordinate text numbers (first + i * w) w (led_coordinates comma (first + (i + 1) * w) w (n - (i + 1)) rest)
    unfolding led_coordinates
    coordinates_on h rest =
        let on : first + (i + 1) * w ≡ first + i * w + w = omega (arith, suc-mul i w) in
        rw (on, less n i h) (ap (λ l. lead ∷ put_coordinate text numbers (first + i * w) w l) (led_listed (first + i * w + w) w (n - (i + 1)) rest))

    pub coordinates_end : n ≤ i → (rest : List ℕ) → led_coordinates lead (first + i * w) w (n - i) rest ≡ rest
    unfolding led_coordinates
    coordinates_end h rest = rw (none_left n i h)

  pub coordinates_all : (lead first w n : ℕ) → 1 ≤ n → (rest : List ℕ) → lead ∷ put_coordinates text numbers first w n rest ≡ led_coordinates lead (first + 0 * w) w (n - 0) rest
  unfolding led_coordinates put_coordinates
  coordinates_all lead first w n h rest = let z : first + 0 * w ≡ first = omega (arith, zero-mul w) in let y : n - 0 ≡ suc (n - 1) = omega arith in rw (z, y)

-- ---- sizes
-- of n coordinates of w numbers, the numbers of the first i, and of one more
pub numbers_before : (w n i : ℕ) → i < n → i * w + w ≤ n * w
numbers_before w n i h = omega (arith, suc-mul i w, mul-le-mul_right w h)

pub width_wide : (d w : ℕ) → w ≡ width d → 1 ≤ w
width_wide d w e = omega (arith, e, width_some d)

pub numbers_fit : (numbers : List ℕ) (v : Visit) (w : ℕ) → w ≡ width v.dimension → NumbersIn (number_room numbers) v → v.kind ≤ kind_line_string → v.number + v.parts * w ≤ number_room numbers
numbers_fit numbers v w e h k = rw e (h k)
