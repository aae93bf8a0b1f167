-- Laws of lines: what a turn of each scan towards the front of a text comes to, and the place that is shown.
-- Assumes nothing.
use mathlib.Core.Path.{◌≡◌, refl, sym, ap, ◌∙◌}
use mathlib.Core.Bool.{true, false}
use mathlib.Core.List.{List}
use Prim.Native.Nat.{ℕ, zero, suc, ◌+◌, ◌-◌, ◌≤◌, ◌<◌}
use native.Mathlib.Omega.{arith}
use native.Mathlib.Numerals.{add-one}
use lib.ListN.{length, get_or, take, drop, length-drop, drop_of_length-le}
use lib.Seq.{drop-cons, take_all}
use borrow.Author.Tests.{le-ltb, lt-ltb}
use Rattle.scan.specs.Runs.{first_not}
use Rattle.scan.proofs.Runs.{not_before, not_past}
use Rattle.line_places.specs.Lines.{is_break, goes_on, line_start, break_count, line_from, numbered_line, trimmed, shown_place}

before : {i : ℕ} → 0 < i → suc (i - 1) ≡ i
before h = omega arith

module _ (text : List ℕ) where
  start_in : (p : ℕ) → is_break (get_or text p 0) ≡ false → line_start text p ≡ line_start text (suc p)
  unfolding line_start
  start_in p t = rw t

  start_behind : (p : ℕ) → is_break (get_or text p 0) ≡ true → suc p ≡ line_start text (suc p)
  unfolding line_start
  start_behind p t = rw t

  pub start_on : (i : ℕ) → 0 < i → is_break (get_or text (i - 1) 0) ≡ false → line_start text (i - 1) ≡ line_start text i
  start_on i h t = start_in (i - 1) t ∙ ap (line_start text) (before h)

  pub start_stop : (i : ℕ) → 0 < i → is_break (get_or text (i - 1) 0) ≡ true → i ≡ line_start text i
  start_stop i h t = sym (before h) ∙ start_behind (i - 1) t ∙ ap (line_start text) (before h)

  pub start_end : (i : ℕ) → i ≤ 0 → i ≡ line_start text i
  unfolding line_start
  start_end zero h = refl
  start_end (suc p) h = absurd (omega arith)

  trim_in : (p : ℕ) → is_break (get_or text p 0) ≡ true → trimmed text p ≡ trimmed text (suc p)
  unfolding trimmed
  trim_in p t = rw t

  trim_behind : (p : ℕ) → is_break (get_or text p 0) ≡ false → suc p ≡ trimmed text (suc p)
  unfolding trimmed
  trim_behind p t = rw t

  pub trim_on : (i : ℕ) → 0 < i → is_break (get_or text (i - 1) 0) ≡ true → trimmed text (i - 1) ≡ trimmed text i
  trim_on i h t = trim_in (i - 1) t ∙ ap (trimmed text) (before h)

  pub trim_stop : (i : ℕ) → 0 < i → is_break (get_or text (i - 1) 0) ≡ false → i ≡ trimmed text i
  trim_stop i h t = sym (before h) ∙ trim_behind (i - 1) t ∙ ap (trimmed text) (before h)

  pub trim_end : (i : ℕ) → i ≤ 0 → i ≡ trimmed text i
  unfolding trimmed
  trim_end zero h = refl
  trim_end (suc p) h = absurd (omega arith)

pub place_in : (text : List ℕ) (place : ℕ) → place < length text → place ≡ shown_place text place
unfolding shown_place
place_in text place h = rw (lt-ltb place (length text) h)

pub place_end : (text : List ℕ) (place : ℕ) → length text ≤ place → trimmed text (length text) ≡ shown_place text place
unfolding shown_place
place_end text place h = rw (le-ltb place (length text) h)

-- the next character begins behind place i, and in the text or at its end
pub next_after : (text : List ℕ) (i r : ℕ) → i < length text → r ≡ first_not goes_on text (i + 1) → i < r
next_after text i r h e = omega (arith, e, not_before goes_on text (i + 1) (omega arith))

pub next_within : (text : List ℕ) (i r : ℕ) → r ≡ first_not goes_on text i → r ≤ length text
next_within text i r e = omega (arith, e, not_past goes_on text i)

pub one_break : (b : ℕ) → is_break b ≡ true → 1 ≡ break_count b
one_break b t = rw t

pub no_break_law : (b : ℕ) → is_break b ≡ false → 0 ≡ break_count b
no_break_law b t = rw t

-- ---- the scan for a line by its index: what is left to pass is the place that was asked for
module _ (text : List ℕ) (i left g : ℕ) (y : i + line_from (drop i text) left ≡ g) where
  pub line_here : i < length text → left ≡ 0 → i ≡ g
  unfolding line_from
  line_here h e =
      let z : i + line_from (drop i text) 0 ≡ g = rw e at y in
      let n : i + 0 ≡ g = rw (drop-cons text i 0 h) at z in
      omega arith

  pub line_past : length text ≤ i → i ≡ g
  unfolding line_from
  line_past h =
      let n : i + 0 ≡ g = rw (drop_of_length-le text {i = i} h) at y in
      omega arith

pub line_on : (text : List ℕ) (i left s g : ℕ) → i < length text → (left ≡ 0 → ⊥) → s ≡ break_count (get_or text i 0) → i + line_from (drop i text) left ≡ g → i + 1 + line_from (drop (i + 1) text) (left - s) ≡ g
unfolding line_from
line_on text i zero s g h n e y = absurd (n refl)
line_on text i (suc left) s g h n e y =
    let z : i + suc (line_from (drop (suc i) text) (suc left - break_count (get_or text i 0))) ≡ g = rw (drop-cons text i 0 h) at y in
    rw (e, add-one i) (omega (arith, z))

-- what stands from a place on, as a part of a slice
pub rest_is : (l : List ℕ) (i : ℕ) → take (length l - i) (drop i l) ≡ drop i l
rest_is l i = take_all (length l - i) (drop i l) (simp length-drop (omega arith))

-- the line from where it begins up to where the next one does
pub line_is : (l : List ℕ) (n : ℕ) {start end : ℕ} → start ≡ line_from l n → end ≡ line_from (take (length l - start) (drop start l)) 1 → take (end - 0) (drop 0 (take (length l - start) (drop start l))) ≡ numbered_line l n
line_is l n {start} {end} e f =
    let g : end ≡ line_from (drop start l) 1 = rw (rest_is l start) at f in
    let z : end - 0 ≡ end = omega arith in
    rw (z, rest_is l start, g, e)
