-- The words belong to the number that is refused: at the place where the number at p goes wrong, what was expected is told of that number's own longest beginning.
-- Assumes nothing.
use mathlib.Core.Path.{◌≡◌, refl, sym, ap, ◌∙◌}
use mathlib.Core.Bool.{Bool, true, false, cond}
use mathlib.Core.List.{List, [], ◌∷◌}
use Prim.Native.Nat.{ℕ, zero, suc, ◌+◌, ◌-◌, ◌≤◌, ◌<◌}
use native.Mathlib.Omega.{arith}
use lib.ListN.{length, get_or, take, drop, length-drop}
use lib.Seq.{length-take-le, take-take, get_or-drop}
use Rattle.scan.specs.Bytes.{is_inner, is_plus}
use Rattle.scan.specs.Front.{part}
use Rattle.scan.specs.Runs.{run, first_not, after_one_at}
use Rattle.scan.proofs.Bytes.{plus_inner}
use Rattle.scan.proofs.Runs.{not_before, not_past, scan_one, one_not_before, one_not_past}
use Rattle.bad_numbers.specs.Openings.{goes_wrong}
use Rattle.bad_numbers.proofs.Openings.{wrong_within}
use Rattle.expected.specs.Expected.{expected_after, expected_at}
use Rattle.expected.proofs.Tokens.{Begins, expected_of_token}

-- every byte of a run passes
run_passes : (q : ℕ → Bool) (l : List ℕ) (i : ℕ) → i < run q l → q (get_or l i 0) ≡ true
unfolding run
run_passes q [] i h = absurd (omega arith)
run_passes q (b ∷ l) i h = go (q b) refl i h (run_passes q l)
  where
    go : (t : Bool) → q b ≡ t → (i : ℕ) → i < cond t (suc (run q l)) 0 → ((j : ℕ) → j < run q l → q (get_or l j 0) ≡ true) → q (get_or (b ∷ l) i 0) ≡ true
    go true e zero h r = e
    go true e (suc j) h r = r j (omega arith)
    go false e i h r = absurd (omega arith)

module _ (text : List ℕ) (p : ℕ) (inside : p ≤ length text) (begins : Begins text p) where
  abbrev start : ℕ
  start = after_one_at is_plus text p

  abbrev number : List ℕ
  number = part text start (first_not is_inner text start)

  same_end : first_not is_inner text start ≡ first_not is_inner text p
  same_end = scan_one is_plus is_inner plus_inner text p refl

  number_length : length number ≡ first_not is_inner text start - start
  number_length = length-take-le (first_not is_inner text start - start) (drop start text) (omega (arith, length-drop start text, not_past is_inner text start))

  inner_at : (i : ℕ) → p + i < first_not is_inner text p → is_inner (get_or text (p + i) 0) ≡ true
  unfolding first_not
  inner_at i h = rw (← get_or-drop p text i 0) (run_passes is_inner (drop p text) i (omega arith))

  -- the place, counted from where the token starts
  wide : ℕ
  wide = (start - p) + goes_wrong number

  within : p + wide ≤ first_not is_inner text p
  unfolding wide
  within =
      omega (arith, wrong_within number, number_length, same_end, one_not_before is_plus text p refl, not_before is_inner text start (one_not_past is_plus text p refl inside))

  place_is : start + goes_wrong number ≡ p + wide
  unfolding wide
  place_is = omega (arith, one_not_before is_plus text p refl)

  pub there : expected_at text (start + goes_wrong number) ≡ expected_after (take (goes_wrong number) number)
  there =
      let few : (start + goes_wrong number) - start ≡ goes_wrong number = omega arith in
      let told : expected_at text (p + wide) ≡ expected_after (part text start (p + wide)) = expected_of_token text p begins wide λ i l. inner_at i (omega (arith, within)) in
      ap (expected_at text) place_is ∙ told ∙ ap (λ (k : ℕ). expected_after (part text start k)) (sym place_is)
      ∙ ap (λ (k : ℕ). expected_after (take k (drop start text))) few
      ∙ ap expected_after (sym (take-take (goes_wrong number) (first_not is_inner text start - start) (drop start text) (omega (arith, wrong_within number, number_length))))
