-- The part looked at, by one scan that ends at the first `(` or non-ASCII byte, whichever comes first.
-- Assumes nothing.
use mathlib.Core.Path.{◌≡◌, refl, sym, ap, ◌∙◌}
use mathlib.Core.Bool.{Bool, true, false, cond, not, ◌&&◌, false≢true}
use mathlib.Core.List.{List, [], ◌∷◌}
use Prim.Native.Nat.{ℕ, suc, ◌≤◌, ◌<◌, min}
use native.Mathlib.Decide.{dec_lt}
use native.Mathlib.Omega.{arith}
use lib.ListN.{length, get_or, drop}
use lib.Dec.{eqb}
use borrow.Author.Tests.{ne_eqb}
use Rattle.scan.specs.Bytes.{paren_open}
use Rattle.scan.specs.Runs.{run, first_not}
use Rattle.scan.proofs.Runs.{not_past, first_fails}
use Rattle.scan.specs.Bytes.{is_ascii}
use Rattle.infer_type.specs.Part.{is_no_paren, is_looked, trimmed_at, end_at, wide_at}

-- a scan for bytes that pass two tests ends where the first of the two scans does
module _ (p q : ℕ → Bool) where
  run_both : (l : List ℕ) → run (λ b. p b && q b) l ≡ min (run p l) (run q l)
  unfolding run
  run_both [] = refl
  run_both (b ∷ l) = go (p b) (q b) (run_both l)
    where
      go : (s t : Bool) → run (λ b. p b && q b) l ≡ min (run p l) (run q l) → cond (s && t) (suc (run (λ b. p b && q b) l)) 0 ≡ min (cond s (suc (run p l)) 0) (cond t (suc (run q l)) 0)
      go true true e = omega arith
      go true false e = omega arith
      go false t e = omega arith

  pub first_both : (text : List ℕ) (i : ℕ) → first_not (λ b. p b && q b) text i ≡ min (first_not p text i) (first_not q text i)
  unfolding first_not
  first_both text i = omega (arith, run_both (drop i text))

-- where the one scan stops
abbrev pub stop_at : List ℕ → ℕ
stop_at text = first_not is_looked text (trimmed_at text)

module _ (text : List ℕ) where
  pub first_stop : stop_at text ≡ min (wide_at text) (end_at text)
  unfolding wide_at end_at
  first_stop = first_both is_ascii is_no_paren text (trimmed_at text)

  pub wide_fits : wide_at text ≤ length text
  unfolding wide_at
  wide_fits = not_past is_ascii text (trimmed_at text)

  pub end_fits : end_at text ≤ length text
  unfolding end_at
  end_fits = not_past is_no_paren text (trimmed_at text)

  pub start_fits : trimmed_at text ≤ length text
  unfolding trimmed_at
  start_fits = not_past _ text 0

  -- no byte stops the scan: the part looked at is ASCII, and goes to the end
  pub stop_none : stop_at text ≡ length text → (end_at text ≡ length text) × (end_at text ≤ wide_at text)
  stop_none e = (omega (arith, first_stop, wide_fits, end_fits), omega (arith, first_stop, wide_fits, end_fits))

  -- a `(` does: there the part looked at ends, and what it holds is ASCII
  pub stop_paren : stop_at text < length text → get_or text (stop_at text) 0 ≡ paren_open → (end_at text ≡ stop_at text) × (end_at text ≤ wide_at text)
  unfolding wide_at
  stop_paren h b = go (dec_lt (stop_at text) (wide_at text))
    where
      go : Dec (stop_at text < wide_at text) → (end_at text ≡ stop_at text) × (end_at text ≤ wide_at text)
      go (yes l) = (omega (arith, first_stop), omega (arith, first_stop))
      go (no l) =
          let e : wide_at text ≡ stop_at text = omega (arith, first_stop) in
          absurd (false≢true (sym (first_fails is_ascii text (trimmed_at text) (omega arith)) ∙ ap is_ascii (ap (λ (k : ℕ). get_or text k 0) e ∙ b)))

  -- another byte does: it is the first non-ASCII one, and stands in the part looked at
  pub stop_wide : stop_at text < length text → (get_or text (stop_at text) 0 ≡ paren_open → ⊥) → (wide_at text ≡ stop_at text) × (wide_at text < end_at text)
  unfolding end_at
  stop_wide h n = go (dec_lt (stop_at text) (end_at text))
    where
      go : Dec (stop_at text < end_at text) → (wide_at text ≡ stop_at text) × (wide_at text < end_at text)
      go (yes l) = (omega (arith, first_stop), omega (arith, first_stop))
      go (no l) =
          let e : end_at text ≡ stop_at text = omega (arith, first_stop) in
          absurd (false≢true (sym (first_fails is_no_paren text (trimmed_at text) (omega arith)) ∙ ap not (ap (λ (k : ℕ). eqb (get_or text k 0) paren_open) e ∙ ne_eqb _ _ n)))
