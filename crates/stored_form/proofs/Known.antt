-- Versions: those that there are may be, and what may be.
-- Assumes nothing.
use mathlib.Core.Path.{◌≡◌, refl}
use Prim.Native.Nat.{ℕ, zero, suc, ◌+◌, ◌^◌, ◌≤◌, ◌<◌}
use native.Mathlib.Omega.{arith}
use Rattle.fields.specs.Counts.{byte}
use Rattle.stored_form.specs.declared.Version.{Version}
use Rattle.stored_form.specs.declared.Edition.{Edition}
use Rattle.stored_form.specs.declared.Edition.TheVariants.{First, Second}
use Rattle.stored_form.specs.Form.{version_of, Known}

pub known_of : (e : Edition) → Known (version_of e)
known_of First = record { named = omega arith; narrow = omega arith; counts = refl; limited = omega arith }
known_of Second = record { named = omega arith; narrow = omega arith; counts = refl; limited = omega arith }

-- the largest count of a version is one of four bytes
pub largest_fits : {v : Version} → Known v → v.largest < 2 ^ 32
largest_fits {v} k = go v.width k.narrow k.counts
  where
    go : (w : ℕ) → w ≤ 4 → v.largest + 1 ≡ byte ^ w → v.largest < 2 ^ 32
    go zero h e = omega arith
    go (suc zero) h e = omega arith
    go (suc (suc zero)) h e = omega arith
    go (suc (suc (suc zero))) h e = omega arith
    go (suc (suc (suc (suc zero)))) h e = omega arith
    go (suc (suc (suc (suc (suc w))))) h e = absurd (omega arith)
