-- Worked examples of this crate's definitions, by computation.
use Rattle.std.specs.Prelude.{◌≡◌, refl, true, false, ℕ}
use Rattle.limits.specs.Limits.{text_limit, over_limit, depth_limit}

-- "4,194,304 bytes", "at most 32 non-empty collections"
numbers : (◌≡◌ {A = ℕ} text_limit 4194304) × (◌≡◌ {A = ℕ} depth_limit 32)
numbers = (refl, refl)

-- 4,194,304 bytes are none too many, 4,194,305 are; 65,536, which was one too many, is none
edge : (over_limit 0 ≡ false) × (over_limit 65535 ≡ false) × (over_limit 65536 ≡ false) × (over_limit 4194304 ≡ false) × (over_limit 4194305 ≡ true) × (over_limit 4194306 ≡ true) × (over_limit 10000000 ≡ true)
edge = (refl, refl, refl, refl, refl, refl, refl)

-- nor is any length cut to its low 16 or 32 bits: 64 · 65,536 + 65,536 and 2 ^ 32 are over the limit
whole_length : (over_limit 4259840 ≡ true) × (over_limit 4294967296 ≡ true) × (over_limit 4294967297 ≡ true)
whole_length = (refl, refl, refl)
