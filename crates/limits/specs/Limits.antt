-- The limits to a text: its length and its depth (document 01, "Refusal numbers" and "The store").
use Rattle.std.specs.Prelude.{ℕ, Bool, ltb}

-- "The text limit goes [..] to 4,194,304 bytes in refusal 1, its place and demands 1 to 3." (document 02, 2026-05)
abbrev pub text_limit : ℕ
text_limit = 4194304

-- is a text of n bytes over the limit
abbrev pub over_limit : ℕ → Bool
over_limit n = ltb text_limit n

-- "at most 32 non-empty collections lie on a path"; refusal 5 is "a 33rd open collection"
abbrev pub depth_limit : ℕ
depth_limit = 32
