-- Where a number goes wrong (document 02, 2026-02): "the place is the first byte at which no lexeme can go on, or the token's end where more was needed."
-- The definition is `GoesWrongAt`, over the grammar; `goes_wrong` computes it (proofs/Openings: `goes_wrong_at`, `goes_wrong_only_at`).
use Rattle.std.specs.Prelude.{ℕ, zero, suc, ◌≤◌, Bool, cond, ◌||◌, List, ◌++◌, length, take}
use Rattle.scan.specs.Text.{bytes}
use Rattle.scan.specs.Bytes.{is_sign}
use Rattle.scan.specs.Front.{after_one, is_nil}
use Rattle.words.specs.Words.{starts_word}
use Rattle.number.specs.Grammar.{Float}
use Rattle.number.specs.Lexeme.{inf, infinity, nan, is_decimal}

-- some lexeme begins with x
pub record Opens (x : List ℕ) : Type 0 where
  pub behind : List ℕ
  pub lexeme : Float (x ++ behind)

-- the longest beginning of w that some lexeme begins with has n bytes
pub record GoesWrongAt (w : List ℕ) (n : ℕ) : Type 0 where
  pub within : n ≤ length w
  pub opens : Opens (take n w)
  pub longest : (m : ℕ) → m ≤ length w → Opens (take m w) → m ≤ n

-- ---- and computed
-- a decimal can go on from here: with one digit more it is one
unfoldable pub opens_decimal : List ℕ → Bool
opens_decimal w = is_decimal is_nil (w ++ bytes "0")

-- "`inf`, `infinity`, `nan`": one of them begins so
unfoldable pub opens_word : List ℕ → Bool
opens_word w = starts_word inf w || starts_word infinity w || starts_word nan w

-- "optional sign, then `inf`, `infinity`, `nan` or a decimal": whether some lexeme begins with x
unfoldable pub opens : List ℕ → Bool
opens x = opens_decimal (after_one is_sign x) || opens_word (after_one is_sign x)

-- how long the longest beginning of w is that passes the test and has no more than n bytes; 0 if there is none
unfoldable pub longest_up_to : (List ℕ → Bool) → List ℕ → ℕ → ℕ
longest_up_to test w zero = 0
longest_up_to test w (suc n) = cond (test (take (suc n) w)) (suc n) (longest_up_to test w n)

abbrev pub longest : (List ℕ → Bool) → List ℕ → ℕ
longest test w = longest_up_to test w (length w)

-- how many bytes of w a lexeme can begin with: at that place it goes wrong
abbrev pub goes_wrong : List ℕ → ℕ
goes_wrong w = longest opens w
