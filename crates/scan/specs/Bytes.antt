-- The classes of bytes that document 01, "Tokens", tells apart.
use Rattle.std.specs.Prelude.{ℕ, Bool, not, ◌||◌, ◌&&◌, eqb, leb}

abbrev pub nul : ℕ
nul = 0

abbrev pub tab : ℕ
tab = 9

abbrev pub lf : ℕ
lf = 10

abbrev pub cr : ℕ
cr = 13

abbrev pub space : ℕ
space = 32

-- `(`
abbrev pub paren_open : ℕ
paren_open = 40

-- `)`
abbrev pub paren_close : ℕ
paren_close = 41

-- `+`
abbrev pub plus : ℕ
plus = 43

-- `,`
abbrev pub comma : ℕ
comma = 44

-- `-`
abbrev pub minus : ℕ
minus = 45

-- `.`
abbrev pub point : ℕ
point = 46

-- "Blanks are space, tab, LF and CR."
abbrev pub is_blank : ℕ → Bool
is_blank b = eqb b space || eqb b tab || eqb b lf || eqb b cr

-- the marks that end a number or a word and aren't taken with it: NUL, `(`, `)` and `,`
abbrev pub is_mark : ℕ → Bool
is_mark b = eqb b nul || eqb b paren_open || eqb b paren_close || eqb b comma

-- "Both run to a blank (taken too) or to NUL, `(`, `)` or `,` (not taken)."
abbrev pub is_stop : ℕ → Bool
is_stop b = is_blank b || is_mark b

-- a byte within a number or a word
abbrev pub is_inner : ℕ → Bool
is_inner b = not (is_stop b)

-- `0` to `9`
abbrev pub is_digit : ℕ → Bool
is_digit b = leb 48 b && leb b 57

-- `+` or `-`
abbrev pub is_sign : ℕ → Bool
is_sign b = eqb b plus || eqb b minus

abbrev pub is_plus : ℕ → Bool
is_plus b = eqb b plus

abbrev pub is_point : ℕ → Bool
is_point b = eqb b point

-- "A token starting with `.`, `-`, `+` or a digit is a number".
abbrev pub is_numberlike : ℕ → Bool
is_numberlike b = is_digit b || is_point b || is_sign b

-- a byte of ASCII
abbrev pub is_ascii : ℕ → Bool
is_ascii b = leb b 0x7F
