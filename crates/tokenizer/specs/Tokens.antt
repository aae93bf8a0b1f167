-- What a cursor takes, looks at and passes over (document 01, "Tokens").
use Rattle.std.specs.Prelude.{ℕ, ◌+◌, Bool, true, false, cond, ◌&&◌, List, length, get_or, eqb, ltb, Option, Some, None}
use Rattle.scan.specs.Bytes.{paren_close}
use Rattle.token.specs.declared.Token.{Token}
use Rattle.token.specs.declared.Token.TheVariants.{Comma, Number, ParenClose, ParenOpen, Word}
use Rattle.token.specs.declared.Found.{Found}
use Rattle.token.specs.Tokens.{read_at}
use Rattle.tokenizer.specs.declared.Held.{Held}
use Rattle.tokenizer.specs.declared.Cursor.{Cursor}
use Rattle.tokenizer.specs.declared.Step.{Step}
use Rattle.tokenizer.specs.declared.Passed.{Passed}
use Rattle.tokenizer.specs.declared.PassedOpen.{PassedOpen}

-- a cursor with nothing held
abbrev pub cursor_at : ℕ → Cursor
cursor_at i = record { at = i; held = Held.Nothing }

abbrev pub step : Found → Cursor → Step
step f c = record { found = f; next = c }

-- "a token looked at and not yet taken is held, "no token" and a bad number included, and comes out once"; else the text is read on
unfoldable pub take_held : List ℕ → ℕ → Held → Step
take_held text i Held.Nothing = step (read_at text i).found (cursor_at (read_at text i).at)
take_held text i (Held.NoToken p) = step (Found.NoToken p) (cursor_at i)
take_held text i (Held.BadNumber p) = step (Found.BadNumber p) (cursor_at i)
take_held text i (Held.Is p t) = step (Found.Is p t) (cursor_at i)

abbrev pub take_at : List ℕ → Cursor → Step
take_at text c = take_held text c.at c.held

abbrev pub hold : Found → Held
hold (Found.NoToken p) = Held.NoToken p
hold (Found.BadNumber p) = Held.BadNumber p
hold (Found.Is p t) = Held.Is p t

-- what would be taken, which is held
abbrev pub look_at : List ℕ → Cursor → Step
look_at text c = step (take_at text c).found (record { at = (take_at text c).next.at; held = hold (take_at text c).found })

abbrev pub is_nothing : Held → Bool
is_nothing Held.Nothing = true
is_nothing (Held.NoToken p) = false
is_nothing (Held.BadNumber p) = false
is_nothing (Held.Is p t) = false

abbrev pub is_comma_token : Token → Bool
is_comma_token Comma = true
is_comma_token (Number s l) = false
is_comma_token ParenClose = false
is_comma_token ParenOpen = false
is_comma_token (Word s l) = false

abbrev pub is_comma : Found → Bool
is_comma (Found.NoToken p) = false
is_comma (Found.BadNumber p) = false
is_comma (Found.Is p t) = is_comma_token t

-- nothing is held, and the byte b stands at the cursor
abbrev pub stands_at : List ℕ → ℕ → Cursor → Bool
stands_at text b c = ltb c.at (length text) && (is_nothing c.held && eqb (get_or text c.at 0) b)

abbrev pub passed : Bool → Cursor → Passed
passed b c = record { comma = b; next = c }

-- the next token is looked at, and taken if it is a comma
abbrev pub pass_by : Step → Passed
pass_by s = cond (is_comma s.found) (passed true (cursor_at s.next.at)) (passed false s.next)

unfoldable pub pass_comma : List ℕ → Cursor → Passed
pass_comma text c = pass_by (look_at text c)

abbrev pub is_open_token : Token → Bool
is_open_token Comma = false
is_open_token (Number s l) = false
is_open_token ParenClose = false
is_open_token ParenOpen = true
is_open_token (Word s l) = false

abbrev pub is_open : Found → Bool
is_open (Found.NoToken p) = false
is_open (Found.BadNumber p) = false
is_open (Found.Is p t) = is_open_token t

-- where a token starts
abbrev pub place_in : Found → ℕ
place_in (Found.NoToken p) = p
place_in (Found.BadNumber p) = p
place_in (Found.Is p t) = p

abbrev pub passed_open : Bool → ℕ → Cursor → PassedOpen
passed_open b p c = record { opens = b; place = p; next = c }

-- the next token is looked at, and taken if it is `(`
abbrev pub pass_open_by : Step → PassedOpen
pass_open_by s = cond (is_open s.found) (passed_open true (place_in s.found) (cursor_at s.next.at)) (passed_open false (place_in s.found) s.next)

unfoldable pub pass_open : List ℕ → Cursor → PassedOpen
pass_open text c = pass_open_by (look_at text c)

abbrev pub is_close_token : Token → Bool
is_close_token Comma = false
is_close_token (Number s l) = false
is_close_token ParenClose = true
is_close_token ParenOpen = false
is_close_token (Word s l) = false

-- `)` is held, or nothing is held and it stands at the cursor: the place behind it
unfoldable pub closes_held : List ℕ → ℕ → Held → Option ℕ
closes_held text i Held.Nothing = cond (ltb i (length text) && eqb (get_or text i 0) paren_close) (Some (i + 1)) None
closes_held text i (Held.NoToken p) = None
closes_held text i (Held.BadNumber p) = None
closes_held text i (Held.Is p t) = cond (is_close_token t) (Some i) None

abbrev pub closes_at : List ℕ → Cursor → Option ℕ
closes_at text c = closes_held text c.at c.held
