-- What is known of a token that was read: its span lies in the text, and a number's text is a lexeme.
use Rattle.std.specs.Prelude.{ℕ, ◌+◌, ◌≤◌, ◌≡◌, true, List, length}
use Rattle.number.specs.Lexeme.{is_lexeme}
use Rattle.token.specs.declared.Token.{Token}
use Rattle.token.specs.declared.Token.TheVariants.{Comma, Number, ParenClose, ParenOpen, Word}
use Rattle.token.specs.declared.Found.{Found}
use Rattle.tokenizer.specs.declared.Held.{Held}
use Rattle.tokenizer.specs.declared.Cursor.{Cursor}
use Rattle.token_stream.specs.Stream.{span_in}

abbrev pub SoundToken : List ℕ → Token → Type 0
SoundToken text ParenOpen = Unit {0}
SoundToken text ParenClose = Unit {0}
SoundToken text Comma = Unit {0}
SoundToken text (Number s l) = (s + l ≤ length text) × (is_lexeme (span_in text s l) ≡ true)
SoundToken text (Word s l) = s + l ≤ length text

abbrev pub SoundFound : List ℕ → Found → Type 0
SoundFound text (Found.NoToken p) = Unit {0}
SoundFound text (Found.BadNumber p) = Unit {0}
SoundFound text (Found.Is p t) = SoundToken text t

abbrev pub SoundHeld : List ℕ → Held → Type 0
SoundHeld text Held.Nothing = Unit {0}
SoundHeld text (Held.NoToken p) = Unit {0}
SoundHeld text (Held.BadNumber p) = Unit {0}
SoundHeld text (Held.Is p t) = SoundToken text t

-- a cursor that holds nothing, or what was read of the text
unfoldable pub Sound : List ℕ → Cursor → Type 0
Sound text c = SoundHeld text c.held
