-- A cursor that was made anew, or stepped from a sound one, is sound, and so is what it finds.
-- Assumes nothing.
use mathlib.Core.Path.{◌≡◌, refl}
use mathlib.Core.Bool.{Bool, true, false}
use mathlib.Core.List.{List}
use Prim.Native.Nat.{ℕ, ◌<◌}
use native.Mathlib.Decide.{dec_lt}
use native.Mathlib.Omega.{arith}
use lib.Dec.{eqb}
use lib.ListN.{length, get_or}
use borrow.Author.Tests.{le-leb, lt-leb}
use Rattle.scan.specs.Bytes.{is_blank, is_inner, is_numberlike}
use Rattle.scan.specs.Front.{part}
use Rattle.scan.specs.Runs.{first_not}
use Rattle.scan.proofs.Runs.{not_before, not_past}
use Rattle.number.specs.Lexeme.{is_lexeme}
use Rattle.token.specs.declared.Found.{Found}
use Rattle.tokenizer.specs.declared.Held.{Held}
use Rattle.token.specs.declared.Read.{Read}
use Rattle.tokenizer.specs.declared.Cursor.{Cursor}
use Rattle.token.specs.Tokens.{end_of, text_start, number_or, number_at, word_at, start_at, token_at, read_at}
use Rattle.tokenizer.specs.Tokens.{cursor_at, take_held, take_at, hold, look_at}
use Rattle.token_stream.specs.Sound.{SoundFound, SoundHeld, Sound}
use Rattle.token.proofs.Tokens.{start_end}
use Rattle.lists.proofs.Cases.{either}

module _ (text : List ℕ) (p : ℕ) (h : p < length text) where
  number_sound : SoundFound text (number_at text p).found
  unfolding number_at
  number_sound = go (is_lexeme (part text (text_start text p) (end_of text (text_start text p)))) refl
    where
      go : (x : Bool) → is_lexeme (part text (text_start text p) (end_of text (text_start text p))) ≡ x → SoundFound text (number_or x p (text_start text p) (end_of text (text_start text p)))
      go true e = (omega (arith, start_end text p h, not_past is_inner text (text_start text p)), e)
      go false e = tt

  word_sound : SoundFound text (word_at text p).found
  unfolding word_at
  word_sound = omega (arith, not_before is_inner text p (omega arith), not_past is_inner text p)

  start_sound : (c : ℕ) → SoundFound text (start_at text p c).found
  unfolding start_at
  start_sound c =
      let Q : Read → Type 0 = λ r. SoundFound text r.found in
      either (eqb c 0) Q _ _ (λ e. tt) λ e0.
      either (eqb c 40) Q _ _ (λ e. tt) λ e1.
      either (eqb c 41) Q _ _ (λ e. tt) λ e2.
      either (eqb c 44) Q _ _ (λ e. tt) λ e3.
      either (is_numberlike c) Q _ _ (λ e. number_sound) λ e. word_sound

module _ (text : List ℕ) where
  read_sound : (i : ℕ) → SoundFound text (read_at text i).found
  unfolding read_at token_at
  read_sound i = go (dec_lt (first_not is_blank text i) (length text))
    where
      go : Dec (first_not is_blank text i < length text) → SoundFound text (read_at text i).found
      go (yes h) = rw (lt-leb (length text) (first_not is_blank text i) h) (start_sound text (first_not is_blank text i) h (get_or text (first_not is_blank text i) 0))
      go (no h) = rw (le-leb (length text) (first_not is_blank text i) (omega arith)) tt

  pub new_sound : (i : ℕ) → Sound text (cursor_at i)
  unfolding Sound
  new_sound i = tt

  take_by : (i : ℕ) (held : Held) → SoundHeld text held → SoundFound text (take_held text i held).found × Sound text (take_held text i held).next
  unfolding take_held Sound
  take_by i Held.Nothing g = (read_sound i, tt)
  take_by i (Held.NoToken p) g = (tt, tt)
  take_by i (Held.BadNumber p) g = (tt, tt)
  take_by i (Held.Is p t) g = (g, tt)

  pub take_sound : (c : Cursor) → Sound text c → SoundFound text (take_at text c).found × Sound text (take_at text c).next
  unfolding Sound
  take_sound c g = take_by c.at c.held g

  hold_sound : (f : Found) → SoundFound text f → SoundHeld text (hold f)
  hold_sound (Found.NoToken p) g = tt
  hold_sound (Found.BadNumber p) g = tt
  hold_sound (Found.Is p t) g = g

  pub look_sound : (c : Cursor) → Sound text c → SoundFound text (look_at text c).found × Sound text (look_at text c).next
  unfolding Sound
  look_sound c g = let f = (take_sound c g).0 in (f, hold_sound (take_at text c).found f)
