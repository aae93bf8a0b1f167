-- A comma or a `(` that is passed over is taken, and any other token is looked at; a `)` that is next is what would be taken.
-- Assumes nothing.
use mathlib.Core.Path.{◌≡◌, refl, sym, ap, ◌∙◌}
use mathlib.Core.Bool.{Bool, true, false, false≢true}
use mathlib.Core.List.{List}
use Prim.Native.Nat.{ℕ, ◌+◌}
use Rattle.std.specs.Prelude.{Option, Some, None, cond}
use Rattle.std.proofs.lemmas.Option.{none-some}
use Rattle.lists.proofs.Cases.{either}
use Rattle.scan.specs.Bytes.{paren_close}
use Rattle.token.specs.declared.Token.{Token}
use Rattle.token.specs.declared.Token.TheVariants.{Comma, Number, ParenClose, ParenOpen, Word}
use Rattle.token.specs.declared.Found.{Found}
use Rattle.tokenizer.specs.declared.Held.{Held}
use Rattle.tokenizer.specs.declared.Cursor.{Cursor}
use Rattle.tokenizer.specs.declared.Passed.{Passed}
use Rattle.tokenizer.specs.declared.PassedOpen.{PassedOpen}
use Rattle.tokenizer.specs.Tokens.{step, cursor_at, take_held, take_at, look_at, is_comma, stands_at, pass_comma, is_open_token, is_open, place_in, pass_open, is_close_token, closes_held, closes_at}
use Rattle.tokenizer.proofs.Marks.{close_taken_here, close_here}

-- what is `(` or `)` is no other token
open_token : (p : ℕ) (t : Token) → is_open_token t ≡ true → Found.Is p t ≡ Found.Is p ParenOpen
open_token p ParenOpen y = refl
open_token p Comma y = absurd (false≢true y)
open_token p (Number s l) y = absurd (false≢true y)
open_token p ParenClose y = absurd (false≢true y)
open_token p (Word s l) y = absurd (false≢true y)

pub open_is : (f : Found) → is_open f ≡ true → f ≡ Found.Is (place_in f) ParenOpen
open_is (Found.NoToken p) y = absurd (false≢true y)
open_is (Found.BadNumber p) y = absurd (false≢true y)
open_is (Found.Is p t) y = open_token p t y

close_token : (p : ℕ) (t : Token) → is_close_token t ≡ true → Found.Is p t ≡ Found.Is p ParenClose
close_token p ParenClose y = refl
close_token p Comma y = absurd (false≢true y)
close_token p (Number s l) y = absurd (false≢true y)
close_token p ParenOpen y = absurd (false≢true y)
close_token p (Word s l) y = absurd (false≢true y)

abbrev place_or_zero : Option ℕ → ℕ
place_or_zero None = 0
place_or_zero (Some i) = i

place_some : {i j : ℕ} → Some i ≡ Some j → i ≡ j
place_some e = ap place_or_zero e

module _ (text : List ℕ) (c : Cursor) where
  pub take_free : (take_at text c).next ≡ cursor_at (take_at text c).next.at
  unfolding take_held
  take_free = go c.held
    where
      go : (h : Held) → (take_held text c.at h).next ≡ cursor_at (take_held text c.at h).next.at
      go Held.Nothing = refl
      go (Held.NoToken p) = refl
      go (Held.BadNumber p) = refl
      go (Held.Is p t) = refl

  module _ (r : Passed) (e : r ≡ pass_comma text c) where
    -- a comma was taken
    pub comma_taken : r.comma ≡ true → (is_comma (take_at text c).found ≡ true) × (r.next ≡ (take_at text c).next)
    unfolding pass_comma
    comma_taken =
        let Q : Passed → Type 0 = λ p. p.comma ≡ true → (is_comma (take_at text c).found ≡ true) × (p.next ≡ (take_at text c).next) in
        rw e (either (is_comma (take_at text c).found) Q _ _ (λ y z. (y, sym take_free)) (λ n z. absurd (false≢true z)))

    -- another token is held
    pub other_held : r.comma ≡ false → (is_comma (take_at text c).found ≡ false) × (r.next ≡ (look_at text c).next)
    unfolding pass_comma
    other_held =
        let Q : Passed → Type 0 = λ p. p.comma ≡ false → (is_comma (take_at text c).found ≡ false) × (p.next ≡ (look_at text c).next) in
        rw e (either (is_comma (take_at text c).found) Q _ _ (λ y z. absurd (false≢true (sym z))) (λ n z. (n, refl)))

  module _ (r : PassedOpen) (e : r ≡ pass_open text c) where
    -- `(` was taken
    pub open_taken : r.opens ≡ true → (is_open (take_at text c).found ≡ true) × (r.place ≡ place_in (take_at text c).found) × (r.next ≡ (take_at text c).next)
    unfolding pass_open
    open_taken =
        let Q : PassedOpen → Type 0 = λ p. p.opens ≡ true → (is_open (take_at text c).found ≡ true) × (p.place ≡ place_in (take_at text c).found) × (p.next ≡ (take_at text c).next) in
        rw e (either (is_open (take_at text c).found) Q _ _ (λ y z. (y, refl, sym take_free)) (λ n z. absurd (false≢true z)))

    -- another token is held
    pub open_not : r.opens ≡ false → (is_open (take_at text c).found ≡ false) × (r.place ≡ place_in (take_at text c).found) × (r.next ≡ (look_at text c).next)
    unfolding pass_open
    open_not =
        let Q : PassedOpen → Type 0 = λ p. p.opens ≡ false → (is_open (take_at text c).found ≡ false) × (p.place ≡ place_in (take_at text c).found) × (p.next ≡ (look_at text c).next) in
        rw e (either (is_open (take_at text c).found) Q _ _ (λ y z. absurd (false≢true (sym z))) (λ n z. (n, refl, refl)))

  module _ (i : ℕ) where
    stands_or_not : c.held ≡ Held.Nothing → closes_at text c ≡ Some i → take_at text c ≡ step (Found.Is c.at ParenClose) (cursor_at i)
    stands_or_not h z = go (stands_at text paren_close c) refl
      where
        go : (b : Bool) → stands_at text paren_close c ≡ b → take_at text c ≡ step (Found.Is c.at ParenClose) (cursor_at i)
        go true y =
            let s : Some (c.at + 1) ≡ Some i = close_here text c h true y ∙ z in
            rw (← place_some s) (close_taken_here text c y)
        go false n = absurd (none-some i (close_here text c h false n ∙ z))

    held_close : (p : ℕ) (t : Token) → cond (is_close_token t) (Some c.at) None ≡ Some i → Found.Is p t ≡ Found.Is p ParenClose × c.at ≡ i
    held_close p t z = go (is_close_token t) refl z
      where
        go : (b : Bool) → is_close_token t ≡ b → cond b (Some c.at) None ≡ Some i → Found.Is p t ≡ Found.Is p ParenClose × c.at ≡ i
        go true y z = (close_token p t y, place_some z)
        go false n z = absurd (none-some i z)

    close_held : (h : Held) → c.held ≡ h → closes_at text c ≡ Some i → (p : ℕ) × (take_at text c ≡ step (Found.Is p ParenClose) (cursor_at i))
    unfolding closes_held take_held
    close_held Held.Nothing h z = (c.at, stands_or_not h z)
    close_held (Held.NoToken p) h z = absurd (none-some i (rw h at z))
    close_held (Held.BadNumber p) h z = absurd (none-some i (rw h at z))
    close_held (Held.Is p t) h z = (p, rw h (let k = held_close p t (rw h at z) in rw (k.0, k.1)))

    -- `)` is what would be taken
    pub close_taken : closes_at text c ≡ Some i → (p : ℕ) × (take_at text c ≡ step (Found.Is p ParenClose) (cursor_at i))
    close_taken y = close_held c.held refl y
