-- What the steps of passing a comma or a `(`, and of closing, show, in the variables of the code.
-- Assumes nothing.
use mathlib.Core.Path.{◌≡◌, refl, ap, ◌∙◌}
use mathlib.Core.Bool.{Bool, true, false, false≢true, cond, ◌&&◌}
use mathlib.Core.List.{List}
use Prim.Native.Nat.{ℕ, ◌+◌, ◌<◌}
use Rattle.std.specs.Prelude.{Some, None}
use lib.Dec.{eqb, ltb}
use lib.ListN.{length, get_or}
use borrow.Author.Tests.{eqb-true, ltb-true, lt-leb}
use Rattle.lists.proofs.Cases.{and_both}
use Rattle.scan.specs.Bytes.{paren_open, paren_close, comma, is_blank}
use Rattle.scan.specs.Runs.{first_not}
use Rattle.scan.proofs.Runs.{stop}
use Rattle.token.specs.declared.Token.TheVariants.{Comma, ParenClose, ParenOpen}
use Rattle.token.specs.declared.Found.{Found}
use Rattle.tokenizer.specs.declared.Held.{Held}
use Rattle.tokenizer.specs.declared.Cursor.{Cursor}
use Rattle.tokenizer.specs.declared.Step.{Step}
use Rattle.token.specs.Tokens.{start_at, token_at, read_at}
use Rattle.tokenizer.specs.Tokens.{step, cursor_at, take_held, take_at, look_at, is_nothing, is_comma, stands_at, passed, pass_by, pass_comma, is_open, place_in, passed_open, pass_open_by, pass_open, closes_held, closes_at}

pub held_nothing : (h : Held) → is_nothing h ≡ true → h ≡ Held.Nothing
held_nothing Held.Nothing y = refl
held_nothing (Held.NoToken p) y = absurd (false≢true y)
held_nothing (Held.BadNumber p) y = absurd (false≢true y)
held_nothing (Held.Is p t) y = absurd (false≢true y)

module _ (text : List ℕ) where
  -- a byte that stands at the cursor starts what is taken
  module _ (c : Cursor) (b : ℕ) (y : stands_at text b c ≡ true) where
    stands : (c.at < length text) × (c.held ≡ Held.Nothing) × (get_or text c.at 0 ≡ b)
    stands =
        let outer = and_both (ltb c.at (length text)) (is_nothing c.held && eqb (get_or text c.at 0) b) y in
        let inner = and_both (is_nothing c.held) (eqb (get_or text c.at 0) b) outer.1 in
        (ltb-true c.at (length text) outer.0, held_nothing c.held inner.0, eqb-true (get_or text c.at 0) b inner.1)

    pub stands_in : c.at < length text
    stands_in = stands.0

    stands_taken : is_blank b ≡ false → take_at text c ≡ step (start_at text c.at b).found (cursor_at (start_at text c.at b).at)
    unfolding take_held read_at token_at
    stands_taken n =
        let s : first_not is_blank text c.at ≡ c.at = stop is_blank text c.at stands_in (rw stands.2 n) in
        rw (stands.1, s, lt-leb (length text) c.at stands_in, stands.2)

  module _ (c : Cursor) where
    comma_taken_here : stands_at text comma c ≡ true → take_at text c ≡ step (Found.Is c.at Comma) (cursor_at (c.at + 1))
    unfolding start_at
    comma_taken_here y = stands_taken c comma y refl

    open_taken_here : stands_at text paren_open c ≡ true → take_at text c ≡ step (Found.Is c.at ParenOpen) (cursor_at (c.at + 1))
    unfolding start_at
    open_taken_here y = stands_taken c paren_open y refl

    pub close_taken_here : stands_at text paren_close c ≡ true → take_at text c ≡ step (Found.Is c.at ParenClose) (cursor_at (c.at + 1))
    unfolding start_at
    close_taken_here y = stands_taken c paren_close y refl

    pub pass_here : stands_at text comma c ≡ true → passed true (cursor_at (c.at + 1)) ≡ pass_comma text c
    unfolding pass_comma
    pass_here y = rw (comma_taken_here y)

    pub pass_close : stands_at text paren_close c ≡ true → passed false (record { at = c.at + 1; held = Held.Is c.at ParenClose }) ≡ pass_comma text c
    unfolding pass_comma
    pass_close y = rw (close_taken_here y)

    module _ (s : Step) (e : s ≡ look_at text c) where
      pub pass_yes : is_comma s.found ≡ true → passed true (cursor_at s.next.at) ≡ pass_comma text c
      unfolding pass_comma
      pass_yes y = let z : passed true (cursor_at s.next.at) ≡ pass_by s = rw y in z ∙ ap pass_by e

      pub pass_no : is_comma s.found ≡ false → passed false s.next ≡ pass_comma text c
      unfolding pass_comma
      pass_no n = let z : passed false s.next ≡ pass_by s = rw n in z ∙ ap pass_by e

    -- `(`
    pub open_here : stands_at text paren_open c ≡ true → passed_open true c.at (cursor_at (c.at + 1)) ≡ pass_open text c
    unfolding pass_open
    open_here y = rw (open_taken_here y)

    module _ (s : Step) (e : s ≡ look_at text c) (p : ℕ) (f : p ≡ place_in s.found) where
      pub open_yes : is_open s.found ≡ true → passed_open true p (cursor_at s.next.at) ≡ pass_open text c
      unfolding pass_open
      open_yes y = let z : passed_open true p (cursor_at s.next.at) ≡ pass_open_by s = rw (y, f) in z ∙ ap pass_open_by e

      pub open_no : is_open s.found ≡ false → passed_open false p s.next ≡ pass_open text c
      unfolding pass_open
      open_no n = let z : passed_open false p s.next ≡ pass_open_by s = rw (n, f) in z ∙ ap pass_open_by e

    -- `)`
    pub close_here : c.held ≡ Held.Nothing → (b : Bool) → stands_at text paren_close c ≡ b → cond b (Some (c.at + 1)) None ≡ closes_at text c
    unfolding closes_held
    close_here h b y =
        let z : (ltb c.at (length text) && eqb (get_or text c.at 0) paren_close) ≡ b = rw h at y in
        rw (h, z)
