-- A token that the code took is the one that the reader's definition asked for, and so is one that it passed over or looked at.
-- Assumes nothing.
use mathlib.Core.Path.{◌≡◌, refl, sym, ap, ◌∙◌}
use mathlib.Core.Bool.{Bool, true, false, false≢true}
use mathlib.Core.List.{List}
use Prim.Native.Nat.{ℕ, ◌+◌, ◌-◌, ◌≤◌, ◌<◌}
use native.Mathlib.Omega.{arith}
use lib.Dec.{ltb}
use lib.ListN.{length, drop, length-drop, drop_of_length-le}
use lib.Seq.{take-nil, take_all}
use borrow.Author.Tests.{ltb-true, ltb-false}
use Rattle.lists.proofs.Cases.{either}
use Rattle.token.specs.declared.Token.{Token}
use Rattle.token.specs.declared.Token.TheVariants.{Comma, Number, ParenClose, ParenOpen, Word}
use Rattle.token.specs.declared.Found.{Found}
use Rattle.tokenizer.specs.declared.Cursor.{Cursor}
use Rattle.tokenizer.specs.declared.PassedOpen.{PassedOpen}
use Rattle.std.specs.Prelude.{Some}
use Rattle.tokenizer.specs.Tokens.{cursor_at, take_at, is_open_token, is_open, place_in, pass_open, closes_at}
use Rattle.token_stream.specs.Stream.{Tok, tok, hd, tl, span_in, tk_in, tok_in, stream}
use Rattle.token_stream.specs.Sound.{SoundToken, SoundFound, Sound}
use Rattle.token_stream.proofs.Stream.{take_head, take_tail, look_same}
use Rattle.token_stream.proofs.Sound.{take_sound}
use Rattle.token_stream.proofs.Marks.{take_free, open_is, open_taken, open_not, close_taken}
use Rattle.grammar.specs.Tokens.{sort_open, sort_close, sort_number, tk_sort, sort_of, place_of, tk_start, start_of, text_of, refusal_at}
use Rattle.grammar.specs.Asks.{P, ask, run}
use Rattle.grammar_laws.proofs.Asks.{run_ask}
use Rattle.sorts.specs.declared.Taken.{Taken}
use Rattle.sorts.specs.declared.Clipped.{Clipped}
use Rattle.sorts.specs.Taken.{clipped, told_token, told, taken_at, refusal_by}

-- a span of the same bytes that lies in the text
record Clips (text : List ℕ) (start len : ℕ) (r : Clipped) : Type 0 where
  fits : r.start + r.len ≤ length text
  spelt : span_in text r.start r.len ≡ span_in text start len
  kept : start + len ≤ length text → r.start ≡ start

abbrev within : ℕ → ℕ → Clipped
within s l = record { start = s; len = l }

module _ (text : List ℕ) (s l : ℕ) where
  clip_none : length text ≤ s → Clips text s l (within (length text) 0)
  clip_none h = record { fits = omega arith; spelt = rw (drop_of_length-le text h, take-nil); kept = λ k. omega (arith, k) }

  clip_some : s < length text → length text - s < l → Clips text s l (within s (length text - s))
  clip_some h k = record {
    fits = omega arith;
    spelt = take_all (length text - s) (drop s text) (omega (arith, length-drop s text)) ∙ sym (take_all l (drop s text) (omega (arith, length-drop s text)));
    kept = λ k. refl;
  }

  clip_all : s < length text → l ≤ length text - s → Clips text s l (within s l)
  clip_all h k = record { fits = omega arith; spelt = refl; kept = λ k. refl }

  clips : Clips text s l (clipped text s l)
  unfolding clipped
  clips =
      either (ltb s (length text)) (Clips text s l) _ _
      (λ h. either (ltb (length text - s) l) (Clips text s l) _ _ (λ k. clip_some (ltb-true s (length text) h) (ltb-true (length text - s) l k)) (λ k. clip_all (ltb-true s (length text) h) (ltb-false (length text - s) l k)))
      (λ h. clip_none (ltb-false s (length text) h))

-- r tells of the token t
pub record Tells (text : List ℕ) (t : Tok) (r : Taken) : Type 0 where
  pub sort : r.sort ≡ sort_of t
  pub place : r.place ≡ place_of t
  pub spelt : span_in text r.start r.len ≡ text_of t
  pub fits : r.start + r.len ≤ length text
  pub refuses : (e : ℕ) → refusal_at e t ≡ refusal_by text e r

module _ (text : List ℕ) where
  told_token_law : (p : ℕ) (t : Token) (i : ℕ) → Tells text (tok p (tk_in text t)) (told_token text p t i)
  told_token_law p ParenOpen i = record { sort = refl; place = refl; spelt = refl; fits = omega arith; refuses = λ e. refl }
  told_token_law p ParenClose i = record { sort = refl; place = refl; spelt = refl; fits = omega arith; refuses = λ e. refl }
  told_token_law p Comma i = record { sort = refl; place = refl; spelt = refl; fits = omega arith; refuses = λ e. refl }
  told_token_law p (Number s l) i = record { sort = refl; place = refl; spelt = (clips text s l).spelt; fits = (clips text s l).fits; refuses = λ e. refl }
  told_token_law p (Word s l) i = record { sort = refl; place = refl; spelt = (clips text s l).spelt; fits = (clips text s l).fits; refuses = λ e. refl }

  told_tells : (f : Found) (i : ℕ) → Tells text (tok_in text f) (told text f i)
  unfolding told
  told_tells (Found.NoToken p) i = record { sort = refl; place = refl; spelt = refl; fits = omega arith; refuses = λ e. refl }
  told_tells (Found.BadNumber p) i = record { sort = refl; place = refl; spelt = refl; fits = omega arith; refuses = λ e. refl }
  told_tells (Found.Is p t) i = told_token_law p t i

  token_starts : (p : ℕ) (t : Token) (i : ℕ) → SoundToken text t → (told_token text p t i).sort ≡ sort_number → (told_token text p t i).start ≡ tk_start (tk_in text t)
  token_starts p ParenOpen i g z = absurd (omega (arith, z))
  token_starts p ParenClose i g z = absurd (omega (arith, z))
  token_starts p Comma i g z = absurd (omega (arith, z))
  token_starts p (Number s l) i g z = (clips text s l).kept g.0
  token_starts p (Word s l) i g z = absurd (omega (arith, z))

  told_starts : (f : Found) (i : ℕ) → SoundFound text f → (told text f i).sort ≡ sort_number → (told text f i).start ≡ start_of (tok_in text f)
  unfolding told
  told_starts (Found.NoToken p) i g z = absurd (omega (arith, z))
  told_starts (Found.BadNumber p) i g z = absurd (omega (arith, z))
  told_starts (Found.Is p t) i g z = token_starts p t i g z

  token_at_law : (p : ℕ) (t : Token) (i : ℕ) → (told_token text p t i).at ≡ i
  token_at_law p ParenOpen i = refl
  token_at_law p ParenClose i = refl
  token_at_law p Comma i = refl
  token_at_law p (Number s l) i = refl
  token_at_law p (Word s l) i = refl

  told_at : (f : Found) (i : ℕ) → (told text f i).at ≡ i
  unfolding told
  told_at (Found.NoToken p) i = refl
  told_at (Found.BadNumber p) i = refl
  told_at (Found.Is p t) i = token_at_law p t i

  module _ (c : Cursor) where
    -- what was taken, of the cursor
    pub taken_tells : Tells text (tok_in text (take_at text c).found) (taken_at text c)
    unfolding taken_at
    taken_tells = told_tells (take_at text c).found (take_at text c).next.at

    -- nothing is held behind it
    pub taken_next : (take_at text c).next ≡ cursor_at (taken_at text c).at
    unfolding taken_at
    taken_next = take_free text c ∙ ap cursor_at (sym (told_at (take_at text c).found (take_at text c).next.at))

    taken_starts : Sound text c → (taken_at text c).sort ≡ sort_number → (taken_at text c).start ≡ start_of (tok_in text (take_at text c).found)
    unfolding taken_at
    taken_starts g z = told_starts (take_at text c).found (take_at text c).next.at (take_sound text c g).0 z

-- r tells of the head of the stream, and the tail is what comes behind it; of a number where its text starts, if what is held lies in the text
pub record Takes (text : List ℕ) (c : Cursor) (r : Taken) : Type 0 where
  pub first : Tells text (hd (stream text c)) r
  pub rest : tl (stream text c) ≡ stream text (cursor_at r.at)
  pub starts : Sound text c → r.sort ≡ sort_number → r.start ≡ start_of (hd (stream text c))

-- what was taken is the head
pub takes : {text : List ℕ} {c : Cursor} {r : Taken} → r ≡ taken_at text c → Takes text c r
takes {text} {c} {r} e = record {
  first = rw (take_head text c, e) (taken_tells text c);
  rest = take_tail text c ∙ ap (stream text) (taken_next text c) ∙ ap (λ (t : Taken). stream text (cursor_at t.at)) (sym e);
  starts = λ g. rw (take_head text c, e) (taken_starts text c g);
}

-- a token is asked for, and the code took it
pub asks : {A : Type 0} {text : List ℕ} {c : Cursor} {t : Taken} (k : Tok → P A) → Takes text c t → run (ask k) (stream text c) ≡ run (k (hd (stream text c))) (stream text (cursor_at t.at))
asks {A} {text} {c} k x = run_ask k (stream text c) ∙ ap (run (k (hd (stream text c)))) x.rest

-- `(` was passed over, or another token is held
token_other : (text : List ℕ) (t : Token) → is_open_token t ≡ false → tk_sort (tk_in text t) ≡ sort_open → ⊥
token_other text ParenOpen n z = false≢true (sym n)
token_other text ParenClose n z = omega (arith, z)
token_other text Comma n z = omega (arith, z)
token_other text (Number s l) n z = omega (arith, z)
token_other text (Word s l) n z = omega (arith, z)

found_other : (text : List ℕ) (f : Found) → is_open f ≡ false → sort_of (tok_in text f) ≡ sort_open → ⊥
found_other text (Found.NoToken p) n z = omega (arith, z)
found_other text (Found.BadNumber p) n z = omega (arith, z)
found_other text (Found.Is p t) n z = token_other text t n z

found_place : (text : List ℕ) (f : Found) → place_in f ≡ place_of (tok_in text f)
found_place text (Found.NoToken p) = refl
found_place text (Found.BadNumber p) = refl
found_place text (Found.Is p t) = refl

module _ (text : List ℕ) (c : Cursor) {r : PassedOpen} (e : r ≡ pass_open text c) where
  pub opens_place : r.place ≡ place_of (hd (stream text c))
  opens_place = go r.opens refl
    where
      go : (b : Bool) → r.opens ≡ b → r.place ≡ place_of (hd (stream text c))
      go true y = (open_taken text c r e y).1 ∙ rw (take_head text c) (found_place text (take_at text c).found)
      go false n = (open_not text c r e n).1 ∙ rw (take_head text c) (found_place text (take_at text c).found)

  module _ (y : r.opens ≡ true) where
    pub opens_sort : sort_of (hd (stream text c)) ≡ sort_open
    opens_sort = rw (take_head text c, open_is (take_at text c).found (open_taken text c r e y).0)

    pub opens_rest : tl (stream text c) ≡ stream text (cursor_at r.next.at)
    opens_rest = take_tail text c ∙ ap (stream text) (take_free text c) ∙ ap (λ (n : Cursor). stream text (cursor_at n.at)) (sym (open_taken text c r e y).2)

  module _ (n : r.opens ≡ false) where
    pub other_sort : sort_of (hd (stream text c)) ≡ sort_open → ⊥
    other_sort = rw (take_head text c) (found_other text (take_at text c).found (open_not text c r e n).0)

    pub other_stays : stream text c ≡ stream text r.next
    other_stays = look_same text c ∙ ap (stream text) (sym (open_not text c r e n).2)

-- `)` is what would be taken
module _ (text : List ℕ) (c : Cursor) (i : ℕ) (e : closes_at text c ≡ Some i) where
  pub closes_sort : (taken_at text c).sort ≡ sort_close
  unfolding taken_at told
  closes_sort = rw (close_taken text c i e).1

  pub closes_at_law : (taken_at text c).at ≡ i
  unfolding taken_at told
  closes_at_law = rw (close_taken text c i e).1
