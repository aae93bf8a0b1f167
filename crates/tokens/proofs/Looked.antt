-- Whatever the way, a step is the token reader's: looks before it change nothing of it.
-- Assumes nothing.
use mathlib.Core.Path.{◌≡◌, ap, sym, ◌∙◌}
use mathlib.Core.List.{List}
use Prim.Native.Nat.{ℕ}
use Rattle.token.specs.declared.Found.{Found}
use Rattle.tokenizer.specs.declared.Cursor.{Cursor}
use Rattle.tokenizer.specs.declared.Step.{Step}
use Rattle.tokenizer.specs.Tokens.{step, take_at, look_at}
use Rattle.token_reader.proofs.Reader.{look_take}
use Rattle.tokens.specs.Ways.{shown_of, step_of}
use Rattle.tokens.specs.declared.ways.Look.{Look}
use Rattle.tokens.specs.declared.ways.Way.{Way}

module _ (text : List ℕ) (c : Cursor) (first second taken : Step) (one : first ≡ look_at text c) (two : second ≡ look_at text first.next) (three : taken ≡ take_at text second.next) where
  -- what would be taken after the first look, and what is taken after both
  after_one : take_at text first.next ≡ take_at text c
  after_one = ap (λ (s : Step). take_at text s.next) one ∙ look_take text c

  after_both : taken ≡ take_at text c
  after_both = three ∙ ap (λ (s : Step). take_at text s.next) two ∙ look_take text first.next ∙ after_one

  with_last : (f : Found) → f ≡ (take_at text c).found → step f taken.next ≡ take_at text c
  with_last f e = ap (λ (g : Found). step g taken.next) e ∙ ap (λ (s : Step). step (take_at text c).found s.next) after_both

  pub looked : (look : Look) (r : Step) → r ≡ shown_of look first second taken → r ≡ take_at text c
  unfolding shown_of
  looked Look.First r e = e ∙ with_last first.found (ap (λ (s : Step). s.found) one)
  looked Look.Second r e = e ∙ with_last second.found (ap (λ (s : Step). s.found) two ∙ ap (λ (s : Step). s.found) after_one)
  looked Look.Taken r e = e ∙ with_last taken.found (ap (λ (s : Step). s.found) after_both)

pub by_way : (text : List ℕ) (c : Cursor) (place i : ℕ) (way known : Way) (r : Step) → way ≡ known → r ≡ step_of known text c place i → r ≡ step_of way text c place i
by_way text c place i way known r e h = h ∙ ap (λ (w : Way). step_of w text c place i) (sym e)
