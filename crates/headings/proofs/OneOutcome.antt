-- Two headings that the contract of a public function allows for one input are one heading.
-- Assumes nothing.
use Prim.Native.Nat.{ℕ}
use mathlib.Core.Path.{◌≡◌, refl, sym, ap, ◌∙◌}
use Rattle.std.specs.Prelude.{Ok, Err}
use mathlib.Core.List.{List}
use Rattle.lists.specs.One.{One}
use Rattle.tokenizer.specs.declared.Cursor.{Cursor}
use Rattle.tokenizer.specs.Tokens.{cursor_at}
use Rattle.grammar.specs.Asks.{P}
use Rattle.grammar.specs.Grammar as spec
use Rattle.grammar.specs.Grammar.{opens, empty, wrong, child_head, root_head}
use Rattle.headings.specs.declared.Head.TheVariants.{Opens, Empty}
use Rattle.headings.specs.Heads.{no_head, Heading, head_of, head_end, RanAt, ran_at, MetHead}

-- the heading that was read, from what it means and the cursor behind it
abbrev head_from : spec.Head → Cursor → Heading
head_from (opens k d p) c = Ok (Opens k d p c.at)
head_from (empty k d p) c = Ok (Empty k d p c.at)
head_from (wrong r) c = Err (no_head r c)

abbrev head_in : RanAt spec.Head → Heading
head_in (ran_at h c) = head_from h c

back : (r : Heading) → head_from (head_of r) (head_end r) ≡ r
back (Ok (Opens k d p i)) = refl
back (Ok (Empty k d p i)) = refl
back (Err e) = refl

same_heading : (text : List ℕ) (p : P spec.Head) (c : Cursor) → One (MetHead text p c)
same_heading text p c r s x y = sym (back r) ∙ ap head_in (sym x.is ∙ y.is) ∙ back s

pub opener_one : (text : List ℕ) (kind dimension at : ℕ) → One (MetHead text (spec.opener kind dimension) (cursor_at at))
opener_one text kind dimension at = same_heading text (spec.opener kind dimension) (cursor_at at)

pub child_head_one : (text : List ℕ) (at : ℕ) → One (MetHead text child_head (cursor_at at))
child_head_one text at = same_heading text child_head (cursor_at at)

pub root_head_one : (text : List ℕ) (at : ℕ) → One (MetHead text root_head (cursor_at at))
root_head_one text at = same_heading text root_head (cursor_at at)
