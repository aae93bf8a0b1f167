-- What a reading can come to: the numbers and places that it can be refused with, and the rows that it can use.
use Rattle.std.specs.Prelude.{ℕ, ◌≤◌, ◌≡◌, Bool, true, false, ◌||◌, ◌&&◌, List, eqb, leb, length}
use Rattle.limits.specs.Limits.{over_limit}
use Rattle.refusals.specs.Refusals.{text_too_long, ill_formed_utf8, no_node_row, too_deep, non_ascii_root, no_child}
use Rattle.utf8.specs.Utf8.{is_utf8}
use Rattle.store.specs.Rows.{Row, Span}
use Rattle.token.specs.declared.Refusal.{Refusal}
use Rattle.token.specs.Tokens.{is_bad_number}
use Rattle.lists.specs.Lists.{All}
use Rattle.tree.specs.TreeIn.{SpanIn}

-- a text that is neither refused 1 nor 2
pub record Passes (text : List ℕ) : Type 0 where
  pub short : over_limit (length text) ≡ false
  pub utf8 : is_utf8 text ≡ true

-- "Refusal numbers": a text that is not looked at (1, 2), and what is met in it (7 to 18, and a bad number)
abbrev pub is_refusal : ℕ → Bool
is_refusal e = eqb e text_too_long || eqb e ill_formed_utf8 || leb non_ascii_root e && leb e no_child || is_bad_number e

-- "Refusals 3, 4 and 5 instead end the reading at once."
abbrev pub is_halt : ℕ → Bool
is_halt e = leb no_node_row e && leb e too_deep

-- a refusal of a text has a number of the table, and a place in the text or at its end
pub record Refused (text : List ℕ) (r : Refusal) : Type 0 where
  pub number : is_refusal r.number ≡ true
  pub place : r.place ≤ length text

pub record Halted (text : List ℕ) (r : Refusal) : Type 0 where
  pub number : is_halt r.number ≡ true
  pub place : r.place ≤ length text

-- the rows of a reading: no more than there is room for, and each number a lexeme of the text
pub record Kept (text : List ℕ) (N M : ℕ) (rs : List Row) (ss : List Span) : Type 0 where
  pub nodes : length rs ≤ N
  pub numbers : length ss ≤ M
  pub spans : All (SpanIn text) ss
