-- `tokenizer::Cursor::closes` meets its contract.
use Rattle.std.proofs.Common.{sym, ◌∙◌, true, false, inl, inr}
use Rattle.tokenizer.specs.Tokens.{closes_held}
use Rattle.tokenizer.proofs.Marks.{close_here}
use Rattle.tokenizer.proofs.Cursor.closes.Goals as goal

pub returns-then-stands_at : goal.returns-then-stands_at
returns-then-stands_at c = close_here _ _ c.in-Nothing.is true (sym c.stands_at.ensures ∙ c.if-stands_at.true)

pub returns-else-stands_at : goal.returns-else-stands_at
returns-else-stands_at c = close_here _ _ c.in-Nothing.is false (sym c.stands_at.ensures ∙ c.if-stands_at.false)

pub returns-then-is_close : goal.returns-then-is_close
unfolding closes_held
returns-then-is_close c = rw (c.in-Is.is, ← c.is_close.ensures, c.if-is_close.true)

pub returns-else-is_close : goal.returns-else-is_close
unfolding closes_held
returns-else-is_close c = rw (c.in-Is.is, ← c.is_close.ensures, c.if-is_close.false)

pub returns-in-NoToken : goal.returns-in-NoToken
unfolding closes_held
returns-in-NoToken c = elim c.in-NoToken.is [ inl h ↦ rw h.1 | inr h ↦ rw h.1 ]
