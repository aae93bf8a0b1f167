-- What the number fields of a stored tree come to.
use Rattle.std.specs.Prelude.{cond, Result, List, ℕ, ltb, length}
use Rattle.lists.specs.Lists.{every}
use Rattle.number.specs.Lexeme.{is_lexeme}
use Rattle.store.specs.Rows.{Span}
use Rattle.tree.specs.TreeIn.{span_texts}
use Rattle.refusals.specs.Refusals.{faulty_field}
use Rattle.stored_form.specs.Reading.{Run, faulty, whole, refusal_at, seen, numbers_from}
use Rattle.stored_form.specs.declared.Refusal.{Refusal}
use Rattle.stored_form.specs.declared.Seen.{Seen}

-- whether they are lexemes, and nothing follows
abbrev pub numbers_well : List ℕ → Run Span → Result Seen Refusal
numbers_well bytes (faulty at) = refusal_at faulty_field at
numbers_well bytes (whole ss at) = cond (ltb at (length bytes)) (refusal_at faulty_field at) (seen (every is_lexeme (span_texts ss)) at)

abbrev pub numbers_seen : List ℕ → ℕ → ℕ → Result Seen Refusal
numbers_seen bytes first count = numbers_well bytes (numbers_from bytes first count)
