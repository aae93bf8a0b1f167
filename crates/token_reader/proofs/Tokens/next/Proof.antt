-- `token_reader::Tokens::next` meets its contract: the argument for a reader that is lent, at the callee `Cursor::take`.
-- What was found, and the reader after it, are those of the step that the callee answers.
-- Assumes nothing.
use mathlib.Core.Path.{◌≡◌, refl, ap}
use base.Logic.{emp}
use contract.Monad.{fact_i}
use contract.Running.{tables, tables_of}
use denote.Triple.Spec.{triple_of}
use denote.Triple.Table.{entered}
use Rattle.tokenizer.specs.declared.Step.{Step}
use Rattle.tokenizer.specs.Tokens.{take_at}
use Rattle.tokenizer.proofs.Cursor.take.Symbol as callee
use Rattle.tokenizer.proofs.Cursor.take.Met as theorem
use Rattle.token_reader.proofs.Stepping.{on, lent_meets, lent_code}
use Rattle.token_reader.specs.contracts.Tokens.next as next
use Rattle.token_reader.specs.contracts.Tokens.next.Key.{name}
use Rattle.token_reader.proofs.Tokens.next.Statement.{statement}
use Rattle.token_reader.proofs.Tokens.next.Code as code

-- the code that the walk is over is the one that Rattle makes of the function
the_code : lent_code callee.name ≡ code.function
the_code = refl

pub next_spec : {M : Type 1} → statement M
unfolding tables_of
next_spec 𝓤 𝓛 𝓜 𝓡 wired =
    entered 𝓤 𝓛.H (triple_of 𝓛 next.signature (next.spec 𝓛 𝓜.mem 𝓡.returns))
    (tables 𝓤 𝓛.H 𝓜 𝓡 𝓡.env).C (tables 𝓤 𝓛.H 𝓜 𝓡 𝓡.env).Λ name code.function (code.unfolded 𝓤 𝓛.H 𝓜 𝓡 wired)
    (lent_meets 𝓛 callee.name take_at (next.clauses 𝓛 𝓜.mem 𝓡.returns) (λ κs a g r e. fact_i 𝓤 _ (emp 𝓤) (ap (λ (s : Step). s.found) e, ap (on a.0.now) e)) (tables_of 𝓤 𝓛.H 𝓜 (tables 𝓤 𝓛.H 𝓜 𝓡 𝓡.env))
    (theorem.met 𝓤 𝓛 𝓜 𝓡 (code.calls-tokenizer::Cursor::take 𝓡.env wired)))
