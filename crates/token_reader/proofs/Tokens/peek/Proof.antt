-- `token_reader::Tokens::peek` meets its contract: the argument for a reader that is lent, at the callee `Cursor::look`.
-- What was found, and the reader after it, are those of the step that the callee answers.
-- Assumes nothing.
use mathlib.Core.Path.{◌≡◌, refl, ap}
use base.Logic.{emp}
use contract.Monad.{fact_i}
use contract.Running.{tables, tables_of}
use denote.Triple.Spec.{triple_of}
use denote.Triple.Table.{entered}
use Rattle.tokenizer.specs.declared.Step.{Step}
use Rattle.tokenizer.specs.Tokens.{look_at}
use Rattle.tokenizer.proofs.Cursor.look.Symbol as callee
use Rattle.tokenizer.proofs.Cursor.look.Met as theorem
use Rattle.token_reader.proofs.Stepping.{on, lent_meets, lent_code}
use Rattle.token_reader.specs.contracts.Tokens.peek as peek
use Rattle.token_reader.specs.contracts.Tokens.peek.Key.{name}
use Rattle.token_reader.proofs.Tokens.peek.Statement.{statement}
use Rattle.token_reader.proofs.Tokens.peek.Code as code

-- the code that the walk is over is the one that Rattle makes of the function
the_code : lent_code callee.name ≡ code.function
the_code = refl

pub peek_spec : {M : Type 1} → statement M
unfolding tables_of
peek_spec 𝓤 𝓛 𝓜 𝓡 wired =
    entered 𝓤 𝓛.H (triple_of 𝓛 peek.signature (peek.spec 𝓛 𝓜.mem 𝓡.returns))
    (tables 𝓤 𝓛.H 𝓜 𝓡 𝓡.env).C (tables 𝓤 𝓛.H 𝓜 𝓡 𝓡.env).Λ name code.function (code.unfolded 𝓤 𝓛.H 𝓜 𝓡 wired)
    (lent_meets 𝓛 callee.name look_at (peek.clauses 𝓛 𝓜.mem 𝓡.returns) (λ κs a g r e. fact_i 𝓤 _ (emp 𝓤) (ap (λ (s : Step). s.found) e, ap (on a.0.now) e)) (tables_of 𝓤 𝓛.H 𝓜 (tables 𝓤 𝓛.H 𝓜 𝓡 𝓡.env))
    (theorem.met 𝓤 𝓛 𝓜 𝓡 (code.calls-tokenizer::Cursor::look 𝓡.env wired)))
