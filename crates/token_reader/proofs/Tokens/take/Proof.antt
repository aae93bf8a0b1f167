-- `token_reader::Tokens::take` meets its contract: the argument for a reader by value, at the callee `Cursor::take`.
-- Assumes nothing.
use mathlib.Core.Path.{◌≡◌, refl}
use contract.Running.{tables, tables_of}
use denote.Triple.Spec.{triple_of}
use denote.Triple.Table.{entered}
use Rattle.tokenizer.specs.Tokens.{take_at}
use Rattle.tokenizer.proofs.Cursor.take.Symbol as callee
use Rattle.tokenizer.proofs.Cursor.take.Met as theorem
use Rattle.token_reader.proofs.Stepping.{value_meets, value_code}
use Rattle.token_reader.specs.contracts.Tokens.take as take
use Rattle.token_reader.specs.contracts.Tokens.take.Key.{name}
use Rattle.token_reader.proofs.Tokens.take.Statement.{statement}
use Rattle.token_reader.proofs.Tokens.take.Code as code

-- the code that the walk is over is the one that Rattle makes of the function
the_code : value_code callee.name ≡ code.function
the_code = refl

pub take_spec : {M : Type 1} → statement M
unfolding tables_of
take_spec 𝓤 𝓛 𝓜 𝓡 wired =
    entered 𝓤 𝓛.H (triple_of 𝓛 take.signature (take.spec 𝓛 𝓜.mem 𝓡.returns))
    (tables 𝓤 𝓛.H 𝓜 𝓡 𝓡.env).C (tables 𝓤 𝓛.H 𝓜 𝓡 𝓡.env).Λ name code.function (code.unfolded 𝓤 𝓛.H 𝓜 𝓡 wired)
    (value_meets 𝓛 callee.name take_at (tables_of 𝓤 𝓛.H 𝓜 (tables 𝓤 𝓛.H 𝓜 𝓡 𝓡.env))
    (theorem.met 𝓤 𝓛 𝓜 𝓡 (code.calls-tokenizer::Cursor::take 𝓡.env wired)))
