-- `token_reader::take_from` meets its contract: the argument for a step through a reader by value, at the callee `Tokens::take`.
-- Assumes nothing.
use mathlib.Core.Path.{◌≡◌, refl}
use contract.Running.{tables, tables_of}
use denote.Triple.Spec.{triple_of}
use denote.Triple.Table.{entered}
use Rattle.tokenizer.specs.Tokens.{take_at}
use Rattle.token_reader.proofs.Through.{value_meets, value_code}
use Rattle.token_reader.proofs.Tokens.from_slice.Met as from-slice-thm
use Rattle.token_reader.proofs.Tokens.moved.Met as moved-thm
use Rattle.token_reader.proofs.Tokens.take.Symbol as callee-def
use Rattle.token_reader.proofs.Tokens.take.Met as callee-thm
use Rattle.token_reader.specs.contracts.take_from as take-from
use Rattle.token_reader.specs.contracts.take_from.Key.{name}
use Rattle.token_reader.proofs.take_from.Statement.{statement}
use Rattle.token_reader.proofs.take_from.Code as code

-- the code that the walk is over is the one that Rattle makes of the function
the_code : value_code callee-def.name ≡ code.function
the_code = refl

pub take_from_spec : {M : Type 1} → statement M
unfolding tables_of
take_from_spec 𝓤 𝓛 𝓜 𝓡 wired =
    entered 𝓤 𝓛.H (triple_of 𝓛 take-from.signature (take-from.spec 𝓛 𝓜.mem 𝓡.returns))
    (tables 𝓤 𝓛.H 𝓜 𝓡 𝓡.env).C (tables 𝓤 𝓛.H 𝓜 𝓡 𝓡.env).Λ name code.function (code.unfolded 𝓤 𝓛.H 𝓜 𝓡 wired)
    (value_meets 𝓛 callee-def.name take_at (tables_of 𝓤 𝓛.H 𝓜 (tables 𝓤 𝓛.H 𝓜 𝓡 𝓡.env))
    (from-slice-thm.met 𝓤 𝓛 𝓜 𝓡 (code.calls-token_reader::Tokens::from_slice 𝓡.env wired))
    (moved-thm.met 𝓤 𝓛 𝓜 𝓡 (code.calls-token_reader::Tokens::moved 𝓡.env wired))
    (callee-thm.met 𝓤 𝓛 𝓜 𝓡 (code.calls-token_reader::Tokens::take 𝓡.env wired)))
