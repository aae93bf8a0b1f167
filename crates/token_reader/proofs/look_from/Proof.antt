-- `token_reader::look_from` meets its contract: the argument for a step through a reader by value, at the callee `Tokens::look`.
-- Assumes nothing.
use mathlib.Core.Path.{◌≡◌, refl}
use contract.Running.{tables, tables_of}
use denote.Triple.Spec.{triple_of}
use denote.Triple.Table.{entered}
use Rattle.tokenizer.specs.Tokens.{look_at}
use Rattle.token_reader.proofs.Through.{value_meets, value_code}
use Rattle.token_reader.proofs.Tokens.from_slice.Met as from-slice-thm
use Rattle.token_reader.proofs.Tokens.moved.Met as moved-thm
use Rattle.token_reader.proofs.Tokens.look.Symbol as callee-def
use Rattle.token_reader.proofs.Tokens.look.Met as callee-thm
use Rattle.token_reader.specs.contracts.look_from as look-from
use Rattle.token_reader.specs.contracts.look_from.Key.{name}
use Rattle.token_reader.proofs.look_from.Statement.{statement}
use Rattle.token_reader.proofs.look_from.Code as code

-- the code that the walk is over is the one that Rattle makes of the function
the_code : value_code callee-def.name ≡ code.function
the_code = refl

pub look_from_spec : {M : Type 1} → statement M
unfolding tables_of
look_from_spec 𝓤 𝓛 𝓜 𝓡 wired =
    entered 𝓤 𝓛.H (triple_of 𝓛 look-from.signature (look-from.spec 𝓛 𝓜.mem 𝓡.returns))
    (tables 𝓤 𝓛.H 𝓜 𝓡 𝓡.env).C (tables 𝓤 𝓛.H 𝓜 𝓡 𝓡.env).Λ name code.function (code.unfolded 𝓤 𝓛.H 𝓜 𝓡 wired)
    (value_meets 𝓛 callee-def.name look_at (tables_of 𝓤 𝓛.H 𝓜 (tables 𝓤 𝓛.H 𝓜 𝓡 𝓡.env))
    (from-slice-thm.met 𝓤 𝓛 𝓜 𝓡 (code.calls-token_reader::Tokens::from_slice 𝓡.env wired))
    (moved-thm.met 𝓤 𝓛 𝓜 𝓡 (code.calls-token_reader::Tokens::moved 𝓡.env wired))
    (callee-thm.met 𝓤 𝓛 𝓜 𝓡 (code.calls-token_reader::Tokens::look 𝓡.env wired)))
