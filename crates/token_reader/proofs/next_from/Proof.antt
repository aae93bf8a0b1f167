-- `token_reader::next_from` meets its contract: the argument for a step through a reader that is lent, at the callee `Tokens::next`.
-- Assumes nothing.
use mathlib.Core.Path.{◌≡◌, refl}
use contract.Running.{tables, tables_of}
use denote.Triple.Spec.{triple_of}
use denote.Triple.Table.{entered}
use Rattle.tokenizer.specs.Tokens.{take_at}
use Rattle.token_reader.proofs.Through.{lent_meets, lent_code}
use Rattle.token_reader.proofs.Tokens.new.Met as new-thm
use Rattle.token_reader.proofs.Tokens.next.Symbol as callee-def
use Rattle.token_reader.proofs.Tokens.next.Met as callee-thm
use Rattle.token_reader.specs.contracts.next_from as next-from
use Rattle.token_reader.specs.contracts.next_from.Key.{name}
use Rattle.token_reader.proofs.next_from.Statement.{statement}
use Rattle.token_reader.proofs.next_from.Code as code

-- the code that the walk is over is the one that Rattle makes of the function
the_code : lent_code callee-def.name ≡ code.function
the_code = refl

pub next_from_spec : {M : Type 1} → statement M
unfolding tables_of
next_from_spec 𝓤 𝓛 𝓜 𝓡 wired =
    entered 𝓤 𝓛.H (triple_of 𝓛 next-from.signature (next-from.spec 𝓛 𝓜.mem 𝓡.returns))
    (tables 𝓤 𝓛.H 𝓜 𝓡 𝓡.env).C (tables 𝓤 𝓛.H 𝓜 𝓡 𝓡.env).Λ name code.function (code.unfolded 𝓤 𝓛.H 𝓜 𝓡 wired)
    (lent_meets 𝓛 callee-def.name take_at (tables_of 𝓤 𝓛.H 𝓜 (tables 𝓤 𝓛.H 𝓜 𝓡 𝓡.env))
    (new-thm.met 𝓤 𝓛 𝓜 𝓡 (code.calls-token_reader::Tokens::new 𝓡.env wired))
    (callee-thm.met 𝓤 𝓛 𝓜 𝓡 (code.calls-token_reader::Tokens::next 𝓡.env wired)))
