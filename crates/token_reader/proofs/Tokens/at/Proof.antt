-- `token_reader::Tokens::at` meets its contract: a cursor is made at the place, and passed on with the text.
-- Assumes nothing.
use mathlib.Core.Path.{◌≡◌, refl}
use contract.Running.{tables, tables_of}
use denote.Triple.Spec.{triple_of}
use denote.Triple.Table.{entered}
use Rattle.token_reader.proofs.Making.{at_meets, at_code}
use Rattle.tokenizer.proofs.Cursor.new.Met as cursor-thm
use Rattle.token_reader.proofs.Tokens.new.Met as new-thm
use Rattle.token_reader.specs.contracts.Tokens.at as this
use Rattle.token_reader.specs.contracts.Tokens.at.Key.{name}
use Rattle.token_reader.proofs.Tokens.at.Statement.{statement}
use Rattle.token_reader.proofs.Tokens.at.Code as code

-- the code that the walk is over is the one that Rattle makes of the function
the_code : at_code ≡ code.function
the_code = refl

pub at_spec : {M : Type 1} → statement M
unfolding tables_of
at_spec 𝓤 𝓛 𝓜 𝓡 wired =
    entered 𝓤 𝓛.H (triple_of 𝓛 this.signature (this.spec 𝓛 𝓜.mem 𝓡.returns))
    (tables 𝓤 𝓛.H 𝓜 𝓡 𝓡.env).C (tables 𝓤 𝓛.H 𝓜 𝓡 𝓡.env).Λ name code.function (code.unfolded 𝓤 𝓛.H 𝓜 𝓡 wired)
    (at_meets 𝓛 (tables_of 𝓤 𝓛.H 𝓜 (tables 𝓤 𝓛.H 𝓜 𝓡 𝓡.env))
    (cursor-thm.met 𝓤 𝓛 𝓜 𝓡 (code.calls-tokenizer::Cursor::new 𝓡.env wired))
    (new-thm.met 𝓤 𝓛 𝓜 𝓡 (code.calls-token_reader::Tokens::new 𝓡.env wired)))
