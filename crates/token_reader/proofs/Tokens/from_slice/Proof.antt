-- `token_reader::Tokens::from_slice` meets its contract: `Tokens::at` is called with the text's start.
-- Assumes nothing.
use mathlib.Core.Path.{◌≡◌, refl}
use contract.Running.{tables, tables_of}
use denote.Triple.Spec.{triple_of}
use denote.Triple.Table.{entered}
use Rattle.token_reader.proofs.Making.{from_slice_meets, from_slice_code}
use Rattle.token_reader.proofs.Tokens.at.Met as at-thm
use Rattle.token_reader.specs.contracts.Tokens.from_slice as this
use Rattle.token_reader.specs.contracts.Tokens.from_slice.Key.{name}
use Rattle.token_reader.proofs.Tokens.from_slice.Statement.{statement}
use Rattle.token_reader.proofs.Tokens.from_slice.Code as code

-- the code that the walk is over is the one that Rattle makes of the function
the_code : from_slice_code ≡ code.function
the_code = refl

pub from_slice_spec : {M : Type 1} → statement M
unfolding tables_of
from_slice_spec 𝓤 𝓛 𝓜 𝓡 wired =
    entered 𝓤 𝓛.H (triple_of 𝓛 this.signature (this.spec 𝓛 𝓜.mem 𝓡.returns))
    (tables 𝓤 𝓛.H 𝓜 𝓡 𝓡.env).C (tables 𝓤 𝓛.H 𝓜 𝓡 𝓡.env).Λ name code.function (code.unfolded 𝓤 𝓛.H 𝓜 𝓡 wired)
    (from_slice_meets 𝓛 (tables_of 𝓤 𝓛.H 𝓜 (tables 𝓤 𝓛.H 𝓜 𝓡 𝓡.env))
    (at-thm.met 𝓤 𝓛 𝓜 𝓡 (code.calls-token_reader::Tokens::at 𝓡.env wired)))
