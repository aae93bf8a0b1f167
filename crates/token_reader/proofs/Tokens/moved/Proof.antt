-- `token_reader::Tokens::moved` meets its contract: the struct is put together of the text that another holds, and the cursor passed.
-- Assumes nothing.
use mathlib.Core.Path.{◌≡◌, refl}
use contract.Running.{tables, tables_of}
use denote.Triple.Spec.{triple_of}
use denote.Triple.Table.{entered}
use Rattle.token_reader.proofs.Making.{moved_meets, moved_code}
use Rattle.token_reader.specs.contracts.Tokens.moved as this
use Rattle.token_reader.specs.contracts.Tokens.moved.Key.{name}
use Rattle.token_reader.proofs.Tokens.moved.Statement.{statement}
use Rattle.token_reader.proofs.Tokens.moved.Code as code

-- the code that the walk is over is the one that Rattle makes of the function
the_code : moved_code ≡ code.function
the_code = refl

pub moved_spec : {M : Type 1} → statement M
unfolding tables_of
moved_spec 𝓤 𝓛 𝓜 𝓡 wired =
    entered 𝓤 𝓛.H (triple_of 𝓛 this.signature (this.spec 𝓛 𝓜.mem 𝓡.returns))
    (tables 𝓤 𝓛.H 𝓜 𝓡 𝓡.env).C (tables 𝓤 𝓛.H 𝓜 𝓡 𝓡.env).Λ name code.function (code.unfolded 𝓤 𝓛.H 𝓜 𝓡 wired)
    (moved_meets 𝓛 (tables_of 𝓤 𝓛.H 𝓜 (tables 𝓤 𝓛.H 𝓜 𝓡 𝓡.env)))
