-- `token_reader::Tokens::new` meets its contract: the struct is put together of the text and the cursor passed.
-- Assumes nothing.
use mathlib.Core.Path.{◌≡◌, refl}
use contract.Running.{tables, tables_of}
use denote.Triple.Spec.{triple_of}
use denote.Triple.Table.{entered}
use Rattle.token_reader.proofs.Making.{new_meets, new_code}
use Rattle.token_reader.specs.contracts.Tokens.new as this
use Rattle.token_reader.specs.contracts.Tokens.new.Key.{name}
use Rattle.token_reader.proofs.Tokens.new.Statement.{statement}
use Rattle.token_reader.proofs.Tokens.new.Code as code

-- the code that the walk is over is the one that Rattle makes of the function
the_code : new_code ≡ code.function
the_code = refl

pub new_spec : {M : Type 1} → statement M
unfolding tables_of
new_spec 𝓤 𝓛 𝓜 𝓡 wired =
    entered 𝓤 𝓛.H (triple_of 𝓛 this.signature (this.spec 𝓛 𝓜.mem 𝓡.returns))
    (tables 𝓤 𝓛.H 𝓜 𝓡 𝓡.env).C (tables 𝓤 𝓛.H 𝓜 𝓡 𝓡.env).Λ name code.function (code.unfolded 𝓤 𝓛.H 𝓜 𝓡 wired)
    (new_meets 𝓛 (tables_of 𝓤 𝓛.H 𝓜 (tables 𝓤 𝓛.H 𝓜 𝓡 𝓡.env)))
