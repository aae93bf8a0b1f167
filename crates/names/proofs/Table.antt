-- The table theorem: a word means a name exactly where it is one of the 29 spellings of the table, and no word is two of them.
-- What is true of each row is one test that the checker computes over the whole table. Assumes nothing.
use Prim.Native.Nat.{ℕ}
use mathlib.Core.Path.{◌≡◌, refl, ap}
use mathlib.Core.Bool.{true, false≢true}
use Rattle.std.specs.Prelude.{Option, Some, None}
use mathlib.Core.List.{List, flat_map}
use Rattle.lists.specs.Lists.{every}
use Rattle.words.specs.Words.{same_word}
use Rattle.names.specs.declared.Name.{Name}
use Rattle.names.specs.Names.{spellings, meaning, lookup}
use Rattle.names.specs.Table.{IsSpelling, is_known, each_once}
use Rattle.names.proofs.Lookup.{finds, found}

-- each spelling of the table means a name
pub all_known : every (λ row. is_known (meaning row.1)) spellings ≡ true
unfolding spellings flat_map every meaning lookup same_word
all_known = refl

module _ (w : List ℕ) (name : Name) where
  -- (a) a word that is one of the spellings means what its row says
  pub spelled_means : IsSpelling w name → meaning w ≡ Some name
  unfolding meaning
  spelled_means s = finds w spellings each_once (name, s.string) s.row s.same

  -- so it means a name
  pub spelled_known : IsSpelling w name → is_known (meaning w) ≡ true
  spelled_known s = ap is_known (spelled_means s)

  -- (b) a word that means a name is one of its spellings
  pub means_spelled : meaning w ≡ Some name → IsSpelling w name
  unfolding meaning
  means_spelled e = let f = found same_word w spellings name e in record { string = f.string; row = f.row; same = f.passes }

-- a word means nothing exactly where it is none of the spellings
pub unknown_none : (w : List ℕ) → meaning w ≡ None → (name : Name) → IsSpelling w name → ⊥
unknown_none w u name s = cc (u, spelled_means w name s)

pub not_known : (means : Option Name) → (is_known means ≡ true → ⊥) → means ≡ None
not_known None h = refl
not_known (Some name) h = absurd (h refl)

-- what a word that means a name means
pub known_means : (w : List ℕ) → is_known (meaning w) ≡ true → (name : Name) × (meaning w ≡ Some name)
known_means w k = go (meaning w) k
  where
    go : (means : Option Name) → is_known means ≡ true → (name : Name) × (means ≡ Some name)
    go None k = absurd (false≢true k)
    go (Some name) k = (name, refl)

pub none_unknown : (w : List ℕ) → ((name : Name) → IsSpelling w name → ⊥) → meaning w ≡ None
none_unknown w none = not_known (meaning w) (λ k. let m = known_means w k in none m.0 (means_spelled w m.0 m.1))
