-- What it is for a word to be one of the spellings, for the theorem over the whole table.
use Rattle.std.specs.Prelude.{ℕ, ◌≡◌, refl, Bool, true, not, ◌||◌, length, Option, is_some}
use mathlib.Core.List.{List, [], ◌∷◌, flat_map, Memᴰ}
use Rattle.lists.specs.Lists.{every, pairwise}
use Rattle.words.specs.Words.{same_word, starts_word}
use Rattle.names.specs.declared.Name.{Name}
use Rattle.names.specs.Names.{names, extra, spellings}

-- w is, but for ASCII case, the string of a row of `spellings` that means this name
pub record IsSpelling (w : List ℕ) (name : Name) : Type 0 where
  pub string : List ℕ
  pub row : Memᴰ (name, string) spellings
  pub same : same_word w string ≡ true

abbrev pub is_known : Option Name → Bool
is_known means = is_some means

-- no word is the strings of both rows
abbrev pub differ : {A : Type 0} → A × List ℕ → A × List ℕ → Bool
differ a b = not (same_word a.1 b.1)

-- no word begins with both
abbrev pub apart : List ℕ → List ℕ → Bool
apart a b = not (starts_word a b || starts_word b a)

-- a table's strings, and the one extra word
abbrev pub front_strings : List (ℕ × List ℕ) → List (List ℕ)
front_strings [] = extra.1 ∷ []
front_strings (name ∷ rows) = name.1 ∷ front_strings rows

-- ---- the table as a whole, computed
-- 7 · 4 + 1 spellings
pub count : length spellings ≡ 29
unfolding spellings flat_map
count = refl

-- each of them once: no word is two
pub each_once : pairwise differ spellings ≡ true
unfolding spellings flat_map pairwise every same_word
each_once = refl

-- no word begins with two of the names, or with one of them and the extra word
pub names_apart : pairwise apart (front_strings names) ≡ true
unfolding pairwise every starts_word
names_apart = refl
