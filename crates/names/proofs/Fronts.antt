-- The meaning of a word by the name that it begins with: no word begins with two of the names, so the first decides, and what is left must be an ending.
-- Assumes nothing.
use Prim.Native.Nat.{ℕ, ◌≤◌}
use native.Mathlib.Omega.{arith}
use mathlib.Core.Path.{◌≡◌, refl, sym, ap, ◌∙◌}
use mathlib.Core.Bool.{Bool, true, false, cond}
use mathlib.Core.List.{List, [], ◌∷◌, ◌++◌, map, flat_map, append_assoc}
use borrow.Author.Tests.{not-true}
use lib.ListN.{length, drop}
use Rattle.std.specs.Prelude.{Option, Some, None}
use Rattle.words.specs.Words.{same_word, starts_word}
use Rattle.words.proofs.Words.{starts_joined, same_starts, starts_both, starts_fits}
use Rattle.names.specs.declared.Name.{Name}
use Rattle.names.specs.declared.Front.{Front}
use Rattle.lists.specs.Lists.{every, pairwise}
use Rattle.names.specs.Names.{names, endings, named, spelling, with_endings, extra, spellings, lookup, meaning, ending, front_row, front, after_name}
use Rattle.names.specs.Table.{apart, front_strings, names_apart}
use Rattle.lists.proofs.Lists.{every_head, every_tail, pairwise_head, pairwise_tail}
use Rattle.names.proofs.Lookup.{miss}

-- what a word that begins with a name, or with none, means
abbrev pub by_front : List ℕ → Option Front → Option Name
by_front w (Some name) = after_name name.kind (ending (drop name.len w))
by_front w None = cond (same_word w extra.1) (Some extra.0) None

module _ (w : List ℕ) where
  abbrev means : List (Name × List ℕ) → Option Name
  means rows = lookup same_word rows w

  -- a name that the word does not begin with is passed over with all its endings
  pass : (name : ℕ × List ℕ) (ends : List (ℕ × List ℕ)) (more : List (Name × List ℕ)) → starts_word w name.1 ≡ false → means (map (spelling name) ends ++ more) ≡ means more
  pass name [] more h = refl
  pass name (end ∷ ends) more h =
      miss same_word w _ _ (starts_joined w name.1 end.1 ∙ rw h) ∙ pass name ends more h

  -- one that it begins with is decided by its endings, where no later row is meant
  decide : (name : ℕ × List ℕ) (ends : List (ℕ × List ℕ)) (more : List (Name × List ℕ)) → starts_word w name.1 ≡ true → means more ≡ None → means (map (spelling name) ends ++ more) ≡ after_name name.0 (lookup same_word ends (drop (length name.1) w))
  unfolding lookup
  decide name [] more h none = none
  decide name (end ∷ ends) more h none =
      rw (starts_joined w name.1 end.1, h)
      (go (same_word (drop (length name.1) w) end.1) (decide name ends more h none))
    where
      go : (b : Bool) → means (map (spelling name) ends ++ more) ≡ after_name name.0 (lookup same_word ends (drop (length name.1) w)) → cond b (Some (named name.0 end.0)) (means (map (spelling name) ends ++ more)) ≡ after_name name.0 (cond b (Some end.0) (lookup same_word ends (drop (length name.1) w)))
      go true e = refl
      go false e = e

  -- a word begins with one of two strings that are apart
  begins_one : (a b : List ℕ) → apart a b ≡ true → starts_word w a ≡ true → (t : Bool) → starts_word w b ≡ t → t ≡ false
  begins_one a b d h true e = sym (starts_both w a b h e) ∙ not-true _ d
  begins_one a b d h false e = refl

  is_one : (a b : List ℕ) → apart a b ≡ true → starts_word w a ≡ true → (t : Bool) → same_word w b ≡ t → t ≡ false
  is_one a b d h true e = begins_one a b d h true (same_starts w b e)
  is_one a b d h false e = refl

  abbrev table : List (ℕ × List ℕ) → List (Name × List ℕ)
  table rows = flat_map with_endings rows ++ extra ∷ []

  table_cons : (name : ℕ × List ℕ) (rows : List (ℕ × List ℕ)) → table (name ∷ rows) ≡ with_endings name ++ table rows
  unfolding flat_map
  table_cons name rows = append_assoc (with_endings name) (flat_map with_endings rows) (extra ∷ [])

  -- where a word begins with a, it is none of the spellings that are apart from a
  none_apart : (a : List ℕ) → starts_word w a ≡ true → (rows : List (ℕ × List ℕ)) → every (apart a) (front_strings rows) ≡ true → means (table rows) ≡ None
  unfolding flat_map lookup
  none_apart a h [] d = miss same_word w extra [] (is_one a extra.1 (every_head (apart a) extra.1 [] d) h _ refl)
  none_apart a h (name ∷ rows) d =
      ap means (table_cons name rows)
      ∙ pass name endings (table rows) (begins_one a name.1 (every_head (apart a) name.1 (front_strings rows) d) h _ refl)
      ∙ none_apart a h rows (every_tail (apart a) name.1 (front_strings rows) d)

  abbrev front_of : List (ℕ × List ℕ) → Option Front
  front_of rows = lookup starts_word (map front_row rows) w

  -- of any table of names of which no word begins with two
  by_front_of : (rows : List (ℕ × List ℕ)) → pairwise apart (front_strings rows) ≡ true → means (table rows) ≡ by_front w (front_of rows)
  unfolding flat_map lookup ending
  by_front_of [] d = refl
  by_front_of (name ∷ rows) d = ap means (table_cons name rows) ∙ go (starts_word w name.1) refl (by_front_of rows (pairwise_tail apart name.1 (front_strings rows) d))
    where
      go : (b : Bool) → starts_word w name.1 ≡ b → means (table rows) ≡ by_front w (front_of rows) → means (with_endings name ++ table rows) ≡ by_front w (cond b (Some (front_row name).0) (front_of rows))
      go true h e = decide name endings (table rows) h (none_apart name.1 h rows (pairwise_head apart name.1 (front_strings rows) d))
      go false h e = pass name endings (table rows) h ∙ e

pub by_front_law : (w : List ℕ) → meaning w ≡ by_front w (front w)
unfolding meaning front spellings
by_front_law w = by_front_of w names names_apart

-- how many bytes the name at the front has
abbrev reach : Option Front → ℕ
reach (Some name) = name.len
reach None = 0

reach_fits : (w : List ℕ) (rows : List (ℕ × List ℕ)) → reach (lookup starts_word (map front_row rows) w) ≤ length w
unfolding lookup
reach_fits w [] = omega arith
reach_fits w (name ∷ rows) = go (starts_word w name.1) refl (reach_fits w rows)
  where
    go : (b : Bool) → starts_word w name.1 ≡ b → reach (lookup starts_word (map front_row rows) w) ≤ length w → reach (cond b (Some (front_row name).0) (lookup starts_word (map front_row rows) w)) ≤ length w
    go true h e = starts_fits w name.1 h
    go false h e = e

-- the name at the front lies within the word
pub front_fits : (w : List ℕ) (name : Front) → front w ≡ Some name → name.len ≤ length w
unfolding front
front_fits w name e = rw e at (reach_fits w names)
