-- Laws of `lookup`, for any test: a row that is passed over, one that is found, and what is found in all.
-- Assumes nothing.
use Prim.Native.Nat.{ℕ}
use Rattle.std.specs.Prelude.{Some}
use mathlib.Core.Path.{◌≡◌, refl, sym, ap, ◌∙◌}
use mathlib.Core.Bool.{Bool, true, false, cond}
use mathlib.Core.List.Memᴰ
use mathlib.Core.List.{List, [], ◌∷◌, Memᴰ}
use mathlib.Core.Logic.{⊎_elim}
use borrow.Author.Tests.{not-true}
use Rattle.words.specs.Words.{same_word}
use Rattle.words.proofs.Words.{same_both}
use Rattle.lists.specs.Lists.{pairwise}
use Rattle.names.specs.Names.{lookup}
use Rattle.names.specs.Table.{differ}
use Rattle.lists.proofs.Lists.{every_mem, pairwise_head, pairwise_tail}

module _ {A : Type 0} (test : List ℕ → List ℕ → Bool) (w : List ℕ) where
  pub miss : (row : A × List ℕ) (rows : List (A × List ℕ)) → test w row.1 ≡ false → lookup test (row ∷ rows) w ≡ lookup test rows w
  unfolding lookup
  miss row rows h = rw h

  pub hit : (row : A × List ℕ) (rows : List (A × List ℕ)) → test w row.1 ≡ true → lookup test (row ∷ rows) w ≡ Some row.0
  unfolding lookup
  hit row rows h = rw h

  -- what was found stands in a row whose string passes the test with the word
  pub record Found (rows : List (A × List ℕ)) (a : A) : Type 0 where
    pub string : List ℕ
    pub row : Memᴰ (a, string) rows
    pub passes : test w string ≡ true

  pub found : (rows : List (A × List ℕ)) (a : A) → lookup test rows w ≡ Some a → Found rows a
  unfolding lookup
  found [] a h = cc
  found (row ∷ rows) a h = go (test w row.1) refl h (found rows a)
    where
      go : (b : Bool) → test w row.1 ≡ b → cond b (Some row.0) (lookup test rows w) ≡ Some a → (lookup test rows w ≡ Some a → Found rows a) → Found (row ∷ rows) a
      go true e h later = let same : row.0 ≡ a = cc in record { string = row.1; row = Memᴰ.head (rw (← same) refl); passes = e }
      go false e h later = let f = later h in record { string = f.string; row = Memᴰ.tail f.row; passes = f.passes }

-- where no two strings of a table are the same word, a word finds the row whose string it is
pub finds : {A : Type 0} (w : List ℕ) (rows : List (A × List ℕ)) → pairwise differ rows ≡ true → (row : A × List ℕ) → Memᴰ row rows → same_word w row.1 ≡ true → lookup same_word rows w ≡ Some row.0
finds w [] d row m h = absurd (Memᴰ.not-nil m)
finds {A} w (first ∷ rows) d row m h = ⊎_elim here (λ n. later n (finds w rows (pairwise_tail differ first rows d) row n h)) (Memᴰ.cases_cons m)
  where
    here : row ≡ first → lookup same_word (first ∷ rows) w ≡ Some row.0
    here e = hit same_word w first rows (rw (← e) h) ∙ ap (λ (r : A × List ℕ). Some r.0) (sym e)

    passed : Memᴰ row rows → (b : Bool) → same_word w first.1 ≡ b → b ≡ false
    passed n true e = sym (same_both w first.1 row.1 e h) ∙ not-true _ (every_mem (differ first) rows row (pairwise_head differ first rows d) n)
    passed n false e = refl

    later : Memᴰ row rows → lookup same_word rows w ≡ Some row.0 → lookup same_word (first ∷ rows) w ≡ Some row.0
    later n e = miss same_word w first rows (passed n _ refl) ∙ e
