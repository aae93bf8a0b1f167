-- What is put of a table, row by row: the string beside a number, which no two rows have.
-- Assumes nothing.
use mathlib.Core.Path.{◌≡◌, refl, sym, ◌∙◌}
use mathlib.Core.Bool.{cond}
use mathlib.Core.List.{List, [], ◌∷◌}
use Prim.Native.Nat.{ℕ, zero, suc, ◌+◌, ◌≤◌, ◌<◌}
use native.Mathlib.Omega.{arith}
use borrow.Author.Tests.{eq-eqb, ne_eqb}
use lib.Dec.{eqb}
use lib.ListN.{length, drop, drop_of_length-le}
use Rattle.names.specs.Names.{names, endings, string_of}
use Rattle.names.proofs.Rows.{name_at, name_row, ending_at, ending_row_law}
use Rattle.pen.specs.declared.Pen.{Pen}
use Rattle.pen.specs.Pen.{Puts}
use Rattle.pieces.specs.Pieces.{PutsEach, word_pieces, name_pieces}
use Rattle.pieces.proofs.Pieces.{puts_none, puts_on, puts_as}

-- ---- what is still to be put, after some of it was
pub record StillPuts (whole left : List (List ℕ)) (p : Pen) (out : List ℕ) (q : Pen) (out' : List ℕ) : Type 0 where
  pub on : (r : Pen) (end : List ℕ) → PutsEach left q out' r end → PutsEach whole p out r end
  pub same : length out' ≡ length out

pub still_all : {whole left : List (List ℕ)} {p : Pen} {out : List ℕ} → whole ≡ left → StillPuts whole left p out p out
still_all e = record { on = λ r end h. puts_as h e; same = refl }

module _ {whole : List (List ℕ)} {p q : Pen} {out out' : List ℕ} where
  pub still_as : {left left' : List (List ℕ)} → left ≡ left' → StillPuts whole left p out q out' → StillPuts whole left' p out q out'
  still_as e s = record { on = λ r end h. s.on r end (puts_as h e); same = s.same }

  pub still_put : {left : List (List ℕ)} {x : List ℕ} {r : Pen} {out'' : List ℕ} → StillPuts whole (x ∷ left) p out q out' → Puts x q out' r out'' → length out'' ≡ length out' → StillPuts whole left p out r out''
  still_put s a e = record { on = λ r end h. s.on r end (puts_on a h); same = e ∙ s.same }

  pub still_none : StillPuts whole [] p out q out' → PutsEach whole p out q out'
  still_none s = s.on _ _ (puts_none _ _)

-- ---- the strings of the rows with the number k
unfoldable pub pieces_of : List (ℕ × List ℕ) → ℕ → List (List ℕ)
pieces_of [] k = []
pieces_of (row ∷ rows) k = cond (eqb k row.0) (row.1 ∷ pieces_of rows k) (pieces_of rows k)

module _ (k n : ℕ) (x : List ℕ) {rows more : List (ℕ × List ℕ)} (stands : rows ≡ (n, x) ∷ more) where
  of_row : n ≡ k → pieces_of rows k ≡ x ∷ pieces_of more k
  unfolding pieces_of
  of_row e = rw (stands, eq-eqb k n (sym e))

  of_others : (n ≡ k → ⊥) → pieces_of rows k ≡ pieces_of more k
  unfolding pieces_of
  of_others ne = rw (stands, ne_eqb k n (λ e. ne (sym e)))

-- ---- the names from a row on
abbrev pub names_left : ℕ → ℕ → List (List ℕ)
names_left row kind = pieces_of (drop row names) kind

-- no two rows are of one kind
pub names_all : (kind : ℕ) → name_pieces kind ≡ names_left 0 kind
unfolding name_pieces word_pieces string_of pieces_of
names_all zero = refl
names_all (suc zero) = refl
names_all (suc (suc zero)) = refl
names_all (suc (suc (suc zero))) = refl
names_all (suc (suc (suc (suc zero)))) = refl
names_all (suc (suc (suc (suc (suc zero))))) = refl
names_all (suc (suc (suc (suc (suc (suc zero)))))) = refl
names_all (suc (suc (suc (suc (suc (suc (suc zero))))))) = refl
names_all (suc (suc (suc (suc (suc (suc (suc (suc k)))))))) =
    let kind = suc (suc (suc (suc (suc (suc (suc (suc k))))))) in
    rw (ne_eqb kind 1 (omega arith), ne_eqb kind 2 (omega arith), ne_eqb kind 3 (omega arith), ne_eqb kind 4 (omega arith), ne_eqb kind 5 (omega arith), ne_eqb kind 6 (omega arith), ne_eqb kind 7 (omega arith))

pub names_none : (row kind : ℕ) → 7 ≤ row → names_left row kind ≡ []
unfolding pieces_of
names_none row kind h = rw (drop_of_length-le names h)

module _ (row kind : ℕ) (h : row < 7) where
  pub name_put : row + 1 ≡ kind → names_left row kind ≡ name_at row ∷ names_left (row + 1) kind
  name_put e = of_row kind (row + 1) (name_at row) (name_row row h).stands e

  pub name_not : (row + 1 ≡ kind → ⊥) → names_left row kind ≡ names_left (row + 1) kind
  name_not ne = of_others kind (row + 1) (name_at row) (name_row row h).stands ne

-- ---- the endings from a row on
abbrev pub endings_left : ℕ → ℕ → List (List ℕ)
endings_left row dimension = pieces_of (drop row endings) dimension

-- the first has no letters
pub endings_all : (dimension : ℕ) → (dimension ≡ 0 → ⊥) → word_pieces (string_of endings dimension) ≡ endings_left 1 dimension
unfolding word_pieces string_of pieces_of
endings_all zero ne = absurd (ne refl)
endings_all (suc zero) ne = refl
endings_all (suc (suc zero)) ne = refl
endings_all (suc (suc (suc zero))) ne = refl
endings_all (suc (suc (suc (suc k)))) ne =
    let dimension = suc (suc (suc (suc k))) in
    rw (ne_eqb dimension 0 (omega arith), ne_eqb dimension 1 (omega arith), ne_eqb dimension 2 (omega arith), ne_eqb dimension 3 (omega arith))

pub endings_none : (row dimension : ℕ) → 4 ≤ row → endings_left row dimension ≡ []
unfolding pieces_of
endings_none row dimension h = rw (drop_of_length-le endings h)

module _ (row dimension : ℕ) (h : row < 4) where
  pub ending_put : row ≡ dimension → endings_left row dimension ≡ ending_at row ∷ endings_left (row + 1) dimension
  ending_put e = of_row dimension row (ending_at row) (ending_row_law row h).stands e

  pub ending_not : (row ≡ dimension → ⊥) → endings_left row dimension ≡ endings_left (row + 1) dimension
  ending_not ne = of_others dimension row (ending_at row) (ending_row_law row h).stands ne
