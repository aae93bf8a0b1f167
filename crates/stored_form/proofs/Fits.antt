-- What fits a version of the form, clause by clause.
-- Assumes nothing.
use mathlib.Core.Path.{◌≡◌}
use mathlib.Core.Bool.{true, ◌&&◌}
use mathlib.Core.List.{List}
use Prim.Native.Nat.{ℕ, ◌≤◌}
use lib.Dec.{leb}
use lib.ListN.{length}
use borrow.Author.Tests.{le-leb, leb-true}
use Rattle.lists.specs.Lists.{every}
use Rattle.lists.proofs.Cases.{and_both}
use Rattle.store.specs.Rows.{Row}
use Rattle.fields.specs.Fields.{longest}
use Rattle.stored_form.specs.declared.Version.{Version}
use Rattle.stored_form.specs.Form.{stored_rows, fits_rows}

module _ (v : Version) (rs : List Row) (ns : List (List ℕ)) where
  pub record FitsEach : Type 0 where
    pub nodes : length rs ≤ v.largest
    pub numbers : length ns ≤ v.largest
    pub parts : every (λ (r : Row). leb r.parts v.largest) rs ≡ true
    pub texts : every (λ (x : List ℕ). leb (length x) longest) ns ≡ true
    pub all : length (stored_rows v rs ns) ≤ v.limit

  pub fits_each : fits_rows v rs ns ≡ true → FitsEach
  unfolding fits_rows
  fits_each e =
      let few = leb (length rs) v.largest && leb (length ns) v.largest in
      let short = every (λ (r : Row). leb r.parts v.largest) rs && every (λ (x : List ℕ). leb (length x) longest) ns in
      let a = and_both (few && short) (leb (length (stored_rows v rs ns)) v.limit) e in
      let b = and_both few short a.0 in
      let c = and_both (leb (length rs) v.largest) (leb (length ns) v.largest) b.0 in
      let d = and_both (every (λ (r : Row). leb r.parts v.largest) rs) (every (λ (x : List ℕ). leb (length x) longest) ns) b.1 in
      record { nodes = leb-true (length rs) v.largest c.0; numbers = leb-true (length ns) v.largest c.1; parts = d.0; texts = d.1; all = leb-true (length (stored_rows v rs ns)) v.limit a.1 }

  pub each_fits : FitsEach → fits_rows v rs ns ≡ true
  unfolding fits_rows
  each_fits f = rw (le-leb (length rs) v.largest f.nodes, le-leb (length ns) v.largest f.numbers, f.parts, f.texts, le-leb (length (stored_rows v rs ns)) v.limit f.all)
