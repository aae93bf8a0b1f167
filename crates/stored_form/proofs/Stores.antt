-- What writing a store comes to, by whether it is well formed.
-- Assumes nothing.
use mathlib.Core.Path.{◌≡◌, refl, ap, sym, ◌∙◌}
use mathlib.Core.Bool.{true, false, false≢true, cond}
use mathlib.Core.Option.{Option, none, some}
use mathlib.Core.List.{List}
use Prim.Native.Nat.{ℕ}
use Rattle.limits.specs.Limits.{depth_limit}
use Rattle.lists.specs.Options.{is_some}
use Rattle.refusals.specs.Refusals.{ill_formed_store, does_not_fit}
use Rattle.store.specs.Answers.{bytes, refusal}
use Rattle.tree.specs.Tree.{Tree}
use Rattle.shape.specs.Store.{all_rows, all_texts, tree_of, well_formed}
use Rattle.shape.proofs.Stores.{grown, store_tree}
use Rattle.stored_form.specs.declared.Version.{Version}
use Rattle.stored_form.specs.Form.{stored_rows, fits_rows, stored_tree, stored_of}

module _ (v : Version) (text nodes numbers : List ℕ) where
  -- "22"
  pub not_well : well_formed text nodes numbers ≡ false → stored_of v text nodes numbers ≡ refusal ill_formed_store
  unfolding well_formed stored_of
  not_well e = go (tree_of text nodes numbers) e
    where
      go : (o : Option (Tree depth_limit)) → is_some o ≡ false → stored_tree v o ≡ refusal ill_formed_store
      go none e = refl
      go (some t) e = absurd (false≢true (sym e))

  pub stored_is : well_formed text nodes numbers ≡ true → stored_of v text nodes numbers ≡ cond (fits_rows v (all_rows nodes) (all_texts text numbers)) (bytes (stored_rows v (all_rows nodes) (all_texts text numbers))) (refusal does_not_fit)
  unfolding stored_of
  stored_is well =
      let its = grown text nodes numbers well in
      let is_its = store_tree text nodes numbers its.tree its.is in
      ap (stored_tree v) its.is ∙ rw (is_its.its_rows, is_its.its_texts)
