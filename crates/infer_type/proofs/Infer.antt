-- The answer, by what the code finds on its way: a law for each of its returns.
-- Assumes nothing.
use mathlib.Core.Path.{◌≡◌, sym, ap, ◌∙◌}
use mathlib.Core.Bool.{true, false}
use mathlib.Core.List.{List}
use Prim.Native.Nat.{ℕ, ◌+◌, ◌-◌, ◌≤◌, ◌<◌}
use native.Mathlib.Omega.{arith}
use borrow.Author.Tests.{lt-ltb, le-ltb, eq-eqb, ne_eqb}
use lib.ListN.{length, get_or, take, drop, length-take}
use Rattle.scan.specs.Bytes.{paren_open}
use Rattle.scan.specs.Runs.{first_not}
use Rattle.scan.specs.Front.{part}
use Rattle.scan.proofs.Front.{tail_part}
use Rattle.scan.proofs.Runs.{not_before, not_past}
use Rattle.limits.specs.Limits.{text_limit, over_limit}
use Rattle.utf8.specs.Utf8.{first_ill}
use Rattle.names.specs.Strings.{empty}
use Rattle.names.specs.Names.{front}
use Rattle.names.specs.declared.Front.{Front}
use Rattle.std.specs.Prelude.{Option, Some, None}
use Rattle.refusals.specs.Refusals.{text_too_long, ill_formed_utf8, unsupported_name, empty_without_space, neither_paren_nor_empty, non_ascii}
use Rattle.infer_type.specs.Part.{is_looked, trimmed_at, end_at}
use Rattle.infer_type.specs.Search.{first_word, before_word}
use Rattle.infer_type.specs.Infer.{accepted, refused, inferred_as, blank, dimension_in, with_paren, without_paren, infer_looked, infer_type}
use Rattle.infer_type.proofs.Search.{first_fits, has_none, has_some}
use Rattle.infer_type.proofs.Part.{stop_at, stop_none, stop_paren, stop_wide, start_fits}

-- with a `(` after it
module _ (place : ℕ) (l : List ℕ) where
  pub opened_named : {name : Front} {dim : ℕ} → front l ≡ Some name → dim ≡ dimension_in (take (length l - name.len) (drop name.len l)) → accepted name.kind dim ≡ with_paren place l
  unfolding with_paren
  opened_named e d = rw (d, tail_part, e)

  pub opened_other : front l ≡ None → refused unsupported_name place ≡ with_paren place l
  unfolding with_paren
  opened_other e = rw e

-- without: e is where EMPTY first stands, s where a space first stands before it
module _ (l : List ℕ) (e : ℕ) (is_empty : e ≡ first_word empty l) where
  pub empty_fits : e ≤ length l
  empty_fits = omega (arith, first_fits empty l)

  pub no_empty : (place : ℕ) → e ≡ length l → refused neither_paren_nor_empty place ≡ without_paren place l
  unfolding without_paren
  no_empty place n = rw (has_none empty l (sym is_empty ∙ n))

  width : e - 0 ≡ first_word empty l
  width = omega arith

  before_length : length (before_word empty l) ≡ e
  before_length = length-take (first_word empty l) l ∙ omega (arith, first_fits empty l)

  module _ (some : e ≡ length l → ⊥) (s : ℕ) (is_space : s ≡ first_word blank (part l 0 e)) where
    space_at : s ≡ first_word blank (before_word empty l)
    space_at = is_space ∙ ap (λ (k : ℕ). first_word blank (take k l)) width

    pub space_fits : (s ≡ e → ⊥) → s < e
    space_fits n = omega (arith, first_fits blank (before_word empty l), before_length, space_at)

    pub no_space_law : (place : ℕ) → s ≡ e → refused empty_without_space place ≡ without_paren place l
    unfolding without_paren
    no_space_law place n = rw (has_some empty l (λ h. some (is_empty ∙ h)), has_none blank (before_word empty l) (sym space_at ∙ n ∙ sym before_length))

    spaced : (place : ℕ) {dim : ℕ} → (s ≡ e → ⊥) → dim ≡ dimension_in (take (length (part l 0 e) - (s + 1)) (drop (s + 1) (part l 0 e))) → inferred_as place (front l) dim ≡ without_paren place l
    unfolding without_paren
    spaced place n d = rw (has_some empty l (λ h. some (is_empty ∙ h)), has_some blank (before_word empty l) (λ h. n (space_at ∙ h ∙ before_length)), d, tail_part, width, ← space_at)

    pub spaced_named : (place : ℕ) {name : Front} {dim : ℕ} → (s ≡ e → ⊥) → dim ≡ dimension_in (take (length (part l 0 e) - (s + 1)) (drop (s + 1) (part l 0 e))) → front l ≡ Some name → accepted name.kind dim ≡ without_paren place l
    spaced_named place {dim = dim} n d f = ap (λ (x : Option Front). inferred_as place x dim) (sym f) ∙ spaced place n d

    pub spaced_other : (place : ℕ) {dim : ℕ} → (s ≡ e → ⊥) → dim ≡ dimension_in (take (length (part l 0 e) - (s + 1)) (drop (s + 1) (part l 0 e))) → front l ≡ None → refused unsupported_name place ≡ without_paren place l
    spaced_other place {dim = dim} n d f = ap (λ (x : Option Front). inferred_as place x dim) (sym f) ∙ spaced place n d

-- s is where the text starts, e where the scan from there stops
module _ (text : List ℕ) (s e : ℕ) (is_start : s ≡ trimmed_at text) (is_stop : e ≡ first_not is_looked text s) where
  stop_at_law : e ≡ stop_at text
  stop_at_law = is_stop ∙ ap (first_not is_looked text) is_start

  pub start_stop : s ≤ e
  start_stop = omega (arith, not_before is_looked text s (omega (arith, start_fits text)))

  pub stop_fits : e ≤ length text
  stop_fits = omega (arith, not_past is_looked text s)

  pub unopened : e ≡ length text → without_paren s (part text s e) ≡ infer_looked text
  unfolding infer_looked
  unopened n =
      let got = stop_none text (sym stop_at_law ∙ n) in
      rw (le-ltb _ _ got.1, le-ltb (end_at text) (length text) (omega arith), is_start, n, ← got.0)

  stop_inside : (e ≡ length text → ⊥) → stop_at text < length text
  stop_inside n = omega (arith, stop_fits, stop_at_law)

  pub opened : (e ≡ length text → ⊥) → get_or text e 0 ≡ paren_open → with_paren s (part text s e) ≡ infer_looked text
  unfolding infer_looked
  opened n b =
      let got = stop_paren text (stop_inside n) (rw stop_at_law at b) in
      rw (le-ltb _ _ got.1, lt-ltb (end_at text) (length text) (omega (arith, stop_inside n)), is_start, stop_at_law, ← got.0)

  pub wide : (e ≡ length text → ⊥) → (get_or text e 0 ≡ paren_open → ⊥) → refused non_ascii e ≡ infer_looked text
  unfolding infer_looked
  wide n b =
      let got = stop_wide text (stop_inside n) (rw stop_at_law at b) in
      rw (lt-ltb _ _ got.1, stop_at_law, got.0)

module _ (text : List ℕ) where
  pub too_long : over_limit (length text) ≡ true → refused text_too_long text_limit ≡ infer_type text
  unfolding infer_type
  too_long h = rw h

  pub ill_formed : (i : ℕ) → over_limit (length text) ≡ false → i ≡ first_ill text → (i ≡ length text → ⊥) → refused ill_formed_utf8 i ≡ infer_type text
  unfolding infer_type
  ill_formed i h e n = rw (h, ← e, ne_eqb _ _ n)

  pub a_text : over_limit (length text) ≡ false → first_ill text ≡ length text → infer_looked text ≡ infer_type text
  unfolding infer_type
  a_text h e = rw (h, eq-eqb _ _ e)
