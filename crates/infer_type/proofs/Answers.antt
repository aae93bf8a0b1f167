-- Every answer is one of those of `Answer`: a refusal has one of six numbers, with its whole reason, its place is what document 01 says, and zeros follow it.
-- Assumes nothing.
use Prim.Native.Nat.{ℕ, ◌≤◌, ◌<◌}
use native.Mathlib.Omega.{arith}
use mathlib.Core.Path.{◌≡◌, refl, sym, ◌∙◌}
use mathlib.Core.Bool.{Bool, true, false, false≢true, cond, not, ◌&&◌, and-eq-true_iff}
use mathlib.Core.Logic.{inl, inr}
use mathlib.Core.List.{List, [], ◌∷◌, map}
use lib.Dec.{leb, ltb}
use borrow.Author.Tests.{eqb-true, leb-true, ltb-true, ltb-false, le-ltb, not-true}
use lib.ListN.{length, get_or}
use Rattle.limits.specs.Limits.{over_limit}
use Rattle.scan.specs.Runs.{first_not, Many}
use Rattle.scan.specs.Front.{rest, part, begins}
use Rattle.scan.proofs.Runs.{not_before, not_past, first_fails, many_part, moves, scan_on}
use Rattle.utf8.specs.Utf8.{is_utf8}
use Rattle.scan.specs.Bytes.{is_ascii}
use Rattle.words.specs.Words.{starts_word}
use Rattle.kinds.specs.Kinds.{kind_point, kind_geometry_collection, dim_xy, dim_xyz, dim_xym, dim_xyzm}
use Rattle.names.specs.Strings.{empty}
use Rattle.lists.specs.Lists.{every}
use Rattle.names.specs.Names.{names, lookup, front_row, front}
use Rattle.names.specs.declared.Front.{Front}
use Rattle.std.specs.Prelude.{Option, Some, None}
use Rattle.lists.proofs.Lists.{every_head, every_tail}
use Rattle.infer_type.specs.declared.Inferred.{Inferred}
use Rattle.refusals.specs.Refusals.{empty_without_space, neither_paren_nor_empty}
use Rattle.infer_type.specs.Part.{is_trimmed, is_no_paren, is_looked, trimmed_at, end_at, wide_at, looked}
use Rattle.infer_type.specs.Search.{has_word, before_word, after_word}
use Rattle.infer_type.specs.Infer.{accepted, refused, inferred_as, behind_name, blank, has_ending, dimension_in, with_paren, without_paren, infer_looked, infer_type}
use Rattle.infer_type.specs.Answers.{Start, Wide, Looked, Paren, NoParen, Spaced, InRange, Answer, long, ill, wide, neither, no_space, no_name, named_paren, named_empty}
use Rattle.infer_type.proofs.Part.{first_stop, end_fits, start_fits}

-- what holds of both choices, each where its test holds, holds of the choice
choice : {A : Type 0} (P : A → Type 0) (t : Bool) {x y : A} → (t ≡ true → P x) → (t ≡ false → P y) → P (cond t x y)
choice P true f g = f refl
choice P false f g = g refl

not_false : (t : Bool) → not t ≡ false → t ≡ true
not_false true e = refl
not_false false e = absurd (false≢true (sym e))

-- the kinds of the names are 1 to 7
abbrev is_kind : ℕ × List ℕ → Bool
is_kind row = leb kind_point row.0 && leb row.0 kind_geometry_collection

abbrev HasKind : Option Front → Type 0
HasKind (Some name) = (kind_point ≤ name.kind) × (name.kind ≤ kind_geometry_collection)
HasKind None = Unit {0}

kinds : (w : List ℕ) (rows : List (ℕ × List ℕ)) → every is_kind rows ≡ true → HasKind (lookup starts_word (map front_row rows) w)
unfolding lookup
kinds w [] h = tt
kinds w (row ∷ rows) h = choice HasKind (starts_word w row.1) (λ t. here) (λ t. kinds w rows (every_tail is_kind row rows h))
  where
    here : (kind_point ≤ row.0) × (row.0 ≤ kind_geometry_collection)
    here =
        let both = (and-eq-true_iff (leb kind_point row.0) _).0 (every_head is_kind row rows h) in
        (leb-true _ _ both.0, leb-true _ _ both.1)

front_kind_law : (w : List ℕ) → HasKind (front w)
unfolding front every
front_kind_law w = kinds w names refl

dimension_small : (l : List ℕ) → dimension_in l ≤ dim_xyzm
unfolding dimension_in
dimension_small l = go (has_ending dim_xyzm l) (has_ending dim_xyz l) (has_ending dim_xym l)
  where
    go : (has_zm has_z has_m : Bool) → cond has_zm dim_xyzm (cond has_z dim_xyz (cond has_m dim_xym dim_xy)) ≤ dim_xyzm
    go true has_z has_m = omega arith
    go false true has_m = omega arith
    go false false true = omega arith
    go false false false = omega arith

module _ (text : List ℕ) where
  -- a scan from where it ended stays there
  stays : begins is_trimmed (rest text (trimmed_at text)) ≡ false
  unfolding trimmed_at
  stays =
      let there = first_not is_trimmed text 0 in
      sym (moves is_trimmed text there) ∙ le-ltb there _ (omega (arith, scan_on is_trimmed is_trimmed (λ b h. h) text 0))

  starts : Start text (trimmed_at text)
  unfolding trimmed_at
  starts = record { within = not_past is_trimmed text 0; trimmed = many_part is_trimmed text 0 (omega arith); kept = stays }

  before_wide : wide_at text < end_at text → Many is_looked (part text (trimmed_at text) (wide_at text))
  before_wide h =
      let e : first_not is_looked text (trimmed_at text) ≡ wide_at text = omega (arith, first_stop text) in
      rw e at (many_part is_looked text (trimmed_at text) (start_fits text))

  wide_byte : wide_at text < length text → is_ascii (get_or text (wide_at text) 0) ≡ false
  unfolding wide_at
  wide_byte h = first_fails is_ascii text (trimmed_at text) h

  start_wide : trimmed_at text ≤ wide_at text
  unfolding wide_at
  start_wide = not_before is_ascii text (trimmed_at text) (start_fits text)

  wides : wide_at text < end_at text → Wide text (trimmed_at text) (wide_at text)
  wides h =
      let inside : wide_at text < length text = omega (arith, end_fits text) in
      record { from = start_wide; within = inside; byte = wide_byte inside; looked = before_wide h }

  -- the part looked at, where 24 isn't answered
  module _ (short : over_limit (length text) ≡ false) (utf8 : is_utf8 text ≡ true) where
    looks : ltb (wide_at text) (end_at text) ≡ false → Looked text (trimmed_at text) (end_at text)
    unfolding end_at
    looks t =
        let e : first_not is_looked text (trimmed_at text) ≡ end_at text = omega (arith, first_stop text, ltb-false (wide_at text) (end_at text) t) in
        record { short = short; utf8 = utf8; starts = starts; from = not_before is_no_paren text (trimmed_at text) (start_fits text); plain = rw e at (many_part is_looked text (trimmed_at text) (start_fits text)) }

    paren : end_at text < length text → Paren text (end_at text)
    unfolding end_at
    paren h = (h, eqb-true _ _ (not_false _ (first_fails is_no_paren text (trimmed_at text) h)))

    in_range : (name : Front) → front (looked text) ≡ Some name → (l : List ℕ) → InRange name.kind (dimension_in l)
    in_range name e l = let k : HasKind (Some name) = rw e at (front_kind_law (looked text)) in (k.0, k.1, dimension_small l)

    with_answer : Looked text (trimmed_at text) (end_at text) → Paren text (end_at text) → Answer text (with_paren (trimmed_at text) (looked text))
    unfolding with_paren
    with_answer k p = go (front (looked text)) refl
      where
        go : (found : Option Front) → front (looked text) ≡ found → Answer text (inferred_as (trimmed_at text) found (dimension_in (behind_name found (looked text))))
        go (Some name) e = named_paren k p e (in_range name e _)
        go None e = no_name k (inl p) e

    without_answer : Looked text (trimmed_at text) (end_at text) → NoParen text (end_at text) → Answer text (without_paren (trimmed_at text) (looked text))
    unfolding without_paren
    without_answer k p = go (has_word empty (looked text)) (has_word blank (before_word empty (looked text))) refl refl
      where
        by_name : Spaced (looked text) → (found : Option Front) → front (looked text) ≡ found → Answer text (inferred_as (trimmed_at text) found (dimension_in (after_word blank (before_word empty (looked text)))))
        by_name s (Some name) e = named_empty k p s e (in_range name e _)
        by_name s None e = no_name k (inr (p, s)) e

        go : (has_empty has_space : Bool) → has_word empty (looked text) ≡ has_empty → has_word blank (before_word empty (looked text)) ≡ has_space
            → Answer text (cond (not has_empty) (refused neither_paren_nor_empty (trimmed_at text)) (cond (not has_space) (refused empty_without_space (trimmed_at text)) (inferred_as (trimmed_at text) (front (looked text)) (dimension_in (after_word blank (before_word empty (looked text)))))))
        go false has_space e f = neither k p e
        go true false e f = no_space k p e f
        go true true e f = by_name (e, f) (front (looked text)) refl

    looked_answer : Answer text (infer_looked text)
    unfolding infer_looked
    looked_answer =
        choice (Answer text) (ltb (wide_at text) (end_at text)) (λ t. wide short utf8 starts (wides (ltb-true _ _ t)))
        (λ t. choice (Answer text) (ltb (end_at text) (length text)) (λ u. with_answer (looks t) (paren (ltb-true _ _ u)))
        (λ u. without_answer (looks t) (omega (arith, end_fits text, ltb-false (end_at text) (length text) u))))

  pub infer_type_answers : Answer text (infer_type text)
  unfolding infer_type
  infer_type_answers =
      choice (Answer text) (over_limit (length text)) (λ t. long t)
      (λ t. choice (Answer text) (not (is_utf8 text)) (λ u. ill t (not-true _ u))
      (λ u. looked_answer t (not_false _ u)))

  -- "Number and place are 0 when accepted, all after the place 0 when refused."
  accepts : {a : Inferred} → Answer text a → a.number ≡ 0 → a ≡ accepted a.kind a.dimension
  accepts (named_paren k p f r) e = refl
  accepts (named_empty k p s f r) e = refl
  accepts (long h) e = absurd (omega arith)
  accepts (ill h u) e = absurd (omega arith)
  accepts (wide h u s w) e = absurd (omega arith)
  accepts (no_name k p f) e = absurd (omega arith)
  accepts (no_space k p f g) e = absurd (omega arith)
  accepts (neither k p f) e = absurd (omega arith)

  refuses : {a : Inferred} → Answer text a → (a.number ≡ 0 → ⊥) → a ≡ refused a.number a.place
  refuses (named_paren k p f r) n = absurd (n refl)
  refuses (named_empty k p s f r) n = absurd (n refl)
  refuses (long h) n = refl
  refuses (ill h u) n = refl
  refuses (wide h u s w) n = refl
  refuses (no_name k p f) n = refl
  refuses (no_space k p f g) n = refl
  refuses (neither k p f) n = refl

  pub infer_type_accepts : (infer_type text).number ≡ 0 → infer_type text ≡ accepted (infer_type text).kind (infer_type text).dimension
  infer_type_accepts = accepts infer_type_answers

  pub infer_type_refuses : ((infer_type text).number ≡ 0 → ⊥) → infer_type text ≡ refused (infer_type text).number (infer_type text).place
  infer_type_refuses = refuses infer_type_answers

  -- the contract's equation leaves no choice
  pub inferred_is_one : (a b : Inferred) → a ≡ infer_type text → b ≡ infer_type text → a ≡ b
  inferred_is_one a b h k = h ∙ sym k
