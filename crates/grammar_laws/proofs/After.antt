-- After an accepted root that ends in `)`, later bytes change nothing: the last token that the grammar takes stands in the text.
-- Assumes nothing.
use Rattle.std.specs.Prelude.{Option, Some, None}
use mathlib.Core.Path.{◌≡◌, refl, ap, sym, ◌∙◌}
use mathlib.Core.Bool.{Bool, true, false, cond}
use mathlib.Core.Logic.{◌⊎◌, inl, inr}
use mathlib.Core.List.{List, [], ◌∷◌, ◌++◌}
use Prim.Native.Nat.{ℕ, zero, suc, ◌≤◌, ◌<◌}
use native.Mathlib.Omega.{arith}
use lib.Dec.{eqb, ltb}
use lib.ListN.{length, length-append}
use borrow.Author.Tests.{eqb-true}
use Rattle.scan.specs.Bytes.{paren_close, is_ascii}
use Rattle.names.specs.declared.Name.{Name}
use Rattle.kinds.specs.Kinds.{kind_point, kind_line_string, kind_polygon, kind_multi_point, kind_multi_line_string, kind_multi_polygon, kind_geometry_collection, dim_xy}
use Rattle.lists.specs.Lists.{every}
use Rattle.names.specs.Names.{meaning, ending, is_empty_word}
use Rattle.limits.specs.Limits.{text_limit, over_limit, depth_limit}
use Rattle.utf8.specs.Utf8.{is_utf8, first_ill}
use Rattle.token_stream.specs.Stream.{Tok, tok, none_tk, close_tk, Str, hd, tl}
use Rattle.token_stream.specs.Lex.{lex}
use Rattle.lists.proofs.Cases.{either}
use Rattle.grammar.specs.Asks.{P, ret, ask, look, bind, run, answer_in}
use Rattle.grammar.specs.Tokens.{sort_none, sort_open, sort_close, sort_word, sort_of, place_of, text_of}
use Rattle.grammar.specs.Grammar.{Out, out, Got, ok, refused, halt, Head, opens, empty, wrong, refusal, and_then, rows_used, closing, add_node, opened, is_empty_tok, opening, opener, header_ending, header, by_name, root_head, line_in, polygon_in, point_in, multi, simple, geometry_by, collection, geometry, root}
use Rattle.grammar.specs.Reading.{enough, reading}
use Rattle.grammar.specs.LastToken.{last_of, last_token, root_parts}
use Rattle.grammar.specs.Answers.{Passes}
use Rattle.grammar_laws.proofs.Tokens.{TokIn, ToksIn, hd_in, tl_in, place_before, lex_in}
use Rattle.grammar_laws.proofs.Unread.{later}

-- ---- whatever tokens a reader is fed, Q holds of its answer and the last token that it took or looked at (z, if there is none)
abbrev Last : {A : Type 0} → (A → Tok → Type 0) → Tok → P A → Type 0
Last Q z (ret a) = Q a z
Last Q z (ask k) = (t : Tok) → Last Q t (k t)
Last Q z (look k) = (t : Tok) → Last Q t (k t)

module _ {A : Type 0} (Q : A → Tok → Type 0) where
  last_run : (p : P A) (s : Str) (z : Tok) → Last Q z p → Q (answer_in (run p s)) (last_of p s z)
  unfolding run last_of
  last_run (ret a) s z h = h
  last_run (ask k) s z h = last_run (k (hd s)) (tl s) (hd s) (h (hd s))
  last_run (look k) s z h = last_run (k (hd s)) s (hd s) (h (hd s))

  last_cond : (b : Bool) (z : Tok) (p q : P A) → (b ≡ true → Last Q z p) → (b ≡ false → Last Q z q) → Last Q z (cond b p q)
  last_cond true z p q h k = h refl
  last_cond false z p q h k = k refl

  module _ {B : Type 0} (R : B → Tok → Type 0) where
    last_bind : (z : Tok) (p : P A) (f : A → P B) → Last Q z p → ((a : A) (t : Tok) → Q a t → Last R t (f a)) → Last R z (bind p f)
    unfolding bind
    last_bind z (ret a) f h k = k a z h
    last_bind z (ask g) f h k = λ t. last_bind t (g t) f (h t) k
    last_bind z (look g) f h k = λ t. last_bind t (g t) f (h t) k

abbrev Any : {A : Type 0} → A → Tok → Type 0
Any a t = Unit {0}

last_any : {A : Type 0} (z : Tok) (p : P A) → Last Any z p
last_any z (ret a) = tt
last_any z (ask k) = λ t. last_any t (k t)
last_any z (look k) = λ t. last_any t (k t)

-- ---- an accepted root ends in a token, and one that isn't EMPTY in a `)`
abbrev Solid : Tok → Type 0
Solid t = sort_of t ≡ sort_none → ⊥

abbrev Ends : Got → Tok → Type 0
Ends (ok o) t = Solid t × ((sort_of t ≡ sort_close) ⊎ (root_parts o ≡ 0))
Ends (refused r) t = Unit {0}
Ends (halt r) t = Unit {0}

-- a head with EMPTY
abbrev HeadEnds : Head → Tok → Type 0
HeadEnds (opens k d p) t = Unit {0}
HeadEnds (empty k d p) t = Solid t
HeadEnds (wrong r) t = Unit {0}

solid : (t : Tok) (n : ℕ) → eqb (sort_of t) (suc n) ≡ true → Solid t
solid t n e z = omega (arith, eqb-true (sort_of t) (suc n) e, z)

close_ends : (z : Tok) (r : Got) → Last Ends z (closing r)
unfolding closing
close_ends z (ok o) = λ t. either (eqb (sort_of t) sort_close) (λ r. Ends r t) _ _ (λ e. (solid t 2 e, inl (eqb-true (sort_of t) sort_close e))) λ e. tt
close_ends z (refused r) = λ t. either (eqb (sort_of t) sort_close) (λ r. Ends r t) _ _ (λ e. tt) λ e. tt
close_ends z (halt r) = tt

opened_ends : (N k d : ℕ) (body : ℕ → Out → P Got) (p : ℕ) (o : Out) (z : Tok) → Last Ends z (opened N k d body p o)
unfolding opened and_then
opened_ends N k d body p o z = go (add_node N o p k d)
  where
    go : (r : Got) → Last Ends z (and_then r λ o1. bind (body (rows_used o) o1) closing)
    go (ok o1) = last_bind Any Ends z (body (rows_used o) o1) closing (last_any z (body (rows_used o) o1)) λ a t h. close_ends t a
    go (refused r) = tt
    go (halt r) = tt

empty_solid : (t : Tok) → is_empty_tok t ≡ true → Solid t
empty_solid t e z = go (eqb (sort_of t) sort_word) refl e
  where
    go : (b : Bool) → eqb (sort_of t) sort_word ≡ b → cond b (is_empty_word (text_of t)) false ≡ true → ⊥
    go true f g = solid t 5 f z
    go false f g = let y : ◌≡◌ {A = ℕ} 0 1 = cc in omega arith

opener_ends : (k d : ℕ) (z : Tok) → Last HeadEnds z (opener k d)
unfolding opener opening
opener_ends k d z =
    λ t. either (eqb (sort_of t) sort_open) (λ h. HeadEnds h t) _ _ (λ e. tt) λ e. either (is_empty_tok t) (λ h. HeadEnds h t) _ _ (λ f. empty_solid t f) λ f. tt

header_ends : (k : ℕ) (z : Tok) → Last HeadEnds z (header k)
unfolding header
header_ends k z =
    λ t. last_cond HeadEnds (ltb (sort_of t) sort_open) t _ _ (λ e. tt) λ e. last_cond HeadEnds (eqb (sort_of t) sort_word) t _ _ (λ f. go t (ending (text_of t))) λ f. opener_ends k dim_xy t
  where
    go : (t : Tok) (e : Option ℕ) → Last HeadEnds t (header_ending k t e)
    go t (Some d) = λ u. opener_ends k d u
    go t None = last_cond HeadEnds (is_empty_word (text_of t)) t _ _ (λ e. opener_ends k dim_xy t) λ e. tt

name_ends : (p : ℕ) (n : Option Name) (z : Tok) → Last HeadEnds z (by_name p n)
name_ends p None z = tt
name_ends p (Some (Name.Bare k)) z = header_ends k z
name_ends p (Some (Name.Joined k d)) z = opener_ends k d z

root_head_law : (z : Tok) → Last HeadEnds z root_head
unfolding root_head
root_head_law z =
    λ t. last_cond HeadEnds (eqb (sort_of t) sort_word) t _ _ (λ e. last_cond HeadEnds (every is_ascii (text_of t)) t _ _ (λ f. name_ends (place_of t) (meaning (text_of t)) t) λ f. tt) λ e. tt

module _ (N M F : ℕ) where
  multi_ends : (k d p : ℕ) (o : Out) (z : Tok) → Last Ends z (multi N M F k d p o)
  unfolding multi
  multi_ends k d p o z =
      last_cond Ends (eqb k kind_multi_point) z _ _ (λ e. opened_ends N kind_multi_point d _ p o z) λ e.
      last_cond Ends (eqb k kind_multi_line_string) z _ _ (λ f. opened_ends N kind_multi_line_string d _ p o z) λ f. opened_ends N kind_multi_polygon d _ p o z

  simple_ends : (k d p : ℕ) (o : Out) (z : Tok) → Last Ends z (simple N M F k d p o)
  unfolding simple point_in line_in polygon_in
  simple_ends k d p o z =
      last_cond Ends (eqb k kind_point) z _ _ (λ e. opened_ends N kind_point d _ p o z) λ e.
      last_cond Ends (eqb k kind_line_string) z _ _ (λ f. opened_ends N kind_line_string d _ p o z) λ f.
      last_cond Ends (eqb k kind_polygon) z _ _ (λ g. opened_ends N kind_polygon d _ p o z) λ g. multi_ends k d p o z

  collection_ends : (n d p : ℕ) (o : Out) (z : Tok) → Last Ends z (collection N M F n d p o)
  unfolding collection
  collection_ends zero d p o z = tt
  collection_ends (suc n) d p o z = opened_ends N kind_geometry_collection d _ p o z

  node_ends_law : (p k d : ℕ) (z : Tok) → Solid z → Ends (add_node N (out [] []) p k d) z
  node_ends_law p k d z h = either (ltb 0 N) (λ r. Ends r z) _ _ (λ e. (h, inr refl)) λ e. tt

  geometry_ends : (n : ℕ) (h : Head) (z : Tok) → HeadEnds h z → Last Ends z (geometry N M F n (out [] []) h)
  unfolding geometry geometry_by
  geometry_ends n (opens k d p) z h = last_cond Ends (eqb k kind_geometry_collection) z _ _ (λ e. collection_ends n d p (out [] []) z) λ e. simple_ends k d p (out [] []) z
  geometry_ends n (empty k d p) z h = node_ends_law p k d z h
  geometry_ends n (wrong r) z h = tt

  root_ends : (n : ℕ) (z : Tok) → Last Ends z (root N M F n)
  unfolding root
  root_ends n z = last_bind HeadEnds Ends z root_head _ (root_head_law z) λ h t e. geometry_ends n h t e

-- ---- and a token stands in the text
last_in : {A : Type 0} (text : List ℕ) (p : P A) (s : Str) (z : Tok) → ToksIn text s → TokIn text z → TokIn text (last_of p s z)
unfolding last_of
last_in text (ret r) s z a h = h
last_in text (ask k) s z a h = last_in text (k (hd s)) (tl s) (hd s) (tl_in text s a) (hd_in text s a)
last_in text (look k) s z a h = last_in text (k (hd s)) s (hd s) a (hd_in text s a)

-- ---- whole texts
module _ (N M : ℕ) where
  abbrev answer : List ℕ → Got
  answer text = answer_in (run (root N M enough depth_limit) (lex 0 text))

  passed : (text : List ℕ) → Passes text → reading N M text ≡ answer text
  unfolding reading
  passed text h = rw (h.short, h.utf8)

  -- an accepted text is refused neither 1 nor 2
  pub accepted : (text : List ℕ) (o : Out) → reading N M text ≡ ok o → Passes text
  unfolding reading
  accepted text o e = go (over_limit (length text)) (is_utf8 text) refl refl e
    where
      go : (x y : Bool) → over_limit (length text) ≡ x → is_utf8 text ≡ y → cond x (refused (refusal 1 text_limit)) (cond y (answer text) (refused (refusal 2 (first_ill text)))) ≡ ok o → Passes text
      go true y f g e = let z : ◌≡◌ {A = ℕ} 0 1 = cc in absurd (omega arith)
      go false true f g e = record { short = f; utf8 = g }
      go false false f g e = let z : ◌≡◌ {A = ℕ} 0 1 = cc in absurd (omega arith)

  -- a reading that goes no further than a `)`: what follows the `)` changes nothing, if both texts pass 1 and 2
  pub later_bytes : (xs ys zs : List ℕ) → Passes (xs ++ paren_close ∷ ys) → Passes (xs ++ paren_close ∷ zs) → place_of (last_token N M (xs ++ paren_close ∷ ys)) ≤ length xs
      → reading N M (xs ++ paren_close ∷ ys) ≡ reading N M (xs ++ paren_close ∷ zs)
  later_bytes xs ys zs a b h = passed (xs ++ paren_close ∷ ys) a ∙ later (root N M enough depth_limit) xs ys zs (tok 0 none_tk) h ∙ sym (passed (xs ++ paren_close ∷ zs) b)

  ends : (text : List ℕ) (o : Out) → reading N M text ≡ ok o → Ends (ok o) (last_token N M text)
  ends text o e = rw (sym (passed text (accepted text o e)) ∙ e) at (last_run Ends (root N M enough depth_limit) (lex 0 text) (tok 0 none_tk) (root_ends N M enough depth_limit (tok 0 none_tk)))

  -- a reading that accepts takes its last token from the text
  pub last_inside : (text : List ℕ) (o : Out) → reading N M text ≡ ok o → place_of (last_token N M text) < length text
  last_inside text o e =
      place_before text (last_token N M text) (last_in text (root N M enough depth_limit) (lex 0 text) (tok 0 none_tk) (lex_in text) (omega arith)) (ends text o e).0

  -- and that token is a `)`, unless the root is EMPTY
  pub ends_closed : (text : List ℕ) (o : Out) → reading N M text ≡ ok o → (root_parts o ≡ 0 → ⊥) → sort_of (last_token N M text) ≡ sort_close
  ends_closed text o e h = go (ends text o e).1
    where
      go : (sort_of (last_token N M text) ≡ sort_close) ⊎ (root_parts o ≡ 0) → sort_of (last_token N M text) ≡ sort_close
      go (inl c) = c
      go (inr z) = absurd (h z)

  -- after an accepted root that ends in `)`, the last token taken, other bytes make no other rows
  pub after_root : (xs ys zs : List ℕ) (o : Out) → reading N M (xs ++ paren_close ∷ ys) ≡ ok o → last_token N M (xs ++ paren_close ∷ ys) ≡ tok (length xs) close_tk → Passes (xs ++ paren_close ∷ zs)
      → reading N M (xs ++ paren_close ∷ zs) ≡ ok o
  after_root xs ys zs o e t b = sym (later_bytes xs ys zs (accepted (xs ++ paren_close ∷ ys) o e) b (omega (arith, ap place_of t))) ∙ e

  -- so an accepted text that ends in `)` is read alike with whatever is written after it
  pub after_text : (xs zs : List ℕ) (o : Out) → reading N M (xs ++ paren_close ∷ []) ≡ ok o → Passes (xs ++ paren_close ∷ zs) → reading N M (xs ++ paren_close ∷ zs) ≡ ok o
  after_text xs zs o e b =
      sym (later_bytes xs [] zs (accepted (xs ++ paren_close ∷ []) o e) b (omega (arith, last_inside (xs ++ paren_close ∷ []) o e, length-append xs (paren_close ∷ [])))) ∙ e
