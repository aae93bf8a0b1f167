-- A canonical text is ASCII, so it passes refusal 2.
-- Assumes nothing.
use mathlib.Core.Path.{◌≡◌, refl}
use mathlib.Core.Bool.{true}
use mathlib.Core.List.{List, [], ◌∷◌, flat_map}
use Prim.Native.Nat.{ℕ, zero, suc}
use lib.Dec.{eqb}
use lib.ListN.{length}
use borrow.Author.Tests.{eq-eqb}
use Rattle.scan.specs.Bytes.{space, paren_close, comma, is_ascii}
use Rattle.scan.specs.Front.{begins}
use Rattle.scan.specs.Runs.{Many, none, more}
use Rattle.kinds.specs.Kinds.{kind_point, kind_line_string, kind_polygon, kind_multi_point, kind_multi_line_string, kind_multi_polygon, kind_geometry_collection, dim_xy}
use Rattle.lists.specs.Lists.{every}
use Rattle.names.specs.Names.{names, endings, string_of}
use Rattle.names.specs.Strings.{empty}
use Rattle.lists.proofs.Lists.{every_head, every_tail}
use Rattle.utf8.specs.Utf8.{first_ill, is_utf8}
use Rattle.utf8.proofs.Characters.{ascii_whole}
use Rattle.lists.proofs.Cases.{either}
use Rattle.lists.specs.Lists.{All}
use Rattle.tree.specs.Tree.{point_n, line_n, polygon_n, multipoint_n, multiline_n, multipolygon_n, collection_n, Tree, coord_texts, line_texts, polygon_texts, node_texts, no_texts, texts, Lexeme}
use Rattle.canonical_text.specs.Canonical.{needs_plus, spell, put_spelled, each, separated, put_coord, put_parts, put_named, put_dimension, put_with, put_point, put_line, put_polygon, put_geometry, put_nothing, put_tree}
use Rattle.grammar_laws.proofs.Lexemes.{every_join, lexeme_ascii}
use Rattle.grammar_laws.proofs.TokensBack.{all_flat}

abbrev pub Ascii : List ℕ → Type 0
Ascii l = every is_ascii l ≡ true

-- a writer puts ASCII in front of ASCII
Puts : {X : Type 0} → (X → Type 0) → (X → List ℕ → List ℕ) → Type 0
Puts {X} Q f = (x : X) → Q x → (r : List ℕ) → Ascii r → Ascii (f x r)

-- where the number texts of x are lexemes
abbrev PutsOf : {X : Type 0} → (X → List (List ℕ)) → (X → List ℕ → List ℕ) → Type 0
PutsOf nu f = Puts (λ x. All Lexeme (nu x)) f

number_ascii : Puts Lexeme put_spelled
unfolding Puts spell every
number_ascii x g r a = every_join is_ascii (spell x) r (either (begins needs_plus x) Ascii _ _ (λ e. lexeme_ascii x g) λ e. lexeme_ascii x g) a

module _ {X : Type 0} (Q : X → Type 0) (f : X → List ℕ → List ℕ) (h : Puts Q f) where
  each_ascii : (s : ℕ) → is_ascii s ≡ true → Puts (All Q) (each s f)
  unfolding Puts each All every
  each_ascii s e [] q r a = a
  each_ascii s e (x ∷ xs) q r a = rw e (h x q.0 (each s f xs r) (each_ascii s e xs q.1 r a))

  separated_ascii : (s : ℕ) → is_ascii s ≡ true → Puts (All Q) (separated s f)
  unfolding Puts separated All
  separated_ascii s e [] q r a = a
  separated_ascii s e (x ∷ xs) q r a = h x q.0 (each s f xs r) (each_ascii s e xs q.1 r a)

  parts_ascii : Puts (All Q) (put_parts f)
  unfolding Puts put_parts every
  parts_ascii [] q r a = every_join is_ascii empty r refl a
  parts_ascii (x ∷ xs) q r a = separated_ascii comma refl (x ∷ xs) q (paren_close ∷ r) a

  named_ascii : Puts (All Q) (put_named f)
  unfolding Puts put_named every
  named_ascii [] q r a = every_join is_ascii empty r refl a
  named_ascii (x ∷ xs) q r a = separated_ascii comma refl (x ∷ xs) q (paren_close ∷ r) a

string_ascii : (table : List (ℕ × List ℕ)) → every (λ entry. every is_ascii entry.1) table ≡ true → (n : ℕ) → Ascii (string_of table n)
unfolding string_of every
string_ascii [] e n = refl
string_ascii (entry ∷ table) e n =
    either (eqb n entry.0) Ascii _ _ (λ z. every_head (λ x. every is_ascii x.1) entry table e) λ z. string_ascii table (every_tail (λ x. every is_ascii x.1) entry table e) n

dimension_ascii : (d : ℕ) (r : List ℕ) → Ascii r → Ascii (put_dimension d r)
unfolding put_dimension every
dimension_ascii d r a = either (eqb d dim_xy) Ascii _ _ (λ e. a) λ e. every_join is_ascii (string_of endings d) r (string_ascii endings refl d) a

module _ {X : Type 0} (nu : X → List (List ℕ)) (f : X → List ℕ → List ℕ) (h : PutsOf nu f) where
  list_ascii : PutsOf (flat_map nu) (put_parts f)
  unfolding Puts
  list_ascii xs l r a = parts_ascii (λ x. All Lexeme (nu x)) f h xs (all_flat nu xs l) r a

  with_ascii : (k d : ℕ) → PutsOf (flat_map nu) (put_with k d f)
  unfolding Puts put_with every
  with_ascii k d xs l r a =
      every_join is_ascii (string_of names k) _ (string_ascii names refl k) (dimension_ascii d (put_named f xs r) (named_ascii (λ x. All Lexeme (nu x)) f h xs (all_flat nu xs l) r a))

coord_ascii : PutsOf coord_texts put_coord
coord_ascii = separated_ascii Lexeme put_spelled number_ascii space refl

line_ascii : PutsOf line_texts put_line
line_ascii = list_ascii coord_texts put_coord coord_ascii

polygon_ascii : PutsOf polygon_texts put_polygon
polygon_ascii = list_ascii line_texts put_line line_ascii

point_ascii : PutsOf coord_texts put_point
unfolding Puts All
point_ascii c l r a = parts_ascii (λ x. All Lexeme (coord_texts x)) put_coord coord_ascii (c ∷ []) (l, tt) r a

node_ascii : {X : Type 0} (nu : X → List (List ℕ)) (f : X → List ℕ → List ℕ) → PutsOf nu f → PutsOf (node_texts nu) (put_geometry f)
unfolding Puts
node_ascii nu f h (point_n d xs) = with_ascii coord_texts put_coord coord_ascii kind_point d xs
node_ascii nu f h (line_n d xs) = with_ascii coord_texts put_coord coord_ascii kind_line_string d xs
node_ascii nu f h (polygon_n d xs) = with_ascii line_texts put_line line_ascii kind_polygon d xs
node_ascii nu f h (multipoint_n d xs) = with_ascii coord_texts put_point point_ascii kind_multi_point d xs
node_ascii nu f h (multiline_n d xs) = with_ascii line_texts put_line line_ascii kind_multi_line_string d xs
node_ascii nu f h (multipolygon_n d xs) = with_ascii polygon_texts put_polygon polygon_ascii kind_multi_polygon d xs
node_ascii nu f h (collection_n d xs) = with_ascii nu f h kind_geometry_collection d xs

nothing_ascii : PutsOf {X = ⊥} no_texts put_nothing
unfolding Puts
nothing_ascii x l r a = a

put_ascii : (n : ℕ) → PutsOf (texts n) (put_tree n)
put_ascii zero = node_ascii no_texts put_nothing nothing_ascii
put_ascii (suc n) = node_ascii (texts n) (put_tree n) (put_ascii n)

-- the canonical text of a tree whose numbers are lexemes is ASCII
pub tree_ascii : (n : ℕ) (t : Tree n) → All Lexeme (texts n t) → Ascii (put_tree n t [])
unfolding Puts every
tree_ascii n t l = put_ascii n t l [] refl

many : (l : List ℕ) → Ascii l → Many is_ascii l
many [] a = none
many (b ∷ l) a = more (every_head is_ascii b l a) (many l (every_tail is_ascii b l a))

pub ascii_utf8 : (text : List ℕ) → Ascii text → is_utf8 text ≡ true
ascii_utf8 text a = eq-eqb (first_ill text) (length text) (ascii_whole (many text a))
