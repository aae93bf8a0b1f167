-- Worked examples of this crate's definitions, by computation.
use Rattle.std.specs.Prelude.{ℕ, ◌≡◌, refl, Bool, true, false, not, ◌||◌, eqb, Option, Some, None, is_some}
use mathlib.Core.List.{List, [], ◌∷◌, ◌++◌, map, flat_map}
use Rattle.lists.specs.Lists.{passing, bytes_that, every, pairwise}
use Rattle.scan.specs.Text.{bytes}
use Rattle.words.specs.Words.{same_word, starts_word}
use Rattle.names.specs.declared.Name.{Name}
use Rattle.names.specs.declared.Front.{Front}
use Rattle.names.specs.Names.{names, endings, string_of, spellings, lookup, meaning, ending, front, is_empty_word}
use Rattle.names.specs.Table.{is_known, apart}
use Rattle.names.specs.Letters.{is_letter, is_capital, letter_at, has_both, packed_of, four_at}

means : List ℕ → Option Name → Type 0
means w name = meaning w ≡ name

all : ℕ
unfolding means meaning lookup spellings flat_map same_word
all = 0

is_unknown : List ℕ → Bool
is_unknown w = not (is_known (meaning w))

begun_with : ℕ → ℕ → Option Front
begun_with kind len = Some (record { kind = kind; len = len })

-- `point` is a POINT that a header may follow
lower : means (bytes "point") (Some (Name.Bare 1))
unfolding all
lower = refl

-- `PoInTzM` is a POINT ZM
mixed : means (bytes "PoInTzM") (Some (Name.Joined 1 3))
unfolding all
mixed = refl

-- `GEOMETRYCOLLECTIONM`, `MULTIPOINTZ`
joined : (means (bytes "GEOMETRYCOLLECTIONM") (Some (Name.Joined 7 2))) × (means (bytes "MULTIPOINTZ") (Some (Name.Joined 4 1)))
unfolding all
joined = (refl, refl)

-- `LINEARRING` is a LINESTRING
ring : means (bytes "LINEARRING") (Some (Name.Bare 2))
unfolding all
ring = refl

-- `LinearRingZ` is unknown
ring_z : means (bytes "LinearRingZ") None
unfolding all
ring_z = refl

-- `POINTS`, `POIN`, `POINTMZ` and the empty word are unknown
unknown : (means (bytes "POINTS") None) × (means (bytes "POIN") None) × (means (bytes "POINTMZ") None) × (means [] None)
unfolding all
unknown = (refl, refl, refl, refl)

-- `zM` is an ending, and so is nothing; `mz` is none
ends : (ending (bytes "zM") ≡ Some 3) × (ending [] ≡ Some 0) × (ending (bytes "mz") ≡ None)
unfolding ending lookup same_word
ends = (refl, refl, refl)

-- `POINTEMPTY` begins with POINT, `LINEARRING` with none of the names
begun : (front (bytes "POINTEMPTY") ≡ begun_with 1 5) × (front (bytes "LINEARRING") ≡ None)
unfolding front lookup starts_word begun_with
begun = (refl, refl)

-- `Empty`
empty_word : is_empty_word (bytes "Empty") ≡ true
unfolding same_word
empty_word = refl

-- ---- the tables whole
-- all 29 spellings, with what each means
whole : spellings
    ≡ (Name.Bare 1, bytes "POINT")
    ∷ (Name.Joined 1 1, bytes "POINTZ")
    ∷ (Name.Joined 1 2, bytes "POINTM")
    ∷ (Name.Joined 1 3, bytes "POINTZM")
    ∷ (Name.Bare 2, bytes "LINESTRING")
    ∷ (Name.Joined 2 1, bytes "LINESTRINGZ")
    ∷ (Name.Joined 2 2, bytes "LINESTRINGM")
    ∷ (Name.Joined 2 3, bytes "LINESTRINGZM")
    ∷ (Name.Bare 3, bytes "POLYGON")
    ∷ (Name.Joined 3 1, bytes "POLYGONZ")
    ∷ (Name.Joined 3 2, bytes "POLYGONM")
    ∷ (Name.Joined 3 3, bytes "POLYGONZM")
    ∷ (Name.Bare 4, bytes "MULTIPOINT")
    ∷ (Name.Joined 4 1, bytes "MULTIPOINTZ")
    ∷ (Name.Joined 4 2, bytes "MULTIPOINTM")
    ∷ (Name.Joined 4 3, bytes "MULTIPOINTZM")
    ∷ (Name.Bare 5, bytes "MULTILINESTRING")
    ∷ (Name.Joined 5 1, bytes "MULTILINESTRINGZ")
    ∷ (Name.Joined 5 2, bytes "MULTILINESTRINGM")
    ∷ (Name.Joined 5 3, bytes "MULTILINESTRINGZM")
    ∷ (Name.Bare 6, bytes "MULTIPOLYGON")
    ∷ (Name.Joined 6 1, bytes "MULTIPOLYGONZ")
    ∷ (Name.Joined 6 2, bytes "MULTIPOLYGONM")
    ∷ (Name.Joined 6 3, bytes "MULTIPOLYGONZM")
    ∷ (Name.Bare 7, bytes "GEOMETRYCOLLECTION")
    ∷ (Name.Joined 7 1, bytes "GEOMETRYCOLLECTIONZ")
    ∷ (Name.Joined 7 2, bytes "GEOMETRYCOLLECTIONM")
    ∷ (Name.Joined 7 3, bytes "GEOMETRYCOLLECTIONZM")
    ∷ (Name.Bare 2, bytes "LINEARRING")
    ∷ []
unfolding spellings flat_map
whole = refl

-- a spelling is the beginning of another one only where both are the same name's, as POINT of POINTZ and POINTZ of POINTZM; of LINEARRING none is
front_kind : Option Front → ℕ
front_kind (Some name) = name.kind
front_kind None = 0

clear : Name × List ℕ → Name × List ℕ → Bool
clear a b = apart a.1 b.1 || eqb (front_kind (front a.1)) (front_kind (front b.1))

no_beginning : pairwise clear spellings ≡ true
unfolding spellings flat_map pairwise every starts_word front lookup front_kind clear
no_beginning = refl

-- the string beside each kind and dimension, and beside numbers that are none
strings : (map (string_of names) (0 ∷ 1 ∷ 2 ∷ 3 ∷ 4 ∷ 5 ∷ 6 ∷ 7 ∷ 8 ∷ []) ≡ [] ∷ bytes "POINT" ∷ bytes "LINESTRING" ∷ bytes "POLYGON" ∷ bytes "MULTIPOINT" ∷ bytes "MULTILINESTRING" ∷ bytes "MULTIPOLYGON" ∷ bytes "GEOMETRYCOLLECTION" ∷ [] ∷ [])
    × (map (string_of endings) (0 ∷ 1 ∷ 2 ∷ 3 ∷ 4 ∷ []) ≡ [] ∷ bytes "Z" ∷ bytes "M" ∷ bytes "ZM" ∷ [] ∷ [])
unfolding string_of
strings = (refl, refl)

-- the seven names as fronts, each with its length
fronts : (front (bytes "pointx") ≡ begun_with 1 5)
    × (front (bytes "linestringx") ≡ begun_with 2 10)
    × (front (bytes "polygonx") ≡ begun_with 3 7)
    × (front (bytes "multipointx") ≡ begun_with 4 10)
    × (front (bytes "multilinestringx") ≡ begun_with 5 15)
    × (front (bytes "multipolygonx") ≡ begun_with 6 12)
    × (front (bytes "geometrycollectionx") ≡ begun_with 7 18)
    × (front (bytes "poin") ≡ None)
unfolding front lookup starts_word begun_with
fronts = (refl, refl, refl, refl, refl, refl, refl, refl)

-- words near a name that are none: LINEARRING with each ending, `MZ`, an ending twice, a name cut short or with a byte before it
none : every is_unknown
    (bytes "LINEARRINGZ" ∷ bytes "LINEARRINGM" ∷ bytes "LINEARRINGZM" ∷ bytes "LINEARRINGS" ∷ bytes "LINEARRIN" ∷ bytes "POINTMZ" ∷ bytes "POLYGONMZ" ∷ bytes "POINTZZ" ∷ bytes "POINTZMZ" ∷ bytes "POINTEMPTY" ∷ bytes "XPOINT" ∷ bytes "POINT " ∷ bytes "OINT" ∷ bytes "POLYGO" ∷ bytes "MULTIPOIN" ∷ bytes "MULTI" ∷ bytes "GEOMETRY" ∷ bytes "GEOMETRYCOLLECTIONS" ∷ bytes "CURVE" ∷ bytes "TRIANGLE" ∷ bytes "TIN" ∷ bytes "POLYHEDRALSURFACE" ∷ bytes "Z" ∷ bytes "M" ∷ bytes "ZM" ∷ bytes "EMPTY" ∷ [])
    ≡ true
unfolding all is_unknown every
none = refl

-- of all bytes: those that end POINT as an ending, those that are one alone, and the last letter of `ZM` and of EMPTY
ending_bytes : (bytes_that (λ b. is_known (meaning (bytes "POINT" ++ b ∷ []))) ≡ 77 ∷ 90 ∷ 109 ∷ 122 ∷ [])
    × (bytes_that (λ b. is_some (ending (b ∷ []))) ≡ 77 ∷ 90 ∷ 109 ∷ 122 ∷ [])
    × (bytes_that (λ b. is_some (ending (90 ∷ b ∷ []))) ≡ 77 ∷ 109 ∷ [])
    × (bytes_that (λ b. is_some (ending (77 ∷ b ∷ []))) ≡ [])
    × (bytes_that (λ b. is_empty_word (bytes "EMPT" ++ b ∷ [])) ≡ 89 ∷ 121 ∷ [])
unfolding all passing ending
ending_bytes = (refl, refl, refl, refl, refl)

-- the four endings' dimensions
ending_numbers : (ending (bytes "z") ≡ Some 1) × (ending (bytes "m") ≡ Some 2) × (ending (bytes "zm") ≡ Some 3)
unfolding ending lookup same_word
ending_numbers = (refl, refl, refl)

-- `A` to `Z` and `a` to `z`
letters : bytes_that is_letter ≡ 65 ∷ 66 ∷ 67 ∷ 68 ∷ 69 ∷ 70 ∷ 71 ∷ 72 ∷ 73 ∷ 74 ∷ 75 ∷ 76 ∷ 77 ∷ 78 ∷ 79 ∷ 80 ∷ 81 ∷ 82 ∷ 83 ∷ 84 ∷ 85 ∷ 86 ∷ 87 ∷ 88 ∷ 89 ∷ 90 ∷ 97 ∷ 98 ∷ 99 ∷ 100 ∷ 101 ∷ 102 ∷ 103 ∷ 104 ∷ 105 ∷ 106 ∷ 107 ∷ 108 ∷ 109 ∷ 110 ∷ 111 ∷ 112 ∷ 113 ∷ 114 ∷ 115 ∷ 116 ∷ 117 ∷ 118 ∷ 119 ∷ 120 ∷ 121 ∷ 122 ∷ []
unfolding passing
letters = refl

-- ---- how the code compares them
-- `A` to `Z` alone
capitals : bytes_that is_capital ≡ 65 ∷ 66 ∷ 67 ∷ 68 ∷ 69 ∷ 70 ∷ 71 ∷ 72 ∷ 73 ∷ 74 ∷ 75 ∷ 76 ∷ 77 ∷ 78 ∷ 79 ∷ 80 ∷ 81 ∷ 82 ∷ 83 ∷ 84 ∷ 85 ∷ 86 ∷ 87 ∷ 88 ∷ 89 ∷ 90 ∷ []
unfolding passing
capitals = refl

-- a small letter as a capital one, any other byte as it is, and a blank behind the word
placed : (map (letter_at (bytes "zM4")) (0 ∷ 1 ∷ 2 ∷ 3 ∷ []) ≡ bytes "ZM4 ") × (letter_at [] 0 ≡ 32)
unfolding letter_at
placed = (refl, refl)

-- both letters, in their order
both : (has_both (bytes "ZM") 90 77 ≡ true) × (has_both (bytes "ZM") 90 32 ≡ false) × (has_both (bytes "ZM") 32 77 ≡ false) × (has_both (bytes "ZM") 77 90 ≡ false) × (has_both (bytes "  ") 32 32 ≡ true)
both = (refl, refl, refl, refl, refl)

-- `POIN`, the first letter lowest: 80 + 79 · 256 + 73 · 65,536 + 78 · 16,777,216
four : (packed_of 80 79 73 78 ≡ 1313427280) × (four_at (bytes "A POINT") 2 ≡ 1313427280) × (packed_of 0 0 0 255 ≡ 4278190080) × (packed_of 255 0 0 0 ≡ 255)
four = (refl, refl, refl, refl)
