-- Pieces that are put one after the other: together they are the canonical text of what is put.
-- Assumes nothing.
use mathlib.Core.Path.{◌≡◌, refl, ap}
use mathlib.Core.Bool.{Bool, true, false, cond, not}
use mathlib.Core.List.{List, [], ◌∷◌, ◌++◌}
use Prim.Native.Nat.{ℕ}
use lib.Dec.{eqb}
use Rattle.scan.specs.Bytes.{space, comma, plus}
use Rattle.scan.specs.Front.{begins}
use Rattle.kinds.specs.Kinds.{dim_xy}
use Rattle.names.specs.Names.{names, endings, string_of}
use Rattle.canonical_text.specs.Canonical.{needs_plus, spell, put_dimension}
use Rattle.nodes.specs.declared.Visit.{Visit}
use Rattle.nodes.specs.Nodes.{is_free}
use Rattle.shape.specs.Numbers.{text_at}
use Rattle.pen.specs.declared.Pen.{Pen}
use Rattle.pen.specs.Pen.{pen_after, out_after, Puts, Emits}
use Rattle.pen.proofs.Puts.{emits, emits_then, emits_as, owes_same}
use Rattle.pieces.specs.Canonical.{put_number, put_name, put_comma, put_head}
use Rattle.pieces.specs.Pieces.{pen_after_each, out_after_each, PutsEach, number_pieces, word_pieces, name_pieces, dimension_pieces, comma_pieces, head_pieces}

-- ---- pieces put one after the other
pub puts_none : (p : Pen) (out : List ℕ) → PutsEach [] p out p out
unfolding pen_after_each out_after_each
puts_none p out = record { stands = refl; bytes = refl }

module _ {p q r : Pen} {out out₁ out₂ : List ℕ} where
  pub puts_on : {x : List ℕ} {xs : List (List ℕ)} → Puts x p out q out₁ → PutsEach xs q out₁ r out₂ → PutsEach (x ∷ xs) p out r out₂
  unfolding pen_after_each out_after_each
  puts_on a b = record { stands = rw (← a.stands, ← a.bytes) b.stands; bytes = rw (← a.stands, ← a.bytes) b.bytes }

-- one
pub puts_one : {x : List ℕ} {p r : Pen} {out out' : List ℕ} → Puts x p out r out' → PutsEach (x ∷ []) p out r out'
puts_one a = puts_on a (puts_none _ _)

-- those of one and then of another
pub puts_then : {xs ys : List (List ℕ)} {p q r : Pen} {out out₁ out₂ : List ℕ} → PutsEach xs p out q out₁ → PutsEach ys q out₁ r out₂ → PutsEach (xs ++ ys) p out r out₂
unfolding pen_after_each out_after_each
puts_then {xs} {ys} {p} {q} {r} {out} {out₁} {out₂} a b = go xs p out a
  where
    go : (xs : List (List ℕ)) (p : Pen) (out : List ℕ) → PutsEach xs p out q out₁ → PutsEach (xs ++ ys) p out r out₂
    go [] p out a = rw (← a.stands, ← a.bytes) b
    go (x ∷ xs) p out a =
        let n = go xs (pen_after p out x) (out_after p out x) (record { stands = a.stands; bytes = a.bytes }) in
        record { stands = n.stands; bytes = n.bytes }

-- the same pieces, said otherwise
pub puts_as : {xs ys : List (List ℕ)} {p r : Pen} {out out' : List ℕ} → PutsEach ys p out r out' → xs ≡ ys → PutsEach xs p out r out'
puts_as a e = rw e a

-- ---- the text that they are
put_each : List (List ℕ) → List ℕ → List ℕ
put_each [] rest = rest
put_each (x ∷ xs) rest = x ++ put_each xs rest

each_emits : (xs : List (List ℕ)) {p r : Pen} {out out' : List ℕ} → PutsEach xs p out r out' → Emits (put_each xs) p out r out'
unfolding pen_after_each out_after_each put_each
each_emits [] a = rw (a.stands, a.bytes) (owes_same _ _ _)
each_emits (x ∷ xs) a = emits_then (emits (record { stands = refl; bytes = refl })) (each_emits xs (record { stands = a.stands; bytes = a.bytes }))

each_both : (xs ys : List (List ℕ)) (rest : List ℕ) → put_each (xs ++ ys) rest ≡ put_each xs (put_each ys rest)
unfolding put_each
each_both [] ys rest = refl
each_both (x ∷ xs) ys rest = ap (λ l. x ++ l) (each_both xs ys rest)

word_is : (w rest : List ℕ) → w ++ rest ≡ put_each (word_pieces w) rest
unfolding put_each word_pieces
word_is [] rest = refl
word_is (b ∷ w) rest = refl

number_is : (lead : ℕ) (w rest : List ℕ) → lead ∷ (spell w ++ rest) ≡ put_each (number_pieces lead w) rest
unfolding put_each spell number_pieces
number_is lead w rest = go (begins needs_plus w)
  where
    go : (b : Bool) → lead ∷ (cond b (plus ∷ w) w ++ rest) ≡ put_each (cond b ((lead ∷ []) ∷ (plus ∷ w) ∷ []) ((lead ∷ w) ∷ [])) rest
    go true = refl
    go false = refl

dimension_is : (d : ℕ) (rest : List ℕ) → put_dimension d rest ≡ put_each (dimension_pieces d) rest
unfolding put_each put_dimension dimension_pieces
dimension_is d rest = go (eqb d dim_xy)
  where
    go : (b : Bool) → cond b rest (space ∷ string_of endings d ++ rest) ≡ put_each (cond b [] ((space ∷ []) ∷ word_pieces (string_of endings d))) rest
    go true = refl
    go false = ap (λ l. space ∷ l) (word_is (string_of endings d) rest)

comma_is : (v : Visit) (rest : List ℕ) → put_comma v rest ≡ put_each (comma_pieces v) rest
unfolding put_each put_comma comma_pieces
comma_is v rest = go (eqb v.parent.next 0)
  where
    go : (b : Bool) → cond b rest (comma ∷ rest) ≡ put_each (cond b [] ((comma ∷ []) ∷ [])) rest
    go true = refl
    go false = refl

head_is : (v : Visit) (rest : List ℕ) → put_head v rest ≡ put_each (head_pieces v) rest
unfolding put_each put_head put_name head_pieces name_pieces
head_is v rest = go (not (is_free v.parent.kind)) (eqb v.parts 0)
  where
    space_is : (b : Bool) → cond b (space ∷ rest) rest ≡ put_each (cond b ((space ∷ []) ∷ []) []) rest
    space_is true = refl
    space_is false = refl

    go : (f b : Bool) → cond f rest (put_name v.kind (put_dimension v.dimension (cond b (space ∷ rest) rest))) ≡ put_each (cond f [] (name_pieces v.kind ++ (dimension_pieces v.dimension ++ cond b ((space ∷ []) ∷ []) []))) rest
    go true b = refl
    go false b =
        rw (each_both (name_pieces v.kind) (dimension_pieces v.dimension ++ cond b ((space ∷ []) ∷ []) []) rest, each_both (dimension_pieces v.dimension) (cond b ((space ∷ []) ∷ []) []) rest, ← space_is b, ← dimension_is v.dimension (cond b (space ∷ rest) rest))
        (word_is (string_of names v.kind) (put_dimension v.dimension (cond b (space ∷ rest) rest)))

-- ---- what is put of each part is its canonical text
module _ {p r : Pen} {out out' : List ℕ} where
  pub number_emits : {lead : ℕ} (text numbers : List ℕ) (i : ℕ) → PutsEach (number_pieces lead (text_at text numbers i)) p out r out' → Emits (λ rest. lead ∷ put_number text numbers i rest) p out r out'
  unfolding put_number
  number_emits {lead} text numbers i a = emits_as (each_emits _ a) (number_is lead (text_at text numbers i))

  pub comma_emits : (v : Visit) → PutsEach (comma_pieces v) p out r out' → Emits (put_comma v) p out r out'
  comma_emits v a = emits_as (each_emits _ a) (comma_is v)

  pub head_emits : (v : Visit) → PutsEach (head_pieces v) p out r out' → Emits (put_head v) p out r out'
  head_emits v a = emits_as (each_emits _ a) (head_is v)
