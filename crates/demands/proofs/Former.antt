-- Request 2026-02: a call of `read` answers 28 or 29 in the place of 6, and nothing else of what it answers and leaves is changed.
-- Assumes nothing.
use mathlib.Core.Path.{◌≡◌, refl, ap, sym, ◌∙◌}
use mathlib.Core.Bool.{true, false, false≢true}
use mathlib.Core.Logic.{◌↔◌}
use mathlib.Core.List.{List}
use Prim.Native.Nat.{ℕ}
use Rattle.scan.proofs.Bytes.{or_none}
use lib.Dec.{eqb}
use Rattle.refusals.specs.Refusals.{bad_number}
use Rattle.token.specs.Tokens.{is_bad_number, bad_at}
use Rattle.store.specs.Rows.{node_room, number_room}
use Rattle.store.specs.declared.ReadAnswer.{ReadAnswer}
use Rattle.grammar.specs.Grammar.{out, Got, ok, refused, halt}
use Rattle.grammar.specs.Former.{number_in, says_bad, Change, renews, stays}
use Rattle.grammar_laws.proofs.Former.{bad_numbered, changes}
use Rattle.wkt.specs.Leaves.{answer_of, Leaves}
use Rattle.demands.specs.Former.{SlicesStay, ExactlyThere, BecomesTwo, OthersStay, as_the_rust, OneMessage}

-- the number that is answered
answered : (g : Got) {ns ms : List ℕ} {a : ReadAnswer} {ns' ms' : List ℕ} → Leaves g ns ms a ns' ms' → a.number ≡ number_in g
answered g l = ap (λ (x : ReadAnswer). x.number) l.answer ∙ go g
  where
    go : (g : Got) → (answer_of g).number ≡ number_in g
    go (ok (out rs ss)) = refl
    go (refused r) = refl
    go (halt r) = refl

-- what stays is no bad number's
not_6 : (g : Got) → says_bad (number_in g) ≡ false → number_in g ≡ bad_number → ⊥
not_6 g w e = false≢true (sym w ∙ ap says_bad e)

not_two : (g : Got) → says_bad (number_in g) ≡ false → is_bad_number (number_in g) ≡ false
not_two g w = (or_none (eqb (number_in g) bad_number) (is_bad_number (number_in g)) w).1

-- a call then and now, by what the text came to and comes to
module _ (text ns ms : List ℕ) (b : ReadAnswer) (ns'' ms'' : List ℕ) (a : ReadAnswer) (ns' ms' : List ℕ) where
  left : {x y : Got} → Change text x y → Leaves x ns ms b ns'' ms'' → Leaves y ns ms a ns' ms' → (ns' ≡ ns'') × (ms' ≡ ms'') × (a.nodes ≡ b.nodes) × (a.numbers ≡ b.numbers)
  left (renews p) l r = (r.nodes ∙ sym l.nodes, r.numbers ∙ sym l.numbers, rw (l.answer, r.answer), rw (l.answer, r.answer))
  left (stays w) l r =
      let e : a ≡ b = r.answer ∙ sym l.answer in
      (r.nodes ∙ sym l.nodes, r.numbers ∙ sym l.numbers, ap (λ (x : ReadAnswer). x.nodes) e, ap (λ (x : ReadAnswer). x.numbers) e)

  there : {x y : Got} → Change text x y → Leaves x ns ms b ns'' ms'' → Leaves y ns ms a ns' ms' → (b.number ≡ bad_number) ↔ (is_bad_number a.number ≡ true)
  there (renews p) l r = ((λ z. rw r.answer (bad_numbered text p)), λ z. ap (λ (x : ReadAnswer). x.number) l.answer)
  there (stays {g = g} w) l r = ((λ z. absurd (not_6 g w (sym (answered g l) ∙ z))), λ z. absurd (false≢true (sym (not_two g w) ∙ ap is_bad_number (sym (answered g r)) ∙ z)))

  becomes : {x y : Got} → Change text x y → Leaves x ns ms b ns'' ms'' → Leaves y ns ms a ns' ms' → b.number ≡ bad_number → a ≡ answer_of (refused (bad_at text b.place))
  becomes (renews p) l r z = rw l.answer r.answer
  becomes (stays {g = g} w) l r z = absurd (not_6 g w (sym (answered g l) ∙ z))

  others : {x y : Got} → Change text x y → Leaves x ns ms b ns'' ms'' → Leaves y ns ms a ns' ms' → (b.number ≡ bad_number → ⊥) → a ≡ b
  others (renews p) l r h = absurd (h (ap (λ (x : ReadAnswer). x.number) l.answer))
  others (stays w) l r h = r.answer ∙ sym l.answer

  message : {x y : Got} → Change text x y → Leaves x ns ms b ns'' ms'' → Leaves y ns ms a ns' ms' → as_the_rust a.number ≡ b.number
  message (renews p) l r = rw (l.answer, r.answer, bad_numbered text p)
  message (stays {g = g} w) l r = rw (answered g l, answered g r, not_two g w)

pub slices_stay : SlicesStay
slices_stay text ns ms b ns'' ms'' a ns' ms' l r = left text ns ms b ns'' ms'' a ns' ms' (changes (node_room ns) (number_room ms) text) l r

pub exactly_there : ExactlyThere
exactly_there text ns ms b ns'' ms'' a ns' ms' l r = there text ns ms b ns'' ms'' a ns' ms' (changes (node_room ns) (number_room ms) text) l r

pub becomes_two : BecomesTwo
becomes_two text ns ms b ns'' ms'' a ns' ms' l r = becomes text ns ms b ns'' ms'' a ns' ms' (changes (node_room ns) (number_room ms) text) l r

pub others_stay : OthersStay
others_stay text ns ms b ns'' ms'' a ns' ms' l r = others text ns ms b ns'' ms'' a ns' ms' (changes (node_room ns) (number_room ms) text) l r

pub one_message : OneMessage
one_message text ns ms b ns'' ms'' a ns' ms' l r = message text ns ms b ns'' ms'' a ns' ms' (changes (node_room ns) (number_room ms) text) l r
