-- Worked examples of this crate's definitions, by computation: each answer's values in the order of their places.
use Rattle.std.specs.Prelude.{◌≡◌, refl, [], ◌∷◌}
use Rattle.store.specs.declared.ReadAnswer.{ReadAnswer}
use Rattle.store.specs.declared.WriteAnswer.{WriteAnswer}
use Rattle.strict.specs.declared.StrictAnswer.{StrictAnswer}
use Rattle.infer_type.specs.declared.Inferred.{Inferred}
use Rattle.bounds.specs.declared.BoxAnswer.{BoxAnswer}
use Rattle.stored_moves.specs.declared.MoveAnswer.{MoveAnswer}
use Rattle.token.specs.declared.Token.TheVariants.{Comma, Number, ParenClose, ParenOpen, Word}
use Rattle.token.specs.declared.Found.TheVariants.{NoToken, BadNumber, Is}
use Rattle.c_answers.specs.Answers.{read_places, write_places, strict_places, infer_places, box_places, move_places, places_of, token_places}

-- "The reader answers number, place, node count, number count"
read_answer : ReadAnswer
read_answer = record { number = 11; place = 12; nodes = 13; numbers = 14 }

read : read_places read_answer ≡ 11 ∷ 12 ∷ 13 ∷ 14 ∷ []
unfolding read_answer
read = refl

-- "the writer number, place, length"
write_answer : WriteAnswer
write_answer = record { number = 11; place = 12; length = 13 }

write : write_places write_answer ≡ 11 ∷ 12 ∷ 13 ∷ 0 ∷ []
unfolding write_answer
write = refl

-- "the strict check number, letter (its ASCII byte, 0 if none), node row (0 if none)"
strict_answer : StrictAnswer
strict_answer = record { number = 11; letter = 65; row = 13 }

strict : strict_places strict_answer ≡ 11 ∷ 65 ∷ 13 ∷ 0 ∷ []
unfolding strict_answer
strict = refl

-- "infer_type number, place, kind, dimension"
inferred : Inferred
inferred = record { number = 11; place = 12; kind = 13; dimension = 14 }

infer : infer_places inferred ≡ 11 ∷ 12 ∷ 13 ∷ 14 ∷ []
unfolding inferred
infer = refl

-- the boxes number, place
box_answer : BoxAnswer
box_answer = record { number = 11; place = 12 }

box : box_places box_answer ≡ 11 ∷ 12 ∷ 0 ∷ 0 ∷ []
unfolding box_answer
box = refl

-- "the moves answer number, place, length, node count, number count"
move_answer : MoveAnswer
move_answer = record { number = 11; place = 12; length = 13; nodes = 14; numbers = 15 }

move : move_places move_answer ≡ 11 ∷ 12 ∷ 13 ∷ 14 ∷ 15 ∷ []
unfolding move_answer
move = refl

-- every sort of token, and none, and a bad number: sort, place, start, length
tokens : (places_of 12 Comma ≡ 2 ∷ 12 ∷ 0 ∷ 0 ∷ []) × (places_of 12 ParenClose ≡ 3 ∷ 12 ∷ 0 ∷ 0 ∷ []) × (places_of 12 ParenOpen ≡ 4 ∷ 12 ∷ 0 ∷ 0 ∷ []) × (places_of 12 (Number 13 14) ≡ 5 ∷ 12 ∷ 13 ∷ 14 ∷ []) × (places_of 12 (Word 13 14) ≡ 6 ∷ 12 ∷ 13 ∷ 14 ∷ [])
tokens = (refl, refl, refl, refl, refl)

found : (token_places (NoToken 12) ≡ 0 ∷ 12 ∷ 0 ∷ 0 ∷ []) × (token_places (BadNumber 12) ≡ 1 ∷ 12 ∷ 0 ∷ 0 ∷ []) × (token_places (Is 12 (Number 13 14)) ≡ 5 ∷ 12 ∷ 13 ∷ 14 ∷ [])
found = (refl, refl, refl)
