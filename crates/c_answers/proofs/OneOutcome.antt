-- Two answers that a public function's contract allows for one input are one answer.
-- Assumes nothing.
use mathlib.Core.Path.{◌≡◌}
use Rattle.lists.specs.One.{One}
use Rattle.lists.proofs.One.{one}
use Rattle.store.specs.declared.ReadAnswer.{ReadAnswer}
use Rattle.store.specs.declared.WriteAnswer.{WriteAnswer}
use Rattle.strict.specs.declared.StrictAnswer.{StrictAnswer}
use Rattle.infer_type.specs.declared.Inferred.{Inferred}
use Rattle.bounds.specs.declared.BoxAnswer.{BoxAnswer}
use Rattle.stored_moves.specs.declared.MoveAnswer.{MoveAnswer}
use Rattle.token.specs.declared.Found.{Found}
use Rattle.c_answers.specs.Answers.{read_places, write_places, strict_places, infer_places, box_places, move_places, token_places}

pub read_places_one : (a : ReadAnswer) → One (λ r. r ≡ read_places a)
read_places_one a = one

pub write_places_one : (a : WriteAnswer) → One (λ r. r ≡ write_places a)
write_places_one a = one

pub strict_places_one : (a : StrictAnswer) → One (λ r. r ≡ strict_places a)
strict_places_one a = one

pub infer_places_one : (a : Inferred) → One (λ r. r ≡ infer_places a)
infer_places_one a = one

pub box_places_one : (a : BoxAnswer) → One (λ r. r ≡ box_places a)
box_places_one a = one

pub move_places_one : (a : MoveAnswer) → One (λ r. r ≡ move_places a)
move_places_one a = one

pub token_places_one : (found : Found) → One (λ r. r ≡ token_places found)
token_places_one found = one
