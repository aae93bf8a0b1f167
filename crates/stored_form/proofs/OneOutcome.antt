-- Two answers that a public function's contract allows are one answer.
-- Assumes nothing.
use mathlib.Core.Path.{◌≡◌}
use Rattle.lists.specs.One.{One}
use Rattle.lists.proofs.One.{one}
use Rattle.stored_form.specs.declared.Edition.{Edition}
use Rattle.stored_form.specs.Form.{version_of}

pub version_of_one : (edition : Edition) → One (λ r. r ≡ version_of edition)
version_of_one edition = one
