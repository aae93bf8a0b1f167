-- Two buffers that the contract of `put_found` allows for one input are one: the bytes and the count.
-- Assumes nothing.
use mathlib.Core.Path.{◌≡◌}
use Rattle.lists.specs.One.{One}
use Rattle.lists.proofs.One.{one}
use Rattle.token.specs.declared.Found.{Found}
use Rattle.printing.specs.Printing.{Buffer, put_all_in}
use Rattle.shown_tokens.specs.Shown.{shown_found}

pub put_found_one : (b : Buffer) (found : Found) → One (λ left. left ≡ put_all_in (shown_found found) b)
put_found_one b found = one
