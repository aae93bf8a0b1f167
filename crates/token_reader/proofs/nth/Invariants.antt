-- What `token_reader::nth` keeps true in its loop: as many tokens on from the cursor as are still to be counted off stands the token asked for.
use Rattle.std.proofs.Common.{◌≡◌, ℕ, ◌+◌}
use Rattle.tokenizer.specs.Tokens.{cursor_at}
use Rattle.token_reader.specs.Reader.{nth_from}
use Rattle.token_reader.proofs.nth.Given as goal

abbrev pub invariant-loop : goal.invariant-loop
invariant-loop l = (left : ℕ) → l.counter + left ≡ l.n → nth_from l.text left l.cursor ≡ nth_from l.text l.n (cursor_at l.place)
