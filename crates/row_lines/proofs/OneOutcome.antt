-- Two outcomes that the contract of `list` or of `put_lines` allows for one input are one: both slices, and the buffer with its count.
-- Assumes nothing.
use Prim.Native.Nat.{ℕ}
use mathlib.Core.Path.{◌≡◌, sym, ap, ◌∙◌}
use mathlib.Core.Bool.{false≢true}
use mathlib.Core.List.{List}
use Rattle.lists.specs.One.{One}
use Rattle.lists.proofs.One.{one}
use Rattle.printing.specs.Printing.{Buffer, put_all_in}
use Rattle.store.specs.declared.ReadAnswer.{ReadAnswer}
use Rattle.store.specs.Answers.{leaves_one}
use Rattle.row_lines.specs.Lines.{listing_lines, Listed, long, read}

-- the same answer and the same rows are put in the same way
same_lines : (text : List ℕ) (b : Buffer) {a a' : ReadAnswer} {n n' m m' : List ℕ} → a ≡ a' → n ≡ n' → m ≡ m' → put_all_in (listing_lines a text n m) b ≡ put_all_in (listing_lines a' text n' m') b
same_lines text b {a} {a'} {n} {n'} {m} {m'} p q r =
    ap (λ x. put_all_in (listing_lines x text n m) b) p
    ∙ (ap (λ x. put_all_in (listing_lines a' text x m) b) q ∙ ap (λ x. put_all_in (listing_lines a' text n' x) b) r)

pub list_one : {text ns ms ns' ns'' ms' ms'' : List ℕ} {b b' b'' : Buffer} → Listed text ns ms b ns' ms' b' → Listed text ns ms b ns'' ms'' b'' → (ns' ≡ ns'') × (ms' ≡ ms'') × (b' ≡ b'')
list_one (long _ n m p) (long _ n' m' p') = (n ∙ sym n', m ∙ sym m', p ∙ sym p')
list_one (long over n m p) (read not-over a l q) = absurd (false≢true (sym not-over ∙ over))
list_one (read not-over a l q) (long over n m p) = absurd (false≢true (sym not-over ∙ over))
list_one {text} {b = b} (read _ a l p) (read _ a' l' p') =
    let same = leaves_one l l' in
    (same.1, same.2, p ∙ (same_lines text b same.0 same.1 same.2 ∙ sym p'))

-- of lines that are put
pub put_lines_one : (a : ReadAnswer) (text ns ms : List ℕ) (b : Buffer) → One (λ left. left ≡ put_all_in (listing_lines a text ns ms) b)
put_lines_one a text ns ms b = one
