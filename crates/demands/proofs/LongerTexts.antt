-- Request 2026-05 over calls of `read` and `infer_type`: shorter texts are answered as before, and 1 is told of exactly those over 4,194,304 bytes.
-- Assumes nothing.
use mathlib.Core.Path.{◌≡◌, ap, sym, ◌∙◌}
use mathlib.Core.Bool.{false}
use mathlib.Core.List.{List}
use Prim.Native.Nat.{ℕ, ◌≤◌, ◌<◌}
use native.Mathlib.Omega.{arith}
use lib.Dec.{ltb}
use lib.ListN.{length}
use borrow.Author.Tests.{le-ltb, lt-ltb, ltb-true}
use Rattle.limits.specs.Limits.{text_limit, over_limit}
use Rattle.store.specs.Rows.{node_room, number_room}
use Rattle.store.specs.declared.ReadAnswer.{ReadAnswer}
use Rattle.grammar.specs.Grammar.{refused, refusal}
use Rattle.grammar.specs.Refused.{too_long}
use Rattle.grammar.specs.Reading.{reading}
use Rattle.wkt.specs.Leaves.{Leaves}
use Rattle.infer_type.specs.Infer.{infer_type}
use Rattle.demands.specs.LongerTexts.{former_limit, reading_within, infer_within, ReadStays, InferStays, ReadLong, InferLong}
use Rattle.demands.proofs.Demand1.{all_zero, read_too_long}

module _ (text : List ℕ) (h : length text ≤ former_limit) where
  not_now : over_limit (length text) ≡ false
  not_now = le-ltb text_limit (length text) (omega arith)

  not_then : ltb former_limit (length text) ≡ false
  not_then = le-ltb former_limit (length text) h

  pub same_reading : (N M : ℕ) → reading N M text ≡ reading_within former_limit N M text
  unfolding reading reading_within
  same_reading N M = rw (not_now, not_then)

  pub same_inference : infer_type text ≡ infer_within former_limit text
  unfolding infer_type infer_within
  same_inference = rw (not_now, not_then)

pub read_stays : ReadStays
read_stays text ns ms a ns' ms' h =
    let e = same_reading text h (node_room ns) (number_room ms) in
    ((λ x. rw e at x), λ x. rw e x)

pub infer_stays : InferStays
infer_stays text r h = ((λ x. x ∙ same_inference text h), λ x. x ∙ sym (same_inference text h))

-- ---- longer ones
pub read_long : ReadLong
read_long text ns ms a ns' ms' r = record {
  exactly = ((λ e. ltb-true text_limit (length text) ((read_too_long text ns ms a ns' ms' r).0 e)), λ l. (read_too_long text ns ms a ns' ms' r).1 (lt-ltb text_limit (length text) l));
  place = λ l. ap (λ (x : ReadAnswer). x.place) (left l).answer;
  nodes_zero = λ l. (left l).nodes ∙ all_zero (length ns);
  numbers_zero = λ l. (left l).numbers ∙ all_zero (length ms);
}
  where
    left : text_limit < length text → Leaves (refused (refusal 1 text_limit)) ns ms a ns' ms'
    left l = rw (too_long (node_room ns) (number_room ms) text (lt-ltb text_limit (length text) l)) at r

pub infer_long : InferLong
unfolding infer_type
infer_long text r e l = e ∙ rw (lt-ltb text_limit (length text) l)
