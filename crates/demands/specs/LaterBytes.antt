-- "Also prove: after an accepted root ending in `)`, later bytes change nothing, if both texts pass 1 and 2, with the same rooms." A root that isn't
-- EMPTY ends in a `)`, so the theorem, which is in proofs/Later, has no premise on how the reader went.
use Rattle.std.specs.Prelude.{◌≡◌, List, ◌∷◌, ◌++◌, ℕ, length}
use Rattle.scan.specs.Bytes.{paren_close}
use Rattle.token_stream.specs.Stream.{tok, close_tk}
use Rattle.store.specs.Rows.{node_room, number_room, parts_at}
use Rattle.grammar.specs.Answers.{Passes}
use Rattle.grammar.specs.LastToken.{last_token}
use Rattle.store.specs.declared.ReadAnswer.{ReadAnswer}
use Rattle.demands.specs.Calls.{Read, used_nodes, used_numbers}

-- the text is xs, the `)` that is the last token taken, and ys, which is unread. With other bytes there, and with other slices of the same rooms (slices of
-- 3 and of 5 places have one row each), the answer and the used rows are the same
pub record Ends (text ns ms : List ℕ) (a : ReadAnswer) (ns' ms' : List ℕ) : Type 0 where
  pub xs : List ℕ
  pub ys : List ℕ
  pub split : text ≡ xs ++ paren_close ∷ ys
  pub last : last_token (node_room ns) (number_room ms) text ≡ tok (length xs) close_tk
  pub same : (zs ns₁ ms₁ : List ℕ) (c : ReadAnswer) (ns₁' ms₁' : List ℕ) → node_room ns₁ ≡ node_room ns → number_room ms₁ ≡ number_room ms → Passes (xs ++ paren_close ∷ zs) → Read (xs ++ paren_close ∷ zs) ns₁ ms₁ c ns₁' ms₁' → (c ≡ a) × (used_nodes c ns₁' ≡ used_nodes a ns') × (used_numbers c ms₁' ≡ used_numbers a ms')

-- the root's row is the first one: it has parts, so it isn't EMPTY
abbrev pub LaterBytes : Type 0
LaterBytes = (text ns ms : List ℕ) (a : ReadAnswer) (ns' ms' : List ℕ) → Read text ns ms a ns' ms' → a.number ≡ 0 → (parts_at ns' 0 ≡ 0 → ⊥) → Ends text ns ms a ns' ms'
