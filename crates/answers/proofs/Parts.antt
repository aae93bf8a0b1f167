-- Closing tokens, what follows a part, and rows: the returns of the code, and what they mean in the grammar.
-- Assumes nothing.
use mathlib.Core.Path.{◌≡◌, refl, sym, ap, ◌∙◌}
use mathlib.Core.Bool.{Bool, true, false, false≢true, cond}
use mathlib.Core.List.{List}
use Rattle.std.specs.Prelude.{Ok, Err}
use Prim.Native.Nat.{ℕ, ◌+◌, ◌≤◌, ◌<◌}
use native.Mathlib.Omega.{arith}
use lib.Dec.{eqb, ltb}
use borrow.Author.Tests.{eq-eqb, ne_eqb, lt-ltb, le-ltb, ltb-true, ltb-false}
use Rattle.lists.proofs.Cases.{either}
use Rattle.refusals.specs.Refusals.{no_node_row, not_closed}
use Rattle.token.specs.declared.Token.{Token}
use Rattle.token.specs.declared.Token.TheVariants.{Comma, Number, ParenClose, ParenOpen, Word}
use Rattle.token.specs.declared.Found.{Found}
use Rattle.tokenizer.specs.declared.Cursor.{Cursor}
use Rattle.tokenizer.specs.declared.Passed.{Passed}
use Rattle.token.specs.declared.Refusal.{Refusal}
use Rattle.tokenizer.specs.Tokens.{cursor_at, take_at, is_comma_token, is_comma, pass_comma}
use Rattle.token_stream.specs.Stream.{hd, tl, tk_in, tok_in, stream}
use Rattle.token_stream.proofs.Stream.{take_head, take_tail, look_same}
use Rattle.token_stream.proofs.Marks.{take_free, comma_taken, other_held}
use Rattle.store.specs.Rows.{Row, Span, node_room, rows_in, close_in}
use Rattle.store.proofs.Rows.{rows_closed}
use Rattle.grammar.specs.Asks.{ret, ask, ran, run}
use Rattle.grammar.specs.Tokens.{sort_close, sort_comma, tk_sort, sort_of}
use Rattle.grammar.specs.Grammar.{Got, ok, refused, refusal, fill, close_by, closing}
use Rattle.grammar_laws.proofs.Asks.{run_ret}
use Rattle.sorts.specs.Taken.{taken_at, refusal_by}
use Rattle.sorts.proofs.Tokens.{Takes, takes, asks}
use Rattle.answers.specs.declared.State.{State}
use Rattle.answers.specs.declared.Spot.{Spot}
use Rattle.answers.specs.declared.Unread.{Unread}
use Rattle.answers.specs.declared.Unread.TheVariants.{Refused, Stopped}
use Rattle.answers.specs.Reading.{Answer, spot, is_read, ended_nodes, not_closed_at, closed_at, closed_nodes, after_refusal, row_for, used_by, got_of, end_of, Met}

-- where the code knows, as in an arm of all other answers, that an answer is no `Ok`, it was not read
pub not_read : (a : Answer) → ((s : Spot) → a ≡ Ok s → ⊥) → is_read a ≡ false
not_read (Ok s) h = absurd (h s refl)
not_read (Err e) h = refl

-- whether a part was read stays so where the closing token was looked for
read_same : (text : List ℕ) (a : Answer) → is_read (after_refusal text a) ≡ is_read a
unfolding after_refusal
read_same text (Ok s) = refl
read_same text (Err (Refused r c)) = either (eqb (taken_at text c).sort sort_close) (λ (b : Answer). is_read b ≡ false) _ _ (λ y. refl) (λ n. refl)
read_same text (Err (Stopped r c)) = refl

-- so behind the test of it: the part was read, or it was not
module _ (text : List ℕ) where
  pub part_read : {s : Spot} (a : Answer) → Ok s ≡ after_refusal text a → a ≡ Ok s
  unfolding after_refusal
  part_read (Ok q) x = sym x
  part_read (Err e) x = absurd (false≢true (sym (read_same text (Err e)) ∙ sym (ap is_read x)))

  pub part_lost : {e : Unread} (a : Answer) → Err e ≡ after_refusal text a → is_read a ≡ false
  part_lost a x = sym (read_same text a) ∙ sym (ap is_read x)

-- what closing a row puts is said here alone
pub rows_ended : (ns : List ℕ) (i parts : ℕ) (e : Spot) → i < node_room ns → rows_in (ended_nodes ns i parts e) e.nodes ≡ close_in (rows_in ns e.nodes) i parts
rows_ended ns i parts e h = rows_closed ns i parts h e.nodes

-- the closing token behind a body that was read
module _ (text : List ℕ) (s : State) (ns : List ℕ) (row parts : ℕ) where
  pub close_yes : {i : ℕ} {r : Answer} {ns' : List ℕ} → (taken_at text s.cursor).sort ≡ sort_close → i ≡ (taken_at text s.cursor).at → r ≡ Ok (spot i s.nodes s.numbers) → ns' ≡ ended_nodes ns row parts (spot i s.nodes s.numbers) → (r ≡ closed_at text s) × (ns' ≡ closed_nodes text s ns row parts)
  unfolding closed_at closed_nodes
  close_yes k e a b = let y = eq-eqb (taken_at text s.cursor).sort sort_close k in (a ∙ rw (e, y), b ∙ rw y)

  pub close_no : {r : Answer} → ((taken_at text s.cursor).sort ≡ sort_close → ⊥) → r ≡ not_closed_at text (taken_at text s.cursor) → (r ≡ closed_at text s) × (ns ≡ closed_nodes text s ns row parts)
  unfolding closed_at closed_nodes
  close_no k a = let n = ne_eqb (taken_at text s.cursor).sort sort_close k in (a ∙ rw n, rw n)

-- and behind one that was refused
module _ (text : List ℕ) (r : Refusal) (c : Cursor) where
  pub lost_yes : (taken_at text c).sort ≡ sort_close → Err (Refused r (cursor_at (taken_at text c).at)) ≡ after_refusal text (Err (Refused r c))
  unfolding after_refusal
  lost_yes k = rw (eq-eqb (taken_at text c).sort sort_close k)

  pub lost_no : ((taken_at text c).sort ≡ sort_close → ⊥) → not_closed_at text (taken_at text c) ≡ after_refusal text (Err (Refused r c))
  unfolding after_refusal
  lost_no k = rw (ne_eqb (taken_at text c).sort sort_close k)

-- in the grammar: what was taken, by its sort
close_asks : (text : List ℕ) (c : Cursor) (g : Got) → run (ask (λ t. ret (close_by t g))) (stream text c) ≡ ran (cond (eqb (taken_at text c).sort sort_close) g (refused (refusal_by text not_closed (taken_at text c)))) (stream text (cursor_at (taken_at text c).at))
close_asks text c g = let t : Takes text c (taken_at text c) = takes refl in asks _ t ∙ run_ret _ _ ∙ rw (← t.first.sort, t.first.refuses not_closed)

module _ (text : List ℕ) (s : State) (ns : List ℕ) (i parts : ℕ) where
  pub closed_met : {N M : ℕ} (S : ℕ → List Span) → i < node_room ns → s.nodes ≤ N → s.numbers ≤ M → Met text N M (rows_in (closed_nodes text s ns i parts)) S (closing (ok (fill i parts (used_by (rows_in ns) S s.nodes s.numbers)))) (stream text s.cursor) (closed_at text s)
  unfolding closing closed_at closed_nodes
  closed_met {N} {M} S h n m = go (eqb (taken_at text s.cursor).sort sort_close) refl
    where
      go : (b : Bool) → eqb (taken_at text s.cursor).sort sort_close ≡ b → Met text N M (rows_in (closed_nodes text s ns i parts)) S (closing (ok (fill i parts (used_by (rows_in ns) S s.nodes s.numbers)))) (stream text s.cursor) (closed_at text s)
      go true y = rw y (record { is = close_asks text s.cursor _ ∙ rw (y, rows_ended ns i parts (spot (taken_at text s.cursor).at s.nodes s.numbers) h); within = (n, m) })
      go false y = rw y (record { is = close_asks text s.cursor _ ∙ rw y; within = tt })

module _ (text : List ℕ) {N M : ℕ} (R : ℕ → List Row) (S : ℕ → List Span) where
  pub lost_met : (a : Answer) → is_read a ≡ false → Met text N M R S (closing (got_of R S a)) (stream text (end_of a)) (after_refusal text a)
  unfolding closing after_refusal
  lost_met (Ok s) n = absurd (false≢true (sym n))
  lost_met (Err (Stopped r c)) n = record { is = run_ret _ _; within = tt }
  lost_met (Err (Refused r c)) n = go (eqb (taken_at text c).sort sort_close) refl
    where
      go : (b : Bool) → eqb (taken_at text c).sort sort_close ≡ b → Met text N M R S (closing (refused r)) (stream text c) (after_refusal text (Err (Refused r c)))
      go true y = rw y (record { is = close_asks text c (refused r) ∙ rw y; within = tt })
      go false y = rw y (record { is = close_asks text c (refused r) ∙ rw y; within = tt })

-- a comma's sort
token_comma : (text : List ℕ) (t : Token) → is_comma_token t ≡ true → tk_sort (tk_in text t) ≡ sort_comma
token_comma text Comma y = refl
token_comma text (Number s l) y = absurd (false≢true y)
token_comma text ParenClose y = absurd (false≢true y)
token_comma text ParenOpen y = absurd (false≢true y)
token_comma text (Word s l) y = absurd (false≢true y)

found_comma : (text : List ℕ) (f : Found) → is_comma f ≡ true → sort_of (tok_in text f) ≡ sort_comma
found_comma text (Found.NoToken p) y = absurd (false≢true y)
found_comma text (Found.BadNumber p) y = absurd (false≢true y)
found_comma text (Found.Is p t) y = token_comma text t y

token_other : (text : List ℕ) (t : Token) → is_comma_token t ≡ false → tk_sort (tk_in text t) ≡ sort_comma → ⊥
token_other text Comma n z = false≢true (sym n)
token_other text (Number s l) n z = omega (arith, z)
token_other text ParenClose n z = omega (arith, z)
token_other text ParenOpen n z = omega (arith, z)
token_other text (Word s l) n z = omega (arith, z)

found_other : (text : List ℕ) (f : Found) → is_comma f ≡ false → sort_of (tok_in text f) ≡ sort_comma → ⊥
found_other text (Found.NoToken p) n z = omega (arith, z)
found_other text (Found.BadNumber p) n z = omega (arith, z)
found_other text (Found.Is p t) n z = token_other text t n z

-- what follows a part that was read up to a place
module _ (text : List ℕ) (c : Cursor) (p : Passed) (e : p ≡ pass_comma text c) where
  pub comma_follows : p.comma ≡ true → (sort_of (hd (stream text c)) ≡ sort_comma) × (tl (stream text c) ≡ stream text (cursor_at p.next.at))
  comma_follows y =
      let t = comma_taken text c p e y in
      (rw (take_head text c) (found_comma text (take_at text c).found t.0), take_tail text c ∙ rw t.1 (ap (stream text) (take_free text c)))

  pub other_follows : p.comma ≡ false → (sort_of (hd (stream text c)) ≡ sort_comma → ⊥) × (stream text c ≡ stream text p.next)
  other_follows n =
      let t = other_held text c p e n in
      (rw (take_head text c) (found_other text (take_at text c).found t.0), look_same text c ∙ ap (stream text) (sym t.1))

-- a row
module _ (ns : List ℕ) (p : ℕ) (s : Spot) where
  pub row_put : s.nodes < node_room ns → Ok (spot s.at (s.nodes + 1) s.numbers) ≡ row_for ns p s
  unfolding row_for
  row_put h = rw (lt-ltb s.nodes (node_room ns) h)

  pub row_full : node_room ns ≤ s.nodes → Err (Stopped (refusal no_node_row p) (cursor_at s.at)) ≡ row_for ns p s
  unfolding row_for
  row_full h = rw (le-ltb s.nodes (node_room ns) h)

module _ (ns : List ℕ) (p : ℕ) (s : Spot) {r : Answer} (e : r ≡ row_for ns p s) where
  pub row_read : is_read r ≡ true → (s.nodes < node_room ns) × (r ≡ Ok (spot s.at (s.nodes + 1) s.numbers))
  unfolding row_for
  row_read =
      let Q : Answer → Type 0 = λ a. is_read a ≡ true → (s.nodes < node_room ns) × (a ≡ Ok (spot s.at (s.nodes + 1) s.numbers)) in
      rw e (either (ltb s.nodes (node_room ns)) Q _ _ (λ y z. (ltb-true s.nodes (node_room ns) y, refl)) (λ n z. absurd (false≢true z)))

  pub row_none : is_read r ≡ false → (node_room ns ≤ s.nodes) × (r ≡ Err (Stopped (refusal no_node_row p) (cursor_at s.at)))
  unfolding row_for
  row_none =
      let Q : Answer → Type 0 = λ a. is_read a ≡ false → (node_room ns ≤ s.nodes) × (a ≡ Err (Stopped (refusal no_node_row p) (cursor_at s.at))) in
      rw e (either (ltb s.nodes (node_room ns)) Q _ _ (λ y z. absurd (false≢true (sym z))) (λ n z. (ltb-false s.nodes (node_room ns) n, refl)))
