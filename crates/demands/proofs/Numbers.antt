-- A call of `read` that answers 28 or 29 tells what is wrong with a bad number of the text, over the grammar.
-- Assumes nothing.
use mathlib.Core.Path.{◌≡◌, refl, subst, ◌∙◌}
use mathlib.Core.Bool.{true, false≢true}
use mathlib.Core.List.{List}
use Prim.Native.Nat.{ℕ}
use Rattle.token.specs.declared.Refusal.{Refusal}
use Rattle.token.specs.Tokens.{is_bad_number}
use Rattle.token_stream.specs.Stream.{Tok, tok, bad_tk, Str, toks}
use Rattle.demands.specs.Steps.{Stopping, no_node_row_law, no_bare_row, no_number_row_law, too_many}
use Rattle.demands.specs.Faults.{AtFault, no_node, no_number, too_deep_law, bad_number_law, not_ascii, no_root_law, no_name_law, no_header_law, no_ending, not_opened_law, not_closed_law, no_x_law, no_y_law, no_z_law, no_m_law, no_child_law, Among, PlaceOf, over_limit_law, ill_formed, stopped, at_fault}
use Rattle.demands.specs.Numbers.{WhatIsWrong, SaysWhatIsWrong}
use Rattle.demands.proofs.Faults.{tokens_start}
use Rattle.demands.proofs.Demand1.{read_places_law}

-- 3, 4 and 5 are no bad number's
stops : {N M : ℕ} {s : Str} {t : Tok} {e : ℕ} → Stopping N M s t e → is_bad_number e ≡ true → ⊥
stops (no_node_row_law c w l) z = false≢true z
stops (no_bare_row c w l) z = false≢true z
stops (no_number_row_law c a w l) z = false≢true z
stops (too_many c w l) z = false≢true z

module _ (text : List ℕ) where
  tells : {t : Tok} {p : ℕ} {r : Refusal} → Among (toks text 0) t → t ≡ tok p (bad_tk r) → WhatIsWrong text r.number r.place
  tells {t} {p} {r} a e =
      let b : Among (toks text 0) (tok p (bad_tk r)) = record { index = a.index; is = a.is ∙ e } in
      record { token = tok p (bad_tk r); among = b; bad = refl; wrong = (tokens_start text (tok p (bad_tk r)) b).3 }

  fault : {t : Tok} {e p : ℕ} → Among (toks text 0) t → AtFault t e p → is_bad_number e ≡ true → WhatIsWrong text e p
  fault a no_node z = absurd (false≢true z)
  fault a (no_number w) z = absurd (false≢true z)
  fault a (too_deep_law w) z = absurd (false≢true z)
  fault a (bad_number_law e w) z = tells a e
  fault a (not_ascii w i) z = absurd (false≢true z)
  fault a (no_root_law o) z = absurd (false≢true z)
  fault a (no_name_law w i) z = absurd (false≢true z)
  fault a (no_header_law w) z = absurd (false≢true z)
  fault a (no_ending w i j) z = absurd (false≢true z)
  fault a (not_opened_law o i) z = absurd (false≢true z)
  fault a (not_closed_law o) z = absurd (false≢true z)
  fault a (no_x_law o) z = absurd (false≢true z)
  fault a (no_y_law o) z = absurd (false≢true z)
  fault a (no_z_law o) z = absurd (false≢true z)
  fault a (no_m_law o) z = absurd (false≢true z)
  fault a (no_child_law o) z = absurd (false≢true z)

  placed : {N M e p : ℕ} → PlaceOf N M text e p → is_bad_number e ≡ true → WhatIsWrong text e p
  placed (over_limit_law l) z = absurd (false≢true z)
  placed (ill_formed l u) z = absurd (false≢true z)
  placed (stopped p a f r) z = absurd (stops r z)
  placed (at_fault p a f r) z = fault a f z

pub says_what_is_wrong : SaysWhatIsWrong
says_what_is_wrong text ns ms a ns' ms' r z = placed text (read_places_law text ns ms a ns' ms' r λ e. false≢true (subst (λ (k : ℕ). is_bad_number k ≡ true) e z)) z
