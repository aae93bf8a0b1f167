-- Request 2026-02, over calls of `read`: what 28 and 29 say. "nothing left after the dropped plus (place: that plus), and a number that goes wrong. For the second the
-- place is the first byte at which no lexeme can go on, or the token's end where more was needed." (document 02) The theorem that gives it is in proofs/Numbers.
use Rattle.std.specs.Prelude.{◌≡◌, true, List, ℕ}
use Rattle.token.specs.Tokens.{is_bad_number, WrongNumber}
use Rattle.token_stream.specs.Stream.{Tok, toks}
use Rattle.grammar.specs.Grammar.{refusal}
use Rattle.grammar.specs.Tokens.{sort_bad, sort_of, place_of}
use Rattle.store.specs.declared.ReadAnswer.{ReadAnswer}
use Rattle.demands.specs.Calls.{Read}
use Rattle.demands.specs.Faults.{Among}

-- the bad number of the text that a refusal tells of, with its number and place over the grammar
pub record WhatIsWrong (text : List ℕ) (e place : ℕ) : Type 0 where
  pub token : Tok
  pub among : Among (toks text 0) token
  pub bad : sort_of token ≡ sort_bad
  pub wrong : WrongNumber text (place_of token) (refusal e place)

abbrev pub SaysWhatIsWrong : Type 0
SaysWhatIsWrong = (text ns ms : List ℕ) (a : ReadAnswer) (ns' ms' : List ℕ) → Read text ns ms a ns' ms' → is_bad_number a.number ≡ true → WhatIsWrong text a.number a.place
