-- A reader as a thing that demands tokens: it takes the next token or looks at it, and in the end answers.
use Rattle.token_stream.specs.Stream.{Tok, Str, hd, tl}

pub data P (A : Type 0) : Type 0 where
  ret : A → P A
  -- the next token, which is passed over; the next token, which stays
  ask look : (Tok → P A) → P A

-- one reader, and then another that may go by the first one's answer
unfoldable pub bind : {A B : Type 0} → P A → (A → P B) → P B
bind (ret a) f = f a
bind (ask k) f = ask (λ t. bind (k t) f)
bind (look k) f = look (λ t. bind (k t) f)

-- an answer, and the tokens that are left
pub data Ran (A : Type 0) : Type 0 where
  ran : A → Str → Ran A

-- a reader fed with a stream of tokens
unfoldable pub run : {A : Type 0} → P A → Str → Ran A
run (ret a) s = ran a s
run (ask k) s = run (k (hd s)) (tl s)
run (look k) s = run (k (hd s)) s

abbrev pub answer_in : {A : Type 0} → Ran A → A
answer_in (ran a s) = a

abbrev pub left_in : {A : Type 0} → Ran A → Str
left_in (ran a s) = s
