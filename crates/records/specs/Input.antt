-- Standard input through a buffer. "A record is a u32 [..] with the count n of the bytes that follow it, then n bytes".
use Rattle.std.specs.Prelude.{ℕ, ◌+◌, ◌-◌, ◌≤◌, min, ◌≡◌, Bool, cond, List, ltb, length, take, drop}
use Rattle.printing.specs.Printing.{Buffer, put_all_in}
use Rattle.console.specs.Console.{u32_at}
use Rattle.records.specs.Lines.{bad_record}
use Rattle.records.specs.declared.input.State.{State}
use Rattle.records.specs.declared.input.Front.{Front}
use Rattle.records.specs.declared.input.Front.TheVariants.{Whole, TooLarge, Cut}

abbrev pub state : ℕ → ℕ → ℕ → Bool → State
state from have skip more = record { from = from; have = have; skip = skip; more = more }

-- the unread bytes of a buffer: before which place, and from which place on
abbrev pub unread_to : State → List ℕ → ℕ
unread_to s l = min s.have (length l)

abbrev pub unread_from : State → List ℕ → ℕ
unread_from s l = min s.from (unread_to s l)

-- how many they are
abbrev pub unread : State → List ℕ → ℕ
unread s l = unread_to s l - unread_from s l

-- what stands at the front of those from `from` on, before `to`. A record that the buffer can't hold is too large: told is how many of its bytes are still to come
unfoldable pub front_in : List ℕ → ℕ → ℕ → Front
front_in l from to =
    cond (ltb (to - from) 4) Cut
    (cond (ltb (length l - 4) (u32_at l from)) (TooLarge (u32_at l from - (to - (from + 4))))
    (cond (ltb (to - (from + 4)) (u32_at l from)) Cut
    (Whole (from + 4) (from + 4 + u32_at l from))))

abbrev pub front_of : List ℕ → State → Front
front_of l s = front_in l (unread_from s l) (unread_to s l)

-- a whole record lies in the buffer
abbrev pub InBuffer : Front → ℕ → Type 0
InBuffer (Whole start end) n = (start ≤ end) × (end ≤ n)
InBuffer (TooLarge _) n = Unit {0}
InBuffer Cut n = Unit {0}

-- what is read behind the unread bytes, which stand at the front of the buffer then. Which bytes come is outside of the language
pub record Refilled (s : State) (l : List ℕ) (s' : State) (l' : List ℕ) : Type 0 where
  pub kept : take (unread s l) l' ≡ take (unread s l) (drop (unread_from s l) l)
  pub more : s'.more ≡ ltb (unread s l) s'.have
  pub behind : unread s l ≤ s'.have
  pub from : s'.from ≤ s'.have
  pub have : s'.have ≤ length l
  pub passed : s'.from + s'.skip ≡ s.skip

-- what is left unread when the input has ended is a record that was cut
abbrev pub cut_in : State → Buffer → Buffer
cut_in s b = cond (ltb s.from s.have) (put_all_in bad_record b) b
