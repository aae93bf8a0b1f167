-- Where the scans of the code end: at the place where a decimal, a word, a number goes wrong.
-- Assumes nothing.
use mathlib.Core.Path.{◌≡◌, refl, sym, ap, ◌∙◌}
use mathlib.Core.Bool.{Bool, true, false, cond, ◌||◌, false≢true, and-eq-true_iff}
use mathlib.Core.List.{List, [], ◌∷◌, ◌++◌}
use Prim.Native.Nat.{ℕ, zero, suc, ◌+◌, ◌-◌, ◌≤◌, ◌<◌}
use native.Mathlib.Decide.{dec_lt}
use native.Mathlib.Numerals.{add-one}
use native.Mathlib.Omega.{arith}
use lib.Dec.{eqb, ltb}
use lib.ListN.{length, get_or, take, drop, length-drop, get_or-eq_default}
use borrow.Author.Tests.{ltb-false, ne_eqb, lt-leb}
use Rattle.lists.proofs.Cases.{either}
use Rattle.scan.specs.Bytes.{is_digit, is_sign, is_point}
use Rattle.scan.specs.Front.{rest, part, begins, after_one, after_all, is_nil}
use Rattle.scan.specs.Runs.{run, first_not, after_one_at}
use Rattle.scan.proofs.Bytes.{or_elim}
use Rattle.scan.proofs.Front.{rest_in, rest_past, begins_at, begins_past}
use Rattle.scan.proofs.Runs.{not_before, not_past, first_fails, rest_run, moves, one_not_past}
use Rattle.words.specs.Words.{upper, same_byte, starts_word}
use Rattle.number.specs.Lexeme.{is_e, inf, infinity, nan, is_decimal, is_exponent}
use Rattle.number.proofs.Text.{low}
use Rattle.bad_numbers.specs.Openings.{opens_decimal, opens_word, opens, longest_up_to, longest, goes_wrong}
use Rattle.bad_numbers.proofs.Decimals.{State, none_yet, digits, lone_point, fraction, after_e_law, after_e_sign, exponent, stuck, next, after, is_live, after_stuck, opens_live, decimal_front}
use Rattle.bad_numbers.proofs.Openings.{up_to_within, up_to_passes, longest_is, longest_more, opens_front}

-- ---- how many bytes go on from a state
unfoldable goes : State → List ℕ → ℕ
goes q [] = 0
goes q (b ∷ l) = cond (is_live (next q b)) (suc (goes (next q b) l)) 0

goes_within : (q : State) (l : List ℕ) → goes q l ≤ length l
unfolding goes
goes_within q [] = omega arith
goes_within q (b ∷ l) = either (is_live (next q b)) (λ k. k ≤ suc (length l)) _ _ (λ e. omega (arith, goes_within (next q b) l)) λ e. omega arith

goes_live : (q : State) (l : List ℕ) → is_live q ≡ true → is_live (after q (take (goes q l) l)) ≡ true
unfolding goes after
goes_live q [] h = h
goes_live q (b ∷ l) h = either (is_live (next q b)) (λ k. is_live (after q (take k (b ∷ l))) ≡ true) _ _ (λ e. goes_live (next q b) l e) λ e. h

goes_no_more : (q : State) (l : List ℕ) → goes q l < length l → is_live (after q (take (suc (goes q l)) l)) ≡ false
unfolding goes after
goes_no_more q [] h = absurd (omega arith)
goes_no_more q (b ∷ l) h = go (is_live (next q b)) refl h (goes_no_more (next q b) l)
  where
    go : (t : Bool) → is_live (next q b) ≡ t → cond t (suc (goes (next q b) l)) 0 < suc (length l) → (goes (next q b) l < length l → is_live (after (next q b) (take (suc (goes (next q b) l)) l)) ≡ false) → is_live (after (next q b) (take (cond t (suc (goes (next q b) l)) 0) l)) ≡ false
    go true e k r = r (omega arith)
    go false e k r = e

-- as many as the longest beginning of a decimal has
decimal_goes : (l : List ℕ) → longest opens_decimal l ≡ goes none_yet l
decimal_goes l =
    longest_is opens_decimal l decimal_front (goes none_yet l) (goes_within none_yet l)
    (opens_live (take (goes none_yet l) l) ∙ goes_live none_yet l refl)
    (λ h. rw add-one (opens_live (take (suc (goes none_yet l)) l) ∙ goes_no_more none_yet l h))

-- a byte past the end is 0, from which nothing goes on
zero_stuck : (q : State) → is_live (next q 0) ≡ false
zero_stuck none_yet = refl
zero_stuck digits = refl
zero_stuck lone_point = refl
zero_stuck fraction = refl
zero_stuck after_e_law = refl
zero_stuck after_e_sign = refl
zero_stuck exponent = refl
zero_stuck stuck = refl

-- digits lead from a state to itself
abbrev Loops : State → Type 0
Loops q = (b : ℕ) → is_digit b ≡ true → (next q b ≡ q) × (is_live q ≡ true)

digits_loop : Loops digits
digits_loop b e = (rw e, refl)

fraction_loop : Loops fraction
fraction_loop b e = (rw e, refl)

exponent_loop : Loops exponent
exponent_loop b e = (rw e, refl)

goes_run : (q : State) → Loops q → (l : List ℕ) → goes q l ≡ run is_digit l + goes q (after_all is_digit l)
unfolding goes run after_all
goes_run q loops [] = refl
goes_run q loops (b ∷ l) = go (is_digit b) refl (goes_run q loops l)
  where
    go : (d : Bool) → is_digit b ≡ d → goes q l ≡ run is_digit l + goes q (after_all is_digit l) → cond (is_live (next q b)) (suc (goes (next q b) l)) 0 ≡ cond d (suc (run is_digit l)) 0 + goes q (cond d (after_all is_digit l) (b ∷ l))
    go true e h = rw ((loops b e).0, (loops b e).1) (omega arith)
    go false e h = omega arith

module _ (w : List ℕ) where
  abbrev byte : ℕ → ℕ
  byte i = get_or w i 0

  -- where what stands at i goes wrong, read on from a state
  end_from : State → ℕ → ℕ
  end_from q i = i + goes q (rest w i)

  on : (q : State) (i : ℕ) → is_live (next q (byte i)) ≡ true → end_from q i ≡ end_from (next q (byte i)) (i + 1)
  unfolding end_from goes
  on q i e = go (dec_lt i (length w))
    where
      go : Dec (i < length w) → i + goes q (rest w i) ≡ (i + 1) + goes (next q (byte i)) (rest w (i + 1))
      go (yes h) = rw (rest_in w i h, e) (omega arith)
      go (no h) = absurd (false≢true (sym (zero_stuck q) ∙ ap (λ (b : ℕ). is_live (next q b)) (sym (get_or-eq_default w 0 (omega arith))) ∙ e))

  off : (q : State) (i : ℕ) → is_live (next q (byte i)) ≡ false → end_from q i ≡ i
  unfolding end_from goes
  off q i e = go (dec_lt i (length w))
    where
      go : Dec (i < length w) → i + goes q (rest w i) ≡ i
      go (yes h) = rw (rest_in w i h, e) (omega arith)
      go (no h) = rw (rest_past w i (omega arith)) (omega arith)

  digits_width : (i : ℕ) → i ≤ length w → first_not is_digit w i ≡ i + run is_digit (rest w i)
  unfolding first_not rest
  digits_width i h = omega arith

  over_digits : (q : State) → Loops q → (i : ℕ) → i ≤ length w → end_from q i ≡ end_from q (first_not is_digit w i)
  unfolding end_from
  over_digits q loops i h = rw (rest_run is_digit w i) (omega (arith, goes_run q loops (rest w i), digits_width i h))

  -- where digits stand, and where they end
  digit_moves : (i : ℕ) → ltb i (first_not is_digit w i) ≡ is_digit (byte i)
  digit_moves i = moves is_digit w i ∙ go (dec_lt i (length w))
    where
      go : Dec (i < length w) → begins is_digit (rest w i) ≡ is_digit (byte i)
      go (yes h) = sym (begins_at is_digit w i h)
      go (no h) = sym (begins_past is_digit w i (omega arith)) ∙ ap is_digit (sym (get_or-eq_default w 0 (omega arith)))

  digits_end : (i : ℕ) → is_digit (byte (first_not is_digit w i)) ≡ false
  digits_end i = go (dec_lt (first_not is_digit w i) (length w))
    where
      go : Dec (first_not is_digit w i < length w) → is_digit (byte (first_not is_digit w i)) ≡ false
      go (yes h) = first_fails is_digit w i h
      go (no h) = ap is_digit (get_or-eq_default w 0 (omega arith))

  no_digits : (i : ℕ) → i ≤ length w → is_digit (byte i) ≡ false → first_not is_digit w i ≡ i
  no_digits i h e = omega (arith, not_before is_digit w i h, ltb-false i (first_not is_digit w i) (digit_moves i ∙ e))

  -- a digit leads from two states to one
  by_digit : (q r : State) (i : ℕ) → next q (byte i) ≡ next r (byte i) → is_live (next r (byte i)) ≡ true → end_from q i ≡ end_from r i
  by_digit q r i e l = on q i (ap is_live e ∙ l) ∙ ap (λ (s : State). end_from s (i + 1)) e ∙ sym (on r i l)

  -- ---- a decimal's parts, as the code passes over them
  module _ (at whole point fract : ℕ) (h : at ≤ length w) (a : whole ≡ first_not is_digit w at) (p : point ≡ after_one_at is_point w whole) (f : fract ≡ first_not is_digit w point) where
    whole_in : whole ≤ length w
    whole_in = omega (arith, a, not_past is_digit w at)

    point_in_law : point ≤ length w
    point_in_law = omega (arith, p, one_not_past is_point w whole refl whole_in)

    whole_digit : is_digit (byte whole) ≡ false
    whole_digit = rw a (digits_end at)

    point_yes : is_point (byte whole) ≡ true → point ≡ whole + 1
    unfolding after_one_at
    point_yes e = p ∙ rw e

    point_no : is_point (byte whole) ≡ false → point ≡ whole
    unfolding after_one_at
    point_no e = p ∙ rw e

    to_fraction : end_from fraction point ≡ end_from fraction fract
    to_fraction = over_digits fraction fraction_loop point point_in_law ∙ ap (end_from fraction) (sym f)

    -- behind digits stands a point, or what may stand behind one
    behind_digits : (t : Bool) → is_point (byte whole) ≡ t → end_from digits whole ≡ end_from fraction point
    behind_digits true e =
        let n : next digits (byte whole) ≡ fraction = rw (whole_digit, e) in
        on digits whole (rw n) ∙ ap (λ (s : State). end_from s (whole + 1)) n ∙ ap (end_from fraction) (sym (point_yes e))
    behind_digits false e = go (is_live (next fraction (byte whole))) refl ∙ ap (end_from fraction) (sym (point_no e))
      where
        n : next digits (byte whole) ≡ next fraction (byte whole)
        n = rw (whole_digit, e)

        go : (t : Bool) → is_live (next fraction (byte whole)) ≡ t → end_from digits whole ≡ end_from fraction whole
        go true l = by_digit digits fraction whole n l
        go false l = off digits whole (ap is_live n ∙ l) ∙ sym (off fraction whole l)

    -- with a digit before the point
    digit_first : is_digit (byte at) ≡ true → end_from none_yet at ≡ end_from fraction fract
    digit_first e =
        by_digit none_yet digits at (rw e) (rw e) ∙ over_digits digits digits_loop at h ∙ ap (end_from digits) (sym a) ∙ behind_digits (is_point (byte whole)) refl ∙ to_fraction

    -- with none before it
    module _ (n : is_digit (byte at) ≡ false) where
      no_whole : whole ≡ at
      no_whole = a ∙ no_digits at h n

      point_first : is_point (byte whole) ≡ true → end_from none_yet at ≡ end_from lone_point point
      point_first e =
          let q : next none_yet (byte at) ≡ lone_point = rw (← no_whole, whole_digit, e) in
          on none_yet at (rw q) ∙ ap (λ (s : State). end_from s (at + 1)) q ∙ ap (end_from lone_point) (ap (λ (k : ℕ). k + 1) (sym no_whole) ∙ sym (point_yes e))

      digit_behind : is_digit (byte point) ≡ true → (t : Bool) → is_point (byte whole) ≡ t → end_from none_yet at ≡ end_from fraction fract
      digit_behind d true e = point_first e ∙ by_digit lone_point fraction point (rw d) (rw d) ∙ to_fraction
      digit_behind d false e = absurd (false≢true (sym whole_digit ∙ ap (λ (k : ℕ). is_digit (byte k)) (sym (point_no e)) ∙ d))

      digit_nowhere : is_digit (byte point) ≡ false → (t : Bool) → is_point (byte whole) ≡ t → end_from none_yet at ≡ fract
      digit_nowhere d true e = point_first e ∙ off lone_point point (rw d) ∙ sym (f ∙ no_digits point point_in_law d)
      digit_nowhere d false e =
          let z : point ≡ at = point_no e ∙ no_whole in
          off none_yet at (rw (n, ← no_whole, e)) ∙ sym (f ∙ no_digits point point_in_law d ∙ z)

    -- what the code tests: whether there is a digit
    has_is : (ltb at whole || ltb point fract) ≡ (is_digit (byte at) || is_digit (byte point))
    has_is = rw (a, digit_moves at, f, digit_moves point)

    pub decimal_none : (ltb at whole || ltb point fract) ≡ false → fract ≡ at + longest opens_decimal (rest w at)
    unfolding end_from
    decimal_none e = rw (decimal_goes (rest w at)) (sym (go (is_digit (byte at)) (is_digit (byte point)) refl refl (sym has_is ∙ e)))
      where
        go : (c d : Bool) → is_digit (byte at) ≡ c → is_digit (byte point) ≡ d → (c || d) ≡ false → end_from none_yet at ≡ fract
        go true d x y z = absurd (false≢true (sym z))
        go false true x y z = absurd (false≢true (sym z))
        go false false x y z = digit_nowhere x y (is_point (byte whole)) refl

    module _ (e : (ltb at whole || ltb point fract) ≡ true) where
      some : at + longest opens_decimal (rest w at) ≡ end_from fraction fract
      unfolding end_from
      some = rw (decimal_goes (rest w at)) (go (is_digit (byte at)) (is_digit (byte point)) refl refl (sym has_is ∙ e))
        where
          go : (c d : Bool) → is_digit (byte at) ≡ c → is_digit (byte point) ≡ d → (c || d) ≡ true → end_from none_yet at ≡ end_from fraction fract
          go true d x y z = digit_first x
          go false true x y z = digit_behind x y (is_point (byte whole)) refl
          go false false x y z = absurd (false≢true z)

      fract_digit : is_digit (byte fract) ≡ false
      fract_digit = rw f (digits_end point)

      pub decimal_past : length w ≤ fract → fract ≡ at + longest opens_decimal (rest w at)
      decimal_past l = sym (some ∙ off fraction fract (rw (get_or-eq_default w 0 l)))

      pub decimal_other : is_e (byte fract) ≡ false → fract ≡ at + longest opens_decimal (rest w at)
      decimal_other n = sym (some ∙ off fraction fract (rw (fract_digit, n)))

      -- behind `e` a sign, if there is one, and digits, if there are some
      module _ (y : is_e (byte fract) ≡ true) (l : fract < length w) (sign : ℕ) (s : sign ≡ after_one_at is_sign w (fract + 1)) where
        sign_in : sign ≤ length w
        sign_in = omega (arith, s, one_not_past is_sign w (fract + 1) refl (omega arith))

        to_e : end_from fraction fract ≡ end_from after_e_law (fract + 1)
        to_e =
            let n : next fraction (byte fract) ≡ after_e_law = rw (fract_digit, y) in
            on fraction fract (rw n) ∙ ap (λ (q : State). end_from q (fract + 1)) n

        to_sign : (t : Bool) → is_sign (byte (fract + 1)) ≡ t → end_from after_e_law (fract + 1) ≡ end_from after_e_sign sign
        unfolding after_one_at
        to_sign true z =
            let n : next after_e_law (byte (fract + 1)) ≡ after_e_sign = rw z in
            on after_e_law (fract + 1) (rw n) ∙ ap (λ (q : State). end_from q ((fract + 1) + 1)) n ∙ ap (end_from after_e_sign) (sym (s ∙ rw z))
        to_sign false z = go (is_digit (byte (fract + 1))) refl ∙ ap (end_from after_e_sign) (sym (s ∙ rw z))
          where
            go : (d : Bool) → is_digit (byte (fract + 1)) ≡ d → end_from after_e_law (fract + 1) ≡ end_from after_e_sign (fract + 1)
            go true d = by_digit after_e_law after_e_sign (fract + 1) (rw (z, d)) (rw d)
            go false d = off after_e_law (fract + 1) (rw (z, d)) ∙ sym (off after_e_sign (fract + 1) (rw d))

        to_end : (d : Bool) → is_digit (byte sign) ≡ d → end_from after_e_sign sign ≡ first_not is_digit w sign
        to_end true d =
            by_digit after_e_sign exponent sign (rw d) (rw d) ∙ over_digits exponent exponent_loop sign sign_in ∙ off exponent (first_not is_digit w sign) (rw (digits_end sign))
        to_end false d = off after_e_sign sign (rw d) ∙ sym (no_digits sign sign_in d)

        pub decimal_e : (end : ℕ) → end ≡ first_not is_digit w sign → end ≡ at + longest opens_decimal (rest w at)
        decimal_e end z = z ∙ sym (some ∙ to_e ∙ to_sign (is_sign (byte (fract + 1))) refl ∙ to_end (is_digit (byte sign)) refl)

-- ---- words
starts_front : (m x y : List ℕ) → starts_word m (x ++ y) ≡ true → starts_word m x ≡ true
unfolding starts_word
starts_front [] [] y e = refl
starts_front (a ∷ m) [] y e = refl
starts_front [] (b ∷ x) y e = absurd (false≢true e)
starts_front (a ∷ m) (b ∷ x) y e =
    let h = (and-eq-true_iff (same_byte a b) (starts_word m (x ++ y))).0 e in
    rw h.0 (starts_front m x y h.1)

-- what a word begins with has only such beginnings
word_front : (x y : List ℕ) → opens_word (x ++ y) ≡ true → opens_word x ≡ true
unfolding opens_word
word_front x y e =
    or_elim (starts_word inf (x ++ y) || starts_word infinity (x ++ y)) (starts_word nan (x ++ y))
    (λ m. or_elim (starts_word inf (x ++ y)) (starts_word infinity (x ++ y)) (λ s. rw (starts_front inf x y s)) (λ s. middle (starts_front infinity x y s)) m)
    (λ s. last (starts_front nan x y s)) e
  where
    middle : starts_word infinity x ≡ true → (starts_word inf x || starts_word infinity x || starts_word nan x) ≡ true
    middle s = rw s (go (starts_word inf x))
      where
        go : (t : Bool) → (t || true || starts_word nan x) ≡ true
        go true = refl
        go false = refl

    last : starts_word nan x ≡ true → (starts_word inf x || starts_word infinity x || starts_word nan x) ≡ true
    last s = rw s (go (starts_word inf x) (starts_word infinity x))
      where
        go : (t u : Bool) → (t || u || true) ≡ true
        go true u = refl
        go false true = refl
        go false false = refl

nothing_word : opens_word [] ≡ true
unfolding opens_word starts_word
nothing_word = refl

-- where the loop over a word stands: up to `end` it is the beginning of one
pub record InWord (w : List ℕ) (at end : ℕ) : Type 0 where
  pub from : at ≤ end
  pub within : end ≤ length w
  pub begun : opens_word (part w at end) ≡ true

pub word_begins : (w : List ℕ) (at : ℕ) → at ≤ length w → InWord w at at
word_begins w at h = record { from = omega arith; within = h; begun = rw (nothing_part (at - at) (omega arith)) nothing_word }
  where
    nothing_part : (n : ℕ) → n ≡ 0 → take n (drop at w) ≡ []
    nothing_part n e = rw e

module _ (w : List ℕ) (at end : ℕ) (i : InWord w at end) where
  word_is : (end < length w → opens_word (part w at (end + 1)) ≡ false) → end ≡ at + longest opens_word (rest w at)
  unfolding rest
  word_is s =
      let n : (end + 1) - at ≡ (end - at) + 1 = omega (arith, i.from) in
      let l = longest_is opens_word (drop at w) word_front (end - at) (omega (arith, length-drop at w, i.within)) i.begun (λ h. ap (λ (k : ℕ). opens_word (take k (drop at w))) (sym n) ∙ s (omega (arith, length-drop at w))) in
      omega (arith, l, i.from)

  pub word_stops : opens_word (part w at (end + 1)) ≡ false → end ≡ at + longest opens_word (rest w at)
  word_stops e = word_is λ h. e

  pub word_past : length w ≤ end → length w ≡ at + longest opens_word (rest w at)
  word_past h =
      let all : end ≡ at + longest opens_word (rest w at) = word_is λ l. absurd (omega arith) in
      omega (arith, all, i.within)

-- ---- a number: a sign, if there is one, and then a decimal or a word
unfoldable opens_unsigned : List ℕ → Bool
opens_unsigned u = opens_decimal u || opens_word u

unsigned_nothing : opens_unsigned [] ≡ true
unfolding opens_unsigned opens_decimal is_decimal is_exponent begins after_one after_all is_nil
unsigned_nothing = refl

unsigned_front : (x y : List ℕ) → opens_unsigned (x ++ y) ≡ true → opens_unsigned x ≡ true
unfolding opens_unsigned
unsigned_front x y e = or_elim (opens_decimal (x ++ y)) (opens_word (x ++ y)) (λ d. rw (decimal_front x y d)) (λ n. right (opens_decimal x) (word_front x y n)) e
  where
    right : (t : Bool) → opens_word x ≡ true → (t || opens_word x) ≡ true
    right true h = refl
    right false h = h

more : (test : List ℕ → Bool) (l : List ℕ) → longest test l < length l → test (take (suc (longest test l)) l) ≡ false
more test l h = rw add-one at (longest_more test l h)

sign_yes : (b : ℕ) (l : List ℕ) → is_sign b ≡ true → longest opens (b ∷ l) ≡ suc (longest opens_unsigned l)
unfolding opens opens_unsigned after_one
sign_yes b l e =
    longest_is opens (b ∷ l) opens_front (suc (longest opens_unsigned l)) (omega (arith, up_to_within opens_unsigned l (length l)))
    (same (longest opens_unsigned l) ∙ up_to_passes opens_unsigned l unsigned_nothing (length l))
    (λ h. rw add-one (same (suc (longest opens_unsigned l)) ∙ more opens_unsigned l (omega arith)))
  where
    same : (n : ℕ) → opens (take (suc n) (b ∷ l)) ≡ opens_unsigned (take n l)
    same n = rw e

sign_no : (b : ℕ) (l : List ℕ) → is_sign b ≡ false → longest opens (b ∷ l) ≡ longest opens_unsigned (b ∷ l)
unfolding opens opens_unsigned after_one
sign_no b l e =
    longest_is opens (b ∷ l) opens_front (longest opens_unsigned (b ∷ l)) (up_to_within opens_unsigned (b ∷ l) (length (b ∷ l)))
    (same (longest opens_unsigned (b ∷ l)) ∙ up_to_passes opens_unsigned (b ∷ l) unsigned_nothing (length (b ∷ l)))
    (λ h. same (longest opens_unsigned (b ∷ l) + 1) ∙ longest_more opens_unsigned (b ∷ l) h)
  where
    same : (n : ℕ) → opens (take n (b ∷ l)) ≡ opens_unsigned (take n (b ∷ l))
    same zero = refl
    same (suc n) = rw e

number_is : (w : List ℕ) (at : ℕ) → at ≡ after_one_at is_sign w 0 → goes_wrong w ≡ at + longest opens_unsigned (rest w at)
unfolding after_one_at rest longest_up_to
number_is [] at e = rw e
number_is (b ∷ l) at e = go (is_sign b) refl
  where
    go : (t : Bool) → is_sign b ≡ t → goes_wrong (b ∷ l) ≡ at + longest opens_unsigned (drop at (b ∷ l))
    go true s = let z : at ≡ 1 = e ∙ rw s in rw z (sign_yes b l s ∙ omega arith)
    go false s = let z : at ≡ 0 = e ∙ rw s in rw z (sign_no b l s ∙ omega arith)

-- a digit or a point begins no word, and any other byte no decimal
no_letter_law : (b k : ℕ) → b ≤ 57 → 57 < k → eqb k (upper b) ≡ false
no_letter_law b k h l = rw (lt-leb 97 b (omega arith)) (ne_eqb k b (λ e. omega arith))

not_word : (b : ℕ) (x : List ℕ) → (is_digit b || is_point b) ≡ true → opens_word (b ∷ x) ≡ false
unfolding opens_word starts_word
not_word b x e = rw (no_letter_law b 73 (low b e) (omega arith), no_letter_law b 78 (low b e) (omega arith))

not_decimal : (b : ℕ) (x : List ℕ) → is_digit b ≡ false → is_point b ≡ false → opens_decimal (b ∷ x) ≡ false
unfolding after
not_decimal b x d p = opens_live (b ∷ x) ∙ rw (d, p) (ap is_live (after_stuck x))

module _ (b : ℕ) (l : List ℕ) where
  by_decimal : (is_digit b || is_point b) ≡ true → longest opens_unsigned (b ∷ l) ≡ longest opens_decimal (b ∷ l)
  unfolding opens_unsigned after
  by_decimal e =
      longest_is opens_unsigned (b ∷ l) unsigned_front (longest opens_decimal (b ∷ l)) (up_to_within opens_decimal (b ∷ l) (length (b ∷ l)))
      (rw (up_to_passes opens_decimal (b ∷ l) (opens_live []) (length (b ∷ l))))
      (λ h. rw (longest_more opens_decimal (b ∷ l) h, add-one) (not_word b (take (longest opens_decimal (b ∷ l)) l) e))

  by_word : is_digit b ≡ false → is_point b ≡ false → longest opens_unsigned (b ∷ l) ≡ longest opens_word (b ∷ l)
  unfolding opens_unsigned
  by_word d p =
      longest_is opens_unsigned (b ∷ l) unsigned_front (longest opens_word (b ∷ l)) (up_to_within opens_word (b ∷ l) (length (b ∷ l)))
      (right (opens_decimal (take (longest opens_word (b ∷ l)) (b ∷ l))) (up_to_passes opens_word (b ∷ l) nothing_word (length (b ∷ l))))
      (λ h. rw (longest_more opens_word (b ∷ l) h, add-one, not_decimal b (take (longest opens_word (b ∷ l)) l) d p))
    where
      right : (t : Bool) → opens_word (take (longest opens_word (b ∷ l)) (b ∷ l)) ≡ true → (t || opens_word (take (longest opens_word (b ∷ l)) (b ∷ l))) ≡ true
      right true h = refl
      right false h = h

-- what the code answers
module _ (w : List ℕ) (at : ℕ) (s : at ≡ after_one_at is_sign w 0) where
  pub wrong_past : length w ≤ at → at ≡ goes_wrong w
  unfolding longest_up_to
  wrong_past h = sym (number_is w at s ∙ rw (rest_past w at h) (omega arith))

  module _ (h : at < length w) where
    pub wrong_decimal : (end : ℕ) (d : Bool) → d ≡ is_digit (get_or w at 0) → (d || is_point (get_or w at 0)) ≡ true → end ≡ at + longest opens_decimal (rest w at) → end ≡ goes_wrong w
    wrong_decimal end d e y f =
        f ∙ sym (number_is w at s ∙ ap (λ (k : ℕ). at + k) (rw (rest_in w at h) (by_decimal (get_or w at 0) (rest w (at + 1)) (rw e at y))))

    pub wrong_word : (end : ℕ) → is_digit (get_or w at 0) ≡ false → is_point (get_or w at 0) ≡ false → end ≡ at + longest opens_word (rest w at) → end ≡ goes_wrong w
    wrong_word end d p f =
        f ∙ sym (number_is w at s ∙ ap (λ (k : ℕ). at + k) (rw (rest_in w at h) (by_word (get_or w at 0) (rest w (at + 1)) d p)))
