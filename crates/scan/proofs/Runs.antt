-- Laws of runs, for any test: a turn of a scan that goes on, that stops and that reaches the end; where a scan may end;
-- and a scan in the terms of `Front`.
-- Assumes nothing.
use mathlib.Core.Path.{◌≡◌, refl, sym, ap, ◌∙◌}
use mathlib.Core.Bool.{Bool, true, false, cond, false≢true}
use mathlib.Core.List.{List, [], ◌∷◌, ◌++◌}
use Prim.Native.Nat.{ℕ, suc, ◌+◌, ◌-◌, ◌≤◌, ◌<◌, suc-le-suc, min}
use native.Mathlib.Decide.{dec_lt}
use native.Mathlib.Numerals.{add-one}
use native.Mathlib.Omega.{arith}
use lib.Dec.{ltb}
use lib.ListN.{length, get_or, take, drop, length-drop, drop_of_length-le, take-append-drop, get_or-eq_default}
use lib.Seq.{drop-cons, drop-drop, get_or-drop}
use borrow.Author.Tests.{le-ltb, lt-ltb}
use Rattle.scan.specs.Runs.{run, first_not, after_one_at, Many, none, more}
use Rattle.scan.specs.Front.{rest, part, begins, after_one, after_all}
use Rattle.scan.proofs.Front.{begins_at, begins_past, one_yes, one_no, one_past, part_first, part_none, one_none, one_first, one_other}

module _ (p : ℕ → Bool) (text : List ℕ) where
  run_more : (i : ℕ) → i < length text → p (get_or text i 0) ≡ true → run p (drop i text) ≡ suc (run p (drop (i + 1) text))
  unfolding run
  run_more i h t = rw (add-one, drop-cons text i 0, t)

  run_none : (i : ℕ) → i < length text → p (get_or text i 0) ≡ false → run p (drop i text) ≡ 0
  unfolding run
  run_none i h t = rw (drop-cons text i 0, t)

  run_end : (i : ℕ) → length text ≤ i → run p (drop i text) ≡ 0
  unfolding run
  run_end i h = rw drop_of_length-le

  pub on : (i : ℕ) → i < length text → p (get_or text i 0) ≡ true → first_not p text (i + 1) ≡ first_not p text i
  unfolding first_not
  on i h t = omega (arith, run_more i h t)

  pub stop : (i : ℕ) → i < length text → p (get_or text i 0) ≡ false → first_not p text i ≡ i
  unfolding first_not
  stop i h t = omega (arith, run_none i h t)

  pub past : (i : ℕ) → length text ≤ i → first_not p text i ≡ length text
  unfolding first_not
  past i h = omega (arith, run_end i h)

  pub not_before : (i : ℕ) → i ≤ length text → i ≤ first_not p text i
  unfolding first_not
  not_before i h = omega arith

  run_fits : (l : List ℕ) → run p l ≤ length l
  unfolding run
  run_fits [] = omega arith
  run_fits (b ∷ l) = go (p b) (run_fits l)
    where
      go : (t : Bool) → run p l ≤ length l → cond t (suc (run p l)) 0 ≤ suc (length l)
      go true h = suc-le-suc h
      go false h = omega arith

  pub not_past : (i : ℕ) → first_not p text i ≤ length text
  unfolding first_not
  not_past i = omega (arith, run_fits (drop i text), length-drop i text)

  run_stops : (l : List ℕ) → run p l < length l → p (get_or l (run p l) 0) ≡ false
  unfolding run
  run_stops [] h = absurd (omega arith)
  run_stops (b ∷ l) h = go (p b) refl h (run_stops l)
    where
      go : (t : Bool) → p b ≡ t → cond t (suc (run p l)) 0 < suc (length l) → (run p l < length l → p (get_or l (run p l) 0) ≡ false) → p (get_or (b ∷ l) (cond t (suc (run p l)) 0) 0) ≡ false
      go true e k r = r (omega arith)
      go false e k r = e

  -- the byte at which a scan ends fails the test
  pub first_fails : (i : ℕ) → first_not p text i < length text → p (get_or text (first_not p text i) 0) ≡ false
  unfolding first_not
  first_fails i h = go (dec_lt i (length text))
    where
      go : Dec (i < length text) → p (get_or text (min i (length text) + run p (drop i text)) 0) ≡ false
      go (yes l) =
          let e : min i (length text) ≡ i = omega arith in
          let k : run p (drop i text) < length (drop i text) = omega (arith, length-drop i text, h) in
          rw (e, ← get_or-drop i text (run p (drop i text)) 0) (run_stops (drop i text) k)
      go (no l) = absurd (omega (arith, h, l))

  drop_run : (l : List ℕ) → drop (run p l) l ≡ after_all p l
  unfolding run after_all
  drop_run [] = refl
  drop_run (b ∷ l) = go (p b) (drop_run l)
    where
      go : (t : Bool) → drop (run p l) l ≡ after_all p l → drop (cond t (suc (run p l)) 0) (b ∷ l) ≡ cond t (after_all p l) (b ∷ l)
      go true e = e
      go false e = refl

  -- what is left of the text where a scan ends is what follows the run
  pub rest_run : (i : ℕ) → rest text (first_not p text i) ≡ after_all p (rest text i)
  unfolding rest first_not after_all
  rest_run i = go (dec_lt i (length text))
    where
      go : Dec (i < length text) → drop (min i (length text) + run p (drop i text)) text ≡ after_all p (drop i text)
      go (yes h) =
          let e : min i (length text) ≡ i = omega arith in
          rw (e, ← drop-drop (run p (drop i text)) i text) (drop_run (drop i text))
      go (no h) =
          let past : length text ≤ i = omega arith in
          let e : min i (length text) + run p (drop i text) ≡ length text = omega (arith, run_end i past) in
          rw (e, drop_of_length-le text past) (drop_of_length-le text {i = length text} (omega arith))

  -- a scan moves exactly where a byte that passes stands
  pub moves : (i : ℕ) → ltb i (first_not p text i) ≡ begins p (rest text i)
  moves i = go (dec_lt i (length text))
    where
      byte : i < length text → (t : Bool) → p (get_or text i 0) ≡ t → ltb i (first_not p text i) ≡ t
      byte h true e = lt-ltb i (first_not p text i) (omega (arith, on i h e, not_before (i + 1) (omega arith)))
      byte h false e = le-ltb i (first_not p text i) (omega (arith, stop i h e))

      go : Dec (i < length text) → ltb i (first_not p text i) ≡ begins p (rest text i)
      go (yes h) = byte h (p (get_or text i 0)) refl ∙ begins_at p text i h
      go (no h) = le-ltb i (first_not p text i) (omega (arith, past i (omega arith))) ∙ begins_past p text i (omega arith)

  many_run : (l : List ℕ) → Many p (take (run p l) l)
  unfolding run
  many_run [] = none
  many_run (b ∷ l) = go (p b) refl (many_run l)
    where
      go : (t : Bool) → p b ≡ t → Many p (take (run p l) l) → Many p (take (cond t (suc (run p l)) 0) (b ∷ l))
      go true e m = more e m
      go false e m = none

  run_many : {l : List ℕ} → Many p l → run p l ≡ length l
  unfolding run
  run_many none = refl
  run_many (more e m) = rw e (ap suc (run_many m))

  width_run : (i : ℕ) → i ≤ length text → first_not p text i - i ≡ run p (drop i text)
  unfolding first_not
  width_run i h = omega arith

  -- every byte of the part that a scan passes over passes the test
  pub many_part : (i : ℕ) → i ≤ length text → Many p (part text i (first_not p text i))
  many_part i h = rw (width_run i h) (many_run (drop i text))

  -- from i on stand the part that a scan passes over and what is left where it ends
  pub rest_split : (i : ℕ) → i ≤ length text → rest text i ≡ part text i (first_not p text i) ++ rest text (first_not p text i)
  unfolding rest
  rest_split i h =
      let e : first_not p text i ≡ i + (first_not p text i - i) = omega (arith, not_before i h) in
      sym (ap (λ (k : ℕ). part text i (first_not p text i) ++ drop k text) e ∙ rw (← drop-drop (first_not p text i - i) i text) (take-append-drop (first_not p text i - i) (drop i text)))

  -- a text of which every byte passes is passed over whole
  pub whole : Many p text → first_not p text 0 ≡ length text
  unfolding first_not
  whole m = omega (arith, run_many m)

  -- at most one byte that passes
  module _ (i : ℕ) where
    pub one_on : p (get_or text i 0) ≡ true → i + 1 ≡ after_one_at p text i
    unfolding after_one_at
    one_on t = rw t

    pub one_off : p (get_or text i 0) ≡ false → i ≡ after_one_at p text i
    unfolding after_one_at
    one_off t = rw t

    pub one_end : p 0 ≡ false → length text ≤ i → i ≡ after_one_at p text i
    unfolding after_one_at
    one_end t h = rw (get_or-eq_default text 0 h, t)

    one_by : (t : Bool) → p (get_or text i 0) ≡ t → i < length text → rest text (after_one_at p text i) ≡ after_one p (rest text i)
    one_by true e h = rw (← one_on e) (one_yes p text i h e)
    one_by false e h = rw (← one_off e) (one_no p text i h e)

    -- what is left of the text there
    pub rest_one : p 0 ≡ false → rest text (after_one_at p text i) ≡ after_one p (rest text i)
    rest_one t = go (dec_lt i (length text))
      where
        go : Dec (i < length text) → rest text (after_one_at p text i) ≡ after_one p (rest text i)
        go (yes h) = one_by (p (get_or text i 0)) refl h
        go (no h) = rw (← one_end t (omega arith)) (one_past p text i (omega arith))

    step_by : (t : Bool) → p (get_or text i 0) ≡ t → p 0 ≡ false → (i ≤ after_one_at p text i) × (i ≤ length text → after_one_at p text i ≤ length text)
    step_by true e n =
        let far : length text ≤ i → ⊥ = λ h. false≢true (sym n ∙ (sym (ap p (get_or-eq_default text 0 h)) ∙ e)) in
        rw (← one_on e) (omega arith, λ h. within far h (dec_lt i (length text)))
      where
        within : (length text ≤ i → ⊥) → i ≤ length text → Dec (i < length text) → i + 1 ≤ length text
        within far h (yes l) = omega arith
        within far h (no l) = absurd (far (omega arith))
    step_by false e n = rw (← one_off e) (omega arith, λ h. h)

    -- it is no place before i, and none past the end
    pub one_not_before : p 0 ≡ false → i ≤ after_one_at p text i
    one_not_before n = (step_by (p (get_or text i 0)) refl n).0

    pub one_not_past : p 0 ≡ false → i ≤ length text → after_one_at p text i ≤ length text
    one_not_past n = (step_by (p (get_or text i 0)) refl n).1

-- a scan may be taken up where a scan for fewer bytes ended
module _ (p q : ℕ → Bool) (wider : (b : ℕ) → p b ≡ true → q b ≡ true) (text : List ℕ) where
  run_run : (l : List ℕ) → run p l + run q (drop (run p l) l) ≡ run q l
  unfolding run
  run_run [] = refl
  run_run (b ∷ l) = go (p b) refl (run_run l)
    where
      go : (t : Bool) → p b ≡ t → run p l + run q (drop (run p l) l) ≡ run q l → cond t (suc (run p l)) 0 + run q (drop (cond t (suc (run p l)) 0) (b ∷ l)) ≡ cond (q b) (suc (run q l)) 0
      go true e h = rw (wider b e) (omega arith)
      go false e h = omega arith

  scan_within : (i : ℕ) → i < length text → first_not q text (first_not p text i) ≡ first_not q text i
  unfolding first_not
  scan_within i h =
      let e : min i (length text) + run p (drop i text) ≡ i + run p (drop i text) = omega arith in
      rw (e, ← drop-drop (run p (drop i text)) i text) (omega (arith, run_run (drop i text), run_fits p text (drop i text), length-drop i text))

  pub scan_on : (i : ℕ) → first_not q text (first_not p text i) ≡ first_not q text i
  scan_on i = go (dec_lt i (length text))
    where
      go : Dec (i < length text) → first_not q text (first_not p text i) ≡ first_not q text i
      go (yes h) = scan_within i h
      go (no h) =
          let e : first_not p text i ≡ length text = past p text i (omega arith) in
          past q text (first_not p text i) (omega arith) ∙ sym (past q text i (omega arith))

  -- and where at most one byte that passes was passed over
  pub scan_one : (i : ℕ) → p 0 ≡ false → first_not q text (after_one_at p text i) ≡ first_not q text i
  scan_one i n = go (dec_lt i (length text)) (p (get_or text i 0)) refl
    where
      go : Dec (i < length text) → (t : Bool) → p (get_or text i 0) ≡ t → first_not q text (after_one_at p text i) ≡ first_not q text i
      go (yes h) true e = rw (← one_on p text i e) (on q text i h (wider _ e))
      go (no h) true e = rw (← one_end p text i n (omega arith))
      go l false e = rw (← one_off p text i e)

  part_byte : (i : ℕ) (t : Bool) → p (get_or text i 0) ≡ t → i < length text → after_one p (part text i (first_not q text i)) ≡ part text (after_one_at p text i) (first_not q text i)
  part_byte i true e h =
      let far : i < first_not q text i = omega (arith, on q text i h (wider _ e), not_before q text (i + 1) (omega arith)) in
      ap (after_one p) (part_first text i (first_not q text i) h far) ∙ (one_first p (get_or text i 0) _ e ∙ ap (λ (k : ℕ). part text k (first_not q text i)) (one_on p text i e))
  part_byte i false e h = rw (← one_off p text i e) (go (dec_lt i (first_not q text i)))
    where
      go : Dec (i < first_not q text i) → after_one p (part text i (first_not q text i)) ≡ part text i (first_not q text i)
      go (yes l) = ap (after_one p) (part_first text i (first_not q text i) h l) ∙ (one_other p (get_or text i 0) _ e ∙ sym (part_first text i (first_not q text i) h l))
      go (no l) = rw (part_none text i (first_not q text i) (omega arith)) (one_none p)

  -- the part up to a scan's end, without a first byte that passes the narrower test
  pub part_one : (i : ℕ) → p 0 ≡ false → after_one p (part text i (first_not q text i)) ≡ part text (after_one_at p text i) (first_not q text i)
  part_one i n = go (dec_lt i (length text))
    where
      go : Dec (i < length text) → after_one p (part text i (first_not q text i)) ≡ part text (after_one_at p text i) (first_not q text i)
      go (yes h) = part_byte i (p (get_or text i 0)) refl h
      go (no h) =
          let short : first_not q text i ≤ i = omega (arith, past q text i (omega arith)) in
          rw (← one_end p text i n (omega arith), part_none text i (first_not q text i) short) (one_none p)
