-- The numbers of a coordinate, token by token and plain, return by return.
-- Assumes nothing.
use mathlib.Core.Path.{◌≡◌, refl, sym, ap, ◌∙◌}
use mathlib.Core.Bool.{Bool, true, false, false≢true, cond, ◌&&◌}
use Rattle.std.specs.Prelude.{Ok, Err}
use mathlib.Core.List.{List, []}
use Prim.Native.Nat.{ℕ, suc, ◌+◌, ◌-◌, ◌≤◌, ◌<◌, ◌^◌}
use native.Mathlib.Omega.{arith}
use native.Mathlib.Numerals.{add-one}
use lib.ListN.{length, drop, length-drop}
use lib.Seq.{length-take-le}
use borrow.Author.Tests.{eq-eqb, ne_eqb, lt-ltb, le-ltb}
use Rattle.kinds.specs.Kinds.{has_z, has_m, width}
use Rattle.refusals.specs.Refusals.{no_number_row, no_x, no_y, no_z, no_m}
use Rattle.token.specs.declared.Refusal.{Refusal}
use Rattle.token.specs.Tokens.{read_at}
use Rattle.tokenizer.specs.Tokens.{cursor_at, take_held}
use Rattle.token_stream.specs.Stream.{Str, hd, tl, tok_in, span_in, stream}
use Rattle.token_stream.proofs.Stream.{take_head, take_tail}
use Rattle.token_stream.proofs.Sound.{new_sound}
use Rattle.store.specs.Rows.{Row, Span, number_room, put_span}
use Rattle.store.proofs.Rows.{spans_length, spans_put, put_span_length, spans_before}
use Rattle.grammar.specs.Asks.{ran, run}
use Rattle.grammar.specs.Tokens.{sort_number, sort_of}
use Rattle.grammar.specs.Grammar.{refusal, and_then, number, then_number, if_asked, coord}
use Rattle.grammar_laws.proofs.Asks.{run_ret, run_step}
use Rattle.sorts.specs.declared.Taken.{Taken}
use Rattle.sorts.specs.Taken.{taken, refusal_by}
use Rattle.sorts.proofs.Tokens.{Takes, asks}
use Rattle.plain_numbers.specs.declared.Plain.{Plain}
use Rattle.plain_numbers.specs.Plain.{PlainNumber}
use Rattle.answers.specs.declared.State.{State}
use Rattle.answers.specs.declared.Spot.{Spot}
use Rattle.answers.specs.declared.Unread.TheVariants.{Refused, Stopped}
use Rattle.answers.specs.Reading.{Answer, spot, state, state_of, is_read, got_of, Within}
use Rattle.wkt.specs.Coords.{Ready, FitsNumbers, ReadyAfter, MetOn, MetNumber, MetCoord, Unmoved, Numbers, none, more, MetPlains}

-- a span within the text is as long as it says
span_length : (text : List ℕ) (q l : ℕ) (x : List ℕ) → q + l ≤ length text → span_in text q l ≡ x → length x ≡ l
span_length text q l x h e = ap length (sym e) ∙ length-take-le l (drop q text) (omega (arith, length-drop q text))

-- a number
module _ {text ms : List ℕ} {s : State} {t : Taken} (e : ℕ) (v : Ready text ms s) (x : Takes text s.cursor t) where
  pub number_done : t.sort ≡ sort_number → s.numbers < number_room ms → MetNumber text e s ms (Ok (spot t.at s.nodes (s.numbers + 1))) (put_span ms s.numbers t.start t.len)
  unfolding number
  number_done k h = record {
    met = λ N M R g b.
        let f = x.first in
        let u = spans_put ms s.numbers t.start t.len text h in
        record {
          is =
              asks _ x
              ∙ rw (eq-eqb (sort_of (hd (stream text s.cursor))) sort_number (sym f.sort ∙ k), spans_length, lt-ltb s.numbers M (omega (arith, g, h)), ← x.starts v.sound k, span_length text t.start t.len _ f.fits f.spelt, ← f.spelt, u)
              (run_ret _ _);
          within = (b, omega (arith, g, h));
        };
  }

  pub number_full : t.sort ≡ sort_number → number_room ms ≤ s.numbers → MetNumber text e s ms (Err (Stopped (refusal no_number_row t.place) (cursor_at t.at))) ms
  unfolding number
  number_full k h = record {
    met = λ N M R g b.
        let f = x.first in
        record {
          is =
              asks _ x
              ∙ rw (eq-eqb (sort_of (hd (stream text s.cursor))) sort_number (sym f.sort ∙ k), spans_length, le-ltb s.numbers M (omega (arith, g, h)), ← f.place)
              (run_ret _ _);
          within = tt;
        };
  }

  pub number_no : {r : Refusal} → (t.sort ≡ sort_number → ⊥) → r ≡ refusal_by text e t → MetNumber text e s ms (Err (Refused r (cursor_at t.at))) ms
  unfolding number
  number_no {r} k h = record {
    met = λ N M R g b.
        let f = x.first in
        record {
          is =
              asks _ x
              ∙ rw (ne_eqb (sort_of (hd (stream text s.cursor))) sort_number (λ z. k (f.sort ∙ z)), f.refuses e, ← h)
              (run_ret _ _);
          within = tt;
        };
  }

-- what came before a number is within the room
after_ready : (text ms : List ℕ) (N : ℕ) (a : Answer) → length text + 2 < 2 ^ 32 → Within N (number_room ms) a → ReadyAfter text ms a
after_ready text ms N (Ok s) v w = record { short = v; numbers = w.1 }
after_ready text ms N (Err (Refused r c)) v w = tt
after_ready text ms N (Err (Stopped r c)) v w = tt

pub spot_ready : {text ms : List ℕ} {s : Spot} → FitsNumbers text ms s → Ready text ms (state_of s)
spot_ready {text} f = record { short = f.short; numbers = f.numbers; sound = new_sound text _ }

-- one number more, or what came before it
module _ (e : ℕ) {text ms : List ℕ} {a : Answer} {asked : Bool} where
  pub on_number : {s : Spot} {ms' : List ℕ} {r : Answer} → a ≡ Ok s → asked ≡ true → MetNumber text e (state_of s) ms r ms' → MetOn text (λ M. if_asked M asked e) a ms r ms'
  unfolding if_asked then_number and_then
  on_number x y m = rw (x, y) (record { met = λ N M R g f. m.met N M R g f.0 })

stays : (e M : ℕ) (R : ℕ → List Row) (S : ℕ → List Span) (s : Str) (asked : Bool) (a : Answer) → (asked && is_read a) ≡ false → run (if_asked M asked e (got_of R S a)) s ≡ ran (got_of R S a) s
unfolding if_asked then_number and_then
stays e M R S s true (Ok q) n = absurd (false≢true (sym n))
stays e M R S s true (Err (Refused r c)) n = run_ret _ _
stays e M R S s true (Err (Stopped r c)) n = run_ret _ _
stays e M R S s false a n = run_ret _ _

module _ (e : ℕ) {text ms : List ℕ} (a : Answer) (asked : Bool) where
  pub on_unasked : asked ≡ false → MetOn text (λ M. if_asked M asked e) a ms a ms
  on_unasked y = record { met = λ N M R g f. record { is = stays e M R _ _ asked a (rw y); within = f } }

  pub on_lost : is_read a ≡ false → MetOn text (λ M. if_asked M asked e) a ms a ms
  on_lost n = record { met = λ N M R g f. record { is = stays e M R _ _ asked a (neither asked); within = f } }
    where
      neither : (b : Bool) → (b && is_read a) ≡ false
      neither true = n
      neither false = refl

-- a coordinate: x, then y, then z and m as asked
module _ {text ms ms₁ : List ℕ} {s : State} {a : Answer} (x : MetNumber text no_x s ms a ms₁) (l : length ms₁ ≡ length ms) where
  within_x : (N M : ℕ) → number_room ms ≡ M → s.nodes ≤ N → Within N M a
  within_x N M g h = (x.met N M (λ n. []) g h).within

  pub ready_x : length text + 2 < 2 ^ 32 → ReadyAfter text ms₁ a
  ready_x v = after_ready text ms₁ s.nodes a v (within_x s.nodes (number_room ms₁) (rw l) (omega arith))

  module _ {ms₂ : List ℕ} {b : Answer} (y : MetOn text (λ M. if_asked M true no_y) a ms₁ b ms₂) (l₂ : length ms₂ ≡ length ms₁) where
    within_y : (N M : ℕ) → number_room ms ≡ M → s.nodes ≤ N → Within N M b
    within_y N M g h = (y.met N M (λ n. []) (rw l g) (within_x N M g h)).within

    pub ready_y : length text + 2 < 2 ^ 32 → ReadyAfter text ms₂ b
    ready_y v = after_ready text ms₂ s.nodes b v (within_y s.nodes (number_room ms₂) (rw (l₂, l)) (omega arith))

    module _ (d : ℕ) {ms₃ : List ℕ} {c : Answer} (z : MetOn text (λ M. if_asked M (has_z d) no_z) b ms₂ c ms₃) (l₃ : length ms₃ ≡ length ms₂) where
      within_z : (N M : ℕ) → number_room ms ≡ M → s.nodes ≤ N → Within N M c
      within_z N M g h = (z.met N M (λ n. []) (rw (l₂, l) g) (within_y N M g h)).within

      pub ready_z : length text + 2 < 2 ^ 32 → ReadyAfter text ms₃ c
      ready_z v = after_ready text ms₃ s.nodes c v (within_z s.nodes (number_room ms₃) (rw (l₃, l₂, l)) (omega arith))

      pub coord_is : {ms₄ : List ℕ} {r : Answer} → MetOn text (λ M. if_asked M (has_m d) no_m) c ms₃ r ms₄ → MetCoord text d s ms r ms₄
      unfolding coord if_asked
      coord_is w = record {
        met = λ N M R g h.
            let ex = x.met N M R g h in
            let ey = y.met N M R (rw l g) ex.within in
            let ez = z.met N M R (rw (l₂, l) g) ey.within in
            let ew = w.met N M R (rw (l₃, l₂, l) g) ez.within in
            record { is = run_step _ _ _ ex.is ∙ run_step _ _ _ ey.is ∙ run_step _ _ _ ez.is ∙ ew.is; within = ew.within };
      }

-- a plain number's token, as if it had been taken
module _ (text : List ℕ) (i : ℕ) where
  first_token : hd (stream text (cursor_at i)) ≡ tok_in text (read_at text i).found
  unfolding take_held
  first_token = take_head text (cursor_at i)

  next_tokens : tl (stream text (cursor_at i)) ≡ stream text (cursor_at (read_at text i).at)
  unfolding take_held
  next_tokens = take_tail text (cursor_at i)

  plain_taken : {r : Plain} → PlainNumber text i r → Takes text (cursor_at i) (taken sort_number i i (r.end - i) r.next)
  plain_taken {r} x = record {
    first = rw (first_token, x.number) (record { sort = refl; place = refl; spelt = refl; fits = omega (arith, x.behind, x.inside); refuses = λ e. refl });
    rest = next_tokens ∙ rw x.number;
    starts = λ g z. rw (first_token, x.number);
  }

pub kept_all : {text : List ℕ} {used : ℕ} {ms : List ℕ} → Unmoved text used ms ms
kept_all = record { same = refl; spans = λ m h. refl }

pub no_plains : {text : List ℕ} {w i used : ℕ} {ms ms' : List ℕ} → Unmoved text used ms ms' → MetPlains text w i used ms i ms'
no_plains k = record { kept = k; numbers = λ h. absurd (omega arith) }

-- one plain number and its row
module _ {text : List ℕ} {i used : ℕ} {ms ms' : List ℕ} {r : Plain} (v : length text + 2 < 2 ^ 32) (x : PlainNumber text i r) (u : used < number_room ms) (j : ms' ≡ put_span ms used i (r.end - i)) where
  pub plain_kept : Unmoved text used ms ms'
  plain_kept = record { same = rw (j, put_span_length ms used i (r.end - i)); spans = λ m y. rw j (spans_before ms used i (r.end - i) text m y) }

  plain_done : (e n : ℕ) → MetNumber text e (state (cursor_at i) n used) ms (Ok (spot r.next n (used + 1))) ms'
  plain_done e n = rw j (number_done {s = state (cursor_at i) n used} e (record { short = v; numbers = omega arith; sound = new_sound text _ }) (plain_taken text i x) refl u)

-- several, one by one
pub next_row : (n used k w : ℕ) → k < w → used + w ≤ n → used + k < n
next_row n used k w a b = omega arith

pub kept_on : {text : List ℕ} {used : ℕ} (k : ℕ) {ms ms₁ ms₂ : List ℕ} → Unmoved text used ms ms₁ → Unmoved text (used + k) ms₁ ms₂ → Unmoved text used ms ms₂
kept_on k a b = record { same = b.same ∙ a.same; spans = λ m h. b.spans m (omega arith) ∙ a.spans m h }

pub no_numbers : {text : List ℕ} {i used : ℕ} {ms : List ℕ} → Numbers text i used ms 0 (used + 0) i ms
no_numbers {used = used} = let e : used + 0 ≡ used = omega arith in rw e none

pub one_more : {text : List ℕ} {i used k c : ℕ} {ms ms₁ ms₂ : List ℕ} {r : Plain} → length text + 2 < 2 ^ 32 → Numbers text i used ms k (used + k) c ms₁ → PlainNumber text c r → used + k < number_room ms₁ → ms₂ ≡ put_span ms₁ (used + k) c (r.end - c) → Numbers text i used ms (k + 1) (used + (k + 1)) r.next ms₂
one_more {used = used} {k = k} v a x u j =
    let e : used + (k + 1) ≡ suc (used + k) = omega arith in
    rw (e, add-one) (more a (plain_kept v x u j).same (λ p n. rw add-one at (plain_done v x u j p n)))

pub all_read : {text : List ℕ} {width k i used r : ℕ} {ms ms' : List ℕ} → k ≤ width → width ≤ k → Unmoved text used ms ms' → Numbers text i used ms k (used + k) r ms' → MetPlains text width i used ms r ms'
all_read {width = width} {k = k} l h a c = let e : width ≡ k = omega arith in rw e (record { kept = a; numbers = λ z. c })

-- as many as the dimension asks for are a coordinate
module _ {text : List ℕ} {i used : ℕ} {ms : List ℕ} (d n : ℕ) where
  two : {u r : ℕ} {ms' : List ℕ} → has_z d ≡ false → has_m d ≡ false → Numbers text i used ms 2 u r ms' → MetCoord text d (state (cursor_at i) n used) ms (Ok (spot r n u)) ms'
  two z m (more (more none l₁ x) l₂ y) = coord_is (x no_x n) l₁ (on_number no_y refl refl (y no_y n)) l₂ d (on_unasked no_z _ _ z) refl (on_unasked no_m _ _ m)

  three_z : {u r : ℕ} {ms' : List ℕ} → has_z d ≡ true → has_m d ≡ false → Numbers text i used ms 3 u r ms' → MetCoord text d (state (cursor_at i) n used) ms (Ok (spot r n u)) ms'
  three_z z m (more (more (more none l₁ x) l₂ y) l₃ w) = coord_is (x no_x n) l₁ (on_number no_y refl refl (y no_y n)) l₂ d (on_number no_z refl z (w no_z n)) l₃ (on_unasked no_m _ _ m)

  three_m : {u r : ℕ} {ms' : List ℕ} → has_z d ≡ false → has_m d ≡ true → Numbers text i used ms 3 u r ms' → MetCoord text d (state (cursor_at i) n used) ms (Ok (spot r n u)) ms'
  three_m z m (more (more (more none l₁ x) l₂ y) l₃ w) = coord_is (x no_x n) l₁ (on_number no_y refl refl (y no_y n)) l₂ d (on_unasked no_z _ _ z) refl (on_number no_m refl m (w no_m n))

  four : {u r : ℕ} {ms' : List ℕ} → has_z d ≡ true → has_m d ≡ true → Numbers text i used ms 4 u r ms' → MetCoord text d (state (cursor_at i) n used) ms (Ok (spot r n u)) ms'
  four z m (more (more (more (more none l₁ x) l₂ y) l₃ w) l₄ t) = coord_is (x no_x n) l₁ (on_number no_y refl refl (y no_y n)) l₂ d (on_number no_z refl z (w no_z n)) l₃ (on_number no_m refl m (t no_m n))

  by_width : {u r : ℕ} {ms' : List ℕ} (z m : Bool) → has_z d ≡ z → has_m d ≡ m → (k : ℕ) → k ≡ 2 + (cond z 1 0 + cond m 1 0) → Numbers text i used ms k u r ms' → MetCoord text d (state (cursor_at i) n used) ms (Ok (spot r n u)) ms'
  by_width true true z m k e c = four z m (rw e at c)
  by_width true false z m k e c = three_z z m (rw e at c)
  by_width false true z m k e c = three_m z m (rw e at c)
  by_width false false z m k e c = two z m (rw e at c)

module _ {text : List ℕ} {d k u : ℕ} {s : Spot} {ms ms' : List ℕ} {r : ℕ} where
  pub plain_coord : k ≡ width d → Numbers text s.at s.numbers ms k u r ms' → MetCoord text d (state_of s) ms (Ok (spot r s.nodes u)) ms'
  unfolding width
  plain_coord e c = by_width d s.nodes (has_z d) (has_m d) refl refl k e c

-- what was kept is read token by token
module _ {text : List ℕ} {s : Spot} {ms ms₁ : List ℕ} (k : Unmoved text s.numbers ms ms₁) where
  pub kept_ready : FitsNumbers text ms s → Ready text ms₁ (state_of s)
  kept_ready f = spot_ready (record { short = f.short; numbers = rw k.same f.numbers })

  pub token_coord : {d : ℕ} {ms' : List ℕ} {r : Answer} → MetCoord text d (state_of s) ms₁ r ms' → MetCoord text d (state_of s) ms r ms'
  token_coord m = record { met = λ N M R g h. rw (← k.spans s.numbers (omega arith)) (m.met N M R (rw k.same g) h) }
