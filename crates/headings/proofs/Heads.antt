-- What stands after a name, return by return.
-- Assumes nothing.
use Rattle.std.specs.Prelude.{Option, Some, None, Ok, Err}
use mathlib.Core.Path.{◌≡◌, refl, sym, ap, ◌∙◌}
use mathlib.Core.Bool.{Bool, true, false, cond}
use mathlib.Core.List.{List}
use Prim.Native.Nat.{ℕ, ◌+◌, ◌-◌, ◌≤◌, ◌<◌}
use native.Mathlib.Omega.{arith}
use lib.ListN.{take, drop}
use borrow.Author.Tests.{eq-eqb, ne_eqb, lt-ltb, le-ltb}
use Rattle.kinds.specs.Kinds.{dim_xy}
use Rattle.refusals.specs.Refusals.{not_opened, no_header, unknown_header, no_child, no_root, non_ascii_root}
use Rattle.names.specs.declared.Name.{Name}
use Rattle.scan.specs.Bytes.{is_ascii}
use Rattle.lists.specs.Lists.{every}
use Rattle.names.specs.Names.{meaning, ending, is_empty_word}
use Rattle.token.specs.declared.Found.{Found}
use Rattle.tokenizer.specs.declared.Cursor.{Cursor}
use Rattle.tokenizer.specs.declared.Step.{Step}
use Rattle.tokenizer.specs.declared.PassedOpen.{PassedOpen}
use Rattle.token.specs.declared.Refusal.{Refusal}
use Rattle.tokenizer.specs.Tokens.{step, cursor_at, take_held, take_at, hold, look_at, pass_open}
use Rattle.token_stream.specs.Stream.{Tok, tok_in}
use Rattle.token_stream.proofs.Stream.{take_head}
use Rattle.token_stream.proofs.Marks.{take_free, open_taken, open_not}
use Rattle.grammar.specs.Tokens.{sort_open, sort_word, sort_of, place_of, text_of}
use Rattle.grammar.specs.Asks.{P, ask, look}
use Rattle.grammar.specs.Grammar.{opens, empty, wrong, refusal, is_empty_tok, opening, opener, header, by_name, child_head, root_head}
use Rattle.sorts.specs.declared.Taken.{Taken}
use Rattle.sorts.specs.Taken.{taken_at, refusal_by}
use Rattle.sorts.proofs.Tokens.{Tells, taken_tells, taken_next, opens_place, opens_sort, other_sort}
use Rattle.headings.specs.Heads.{no_head, Heading, head_of, head_end, ran_at, run_at, MetHead, is_empty_in, empty_at}
use Rattle.headings.specs.declared.Head.TheVariants.{Opens, Empty}
use Rattle.headings.proofs.Runs.{runs_ret, runs_ask, runs_look}

-- what is looked at is what is taken then
held_taken : (text : List ℕ) (i : ℕ) (f : Found) → take_held text i (hold f) ≡ step f (cursor_at i)
unfolding take_held
held_taken text i (Found.NoToken p) = refl
held_taken text i (Found.BadNumber p) = refl
held_taken text i (Found.Is p t) = refl

look_taken : (text : List ℕ) (c : Cursor) → take_at text (look_at text c).next ≡ take_at text c
look_taken text c = held_taken text (take_at text c).next.at (take_at text c).found ∙ ap (step (take_at text c).found) (sym (take_free text c))

look_again : (text : List ℕ) (c : Cursor) → pass_open text c ≡ pass_open text (look_at text c).next
unfolding pass_open
look_again text c = rw (look_taken text c)

-- what the code finds of the part of the text that a token spans, it finds of the token's text
pub told_word : {A : Type 0} (f : List ℕ → A) {text : List ℕ} {t : Tok} {u : Taken} {r : A} → Tells text t u → r ≡ f (take (u.start + u.len - u.start) (drop u.start text)) → r ≡ f (text_of t)
told_word f {text} {t} {u} x e =
    let l : u.start + u.len - u.start ≡ u.len = omega arith in
    e ∙ ap f (rw l x.spelt)

-- the token that the cursor c takes
abbrev next : List ℕ → Cursor → Tok
next text c = tok_in text (take_at text c).found

-- EMPTY, or neither
module _ (text : List ℕ) (k d : ℕ) (t : Taken) where
  pub empty_no : {r : Refusal} {n : Cursor} → (t.sort ≡ sort_word → ⊥) → r ≡ refusal_by text not_opened t → n ≡ cursor_at t.at → Err (no_head r n) ≡ empty_at text k d t
  unfolding empty_at
  empty_no h q e = rw (ne_eqb t.sort sort_word h, q, e)

  module _ (h : t.sort ≡ sort_word) (b : Bool) (w : b ≡ is_empty_word (take (t.start + t.len - t.start) (drop t.start text))) where
    spelt_out : b ≡ is_empty_word (take t.len (drop t.start text))
    spelt_out = let l : t.start + t.len - t.start ≡ t.len = omega arith in rw l at w

    pub empty_yes : b ≡ true → Ok (Empty k d t.place t.at) ≡ empty_at text k d t
    unfolding empty_at
    empty_yes y = rw (eq-eqb t.sort sort_word h, ← spelt_out, y)

    pub empty_word_law : {n : Cursor} → b ≡ false → n ≡ cursor_at t.at → Err (no_head (refusal not_opened t.place) n) ≡ empty_at text k d t
    unfolding empty_at
    empty_word_law y e = rw (eq-eqb t.sort sort_word h, ← spelt_out, y, h, e)

  means : (b : Bool) → ran_at (cond b (empty k d t.place) (wrong (refusal_by text not_opened t))) (cursor_at t.at) ≡ ran_at (head_of (cond b (Ok (Empty k d t.place t.at)) (Err (no_head (refusal_by text not_opened t) (cursor_at t.at))))) (head_end (cond b (Ok (Empty k d t.place t.at)) (Err (no_head (refusal_by text not_opened t) (cursor_at t.at)))))
  means true = refl
  means false = refl

module _ {text : List ℕ} {c : Cursor} (k d : ℕ) where
  -- `(` was passed over
  pub open_yes : {r : PassedOpen} → r ≡ pass_open text c → r.opens ≡ true → MetHead text (opener k d) c (Ok (Opens k d r.place r.next.at))
  unfolding opener opening
  open_yes {r} e y =
      let s : sort_of (next text c) ≡ sort_open = rw (take_head text c) at (opens_sort text c e y) in
      let p : r.place ≡ place_of (next text c) = rw (take_head text c) at (opens_place text c e) in
      record { is = runs_ask text _ c ∙ rw ((open_taken text c r e y).2, s, p) (runs_ret text _ _ ∙ ap (ran_at (opens k d (place_of (next text c)))) (take_free text c)) }

  -- another token is taken
  open_no : ((taken_at text c).sort ≡ sort_open → ⊥) → MetHead text (opener k d) c (empty_at text k d (taken_at text c))
  unfolding opener opening empty_at
  open_no n =
      let t = taken_at text c in
      let x = taken_tells text c in
      let z : is_empty_tok (next text c) ≡ is_empty_in text t = rw (x.sort, x.spelt) in
      record {
        is =
            runs_ask text _ c
            ∙ rw (taken_next text c, ne_eqb (sort_of (next text c)) sort_open (λ w. n (x.sort ∙ w)), z, x.refuses not_opened, ← x.place) (runs_ret text _ _ ∙ means text k d t (is_empty_in text t));
      }

-- what follows a bare name
module _ {text : List ℕ} {c : Cursor} (k : ℕ) {r : PassedOpen} (e : r ≡ pass_open text c) where
  pub header_open : r.opens ≡ true → MetHead text (header k) c (Ok (Opens k dim_xy r.place r.next.at))
  unfolding header
  header_open y =
      let s : sort_of (next text c) ≡ sort_open = rw (take_head text c) at (opens_sort text c e y) in
      record { is = runs_look text _ c ∙ rw s (open_yes k dim_xy (e ∙ look_again text c) y).is }

-- what was not passed over is held, and taken from there
module _ (text : List ℕ) (c : Cursor) {r : PassedOpen} (e : r ≡ pass_open text c) (n : r.opens ≡ false) {t : Taken} (u : t ≡ taken_at text r.next) where
  here : r.next ≡ (look_at text c).next
  here = (open_not text c r e n).2

  pub held_tells : Tells text (next text c) t
  held_tells =
      let x : Tells text (next text c) (taken_at text (look_at text c).next) = rw (look_taken text c) at (taken_tells text (look_at text c).next) in
      rw (u, here) x

  held_next : (take_at text r.next).next ≡ cursor_at t.at
  held_next = rw u (taken_next text r.next)

  held_other : t.sort ≡ sort_open → ⊥
  held_other z = other_sort text c e n (rw (take_head text c) (sym held_tells.sort ∙ z))

  looks : {A : Type 0} (p : Tok → P A) → run_at text (look p) c ≡ run_at text (p (next text c)) r.next
  looks p = runs_look text p c ∙ ap (run_at text (p (next text c))) (sym here)

  takes : {A : Type 0} (p : Tok → P A) → run_at text (ask p) r.next ≡ run_at text (p (next text r.next)) (cursor_at t.at)
  takes p = runs_ask text p r.next ∙ ap (run_at text (p (next text r.next))) held_next

  again : {A : Type 0} (p : Tok → P A) → run_at text (ask p) c ≡ run_at text (ask p) r.next
  again p =
      runs_ask text p c
      ∙ ap (λ (s : Step). run_at text (p (tok_in text s.found)) s.next) (sym (look_taken text c))
      ∙ sym (runs_ask text p (look_at text c).next)
      ∙ ap (run_at text (ask p)) (sym here)

  held_empty : (k d : ℕ) {h : Heading} → h ≡ empty_at text k d t → MetHead text (opener k d) r.next h
  held_empty k d q = rw (q, u) (open_no k d (rw u at held_other))

module _ {text : List ℕ} {c : Cursor} (k : ℕ) {r : PassedOpen} (e : r ≡ pass_open text c) (n : r.opens ≡ false) {t : Taken} (u : t ≡ taken_at text r.next) where
  pub header_none : t.sort < sort_open → MetHead text (header k) c (Err (no_head (refusal no_header t.place) r.next))
  unfolding header
  header_none j =
      let x = held_tells text c e n u in
      record { is = looks text c e n u _ ∙ rw (← x.sort, lt-ltb t.sort sort_open j, ← x.place) (runs_ret text _ _) }

  module _ (j : sort_open ≤ t.sort) where
    pub header_other : {h : Heading} → (t.sort ≡ sort_word → ⊥) → h ≡ empty_at text k dim_xy t → MetHead text (header k) c h
    unfolding header
    header_other i q =
        let x = held_tells text c e n u in
        record { is = looks text c e n u _ ∙ rw (← x.sort, le-ltb t.sort sort_open j, ne_eqb t.sort sort_word i) (held_empty text c e n u k dim_xy q).is }

    module _ (i : t.sort ≡ sort_word) where
      pub header_dimension : {d : ℕ} {h : Heading} → ending (text_of (next text c)) ≡ Some d → MetHead text (opener k d) (cursor_at t.at) h → MetHead text (header k) c h
      unfolding header
      header_dimension q m =
          let x = held_tells text c e n u in
          record { is = looks text c e n u _ ∙ rw (← x.sort, le-ltb t.sort sort_open j, eq-eqb t.sort sort_word i, q) (takes text c e n u _ ∙ m.is) }

      module _ (q : ending (text_of (next text c)) ≡ None) where
        pub header_empty : is_empty_word (text_of (next text c)) ≡ true → MetHead text (header k) c (Ok (Empty k dim_xy t.place t.at))
        unfolding header empty_at
        header_empty w =
            let x = held_tells text c e n u in
            let z : Ok (Empty k dim_xy t.place t.at) ≡ empty_at text k dim_xy t = rw (eq-eqb t.sort sort_word i, x.spelt, w) in
            record { is = looks text c e n u _ ∙ rw (← x.sort, le-ltb t.sort sort_open j, eq-eqb t.sort sort_word i, q, w) (held_empty text c e n u k dim_xy z).is }

        pub header_word : is_empty_word (text_of (next text c)) ≡ false → MetHead text (header k) c (Err (no_head (refusal unknown_header t.place) r.next))
        unfolding header
        header_word w =
            let x = held_tells text c e n u in
            record { is = looks text c e n u _ ∙ rw (← x.sort, le-ltb t.sort sort_open j, eq-eqb t.sort sort_word i, q, w, ← x.place) (runs_ret text _ _) }

-- in the place of `(`
pub open_other : {text : List ℕ} {c : Cursor} (k d : ℕ) {r : PassedOpen} → r ≡ pass_open text c → r.opens ≡ false → {t : Taken} → t ≡ taken_at text r.next → {h : Heading} → h ≡ empty_at text k d t → MetHead text (opener k d) c h
unfolding opener
open_other {text} {c} k d e n u q = record { is = again text c e n u _ ∙ (held_empty text c e n u k d q).is }

-- a name
module _ (text : List ℕ) (c : Cursor) {t : Taken} (u : t ≡ taken_at text c) where
  pub told : Tells text (next text c) t
  told = rw u (taken_tells text c)

  asks : {A : Type 0} (p : Tok → P A) → run_at text (ask p) c ≡ run_at text (p (next text c)) (cursor_at t.at)
  asks p = runs_ask text p c ∙ rw u (ap (run_at text (p (next text c))) (taken_next text c))

module _ {text : List ℕ} {c : Cursor} {t : Taken} (u : t ≡ taken_at text c) where
  pub child_word : {n : Option Name} {h : Heading} → t.sort ≡ sort_word → n ≡ meaning (text_of (next text c)) → MetHead text (by_name t.place n) (cursor_at t.at) h → MetHead text child_head c h
  unfolding child_head
  child_word i q m = record { is = asks text c u _ ∙ rw (← (told text c u).sort, eq-eqb t.sort sort_word i, ← (told text c u).place, ← q) m.is }

  pub child_no : {r : Refusal} {n : Cursor} → (t.sort ≡ sort_word → ⊥) → r ≡ refusal_by text no_child t → n ≡ cursor_at t.at → MetHead text child_head c (Err (no_head r n))
  unfolding child_head
  child_no i q f = record { is = asks text c u _ ∙ rw (← (told text c u).sort, ne_eqb t.sort sort_word i, (told text c u).refuses no_child, q, f) (runs_ret text _ _) }

  pub root_no : {r : Refusal} {n : Cursor} → (t.sort ≡ sort_word → ⊥) → r ≡ refusal_by text no_root t → n ≡ cursor_at t.at → MetHead text root_head c (Err (no_head r n))
  unfolding root_head
  root_no i q f = record { is = asks text c u _ ∙ rw (← (told text c u).sort, ne_eqb t.sort sort_word i, (told text c u).refuses no_root, q, f) (runs_ret text _ _) }

  module _ (i : t.sort ≡ sort_word) where
    pub root_word : {n : Option Name} {h : Heading} → every is_ascii (text_of (next text c)) ≡ true → n ≡ meaning (text_of (next text c)) → MetHead text (by_name t.place n) (cursor_at t.at) h → MetHead text root_head c h
    unfolding root_head
    root_word a q m = record { is = asks text c u _ ∙ rw (← (told text c u).sort, eq-eqb t.sort sort_word i, a, ← (told text c u).place, ← q) m.is }

    pub root_wide : {n : Cursor} → every is_ascii (text_of (next text c)) ≡ false → n ≡ cursor_at t.at → MetHead text root_head c (Err (no_head (refusal non_ascii_root t.place) n))
    unfolding root_head
    root_wide a f = record { is = asks text c u _ ∙ rw (← (told text c u).sort, eq-eqb t.sort sort_word i, a, ← (told text c u).place, f) (runs_ret text _ _) }
