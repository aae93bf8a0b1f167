-- Laws of a pen: by whether there is room for a piece, and what it then owes of a text.
-- Assumes nothing.
use mathlib.Core.Path.{◌≡◌, refl, ap, sym, ◌∙◌}
use mathlib.Core.Bool.{Bool, true, false, not, ◌&&◌, cond}
use mathlib.Core.List.{List, [], ◌∷◌, ◌++◌, append_assoc}
use Prim.Native.Nat.{ℕ, suc, ◌+◌, ◌≤◌, ◌<◌}
use native.Mathlib.Omega.{arith}
use native.Mathlib.Numerals.{add-one}
use lib.Dec.{leb}
use borrow.Author.Tests.{le-leb, lt-leb, leb-true, leb-false}
use lib.ListN.{length, take, drop, get_or, set, length-append, drop_of_length-le}
use lib.Seq.{sets, sets-eq, length-sets, drop-cons, take_at, length-take-le}
use Rattle.std.specs.Prelude.{Some, None}
use Rattle.pen.specs.declared.Pen.{Pen}
use Rattle.pen.specs.Pen.{pen, room_for, end_of, has_room, pen_after, out_after, Puts, ToPut, Owes, Emits}

-- ---- a piece is put, or has no room
module _ (piece : List ℕ) (p : Pen) (out : List ℕ) where
  no_room_law : has_room p out piece ≡ false → Puts piece p out (pen p.at true) out
  unfolding pen_after out_after
  no_room_law e = record { stands = rw e; bytes = rw e }

  pub puts_full : p.full ≡ true → Puts piece p out (pen p.at true) out
  unfolding has_room
  puts_full e = no_room_law (rw e)

  pub puts_none : p.full ≡ false → length out < p.at + length piece → Puts piece p out (pen p.at true) out
  unfolding has_room
  puts_none e h = no_room_law (rw (e, lt-leb (p.at + length piece) (length out) h))

  pub puts_all : p.full ≡ false → p.at + length piece ≤ length out → (at : ℕ) (out' : List ℕ) → at ≡ p.at + length piece → out' ≡ sets out p.at piece → Puts piece p out (pen at false) out'
  unfolding has_room pen_after out_after
  puts_all e h at out' a b =
      let t = le-leb (p.at + length piece) (length out) h in
      record { stands = rw (e, t, a); bytes = rw (e, t) b }

-- the contract leaves no choice
pub puts_once : {piece : List ℕ} {p : Pen} {out : List ℕ} {r r' : Pen} {out₁ out₂ : List ℕ} → Puts piece p out r out₁ → Puts piece p out r' out₂ → (r ≡ r') × (out₁ ≡ out₂)
puts_once a b = (a.stands ∙ sym b.stands, a.bytes ∙ sym b.bytes)

-- where there is room, all of it is put
pub put_whole : {piece out out' : List ℕ} {at : ℕ} {r : Pen} → Puts piece (pen at false) out r out' → at + length piece ≤ length out → (r ≡ pen (at + length piece) false) × (out' ≡ sets out at piece)
unfolding has_room pen_after out_after
put_whole {piece} {out} {at = at} h k =
    let t = le-leb (at + length piece) (length out) k in
    (h.stands ∙ rw t, h.bytes ∙ rw t)

-- ---- the loop that puts: storing what is left gives what storing all gives
module _ (out piece : List ℕ) (at i : ℕ) where
  pub sets_on : i < length piece → sets (set out (at + i) (get_or piece i 0)) (at + (i + 1)) (drop (i + 1) piece) ≡ sets out (at + i) (drop i piece)
  sets_on h =
      let z : at + (i + 1) ≡ suc (at + i) = omega arith in
      rw (drop-cons piece i 0 h, z, add-one i)

  pub sets_end : length piece ≤ i → sets out (at + i) (drop i piece) ≡ out
  sets_end h = rw (drop_of_length-le piece {i = i} h)

pub sets_start : (out piece : List ℕ) (at : ℕ) → sets out (at + 0) (drop 0 piece) ≡ sets out at piece
sets_start out piece at = let z : at + 0 ≡ at = omega arith in rw z

-- by where the bytes end
pub ends_in : (p : Pen) (out : List ℕ) (n end : ℕ) → Some end ≡ end_of p out n → (p.full ≡ false) × (end ≡ p.at + n) × (p.at + n ≤ length out)
ends_in p out n end = go p.full (leb (p.at + n) (length out)) refl
  where
    go : (full t : Bool) → leb (p.at + n) (length out) ≡ t → Some end ≡ cond (not full && t) (Some (p.at + n)) None → (full ≡ false) × (end ≡ p.at + n) × (p.at + n ≤ length out)
    go false true h e = (refl, cc, leb-true _ _ h)
    go false false h e = cc
    go true t h e = cc

module _ (piece : List ℕ) (p : Pen) (out : List ℕ) where
  pub puts_in : {n : ℕ} → n ≡ length piece → (end : ℕ) (out' : List ℕ) → Some end ≡ end_of p out n → out' ≡ sets out p.at piece → Puts piece p out (pen end false) out'
  puts_in {n} l end out' e b =
      let r = ends_in p out n end e in
      puts_all piece p out r.0 (rw l at r.2) end out' (rw l at r.1) b

  pub puts_out : {n : ℕ} → n ≡ length piece → None ≡ end_of p out n → Puts piece p out (pen p.at true) out
  unfolding has_room
  puts_out {n} l e = no_room_law piece p out (go (room_for p out (length piece)) (rw l at e))
    where
      go : (t : Bool) → None ≡ cond t (Some (p.at + length piece)) None → t ≡ false
      go true e = cc
      go false e = refl

-- ---- a byte, and a piece after it
pub led_all : (out piece : List ℕ) (at lead : ℕ) → sets (set out at lead) (at + 1) piece ≡ sets out at (lead ∷ piece)
led_all out piece at lead = rw (add-one at)

-- a piece of one byte
pub led_one : (out piece : List ℕ) (at lead : ℕ) → length piece ≡ 1 → set (set out at lead) (at + 1) (get_or piece 0 0) ≡ sets out at (lead ∷ piece)
led_one out [] at lead e = absurd (omega arith)
led_one out (b ∷ []) at lead e = rw (add-one at)
led_one out (b ∷ a ∷ l) at lead e = absurd (omega arith)

-- ---- what a pen owes, put together
-- nothing is put
pub owes_same : (X : List ℕ → List ℕ) (p : Pen) (out : List ℕ) → Owes X X p out p out
owes_same X p out = record { same = refl; to = λ goal rest h. h }

module _ {X Y : List ℕ → List ℕ} {p q r : Pen} {out out₁ out₂ : List ℕ} where
  -- one after the other
  pub emits_then : Emits X p out q out₁ → Emits Y q out₁ r out₂ → Emits (λ rest. X (Y rest)) p out r out₂
  emits_then a b = record { same = b.same ∙ a.same; to = λ goal rest h. b.to goal rest (a.to goal (Y rest) h) }

  -- a turn of a loop, which puts the first of what is owed
  pub owes_on : {A Z : List ℕ → List ℕ} → Owes X Y p out q out₁ → Emits A q out₁ r out₂ → ((rest : List ℕ) → Y rest ≡ A (Z rest)) → Owes X Z p out r out₂
  owes_on {Z = Z} a b e = record { same = b.same ∙ a.same; to = λ goal rest h. b.to goal (Z rest) (rw (e rest) at (a.to goal rest h)) }

module _ {X Y : List ℕ → List ℕ} {p r : Pen} {out out' : List ℕ} where
  -- the same bytes, said otherwise
  pub emits_as : Emits Y p out r out' → ((rest : List ℕ) → X rest ≡ Y rest) → Emits X p out r out'
  emits_as a e = record { same = a.same; to = λ goal rest h. a.to goal rest (rw (e rest) at h) }

  -- a loop is left where nothing more is owed
  pub owes_end : Owes X Y p out r out' → ((rest : List ℕ) → Y rest ≡ rest) → Emits X p out r out'
  owes_end a e = record { same = a.same; to = λ goal rest h. rw (e rest) at (a.to goal rest h) }

-- ---- what a piece that is put owes
module _ {piece : List ℕ} {p : Pen} {out : List ℕ} {r : Pen} {out' : List ℕ} (h : Puts piece p out r out') where
  -- there is room: the piece stands
  stood : p.full ≡ false → leb (p.at + length piece) (length out) ≡ true → (goal rest : List ℕ) → ToPut goal (piece ++ rest) p out → ToPut goal rest (pen (p.at + length piece) false) (sets out p.at piece)
  stood e t goal rest l =
      let fits = leb-true (p.at + length piece) (length out) t in
      let g : take p.at out ++ (piece ++ rest) ≡ goal = rw e at l.held in
      let len : length (take p.at out ++ piece) ≡ p.at + length piece = length-append (take p.at out) piece ∙ ap (λ n. n + length piece) (length-take-le p.at out l.within) in
      let cut : take (p.at + length piece) (sets out p.at piece) ≡ take p.at out ++ piece = ap (take (p.at + length piece)) (sets-eq piece out p.at fits) ∙ take_at (take p.at out ++ piece) (drop (p.at + length piece) out) (p.at + length piece) len in
      record { within = rw (length-sets out p.at piece) fits; held = rw (cut, append_assoc) g }

  -- there is none: the text has none
  lacked : p.full ≡ false → leb (p.at + length piece) (length out) ≡ false → (goal rest : List ℕ) → ToPut goal (piece ++ rest) p out → ToPut goal rest (pen p.at true) out
  lacked e t goal rest l =
      let g : take p.at out ++ (piece ++ rest) ≡ goal = rw e at l.held in
      let n = length-append (take p.at out) (piece ++ rest) in
      let m = length-append piece rest in
      let k = length-take-le p.at out l.within in
      record { within = l.within; held = omega (arith, ap length g, n, m, k, leb-false (p.at + length piece) (length out) t) }

  pub emits : Emits (λ rest. piece ++ rest) p out r out'
  unfolding pen_after out_after has_room
  emits = go p.full refl (leb (p.at + length piece) (length out)) refl
    where
      go : (f : Bool) → p.full ≡ f → (t : Bool) → leb (p.at + length piece) (length out) ≡ t → Emits (λ rest. piece ++ rest) p out r out'
      go true e t x =
          let a : r ≡ pen p.at true = h.stands ∙ rw e in
          let b : out' ≡ out = h.bytes ∙ rw e in
          rw (a, b) (record { same = refl; to = λ goal rest l. record { within = l.within; held = rw e at l.held } })
      go false e true x =
          let a : r ≡ pen (p.at + length piece) false = h.stands ∙ rw (e, x) in
          let b : out' ≡ sets out p.at piece = h.bytes ∙ rw (e, x) in
          rw (a, b) (record { same = length-sets out p.at piece; to = stood e x })
      go false e false x =
          let a : r ≡ pen p.at true = h.stands ∙ rw (e, x) in
          let b : out' ≡ out = h.bytes ∙ rw (e, x) in
          rw (a, b) (record { same = refl; to = lacked e x })
