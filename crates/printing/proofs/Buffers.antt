-- Laws of a buffer: a text is put behind the full bytes, at the start, or written out.
-- Assumes nothing.
use mathlib.Core.Path.{◌≡◌, refl, sym, ap, ◌∙◌}
use mathlib.Core.Bool.{Bool, true, false}
use mathlib.Core.List.{List, [], ◌∷◌, ◌++◌}
use Prim.Native.Nat.{ℕ, ◌+◌, min}
use native.Mathlib.Omega.{arith}
use lib.Dec.{leb}
use lib.ListN.{length}
use lib.Seq.{sets}
use Rattle.pen.specs.declared.Pen.{Pen}
use Rattle.pen.specs.Pen.{pen, has_room, pen_after, out_after, Puts}
use Rattle.printing.specs.declared.Out.{Out}
use Rattle.printing.specs.Printing.{Buffer, buffer, has_room_at, standing, held, put_anew, put_in, put_all_in, Prints}

-- what a pen says of the buffer, by whether the text had room
module _ {text out out' : List ℕ} {at : ℕ} {r : Pen} (h : Puts text (pen at false) out r out') where
  pub stood : r.full ≡ false → (has_room_at at text out ≡ true) × (buffer out' r.at ≡ standing at text out)
  unfolding has_room_at has_room pen_after out_after
  stood e = go (leb (at + length text) (length out)) refl
    where
      go : (t : Bool) → leb (at + length text) (length out) ≡ t → (leb (at + length text) (length out) ≡ true) × (buffer out' r.at ≡ standing at text out)
      go true x =
          let a : r ≡ pen (at + length text) false = h.stands ∙ rw x in
          let b : out' ≡ sets out at text = h.bytes ∙ rw x in
          (x, rw (a, b))
      go false x =
          let a : r ≡ pen at true = h.stands ∙ rw x in
          let z : ◌≡◌ {A = Bool} true false = sym (ap (λ (p : Pen). p.full) a) ∙ e in
          let y : ◌≡◌ {A = ℕ} 0 1 = cc in
          absurd (omega arith)

  pub lacked : r.full ≡ true → (has_room_at at text out ≡ false) × (out' ≡ out)
  unfolding has_room_at has_room pen_after out_after
  lacked e = go (leb (at + length text) (length out)) refl
    where
      go : (t : Bool) → leb (at + length text) (length out) ≡ t → (leb (at + length text) (length out) ≡ false) × (out' ≡ out)
      go true x =
          let a : r ≡ pen (at + length text) false = h.stands ∙ rw x in
          let z : ◌≡◌ {A = Bool} false true = sym (ap (λ (p : Pen). p.full) a) ∙ e in
          let y : ◌≡◌ {A = ℕ} 0 1 = cc in
          absurd (omega arith)
      go false x = (x, h.bytes ∙ rw x)

-- a text is put anew: at the start, where nothing is full any more, or nowhere
module _ (at : ℕ) {text out out' : List ℕ} {r : Pen} (h : Puts text (pen 0 false) out r out') where
  pub anew_first : r.full ≡ false → buffer out' r.at ≡ put_anew text (buffer out at)
  unfolding put_anew
  anew_first g =
      let y = stood h g in
      y.1 ∙ rw y.0

  pub anew_nowhere : r.full ≡ true → buffer out' 0 ≡ put_anew text (buffer out at)
  unfolding put_anew
  anew_nowhere g =
      let y = lacked h g in
      rw (y.1, y.0)

-- the three ways of putting a text: behind the full bytes, at the start, nowhere
module _ (at : ℕ) {text out out' : List ℕ} {here : ℕ} {r : Pen} (e : here ≡ min at (length out)) (h : Puts text (pen here false) out r out') where
  pub put_behind : r.full ≡ false → buffer out' r.at ≡ put_in text (buffer out at)
  unfolding put_in
  put_behind f =
      let y = rw e at (stood h f) in
      y.1 ∙ rw y.0

  -- where it has no room behind the full bytes, what it comes to is what it comes to anew
  pub put_over : r.full ≡ true → {x : Buffer} → x ≡ put_anew text (buffer out' at) → x ≡ put_in text (buffer out at)
  unfolding put_in put_anew
  put_over f n =
      let x = lacked h f in
      let lacks : has_room_at (min at (length out)) text out ≡ false = rw e at x.0 in
      n ∙ rw (x.1, lacks)

  module _ {out'' : List ℕ} {r' : Pen} (f : r.full ≡ true) (h' : Puts text (pen 0 false) out' r' out'') where
    pub put_first : r'.full ≡ false → buffer out'' r'.at ≡ put_in text (buffer out at)
    put_first g = put_over f (anew_first at h' g)

    pub put_nowhere : r'.full ≡ true → buffer out'' 0 ≡ put_in text (buffer out at)
    put_nowhere g = put_over f (anew_nowhere at h' g)

-- some texts are put, and then others
pub put_then : (xs ys : List (List ℕ)) (b : Buffer) → put_all_in (xs ++ ys) b ≡ put_all_in ys (put_all_in xs b)
unfolding put_all_in
put_then [] ys b = refl
put_then (x ∷ xs) ys b = put_then xs ys (put_in x b)

-- in the same bytes some texts are put, and then others
pub prints_then : {xs ys : List (List ℕ)} {a b c : Out} → Prints xs a b → Prints ys b c → Prints (xs ++ ys) a c
prints_then {xs} {ys} {a} p q = record {
  same_bytes = q.same_bytes ∙ p.same_bytes;
  holds = q.holds ∙ ap (put_all_in ys) p.holds ∙ sym (put_then xs ys (held a));
}

-- nothing is put
pub prints_none : (a : Out) → Prints [] a a
unfolding put_all_in
prints_none a = record { same_bytes = refl; holds = refl }

-- one text is put
pub prints_one : {text : List ℕ} {a b : Out} → b.bytes.ghost_name ≡ a.bytes.ghost_name → held b ≡ put_in text (held a) → Prints (text ∷ []) a b
unfolding put_all_in
prints_one n h = record { same_bytes = n; holds = h }
