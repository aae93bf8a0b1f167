-- What stands in the room when all that a walk meets is put, one thing after the other; and the answers by it.
-- Assumes nothing.
use mathlib.Core.Path.{◌≡◌, refl}
use mathlib.Core.Bool.{true, false}
use mathlib.Core.Option.{Option, none, some}
use mathlib.Core.List.{List, [], ◌∷◌, ◌++◌}
use Prim.Native.Nat.{ℕ}
use native.Mathlib.Omega.{arith}
use lib.ListN.{length}
use Rattle.refusals.specs.Refusals.{ill_formed_store, no_room}
use Rattle.tree.specs.Tree.{Tree}
use Rattle.limits.specs.Limits.{depth_limit}
use Rattle.store.specs.Rows.{number_room, cleared}
use Rattle.lists.specs.Options.{map_o}
use Rattle.nodes.specs.declared.Met.{Met}
use Rattle.shape.specs.Store.{tree_of, walk_root, walk_of}
use Rattle.shape.specs.Walk.{are_rows, whole_walk}
use Rattle.shape.proofs.Checks.{the_walk}
use Rattle.canonical_text.specs.Canonical.{canonical_text}
use Rattle.pen.specs.declared.Pen.{Pen}
use Rattle.pen.specs.Pen.{pen, ToPut, Emits}
use Rattle.pen.proofs.Written.{writes_full, writes_all}
use Rattle.std.specs.Prelude.{Option as Answer, Some, None}
use Rattle.store.specs.declared.WriteAnswer.{WriteAnswer}
use Rattle.store.specs.Answers.{refusal, wrote, Writes}
use Rattle.to_wkt.specs.Canonical.{store_text, put_met, put_all}
use Rattle.to_wkt.specs.Write.{Written}
use Rattle.to_wkt.specs.Put.{PutRows}
use Rattle.to_wkt.proofs.Trees.{put_both, put_is_text}

-- ---- the loop: of any text that begins with what was met, the rest is owed
abbrev pub Owed : List ℕ → List ℕ → Pen → List ℕ → List Met → Type 0
Owed text numbers p out ms = (rest : List ℕ) → ToPut (put_all text numbers ms rest) rest p out

pub owed_none : (text numbers out : List ℕ) → Owed text numbers (pen 0 false) out []
unfolding put_all
owed_none text numbers out rest = record { within = omega arith; held = refl }

pub owed_on : (text numbers : List ℕ) (m : Met) {p q : Pen} {out out' : List ℕ} → Emits (put_met text numbers m) p out q out' → (ms : List Met) → Owed text numbers p out ms → Owed text numbers q out' (ms ++ (m ∷ []))
unfolding put_all
owed_on text numbers m a ms h rest = rw (put_both text numbers ms (m ∷ []) rest) (a.to _ rest (h (put_met text numbers m rest)))

module _ (text numbers : List ℕ) {o : Option (List Met)} (p : Pen) (out : List ℕ) where
  pub put_done : (ms : List Met) → o ≡ some ms → Owed text numbers p out ms → PutRows text numbers o (Some p) out
  put_done ms e h = rw e (record { pen = p; is = refl; put = h [] })

  pub put_ill : o ≡ none → PutRows text numbers o None out
  put_ill e = rw e refl

-- a full pen owes nothing more
pub emits_full : {X : List ℕ → List ℕ} {p : Pen} (out : List ℕ) → p.full ≡ true → Emits X p out p out
emits_full out e = record { same = refl; to = λ goal rest l. record { within = l.within; held = rw e (rw e at l.held) } }

-- ---- the answers
-- the text that stands in the room, or has no room
pub record Stands (text nodes numbers : List ℕ) (p : Pen) (out : List ℕ) : Type 0 where
  pub bytes : List ℕ
  pub is : store_text text nodes numbers ≡ some bytes
  pub left : ToPut bytes [] p out

module _ (text nodes numbers : List ℕ) where
  no_text : walk_of text nodes numbers ≡ none → store_text text nodes numbers ≡ none
  unfolding walk_of store_text
  no_text e = go (tree_of text nodes numbers) e
    where
      go : (o : Option (Tree depth_limit)) → map_o walk_root o ≡ none → map_o canonical_text o ≡ none
      go none e = refl
      go (some t) e = let z : ◌≡◌ {A = ℕ} 0 1 = cc in absurd (omega arith)

  pub said_ill : {n room : ℕ} {r : WriteAnswer} {left : List ℕ} → n ≡ room → walk_of text nodes numbers ≡ none → Writes (refusal ill_formed_store) n r left → Written text nodes numbers room r left
  said_ill same w h = rw (no_text w, ← same) h

  -- by what the loop left
  module _ (rows : are_rows text nodes numbers ≡ true) (q : Answer Pen) (out : List ℕ) (h : PutRows text numbers (whole_walk nodes (number_room numbers)) q out) where
    by_walk : PutRows text numbers (walk_of text nodes numbers) q out
    by_walk = rw (the_walk text nodes numbers refl rows) h

    pub treeless : q ≡ None → walk_of text nodes numbers ≡ none
    treeless e = go (walk_of text nodes numbers) by_walk
      where
        go : (o : Option (List Met)) → PutRows text numbers o q out → o ≡ none
        go none h = refl
        go (some ms) h = cc (h.is)

    pub stands : (p : Pen) → q ≡ Some p → Stands text nodes numbers p out
    stands p good = go (walk_of text nodes numbers) refl by_walk
      where
        go : (o : Option (List Met)) → walk_of text nodes numbers ≡ o → PutRows text numbers o q out → Stands text nodes numbers p out
        go none e h = cc
        go (some ms) e h =
            let same : h.pen ≡ p = cc in
            record { bytes = put_all text numbers ms []; is = put_is_text text numbers nodes ms e; left = rw same at h.put }

module _ {text nodes numbers : List ℕ} {p : Pen} {out left : List ℕ} (s : Stands text nodes numbers p out) {room : ℕ} (same : length out ≡ room) where
  pub said_full : {r : WriteAnswer} → p.full ≡ true → Writes (refusal no_room) (length out) r left → Written text nodes numbers room r left
  said_full f h = rw s.is (writes_full s.left same f h)

  pub said_all : p.full ≡ false → left ≡ cleared out p.at → Written text nodes numbers room (wrote p.at) left
  said_all f e = rw s.is (writes_all s.left same f e)
