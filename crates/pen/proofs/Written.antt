-- What a writer answers whose pen has put its bytes, by whether the pen has turned full.
-- Assumes nothing.
use mathlib.Core.Path.{◌≡◌, ap, sym, subst, ◌∙◌}
use mathlib.Core.Bool.{Bool, true, false}
use mathlib.Core.List.{List, [], ◌++◌, append-nil}
use Prim.Native.Nat.{ℕ, ◌<◌}
use native.Mathlib.Omega.{arith}
use borrow.Author.Tests.{le-leb, lt-leb}
use lib.ListN.{length, take}
use lib.Seq.{length-take-le}
use Rattle.refusals.specs.Refusals.{no_room}
use Rattle.store.specs.declared.WriteAnswer.{WriteAnswer}
use Rattle.store.specs.Rows.{cleared}
use Rattle.store.specs.Answers.{bytes, refusal, wrote, Writes}
use Rattle.store.proofs.Zeros.{cleared_padded}
use Rattle.pen.specs.declared.Pen.{Pen}
use Rattle.pen.specs.Pen.{HasPut, ToPut}

module _ {goal : List ℕ} {p : Pen} {out : List ℕ} (all : ToPut goal [] p out) {room : ℕ} (same : length out ≡ room) where
  pub writes_full : {r : WriteAnswer} {left : List ℕ} → p.full ≡ true → Writes (refusal no_room) (length out) r left → Writes (bytes goal) room r left
  writes_full f h =
      let l : length out < length goal = subst (λ (b : Bool). HasPut b goal [] p.at out) f all.held in
      let t = lt-leb (length goal) room (omega arith) in
      record { answer = rw t h.answer; bytes = rw t (rw same at h.bytes) }

  pub writes_all : {left : List ℕ} → p.full ≡ false → left ≡ cleared out p.at → Writes (bytes goal) room (wrote p.at) left
  writes_all f e =
      let l : take p.at out ++ [] ≡ goal = subst (λ (b : Bool). HasPut b goal [] p.at out) f all.held in
      let g : goal ≡ take p.at out = sym l ∙ append-nil (take p.at out) in
      let n : length goal ≡ p.at = ap length g ∙ length-take-le p.at out all.within in
      let t = le-leb (length goal) room (omega (arith, all.within)) in
      record { answer = rw (t, n); bytes = rw t (e ∙ cleared_padded out goal p.at g all.within ∙ rw same) }
