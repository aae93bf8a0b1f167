-- One argument for the four functions over a reader that step its cursor: `next` and `peek` of a reader that is lent, `take` and `look` of one by value.
-- Their codes differ by the function that is called alone, and their contracts by what that function answers. So both are parameters here: `callee` is the name by which the code calls it, and all that is known of
-- it is that it hands back `answer text cursor`. Each function's own proof puts the two in, and the code that Rattle makes of it is then, by computation, the one written here.
-- The reader is Copy: what it owns is had twice, one copy is kept, and the other gives what the callee asks.
-- Assumes nothing.
use mathlib.Core.Path.{◌≡◌, refl, ap}
use Prim.Native.Nat.{ℕ}
use mathlib.Core.List.{List, [], ◌∷◌}
use seplogic.Ra.Ura.{Ura}
use base.Fraction.{full_share}
use mir.Syntax.{Callee as Name, Lifetime, named, erased, Fn, seq, assign, call, return, place, copy, rv_opd, deref, field}
use mir.Val.{Val, vptr, vstruct}
use base.Logic.{SProp, ent, sep, emp, emp∗, comm∗, mono_l, via, fst∗}
use base.Fml.{GName, Lft, Share, Fml, ftrue, fat, flft, fobs, fbor}
use prog.Wp.{WpFn, Tables}
use types.Logic.{Logic, sem}
use contract.Lifetimes.{AllOutlive, Lfts}
use contract.Monad.{fact}
use types.Kit.{‵, raw, given, ◌⊛◌, ⋆, ◌$◌, ◌∵◌, !, qed, by, move, keep, drop, use1, use2, split, join, learn, rewrite, fsplit, fsplit3, fjoin, fjoin3, feq_i, suffices, frame, done}
use types.Part.{whole, sub, look_in, store_in}
use types.Run.{look, init, forget, stop, hop, fld, from, load, of_opd, and_then, no_more, assigns, land, returns, enter, alloc1, alloc0, params1, pass1, pass0, free1, free0}
use types.SemTy.{Body as Within}
use sound.WpLaws.{fm_of, WpFn-mono}
use denote.RattleType.{RattleType, owns}
use denote.Laws.{Is, shows}
use denote.Memory.{mem, cell_at, pointee}
use denote.Builtin.{u8}
use denote.Exit.{yes}
use denote.Ref.{MutBor, MutRef, mut_vals, mut_Tells}
use denote.Signature.{Slot, plain, named_lft}
use denote.Slice.{ShrSlice}
use denote.Steps.{only, opens, closes, peeks, nothing}
use denote.Struct.Declared.{Declared}
use denote.Struct.Laws as LL
use denote.Struct.Rest.{all_own, own_open, own_put}
use denote.Struct.At.{spelled}
use denote.Struct.Steps.{spelt}
use denote.Triple.Statement.{Contract, Triple}
use denote.Triple.Clauses.{Clauses, closing, at_exit}
use denote.Triple.Entry.{Args, Vals, on_entry, alive}
use denote.Triple.Spec.{Meets, triple_of}
use denote.Triple.Walked.{says, Stays, stay_ref, stay_none, walk_of, Goes-ref, Goes-none, ends_at, walked, walk_Meets}
use Rattle.token_reader.specs.Reader.{reader}
use Rattle.token_reader.proofs.Told.{Stated, states, Told, Ends, Walk, met, told}
use Rattle.token_reader.proofs.Parts.{α, D, L, R, mach, own, B, kval, tval, by_value, slice}
use Rattle.token_reader.specs.declared.Tokens.{Tokens}
use Rattle.tokenizer.specs.declared.Cursor.{Cursor}
use Rattle.tokenizer.specs.declared.Step.{Step}
use Rattle.tokenizer.specs.contracts.Cursor as K
use Rattle.tokenizer.proofs.Cursor.TheLaws as K'
use Rattle.token.specs.contracts.Found as F
use Rattle.token.proofs.Found.TheLaws as F'
use Rattle.tokenizer.specs.contracts.Step as S
use Rattle.tokenizer.proofs.Step.TheLaws as S'
use Rattle.token_reader.specs.contracts.Tokens as T
use Rattle.token_reader.proofs.Tokens.TheLaws as T'
use Rattle.tokenizer.specs.contracts.Cursor.take as step
use Rattle.token_reader.specs.contracts.Tokens.next as lent
use Rattle.token_reader.specs.contracts.Tokens.take as value

-- ---- the codes, over the name of the function that is called
-- `let step = self.cursor.CALLEE(self.text); self.cursor = step.next; step.found`
abbrev pub lent_code : Name → Fn
lent_code callee = record {
  lifetimes = 2;
  outlives = (1, 0) ∷ [];
  ty_params = [];
  givens = 0;
  params = 1;
  locals = by_value F'.mir ∷ by_value (pointee (MutRef (named 0) [] (T.the_row (record { mir = named 1; lft = [] }))).written) ∷ by_value S'.mir ∷ by_value K'.mir ∷ by_value (slice erased) ∷ by_value K'.mir ∷ [];
  body =
      seq (assign (place 3 []) (rv_opd (copy (place 1 (deref (T'.mir erased) ∷ field 1 ∷ [])))))
      (seq (assign (place 4 []) (rv_opd (copy (place 1 (deref (T'.mir erased) ∷ field 0 ∷ [])))))
      (seq (call callee (copy (place 3 []) ∷ copy (place 4 []) ∷ []) (place 2 []))
      (seq (assign (place 5 []) (rv_opd (copy (place 2 (field 1 ∷ [])))))
      (seq (assign (place 1 (deref (T'.mir erased) ∷ field 1 ∷ [])) (rv_opd (copy (place 5 []))))
      (seq (assign (place 0 []) (rv_opd (copy (place 2 (field 0 ∷ []))))) return)))));
}

-- `self.cursor.CALLEE(self.text)`
abbrev pub value_code : Name → Fn
value_code callee = record {
  lifetimes = 1;
  outlives = [];
  ty_params = [];
  givens = 0;
  params = 1;
  locals = by_value S'.mir ∷ by_value (T'.mir (named 0)) ∷ by_value K'.mir ∷ by_value (slice erased) ∷ [];
  body =
      seq (assign (place 2 []) (rv_opd (copy (place 1 (field 1 ∷ [])))))
      (seq (assign (place 3 []) (rv_opd (copy (place 1 (field 0 ∷ [])))))
      (seq (call callee (copy (place 2 []) ∷ copy (place 3 []) ∷ []) (place 0 [])) return));
}

-- ---- the contracts, over what the callee answers
abbrev pub Answer : Type 0
Answer = List ℕ → Cursor → Step

module _ (answer : Answer) where
  -- the step that the callee answers of what a reader holds
  abbrev pub of : Tokens → Step
  of h = answer h.text.now h.cursor

  abbrev answers : Stated step.ended
  answers κs a r = r ≡ answer a.1.0.now a.0

  abbrev pub stepped : Stated value.ended
  stepped κs a r = r ≡ of a.0

module _ {M : Type 1} {𝓤 : Ura M} (𝓛 : Logic 𝓤) (answer : Answer) where
  abbrev pub Callee : Contract 𝓤
  Callee = Told 𝓛 step.ended (answers answer)

  abbrev lent_clauses : Clauses 𝓤 lent.ended
  lent_clauses κs a = record { ghost = Unit {0}; requires = λ _. emp 𝓤; ensures = λ _ r e. fact 𝓤 ((r ≡ (of answer a.0.now).found) × (e.0.now ≡ reader a.0.now.text (of answer a.0.now).next)) }

  abbrev pub Lent : Contract 𝓤
  Lent = triple_of 𝓛 lent.signature (closing 𝓛 lent.ended lent_clauses)

-- ---- what both walks do with the reader h: what the callee is passed, and what that owns
module _ (κ : Lft) (h : Tokens) where
  abbrev passed : Vals step.signature (κ, tt)
  passed = (kval h.cursor ∷ [], (tval h.text ∷ [], tt))

  abbrev asked : Fml
  asked = owns (K.the_row ∷ ShrSlice (named 0) κ u8 ∷ []) (h.cursor, (h.text, tt)) passed

module _ {M : Type 1} {𝓤 : Ura M} (𝓛 : Logic 𝓤) (κ : Lft) (h : Tokens) where
  abbrev to : (answer : Answer) → Share → (Callee 𝓛 answer).Ghost
  to answer q = (((κ, tt), (q, tt), tt, (h.cursor, (h.text, tt)), passed κ h), tt)

  -- what the struct owns gives what the callee is passed, the cursor first, and is kept
  apart : (ℓ : Lifetime) → ent 𝓤 (sem 𝓛 (own ℓ κ h)) (sep 𝓤 (sem 𝓛 (asked κ h)) (sem 𝓛 (own ℓ κ h)))
  apart ℓ =
      qed 𝓛 (‵ (own ℓ κ h) ∷ []) ∵ use1 𝓛 (‵ (own ℓ κ h) ⊛ ‵ (own ℓ κ h)) ((LL.copy (D ℓ κ) (T'.the_copy (α ℓ κ)) 𝓛).twice h (mach ℓ κ h ∷ [])) $ split ! $
      use1 𝓛 (given (mach ℓ κ h ∷ [] ≡ vstruct (spelled (D ℓ κ).parts (L ℓ κ) (h.text, (h.cursor, tt))) ∷ []) (‵ (all_own (D ℓ κ).parts (L ℓ κ) (h.text, (h.cursor, tt))))) (own_open 𝓛 (D ℓ κ) (L ℓ κ) (h.text, (h.cursor, tt)) (mach ℓ κ h)) $ learn ! (λ _.
      fsplit ! $ move ! (1 ∷ []) $ fsplit ! $ move ! (2 ∷ 1 ∷ []) $ fjoin ! $ move ! (1 ∷ 0 ∷ []) $ fjoin ! $ frame ! $ done !)

-- ---- a reader by value
abbrev value_stayed : Stays (value.ended).signature.params (value.ended).kept
value_stayed = (stay_none B yes, tt)

module _ {M : Type 1} {𝓤 : Ura M} (𝓛 : Logic 𝓤) (callee : Name) (answer : Answer) where
  open 𝓛 use {H}

  module _ (κ : Lft) (q : Share) (h : Tokens) where
    -- the struct's machine value, and what it owns
    abbrev v : Val
    v = mach (named 0) κ h

    abbrev Own : Fml
    Own = own (named 0) κ h

    abbrev value_passed : (Told 𝓛 value.ended (stepped answer)).Ghost
    value_passed = (((κ, tt), (q, tt), tt, (h, tt), (v ∷ [], tt)), tt)

    value_exits : (r : Step) (u : Val) → r ≡ of answer h → ent 𝓤 (⋆ 𝓛 (‵ ((S.the_row).own_val r (u ∷ [])) ∷ (‵ (flft κ q) ⊛ ‵ ftrue) ∷ ‵ Own ∷ [])) (Ends 𝓛 value.ended value_stayed (stepped answer) value_passed u)
    value_exits r u e =
        qed 𝓛 (‵ ((S.the_row).own_val r (u ∷ [])) ∷ (‵ (flft κ q) ⊛ ‵ ftrue) ∷ ‵ Own ∷ []) ∵
        suffices ! _ (ends_at 𝓛 value.ended value_stayed (states 𝓤 value.ended (stepped answer)) value_passed u r (tt, tt) (tt, tt)) $ says ! e $
        move ! (1 ∷ []) $ frame ! $ nothing ! $ move ! (2 ∷ 0 ∷ []) $ fjoin ! $ frame ! $ done !

    module _ (𝓣 : Tables 𝓤 H) (known : Triple 𝓤 (𝓣.C callee) (Callee 𝓛 answer)) where
      value_walk : Is (B (κ, tt)) h (v ∷ []) → Walk 𝓛 value.ended value_stayed (stepped answer) 𝓣 (value_code callee) value_passed
      value_walk own_is =
          qed 𝓛 (raw (alive 𝓛 value.signature (κ, tt) (q, tt)) ∷ ‵ (owns (B (κ, tt) ∷ []) (h, tt) (v ∷ [], tt)) ∷ []) ∵ enter ! 𝓣.C 𝓣.Λ (value_code callee) (v ∷ []) _ $
          alloc1 ! (λ l₀. alloc1 ! (λ l₁. alloc1 ! (λ l₂. alloc1 ! (λ l₃. alloc0 ! $ params1 ! $ pass1 ! (init ! 4 refl ((LL.lawful (D (named 0) κ) (L (named 0) κ) 𝓛).typed h _ own_is).0) $ pass0 ! $
          assigns ! (of_opd ! (load ! (from ! (fld ! refl (stop !))) (look_in ! 4 (sub ! 1 refl (whole !))))) (from ! (stop !)) (init ! 2 refl ((LL.lawful K.the_type K'.the_laws 𝓛).typed h.cursor _ (LL.owed (D (named 0) κ) (L (named 0) κ) h _ own_is).1.0).0) $
          assigns ! (of_opd ! (load ! (from ! (fld ! refl (stop !))) (look_in ! 4 (sub ! 0 refl (whole !))))) (from ! (stop !)) (init ! 0 refl (tt, ((LL.lawful (D (named 0) κ) (L (named 0) κ) 𝓛).typed h _ own_is).0.1.0)) $
          -- [room for _3; …; _2; …; _1; …; room for _0; …; the token and true; what the struct owns]
          move ! (9 ∷ []) $ fsplit ! $ move ! (1 ∷ []) $ drop ! $ use1 𝓛 (‵ (asked κ h) ⊛ ‵ Own) (apart 𝓛 κ h (named 0)) $ split ! $ move ! (10 ∷ []) $
          told ! (fm_of 𝓤 H 𝓛.laws 𝓣) step.ended (answers answer) known (to 𝓛 κ h answer q) (and_then ! (load ! (from ! (stop !)) (look ! 4 refl)) (and_then ! (load ! (from ! (stop !)) (look ! 2 refl)) (no_more !))) (λ u r e is.
          -- [the result; the token; what the struct owns; _3; …; _2; …; _1; …; room for _0; …]
          land ! (from ! (stop !)) (init ! 9 refl ((LL.lawful S.the_type S'.the_laws 𝓛).typed r _ is).0) $
          returns ! (look ! 9 refl) $ forget ! 3 refl $ forget ! 5 refl $ forget ! 7 refl $ forget ! 9 refl $
          move ! (9 ∷ 10 ∷ []) $ free1 ! $ move ! (7 ∷ 8 ∷ []) $ free1 ! $ move ! (5 ∷ 6 ∷ []) $ free1 ! $ move ! (3 ∷ 4 ∷ []) $ free1 ! $ free0 ! $ by ! (value_exits r u e))))))

  pub value_meets : (𝓣 : Tables 𝓤 H) → Triple 𝓤 (𝓣.C callee) (Callee 𝓛 answer)
      → Meets 𝓛 value.signature (WpFn 𝓤 H 𝓣.C 𝓣.Λ (value_code callee)) (closing 𝓛 value.ended (states 𝓤 value.ended (stepped answer)))
  value_meets 𝓣 known = met 𝓛 value.ended value_stayed (stepped answer) (Goes-none 𝓛 1 B yes (λ κs x f. refl), tt) (λ κs. (LL.vals (D (named 0) κs.0) (L (named 0) κs.0), tt)) (λ κs. (LL.tells (D (named 0) κs.0) (L (named 0) κs.0), tt)) 𝓣 (value_code callee)
      (λ κs qs bounds a are. value_walk κs.0 qs.0 a.0 𝓣 known are.0)

-- ---- a reader that is lent: the borrow is opened, which gives the struct's cell and what the struct owns; the next cursor is stored in the cell beside the text, and the borrow is closed at the new record
-- `Tokens<'a>`, as the referent's place in the signature
abbrev behind : Slot 2
behind = plain (λ κs. T.the_row (named_lft 2 1 tt κs))

abbrev lent_stayed : Stays (lent.ended).signature.params (lent.ended).kept
lent_stayed = (stay_ref (0 ∷ []) tt behind, tt)

-- the reader of h's text, at the next cursor of a step
abbrev pub on : Tokens → Step → Tokens
on h r = reader h.text r.next

-- the machine value of what a step found
abbrev fval : Step → Val
fval r = (F'.the_field_laws).val ((F.the_field).into r.found)

-- what can be shown of nothing stands beside anything
beside : {M : Type 1} (𝓤 : Ura M) (P Q : SProp 𝓤) → ent 𝓤 (emp 𝓤) Q → ent 𝓤 P (sep 𝓤 P Q)
beside 𝓤 P Q h = via 𝓤 (sep 𝓤 (emp 𝓤) P) (emp∗ 𝓤 P) (via 𝓤 (sep 𝓤 Q P) (mono_l 𝓤 P h) (comm∗ 𝓤 Q P))

-- the contract is the function's own: it is shown to hold at a step r that is the callee's answer
module _ {M : Type 1} {𝓤 : Ura M} (𝓛 : Logic 𝓤) (callee : Name) (answer : Answer) (c : Clauses 𝓤 lent.ended)
    (shown : (κs : Lfts 2) (a : Args lent.signature κs) (g : (c κs a).ghost) (r : Step) → r ≡ of answer a.0.now → ent 𝓤 (emp 𝓤) ((c κs a).ensures g r.found (at_exit lent.ended κs a (on a.0.now r, tt)))) where
  open 𝓛 use {H}

  module _ (κ κ' : Lft) (bounds : AllOutlive 2 (lent.signature).outlives (κ, (κ', tt))) (q q' : Share) (b o : ℕ) (γ : GName) (h : Tokens) (g : (c (κ, (κ', tt)) (record { ref_ptr = (b, o); ghost_name = γ; now = h }, tt)).ghost) where
    -- the struct's type, laws and machine values
    abbrev Dₗ : Declared
    Dₗ = D (named 1) κ'

    abbrev Lₗ : LL.Laws Dₗ
    Lₗ = L (named 1) κ'

    abbrev Rₗ : RattleType
    Rₗ = R (named 1) κ'

    abbrev val : Tokens → Val
    val t = mach (named 1) κ' t

    abbrev x : MutBor Tokens × Unit {0}
    x = (record { ref_ptr = (b, o); ghost_name = γ; now = h }, tt)

    abbrev at : List Val × Unit {0}
    at = (vptr b o ∷ [], tt)

    abbrev lent_post : Val → SProp 𝓤
    lent_post = (walk_of 𝓛 lent.ended lent_stayed c).post (((κ, (κ', tt)), (q, (q', tt)), bounds, x, at), g)

    -- what the text owns is kept, and what the next cursor owns takes the place of the old one's
    again : (r : Step) → ent 𝓤 (sep 𝓤 (sem 𝓛 (own (named 1) κ' h)) (sem 𝓛 ((K.the_row).own_val r.next (kval r.next ∷ [])))) (sem 𝓛 (own (named 1) κ' (on h r)))
    again r = own_put 𝓛 Dₗ Lₗ 1 (h.text, (h.cursor, tt)) r.next (val h)

    lent_exits : (r : Step) → r ≡ of answer h → ent 𝓤 (⋆ 𝓛 (‵ (fobs γ (Rₗ.coded.code (on h r))) ∷ ‵ (fbor κ (Within (mem Rₗ) b o γ)) ∷ ‵ (flft κ q) ∷ (‵ (flft κ' q') ⊛ ‵ ftrue) ∷ ‵ ((F.the_row).own_val r.found (fval r ∷ [])) ∷ [])) (lent_post (fval r))
    lent_exits r e =
        qed 𝓛 (‵ (fobs γ (Rₗ.coded.code (on h r))) ∷ ‵ (fbor κ (Within (mem Rₗ) b o γ)) ∷ ‵ (flft κ q) ∷ (‵ (flft κ' q') ⊛ ‵ ftrue) ∷ ‵ ((F.the_row).own_val r.found (fval r ∷ [])) ∷ []) ∵
        suffices ! _ (via 𝓤 _ (beside 𝓤 _ _ (shown (κ, (κ', tt)) x g r e)) (ends_at 𝓛 lent.ended lent_stayed c (((κ, (κ', tt)), (q, (q', tt)), bounds, x, at), g) (fval r) r.found (on h r, tt) (tt, tt))) $
        move ! (2 ∷ 3 ∷ []) $ join ! $ frame ! $ feq_i ! (List Val) (vptr b o ∷ []) (vptr b o ∷ []) refl $ fjoin3 ! $ nothing ! $ move ! (1 ∷ 0 ∷ []) $ fjoin ! $ done !

    module _ (𝓣 : Tables 𝓤 H) (known : Triple 𝓤 (𝓣.C callee) (Callee 𝓛 answer)) where
      lent_walk : ent 𝓤 (on_entry 𝓛 lent.signature (κ, (κ', tt)) (q, (q', tt)) x at) (WpFn 𝓤 H 𝓣.C 𝓣.Λ (lent_code callee) (vptr b o ∷ []) lent_post)
      lent_walk =
          qed 𝓛 ((‵ (flft κ q) ⊛ raw (alive 𝓛 step.signature (κ', tt) (q', tt))) ∷ ‵ (owns (MutRef (named 0) κ Rₗ ∷ []) x at) ∷ []) ∵ enter ! 𝓣.C 𝓣.Λ (lent_code callee) (vptr b o ∷ []) _ $
          alloc1 ! (λ l₀. alloc1 ! (λ l₁. alloc1 ! (λ l₂. alloc1 ! (λ l₃. alloc1 ! (λ l₄. alloc1 ! (λ l₅. alloc0 ! $ params1 ! $ pass1 ! (init ! 8 refl (tt, tt)) $ pass0 ! $
          -- the borrow is opened
          move ! (13 ∷ []) $ fsplit ! $ fsplit3 ! $ drop ! $ move ! (15 ∷ []) $ split ! $ move ! (2 ∷ 3 ∷ 0 ∷ []) $
          opens ! tt Rₗ {h = h} b o (λ vs. spelt ! Rₗ (Is Rₗ) (shows 𝓛 Rₗ) (LL.vals Dₗ Lₗ) (LL.tells Dₗ Lₗ) full_share h vs b o $
          use1 𝓛 (‵ (fat full_share (T'.mir erased) b o (val h))) (𝓛.laws.raw_at full_share (T'.mir erased) b o (val h)) $
          move ! (1 ∷ []) $ peeks ! Rₗ (Is Rₗ) (shows 𝓛 Rₗ) h (val h ∷ []) (λ was. move ! (1 ∷ 0 ∷ []) $
          -- [the struct's cell; what the struct owns; the open borrow; obs; auth; 'a's token; true; _5; …; _4; …; _3; …; _2; …; _1; …; room for _0; …]
          assigns ! (of_opd ! (load ! (from ! (hop ! (look ! 15 refl) (fld ! refl (stop !)))) (look_in ! 0 (sub ! 1 refl (whole !))))) (from ! (stop !)) (init ! 11 refl ((LL.lawful K.the_type K'.the_laws 𝓛).typed h.cursor _ (LL.owed Dₗ Lₗ h _ was).1.0).0) $
          assigns ! (of_opd ! (load ! (from ! (hop ! (look ! 15 refl) (fld ! refl (stop !)))) (look_in ! 0 (sub ! 0 refl (whole !))))) (from ! (stop !)) (init ! 9 refl (tt, ((LL.lawful Dₗ Lₗ 𝓛).typed h _ was).0.1.0)) $
          move ! (1 ∷ []) $ use1 𝓛 (‵ (asked κ' h) ⊛ ‵ (own (named 1) κ' h)) (apart 𝓛 κ' h (named 1)) $ split ! $ move ! (6 ∷ 0 ∷ []) $
          -- [what the callee asks; what the struct owns; the struct's cell; the open borrow; obs; auth; true; _5; …; _4; …; _3; …; _2; …; _1; …; room for _0; …]
          told ! (fm_of 𝓤 H 𝓛.laws 𝓣) step.ended (answers answer) known (to 𝓛 κ' h answer q') (and_then ! (load ! (from ! (stop !)) (look ! 11 refl)) (and_then ! (load ! (from ! (stop !)) (look ! 9 refl)) (no_more !))) (λ u r e is.
          -- [what the step owns; 'a's token; what the struct owns; the struct's cell; the open borrow; obs; auth; true; _5; …; _4; …; _3; …; room for _2; …; _1; …; room for _0; …]
          land ! (from ! (stop !)) (init ! 14 refl ((LL.lawful S.the_type S'.the_laws 𝓛).typed r _ is).0) $
          rewrite ! 14 (λ (w : Val). ‵ (fat full_share S'.mir l₂ 0 w)) (ap only (LL.tells S.the_type S'.the_laws r _ is)) refl $
          assigns ! (of_opd ! (load ! (from ! (fld ! refl (stop !))) (look_in ! 14 (sub ! 1 refl (whole !))))) (from ! (stop !)) (init ! 8 refl ((LL.lawful K.the_type K'.the_laws 𝓛).typed r.next _ (LL.owed S.the_type S'.the_laws r _ is).1.0).0) $
          assigns ! (of_opd ! (load ! (from ! (stop !)) (look ! 8 refl))) (from ! (hop ! (look ! 16 refl) (fld ! refl (stop !)))) (store_in ! 3 (sub ! 1 refl (whole !)) ((LL.lawful K.the_type K'.the_laws 𝓛).typed r.next _ (LL.owed S.the_type S'.the_laws r _ is).1.0).0) $
          assigns ! (of_opd ! (load ! (from ! (fld ! refl (stop !))) (look_in ! 14 (sub ! 0 refl (whole !))))) (from ! (stop !)) (init ! 18 refl (((F'.the_field_laws).lawful 𝓛).typed ((F.the_field).into r.found) _ (LL.owed S.the_type S'.the_laws r _ is).0).0) $
          -- what the step owns is taken apart: the next cursor goes into the struct, and what was found is the result
          use1 𝓛 (given (u ∷ [] ≡ vstruct (spelled (S.the_type).parts S'.the_laws (r.found, (r.next, tt))) ∷ []) (‵ (all_own (S.the_type).parts S'.the_laws (r.found, (r.next, tt))))) (own_open 𝓛 S.the_type S'.the_laws (r.found, (r.next, tt)) u) $ learn ! (λ _.
          fsplit ! $ move ! (1 ∷ []) $ fsplit ! $
          -- [what the next cursor owns; true; what was found owns; 'a's token; what the struct owns; the struct's cell; the open borrow; obs; auth; true; …]
          move ! (4 ∷ 0 ∷ []) $ use2 𝓛 (‵ (own (named 1) κ' (on h r))) (again r) $
          move ! (4 ∷ 0 ∷ 5 ∷ 6 ∷ 7 ∷ []) $ use1 𝓛 (‵ (cell_at full_share Rₗ.mir (val (on h r) ∷ []) b o)) (𝓛.laws.at_raw full_share (T'.mir erased) b o (val (on h r))) $
          closes ! tt Rₗ (on h r) (val (on h r) ∷ []) b o $
          -- [obs; the borrow; its token; true; what was found owns; 'a's token; true; _5; …; _4; …; _3; …; _2; …; _1; …; _0; …]
          returns ! (look ! 17 refl) $ forget ! 7 refl $ forget ! 9 refl $ forget ! 11 refl $ forget ! 13 refl $ forget ! 15 refl $ forget ! 17 refl $
          move ! (17 ∷ 18 ∷ []) $ free1 ! $ move ! (15 ∷ 16 ∷ []) $ free1 ! $ move ! (13 ∷ 14 ∷ []) $ free1 ! $ move ! (11 ∷ 12 ∷ []) $ free1 ! $ move ! (9 ∷ 10 ∷ []) $ free1 ! $ move ! (7 ∷ 8 ∷ []) $ free1 ! $ free0 ! $
          keep ! (0 ∷ 1 ∷ 2 ∷ 5 ∷ 4 ∷ []) $ by ! (lent_exits r e)))))))))))

  pub lent_meets : (𝓣 : Tables 𝓤 H) → Triple 𝓤 (𝓣.C callee) (Callee 𝓛 answer) → Meets 𝓛 lent.signature (WpFn 𝓤 H 𝓣.C 𝓣.Λ (lent_code callee)) (closing 𝓛 lent.ended c)
  lent_meets 𝓣 known = walk_Meets 𝓛 lent.ended lent_stayed (Goes-ref 𝓛 2 0 tt behind, tt) c (WpFn 𝓤 H 𝓣.C 𝓣.Λ (lent_code callee)) (WpFn-mono 𝓤 H 𝓛.laws 𝓣 (lent_code callee))
      (walked 𝓛 lent.ended lent_stayed c (WpFn 𝓤 H 𝓣.C 𝓣.Λ (lent_code callee)) (λ κs. (mut_vals, tt)) (λ κs. (mut_Tells (named 0) κs.0 (T.the_row (named_lft 2 1 tt κs)), tt))
      (λ κs qs bounds a g are. via 𝓤 _ (fst∗ 𝓤 _ ((c κs a).requires g)) (lent_walk κs.0 κs.1.0 bounds qs.0 qs.1.0 a.0.ref_ptr.0 a.0.ref_ptr.1 a.0.ghost_name a.0.now g 𝓣 known)))
