-- One argument for the four functions that go from a slice and a cursor through a reader: `take_from` and `look_from` by a reader by value, `next_from` and `peek_from` by a reader that is lent.
-- As in Stepping, the function that is called on the reader is a parameter: `callee` is its name, and all that is known of it is that it steps the reader's cursor by `answer`.
-- A `&[u8]` is Copy: what it owns is had twice, once for the text at exit, and once for the reader.
-- Assumes nothing.
use mathlib.Core.Path.{◌≡◌, refl, ap, ◌∙◌}
use Prim.Native.Nat.{ℕ}
use mathlib.Core.List.{List, [], ◌∷◌}
use seplogic.Ra.Ura.{Ura}
use base.Fraction.{full_share, left, right}
use mir.Syntax.{Callee as Name, named, erased, w8, Fn, local, memory_slot, seq, assign, call, return, place, copy, rv_opd, addr_of, aggregate, field}
use mir.Val.{Val, vptr}
use base.Logic.{ent, id⊢}
use base.Fml.{GName, Lft, Share, ftrue, fsep, fat, flft, fdead, flent}
use prog.Wp.{WpFn, Tables}
use types.Logic.{Logic}
use contract.BorrowLft.{meet_⊑_left, meet_⊑_right}
use contract.Monad.{fact}
use types.Kit.{‵, raw, ◌⊛◌, ⋆, some, later, ◌$◌, ◌∵◌, !, qed, by, move, drop, use1, use2, use3, split, join, pick, rewrite, fsplit, fjoin, fpick, fpack, suffices, frame, await, done}
use types.Part.{agg, whole, sub, look_in}
use types.Run.{look, init, forget, stop, fld, from, load, addr, of_opd, and_then, no_more, assigns, land, returns, enter, alloc1, alloc0, params1, pass1, pass0, free1, free0}
use types.SemTy.{Body}
use types.Tokens.{lft_new, lft_end}
use sound.WpLaws.{fm_of}
use denote.RattleType.{owns}
use denote.Laws.{Is, shows}
use denote.Lend.{lends_ref, ref_back}
use denote.Memory.{mem, cell_at, part_at, part_of, pointee}
use denote.Builtin.{u8}
use denote.Exit.{yes}
use denote.Plain.{uint_row_laws}
use denote.Ref.{Bor, MutBor, MutRef}
use denote.Signature.{plain}
use denote.Slice.{ShrSlice, shr_slice_vals, shr_slice_Tells, shr_slice_Lawful, shr_slice_copy}
use denote.Steps.{only, owned, peeks, heard, nothing}
use denote.Struct.Laws as LL
use denote.Struct.Rest.{own_shut}
use denote.Struct.Steps.{spelt}
use denote.Triple.Statement.{Triple}
use denote.Triple.Call.{calls_at}
use denote.Triple.Clauses.{closing, lasts}
use denote.Triple.Entry.{alive}
use denote.Triple.Spec.{Meets}
use denote.Triple.Walked.{says, Stays, stay_none, stay_none_slice, Goes-none, Goes-none_slice, ends_at}
use Rattle.tokenizer.specs.Tokens.{step}
use Rattle.token.specs.declared.Found.{Found}
use Rattle.tokenizer.specs.declared.Cursor.{Cursor}
use Rattle.tokenizer.specs.declared.Step.{Step}
use Rattle.token_reader.specs.Reader.{reader}
use Rattle.token_reader.specs.declared.Tokens.{Tokens}
use Rattle.tokenizer.specs.contracts.Cursor as K
use Rattle.tokenizer.proofs.Cursor.TheLaws as K'
use Rattle.token.specs.contracts.Found as F
use Rattle.token.proofs.Found.TheLaws as F'
use Rattle.tokenizer.specs.contracts.Step as S
use Rattle.tokenizer.proofs.Step.TheLaws as S'
use Rattle.token_reader.proofs.Tokens.TheLaws as T'
use Rattle.token_reader.proofs.Loan.{Back, begins, ends}
use Rattle.token_reader.proofs.Told.{Stated, states, Told, Ends, Walk, met, told}
use Rattle.token_reader.proofs.Parts.{D, L, R, mach, kval, tval, text_own, by_value, slice}
use Rattle.token_reader.proofs.Making.{made, made_at_start, moved_to}
use Rattle.token_reader.proofs.Stepping.{Answer, of, stepped, Lent}
use Rattle.token_reader.specs.contracts.Tokens.new as new
use Rattle.token_reader.proofs.Tokens.new.Symbol.{name as #new}
use Rattle.token_reader.specs.contracts.Tokens.from_slice as from_slice
use Rattle.token_reader.proofs.Tokens.from_slice.Symbol.{name as #from_slice}
use Rattle.token_reader.specs.contracts.Tokens.moved as moved
use Rattle.token_reader.proofs.Tokens.moved.Symbol.{name as #moved}
use Rattle.token_reader.specs.contracts.Tokens.next as lent
use Rattle.token_reader.specs.contracts.Tokens.take as value
use Rattle.token_reader.specs.contracts.take_from as through

-- ---- the codes, over the name of the function that is called on the reader
-- `Tokens::from_slice(text).moved(cursor).CALLEE()`
abbrev pub value_code : Name → Fn
value_code callee = record {
  lifetimes = 1;
  outlives = [];
  ty_params = [];
  givens = 0;
  params = 2;
  locals = by_value S'.mir ∷ by_value (slice (named 0)) ∷ by_value K'.mir ∷ by_value (T'.mir erased) ∷ by_value (T'.mir erased) ∷ [];
  body =
      seq (call #from_slice (copy (place 1 []) ∷ []) (place 4 []))
      (seq (call #moved (copy (place 4 []) ∷ copy (place 2 []) ∷ []) (place 3 []))
      (seq (call callee (copy (place 3 []) ∷ []) (place 0 [])) return));
}

-- `let mut tokens = Tokens::new(text, cursor); let found = tokens.CALLEE(); Step { found, next: tokens.cursor }`
abbrev pub lent_code : Name → Fn
lent_code callee = record {
  lifetimes = 1;
  outlives = [];
  ty_params = [];
  givens = 0;
  params = 2;
  locals = by_value S'.mir ∷ by_value (slice (named 0)) ∷ by_value K'.mir ∷ local (T'.mir erased) memory_slot ∷ by_value F'.mir ∷ by_value (T'.mir erased) ∷ by_value (pointee (MutRef erased [] (R erased [])).written) ∷ by_value K'.mir ∷ [];
  body =
      seq (call #new (copy (place 1 []) ∷ copy (place 2 []) ∷ []) (place 5 []))
      (seq (assign (place 3 []) (rv_opd (copy (place 5 []))))
      (seq (assign (place 6 []) (addr_of (place 3 [])))
      (seq (call callee (copy (place 6 []) ∷ []) (place 4 []))
      (seq (assign (place 7 []) (rv_opd (copy (place 3 (field 1 ∷ [])))))
      (seq (assign (place 0 []) (aggregate (copy (place 4 []) ∷ copy (place 7 []) ∷ []))) return)))));
}

-- ---- the contract
abbrev stayed : Stays (through.ended).signature.params (through.ended).kept
stayed = (stay_none_slice (0 ∷ []) tt (plain (λ _. u8)) yes, (stay_none (λ _. K.the_row) yes, tt))

module _ {M : Type 1} {𝓤 : Ura M} (𝓛 : Logic 𝓤) (callee : Name) (answer : Answer) where
  open 𝓛 use {H}

  abbrev answered : Stated through.ended
  answered κs a r = r ≡ answer a.0.now a.1.0

  module _ (κ : Lft) (q : Share) (s : Bor (List ℕ)) (n : Cursor) (ok : Is K.the_row n (kval n ∷ [])) where
    abbrev passed : (Told 𝓛 through.ended answered).Ghost
    passed = (((κ, tt), (q, tt), tt, (s, (n, tt)), (tval s ∷ [], (kval n ∷ [], tt))), tt)

    exits : (t : Step) (u : Val) → t ≡ answer s.now n → ent 𝓤 (⋆ 𝓛 (‵ ((S.the_row).own_val t (u ∷ [])) ∷ (‵ (flft κ q) ⊛ ‵ ftrue) ∷ ‵ (text_own κ s) ∷ [])) (Ends 𝓛 through.ended stayed answered passed u)
    exits t u e =
        qed 𝓛 (‵ ((S.the_row).own_val t (u ∷ [])) ∷ (‵ (flft κ q) ⊛ ‵ ftrue) ∷ ‵ (text_own κ s) ∷ []) ∵
        suffices ! _ (ends_at 𝓛 through.ended stayed (states 𝓤 through.ended answered) passed u t (tt, (tt, tt)) (tt, (tt, tt))) $ says ! e $
        move ! (1 ∷ []) $ frame ! $ nothing ! $ owned ! K.the_row (Is K.the_row) (LL.makes K.the_type K'.the_plain 𝓛) n _ ok $ fjoin ! $ move ! (2 ∷ 0 ∷ []) $ fjoin ! $ frame ! $ done !

  -- a walk of either code meets the contract
  meets : (code : Fn) (𝓣 : Tables 𝓤 H)
      → ((κ : Lft) (q : Share) (s : Bor (List ℕ)) (n : Cursor) (ok : Is K.the_row n (kval n ∷ [])) → Is (ShrSlice (named 0) κ u8) s (tval s ∷ []) → Walk 𝓛 through.ended stayed answered 𝓣 code (passed κ q s n ok))
      → Meets 𝓛 through.signature (WpFn 𝓤 H 𝓣.C 𝓣.Λ code) (closing 𝓛 through.ended (states 𝓤 through.ended answered))
  meets code 𝓣 walk = met 𝓛 through.ended stayed answered (Goes-none_slice 𝓛 1 (0 ∷ []) tt (plain (λ _. u8)) yes, (Goes-none 𝓛 1 (λ _. K.the_row) yes (λ κs x f. refl), tt))
      (λ κs. (shr_slice_vals, (LL.vals K.the_type K'.the_laws, tt))) (λ κs. (shr_slice_Tells (named 0) κs.0 u8, (LL.tells K.the_type K'.the_laws, tt))) 𝓣 code (λ κs qs bounds a are. walk κs.0 qs.0 a.0 a.1.0 are.1.0 are.0)

  module _ (κ : Lft) (q : Share) (s : Bor (List ℕ)) (n : Cursor) (ok : Is K.the_row n (kval n ∷ [])) where
    -- ---- by a reader by value
    module _ (𝓣 : Tables 𝓤 H) (known_made : Triple 𝓤 (𝓣.C #from_slice) (Told 𝓛 from_slice.ended made_at_start)) (known_moved : Triple 𝓤 (𝓣.C #moved) (Told 𝓛 moved.ended moved_to)) (known : Triple 𝓤 (𝓣.C callee) (Told 𝓛 value.ended (stepped answer))) where
      value_walk : Is (ShrSlice (named 0) κ u8) s (tval s ∷ []) → Walk 𝓛 through.ended stayed answered 𝓣 (value_code callee) (passed κ q s n ok)
      value_walk p =
          qed 𝓛 (raw (alive 𝓛 through.signature (κ, tt) (q, tt)) ∷ ‵ (owns (ShrSlice (named 0) κ u8 ∷ K.the_row ∷ []) (s, (n, tt)) (tval s ∷ [], (kval n ∷ [], tt))) ∷ []) ∵ enter ! 𝓣.C 𝓣.Λ (value_code callee) (tval s ∷ kval n ∷ []) _ $
          alloc1 ! (λ l₀. alloc1 ! (λ l₁. alloc1 ! (λ l₂. alloc1 ! (λ l₃. alloc1 ! (λ l₄. alloc0 ! $ params1 ! $ pass1 ! (init ! 6 refl ((shr_slice_Lawful 𝓛 (named 0) κ u8).typed s _ p).0) $ pass1 ! (init ! 4 refl ((LL.lawful K.the_type K'.the_laws 𝓛).typed n _ ok).0) $ pass0 ! $
          move ! (11 ∷ []) $ fsplit ! $ use1 𝓛 (‵ (text_own κ s) ⊛ ‵ (text_own κ s)) ((shr_slice_copy 𝓛 (named 0) κ u8 (uint_row_laws w8)).twice s (tval s ∷ [])) $ split ! $ nothing ! $ move ! (1 ∷ 0 ∷ []) $ fjoin ! $ move ! (13 ∷ 0 ∷ []) $
          -- [what is asked; what the text owns; what the cursor owns; room for _4; …; room for _3; …; _2; …; _1; …; room for _0; …]
          told ! (fm_of 𝓤 H 𝓛.laws 𝓣) from_slice.ended made_at_start known_made (((κ, tt), (q, tt), tt, (s, tt), (tval s ∷ [], tt)), tt) (and_then ! (load ! (from ! (stop !)) (look ! 9 refl)) (no_more !)) (λ u r e is.
          land ! (from ! (stop !)) (init ! 4 refl ((LL.lawful (D erased κ) (L erased κ) 𝓛).typed r _ is).0) $
          move ! (0 ∷ 3 ∷ []) $ fjoin ! $ move ! (1 ∷ 0 ∷ []) $
          -- [what is asked; what the text owns; _4; …; room for _3; …; _2; …; _1; …; room for _0; …]
          told ! (fm_of 𝓤 H 𝓛.laws 𝓣) moved.ended moved_to known_moved (((κ, tt), (q, tt), tt, (r, (n, tt)), (u ∷ [], (kval n ∷ [], tt))), tt) (and_then ! (load ! (from ! (stop !)) (look ! 2 refl)) (and_then ! (load ! (from ! (stop !)) (look ! 6 refl)) (no_more !))) (λ u' r' e' is'.
          land ! (from ! (stop !)) (init ! 5 refl ((LL.lawful (D erased κ) (L erased κ) 𝓛).typed r' _ is').0) $
          nothing ! $ move ! (1 ∷ 0 ∷ []) $ fjoin ! $ move ! (1 ∷ 0 ∷ []) $
          told ! (fm_of 𝓤 H 𝓛.laws 𝓣) value.ended (stepped answer) known (((κ, tt), (q, tt), tt, (r', tt), (u' ∷ [], tt)), tt) (and_then ! (load ! (from ! (stop !)) (look ! 4 refl)) (no_more !)) (λ w t e'' is''.
          -- [the result; the token; what the text owns; _4; …; _3; …; _2; …; _1; …; room for _0; …]
          land ! (from ! (stop !)) (init ! 11 refl ((LL.lawful S.the_type S'.the_laws 𝓛).typed t _ is'').0) $
          returns ! (look ! 11 refl) $ forget ! 3 refl $ forget ! 5 refl $ forget ! 7 refl $ forget ! 9 refl $ forget ! 11 refl $
          move ! (11 ∷ 12 ∷ []) $ free1 ! $ move ! (9 ∷ 10 ∷ []) $ free1 ! $ move ! (7 ∷ 8 ∷ []) $ free1 ! $ move ! (5 ∷ 6 ∷ []) $ free1 ! $ move ! (3 ∷ 4 ∷ []) $ free1 ! $ free0 ! $
          by ! (exits κ q s n ok t w (e'' ∙ ap (of answer) e' ∙ ap (λ (x : Tokens). answer x.text.now n) e))))))))))

    -- ---- by a reader that is lent, for the lifetime ν and κ together: it lies in the local at l, under the name δ
    abbrev loan : ℕ → GName → Tokens → MutBor Tokens
    loan l δ r = record { ref_ptr = (l, 0); ghost_name = δ; now = r }

    abbrev to_lent : ℕ → ℕ → GName → Tokens → (Lent 𝓛 answer).Ghost
    to_lent ν l δ r = (((ν ∷ κ, (κ, tt)), (left q, (right q, tt)), (meet_⊑_right (ν ∷ []) κ, tt), (loan l δ r, tt), (vptr l 0 ∷ [], tt)), tt)

    goes_lent : (ν l : ℕ) (δ : GName) (r : Tokens) → ent 𝓤 (⋆ 𝓛 (‵ (flft (ν ∷ κ) (left q)) ∷ ‵ (flft κ (right q)) ∷ ‵ ((MutRef (named 0) (ν ∷ κ) (R erased κ)).own_val (loan l δ r) (vptr l 0 ∷ [])) ∷ [])) ((Lent 𝓛 answer).pre (to_lent ν l δ r))
    goes_lent ν l δ r =
        qed 𝓛 (‵ (flft (ν ∷ κ) (left q)) ∷ ‵ (flft κ (right q)) ∷ ‵ ((MutRef (named 0) (ν ∷ κ) (R erased κ)).own_val (loan l δ r) (vptr l 0 ∷ [])) ∷ []) ∵
        nothing ! $ move ! (2 ∷ 0 ∷ []) $ join ! $ move ! (1 ∷ 0 ∷ []) $ join ! $ nothing ! $ move ! (2 ∷ 0 ∷ []) $ fjoin ! $ move ! (1 ∷ 0 ∷ []) $ join ! $ frame ! $ done !

    -- what was found and the cursor together are the step that the reader answers
    whole_step : (r z : Tokens) (f : Found) → r ≡ reader s n → (f ≡ (of answer r).found) × (z ≡ reader r.text (of answer r).next) → step f z.cursor ≡ answer s.now n
    whole_step r z f e e' = ap (λ (g : Found). step g z.cursor) e'.0 ∙ ap (λ (t : Tokens). step (of answer r).found t.cursor) e'.1 ∙ ap (of answer) e

    module _ (𝓣 : Tables 𝓤 H) (known_made : Triple 𝓤 (𝓣.C #new) (Told 𝓛 new.ended made)) (known : Triple 𝓤 (𝓣.C callee) (Lent 𝓛 answer)) where
      lent_walk : Is (ShrSlice (named 0) κ u8) s (tval s ∷ []) → Walk 𝓛 through.ended stayed answered 𝓣 (lent_code callee) (passed κ q s n ok)
      unfolding part_of
      lent_walk p =
          qed 𝓛 (raw (alive 𝓛 through.signature (κ, tt) (q, tt)) ∷ ‵ (owns (ShrSlice (named 0) κ u8 ∷ K.the_row ∷ []) (s, (n, tt)) (tval s ∷ [], (kval n ∷ [], tt))) ∷ []) ∵ enter ! 𝓣.C 𝓣.Λ (lent_code callee) (tval s ∷ kval n ∷ []) _ $
          alloc1 ! (λ l₀. alloc1 ! (λ l₁. alloc1 ! (λ l₂. alloc1 ! (λ l₃. alloc1 ! (λ l₄. alloc1 ! (λ l₅. alloc1 ! (λ l₆. alloc1 ! (λ l₇. alloc0 ! $ params1 ! $ pass1 ! (init ! 12 refl ((shr_slice_Lawful 𝓛 (named 0) κ u8).typed s _ p).0) $ pass1 ! (init ! 10 refl ((LL.lawful K.the_type K'.the_laws 𝓛).typed n _ ok).0) $ pass0 ! $
          move ! (17 ∷ []) $ fsplit ! $ use1 𝓛 (‵ (text_own κ s) ⊛ ‵ (text_own κ s)) ((shr_slice_copy 𝓛 (named 0) κ u8 (uint_row_laws w8)).twice s (tval s ∷ [])) $ split ! $ move ! (0 ∷ 2 ∷ []) $ fjoin ! $ move ! (18 ∷ 0 ∷ []) $
          -- [the token; what is passed owns; what the text owns; _7; …; _6; …; _5; …; _4; …; _3; …; _2; …; _1; …; _0; …]
          told ! (fm_of 𝓤 H 𝓛.laws 𝓣) new.ended made known_made (((κ, tt), (q, tt), tt, (s, (n, tt)), (tval s ∷ [], (kval n ∷ [], tt))), tt) (and_then ! (load ! (from ! (stop !)) (look ! 14 refl)) (and_then ! (load ! (from ! (stop !)) (look ! 12 refl)) (no_more !))) (λ u r e is.
          -- [what the reader owns; the token; what the text owns; _7; …; _6; …; _5; …; _4; …; _3; …; _2; …; _1; …; _0; …]
          land ! (from ! (stop !)) (init ! 7 refl ((LL.lawful (D erased κ) (L erased κ) 𝓛).typed r _ is).0) $
          assigns ! (of_opd ! (load ! (from ! (stop !)) (look ! 7 refl))) (from ! (stop !)) (init ! 11 refl ((LL.lawful (D erased κ) (L erased κ) 𝓛).typed r _ is).0) $
          rewrite ! 11 (λ (w : Val). ‵ (fat full_share (T'.mir erased) l₃ 0 w)) (ap only (LL.tells (D erased κ) (L erased κ) r _ is)) refl $ rewrite ! 0 (λ (ws : List Val). ‵ ((R erased κ).own_val r ws)) (LL.tells (D erased κ) (L erased κ) r _ is) refl $
          assigns ! (addr ! (from ! (stop !))) (from ! (stop !)) (init ! 5 refl (tt, tt)) $
          -- the local is lent
          move ! (1 ∷ []) $ use1 𝓛 (‵ (flft κ q) ⊛ ‵ ftrue) (id⊢ 𝓤 _) $ split ! $ move ! (1 ∷ []) $ drop ! $ move ! (11 ∷ 1 ∷ []) $
          use1 𝓛 (‵ (cell_at full_share (R erased κ).mir (mach erased κ r ∷ []) l₃ 0)) (𝓛.laws.at_raw full_share (T'.mir erased) l₃ 0 (mach erased κ r)) $ fjoin ! $ fpack ! (List Val) (λ us. fsep (cell_at full_share (R erased κ).mir us l₃ 0) ((R erased κ).own_val r us)) (mach erased κ r ∷ []) $
          lft_new ! tt (λ ν. move ! (1 ∷ []) $
          use1 𝓛 (later (some (λ (δ : GName). ‵ ((MutRef (named 0) (ν ∷ κ) (R erased κ)).own_val (loan l₃ δ r) (vptr l₃ 0 ∷ [])) ⊛ ‵ (flent (ν ∷ κ) (Body (mem (R erased κ)) l₃ 0 δ))))) (lends_ref 𝓛 (R erased κ) (named 0) (ν ∷ κ) r l₃ 0) $ await ! tt $ pick ! (λ δ. split ! $
          -- [the reference; the lender's part; ν's token; the token; what the text owns; _7; …; _6; …; _5; …; _4; …; _3's end; _2; …; _1; …; _0; …]
          move ! (2 ∷ 3 ∷ []) $ use2 𝓛 (‵ (flft (ν ∷ κ) (left q)) ⊛ ‵ (flft κ (right q)) ⊛ raw (Back 𝓛 ν κ q)) (begins 𝓛 ν κ q) $ split ! $ move ! (1 ∷ []) $ split ! $
          -- ['a's half; the way back; the loan's token; the reference; the lender's part; what the text owns; _7; …]
          move ! (2 ∷ 0 ∷ 3 ∷ []) $ use3 𝓛 (raw ((Lent 𝓛 answer).pre (to_lent ν l₃ δ r))) (goes_lent ν l₃ δ r) $
          -- [what is asked; the way back; the lender's part; what the text owns; _7; …]
          calls_at ! (fm_of 𝓤 H 𝓛.laws 𝓣) (Lent 𝓛 answer) known (to_lent ν l₃ δ r) (and_then ! (load ! (from ! (stop !)) (look ! 6 refl)) (no_more !)) (λ w.
          -- what is ensured, at the reader's last value z
          use1 𝓛 (later (some (λ (f : Found). ((‵ (flft (ν ∷ κ) (left q)) ⊛ ‵ (flft κ (right q)) ⊛ ‵ ftrue) ⊛ ‵ ((F.the_row).own_val f (w ∷ []))) ⊛
          some (λ (zs : Tokens × Unit {0}). ‵ (lasts lent.ended (ν ∷ κ, (κ, tt)) (loan l₃ δ r, tt) zs) ⊛ raw (fact 𝓤 ((f ≡ (of answer r).found) × (zs.0 ≡ reader r.text (of answer r).next))))))) (id⊢ 𝓤 _) $ await ! tt $ pick ! (λ f.
          split ! $ move ! (1 ∷ []) $ pick ! (λ zs. split ! $ move ! (1 ∷ []) $ heard ! ((f ≡ (of answer r).found) × (zs.0 ≡ reader r.text (of answer r).next)) (λ e'. fsplit ! $ move ! (1 ∷ []) $ drop ! $ fsplit ! $ move ! (1 ∷ []) $ drop ! $
          -- [the last value; the tokens and the result; the way back; the lender's part; what the text owns; _7; …]
          move ! (1 ∷ []) $ split ! $ move ! (1 ∷ []) $ peeks ! F.the_row (Is F.the_row) (shows 𝓛 F.the_row) f (w ∷ []) (λ is'.
          -- [the result; the tokens; the last value; the way back; the lender's part; what the text owns; _7; …; _6; …; _5; …; _4; …; _3's end; _2; …; _1; …; _0; …]
          land ! (from ! (stop !)) (init ! 12 refl (((F'.the_field_laws).lawful 𝓛).typed ((F.the_field).into f) _ is').0) $
          rewrite ! 12 (λ (x : Val). ‵ (fat full_share F'.mir l₄ 0 x)) (ap only ((F'.the_field_laws).tells ((F.the_field).into f) _ is')) refl $ rewrite ! 0 (λ (xs : List Val). ‵ ((F.the_row).own_val f xs)) ((F'.the_field_laws).tells ((F.the_field).into f) _ is') refl $
          move ! (1 ∷ []) $ split ! $ move ! (1 ∷ []) $ split ! $ move ! (1 ∷ []) $ drop ! $
          -- ['a's half; the loan's token; the result; the last value; the way back; the lender's part; what the text owns; _7; …]
          move ! (1 ∷ 0 ∷ 4 ∷ []) $ use3 𝓛 (‵ (flft (ν ∷ []) full_share) ⊛ ‵ (flft κ q)) (ends 𝓛 ν κ q) $ split ! $ lft_end ! tt $
          use1 𝓛 (‵ (fdead (ν ∷ κ))) (𝓛.lfts.dead-incl (ν ∷ κ) (ν ∷ []) (meet_⊑_left (ν ∷ []) κ)) $
          -- [the end of the loan; the token; the result; the last value; the lender's part; what the text owns; _7; …]
          move ! (0 ∷ 4 ∷ 3 ∷ []) $ use3 𝓛 (later (‵ (part_at (R erased κ) full_share zs.0 l₃ 0))) (ref_back 𝓛 (R erased κ) (ν ∷ κ) δ zs.0 l₃ 0) $ await ! tt $
          fpick ! (λ vs. fsplit ! $ spelt ! (R erased κ) (Is (R erased κ)) (shows 𝓛 (R erased κ)) (LL.vals (D erased κ) (L erased κ)) (LL.tells (D erased κ) (L erased κ)) full_share zs.0 vs l₃ 0 $
          use1 𝓛 (‵ (fat full_share (T'.mir erased) l₃ 0 (mach erased κ zs.0))) (𝓛.laws.raw_at full_share (T'.mir erased) l₃ 0 (mach erased κ zs.0)) $
          move ! (1 ∷ []) $ peeks ! (R erased κ) (Is (R erased κ)) (shows 𝓛 (R erased κ)) zs.0 (mach erased κ zs.0 ∷ []) (λ now-is. drop ! $
          -- [_3; the token; the result; what the text owns; _7; …; _6; …; _5; …; _4; …; _3's end; _2; …; _1; …; _0; …]
          assigns ! (of_opd ! (load ! (from ! (fld ! refl (stop !))) (look_in ! 0 (sub ! 1 refl (whole !))))) (from ! (stop !)) (init ! 4 refl ((LL.lawful K.the_type K'.the_laws 𝓛).typed zs.0.cursor _ (LL.owed (D erased κ) (L erased κ) zs.0 _ now-is).1.0).0) $
          -- what was found and the cursor own together what the step owns
          nothing ! $ owned ! K.the_row (Is K.the_row) (LL.makes K.the_type K'.the_plain 𝓛) zs.0.cursor _ (LL.owed (D erased κ) (L erased κ) zs.0 _ now-is).1.0 $ fjoin ! $ move ! (3 ∷ 0 ∷ []) $ fjoin ! $
          use1 𝓛 (‵ ((S.the_row).own_val (step f zs.0.cursor) (LL.val S.the_type S'.the_laws (step f zs.0.cursor) ∷ []))) (own_shut 𝓛 S.the_type S'.the_laws (f, (zs.0.cursor, tt))) $
          peeks ! S.the_row (Is S.the_row) (shows 𝓛 S.the_row) (step f zs.0.cursor) _ (λ step_is.
          -- [what the step owns; _3; the token; what the text owns; _7; …; _6; …; _5; …; _4; …; _3's end; _2; …; _1; …; _0; …]
          assigns ! (agg ! (and_then ! (load ! (from ! (stop !)) (look ! 10 refl)) (and_then ! (load ! (from ! (stop !)) (look ! 4 refl)) (no_more !)))) (from ! (stop !)) (init ! 17 refl ((LL.lawful S.the_type S'.the_laws 𝓛).typed (step f zs.0.cursor) _ step_is).0) $
          returns ! (look ! 17 refl) $ forget ! 1 refl $ forget ! 4 refl $ forget ! 6 refl $ forget ! 8 refl $ forget ! 10 refl $ forget ! 13 refl $ forget ! 15 refl $ forget ! 17 refl $
          move ! (17 ∷ 18 ∷ []) $ free1 ! $ move ! (15 ∷ 16 ∷ []) $ free1 ! $ move ! (13 ∷ 14 ∷ []) $ free1 ! $ move ! (1 ∷ 12 ∷ []) $ free1 ! $ move ! (9 ∷ 10 ∷ []) $ free1 ! $ move ! (7 ∷ 8 ∷ []) $ free1 ! $ move ! (5 ∷ 6 ∷ []) $ free1 ! $ move ! (3 ∷ 4 ∷ []) $ free1 ! $ free0 ! $
          nothing ! $ move ! (2 ∷ 0 ∷ []) $ join ! $ move ! (1 ∷ 0 ∷ 2 ∷ []) $ by ! (exits κ q s n ok (step f zs.0.cursor) _ (whole_step r zs.0 f e e')))))))))))))))))))))

  pub lent_meets : (𝓣 : Tables 𝓤 H) → Triple 𝓤 (𝓣.C #new) (Told 𝓛 new.ended made) → Triple 𝓤 (𝓣.C callee) (Lent 𝓛 answer)
      → Meets 𝓛 through.signature (WpFn 𝓤 H 𝓣.C 𝓣.Λ (lent_code callee)) (closing 𝓛 through.ended (states 𝓤 through.ended answered))
  lent_meets 𝓣 known_made known = meets (lent_code callee) 𝓣 (λ κ q s n ok p. lent_walk κ q s n ok 𝓣 known_made known p)

  pub value_meets : (𝓣 : Tables 𝓤 H) → Triple 𝓤 (𝓣.C #from_slice) (Told 𝓛 from_slice.ended made_at_start) → Triple 𝓤 (𝓣.C #moved) (Told 𝓛 moved.ended moved_to) → Triple 𝓤 (𝓣.C callee) (Told 𝓛 value.ended (stepped answer))
      → Meets 𝓛 through.signature (WpFn 𝓤 H 𝓣.C 𝓣.Λ (value_code callee)) (closing 𝓛 through.ended (states 𝓤 through.ended answered))
  value_meets 𝓣 known_made known_moved known = meets (value_code callee) 𝓣 (λ κ q s n ok p. value_walk κ q s n ok 𝓣 known_made known_moved known p)
