-- The four functions that make a reader: `new` of a text and a cursor, `moved` of another reader's text and a cursor, `at` of a text and a place, and `from_slice` of a text.
-- `new` and `moved` put the struct together; `at` and `from_slice` call the one before, and know of it only that it meets its contract.
-- What can be copied is had twice: once for the parameter at exit, and once inside the result.
-- Assumes nothing.
use mathlib.Core.Path.{◌≡◌, refl, ap, ◌∙◌}
use Prim.Native.Nat.{ℕ, ◌<◌, ◌^◌}
use mathlib.Core.Bool.{Bool, true, false, ◌&&◌}
use mathlib.Core.List.{List, [], ◌∷◌}
use lib.Dec.{T as Holds, lit<}
use seplogic.Ra.Ura.{Ura}
use mir.Syntax.{named, erased, w8, w64, ty_int, Fn, seq, assign, call, return, place, copy, int, rv_opd, aggregate, field}
use mir.Val.{Val, vint, has_ty}
use base.Logic.{ent, id⊢}
use base.Fml.{Lft, Share, flft, ftrue}
use prog.Wp.{WpFn, Tables}
use types.Logic.{Logic}
use types.Kit.{‵, raw, ◌⊛◌, ⋆, ◌$◌, ◌∵◌, !, qed, by, move, drop, use1, split, fsplit, fjoin, suffices, frame, done}
use types.Part.{agg, whole, sub, look_in}
use types.Run.{look, init, forget, stop, fld, from, load, lit, of_opd, and_then, no_more, assigns, land, returns, enter, alloc1, alloc0, params1, pass1, pass0, free1, free0}
use sound.WpLaws.{fm_of}
use denote.RattleType.{owns}
use denote.Laws.{Is}
use denote.Builtin.{u8, usize}
use denote.Exit.{yes}
use denote.Plain.{uint_row_laws, uint_vals, uint_Tells, uint_Makes}
use denote.Ref.{Bor}
use denote.Signature.{plain}
use denote.Slice.{ShrSlice, shr_slice_vals, shr_slice_Tells, shr_slice_Lawful, shr_slice_copy}
use denote.Steps.{owned, nothing}
use denote.Struct.Laws as LL
use denote.Struct.Rest.{own_shut, own_put}
use denote.Triple.Statement.{Triple}
use denote.Triple.Clauses.{closing}
use denote.Triple.Entry.{on_entry, alive}
use denote.Triple.Spec.{Meets}
use denote.Triple.Walked.{says, Stays, stay_none, stay_none_slice, Goes-none, Goes-none_slice, ends_at}
use Rattle.tokenizer.specs.Tokens.{cursor_at}
use Rattle.tokenizer.specs.declared.Cursor.{Cursor}
use Rattle.token_reader.specs.Reader.{reader}
use Rattle.token_reader.specs.declared.Tokens.{Tokens}
use Rattle.tokenizer.specs.contracts.Cursor as K
use Rattle.tokenizer.proofs.Cursor.TheLaws as K'
use Rattle.tokenizer.specs.contracts.Cursor.new as cursor
use Rattle.tokenizer.proofs.Cursor.new.Symbol.{name as #cursor}
use Rattle.token_reader.proofs.Tokens.TheLaws as T'
use Rattle.token_reader.proofs.Told.{Stated, states, Told, Ends, Walk, met, told}
use Rattle.token_reader.proofs.Parts.{α, D, L, mach, own, B, kval, tval, text_own, by_value, slice}
use Rattle.token_reader.specs.contracts.Tokens.new as new
use Rattle.token_reader.proofs.Tokens.new.Symbol.{name as #new}
use Rattle.token_reader.specs.contracts.Tokens.moved as moved
use Rattle.token_reader.specs.contracts.Tokens.at as at
use Rattle.token_reader.proofs.Tokens.at.Symbol.{name as #at}
use Rattle.token_reader.specs.contracts.Tokens.from_slice as from_slice

-- ---- what each answers
abbrev pub made : Stated new.ended
made κs a r = r ≡ reader a.0 a.1.0

abbrev pub moved_to : Stated moved.ended
moved_to κs a r = r ≡ reader a.0.text a.1.0

abbrev pub made_at : Stated at.ended
made_at κs a r = r ≡ reader a.0 (cursor_at a.1.0)

abbrev pub made_at_start : Stated from_slice.ended
made_at_start κs a r = r ≡ reader a.0 (cursor_at 0)

-- and what `Cursor::new` does
abbrev pub begun : Stated cursor.ended
begun κs a r = r ≡ cursor_at a.0

-- ---- the codes
-- `Tokens { text, cursor }`
abbrev pub new_code : Fn
new_code = record {
  lifetimes = 1;
  outlives = [];
  ty_params = [];
  givens = 0;
  params = 2;
  locals = by_value (T'.mir (named 0)) ∷ by_value (slice (named 0)) ∷ by_value K'.mir ∷ [];
  body = seq (assign (place 0 []) (aggregate (copy (place 1 []) ∷ copy (place 2 []) ∷ []))) return;
}

-- `Tokens { text: self.text, cursor }`
abbrev pub moved_code : Fn
moved_code = record {
  lifetimes = 1;
  outlives = [];
  ty_params = [];
  givens = 0;
  params = 2;
  locals = by_value (T'.mir (named 0)) ∷ by_value (T'.mir (named 0)) ∷ by_value K'.mir ∷ by_value (slice erased) ∷ [];
  body =
      seq (assign (place 3 []) (rv_opd (copy (place 1 (field 0 ∷ [])))))
      (seq (assign (place 0 []) (aggregate (copy (place 3 []) ∷ copy (place 2 []) ∷ []))) return);
}

-- `Tokens::new(text, Cursor::new(place))`
abbrev pub at_code : Fn
at_code = record {
  lifetimes = 1;
  outlives = [];
  ty_params = [];
  givens = 0;
  params = 2;
  locals = by_value (T'.mir (named 0)) ∷ by_value (slice (named 0)) ∷ by_value (ty_int w64) ∷ by_value K'.mir ∷ [];
  body =
      seq (call #cursor (copy (place 2 []) ∷ []) (place 3 []))
      (seq (call #new (copy (place 1 []) ∷ copy (place 3 []) ∷ []) (place 0 [])) return);
}

-- `Tokens::at(text, 0)`
abbrev pub from_slice_code : Fn
from_slice_code = record {
  lifetimes = 1;
  outlives = [];
  ty_params = [];
  givens = 0;
  params = 1;
  locals = by_value (T'.mir (named 0)) ∷ by_value (slice (named 0)) ∷ [];
  body = seq (call #at (copy (place 1 []) ∷ int w64 0 ∷ []) (place 0 [])) return;
}

both : (b : Bool) → Holds b → Holds (b && true)
both true h = h
both false h = absurd h

abbrev new_stayed : Stays (new.ended).signature.params (new.ended).kept
new_stayed = (stay_none_slice (0 ∷ []) tt (plain (λ _. u8)) yes, (stay_none (λ _. K.the_row) yes, tt))

abbrev moved_stayed : Stays (moved.ended).signature.params (moved.ended).kept
moved_stayed = (stay_none B yes, (stay_none (λ _. K.the_row) yes, tt))

abbrev at_stayed : Stays (at.ended).signature.params (at.ended).kept
at_stayed = (stay_none_slice (0 ∷ []) tt (plain (λ _. u8)) yes, (stay_none (λ _. usize) yes, tt))

abbrev from_slice_stayed : Stays (from_slice.ended).signature.params (from_slice.ended).kept
from_slice_stayed = (stay_none_slice (0 ∷ []) tt (plain (λ _. u8)) yes, tt)

module _ {M : Type 1} {𝓤 : Ura M} (𝓛 : Logic 𝓤) (𝓣 : Tables 𝓤 𝓛.H) (κ : Lft) (q : Share) where
  -- ---- `new`
  open 𝓛 use {H}

  module _ (s : Bor (List ℕ)) (n : Cursor) (ok : Is K.the_row n (kval n ∷ [])) where
    abbrev new_passed : (Told 𝓛 new.ended made).Ghost
    new_passed = (((κ, tt), (q, tt), tt, (s, (n, tt)), (tval s ∷ [], (kval n ∷ [], tt))), tt)

    new_exits : ent 𝓤 (on_entry 𝓛 new.signature (κ, tt) (q, tt) (s, (n, tt)) (tval s ∷ [], (kval n ∷ [], tt))) (Ends 𝓛 new.ended new_stayed made new_passed (mach (named 0) κ (reader s n)))
    new_exits =
        qed 𝓛 ((‵ (flft κ q) ⊛ ‵ ftrue) ∷ ‵ (owns (ShrSlice (named 0) κ u8 ∷ K.the_row ∷ []) (s, (n, tt)) (tval s ∷ [], (kval n ∷ [], tt))) ∷ []) ∵
        suffices ! _ (ends_at 𝓛 new.ended new_stayed (states 𝓤 new.ended made) new_passed (mach (named 0) κ (reader s n)) (reader s n) (tt, (tt, tt)) (tt, (tt, tt))) $ says ! refl $
        frame ! $ fsplit ! $ use1 𝓛 (‵ (text_own κ s) ⊛ ‵ (text_own κ s)) ((shr_slice_copy 𝓛 (named 0) κ u8 (uint_row_laws w8)).twice s (tval s ∷ [])) $ split ! $ move ! (0 ∷ 2 ∷ []) $ fjoin ! $ frame ! $
        -- [what the text owns]: what the fields own together, of it and of the cursor's facts, is what the struct owns
        nothing ! $ owned ! K.the_row (Is K.the_row) (LL.makes K.the_type K'.the_plain 𝓛) n _ ok $ fjoin ! $ move ! (1 ∷ 0 ∷ []) $ fjoin ! $ by ! (own_shut 𝓛 (D (named 0) κ) (L (named 0) κ) (s, (n, tt)))

    new_walk : Is (ShrSlice (named 0) κ u8) s (tval s ∷ []) → Walk 𝓛 new.ended new_stayed made 𝓣 new_code new_passed
    new_walk p =
        qed 𝓛 (raw (on_entry 𝓛 new.signature (κ, tt) (q, tt) (s, (n, tt)) (tval s ∷ [], (kval n ∷ [], tt))) ∷ []) ∵ enter ! 𝓣.C 𝓣.Λ new_code (tval s ∷ kval n ∷ []) _ $
        alloc1 ! (λ l₀. alloc1 ! (λ l₁. alloc1 ! (λ l₂. alloc0 ! $ params1 ! $ pass1 ! (init ! 2 refl ((shr_slice_Lawful 𝓛 (named 0) κ u8).typed s _ p).0) $ pass1 ! (init ! 0 refl ((LL.lawful K.the_type K'.the_laws 𝓛).typed n _ ok).0) $ pass0 ! $
        assigns ! (agg ! (and_then ! (load ! (from ! (stop !)) (look ! 2 refl)) (and_then ! (load ! (from ! (stop !)) (look ! 0 refl)) (no_more !)))) (from ! (stop !))
        (init ! 4 refl (both (has_ty K'.mir (kval n)) ((LL.lawful K.the_type K'.the_laws 𝓛).typed n _ ok).0.0, (((shr_slice_Lawful 𝓛 (named 0) κ u8).typed s _ p).0.1, (((LL.lawful K.the_type K'.the_laws 𝓛).typed n _ ok).0.1, tt)))) $
        returns ! (look ! 4 refl) $ forget ! 0 refl $ forget ! 2 refl $ forget ! 4 refl $ move ! (4 ∷ 5 ∷ []) $ free1 ! $ move ! (2 ∷ 3 ∷ []) $ free1 ! $ free1 ! $ free0 ! $ by ! new_exits)))

  -- ---- `moved`
  module _ (h : Tokens) (n : Cursor) (ok : Is K.the_row n (kval n ∷ [])) where
    abbrev moved_passed : (Told 𝓛 moved.ended moved_to).Ghost
    moved_passed = (((κ, tt), (q, tt), tt, (h, (n, tt)), (mach (named 0) κ h ∷ [], (kval n ∷ [], tt))), tt)

    moved_exits : ent 𝓤 (on_entry 𝓛 moved.signature (κ, tt) (q, tt) (h, (n, tt)) (mach (named 0) κ h ∷ [], (kval n ∷ [], tt))) (Ends 𝓛 moved.ended moved_stayed moved_to moved_passed (mach (named 0) κ (reader h.text n)))
    moved_exits =
        qed 𝓛 ((‵ (flft κ q) ⊛ ‵ ftrue) ∷ ‵ (owns (B (κ, tt) ∷ K.the_row ∷ []) (h, (n, tt)) (mach (named 0) κ h ∷ [], (kval n ∷ [], tt))) ∷ []) ∵
        suffices ! _ (ends_at 𝓛 moved.ended moved_stayed (states 𝓤 moved.ended moved_to) moved_passed (mach (named 0) κ (reader h.text n)) (reader h.text n) (tt, (tt, tt)) (tt, (tt, tt))) $ says ! refl $
        frame ! $ fsplit ! $ use1 𝓛 (‵ (own (named 0) κ h) ⊛ ‵ (own (named 0) κ h)) ((LL.copy (D (named 0) κ) (T'.the_copy (α (named 0) κ)) 𝓛).twice h (mach (named 0) κ h ∷ [])) $ split ! $ move ! (0 ∷ 2 ∷ []) $ fjoin ! $ frame ! $
        -- [what the struct owns]: the new cursor's facts take the place of the old one's
        owned ! K.the_row (Is K.the_row) (LL.makes K.the_type K'.the_plain 𝓛) n _ ok $ move ! (1 ∷ 0 ∷ []) $ by ! (own_put 𝓛 (D (named 0) κ) (L (named 0) κ) 1 (h.text, (h.cursor, tt)) n (mach (named 0) κ h))

    moved_walk : Is (B (κ, tt)) h (mach (named 0) κ h ∷ []) → Walk 𝓛 moved.ended moved_stayed moved_to 𝓣 moved_code moved_passed
    moved_walk is =
        qed 𝓛 (raw (on_entry 𝓛 moved.signature (κ, tt) (q, tt) (h, (n, tt)) (mach (named 0) κ h ∷ [], (kval n ∷ [], tt))) ∷ []) ∵ enter ! 𝓣.C 𝓣.Λ moved_code (mach (named 0) κ h ∷ kval n ∷ []) _ $
        alloc1 ! (λ l₀. alloc1 ! (λ l₁. alloc1 ! (λ l₂. alloc1 ! (λ l₃. alloc0 ! $ params1 ! $ pass1 ! (init ! 4 refl ((LL.lawful (D (named 0) κ) (L (named 0) κ) 𝓛).typed h _ is).0) $ pass1 ! (init ! 2 refl ((LL.lawful K.the_type K'.the_laws 𝓛).typed n _ ok).0) $ pass0 ! $
        assigns ! (of_opd ! (load ! (from ! (fld ! refl (stop !))) (look_in ! 4 (sub ! 0 refl (whole !))))) (from ! (stop !)) (init ! 0 refl (tt, ((LL.lawful (D (named 0) κ) (L (named 0) κ) 𝓛).typed h _ is).0.1.0)) $
        assigns ! (agg ! (and_then ! (load ! (from ! (stop !)) (look ! 0 refl)) (and_then ! (load ! (from ! (stop !)) (look ! 2 refl)) (no_more !)))) (from ! (stop !))
        (init ! 6 refl (both (has_ty K'.mir (kval n)) ((LL.lawful K.the_type K'.the_laws 𝓛).typed n _ ok).0.0, (((LL.lawful (D (named 0) κ) (L (named 0) κ) 𝓛).typed h _ is).0.1.0, (((LL.lawful K.the_type K'.the_laws 𝓛).typed n _ ok).0.1, tt)))) $
        returns ! (look ! 6 refl) $ forget ! 0 refl $ forget ! 2 refl $ forget ! 4 refl $ forget ! 6 refl $
        move ! (6 ∷ 7 ∷ []) $ free1 ! $ move ! (4 ∷ 5 ∷ []) $ free1 ! $ move ! (2 ∷ 3 ∷ []) $ free1 ! $ free1 ! $ free0 ! $ by ! moved_exits))))

  -- ---- `at`
  module _ (known_cursor : Triple 𝓤 (𝓣.C #cursor) (Told 𝓛 cursor.ended begun)) (known_new : Triple 𝓤 (𝓣.C #new) (Told 𝓛 new.ended made)) (s : Bor (List ℕ)) (n : ℕ) (n_fits : n < 2 ^ 64) where
    abbrev at_passed : (Told 𝓛 at.ended made_at).Ghost
    at_passed = (((κ, tt), (q, tt), tt, (s, (n, tt)), (tval s ∷ [], (vint w64 n ∷ [], tt))), tt)

    at_exits : (r : Tokens) (u : Val) → r ≡ reader s (cursor_at n) → ent 𝓤 (⋆ 𝓛 (‵ ((B (κ, tt)).own_val r (u ∷ [])) ∷ raw (alive 𝓛 at.signature (κ, tt) (q, tt)) ∷ ‵ (text_own κ s) ∷ [])) (Ends 𝓛 at.ended at_stayed made_at at_passed u)
    at_exits r u e =
        qed 𝓛 (‵ ((B (κ, tt)).own_val r (u ∷ [])) ∷ (‵ (flft κ q) ⊛ ‵ ftrue) ∷ ‵ (text_own κ s) ∷ []) ∵
        suffices ! _ (ends_at 𝓛 at.ended at_stayed (states 𝓤 at.ended made_at) at_passed u r (tt, (tt, tt)) (tt, (tt, tt))) $ says ! e $
        move ! (1 ∷ []) $ frame ! $ nothing ! $ owned ! usize (Is usize) (uint_Makes 𝓛 w64) n _ (refl, n_fits) $ fjoin ! $ move ! (2 ∷ 0 ∷ []) $ fjoin ! $ frame ! $ done !

    at_walk : Is (ShrSlice (named 0) κ u8) s (tval s ∷ []) → Walk 𝓛 at.ended at_stayed made_at 𝓣 at_code at_passed
    at_walk p =
        qed 𝓛 (raw (alive 𝓛 at.signature (κ, tt) (q, tt)) ∷ ‵ (owns (ShrSlice (named 0) κ u8 ∷ usize ∷ []) (s, (n, tt)) (tval s ∷ [], (vint w64 n ∷ [], tt))) ∷ []) ∵ enter ! 𝓣.C 𝓣.Λ at_code (tval s ∷ vint w64 n ∷ []) _ $
        alloc1 ! (λ l₀. alloc1 ! (λ l₁. alloc1 ! (λ l₂. alloc1 ! (λ l₃. alloc0 ! $ params1 ! $ pass1 ! (init ! 4 refl ((shr_slice_Lawful 𝓛 (named 0) κ u8).typed s _ p).0) $ pass1 ! (init ! 2 refl (tt, record { fits = n_fits })) $ pass0 ! $
        -- [room for _3; …; _2; …; _1; …; room for _0; …; the token; what is passed owns]
        move ! (9 ∷ []) $ fsplit ! $ use1 𝓛 (‵ (text_own κ s) ⊛ ‵ (text_own κ s)) ((shr_slice_copy 𝓛 (named 0) κ u8 (uint_row_laws w8)).twice s (tval s ∷ [])) $ split ! $ move ! (2 ∷ []) $ nothing ! $ use1 𝓛 (raw (alive 𝓛 cursor.signature tt tt)) (id⊢ 𝓤 _) $
        -- [no token; what the place owns; what the text owns, twice; room for _3; …; _2; …; _1; …; room for _0; …; the token]
        told ! (fm_of 𝓤 H 𝓛.laws 𝓣) cursor.ended begun known_cursor ((tt, tt, tt, (n, tt), (vint w64 n ∷ [], tt)), tt) (and_then ! (load ! (from ! (stop !)) (look ! 5 refl)) (no_more !)) (λ u c e is.
        land ! (from ! (stop !)) (init ! 4 refl ((LL.lawful K.the_type K'.the_laws 𝓛).typed c _ is).0) $
        move ! (1 ∷ []) $ drop ! $ nothing ! $ move ! (1 ∷ 0 ∷ []) $ fjoin ! $ move ! (1 ∷ 0 ∷ []) $ fjoin ! $ move ! (10 ∷ 0 ∷ []) $
        -- [the token; what is passed owns; what the text owns; _3; …; _2; …; _1; …; room for _0; …]
        told ! (fm_of 𝓤 H 𝓛.laws 𝓣) new.ended made known_new (((κ, tt), (q, tt), tt, (s, (c, tt)), (tval s ∷ [], (u ∷ [], tt))), tt) (and_then ! (load ! (from ! (stop !)) (look ! 6 refl)) (and_then ! (load ! (from ! (stop !)) (look ! 2 refl)) (no_more !))) (λ u' r e' is'.
        land ! (from ! (stop !)) (init ! 9 refl ((LL.lawful (D (named 0) κ) (L (named 0) κ) 𝓛).typed r _ is').0) $
        returns ! (look ! 9 refl) $ forget ! 3 refl $ forget ! 5 refl $ forget ! 7 refl $ forget ! 9 refl $ move ! (9 ∷ 10 ∷ []) $ free1 ! $ move ! (7 ∷ 8 ∷ []) $ free1 ! $ move ! (5 ∷ 6 ∷ []) $ free1 ! $ move ! (3 ∷ 4 ∷ []) $ free1 ! $ free0 ! $
        by ! (at_exits r u' (e' ∙ ap (reader s) e))))))))

  -- ---- `from_slice`
  module _ (known : Triple 𝓤 (𝓣.C #at) (Told 𝓛 at.ended made_at)) (s : Bor (List ℕ)) where
    abbrev from_slice_passed : (Told 𝓛 from_slice.ended made_at_start).Ghost
    from_slice_passed = (((κ, tt), (q, tt), tt, (s, tt), (tval s ∷ [], tt)), tt)

    from_slice_exits : (r : Tokens) (u : Val) → r ≡ reader s (cursor_at 0) → ent 𝓤 (⋆ 𝓛 (‵ ((B (κ, tt)).own_val r (u ∷ [])) ∷ raw (alive 𝓛 from_slice.signature (κ, tt) (q, tt)) ∷ ‵ (text_own κ s) ∷ [])) (Ends 𝓛 from_slice.ended from_slice_stayed made_at_start from_slice_passed u)
    from_slice_exits r u e =
        qed 𝓛 (‵ ((B (κ, tt)).own_val r (u ∷ [])) ∷ (‵ (flft κ q) ⊛ ‵ ftrue) ∷ ‵ (text_own κ s) ∷ []) ∵
        suffices ! _ (ends_at 𝓛 from_slice.ended from_slice_stayed (states 𝓤 from_slice.ended made_at_start) from_slice_passed u r (tt, tt) (tt, tt)) $ says ! e $
        move ! (1 ∷ []) $ frame ! $ nothing ! $ move ! (2 ∷ 0 ∷ []) $ fjoin ! $ frame ! $ done !

    from_slice_walk : Is (ShrSlice (named 0) κ u8) s (tval s ∷ []) → Walk 𝓛 from_slice.ended from_slice_stayed made_at_start 𝓣 from_slice_code from_slice_passed
    from_slice_walk p =
        qed 𝓛 (raw (alive 𝓛 from_slice.signature (κ, tt) (q, tt)) ∷ ‵ (owns (ShrSlice (named 0) κ u8 ∷ []) (s, tt) (tval s ∷ [], tt)) ∷ []) ∵ enter ! 𝓣.C 𝓣.Λ from_slice_code (tval s ∷ []) _ $
        alloc1 ! (λ l₀. alloc1 ! (λ l₁. alloc0 ! $ params1 ! $ pass1 ! (init ! 0 refl ((shr_slice_Lawful 𝓛 (named 0) κ u8).typed s _ p).0) $ pass0 ! $
        -- [_1; …; room for _0; …; the token; what is passed owns]
        move ! (5 ∷ []) $ fsplit ! $ use1 𝓛 (‵ (text_own κ s) ⊛ ‵ (text_own κ s)) ((shr_slice_copy 𝓛 (named 0) κ u8 (uint_row_laws w8)).twice s (tval s ∷ [])) $ split ! $
        owned ! usize (Is usize) (uint_Makes 𝓛 w64) 0 _ (refl, lit< tt) $ move ! (0 ∷ 3 ∷ []) $ fjoin ! $ move ! (1 ∷ 0 ∷ []) $ fjoin ! $ move ! (6 ∷ 0 ∷ []) $
        told ! (fm_of 𝓤 H 𝓛.laws 𝓣) at.ended made_at known (((κ, tt), (q, tt), tt, (s, (0, tt)), (tval s ∷ [], (vint w64 0 ∷ [], tt))), tt) (and_then ! (load ! (from ! (stop !)) (look ! 2 refl)) (and_then ! (lit ! tt) (no_more !))) (λ u r e is.
        -- [what the reader owns; the token; what the text owns; _1; …; room for _0; …]
        land ! (from ! (stop !)) (init ! 5 refl ((LL.lawful (D (named 0) κ) (L (named 0) κ) 𝓛).typed r _ is).0) $
        returns ! (look ! 5 refl) $ forget ! 3 refl $ forget ! 5 refl $ move ! (5 ∷ 6 ∷ []) $ free1 ! $ move ! (3 ∷ 4 ∷ []) $ free1 ! $ free0 ! $ by ! (from_slice_exits r u e))))

-- ---- each meets its contract
module _ {M : Type 1} {𝓤 : Ura M} (𝓛 : Logic 𝓤) (𝓣 : Tables 𝓤 𝓛.H) where
  open 𝓛 use {H}

  pub new_meets : Meets 𝓛 new.signature (WpFn 𝓤 H 𝓣.C 𝓣.Λ new_code) (closing 𝓛 new.ended (states 𝓤 new.ended made))
  new_meets = met 𝓛 new.ended new_stayed made (Goes-none_slice 𝓛 1 (0 ∷ []) tt (plain (λ _. u8)) yes, (Goes-none 𝓛 1 (λ _. K.the_row) yes (λ κs x f. refl), tt))
      (λ κs. (shr_slice_vals, (LL.vals K.the_type K'.the_laws, tt))) (λ κs. (shr_slice_Tells (named 0) κs.0 u8, (LL.tells K.the_type K'.the_laws, tt))) 𝓣 new_code
      (λ κs qs bounds a are. new_walk 𝓛 𝓣 κs.0 qs.0 a.0 a.1.0 are.1.0 are.0)

  pub moved_meets : Meets 𝓛 moved.signature (WpFn 𝓤 H 𝓣.C 𝓣.Λ moved_code) (closing 𝓛 moved.ended (states 𝓤 moved.ended moved_to))
  moved_meets = met 𝓛 moved.ended moved_stayed moved_to (Goes-none 𝓛 1 B yes (λ κs x f. refl), (Goes-none 𝓛 1 (λ _. K.the_row) yes (λ κs x f. refl), tt))
      (λ κs. (LL.vals (D (named 0) κs.0) (L (named 0) κs.0), (LL.vals K.the_type K'.the_laws, tt))) (λ κs. (LL.tells (D (named 0) κs.0) (L (named 0) κs.0), (LL.tells K.the_type K'.the_laws, tt))) 𝓣 moved_code
      (λ κs qs bounds a are. moved_walk 𝓛 𝓣 κs.0 qs.0 a.0 a.1.0 are.1.0 are.0)

  pub at_meets : Triple 𝓤 (𝓣.C #cursor) (Told 𝓛 cursor.ended begun) → Triple 𝓤 (𝓣.C #new) (Told 𝓛 new.ended made) → Meets 𝓛 at.signature (WpFn 𝓤 H 𝓣.C 𝓣.Λ at_code) (closing 𝓛 at.ended (states 𝓤 at.ended made_at))
  at_meets known_cursor known_new = met 𝓛 at.ended at_stayed made_at (Goes-none_slice 𝓛 1 (0 ∷ []) tt (plain (λ _. u8)) yes, (Goes-none 𝓛 1 (λ _. usize) yes (λ κs x f. refl), tt))
      (λ κs. (shr_slice_vals, (uint_vals w64, tt))) (λ κs. (shr_slice_Tells (named 0) κs.0 u8, (uint_Tells w64, tt))) 𝓣 at_code
      (λ κs qs bounds a are. at_walk 𝓛 𝓣 κs.0 qs.0 known_cursor known_new a.0 a.1.0 are.1.0.1 are.0)

  pub from_slice_meets : Triple 𝓤 (𝓣.C #at) (Told 𝓛 at.ended made_at) → Meets 𝓛 from_slice.signature (WpFn 𝓤 H 𝓣.C 𝓣.Λ from_slice_code) (closing 𝓛 from_slice.ended (states 𝓤 from_slice.ended made_at_start))
  from_slice_meets known = met 𝓛 from_slice.ended from_slice_stayed made_at_start (Goes-none_slice 𝓛 1 (0 ∷ []) tt (plain (λ _. u8)) yes, tt) (λ κs. (shr_slice_vals, tt)) (λ κs. (shr_slice_Tells (named 0) κs.0 u8, tt)) 𝓣 from_slice_code
      (λ κs qs bounds a are. from_slice_walk 𝓛 𝓣 κs.0 qs.0 known a.0 are.0)
