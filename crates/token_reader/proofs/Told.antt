-- Contracts of a function that is lent nothing to change and that states a fact of its answer: what a walk of such a function shows, and a call of one as one step of a walk. Every function over a reader by value is of
-- this kind, and so is each that it calls.
-- Assumes nothing but `Logic`, and that the table of calls is monotone under a frame, as every `Tables` is.
use mathlib.Core.List.{List, [], ◌∷◌}
use seplogic.Ra.Ura.{Ura}
use mir.Syntax.{Callee as Name, Place, Opd, Fn, Body, seq, call}
use mir.Val.{Val}
use base.Logic.{SProp, ent, sep, emp, emp∗, comm∗, via, fst∗, snd∗, ex_e, id⊢}
use prog.Wp.{Env, Calls, Loops, WpFn, Tables}
use types.Logic.{Logic, sem}
use contract.Lifetimes.{Lfts, Shares, AllOutlive}
use contract.Monad.{fact}
use types.Kit.{Item, ‵, raw, some, later, ◌⊛◌, ◌$◌, Seq, runs, lands, Post, move, use1, use2, split, pick, await}
use types.Run.{Opds}
use sound.WpLaws.{FmC, WpFn-mono}
use denote.Laws.{Is, shows, Are, Ises, Spells, valss, Tellss}
use denote.RattleType.{owns}
use denote.Signature.{type_at, types_at}
use denote.Steps.{peeks, heard}
use denote.Triple.Statement.{Contract, Triple}
use denote.Triple.Call.{calls_at}
use denote.Triple.Clauses.{Ended, Clauses, closing, ensured, lasts}
use denote.Triple.Entry.{Args, Res, alive, on_entry}
use denote.Triple.Spec.{Meets, triple_of}
use denote.Triple.Walked.{Stays, AllGo, walk_of, walked, walk_Meets}

-- what is stated of the arguments and of the answer
abbrev pub Stated : Ended → Type 1
Stated T = (κs : Lfts T.signature.lifetimes) → Args T.signature κs → Res T.signature κs → Type 0

module _ {M : Type 1} (𝓤 : Ura M) where
  abbrev pub states : (T : Ended) → Stated T → Clauses 𝓤 T
  states T φ κs a = record { ghost = Unit {0}; requires = λ _. emp 𝓤; ensures = λ _ r _. fact 𝓤 (φ κs a r) }

  -- a function that asks nothing beside what it is passed
  free : (P : SProp 𝓤) → ent 𝓤 P (sep 𝓤 P (emp 𝓤))
  free P = via 𝓤 (sep 𝓤 (emp 𝓤) P) (emp∗ 𝓤 P) (comm∗ 𝓤 (emp 𝓤) P)

module _ {M : Type 1} {𝓤 : Ura M} (𝓛 : Logic 𝓤) (T : Ended) (φ : Stated T) where
  abbrev pub Told : Contract 𝓤
  Told = triple_of 𝓛 T.signature (closing 𝓛 T (states 𝓤 T φ))

-- ---- a walk of a code, from what stands on entry
module _ {M : Type 1} {𝓤 : Ura M} (𝓛 : Logic 𝓤) (T : Ended) (hs : Stays T.signature.params T.kept) (φ : Stated T) where
  open 𝓛 use {H}

  abbrev pub Ends : (Told 𝓛 T φ).Ghost → Val → SProp 𝓤
  Ends x = (walk_of 𝓛 T hs (states 𝓤 T φ)).post x

  abbrev pub Walk : Tables 𝓤 H → Fn → (Told 𝓛 T φ).Ghost → Type 1
  Walk 𝓣 code x = ent 𝓤 (on_entry 𝓛 T.signature x.0.0 x.0.1 x.0.3 x.0.4) (WpFn 𝓤 H 𝓣.C 𝓣.Λ code ((Told 𝓛 T φ).args x) (Ends x))

  -- a walk at each choice of what is passed meets the contract; `sp` spells the machine values of what is passed
  pub met : AllGo 𝓛 T.signature.lifetimes T.signature.params T.kept hs
      → (sp : (κs : Lfts T.signature.lifetimes) → Spells (types_at T.signature.params κs)) → ((κs : Lfts T.signature.lifetimes) → Tellss (types_at T.signature.params κs) (Ises (types_at T.signature.params κs)) (sp κs))
      → (𝓣 : Tables 𝓤 H) (code : Fn)
      → ((κs : Lfts T.signature.lifetimes) (qs : Shares T.signature.lifetimes) (bounds : AllOutlive T.signature.lifetimes T.signature.outlives κs) (a : Args T.signature κs)
      → Are (types_at T.signature.params κs) (Ises (types_at T.signature.params κs)) a (valss (types_at T.signature.params κs) (sp κs) a) → Walk 𝓣 code ((κs, qs, bounds, a, valss (types_at T.signature.params κs) (sp κs) a), tt))
      → Meets 𝓛 T.signature (WpFn 𝓤 H 𝓣.C 𝓣.Λ code) (closing 𝓛 T (states 𝓤 T φ))
  met go sp tl 𝓣 code walk = walk_Meets 𝓛 T hs go (states 𝓤 T φ) (WpFn 𝓤 H 𝓣.C 𝓣.Λ code) (WpFn-mono 𝓤 H 𝓛.laws 𝓣 code)
      (walked 𝓛 T hs (states 𝓤 T φ) (WpFn 𝓤 H 𝓣.C 𝓣.Λ code) sp tl (λ κs qs bounds a g are. via 𝓤 _ (fst∗ 𝓤 _ (emp 𝓤)) (walk κs qs bounds a are)))

-- ---- a call
module _ {M : Type 1} {𝓤 : Ura M} {𝓛 : Logic 𝓤} {K : Type 0} {Γ : List (Item 𝓤)} {E : Env 𝓤 𝓛.H} {C : Calls 𝓤 𝓛.H} {Λ : Loops 𝓤 𝓛.H} {f : Name} {xs : List Opd} {d : Place} {q : Post 𝓤 𝓛.H} {rest : Body} where
  -- the tokens and what is passed stand at the head, in the place of which the operands read what is asked; after the call what the answer owns stands there, then the tokens, and the fact is known
  open 𝓛 use {H}

  pub told : K → FmC 𝓤 H 𝓛.laws C → (T : Ended) (φ : Stated T) → Triple 𝓤 (C f) (Told 𝓛 T φ) → (x : (Told 𝓛 T φ).Ghost)
      → Opds K 𝓛 (raw ((Told 𝓛 T φ).pre x) ∷ Γ) E xs ((Told 𝓛 T φ).args x)
      → ((u : Val) (r : Res T.signature x.0.0) → φ x.0.0 x.0.3 r → Is (type_at T.signature.result x.0.0) r (u ∷ [])
      → Seq K 𝓛 (‵ ((type_at T.signature.result x.0.0).own_val r (u ∷ [])) ∷ raw (alive 𝓛 T.signature x.0.0 x.0.1) ∷ Γ) (lands C Λ E d u rest q))
      → Seq K 𝓛 (raw (alive 𝓛 T.signature x.0.0 x.0.1) ∷ ‵ (owns (types_at T.signature.params x.0.0) x.0.3 x.0.4) ∷ Γ) (runs C Λ E (seq (call f xs d) rest) q)
  told t fm T φ known x os k = use2 𝓛 (raw ((Told 𝓛 T φ).pre x)) (free 𝓤 _) $ calls_at t fm (Told 𝓛 T φ) known x os (λ u.
      use1 𝓛 (later (some (λ (r : Res T.signature x.0.0). (raw (alive 𝓛 T.signature x.0.0 x.0.1) ⊛ ‵ ((type_at T.signature.result x.0.0).own_val r (u ∷ []))) ⊛ raw (ensured 𝓛 T (states 𝓤 T φ) x.0.0 x.0.3 x.1 r)))) (id⊢ 𝓤 _) $ await t tt $ pick t (λ r.
      split t $ move t (1 ∷ []) $ use1 𝓛 (raw (fact 𝓤 (φ x.0.0 x.0.3 r))) (ex_e 𝓤 _ (λ ws. snd∗ 𝓤 (sem 𝓛 (lasts T x.0.0 x.0.3 ws)) (fact 𝓤 (φ x.0.0 x.0.3 r)))) $ heard t (φ x.0.0 x.0.3 r) (λ e.
      split t $ move t (1 ∷ []) $ peeks t (type_at T.signature.result x.0.0) (Is (type_at T.signature.result x.0.0)) (shows 𝓛 (type_at T.signature.result x.0.0)) r (u ∷ []) (λ is. k u r e is))))
