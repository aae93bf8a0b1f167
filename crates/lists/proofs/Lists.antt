-- Laws of tests over whole lists: what a passed test says of an entry.
-- Assumes nothing.
use mathlib.Core.Path.{◌≡◌, refl, ap, ◌∙◌}
use mathlib.Core.Bool.{Bool, true, and-eq-true_iff}
use mathlib.Core.List.Memᴰ
use mathlib.Core.List.{List, [], ◌∷◌, Memᴰ}
use mathlib.Core.Logic.{⊎_elim}
use Rattle.lists.specs.Lists.{every, pairwise}

module _ {A : Type 0} (p : A → Bool) (a : A) (l : List A) (h : every p (a ∷ l) ≡ true) where
  pub every_head : p a ≡ true
  unfolding every
  every_head = ((and-eq-true_iff (p a) (every p l)).0 h).0

  pub every_tail : every p l ≡ true
  unfolding every
  every_tail = ((and-eq-true_iff (p a) (every p l)).0 h).1

module _ {A : Type 0} (p : A → A → Bool) (a : A) (l : List A) (h : pairwise p (a ∷ l) ≡ true) where
  pub pairwise_head : every (p a) l ≡ true
  unfolding pairwise
  pairwise_head = ((and-eq-true_iff (every (p a) l) (pairwise p l)).0 h).0

  pub pairwise_tail : pairwise p l ≡ true
  unfolding pairwise
  pairwise_tail = ((and-eq-true_iff (every (p a) l) (pairwise p l)).0 h).1

pub every_mem : {A : Type 0} (p : A → Bool) (l : List A) (a : A) → every p l ≡ true → Memᴰ a l → p a ≡ true
every_mem p [] a h m = absurd (Memᴰ.not-nil m)
every_mem p (b ∷ l) a h m =
    ⊎_elim (λ e. ap p e ∙ every_head p b l h) (λ n. every_mem p l a (every_tail p b l h) n) (Memᴰ.cases_cons m)

-- a test that is passed where another is
pub every_weaker : {A : Type 0} (p q : A → Bool) → ((a : A) → p a ≡ true → q a ≡ true) → (l : List A) → every p l ≡ true → every q l ≡ true
unfolding every
every_weaker p q f [] h = refl
every_weaker p q f (a ∷ l) h = rw (f a (every_head p a l h)) (every_weaker p q f l (every_tail p a l h))
