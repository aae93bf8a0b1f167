-- Laws of what stands at the front of the unread bytes, a case each.
-- Assumes nothing.
use mathlib.Core.Path.{◌≡◌}
use mathlib.Core.List.{List}
use Prim.Native.Nat.{ℕ, ◌+◌, ◌-◌, ◌≤◌, ◌<◌}
use lib.ListN.{length}
use borrow.Author.Tests.{lt-ltb, le-ltb}
use Rattle.console.specs.Console.{u32_at}
use Rattle.records.specs.declared.input.Front.TheVariants.{Whole, TooLarge, Cut}
use Rattle.records.specs.Input.{front_in}

module _ (l : List ℕ) (from to : ℕ) where
  pub front_short : to - from < 4 → Cut ≡ front_in l from to
  unfolding front_in
  front_short h = rw (lt-ltb (to - from) 4 h)

  module _ {count : ℕ} (e : count ≡ u32_at l from) (h : 4 ≤ to - from) where
    pub front_large : length l - 4 < count → TooLarge (count - (to - (from + 4))) ≡ front_in l from to
    unfolding front_in
    front_large i =
        let x = rw e at i in
        rw (le-ltb (to - from) 4 h, lt-ltb _ _ x, e)

    module _ (i : count ≤ length l - 4) where
      pub front_cut : to - (from + 4) < count → Cut ≡ front_in l from to
      unfolding front_in
      front_cut j =
          let x = rw e at i in
          let y = rw e at j in
          rw (le-ltb (to - from) 4 h, le-ltb _ _ x, lt-ltb _ _ y)

      pub front_whole : count ≤ to - (from + 4) → Whole (from + 4) (from + 4 + count) ≡ front_in l from to
      unfolding front_in
      front_whole j =
          let x = rw e at i in
          let y = rw e at j in
          rw (le-ltb (to - from) 4 h, le-ltb _ _ x, le-ltb _ _ y, e)
