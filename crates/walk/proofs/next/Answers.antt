-- `walk::next` meets its contract: the tests are the definition's.
use borrow.Author.Tests.{eq-eqb, ne_eqb, le-leb, lt-leb, lt-ltb, le-ltb}
use Rattle.walk.specs.Walk.{coming_in, coming_next}
use Rattle.walk.proofs.next.Goals as goal

pub returns-then-w-ge-FRAMES : goal.returns-then-w-ge-FRAMES
unfolding coming_next
returns-then-w-ge-FRAMES c = rw (le-ltb _ _ c.if-w-ge-FRAMES.true)

pub returns-then-f : goal.returns-then-f
unfolding coming_next coming_in
returns-then-f c = rw (lt-ltb _ _ c.if-w-ge-FRAMES.false, lt-leb _ _ c.if-f.true)

pub returns-then-f-eq-NO_KIND : goal.returns-then-f-eq-NO_KIND
unfolding coming_next coming_in
returns-then-f-eq-NO_KIND c = rw (lt-ltb _ _ c.if-w-ge-FRAMES.false, le-leb _ _ c.if-f.false, eq-eqb _ _ c.if-f-eq-NO_KIND.true)

pub returns : goal.returns
unfolding coming_next coming_in
returns c = rw (lt-ltb _ _ c.if-w-ge-FRAMES.false, le-leb _ _ c.if-f.false, ne_eqb _ _ c.if-f-eq-NO_KIND.false, c.saturating_sub.ensures)
