-- `date::days::leap_year` meets its contract: the tests are those of the definition. Assumes nothing.
use borrow.Author.Tests.{eq-eqb, ne_eqb}
use Rattle.date.specs.Calendar.{leap_year}
use Rattle.date.proofs.days.leap_year.Goals as goal

pub returns-then-y-ne0 : goal.returns-then-y-ne0
unfolding leap_year
returns-then-y-ne0 c = simp (eq-eqb _ _ c.if-y-eq0.true, ne_eqb _ _ c.if-y-ne0.true)

pub returns-else-y-ne0 : goal.returns-else-y-ne0
unfolding leap_year
returns-else-y-ne0 c = simp (eq-eqb _ _ c.if-y-eq0.true, eq-eqb _ _ c.if-y-ne0.false)

pub returns-else-y-eq0 : goal.returns-else-y-eq0
unfolding leap_year
returns-else-y-eq0 c = simp (ne_eqb _ _ c.if-y-eq0.false)
