-- `query::pieces::is_special` meets its contract: the arm's keys are the bytes that a backslash makes plain. Assumes nothing.
use Rattle.base.proofs.Lists.{member_arm, member_rest}
use Rattle.query.specs.Reader.{is_special}
use Rattle.query.proofs.pieces.is_special.Goals as goal

pub returns-in-44 : goal.returns-in-44
unfolding is_special
returns-in-44 c = member_arm _ _ c.in-44.is

pub returns-in_default : goal.returns-in_default
unfolding is_special
returns-in_default c = member_rest _ _ c.in_default.in_default-own.rest.1
