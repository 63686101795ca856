-- `syntax::value::is_escape` meets its contract: the arm's keys are the bytes that may follow a backslash. Assumes nothing.
use Rattle.base.proofs.Lists.{member_arm, member_rest}
use Rattle.syntax.specs.Strings.{is_escape}
use Rattle.syntax.proofs.value.is_escape.Goals as goal

pub returns-in-34 : goal.returns-in-34
unfolding is_escape
returns-in-34 c = member_arm _ _ c.in-34.is

pub returns-in_default : goal.returns-in_default
unfolding is_escape
returns-in_default c = member_rest _ _ c.in_default.in_default-own.rest.1
