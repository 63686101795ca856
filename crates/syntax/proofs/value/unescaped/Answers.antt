-- `syntax::value::unescaped` meets its contract: each arm is a case of the definition. Assumes nothing.
use mathlib.Core.Path.{ap, sym}
use Rattle.syntax.specs.Strings.{unescaped}
use Rattle.syntax.proofs.Bytes.{unescaped_other}
use Rattle.syntax.proofs.value.unescaped.Goals as goal

pub returns-in-98 : goal.returns-in-98
unfolding unescaped
returns-in-98 c = ap unescaped (sym c.in-98.is)

pub returns-in-102 : goal.returns-in-102
unfolding unescaped
returns-in-102 c = ap unescaped (sym c.in-102.is)

pub returns-in-110 : goal.returns-in-110
unfolding unescaped
returns-in-110 c = ap unescaped (sym c.in-110.is)

pub returns-in-114 : goal.returns-in-114
unfolding unescaped
returns-in-114 c = ap unescaped (sym c.in-114.is)

pub returns-in-116 : goal.returns-in-116
unfolding unescaped
returns-in-116 c = ap unescaped (sym c.in-116.is)

pub returns-in_default : goal.returns-in_default
returns-in_default c = let n = c.in_default.in_default-own.rest in unescaped_other _ n.0.0.0.0.1 n.0.0.0.1 n.0.0.1 n.0.1 n.1
