-- `plain::value::escape_of` meets its contract: each arm is a case of the definition. Assumes nothing.
use mathlib.Core.Path.{ap, sym}
use Rattle.plain.specs.Plain.{escape_of}
use Rattle.plain.proofs.Bytes.{escape_other}
use Rattle.plain.proofs.value.escape_of.Goals as goal

pub returns-in-8 : goal.returns-in-8
unfolding escape_of
returns-in-8 c = ap escape_of (sym c.in-8.is)

pub returns-in-12 : goal.returns-in-12
unfolding escape_of
returns-in-12 c = ap escape_of (sym c.in-12.is)

pub returns-in-10 : goal.returns-in-10
unfolding escape_of
returns-in-10 c = ap escape_of (sym c.in-10.is)

pub returns-in-13 : goal.returns-in-13
unfolding escape_of
returns-in-13 c = ap escape_of (sym c.in-13.is)

pub returns-in-9 : goal.returns-in-9
unfolding escape_of
returns-in-9 c = ap escape_of (sym c.in-9.is)

pub returns-in_default : goal.returns-in_default
returns-in_default c = let n = c.in_default.in_default-own.rest in escape_other _ n.0.0.0.0.1 n.0.0.0.1 n.0.0.1 n.0.1 n.1
