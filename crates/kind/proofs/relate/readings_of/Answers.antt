-- `kind::relate::readings_of` meets its contract: each arm is a case of the definition. Assumes nothing.
use Rattle.kind.specs.Relations.{readings_of}
use Rattle.kind.proofs.relate.readings_of.Goals as goal

pub returns-in-Strings : goal.returns-in-Strings
unfolding readings_of
returns-in-Strings c = cc

pub returns-in-Numbers : goal.returns-in-Numbers
unfolding readings_of
returns-in-Numbers c = cc

pub returns-in-Dates : goal.returns-in-Dates
unfolding readings_of
returns-in-Dates c = cc

pub returns-in-Tokens : goal.returns-in-Tokens
unfolding readings_of
returns-in-Tokens c = cc

pub returns-in-References : goal.returns-in-References
unfolding readings_of
returns-in-References c = cc
