-- `kind::relate::strings_relate` meets its contract: each arm is a case of the definition. Assumes nothing.
use Rattle.kind.specs.Relations.{strings_relate}
use Rattle.kind.proofs.relate.strings_relate.Goals as goal

pub returns-in-Same : goal.returns-in-Same
unfolding strings_relate
returns-in-Same c = cc

pub returns-in-Contains : goal.returns-in-Contains
unfolding strings_relate
returns-in-Contains c = cc

pub returns-in-Starts : goal.returns-in-Starts
unfolding strings_relate
returns-in-Starts c = cc

pub returns-in-Ends : goal.returns-in-Ends
unfolding strings_relate
returns-in-Ends c = cc
