-- `kind::relate::numbers_relate` meets its contract: each arm is a case of the definition. Assumes nothing.
use Rattle.kind.specs.Relations.{numbers_relate}
use Rattle.kind.proofs.relate.numbers_relate.Goals as goal

pub returns-in-Inside : goal.returns-in-Inside
unfolding numbers_relate
returns-in-Inside c = cc

pub returns-in-Greater : goal.returns-in-Greater
unfolding numbers_relate
returns-in-Greater c = cc

pub returns-in-Less : goal.returns-in-Less
unfolding numbers_relate
returns-in-Less c = cc

pub returns-in-AtLeast : goal.returns-in-AtLeast
unfolding numbers_relate
returns-in-AtLeast c = cc

pub returns-in-AtMost : goal.returns-in-AtMost
unfolding numbers_relate
returns-in-AtMost c = cc

pub returns-in-Covers : goal.returns-in-Covers
unfolding numbers_relate
returns-in-Covers c = cc
