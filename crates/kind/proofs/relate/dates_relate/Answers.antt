-- `kind::relate::dates_relate` meets its contract: each arm is a case of the definition. Assumes nothing.
use Rattle.kind.specs.Relations.{dates_relate}
use Rattle.kind.proofs.relate.dates_relate.Goals as goal

pub returns-in-Inside : goal.returns-in-Inside
unfolding dates_relate
returns-in-Inside c = cc

pub returns-in-Later : goal.returns-in-Later
unfolding dates_relate
returns-in-Later c = cc

pub returns-in-Earlier : goal.returns-in-Earlier
unfolding dates_relate
returns-in-Earlier c = cc

pub returns-in-LaterOrInside : goal.returns-in-LaterOrInside
unfolding dates_relate
returns-in-LaterOrInside c = cc

pub returns-in-EarlierOrInside : goal.returns-in-EarlierOrInside
unfolding dates_relate
returns-in-EarlierOrInside c = cc

pub returns-in-StartsAfter : goal.returns-in-StartsAfter
unfolding dates_relate
returns-in-StartsAfter c = cc

pub returns-in-EndsBefore : goal.returns-in-EndsBefore
unfolding dates_relate
returns-in-EndsBefore c = cc

pub returns-in-Overlaps : goal.returns-in-Overlaps
unfolding dates_relate
returns-in-Overlaps c = cc

pub returns-in-Covers : goal.returns-in-Covers
unfolding dates_relate
returns-in-Covers c = cc
