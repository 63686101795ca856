-- `query::pieces::mark_at` meets its contract: the tests are those of the definition. Assumes nothing.
use borrow.Author.Rules.{rules}
use Rattle.query.proofs.Gathering.{mark_last, mark-plain, mark_lone, mark_cut, mark-split, mark-byte}
use Rattle.query.proofs.pieces.mark_at.Goals as goal

pub returns-then-at-s : goal.returns-then-at-s
returns-then-at-s c = search (mark_last, rules)

pub returns-then-is_special : goal.returns-then-is_special
returns-then-is_special c = search (mark-plain, rules)

pub returns-then-b-eq92 : goal.returns-then-b-eq92
returns-then-b-eq92 c = search (mark_lone, rules)

pub returns-then-b-eq44 : goal.returns-then-b-eq44
returns-then-b-eq44 c = search (mark_cut, rules)

pub returns-then-b-eq124 : goal.returns-then-b-eq124
returns-then-b-eq124 c = search (mark-split, rules)

pub returns : goal.returns
returns c = search (mark-byte, rules)
