-- `search::says::text_says` meets its contract: the tests are those of the definition. Assumes nothing.
use borrow.Author.Rules.{rules}
use Rattle.search.proofs.Judging.{prefix_within, says_asked, token-says}
use Rattle.search.proofs.says.text_says.Goals as goal

pub returns-then-kind : goal.returns-then-kind
returns-then-kind c = search (token-says, rules)

pub slice_bounds-says_of-count : goal.slice_bounds-says_of-count
slice_bounds-says_of-count c = search (prefix_within, rules)

pub returns : goal.returns
returns c = search (says_asked, rules)
