-- `search::faults::text_fault` meets its contract: the tests are those of the definition. Assumes nothing.
use borrow.Author.Rules.{rules}
use Rattle.search.proofs.Judging.{prefix_within, fault_asked, token-readable, token_unreadable}
use Rattle.search.proofs.faults.text_fault.Goals as goal

pub returns-then-readable_at : goal.returns-then-readable_at
returns-then-readable_at c = search (token-readable, rules)

pub returns-then-kind : goal.returns-then-kind
returns-then-kind c = search (token_unreadable, rules)

pub slice_bounds-kind_fault-count : goal.slice_bounds-kind_fault-count
slice_bounds-kind_fault-count c = search (prefix_within, rules)

pub returns : goal.returns
returns c = search (fault_asked, rules)
