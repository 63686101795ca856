-- `token::namespace_matches` meets its contract: the tests say which short name, if any, the system is. Assumes nothing.
use borrow.Author.Rules.{rules}
use Rattle.token.proofs.Namespace.{namespace}
use Rattle.token.proofs.namespace_matches.Goals as goal

pub returns-then-same : goal.returns-then-same
returns-then-same c = search (namespace, rules) depth 9

pub returns-then-same-2 : goal.returns-then-same-2
returns-then-same-2 c = search (namespace, rules) depth 9

pub returns-then-same-3 : goal.returns-then-same-3
returns-then-same-3 c = search (namespace, rules) depth 9

pub returns-then-same-4 : goal.returns-then-same-4
returns-then-same-4 c = search (namespace, rules) depth 9

pub returns : goal.returns
returns c = search (namespace, rules) depth 9
