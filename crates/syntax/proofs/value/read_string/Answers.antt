-- `syntax::value::read_string` meets its contract. The loop's invariant: what is left decides what is found. Assumes nothing.
use borrow.Author.Rules.{rules}
use Rattle.syntax.proofs.Values.{string_starts, string_more, string_closes, string_wrong, string_open}
use Rattle.syntax.proofs.value.read_string.Goals as goal

pub loop-end-preserved : goal.loop-end-preserved
loop-end-preserved c = search (string_more, rules)

pub returns-in-Close : goal.returns-in-Close
returns-in-Close c = search (string_closes, rules)

pub returns-in-Wrong : goal.returns-in-Wrong
returns-in-Wrong c = search (string_wrong, rules)

pub returns : goal.returns
returns c = search (string_open, rules)
