-- `plain::value::is_word` meets its contract: the tests are those of the definition. Assumes nothing.
use Rattle.plain.proofs.Bytes.{word_empty, word-quoted, word_bare}
use borrow.Author.Rules.{rules}
use Rattle.plain.proofs.value.is_word.Goals as goal

pub returns-then-value-eq0 : goal.returns-then-value-eq0
returns-then-value-eq0 c = search (word_empty, rules)

pub returns-then-value-eq34 : goal.returns-then-value-eq34
returns-then-value-eq34 c = search (word-quoted, rules)

pub returns : goal.returns
returns c = search (word_bare, rules)
