-- `syntax::read_choice` meets its contract: the tests are those of the definition. Assumes nothing.
use borrow.Author.Rules.{rules}
use Rattle.syntax.proofs.Structure.{choice_here, choice_nothing, choice_no_name}
use Rattle.syntax.proofs.read_choice.Goals as goal

pub returns-then-has : goal.returns-then-has
returns-then-has c = search (choice_here, rules)

pub returns-then-is_name_run : goal.returns-then-is_name_run
returns-then-is_name_run c = search (choice_nothing, rules)

pub returns : goal.returns
returns c = search (choice_no_name, rules)
