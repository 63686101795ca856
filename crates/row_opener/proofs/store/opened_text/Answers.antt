-- `row_opener::store::opened_text` meets its contract. Assumes nothing.
use borrow.Author.Rules.{rules}
use Rattle.row_opener.specs.Opening.{opened_value}
use Rattle.row_opener.proofs.store.opened_text.Goals as goal

pub returns : goal.returns
returns c = c.of_value.ensures (λ v. opened_value c.args.meaning c.args.value v) (λ b x h. search rules)
