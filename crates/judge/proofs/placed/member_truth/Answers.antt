-- `judge::placed::member_truth` meets its contract. Assumes nothing.
use borrow.Author.Rules.{rules}
use Rattle.kind.specs.Readable.{is_true}
use Rattle.judge.proofs.placed.member_truth.Goals as goal

pub returns : goal.returns
returns c = c.of_value.ensures is_true (λ b x h. search rules)
