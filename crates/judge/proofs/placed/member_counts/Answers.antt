-- `judge::placed::member_counts` meets its contract. Assumes nothing.
use borrow.Author.Rules.{rules}
use Rattle.judge.specs.Verdicts.{text_counts}
use Rattle.judge.proofs.placed.member_counts.Goals as goal

pub returns : goal.returns
returns c = c.of_value.ensures (λ v. text_counts c.args.meaning v c.args.text.now) (λ b x h. search rules)
