-- `rows::fit::value_fits` meets its contract. Assumes nothing.
use borrow.Author.Rules.{rules}
use Rattle.kind.specs.Readable.{value_readable}
use Rattle.rows.proofs.fit.value_fits.Goals as goal

pub returns : goal.returns
returns c = c.of_value.ensures (λ v. value_readable c.args.operator c.args.kind v) (λ b x h. search rules)
