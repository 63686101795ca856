-- `judge::sets::entry_conforms` meets its contract: past the table there is no kind. Assumes nothing.
use borrow.Author.Rules.{rules}
use Rattle.judge.proofs.Entries.{conforms_at}
use Rattle.judge.proofs.sets.entry_conforms.Goals as goal

pub returns : goal.returns
returns c = rw (← c.from.ensures) (conforms_at _ _ _ _ _ _ c.get.ensures.lookup c.is_some_and.ensures (λ x h. search rules))
