-- `period::reader::read_span` meets its contract: a date is its period, and any other text is read as one. Assumes nothing.
use borrow.Author.Rules.{rules}
use mathlib.Core.Path.{refl}
use Rattle.period.proofs.Texts.{span_first}
use Rattle.period.proofs.reader.read_span.Goals as goal

pub returns : goal.returns
returns c = span_first _ _ c.read.ensures _ _ _ _ _ refl c.map.ensures.cases c.or_else.ensures (λ d p h. search rules) (λ h. search rules)
