-- `judge::placed::test_says` meets its contract: the value is the text's part, or what its escapes stand for. Assumes nothing.
use mathlib.Core.Path.{◌∙◌, sym}
use Rattle.judge.proofs.Meaning.{says-placed, value-escaped, value-plain}
use Rattle.judge.proofs.placed.test_says.Goals as goal

pub returns-then-value : goal.returns-then-value
returns-then-value c = says-placed _ _ _ _ c.test_found-found.ensures _ c.operator-operator.ensures _ _ _ c.says_at.ensures (c.value-value.ensures.value ∙ sym (value-escaped _ _ _ _ c.decode-n.ensures c.if-value.true))

pub returns : goal.returns
returns c = says-placed _ _ _ _ c.test_found-found.ensures _ c.operator-operator.ensures _ _ _ c.says_at-2.ensures (c.value-value.ensures.value ∙ sym (value-plain _ _ c.if-value.false))
