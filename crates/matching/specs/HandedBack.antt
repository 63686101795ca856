-- What match answers where prepare gives no rows.
-- Assumes nothing.
use Rattle.std.specs.Prelude.{Err, Ok, Result, ℕ}
use Rattle.refusal.specs.Answers.{Answer, refused, refusal_answer}
use Rattle.refusal.specs.declared.Refusal.{Refusal}

-- "hands a refusal straight back"; whatever else it were given, it is no yes and no no
unfoldable pub handed_back : Result ℕ Refusal → Answer
handed_back (Err r) = refusal_answer r
handed_back (Ok n) = refused 40 0
