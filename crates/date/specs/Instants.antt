-- The instants of a date.
-- Assumes nothing.
use Rattle.std.specs.Prelude.{ℤ, ◌≤ℤ◌, ◌<ℤ◌}
use Rattle.date.specs.declared.Date.{Date}

-- the instant t, in seconds from 1970-01-01T00:00:00Z, lies in the date's range: start in, end out
pub record InRange (d : Date) (t : ℤ) : Type 0 where
  pub from : d.start ≤ℤ t
  pub before : t <ℤ d.end
