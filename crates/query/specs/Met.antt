-- Whether a query is met, from what its alternatives say.
-- Assumes nothing.
use Rattle.std.specs.Prelude.{Bool, true, false, ◌&&◌, ◌||◌, List, [], ◌∷◌}
use Rattle.query.specs.Spelling.{Alternative, Query}

-- a pair is met where some alternative of it says yes
unfoldable pub pair_met : (Alternative → Bool) → List Alternative → Bool
pair_met says [] = false
pair_met says (a ∷ rest) = says a || pair_met says rest

-- "pairs .., all to be met"
unfoldable pub query_met : (Alternative → Bool) → Query → Bool
query_met says [] = true
query_met says (p ∷ q) = pair_met says p && query_met says q
