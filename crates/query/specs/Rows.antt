-- A query as the code keeps it: rows over a buffer of decoded bytes.
-- Assumes nothing.
use Rattle.std.specs.Prelude.{ℕ, suc, ◌+◌, ◌≤◌, ◌≡◌, Bool, true, false, cond, ◌&&◌, ◌||◌, List, [], ◌∷◌, ◌++◌, map, ltb, length, take, set, Err, Ok, Result}
use Rattle.base.specs.Lists.{All}
use Rattle.base.specs.Parts.{part}
use Rattle.query.specs.Spelling.{Alternative, Query, alternatives_of}
use Rattle.refusal.specs.declared.Reason.{Reason}
use Rattle.refusal.specs.declared.Refusal.{Refusal}
use Rattle.refusal.specs.Steps.{found, stop, refusal_step}
use Rattle.query.specs.Met.{query_met}
use Rattle.query.specs.Reader.{signs_of, read_pairs, accept_query, alternative, cut_signs}
use Rattle.query.specs.declared.Held.{Held}
use Rattle.query.specs.declared.Row.{Row}
use Rattle.query.specs.declared.Rows.{Rows}

unfoldable pub pushed : Rows → Row → Rows
pushed q r = record { count = q.count + 1; rows = cond (ltb q.count 32) (set q.rows q.count r) q.rows }

-- an alternative, and whether its pair ends with it
pub record Kept : Type 0 where
  pub alternative : Alternative
  pub last : Bool

-- the alternatives of a pair, and of a query
unfoldable pub keep_pair : List Alternative → List Kept
keep_pair [] = []
keep_pair (a ∷ []) = record { alternative = a; last = true } ∷ []
keep_pair (a ∷ b ∷ rest) = record { alternative = a; last = false } ∷ keep_pair (b ∷ rest)

unfoldable pub keep_all : Query → List Kept
keep_all [] = []
keep_all (p ∷ q) = keep_pair p ++ keep_all q

-- what a row keeps
unfoldable pub kept_in : List ℕ → Row → Kept
kept_in bytes r =
    record { alternative = record { at = r.at; name = part bytes r.name r.until; text = part bytes r.text r.end; split = r.split }; last = r.last }

-- the row's name and text stand in the first n bytes
pub record RowWithin (n : ℕ) (r : Row) : Type 0 where
  pub name : r.name ≤ r.until
  pub until : r.until ≤ n
  pub text : r.text ≤ r.end
  pub end : r.end ≤ n

-- the rows keep the query, whose bytes end at `used`; beyond 32 they count it
pub record Keeps (rows : Rows) (bytes : List ℕ) (used : ℕ) (q : List Kept) : Type 0 where
  pub count : rows.count ≡ length q
  pub cells : length rows.rows ≡ 32
  pub kept : rows.count ≤ 32 → map (kept_in bytes) (take rows.count rows.rows) ≡ q
  pub ends : rows.count ≤ 32 → All (RowWithin used) (take rows.count rows.rows)

-- the verdict over them, where `met` says whether an alternative of the pair has said yes
unfoldable pub kept_says : (Alternative → Bool) → (met : Bool) → List Kept → Bool
kept_says says met [] = true
kept_says says met (k ∷ ks) = cond k.last ((met || says k.alternative) && kept_says says false ks) (kept_says says (met || says k.alternative) ks)

-- what `keep_pair` leaves: the rows keep the pair's alternatives after what they kept
pub record PairHeld (value : List ℕ) (at name until start : ℕ) (bytes₀ : List ℕ) (entry : Rows) (bytes : List ℕ) (r : Held) : Type 0 where
  pub keeps : (ks : List Kept) → Keeps entry bytes₀ start ks → Keeps r.rows bytes r.used (ks ++ keep_pair (map (alternative at (part bytes₀ name until)) (cut_signs (signs_of false value))))
  pub front : take start bytes ≡ take start bytes₀
  pub lower : start ≤ r.used
  pub upper : r.used ≤ start + length value
  pub count : r.rows.count ≤ entry.count + length value + 1

-- what `read_query` leaves: rows that keep the query, or the place of 50
pub data QueryOf (text bytes : List ℕ) : Result Rows Refusal → Type 0 where
  query_of : {q : Query} {rows : Rows} (used : ℕ) → used ≤ length bytes → read_pairs (suc (length text)) 0 text ≡ found q → Keeps rows bytes used (keep_all q) → QueryOf text bytes (Ok rows)
  query_of_none : {at : ℕ} → read_pairs (suc (length text)) 0 text ≡ stop 50 at → QueryOf text bytes (Err (record { reason = Reason.NoPair; place = at }))

-- what `accept_query` leaves: the definition's query, kept in at most 32 rows, or its refusal
pub data AcceptsQuery (text bytes : List ℕ) : Result Rows Refusal → Type 0 where
  accepted_query : {q : Query} {rows : Rows} (used : ℕ) → used ≤ length bytes → accept_query text ≡ found q → rows.count ≤ 32 → Keeps rows bytes used (keep_all q) → AcceptsQuery text bytes (Ok rows)
  accepted_none : {r : Refusal} → accept_query text ≡ refusal_step r → AcceptsQuery text bytes (Err r)

-- ---- rows that are kept, as they are judged

-- the rows are at most 32, and stand in the first n bytes
pub record RowsWithin (n : ℕ) (rows : Rows) : Type 0 where
  pub few : rows.count ≤ 32
  pub cells : length rows.rows ≡ 32
  pub within : All (RowWithin n) (take rows.count rows.rows)

-- the alternative that a row keeps, and those of all rows
abbrev pub alternative_in : List ℕ → Row → Alternative
alternative_in bytes r = (kept_in bytes r).alternative

unfoldable pub alternatives_in : List ℕ → Rows → List Alternative
alternatives_in bytes rows = map (alternative_in bytes) (take rows.count rows.rows)

-- what they say, where Says is what an alternative says
unfoldable pub rows_say : (Alternative → Bool) → List ℕ → Rows → Bool
rows_say says bytes rows = kept_says says false (map (kept_in bytes) (take rows.count rows.rows))

-- a search string was accepted, and the rows keep its query
pub record RowsOf (text bytes : List ℕ) (rows : Rows) (q : Query) : Type 0 where
  pub accepted : accept_query text ≡ found q
  pub within : RowsWithin (length bytes) rows
  pub alternatives : alternatives_in bytes rows ≡ alternatives_of q
  pub count : rows.count ≡ length (alternatives_of q)
  pub says : (says : Alternative → Bool) → rows_say says bytes rows ≡ query_met says q
