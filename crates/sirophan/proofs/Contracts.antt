-- The code's answers are refused by the tables: a slice holds bytes, which is all that the tables ask.
-- Assumes nothing.
use Rattle.std.specs.Prelude.{Result, Bool}
use Prim.Native.Nat.{ℕ}
use mathlib.Core.Path.{◌≡◌, sym, ◌∙◌}
use mathlib.Core.List.{List}
use lib.ListN.{length}
use Rattle.base.proofs.All.{bytes_of}
use Rattle.refusal.specs.Answers.{Answer, counted_answer, matched_answer}
use Rattle.answer.specs.Operations.{check_answer, filter_question, match_answer, select_answer}
use Rattle.answer.specs.Refusals.{CheckLine, MatchLine, SelectLine}
use Rattle.selecting.specs.Selecting.{Selects}
use Rattle.answer.specs.Searching.{check_search_answer, search_question, match_search_answer, select_search_answer}
use Rattle.answer.specs.SearchRefusals.{CheckSearchLine, MatchSearchLine, SelectSearchLine}
use Rattle.sirophan.specs.Operations.{RefusedBy, Checks, Matches, SelectsInto, ChecksSearch, MatchesSearch, SelectsSearchInto, PreparesInto, Judges}
use Rattle.answer.specs.Preparing.{prepare_answer, judge_answer, Prepares}
use Rattle.answer.specs.RowsRefusals.{PrepareLine, JudgeLine}
use Rattle.answer.proofs.Slices.{Sliced}
use Rattle.answer.proofs.CheckTable.{check_table}
use Rattle.answer.proofs.MatchTable.{match_table}
use Rattle.answer.proofs.SelectTable.{select_table}
use Rattle.answer.proofs.SearchTable.{check_search_table, match_search_table, select_search_table}
use Rattle.answer.proofs.RowsTable.{prepare_table, judge_table}
use Rattle.refusal.specs.declared.Refusal.{Refusal}

-- the table of a definition is that of an equal answer
pub refused_by : (Line : ℕ → ℕ → Type 0) (a b : Answer) → a ≡ b → RefusedBy Line b → RefusedBy Line a
refused_by Line a b e t n p = ((λ f. (t n p).0 (sym e ∙ f)), (λ d. e ∙ (t n p).1 d))

pub checks : (sheet text : List ℕ) (r : Result ℕ Refusal) → counted_answer r ≡ check_answer sheet text → Sliced sheet → Checks sheet text r
checks sheet text r e s =
    record { answers = e; refuses = refused_by (CheckLine sheet text) (counted_answer r) (check_answer sheet text) e (check_table sheet text (bytes_of sheet s)) }

pub matches : (sheet text card : List ℕ) (r : Result Bool Refusal) → matched_answer r ≡ match_answer sheet text card → Sliced sheet → Sliced card → Matches sheet text card r
matches sheet text card r e s c =
    record {
      answers = e;
      refuses = refused_by (MatchLine sheet text card) (matched_answer r) (match_answer sheet text card) e (match_table sheet text card (bytes_of sheet s) (bytes_of card c));
    }

pub selects_into : (sheet text cards list : List ℕ) (r : Result ℕ Refusal) (exit : List ℕ) → Selects (filter_question sheet text) cards list r exit → Sliced sheet → Sliced cards
    → SelectsInto sheet text cards list r exit
selects_into sheet text cards list r exit h s c =
    record {
      answers = h.answers;
      cells = h.cells;
      refuses =
          refused_by (SelectLine sheet text cards (length list)) (counted_answer r) (select_answer sheet text cards (length list)) h.answers
          (select_table sheet text cards (length list) (bytes_of sheet s) (bytes_of cards c));
    }

-- ---- by a search string

pub checks_search : (sheet text : List ℕ) (r : Result ℕ Refusal) → counted_answer r ≡ check_search_answer sheet text → Sliced sheet → ChecksSearch sheet text r
checks_search sheet text r e s =
    record {
      answers = e;
      refuses = refused_by (CheckSearchLine sheet text) (counted_answer r) (check_search_answer sheet text) e (check_search_table sheet text (bytes_of sheet s));
    }

pub matches_search : (sheet text card : List ℕ) (r : Result Bool Refusal) → matched_answer r ≡ match_search_answer sheet text card → Sliced sheet → Sliced card → MatchesSearch sheet text card r
matches_search sheet text card r e s c =
    record {
      answers = e;
      refuses =
          refused_by (MatchSearchLine sheet text card) (matched_answer r) (match_search_answer sheet text card) e
          (match_search_table sheet text card (bytes_of sheet s) (bytes_of card c));
    }

pub selects_search_into : (sheet text cards list : List ℕ) (r : Result ℕ Refusal) (exit : List ℕ) → Selects (search_question sheet text) cards list r exit → Sliced sheet → Sliced cards
    → SelectsSearchInto sheet text cards list r exit
selects_search_into sheet text cards list r exit h s c =
    record {
      answers = h.answers;
      cells = h.cells;
      refuses =
          refused_by (SelectSearchLine sheet text cards (length list)) (counted_answer r) (select_search_answer sheet text cards (length list)) h.answers
          (select_search_table sheet text cards (length list) (bytes_of sheet s) (bytes_of cards c));
    }

-- ---- by rows

pub prepares_into : (sheet text list : List ℕ) (r : Result ℕ Refusal) (exit : List ℕ) → Prepares sheet text list r exit → Sliced sheet → PreparesInto sheet text list r exit
prepares_into sheet text list r exit h s =
    record {
      answers = h.answers;
      cells = h.cells;
      refuses = refused_by (PrepareLine sheet text (length list)) (counted_answer r) (prepare_answer sheet text (length list)) h.answers (prepare_table sheet text (length list) (bytes_of sheet s));
    }

pub judges : (sheet text cells card : List ℕ) (r : Result Bool Refusal) → matched_answer r ≡ judge_answer sheet text cells card → Sliced sheet → Sliced card → Judges sheet text cells card r
judges sheet text cells card r e s c =
    record {
      answers = e;
      refuses = refused_by (JudgeLine sheet text cells card) (matched_answer r) (judge_answer sheet text cells card) e (judge_table sheet text cells card (bytes_of sheet s) (bytes_of card c));
    }
