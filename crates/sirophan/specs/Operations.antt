-- What the code of the operations does on every input: the answer of its definition, and of a refusal that a line of the table decides.
-- Assumes nothing.
use Rattle.std.specs.Prelude.{ℕ, ◌≡◌, ◌↔◌, List, length, Result, Bool}
use Rattle.refusal.specs.Answers.{Answer, refused, counted_answer, matched_answer}
use Rattle.answer.specs.Operations.{check_answer, match_answer, select_answer, select_cells}
use Rattle.sirophan.specs.Spelling.{spell_answer, spell_bytes}
use Rattle.refusal.specs.Order.{Decides}
use Rattle.answer.specs.Refusals.{CheckLine, MatchLine, SelectLine, SpellLine}
use Rattle.answer.specs.Searching.{check_search_answer, match_search_answer, select_search_answer, select_search_cells}
use Rattle.answer.specs.SearchRefusals.{CheckSearchLine, MatchSearchLine, SelectSearchLine}
use Rattle.answer.specs.Preparing.{prepare_answer, prepare_cells, judge_answer}
use Rattle.answer.specs.RowsRefusals.{PrepareLine, JudgeLine}
use Rattle.refusal.specs.declared.Refusal.{Refusal}

-- the answer is refused with a number and a place exactly where that line of the table holds and none before it does
abbrev pub RefusedBy : (ℕ → ℕ → Type 0) → Answer → Type 0
RefusedBy Line a = (n p : ℕ) → (a ≡ refused n p) ↔ Decides Line n p

-- the answer of check, and of a refusal the line that decides
pub record Checks (sheet text : List ℕ) (r : Result ℕ Refusal) : Type 0 where
  pub answers : counted_answer r ≡ check_answer sheet text
  pub refuses : RefusedBy (CheckLine sheet text) (counted_answer r)

-- the same of match, for either engine
pub record Matches (sheet text card : List ℕ) (r : Result Bool Refusal) : Type 0 where
  pub answers : matched_answer r ≡ match_answer sheet text card
  pub refuses : RefusedBy (MatchLine sheet text card) (matched_answer r)

-- every cell of the list at exit, too
pub record SelectsInto (sheet text cards list : List ℕ) (r : Result ℕ Refusal) (exit : List ℕ) : Type 0 where
  pub answers : counted_answer r ≡ select_answer sheet text cards (length list)
  pub cells : exit ≡ select_cells sheet text cards list
  pub refuses : RefusedBy (SelectLine sheet text cards (length list)) (counted_answer r)

-- every byte of the buffer at exit, too
pub record SpellsInto (text : List ℕ) (from : ℕ) (buffer : List ℕ) (r : Result ℕ Refusal) (exit : List ℕ) : Type 0 where
  pub answers : counted_answer r ≡ spell_answer text from (length buffer)
  pub bytes : exit ≡ spell_bytes text from buffer
  pub refuses : RefusedBy (SpellLine text from (length buffer)) (counted_answer r)

-- ---- by a search string

pub record ChecksSearch (sheet text : List ℕ) (r : Result ℕ Refusal) : Type 0 where
  pub answers : counted_answer r ≡ check_search_answer sheet text
  pub refuses : RefusedBy (CheckSearchLine sheet text) (counted_answer r)

pub record MatchesSearch (sheet text card : List ℕ) (r : Result Bool Refusal) : Type 0 where
  pub answers : matched_answer r ≡ match_search_answer sheet text card
  pub refuses : RefusedBy (MatchSearchLine sheet text card) (matched_answer r)

pub record SelectsSearchInto (sheet text cards list : List ℕ) (r : Result ℕ Refusal) (exit : List ℕ) : Type 0 where
  pub answers : counted_answer r ≡ select_search_answer sheet text cards (length list)
  pub cells : exit ≡ select_search_cells sheet text cards list
  pub refuses : RefusedBy (SelectSearchLine sheet text cards (length list)) (counted_answer r)

-- ---- by rows

pub record PreparesInto (sheet text list : List ℕ) (r : Result ℕ Refusal) (exit : List ℕ) : Type 0 where
  pub answers : counted_answer r ≡ prepare_answer sheet text (length list)
  pub cells : exit ≡ prepare_cells sheet text list
  pub refuses : RefusedBy (PrepareLine sheet text (length list)) (counted_answer r)

pub record Judges (sheet text cells card : List ℕ) (r : Result Bool Refusal) : Type 0 where
  pub answers : matched_answer r ≡ judge_answer sheet text cells card
  pub refuses : RefusedBy (JudgeLine sheet text cells card) (matched_answer r)
