-- The filters that ask what a search string asks, and what is promised of them: 02, "any filter that check passes, with these tests,
-- alternatives joined by or in brackets and pairs by and, gives the same verdict, short system names and escaped bars aside". Assumes nothing.
use Rattle.std.specs.Prelude.{ℕ, ◌<◌, ◌≡◌, length, take}
use mathlib.Core.List.{List, [], ◌∷◌, ◌++◌, Permᴰ}
use Rattle.base.specs.Kinds.{token}
use Rattle.token.specs.Rules.{StandsFor}
use Rattle.sheet.specs.Sheet.{Parameter}
use Rattle.syntax.specs.Tree.{name, Test, Tree, test, join}
use Rattle.syntax.specs.declared.Connective.{Connective}
use Rattle.judge.specs.Rules.{Names}
use Rattle.query.specs.Spelling.{Sign, TextIs, SplitAt, NoPlainBar, Alternative, Query}
use Rattle.search.specs.Asking.{AskedBy}
use Rattle.answer.specs.Operations.{check_answer, match_answer, select_answer, select_cells}
use Rattle.answer.specs.Searching.{check_search_answer, match_search_answer, select_search_answer, select_search_cells}

-- trees joined by a connective, however bracketed
pub data Joined (c : Connective) : List Tree → Tree → Type 0 where
  alone : {f : Tree} → Joined c (f ∷ []) f
  joins : {fs gs : List Tree} {f g : Tree} → Joined c fs f → Joined c gs g → Joined c (fs ++ gs) (join c f g)

-- the test asks what the alternative asks
pub record AsksAlike (ps : List Parameter) (a : Alternative) (t : Test) : Type 0 where
  pub index : ℕ
  pub kind : ℕ
  pub path : t.path ≡ name a.name
  pub names : Names ps (name a.name) index kind
  pub asked : AskedBy kind a.text t.operator t.value
  -- the alternative's signs; "escaped bars aside": of a token none is a bar behind a backslash
  pub signs : List Sign
  pub text : TextIs signs a.text
  pub split : SplitAt signs a.split
  pub bars : kind ≡ token → NoPlainBar signs
  -- "short system names .. aside": its system, where it has a bar, stands for itself
  pub systems : kind ≡ token → a.split < length a.text → StandsFor (take a.split a.text) (take a.split a.text)

-- the alternatives of a pair and tests that ask for the same, one by one
pub data TestsAlike (ps : List Parameter) : List Alternative → List Tree → Type 0 where
  alike_end : TestsAlike ps [] []
  alike_next : {a : Alternative} {rest : List Alternative} {t : Test} {fs : List Tree} → AsksAlike ps a t → TestsAlike ps rest fs → TestsAlike ps (a ∷ rest) (test t ∷ fs)

-- "any filter .. with these tests, alternatives joined by or in brackets", in whichever order
pub data PairsAlike (ps : List Parameter) : Query → List Tree → Type 0 where
  pairs_end : PairsAlike ps [] []
  pairs_next : {p : List Alternative} {q : Query} {ts us fs : List Tree} {f : Tree} → TestsAlike ps p ts → Permᴰ ts us → Joined Connective.Or us f → PairsAlike ps q fs → PairsAlike ps (p ∷ q) (f ∷ fs)

-- "and pairs by and", in whichever order
pub record SameQuestion (ps : List Parameter) (q : Query) (f : Tree) : Type 0 where
  pub pairs : List Tree
  pub ordered : List Tree
  pub alike : PairsAlike ps q pairs
  pub order : Permᴰ pairs ordered
  pub joined : Joined Connective.And ordered f

-- the search string is answered as the filter is
pub record AnsweredAlike (sheet query text : List ℕ) : Type 0 where
  pub check : check_search_answer sheet query ≡ check_answer sheet text
  pub match : (card : List ℕ) → match_search_answer sheet query card ≡ match_answer sheet text card
  pub select : (cards : List ℕ) (room : ℕ) → select_search_answer sheet query cards room ≡ select_answer sheet text cards room
  pub cells : (cards list : List ℕ) → select_search_cells sheet query cards list ≡ select_cells sheet text cards list
