-- The rows of a search string that check passes ask what the string asks: select by a search string.
-- Assumes nothing.
use Rattle.std.specs.Prelude.{Err, Ok, Result}
use Prim.Native.Nat.{ℕ}
use mathlib.Core.Path.{◌≡◌, sym, subst}
use mathlib.Core.List.{List}
use Rattle.sheet.specs.Sheet.{parameters_of}
use Rattle.refusal.specs.Steps.{Step, found}
use Rattle.refusal.specs.declared.Refusal.{Refusal}
use Rattle.answer.specs.Operations.{Question}
use Rattle.query.specs.declared.Rows.{Rows}
use Rattle.answer.specs.Searching.{search_question}
use Rattle.searching.specs.SearchPassing.{ReadsRows, rows_question}
use Rattle.selecting.specs.Selecting.{Selects}
use Rattle.searching.proofs.SearchPassing.{question_stopped, asks}
use Rattle.selecting.proofs.Selecting.{select_stopped}

module _ (sheet text bytes : List ℕ) (r : Result Rows Refusal) (read : ReadsRows sheet text bytes r) where
  pub select_search_refused : (cards list : List ℕ) (f : Refusal) → r ≡ Err f → Selects (search_question sheet text) cards list (Err f) list
  select_search_refused cards list f h = select_stopped (search_question sheet text) cards list f (question_stopped sheet text bytes r read f h)

  module _ (read_rows : Rows) (h' : r ≡ Ok read_rows) where
    pub search_selects : (b t : List ℕ) (rows : Rows) (cards list : List ℕ) (s : Result ℕ Refusal) (exit : List ℕ) → b ≡ sheet → t ≡ bytes → rows ≡ read_rows
        → Selects (found (rows_question (parameters_of b) t rows)) cards list s exit → Selects (search_question sheet text) cards list s exit
    search_selects b t rows cards list s exit e f h g = subst (λ (a : Step Question). Selects a cards list s exit) (sym (asks sheet text bytes r read read_rows h')) (rw (← e, ← f, ← h) g)
