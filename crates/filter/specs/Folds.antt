-- What reading gathers over a tree: the number of tests and the first refusal.
-- Assumes nothing.
use Rattle.std.specs.Prelude.{ℕ, ◌+◌, List, [], ◌∷◌, length}
use Rattle.sheet.specs.Sheet.{Parameter}
use Rattle.syntax.specs.Tree.{Test, bracketed, tests_of}
use Rattle.syntax.specs.Fold.{Fold}
use Rattle.refusal.specs.Decisions.{or_else}
use Rattle.judge.specs.Faults.{first_fault}
use Rattle.filter.specs.declared.Summary.{Summary}
use Rattle.filter.specs.declared.Walked.{Walked}

-- what was read up to q, with what was gathered
abbrev pub walked : ℕ → Summary → Walked
walked q a = record { end = q; summary = a }

-- of two parts together
abbrev pub join_summaries : Summary → Summary → Summary
join_summaries a b = record { tests = a.tests + b.tests; first = or_else a.first b.first }

-- of tests whose paths are looked up in c
abbrev pub summary_of : List Parameter → ℕ → List Test → Summary
summary_of ps c ts = record { tests = length ts; first = first_fault ps c ts }

abbrev pub reading : List Parameter → ℕ → Fold Summary
reading ps c =
    record {
      one = λ t. summary_of ps c (t ∷ []);
      inside = λ p b f a t. summary_of ps c (tests_of (bracketed p b f t));
      both = λ o a b. join_summaries a b;
      negate = λ a. a;
    }
