-- The short names that a filter may use for a system, and the namespaces that they stand for.
-- Assumes nothing.
use Rattle.std.specs.Prelude.{ℕ, Bool, true, false, cond, List, [], ◌∷◌}
use Rattle.base.specs.Ascii.{ascii}
use Rattle.text.specs.Compare.{same}

-- a short name and its namespace
pub record Short : Type 0 where
  pub name : List ℕ
  pub namespace : List ℕ

-- 01: the short names, with the namespaces below its table
abbrev pub short_names : List Short
short_names =
    record { name = ascii "loinc"; namespace = ascii "http://loinc.org" }
    ∷ record { name = ascii "snomed"; namespace = ascii "http://snomed.info/sct" }
    ∷ record { name = ascii "rxnorm"; namespace = ascii "http://www.nlm.nih.gov/research/umls/rxnorm" }
    ∷ record { name = ascii "ucum"; namespace = ascii "http://unitsofmeasure.org" }
    ∷ []

-- the namespace of the first short name that a system is, case ignored; any other system stands for itself
unfoldable pub stands_for : List Short → List ℕ → List ℕ
stands_for [] s = s
stands_for (row ∷ rows) s = cond (same s row.name) row.namespace (stands_for rows s)

-- what a filter's system stands for
unfoldable pub namespace_of : List ℕ → List ℕ
namespace_of s = stands_for short_names s

-- what a system asks for: its namespace where short names are meant, and else itself
unfoldable pub system_of : (short : Bool) → List ℕ → List ℕ
system_of true s = namespace_of s
system_of false s = s
