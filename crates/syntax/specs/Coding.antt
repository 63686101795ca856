-- The code of a test, by which a proof tells tests apart: a path as the bundles' names before it, and the name at its end.
-- Assumes nothing.
use Rattle.std.specs.Prelude.{ℕ, ◌≡◌, List, [], ◌∷◌, refl}
use mathlib.Core.Path.{ap}
use Rattle.std.specs.Coded.{Coded, code_by, coded_ℕ, coded_list, coded×}
use Rattle.syntax.specs.Tree.{Path, name, member, Test}

abbrev bundles_of : Path → List (List ℕ)
bundles_of (name n) = []
bundles_of (member b p) = b ∷ bundles_of p

abbrev name_of : Path → List ℕ
name_of (name n) = n
name_of (member b p) = name_of p

abbrev path_of : List (List ℕ) → List ℕ → Path
path_of [] n = name n
path_of (b ∷ bs) n = member b (path_of bs n)

pub path_back : (p : Path) → path_of (bundles_of p) (name_of p) ≡ p
path_back (name n) = refl
path_back (member b p) = ap (member b) (path_back p)

abbrev pub path_code : Coded Path
path_code =
    code_by (List (List ℕ) × List ℕ) (coded× (coded_list (coded_list coded_ℕ)) (coded_list coded_ℕ)) (λ p. (bundles_of p, name_of p)) (λ n. path_of n.0 n.1) path_back

abbrev pub test_code : Coded Test
test_code =
    code_by (ℕ × (Path × (ℕ × List ℕ))) (coded× coded_ℕ (coded× path_code (coded× coded_ℕ (coded_list coded_ℕ)))) (λ t. (t.at, (t.path, (t.operator, t.value))))
    (λ c. record { at = c.0; path = c.1.0; operator = c.1.1.0; value = c.1.1.1 }) (λ _. refl)
