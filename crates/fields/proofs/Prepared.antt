-- Rows that prepare writes use the names of the filter: what they state differs from it in positions alone, which no path has.
-- Assumes nothing.
use Prim.Native.Nat.{ℕ, ◌≤◌}
use mathlib.Core.Path.{◌≡◌, refl, sym, ap, ap₂, ◌∙◌}
use mathlib.Core.Option.{some-injective}
use mathlib.Core.List.{List, [], ◌∷◌, ◌++◌, map, map-append}
use lib.ListN.{length, take}
use Rattle.sheet.specs.Encode.{SheetBlock}
use Rattle.syntax.specs.Tree.{Path, member, Test, under, Tree, test, bracketed, join, negation, tests_of, erase}
use Rattle.syntax.specs.Grammar.{Spells}
use Rattle.rows.specs.Expression.{Expression}
use Rattle.rows.specs.Good.{Good}
use Rattle.rows.specs.Stated.{tree_of}
use Rattle.rows.proofs.Good.{good_states}
use Rattle.refusal.specs.Answers.{count}
use Rattle.answer.specs.Preparing.{prepare_answer, prepare_cells}
use Rattle.sirophan.proofs.Promises.{prepare_good}
use Rattle.fields.specs.Used.{names_of}

abbrev path_of : Test → Path
path_of t = t.path

names_under : (b : List ℕ) (ts : List Test) → map path_of (map (under b) ts) ≡ map (member b) (map path_of ts)
names_under b [] = refl
names_under b (t ∷ ts) = ap (λ (l : List Path). member b t.path ∷ l) (names_under b ts)

names_erased : (f : Tree) → names_of (erase f) ≡ names_of f
unfolding erase tests_of
names_erased (test t) = refl
names_erased (bracketed p b f t) =
    ap (λ (l : List Path). member b t.path ∷ l) (names_under b (tests_of (erase f)) ∙ ap (map (member b)) (names_erased f) ∙ sym (names_under b (tests_of f)))
names_erased (join k f g) =
    map-append path_of (tests_of (erase f)) (tests_of (erase g)) ∙ ap₂ (λ (l m : List Path). l ++ m) (names_erased f) (names_erased g) ∙ sym (map-append path_of (tests_of f) (tests_of g))
names_erased (negation f) = names_erased f

pub prepared_names : (sheet text : List ℕ) (s : SheetBlock sheet) (f : Tree) → length text ≤ 1024 → Spells text f → (list : List ℕ) (n : ℕ) → prepare_answer sheet text (length list) ≡ count n
    → (g : Good s.parameters text (take n (prepare_cells sheet text list))) → names_of (tree_of s.parameters text g.expression) ≡ names_of f
prepared_names sheet text s f short spells list n e g =
    let ps = s.parameters in
    let p = prepare_good sheet text s f short spells list n e in
    let one : g.expression ≡ p.rows.expression = some-injective _ _ (sym (good_states ps s.well_formed text g) ∙ good_states ps s.well_formed text p.rows) in
    ap (λ (x : Expression). names_of (tree_of ps text x)) one
    ∙ sym (names_erased (tree_of ps text p.rows.expression)) ∙ ap names_of p.states ∙ names_erased f
