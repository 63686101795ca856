-- What a test and a filter say of a card.
-- Assumes nothing.
use Rattle.std.specs.Prelude.{ℕ, Bool, true, false, cond, not, ◌&&◌, ◌||◌, List, [], ◌∷◌, Option, None, Some}
use Rattle.sheet.specs.Sheet.{Parameter}
use Rattle.sheet.specs.declared.Found.{Found}
use Rattle.card.specs.Card.{Entry}
use Rattle.syntax.specs.Tree.{Test, Tree}
use Rattle.syntax.specs.Fold.{Fold, fold_tree}
use Rattle.syntax.specs.declared.Connective.{Connective}
use Rattle.kind.specs.Table.{meaning_of}
use Rattle.kind.specs.Readable.{is_true}
use Rattle.kind.specs.Relations.{relates_to}
use Rattle.kind.specs.declared.Relation.{Relation}
use Rattle.kind.specs.declared.Meaning.{Meaning}
use Rattle.judge.specs.Sets.{lookup, values_at, of_occurrence, keep}
use Rattle.sheet.specs.Find.{enter}

-- ---- a test

-- some text of the set passes the test
unfoldable pub some_value : (List ℕ → Bool) → List (List ℕ) → Bool
some_value p [] = false
some_value p (x ∷ xs) = p x || some_value p xs

-- there is no text in the set
unfoldable pub is_empty : List (List ℕ) → Bool
is_empty [] = true
is_empty (x ∷ xs) = false

-- the text stands in the relation to the value, or, where differs, does not
abbrev pub related : Bool → Relation → List ℕ → List ℕ → Bool
related false r v x = relates_to r x v
related true r v x = not (relates_to r x v)

-- "a test says yes when some text in the set stands in the relation; on an empty set it says no, save pr, where pr true asks
-- for a set that is not empty and pr false for an empty one"; "ne: some text in the set is not eq"
unfoldable pub says_of : Meaning → List ℕ → List (List ℕ) → Bool
says_of Meaning.Present v set = cond (is_true v) (not (is_empty set)) (is_empty set)
says_of (Meaning.Relates r) v set = some_value (related false r v) set
says_of (Meaning.Differs r) v set = some_value (related true r v) set
says_of Meaning.Nothing v set = false

-- the same from whether some text counts: for pr each does
unfoldable pub text_counts : Meaning → List ℕ → List ℕ → Bool
text_counts Meaning.Present v x = true
text_counts (Meaning.Relates r) v x = related false r v x
text_counts (Meaning.Differs r) v x = related true r v x
text_counts Meaning.Nothing v x = false

-- what a test says, where some says that some text counts: pr false asks for none
unfoldable pub some_says : Meaning → Bool → Bool → Bool
some_says Meaning.Present truth some = cond truth some (not some)
some_says (Meaning.Relates r) truth some = some
some_says (Meaning.Differs r) truth some = some
some_says Meaning.Nothing truth some = some

-- an operator and a value at what the path names
abbrev pub says_at : Option Found → ℕ → List ℕ → List Entry → Bool
says_at None k v es = false
says_at (Some found) k v es = says_of (meaning_of k found.kind) v (values_at found.index es)

-- of a test whose path is looked up in c
unfoldable pub test_says : List Parameter → ℕ → List Entry → Test → Bool
test_says ps c es t = says_at (lookup ps c t.path) t.operator t.value es

-- ---- a filter

-- two verdicts with a connective between them
abbrev pub joined : Connective → Bool → Bool → Bool
joined Connective.And a b = a && b
joined Connective.Or a b = a || b

-- what a filter says, looked up in c, of entries: it "joins those of its items from left to right, and and or equal in rank"; "after
-- not the opposite"; 02: square brackets hold a filter "judged for each occurrence by itself; the set is the named member's texts from
-- the occurrences that say yes"
abbrev pub saying : List Parameter → Fold (ℕ → List Entry → Bool)
saying ps =
    record {
      one = λ t c es. test_says ps c es t;
      inside = λ p b f said t c es. test_says ps (enter ps c b) (keep (λ e. said (enter ps c b) (of_occurrence e.occurrence es)) es) t;
      both = λ k f g c es. joined k (f c es) (g c es);
      negate = λ f c es. not (f c es);
    }

unfoldable pub filter_says : List Parameter → ℕ → List Entry → Tree → Bool
filter_says ps c es f = fold_tree (saying ps) f c es
