-- What the test of a member says after its bundle's brackets, entry by entry, as the code goes.
-- Assumes nothing.
use Rattle.std.specs.Prelude.{ℕ, Bool, false, ◌&&◌, ◌||◌, List, [], ◌∷◌, eqb, Option, None, Some}
use Rattle.sheet.specs.Sheet.{Parameter}
use Rattle.sheet.specs.declared.Found.{Found}
use Rattle.card.specs.Card.{Entry}
use Rattle.syntax.specs.Tree.{Test}
use Rattle.syntax.specs.Reader.{Parsed, parsed, unparsed}
use Rattle.kind.specs.Table.{meaning_of}
use Rattle.kind.specs.Readable.{is_true}
use Rattle.kind.specs.declared.Meaning.{Meaning}
use Rattle.judge.specs.Sets.{Chosen, lookup, counts, of_occurrence}
use Rattle.judge.specs.Verdicts.{text_counts, some_says, filter_says}
use Rattle.text_judge.specs.declared.Judged.{Judged}

-- what the filter that was parsed says, and no where there is none
abbrev pub parsed_says : List Parameter → ℕ → List Entry → Parsed → Bool
parsed_says ps c es (parsed q f) = filter_says ps c es f
parsed_says ps c es unparsed = false

abbrev pub judged_says : Option Judged → Bool
judged_says (Some j) = j.says
judged_says None = false

-- some of the entries es of a card with the entries all is among those that count, stands under the parameter, has a text that counts,
-- and has an occurrence of which the filter says yes
unfoldable pub some_chosen : List Parameter → ℕ → (all : List Entry) → Chosen → Parsed → ℕ → Meaning → List ℕ → List Entry → Bool
some_chosen ps c all k g i m v [] = false
some_chosen ps c all k g i m v (e ∷ es) =
    (((counts k e.occurrence && eqb e.index i) && text_counts m v e.text) && parsed_says ps c (of_occurrence e.occurrence all) g)
    || some_chosen ps c all k g i m v es

abbrev pub member_at : Option Found → List Parameter → ℕ → List Entry → Chosen → Parsed → Test → Bool
member_at (Some found) ps c es k g t = some_says (meaning_of t.operator found.kind) (is_true t.value) (some_chosen ps c es k g found.index (meaning_of t.operator found.kind) t.value es)
member_at None ps c es k g t = false

-- what the test says, where its path is looked up in c and g is what is in the brackets
unfoldable pub member_says : List Parameter → ℕ → List Entry → Chosen → Parsed → Test → Bool
member_says ps c es k g t = member_at (lookup ps c t.path) ps c es k g t
