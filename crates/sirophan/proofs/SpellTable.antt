-- The table of refusals for spell: the text is decided first, and then the buffer.
-- Assumes nothing.
use Prim.Native.Nat.{ℕ, ◌+◌, ◌≤◌, ◌<◌}
use native.Mathlib.Omega.{arith}
use mathlib.Core.Path.{◌≡◌, refl, subst, ap}
use mathlib.Core.Logic.{◌↔◌}
use mathlib.Core.List.{List}
use lib.Dec.{leb}
use lib.ListN.{length}
use borrow.Author.Tests.{leb-true, leb-false}
use Rattle.base.specs.Lists.{member}
use Rattle.base.proofs.Tests.{cond-elim}
use Rattle.syntax.specs.Tree.{Tree}
use Rattle.syntax.specs.Grammar.{Spells}
use Rattle.syntax.proofs.Spelling.{spells_unique}
use Rattle.plain.specs.Plain.{plain}
use Rattle.refusal.specs.Answers.{count, refused}
use Rattle.refusal.specs.Order.{group, Before, Decides}
use Rattle.refusal.proofs.Answers.{count_not_refused}
use Rattle.refusal.proofs.Deciding.{Decided, none_holds, one_decides, decided_then, decided_found, decided_answer}
use Rattle.refusal.proofs.Order.{apart_at, before_itself}
use Rattle.answer.specs.Refusals.{TextLine, line_10, line_11, BufferLine, line_32, SpellLine}
use Rattle.sirophan.specs.Spelling.{accept_buffer, spelling, spell_answer}
use Rattle.answer.proofs.CheckTable.{number-group, text_decided}

module _ (text : List ℕ) (from room : ℕ) where
  -- what is written: the plain spelling of the text's tree
  abbrev Plain : List ℕ → Type 0
  Plain w = (f : Tree) × Spells text f × (w ≡ plain f)

  module _ (f : Tree) (spells : Spells text f) where
    same_length : (g : Tree) → Spells text g → length (plain g) ≡ length (plain f)
    same_length g s = ap (λ (x : Tree). length (plain x)) (spells_unique text g f s spells)

    buffer_first : (m q : ℕ) → BufferLine text from room m q → Before m q 32 (length (plain f)) → ⊥
    buffer_first m q (line_32 {f = g} s l) k = before_itself (subst (λ (x : ℕ). Before 32 x 32 (length (plain f))) (same_length g s) k)

    buffer_none : from + length (plain f) ≤ room → (m q : ℕ) → BufferLine text from room m q → ⊥
    buffer_none h m q (line_32 {f = g} s l) = omega (arith, same_length g s)

    buffer_decided : Decided Plain (BufferLine text from room) (accept_buffer from room (plain f))
    unfolding accept_buffer
    buffer_decided =
        cond-elim (Decided Plain (BufferLine text from room)) (leb (from + length (plain f)) room)
        (λ h. none_holds (f, spells, refl) (buffer_none (leb-true (from + length (plain f)) room h)))
        (λ h. one_decides (record { holds = line_32 spells (leb-false (from + length (plain f)) room h); first = buffer_first }))

  text_group : (n p : ℕ) → TextLine text n p → group n ≤ group 11
  unfolding group member
  text_group n p (line_10 u) = omega arith
  text_group n p (line_11 u l w) = let g = number-group w in omega arith

  buffer_group : (n p : ℕ) → BufferLine text from room n p → group 11 < group n
  unfolding group member
  buffer_group n p (line_32 s l) = omega arith

  pub spelling_decided : Decided Plain (SpellLine text from room) (spelling text from room)
  unfolding spelling
  spelling_decided =
      decided_then (TextLine text) (BufferLine text from room)
      (apart_at (TextLine text) (BufferLine text from room) (group 11) text_group buffer_group)
      (text_decided text) (λ f _ spells. buffer_decided f spells)

  -- spell is refused with a number and a place exactly where that line of the table decides
  pub spell_table : (n p : ℕ) → (spell_answer text from room ≡ refused n p) ↔ Decides (SpellLine text from room) n p
  unfolding spell_answer
  spell_table = decided_answer (SpellLine text from room) (decided_found (λ w. count (length w)) (λ w _. count_not_refused (length w)) spelling_decided)
