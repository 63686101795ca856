-- Spell answers as its definition does: the numbers are those of the table, and the bytes are put where the definition puts them.
-- Assumes nothing.
use Rattle.std.specs.Prelude.{Err, Ok, Result}
use Prim.Native.Nat.{ℕ, ◌+◌, ◌≤◌}
use native.Mathlib.Omega.{arith}
use mathlib.Core.Path.{◌≡◌, refl, ap, ◌∙◌}
use mathlib.Core.Bool.{Bool, true, false, cond, ◌||◌}
use mathlib.Core.Option.{Option, none, some}
use mathlib.Core.List.{List, ◌++◌}
use lib.Dec.{eqb, leb, ltb}
use lib.ListN.{length, take, drop}
use borrow.Author.Tests.{ne_eqb, le-ltb, le-leb}
use Rattle.base.proofs.Lists.{length_zero}
use Rattle.syntax.specs.Tree.{Tree}
use Rattle.syntax.specs.Grammar.{Spells}
use Rattle.syntax.specs.Reader.{read}
use Rattle.syntax.proofs.Spelling.{read_iff, spells_not_empty}
use Rattle.plain.specs.Plain.{plain}
use Rattle.spell.specs.Spelling as spell
use Rattle.refusal.specs.declared.Reason.{Reason}
use Rattle.refusal.specs.Answers.{count, refused, refusal_answer, counted_answer}
use Rattle.refusal.specs.Steps.{Step, found, stop, ◌>>=◌, answer}
use Rattle.answer.specs.Operations.{tree_step, accept_filter}
use Rattle.answer.specs.Refusals.{SpellLine}
use Rattle.sirophan.specs.Operations.{SpellsInto}
use Rattle.sirophan.specs.Spelling.{accept_buffer, spelling, spell_answer, put_into, spell_bytes, SpellAnswers}
use Rattle.sirophan.proofs.Contracts.{refused_by}
use Rattle.sirophan.proofs.SpellTable.{spell_table}
use Rattle.refusal.specs.declared.Refusal.{Refusal}

-- ---- the definition by steps, and the one that the code meets

module _ (text : List ℕ) (from : ℕ) (buffer : List ℕ) where
  room_answer : (w : List ℕ) → counted_answer (spell.placed w from (length buffer)) ≡ answer (accept_buffer from (length buffer) w >>= λ s. found (count (length s)))
  unfolding spell.placed accept_buffer counted_answer refusal_answer
  room_answer w = go (leb (from + length w) (length buffer))
    where
      go : (t : Bool) → counted_answer (cond t (Ok (length w)) (Err (record { reason = Reason.ShortBuffer; place = length w }))) ≡ answer (cond t (found w) (stop 32 (length w)) >>= λ s. found (count (length s)))
      go true = refl
      go false = refl

  room_bytes : (w : List ℕ) → spell.put w from buffer ≡ put_into from buffer (accept_buffer from (length buffer) w)
  unfolding spell.put accept_buffer
  room_bytes w = go (leb (from + length w) (length buffer))
    where
      go : (t : Bool) → cond t (take from buffer ++ (w ++ drop (from + length w) buffer)) buffer ≡ put_into from buffer (cond t (found w) (stop 32 (length w)))
      go true = refl
      go false = refl

  tree_bytes_lem : (o : Option Tree) → spell.tree_bytes from buffer o ≡ put_into from buffer (tree_step text o >>= λ f. accept_buffer from (length buffer) (plain f))
  tree_bytes_lem (some f) = room_bytes (plain f)
  tree_bytes_lem none = refl

  answer_is : counted_answer (spell.outcome text from (length buffer)) ≡ spell_answer text from (length buffer)
  unfolding spell.outcome spell_answer spelling accept_filter counted_answer refusal_answer
  answer_is = go (eqb (length text) 0 || ltb 1024 (length text)) (read text)
    where
      go : (t : Bool) (o : Option Tree) → counted_answer (cond t spell.wrong_size (spell.tree_outcome text from (length buffer) o))
          ≡ answer (cond t (stop 10 0) (tree_step text o) >>= (λ f. accept_buffer from (length buffer) (plain f)) >>= λ w. found (count (length w)))
      go true o = refl
      go false (some f) = room_answer (plain f)
      go false none = refl

  bytes_are : spell.bytes text from buffer ≡ spell_bytes text from buffer
  unfolding spell.bytes spell_bytes spelling accept_filter
  bytes_are = go (eqb (length text) 0 || ltb 1024 (length text)) (read text)
    where
      go : (t : Bool) (o : Option Tree) → cond t buffer (spell.tree_bytes from buffer o) ≡ put_into from buffer (cond t (stop 10 0) (tree_step text o) >>= λ f. accept_buffer from (length buffer) (plain f))
      go true o = refl
      go false o = tree_bytes_lem o

  pub spells_into : (r : Result ℕ Refusal) (exit : List ℕ) → spell.SpellsInto text buffer from r exit → SpellsInto text from buffer r exit
  spells_into r exit s =
      let answered : counted_answer r ≡ spell_answer text from (length buffer) = ap counted_answer s.answers ∙ answer_is in
      record {
        answers = answered;
        bytes = s.bytes_are ∙ bytes_are;
        refuses = refused_by (SpellLine text from (length buffer)) (counted_answer r) (spell_answer text from (length buffer)) answered (spell_table text from (length buffer));
      }

  -- ---- it answers, and a refusal keeps the buffer

  pub spell_answered : (f : Tree) → length text ≤ 1024 → Spells text f → from + length (plain f) ≤ length buffer → SpellAnswers (plain f) text from buffer
  unfolding spell_answer spell_bytes spelling accept_filter accept_buffer
  spell_answered f short s h =
      let some_bytes : length text ≡ 0 → ⊥ = (λ z. spells_not_empty f (rw (length_zero text z) at s)) in
      let fits : leb (from + length (plain f)) (length buffer) ≡ true = le-leb (from + length (plain f)) (length buffer) h in
      record {
        counts = rw (ne_eqb (length text) 0 some_bytes, le-ltb 1024 (length text) short, (read_iff text f).1 s, fits);
        writes = rw (ne_eqb (length text) 0 some_bytes, le-ltb 1024 (length text) short, (read_iff text f).1 s, fits);
      }

  pub refusal_keeps_buffer : (n p : ℕ) → spell_answer text from (length buffer) ≡ refused n p → spell_bytes text from buffer ≡ buffer
  unfolding spell_answer spell_bytes
  refusal_keeps_buffer n p = go (spelling text from (length buffer))
    where
      go : (s : Step (List ℕ)) → answer (s >>= λ w. found (count (length w))) ≡ refused n p → put_into from buffer s ≡ buffer
      go (found w) e = absurd (let z : ◌≡◌ {A = ℕ} 0 1 = cc in omega arith)
      go (stop k q) e = refl
