-- What reading a block says of its bytes: their size, their check sum, and whether they are a block that can be written.
-- Assumes nothing.
use Rattle.std.specs.Prelude.{Ok, Result, ⊤}
use Prim.Native.Nat.{ℕ}
use mathlib.Core.Path.{◌≡◌}
use mathlib.Core.Bool.{Bool}
use mathlib.Core.List.{List}
use lib.Dec.{eqb}
use lib.ListN.{length}
use borrow.Author.Tests.{eqb-true, eqb-false}
use Rattle.base.specs.Bytes.{Bytes}
use Rattle.base.proofs.Tests.{both_ways, cond-elim}
use Rattle.block.specs.Words.{word}
use Rattle.block.specs.Sum.{check_sum}
use Rattle.block.specs.Seal.{check, IsSealed}
use Rattle.block.specs.Items.{has_either}
use Rattle.block.specs.Readings.{reading}
use Rattle.block.proofs.Readings.{reading_iff}
use Rattle.sheet.specs.Sheet.{sheet_layout, read_sheet}
use Rattle.sheet.specs.Encode.{SheetBlock}
use Rattle.sheet.proofs.Sheets as sheets
use Rattle.card.specs.Card.{read_card}
use Rattle.card.specs.Encode.{CardBlock}
use Rattle.card.proofs.Cards as cards
use Rattle.answer.proofs.Outcomes.{ReadsTo, size_wrong, sum_wrong, layout_wrong, all_right}
use Rattle.block.specs.declared.Flaw.{Flaw}

reads_to : (b : List ℕ) (IsBlock : Type 0) (layout : Bool) → (reading (check b) layout ≡ (Ok tt) → IsBlock) → (IsBlock → reading (check b) layout ≡ (Ok tt))
    → ReadsTo b IsBlock (reading (check b) layout)
reads_to b IsBlock layout there back =
    let by_layout : IsSealed b → ReadsTo b IsBlock (reading (Ok (tt {0})) layout) =
    λ s. unfold reading in cond-elim (ReadsTo b IsBlock) layout
    (λ l. all_right s.size s.sum (there ((reading_iff b layout).1 (s, l))))
    (λ n. layout_wrong s.size s.sum (λ h. both_ways ((reading_iff b layout).0 (back h)).1 n))
    in
    unfold check reading in cond-elim (λ (c : Result ⊤ Flaw). ReadsTo b IsBlock (reading c layout)) (eqb (length b) 512)
    (λ e. cond-elim (λ (c : Result ⊤ Flaw). ReadsTo b IsBlock (reading c layout)) (eqb (check_sum b) (word b 508))
    (λ g. by_layout (record { size = eqb-true (length b) 512 e; sum = eqb-true (check_sum b) (word b 508) g }))
    (λ g. sum_wrong (eqb-true (length b) 512 e) (eqb-false (check_sum b) (word b 508) g)))
    (λ e. size_wrong (eqb-false (length b) 512 e))

module _ (b : List ℕ) (bytes : Bytes b) where
  pub sheet_reads_to : ReadsTo b (SheetBlock b) (read_sheet b)
  unfolding read_sheet
  sheet_reads_to = reads_to b (SheetBlock b) (sheet_layout b) (λ r. (sheets.sheet_iff b).0 (bytes, r)) (λ s. ((sheets.sheet_iff b).1 s).1)

  pub card_reads_to : ReadsTo b (CardBlock b) (read_card b)
  unfolding read_card
  card_reads_to = reads_to b (CardBlock b) (has_either 0x43 0x44 5 64 b) (λ r. (cards.card_iff b).0 (bytes, r)) (λ c. ((cards.card_iff b).1 c).1)
