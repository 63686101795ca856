-- Conforming cards: how they read, and two that there are, the card with no entries and the card with one.
-- Assumes nothing.
use Rattle.std.specs.Prelude.{Ok}
use Prim.Native.Nat.{ℕ, ◌+◌, ◌-◌, ◌≤◌, ◌<◌}
use native.Mathlib.Omega.{arith}
use mathlib.Core.Path.{◌≡◌, refl, ap, sym, ◌∙◌, subst}
use mathlib.Core.Bool.{true, false}
use mathlib.Core.Logic.{⊎_elim}
use mathlib.Core.List.{List, [], ◌∷◌, cons≢nil}
use lib.Dec.{leb, ltb}
use lib.ListN.{length, length-append}
use borrow.Author.Tests.{eq-eqb, leb-true, ltb-true}
use Rattle.base.specs.Bytes.{Bytes}
use Rattle.base.specs.Digits.{is_digit}
use Rattle.base.specs.Lists.{Listed, All, all_empty, all_cons, every}
use Rattle.base.specs.Runs.{run}
use Rattle.base.specs.Below.{passes}
use Rattle.base.proofs.All.{all_head, all_right, all_map}
use Rattle.base.proofs.Lists.{every_all}
use Rattle.base.proofs.Below.{passes_at}
use Rattle.base.specs.Split.{split}
use Rattle.number.specs.Reading as numbers
use Rattle.base.specs.Between.{between}
use Rattle.date.specs.Texts as dates
use Rattle.period.specs.Texts as periods
use Rattle.token.specs.Card as tokens
use Rattle.base.specs.Kinds.{bundle_kind, period}
use Rattle.sheet.specs.Sheet.{Parameter}
use Rattle.sheet.specs.Encode.{ValueKind, WellFormedParameter, WellFormedSheet}
use Rattle.card.specs.Card.{Entry, entry, entries_of, read_card}
use Rattle.card.specs.Encode.{encode_card, ReadsAsCard}
use Rattle.card.proofs.Read.{card_length}
use Rattle.card.proofs.Cards.{card_reads_iff, card_of_lem, empty_card_lem, one_entry-card}
use Rattle.kind.specs.Table.{Kind, kinds, of_kind}
use Rattle.kind.specs.Readable.{card_readable, witness_text}
use Rattle.judge.specs.Sets.{values_at, conforms}
use Rattle.refusal.specs.Steps.{found}
use Rattle.answer.specs.Operations.{Card, accept_card}
use Rattle.kind.specs.Rules.{ReadableOnCard}
use Rattle.judge.specs.Rules.{Conforms}
use Rattle.kind.proofs.Rules.{each_row, by_column, card_iff}
use Rattle.judge.proofs.Rules.{entries_iff}

-- ---- reading

module _ {ps : List Parameter} {b : List ℕ} {es : List Entry} (c : Conforms ps b es) where
  pub conforms_reads : ReadsAsCard b c.marked c.number es
  conforms_reads = (card_reads_iff b c.marked c.number es).1 (c.well_formed, c.encoded)

  pub conforms-size : length b ≡ 512
  conforms-size = card_length b conforms_reads.reading

  pub conforms-bytes : Bytes b
  conforms-bytes = conforms_reads.bytes

  abbrev card : Card
  card = record { number = c.number; entries = es }

  -- it is accepted with its record number and its entries
  pub conforms_accepted : (i : ℕ) → accept_card ps i b ≡ found card
  unfolding accept_card
  conforms_accepted i = rw (conforms_reads.reading, conforms_reads.number, conforms_reads.entries, (entries_iff ps es).1 c.entries)

-- a card that reads as well formed, and whose entries conform, conforms
pub reads_conforms : (ps : List Parameter) (b : List ℕ) → Bytes b → read_card b ≡ (Ok tt) → conforms ps (entries_of b) ≡ true → Conforms ps b (entries_of b)
reads_conforms ps b bytes r h =
    let w = card_of_lem b bytes r in
    let e = ((card_reads_iff b w.marked w.number w.entries).1 (w.well_formed, w.encoded)).entries in
    rw e (record { marked = w.marked; number = w.number; well_formed = w.well_formed; encoded = w.encoded; entries = (entries_iff ps w.entries).0 (rw e at h) })

-- ---- a text for each kind

witness_reads : passes (λ k. card_readable (k + 1) (witness_text (k + 1))) period ≡ true
unfolding card_readable kinds of_kind witness_text numbers.readable numbers.read run is_digit dates.readable dates.read dates.read_year dates.four_at dates.two_at dates.pair dates.digit_of between tokens.card_readable tokens.card_token tokens.split_token tokens.token_of split periods.readable periods.read periods.read_parts periods.open_end
witness_reads = refl

witness_readable : (kind : ℕ) → ValueKind kind → ReadableOnCard kind (witness_text kind)
witness_readable kind v =
    let e : kind - 1 + 1 ≡ kind = omega arith in
    let reads = passes_at (λ k. card_readable (k + 1) (witness_text (k + 1))) period witness_reads (kind - 1) (omega arith) in
    (card_iff kind (witness_text kind)).0 (subst (λ (k : ℕ). card_readable k (witness_text k) ≡ true) e reads)

witness_short : (kind : ℕ) → length (witness_text kind) ≤ 20
unfolding witness_text each_row kinds
witness_short kind = leb-true (length (witness_text kind)) 20 (by_column [] (λ (x : Kind). x.witness) (λ t. leb (length t) 20) refl refl kind)

witness_bytes : (kind : ℕ) → Bytes (witness_text kind)
unfolding witness_text each_row kinds every
witness_bytes kind = all_map (λ (x : ℕ). ltb-true x 256) (every_all (λ (x : ℕ). ltb x 256) (witness_text kind) (by_column [] (λ (x : Kind). x.witness) (every (λ (x : ℕ). ltb x 256)) refl refl kind))

-- ---- two cards

module _ (ps : List Parameter) where
  pub empty_conforms : Conforms ps (encode_card false 0 []) []
  empty_conforms = record { marked = false; number = 0; well_formed = empty_card_lem 0 (omega arith); encoded = refl; entries = all_empty }

  module _ (w : WellFormedSheet ps) (i : ℕ) (p : Parameter) (l : Listed ps i p) where
    abbrev pub one_entry : List Entry
    one_entry = entry i 0 (witness_text p.kind) ∷ []

    listed_well_formed : WellFormedParameter p
    listed_well_formed =
        all_head WellFormedParameter (all_right WellFormedParameter l.before (subst (All WellFormedParameter) l.split w.parameters))

    pub one_entry-conforms : (p.kind ≡ bundle_kind → ⊥) → Conforms ps (encode_card false 0 one_entry) one_entry
    one_entry-conforms n =
        let index : i < 32 = omega (arith, w.count, ap length l.split, length-append l.before (p ∷ l.after), l.index) in
        let readable = ⊎_elim (λ (v : ValueKind p.kind). witness_readable p.kind v) (λ (e : p.kind ≡ bundle_kind). absurd (n e)) listed_well_formed.kind in
        record {
          marked = false;
          number = 0;
          well_formed = one_entry-card 0 (omega arith) i (witness_text p.kind) index (witness_short p.kind) (witness_bytes p.kind);
          encoded = refl;
          entries = all_cons (record { parameter = p; listed = l; readable = readable }) all_empty;
        }

    -- the parameter has a value on it
    pub one_entry-value : values_at i one_entry ≡ [] → ⊥
    unfolding values_at
    one_entry-value e =
        let value : values_at i one_entry ≡ witness_text p.kind ∷ [] = rw (eq-eqb i i refl) in
        cons≢nil (sym value ∙ e)
