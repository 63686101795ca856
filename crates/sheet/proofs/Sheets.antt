-- What a sheet is: the two ways to say it are one.
-- Assumes nothing.
use Rattle.std.specs.Prelude.{Ok}
use Prim.Native.Nat.{ℕ}
use mathlib.Core.Path.{◌≡◌, sym, subst}
use mathlib.Core.Bool.{Bool}
use mathlib.Core.Logic.{◌↔◌}
use mathlib.Core.List.{List}
use Rattle.base.specs.Bytes.{Bytes}
use Rattle.sheet.specs.Sheet.{Parameter, parameters_of, read_sheet}
use Rattle.sheet.specs.Encode.{encode_sheet, WellFormedSheet, SheetForm, SheetBlock, ReadsAsSheet}
use Rattle.sheet.proofs.RoundTrip.{encoded_sheet_reads, sheet_well_formed, sheet_formed, sheet_encoded}
use Rattle.sheet.proofs.Read.{sheet_form}

-- bytes read as a sheet exactly where the sheet is well formed and the bytes are its encoding
pub sheet_reads_iff : (b : List ℕ) (w : Bool) (ps : List Parameter) → ReadsAsSheet b w ps ↔ (WellFormedSheet ps × SheetForm w ps × (b ≡ encode_sheet w ps))
sheet_reads_iff b w ps = (there, back)
  where
    there : ReadsAsSheet b w ps → WellFormedSheet ps × SheetForm w ps × (b ≡ encode_sheet w ps)
    there r =
        let v = sheet_well_formed b r.reading in
        let g = sheet_formed b r.bytes r.reading w r.first in
        let e = sheet_encoded b r.bytes r.reading w r.first in
        (rw r.parameters at v, rw r.parameters at g, rw r.parameters at e)

    back : WellFormedSheet ps × SheetForm w ps × (b ≡ encode_sheet w ps) → ReadsAsSheet b w ps
    back h = subst (λ (l : List ℕ). ReadsAsSheet l w ps) (sym h.2) (encoded_sheet_reads w ps h.0 h.1)

-- bytes read as well formed exactly where they are some sheet's
pub sheet_iff : (b : List ℕ) → (Bytes b × (read_sheet b ≡ (Ok tt))) ↔ SheetBlock b
sheet_iff b = (there, back)
  where
    there : Bytes b × (read_sheet b ≡ (Ok tt)) → SheetBlock b
    there h =
        let f = sheet_form b h.1 in
        record {
          marked = f.0;
          parameters = parameters_of b;
          well_formed = sheet_well_formed b h.1;
          form = sheet_formed b h.0 h.1 f.0 f.1;
          encoded = sheet_encoded b h.0 h.1 f.0 f.1;
        }

    back : SheetBlock b → Bytes b × (read_sheet b ≡ (Ok tt))
    back s =
        let r = (sheet_reads_iff b s.marked s.parameters).1 (s.well_formed, s.form, s.encoded) in
        (r.bytes, r.reading)
