-- A sheet is written and read back, and read and written back.
-- Assumes nothing.
use Rattle.std.specs.Prelude.{Ok}
use Prim.Native.Nat.{ℕ, ◌≤◌}
use native.Mathlib.Omega.{arith}
use mathlib.Core.Path.{◌≡◌, refl, ap, sym, ◌∙◌, subst}
use mathlib.Core.Bool.{Bool, true, false, false≢true}
use mathlib.Core.Logic.{◌⊎◌, inl, inr}
use mathlib.Core.List.{List, [], ◌∷◌, ◌++◌}
use lib.ListN.{length, get_or, length-append}
use Rattle.base.specs.Bytes.{Byte, Bytes}
use Rattle.base.specs.Lists.{All, all_empty, all_cons}
use Rattle.base.proofs.All.{all_map, all_every, all_both}
use Rattle.base.proofs.Names.{name-bytes}
use Rattle.block.proofs.Contents.{Held, Written}
use Rattle.block.proofs.Readings.{reading_iff}
use Rattle.block.proofs.RoundTrip.{held, unmarked, written}
use Rattle.block.proofs.Items.{own_either}
use Rattle.block.specs.Items.{has_marks, marks}
use Rattle.block.proofs.Seal.{seal-body}
use Rattle.base.specs.Kinds.{bundle_kind}
use Rattle.sheet.specs.Sheet.{Parameter, parameter, parameter_count, parameters_of, are_right, sheet_layout, read_sheet}
use Rattle.sheet.specs.Encode.{sheet_first, parameter_bytes, sheet_body, encode_sheet, ValueKind, WellFormedParameter, HasParent, at_top, in_bundle, WellFormedSheet, PlainParameter, SheetForm, ReadsAsSheet}
use Rattle.sheet.proofs.Rules.{FormOf, parameters_iff, distinct_iff, parents_iff}
use Rattle.sheet.proofs.Read.{sheet_parameters, sheet_names, sheet_parents, sheet_count, sheet_held}

-- ---- a parameter

parameter_spelt : (w : Bool) (k c : ℕ) (n : List ℕ) → parameter_bytes w (parameter k c n) ≡ k ∷ (marks w c ++ (length n ∷ n))
unfolding parameter_bytes
parameter_spelt w k c n = refl

parameter_parts : (p : Parameter) → (k c : ℕ) × (n : List ℕ) × (p ≡ parameter k c n)
parameter_parts p = (p.kind, p.bundle, p.name, refl)

first_marks : (w : Bool) → has_marks (sheet_first w) ≡ w
unfolding has_marks
first_marks true = refl
first_marks false = refl

first_byte : (w : Bool) → Byte (sheet_first w)
first_byte true = omega arith
first_byte false = omega arith

kind_byte : (k : ℕ) → ValueKind k ⊎ (k ≡ bundle_kind) → Byte k
kind_byte k (inl v) = omega (arith, v.highest)
kind_byte k (inr e) = omega arith

parent_byte : {ps : List Parameter} {p : Parameter} → length ps ≤ 32 → HasParent ps p → Byte p.bundle
parent_byte h (at_top e) = omega arith
parent_byte h (in_bundle {i = i} {q = q} l k e n) = omega (arith, ap length l.split, length-append l.before (q ∷ l.after), l.index)

parameter-bytes : (w : Bool) (p : Parameter) → WellFormedParameter p × Byte p.bundle → Bytes (parameter_bytes w p)
unfolding parameter_bytes
parameter-bytes true p (h, c) =
    let n : Byte (length p.name) = omega (arith, h.longest) in
    all_cons (kind_byte p.kind h.kind) (all_cons c (all_cons n (name-bytes p.name h.name)))
parameter-bytes false p (h, c) =
    let n : Byte (length p.name) = omega (arith, h.longest) in
    all_cons (kind_byte p.kind h.kind) (all_cons n (name-bytes p.name h.name))

plain_all : (w : Bool) (ps : List Parameter) → (w ≡ false → All PlainParameter ps) → All (λ (p : Parameter). w ≡ false → PlainParameter p) ps
plain_all true ps h = all_every (λ p k. absurd (false≢true (sym k))) ps
plain_all false ps h = all_map (λ p k _. k) (h refl)

-- ---- written and read back

module _ (w : Bool) (ps : List Parameter) (h : WellFormedSheet ps) (g : SheetForm w ps) where
  plain : All (λ (p : Parameter). w ≡ false → PlainParameter p) ps
  plain = plain_all w ps g.plain

  encoded_first : get_or (encode_sheet w ps) 0 0 ≡ sheet_first w
  unfolding encode_sheet sheet_body
  encoded_first = ap (λ (l : List ℕ). get_or l 0 0) (seal-body (sheet_body w ps))

  encoded_held : Held parameter (sheet_first w) 1 32 (encode_sheet w ps) ps
  unfolding encode_sheet sheet_body parameter_parts
  encoded_held =
      held parameter w (parameter_bytes w) (parameter_spelt w) parameter_parts (sheet_first w) [] ps 32 (omega arith) (first_byte w) (first_marks w)
      (all_map (λ p (k : w ≡ false → PlainParameter p) e. (k e).bundle) plain) all_empty
      (record { few = h.count; each = all_map (parameter-bytes w) (all_both h.parameters (all_map (λ p. parent_byte {ps = ps} {p = p} h.count) h.parents)); room = g.room; same = refl })

  encoded_parameters : parameters_of (encode_sheet w ps) ≡ ps
  unfolding parameters_of parameter_count
  encoded_parameters = encoded_held.same

  encoded_layout : sheet_layout (encode_sheet w ps) ≡ true
  unfolding sheet_layout are_right
  encoded_layout =
      rw (
        own_either (encode_sheet w ps) 0x50 0x51 1 32 w encoded_held.layout,
        encoded_parameters,
        ap has_marks encoded_first ∙ first_marks w,
        (parameters_iff w ps).1 (h.parameters, all_map (λ p (k : w ≡ false → PlainParameter p) e. (k e).kind) plain),
        (distinct_iff ps).1 h.names,
      ) ((parents_iff ps ps).1 h.parents)

  -- a well-formed sheet that is written is read back
  pub encoded_sheet_reads : ReadsAsSheet (encode_sheet w ps) w ps
  unfolding read_sheet
  encoded_sheet_reads =
      record {
        first = encoded_first;
        bytes = encoded_held.bytes;
        reading = (reading_iff (encode_sheet w ps) (sheet_layout (encode_sheet w ps))).1 (encoded_held.sealed, encoded_layout);
        parameters = encoded_parameters;
      }

-- ---- read and written back

pub sheet_well_formed : (b : List ℕ) → read_sheet b ≡ (Ok tt) → WellFormedSheet (parameters_of b)
sheet_well_formed b r =
    record {
      count = sheet_count b r;
      parameters = ((parameters_iff (has_marks (get_or b 0 0)) (parameters_of b)).0 (sheet_parameters b r)).0;
      names = (distinct_iff (parameters_of b)).0 (sheet_names b r);
      parents = (parents_iff (parameters_of b) (parameters_of b)).0 (sheet_parents b r);
    }

module _ (b : List ℕ) (h : Bytes b) (r : read_sheet b ≡ (Ok tt)) (w : Bool) (f : get_or b 0 0 ≡ sheet_first w) where
  read_held : Held parameter (sheet_first w) 1 32 b (parameters_of b)
  read_held = subst (λ (x : ℕ). Held parameter x 1 32 b (parameters_of b)) f (sheet_held b r h)

  read-written : Written (parameter_bytes w) 32 (sheet_body w (parameters_of b)) b (parameters_of b)
  unfolding sheet_body
  read-written = written parameter w (parameter_bytes w) (parameter_spelt w) b (sheet_first w) 1 32 (parameters_of b) (omega arith) (omega arith) (first_marks w) read_held

  read-top : w ≡ false → All (λ (p : Parameter). p.bundle ≡ 0) (parameters_of b)
  read-top e = unmarked parameter w (parameter_bytes w) (parameter_spelt w) b (sheet_first w) 1 32 (parameters_of b) (omega arith) (omega arith) (first_marks w) read_held e (λ p. p.bundle ≡ 0) (λ t s. refl)

  read-kinds : All (FormOf w) (parameters_of b)
  read-kinds = subst (λ (m : Bool). All (FormOf m) (parameters_of b)) (ap has_marks f ∙ first_marks w) ((parameters_iff (has_marks (get_or b 0 0)) (parameters_of b)).0 (sheet_parameters b r)).1

  pub sheet_formed : SheetForm w (parameters_of b)
  sheet_formed =
      record {
        plain = λ e. all_map (λ p (k : FormOf w p × (p.bundle ≡ 0)). record { kind = k.0 e; bundle = k.1 }) (all_both read-kinds (read-top e));
        room = read-written.room;
      }

  pub sheet_encoded : b ≡ encode_sheet w (parameters_of b)
  unfolding encode_sheet
  sheet_encoded = read-written.same
