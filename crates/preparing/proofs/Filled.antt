-- Prepare, as the code comes to its answer and its cells.
-- It is put together from the inside out, and no law takes an induction. `FillsText` says what the buffer has after the text, with a law for
-- each way in which the code leaves it (size, no filter, not the whole text or too many tests, answered); `Fills` says it after sheet and
-- text, whatever the room of the list. Where the code refuses sheet or text, that is the
-- refusal (`text_refused`, `fill_sheet`). The room is tested last of all (`preparation_is`), which leaves the laws of the list: refused
-- before, too short, or filled (`prepare_refused`, `prepare_short`, `prepare_done`).
-- Assumes nothing.
use Rattle.std.specs.Prelude.{Err, Ok, Result, ⊤, Option, Some, None}
use Prim.Native.Nat.{ℕ, ◌+◌, ◌-◌, ◌≤◌, ◌<◌}
use native.Mathlib.Omega.{arith}
use mathlib.Core.Path.{◌≡◌, refl, sym, ap, subst, ◌∙◌}
use mathlib.Core.Option.{none, some}
use mathlib.Core.Bool.{cond, ◌&&◌}
use lib.Dec.{eqb, leb}
use Rattle.std.specs.Result.{result_and}
use mathlib.Core.List.{List, ◌++◌}
use lib.ListN.{length, take, drop}
use lib.Seq.{length-take-le}
use borrow.Author.Tests.{le-leb, lt-leb}
use Rattle.base.specs.Parts.{part}
use Rattle.sheet.specs.Sheet.{Parameter, parameters_of, read_sheet}
use Rattle.syntax.specs.Tree.{Tree, tests_of}
use Rattle.syntax.specs.Scan.{skip_at}
use Rattle.syntax.specs.Grammar.{deepest, most_tests}
use Rattle.syntax.specs.Reader.{parsed, filter_at, whole, read}
use Rattle.place.specs.Machine.{failure}
use Rattle.judge.specs.Faults.{first_fault}
use Rattle.filter.specs.declared.Summary.{Summary}
use Rattle.filter.specs.declared.Spot.{Spot}
use Rattle.filter.specs.Walks.{top_spot}
use Rattle.filter.proofs.Walk.{top-bundle, top_read, top_within}
use Rattle.row_writer.specs.Writing.{cell_count, Wrote}
use Rattle.row_writer.specs.Steps.{Room}
use Rattle.row_writer.specs.declared.Outcome.{Outcome}
use Rattle.row_writer.specs.declared.Written.{Written}
use Rattle.row_writer.proofs.Writing as writing
use Rattle.refusal.specs.declared.Reason.{Reason}
use Rattle.refusal.specs.declared.Refusal.{Refusal}
use Rattle.refusal.specs.Answers.{Answer, count, refused, number_of, refusal_answer, counted_answer}
use Rattle.refusal.specs.Steps.{Step, found, stop, refusal_step, ◌>>=◌, answer}
use Rattle.answer.specs.Operations.{accept_filter, decision_step, tests_step, accept_sheet, Inputs, accept_inputs, written}
use Rattle.answer.specs.Passing.{summary_answer}
use Rattle.answer.specs.Preparing.{accept_size, row_cells, accept_cells, preparation, prepare_answer, prepare_cells, filled_step, text_rows, FillsText, Fills, Prepares}
use Rattle.answer.proofs.Inputs.{text_read, size_refused, size_short}
use Rattle.checking.proofs.Checking.{whole_few, whole_none}

-- ---- refusals

refused_step : (r : Result ℕ Refusal) (buffer : List ℕ) (n p : ℕ) → counted_answer r ≡ refused n p → filled_step r buffer ≡ stop n p
unfolding counted_answer refusal_answer
refused_step (Ok k) buffer n p e = let z : ◌≡◌ {A = ℕ} 0 1 = cc in absurd (omega arith)
refused_step (Err r) buffer n p e =
    let number : number_of r.reason ≡ n = cc in
    let where-at : r.place ≡ p = cc in
    rw (number, where-at)

refused_room : (r : Result ℕ Refusal) (n p : ℕ) → counted_answer r ≡ refused n p → (k : ℕ) → r ≡ Ok k → ⊥
unfolding counted_answer
refused_room r n p e k h =
    let c : count k ≡ refused n p = sym (ap counted_answer h) ∙ e in
    let z : ◌≡◌ {A = ℕ} 0 1 = cc in omega arith

refused_counted : (x : Refusal) → counted_answer (Err x) ≡ refused (number_of x.reason) x.place
unfolding counted_answer refusal_answer
refused_counted x = refl

module _ (ps : List Parameter) (xs : List ℕ) (r : Result ℕ Refusal) (buffer : List ℕ) where
  text_refused : (n p : ℕ) → counted_answer r ≡ refused n p → text_rows ps xs ≡ stop n p → FillsText ps xs r buffer
  text_refused n p e s = record { rows = refused_step r buffer n p e ∙ sym s; room = λ k i. absurd (refused_room r n p e k i) }

  pub fill_size : (x : Refusal) → r ≡ Err x → accept_size xs ≡ refusal_step x → FillsText ps xs r buffer
  unfolding text_rows
  fill_size x h e = text_refused (number_of x.reason) x.place (ap counted_answer h ∙ refused_counted x) (rw (size_refused xs x e))

-- check's answer to a text that is a filter tells whether one of its tests is refused
none_refused : (s : Summary) (c : Result ℕ Refusal) (n : ℕ) → counted_answer c ≡ summary_answer s → c ≡ Ok n → decision_step s.first ≡ found tt
unfolding counted_answer summary_answer
none_refused s c n e i = by_first_lem s.first (sym (ap counted_answer i) ∙ e)
  where
    by_first_lem : (d : Result ⊤ Refusal) → count n ≡ answer (decision_step d >>= λ u. found (count s.tests)) → decision_step d ≡ found tt
    by_first_lem (Ok tt) h = refl
    by_first_lem (Err r) h = let z : ◌≡◌ {A = ℕ} 0 1 = cc in absurd (omega arith)

-- an answer that is a refusal comes of a step that stopped there
stopped_at : {A : Type 0} (q : Step A) (a : A → Answer) (n p : ℕ) → ((x : A) → a x ≡ refused n p → ⊥) → answer (q >>= λ x. found (a x)) ≡ refused n p → q ≡ stop n p
stopped_at (found x) a n p k e = absurd (k x e)
stopped_at (stop m o) a n p k e =
    let number : m ≡ n = cc in
    let where-at : o ≡ p = cc in
    rw (number, where-at)

one_refused : (s : Summary) (c : Result ℕ Refusal) (r : Refusal) → counted_answer c ≡ summary_answer s → c ≡ Err r → decision_step s.first ≡ refusal_step r
unfolding counted_answer summary_answer refusal_answer
one_refused s c r e i =
    stopped_at (decision_step s.first) (λ u. count s.tests) (number_of r.reason) r.place (λ x y. let z : ◌≡◌ {A = ℕ} 0 1 = cc in omega arith) (sym e ∙ ap counted_answer i)

-- ---- the text

module _ (ps : List Parameter) (ys xs : List ℕ) (i : (xs ≡ ys) × (accept_size ys ≡ found tt)) where
  sized : accept_size xs ≡ found tt
  sized = rw i.0 i.1

  short_is : length xs ≤ 1024
  short_is = size_short xs sized

  pub text_room : (rows : List ℕ) (spot : Spot) → spot ≡ top_spot xs → length rows ≡ 1024 → Room xs rows 0 spot.at
  text_room rows spot s size = record { short = short_is; size = size; low = omega arith; within = top_within xs spot s }

  given : {r : Result ℕ Refusal} {buffer : List ℕ} → FillsText ps xs r buffer → FillsText ps ys r buffer
  given {r} {buffer} f = subst (λ (y : List ℕ). FillsText ps y r buffer) i.0 f

  no_tree : (x : Refusal) (buffer : List ℕ) → read xs ≡ none → x ≡ failure deepest most_tests xs → FillsText ps ys (Err x) buffer
  unfolding text_rows
  no_tree x buffer e h =
      given (text_refused ps xs (Err x) buffer (number_of x.reason) x.place (refused_counted x) (rw (text_read xs sized none e, h)))

  module _ (spot : Spot) (s : spot ≡ top_spot xs) (v : Option Written) (before after : List ℕ) (w : Wrote ps spot.bundle xs 0 (filter_at spot.levels xs spot.close spot.at) v before after) where
    at_top : Wrote ps 0 xs 0 (filter_at spot.levels xs spot.close spot.at) v before after
    at_top = subst (λ (c : ℕ). Wrote ps c xs 0 (filter_at spot.levels xs spot.close spot.at) v before after) (top-bundle xs spot s) w

    pub fill_nothing : (x : Refusal) → v ≡ None → x ≡ failure deepest most_tests ys → FillsText ps ys (Err x) after
    fill_nothing x h f = no_tree x after (top_read xs spot s ∙ ap (whole xs) (writing.was_none ps 0 xs 0 at_top h)) (f ∙ ap (failure deepest most_tests) (sym i.0))

    module _ (got : Written) (h : v ≡ Some got) where
      takes : writing.Takes ps 0 xs 0 spot.close spot.levels spot.at v before after got
      takes = writing.filter_takes ps 0 xs 0 spot.close spot.levels spot.at v before after got at_top h

      pub fill_within : got.end ≤ length xs
      fill_within = takes.within

      module _ (z : Result ⊤ Refusal) (g : z ≡ cond (eqb (skip_at xs got.end) (length xs) && leb got.outcome.summary.tests most_tests) (Ok tt) (Err (failure deepest most_tests xs))) where
        was : writing.Was ps 0 xs 0 (filter_at spot.levels xs spot.close spot.at) got.end got.outcome before after
        was = writing.was ps 0 xs 0 got.end got.outcome at_top h

        text_read_whole : read xs ≡ whole xs (parsed got.end was.tree)
        text_read_whole = top_read xs spot s ∙ ap (whole xs) was.read

        tests_are : got.outcome.summary.tests ≡ length (tests_of was.tree)
        tests_are = ap (λ (o : Outcome). o.summary.tests) was.value

        pub fill_unread : (x : Refusal) → z ≡ Err x → FillsText ps ys (Err x) after
        fill_unread x j =
            let none_is = whole_none xs got.end got.outcome.summary.tests was.tree tests_are z g x j in
            no_tree x after (text_read_whole ∙ none_is.0) none_is.1

        -- the text is a filter: its tests decide
        module _ (j : z ≡ Ok tt) where
          rows_by : text_rows ps xs ≡ (decision_step got.outcome.summary.first >>= λ u. found (row_cells ps xs was.tree))
          unfolding text_rows tests_step
          rows_by =
              let r : accept_filter xs ≡ found was.tree = text_read xs sized (some was.tree) (text_read_whole ∙ whole_few xs got.end got.outcome.summary.tests was.tree tests_are z g j) in
              ap (λ (q : Step Tree). q >>= λ f. decision_step (first_fault ps 0 (tests_of f)) >>= λ u. found (row_cells ps xs f)) r
              ∙ ap (λ (o : Outcome). decision_step o.summary.first >>= λ u. found (row_cells ps xs was.tree)) (sym was.value)

          fill_done : (c : Result ℕ Refusal) (n : ℕ) → counted_answer c ≡ summary_answer got.outcome.summary → c ≡ Ok n → length before ≡ 1024 → FillsText ps xs (Ok got.outcome.cells) after
          fill_done c n e i size =
              let clean : decision_step got.outcome.summary.first ≡ found tt = none_refused got.outcome.summary c n e i in
              let same : got.outcome.cells ≡ cell_count was.tree = ap (λ (o : Outcome). o.cells) was.value in
              let at_first : got.outcome.cells ≡ 0 + cell_count was.tree = omega (arith, same) in
              let cells : take got.outcome.cells after ≡ row_cells ps xs was.tree = ap (λ (x : ℕ). take x after) at_first ∙ was.cells in
              record {
                rows = ap found cells ∙ sym (rows_by ∙ ap (λ (q : Step (Unit {0})). q >>= λ u. found (row_cells ps xs was.tree)) clean);
                room = λ j g. let x : got.outcome.cells ≡ j = cc in omega (arith, takes.cells_fit, takes.within, w.size, size, short_is);
              }

          fill_fault : (c : Result ℕ Refusal) (r : Refusal) → counted_answer c ≡ summary_answer got.outcome.summary → c ≡ Err r → FillsText ps xs (Err r) after
          fill_fault c r e i =
              let fault : decision_step got.outcome.summary.first ≡ refusal_step r = one_refused got.outcome.summary c r e i in
              record {
                rows = sym (rows_by ∙ ap (λ (q : Step (Unit {0})). q >>= λ u. found (row_cells ps xs was.tree)) fault);
                room = λ j g. let z : ◌≡◌ {A = ℕ} 0 1 = cc in absurd (omega arith);
              }

          pub fill_answered : (c : Result ℕ Refusal) → counted_answer c ≡ summary_answer got.outcome.summary → length before ≡ 1024 → FillsText ps ys (result_and c (Ok got.outcome.cells)) after
          fill_answered (Ok n) e size = given (fill_done (Ok n) n e refl size)
          fill_answered (Err r) e size = given (fill_fault (Err r) r e refl)

-- ---- the sheet

-- rows after all is read are rows where the tests are read
rows_tests : (ps : List Parameter) (xs : List ℕ) (f : Tree) (t : Step (Unit {0})) → (t >>= λ u. found (record { parameters = ps; filter = f })) >>= (λ (p : Inputs). found (row_cells p.parameters xs p.filter)) ≡ t >>= λ u. found (row_cells ps xs f)
rows_tests ps xs f (found u) = refl
rows_tests ps xs f (stop n p) = refl

rows_filter : (ps : List Parameter) (xs : List ℕ) (t : Step Tree)
    → (t >>= λ f. tests_step ps (tests_of f) >>= λ u. found (record { parameters = ps; filter = f })) >>= (λ (p : Inputs). found (row_cells p.parameters xs p.filter)) ≡ t >>= λ f. tests_step ps (tests_of f) >>= λ u. found (row_cells ps xs f)
rows_filter ps xs (found f) = rows_tests ps xs f (tests_step ps (tests_of f))
rows_filter ps xs (stop n p) = refl

module _ (b xs : List ℕ) (buffer : List ℕ) where
  pub fill_refused : (x : Refusal) → accept_sheet b ≡ refusal_step x → Fills b xs (Err x) buffer
  unfolding accept_inputs
  fill_refused x h =
      record { rows = refused_step (Err x) buffer (number_of x.reason) x.place (refused_counted x) ∙ sym (rw h); room = λ m q. absurd (refused_room (Err x) (number_of x.reason) x.place (refused_counted x) m q) }

  pub fill_right : (r : Result ℕ Refusal) (k : List ℕ) → (k ≡ b) × (read_sheet b ≡ (Ok tt)) → FillsText (parameters_of k) xs r buffer → Fills b xs r buffer
  unfolding accept_inputs accept_sheet text_rows
  fill_right r k i f = record { rows = f.rows ∙ sym (rw (i.0, i.1) (rows_filter (parameters_of b) xs (accept_filter xs))); room = f.room }

-- ---- the list

-- the room decides after all else
rows_room : {A : Type 0} (t : Step A) (g : A → List ℕ) (room : ℕ) → (t >>= λ p. accept_cells room (g p)) ≡ (t >>= λ p. found (g p)) >>= λ cs. accept_cells room cs
rows_room (found a) g room = refl
rows_room (stop n p) g room = refl

module _ (b xs list : List ℕ) (r : Result ℕ Refusal) (buffer : List ℕ) (f : Fills b xs r buffer) where
  preparation_is : preparation b xs (length list) ≡ filled_step r buffer >>= λ cs. accept_cells (length list) cs
  unfolding preparation
  preparation_is = rows_room (accept_inputs b xs) (λ p. row_cells p.parameters xs p.filter) (length list) ∙ ap (λ (q : Step (List ℕ)). q >>= λ cs. accept_cells (length list) cs) (sym f.rows)

  pub prepare_refused : (q : Refusal) → r ≡ Err q → Prepares b xs list (Err q) list
  unfolding prepare_answer prepare_cells counted_answer refusal_answer
  prepare_refused q i =
      let s : preparation b xs (length list) ≡ stop (number_of q.reason) q.place = preparation_is ∙ ap (λ (x : Result ℕ Refusal). filled_step x buffer >>= λ cs. accept_cells (length list) cs) i in
      record { answers = sym (ap (λ (x : Step (List ℕ)). answer (x >>= λ cs. found (count (length cs)))) s); cells = sym (ap (λ (x : Step (List ℕ)). written x list) s) }

  module _ (n : ℕ) (i : r ≡ Ok n) where
    taken-length : length (take n buffer) ≡ n
    taken-length = length-take-le n buffer (f.room n i)

    filled : preparation b xs (length list) ≡ accept_cells (length list) (take n buffer)
    filled = preparation_is ∙ ap (λ (x : Result ℕ Refusal). filled_step x buffer >>= λ cs. accept_cells (length list) cs) i

    pub prepare_short : length list < n → Prepares b xs list (Err (record { reason = Reason.ShortCells; place = n })) list
    unfolding prepare_answer prepare_cells counted_answer refusal_answer accept_cells
    prepare_short l =
        let s : preparation b xs (length list) ≡ stop 34 n = filled ∙ rw (taken-length, lt-leb n (length list) l) in
        record { answers = sym (ap (λ (x : Step (List ℕ)). answer (x >>= λ cs. found (count (length cs)))) s); cells = sym (ap (λ (x : Step (List ℕ)). written x list) s) }

    pub prepare_done : (exit : List ℕ) → n ≤ length list → exit ≡ part buffer 0 n ++ drop (length (part buffer 0 n)) list → Prepares b xs list (Ok n) exit
    unfolding prepare_answer prepare_cells counted_answer accept_cells
    prepare_done exit l e =
        let all : n - 0 ≡ n = omega arith in
        let whole_part : part buffer 0 n ≡ take n buffer = ap (λ (k : ℕ). take k buffer) all in
        let s : preparation b xs (length list) ≡ found (take n buffer) = filled ∙ rw (taken-length, le-leb n (length list) l) in
        record {
          answers = sym (ap (λ (x : Step (List ℕ)). answer (x >>= λ cs. found (count (length cs)))) s ∙ ap count taken-length);
          cells = e ∙ ap (λ (x : List ℕ). x ++ drop (length x) list) whole_part ∙ sym (ap (λ (x : Step (List ℕ)). written x list) s);
        }
