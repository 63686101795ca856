-- The machine fails at the end of the longest beginning of the text that begins a filter, and its reason is the right one for that place.
-- The machine goes over the bytes up to where it fails (`fails`, by induction on the text). These begin a filter (`runs_begin`): the state
-- reached is good, so it can be completed (Good), and what the machine goes over to such an end is a filter (Backing, Rests). Nothing longer
-- does: the machine goes over every beginning of a filter (Walking), through the same states, and here it goes no further (`none_longer`).
-- The reason is told by whether the byte would pass under a wider limit on nesting, or on tests (`number_of_lem`, by Limits).
-- Assumes nothing.
use Prim.Native.Nat.{ℕ, suc, ◌+◌, ◌-◌, ◌≤◌, ◌<◌}
use native.Mathlib.Omega.{arith}
use native.Mathlib.Nat.{add-zero, zero-add}
use mathlib.Core.Path.{◌≡◌, refl, sym, ap, subst, ◌∙◌}
use mathlib.Core.List.{List, [], ◌∷◌, ◌++◌, append-nil}
use mathlib.Core.Logic.{inl, inr}
use lib.ListN.{length, take, drop, length-append}
use lib.Seq.{take-append-add, take-append_seam}
use Rattle.syntax.specs.Tree.{Tree}
use Rattle.syntax.specs.Grammar.{Spaces, no_space, space, Within}
use Rattle.place.specs.Begins.{Begins, Longest, Number, number_11, number_12, number_13}
use Rattle.refusal.specs.declared.Reason.{Reason}
use Rattle.refusal.specs.declared.Refusal.{Refusal}
use Rattle.place.specs.Machine.{Phase, State, state, Progress, live, deep, many, wrong, step, on_step, failure_from, start, failure}
use Rattle.refusal.specs.Answers.{number_of}
use Rattle.place.proofs.Steps.{ended_bare, ended_item}
use Rattle.place.proofs.Walks.{Walk, Runs, rests, goes, then_runs, runs_fewer, runs_same, runs_walk}
use Rattle.place.proofs.Walking.{begins_runs, tests_some}
use Rattle.place.proofs.Rests.{AfterLeft, end_left, left-within, Left}
use Rattle.place.proofs.Backing.{walk_back}
use Rattle.place.proofs.Limits.{state_lifts, runs_lift, live_deep, live_many, live_wrong}
use Rattle.place.proofs.Good.{Good, runs_good, Over, over_ended, over_space, completes}
use Rattle.base.specs.Lists.{all_empty}

-- ---- what the machine goes over, up to the end of an item at no bracket, is a filter

over-left : (d : ℕ) (xs : List ℕ) {f : Phase} → Over f → Left d xs f [] (length xs) 0
over-left d xs (over_ended ended_bare) =
    record { word = []; stands = (drop (length xs) xs, refl); bare = all_empty; left = subst (λ (q : ℕ). AfterLeft d xs [] q 0) (sym (add-zero (length xs))) (end_left no_space) }
over-left d xs (over_ended ended_item) = end_left no_space
over-left d xs over_space =
    record { left = λ q e s. end_left (space s (subst (λ (r : ℕ). Spaces xs r (length xs)) (sym e) no_space)) }

pub over-within : {d m : ℕ} {xs : List ℕ} {f : Phase} {n : ℕ} → Walk d m xs 0 start (length xs) (state f [] n) → Over f → n ≤ m → (g : Tree) × Within d m xs g
over-within {d} {m} {xs} {f} {n} w o h =
    let r = walk_back w (omega arith) 0 (over-left d xs o) in
    let z = left-within r.1.spaces r.1.item in
    let u = z.1 in
    (z.0, record { from = u.from; to = u.to; before = u.before; filter = u.filter; after = u.after; few = omega (arith, u.few, r.2) })

-- (i) what the machine goes over begins a filter
pub runs_begin : {d m : ℕ} {ws : List ℕ} {t : State} → 1 ≤ m → Runs d m start ws t → Begins d m ws
runs_begin {d} {m} {ws} {t} h r = go t r (runs_good r (omega arith, h, tt))
  where
    go : (t : State) → Runs d m start ws t → Good d m t → Begins d m ws
    go (state f k n) r g =
        let c = completes d m f k n g in
        let xs : List ℕ = ws ++ c.bytes in
        let z : 0 + length xs ≡ length xs = zero-add (length xs) in
        let w : Walk d m xs 0 start (length xs) (state c.phase [] n) =
        subst (λ (q : ℕ). Walk d m xs 0 start q (state c.phase [] n)) z (runs_walk (then_runs r c.runs) ([], sym (append-nil xs))) in
        let a = over-within w c.over g.1 in
        record { rest = c.bytes; bytes = c.clean; tree = a.0; is = a.1 }

-- ---- where it fails

-- why it goes no further from the state
pub data Dead (d m : ℕ) (t : State) : List ℕ → Reason → Type 0 where
  dead_end : Dead d m t [] Reason.NoFilter
  dead_deep : {b : ℕ} {c : List ℕ} → step d m t b ≡ deep → Dead d m t (b ∷ c) Reason.TooDeep
  dead_many : {b : ℕ} {c : List ℕ} → step d m t b ≡ many → Dead d m t (b ∷ c) Reason.TooMany
  dead_wrong : {b : ℕ} {c : List ℕ} → step d m t b ≡ wrong → Dead d m t (b ∷ c) Reason.NoFilter

pub record Failed (d m : ℕ) (s : State) (ys : List ℕ) (p : ℕ) (r : Refusal) : Type 0 where
  pub gone : List ℕ
  pub left : List ℕ
  pub at : State
  pub split : ys ≡ gone ++ left
  pub runs : Runs d m s gone at
  pub place : r.place ≡ p + length gone
  pub dead : Dead d m at left r.reason

fails : (d m : ℕ) (s : State) (ys : List ℕ) (p : ℕ) → Failed d m s ys p (failure_from d m s ys p)
unfolding failure_from
fails d m s [] p = record { gone = []; left = []; at = s; split = refl; runs = rests; place = sym (add-zero p); dead = dead_end }
fails d m s (y ∷ ys) p = go (step d m s y) refl (λ t. fails d m t ys (p + 1))
  where
    here : (r : Refusal) → r.place ≡ p → Dead d m s (y ∷ ys) r.reason → Failed d m s (y ∷ ys) p r
    here r e z = record { gone = []; left = y ∷ ys; at = s; split = refl; runs = rests; place = e ∙ sym (add-zero p); dead = z }

    go : (x : Progress) → step d m s y ≡ x → ((t : State) → Failed d m t ys (p + 1) (failure_from d m t ys (p + 1)))
        → Failed d m s (y ∷ ys) p (on_step x (λ t. failure_from d m t ys (p + 1)) p)
    go (live t) e next =
        let r = next t in
        record { gone = y ∷ r.gone; left = r.left; at = r.at; split = ap (λ (l : List ℕ). y ∷ l) r.split; runs = goes e r.runs; place = omega (arith, r.place); dead = r.dead }
    go deep e next = here (record { reason = Reason.TooDeep; place = p }) refl (dead_deep e)
    go many e next = here (record { reason = Reason.TooMany; place = p }) refl (dead_many e)
    go wrong e next = here (record { reason = Reason.NoFilter; place = p }) refl (dead_wrong e)

-- ---- what a longer beginning tells

-- limits within which something begins a filter let a test be
begins_some : {d m : ℕ} {xs : List ℕ} → Begins d m xs → 1 ≤ m
begins_some b = omega (arith, b.is.few, tests_some b.tree)

start-good : {d m : ℕ} → 1 ≤ m → Good d m start
start-good h = (omega arith, h, tt)

take_past : (gone left : List ℕ) (q : ℕ) → length gone < q → take q (gone ++ left) ≡ gone ++ take (q - length gone) left
take_past gone left q h =
    let z : q ≡ length gone + (q - length gone) = omega arith in
    ap (λ (n : ℕ). take n (gone ++ left)) z ∙ take-append-add gone left (q - length gone)

module _ {d m : ℕ} {xs : List ℕ} {r : Refusal} (s : Failed d m start xs 0 r) (some : 1 ≤ m) where
  -- under other limits, the machine comes to the same state and goes on from it
  next_live : (D M q : ℕ) → r.place < q → q ≤ length xs → Begins D M (take q xs)
      → (b : ℕ) × (c : List ℕ) × (u : State) × (s.left ≡ b ∷ c) × (step D M s.at b ≡ live u)
  next_live D M q lt le g = go s.left refl
    where
      long : length s.gone < q
      long = omega (arith, s.place)

      fits : length s.gone + length s.left ≡ length xs
      fits = sym (length-append s.gone s.left) ∙ ap length (sym s.split)

      same : (t : State) → Runs D M start s.gone t → s.at ≡ t
      same t k =
          let dD : d ≤ d + D = omega arith in
          let mM : m ≤ m + M = omega arith in
          let Dd : D ≤ d + D = omega arith in
          let Mm : M ≤ m + M = omega arith in
          runs_same (runs_lift (d + D) (m + M) dD mM (start-good some) s.runs) (runs_lift (d + D) (m + M) Dd Mm (start-good (begins_some g)) k)

      go : (l : List ℕ) → s.left ≡ l → (b : ℕ) × (c : List ℕ) × (u : State) × (l ≡ b ∷ c) × (step D M s.at b ≡ live u)
      go [] e = absurd (omega (arith, fits, ap length e))
      go (b ∷ c) e =
          let j : ℕ = q - length s.gone - 1 in
          let n : q - length s.gone ≡ suc j = omega arith in
          let z : take q xs ≡ s.gone ++ (b ∷ take j c) =
          ap (take q) s.split ∙ take_past s.gone s.left q long ∙ ap (λ (l : List ℕ). s.gone ++ take (q - length s.gone) l) e ∙ ap (λ (k : ℕ). s.gone ++ take k (b ∷ c)) n in
          let w = begins_runs g in
          let k = runs_fewer s.gone (b ∷ take j c) (subst (λ (l : List ℕ). Runs D M start l w.0) z w.1) in
          step-on k.0 k.2 (same k.0 k.1)
        where
          step-on : (t : State) {v : List ℕ} {u : State} → Runs D M t (b ∷ v) u → s.at ≡ t → (b' : ℕ) × (c' : List ℕ) × (u : State) × (b ∷ c ≡ b' ∷ c') × (step D M s.at b' ≡ live u)
          step-on t (goes {t = u} h k) y = (b, c, u, refl, ap (λ (x : State). step D M x b) y ∙ h)

  -- the same where the byte is known
  byte_live : (D M b : ℕ) (c : List ℕ) → s.left ≡ b ∷ c → (q : ℕ) → r.place < q → q ≤ length xs → Begins D M (take q xs) → (u : State) × (step D M s.at b ≡ live u)
  byte_live D M b c e q lt le g =
      let k = next_live D M q lt le g in
      let z : k.0 ≡ b = let y = sym k.3 ∙ e in cc in
      (k.2, subst (λ (x : ℕ). step D M s.at x ≡ live k.2) z k.4)

  end_live : {X : Type 0} (D M : ℕ) → s.left ≡ [] → (q : ℕ) → r.place < q → q ≤ length xs → Begins D M (take q xs) → X
  end_live D M e q lt le g =
      let k = next_live D M q lt le g in
      absurd (omega (arith, ap length (sym k.3 ∙ e)))

  none_longer : (l : List ℕ) (n : Reason) → s.left ≡ l → Dead d m s.at l n → (q : ℕ) → r.place < q → q ≤ length xs → Begins d m (take q xs) → ⊥
  none_longer l n e dead_end q lt le g = end_live d m e q lt le g
  none_longer l n e (dead_deep {b = b} {c = c} w) q lt le g = let k = byte_live d m b c e q lt le g in live_deep (sym k.1 ∙ w)
  none_longer l n e (dead_many {b = b} {c = c} w) q lt le g = let k = byte_live d m b c e q lt le g in live_many (sym k.1 ∙ w)
  none_longer l n e (dead_wrong {b = b} {c = c} w) q lt le g = let k = byte_live d m b c e q lt le g in live_wrong (sym k.1 ∙ w)

  gone_take : take r.place xs ≡ s.gone
  gone_take =
      let z : r.place ≡ length s.gone = omega (arith, s.place) in
      ap (λ (n : ℕ). take n xs) z ∙ ap (take (length s.gone)) s.split ∙ take-append_seam s.gone s.left

  place_within : r.place ≤ length xs
  place_within = omega (arith, s.place, length-append s.gone s.left, ap length s.split)

  pub failed_longest : Longest (Begins d m) xs r.place
  failed_longest =
      record {
        within = place_within;
        begins = subst (Begins d m) (sym gone_take) (runs_begin some s.runs);
        none_longer = λ q lt le g. none_longer s.left r.reason refl s.dead q lt le g;
      }

  -- the machine goes one byte further under other limits
  longer : (D M : ℕ) (b : ℕ) (c : List ℕ) (u : State) → d ≤ D → m ≤ M → s.left ≡ b ∷ c → step D M s.at b ≡ live u
      → (r.place < r.place + 1) × (r.place + 1 ≤ length xs) × Begins D M (take (r.place + 1) xs)
  longer D M b c u h i e k =
      let z : r.place + 1 ≡ length s.gone + 1 = omega (arith, s.place) in
      let t : take (r.place + 1) xs ≡ s.gone ++ (b ∷ []) =
      ap (λ (n : ℕ). take n xs) z ∙ ap (take (length s.gone + 1)) (s.split ∙ ap (λ (l : List ℕ). s.gone ++ l) e) ∙ take-append-add s.gone (b ∷ c) 1 in
      let runs : Runs D M start (s.gone ++ (b ∷ [])) u = then_runs (runs_lift D M h i (start-good some) s.runs) (goes k rests) in (
        omega arith,
        omega (arith, s.place, length-append s.gone s.left, ap length s.split, ap length e),
        subst (Begins D M) (sym t) (runs_begin (omega arith) runs),
      )

  number_of_lem : (l : List ℕ) (n : Reason) → s.left ≡ l → Dead d m s.at l n → Good d m s.at → Number d m xs r.place (number_of n)
  number_of_lem l n e dead_end g =
      number_11 (λ x. end_live x.begins.0 m e x.size x.more x.within x.begins.1) (λ x. end_live d x.begins.0 e x.size x.more x.within x.begins.1)
  number_of_lem l n e (dead_deep {b = b} {c = c} w) g =
      let k = (state_lifts d m (suc d) m s.at b g).deep_lifts w (omega arith) (omega arith) in
      let z = longer (suc d) m b c k.0 (omega arith) (omega arith) e k.1 in
      number_12 (record { size = r.place + 1; more = z.0; within = z.1; begins = (suc d, z.2) })
  number_of_lem l n e (dead_many {b = b} {c = c} w) g =
      let k = (state_lifts d m d (suc m) s.at b g).many_lifts w (omega arith) (omega arith) in
      let z = longer d (suc m) b c k.0 (omega arith) (omega arith) e k.1 in
      number_13 (record { size = r.place + 1; more = z.0; within = z.1; begins = (suc m, z.2) })
      (λ x. let D = x.begins.0 in
      let y = byte_live D m b c e x.size x.more x.within x.begins.1 in
      (state_lifts d m D m s.at b g).many_stays w refl y.0 y.1)
  number_of_lem l n e (dead_wrong {b = b} {c = c} w) g =
      number_11
      (λ x. let y = byte_live x.begins.0 m b c e x.size x.more x.within x.begins.1 in
      (state_lifts d m x.begins.0 m s.at b g).wrong_stays w (inr refl) y.0 y.1)
      (λ x. let y = byte_live d x.begins.0 b c e x.size x.more x.within x.begins.1 in
      (state_lifts d m d x.begins.0 s.at b g).wrong_stays w (inl refl) y.0 y.1)

  pub failed_number : Number d m xs r.place (number_of r.reason)
  failed_number = number_of_lem s.left r.reason refl s.dead (runs_good s.runs (start-good some))

-- the place is the length of the longest beginning of the text that begins some filter within both limits
pub failure_longest : (d m : ℕ) (xs : List ℕ) → 1 ≤ m → Longest (Begins d m) xs (failure d m xs).place
unfolding failure
failure_longest d m xs h = failed_longest (fails d m start xs 0) h

-- and the number is the one for that place
pub failure-number : (d m : ℕ) (xs : List ℕ) → 1 ≤ m → Number d m xs (failure d m xs).place (number_of (failure d m xs).reason)
unfolding failure
failure-number d m xs h = failed_number (fails d m start xs 0) h
