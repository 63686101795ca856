-- The machine's step under two pairs of limits.
-- A byte asks for one bracket more, for one test more, for both or for neither, and the answer depends on whether there is room for what it
-- asks (`needs`). Room that there is stays under a wider limit. Room that is lacking is there under any larger limit, since no good state has
-- more brackets or tests than its limit (`Room`, `one_more`). `Lifts` has what follows for the answer under other limits, and `step_lifts`
-- shows it phase by phase. Of a whole run `runs_lift` shows that it stays one under wider limits, by induction on the run.
-- Assumes nothing.
use Prim.Native.Nat.{ℕ, suc, ◌≤◌, ◌<◌}
use Prim.Native.Char.{code}
use native.Mathlib.Omega.{arith}
use mathlib.Core.Path.{◌≡◌, refl, sym, ap, subst₂, ◌∙◌}
use mathlib.Core.Bool.{Bool, true, false, cond}
use mathlib.Core.List.{List, [], ◌∷◌, ◌++◌}
use mathlib.Core.Logic.{◌⊎◌, ⊎_elim}
use lib.Dec.{eqb, ltb}
use lib.ListN.{length}
use borrow.Author.Tests.{ltb-true, lt-ltb}
use Rattle.base.specs.Ascii.{ascii}
use Rattle.base.specs.Lists.{equal}
use Rattle.base.specs.Names.{is_name_start, is_name_part, is_name}
use Rattle.base.proofs.Tests.{both_ways}
use Rattle.syntax.specs.Strings.{quote, is_bare}
use Rattle.syntax.specs.Scan.{is_space, step_of}
use Rattle.syntax.specs.declared.StringStep.{StringStep}
use Rattle.place.specs.Machine.{Phase, at_item, in_name, after_not, after-name, in_operator, after_operator, at_value, in_bare, in-string, after_item, after-space, in_connective, after_square, at_member, in_member, Bracket, round_open, square-open, close_of, closed_phase, State, state, Progress, live, deep, many, wrong, begins_operator, is_operator, chosen, closed, ended, in_string, connective_left, step}
use Rattle.place.proofs.Walks.{Runs, rests, goes}
use Rattle.place.proofs.Good.{Good, runs_good}

-- x is the answer under the limits d and m, y under D and M
pub record Lifts (d m D M : ℕ) (x y : Progress) : Type 0 where
  pub keeps : d ≤ D → m ≤ M → (s : State) → x ≡ live s → y ≡ live s
  pub wrong_stays : x ≡ wrong → (D ≡ d) ⊎ (M ≡ m) → (s : State) → y ≡ live s → ⊥
  pub deep_stays : x ≡ deep → D ≡ d → (s : State) → y ≡ live s → ⊥
  pub deep_lifts : x ≡ deep → d < D → m ≤ M → (s : State) × (y ≡ live s)
  pub many_stays : x ≡ many → M ≡ m → (s : State) → y ≡ live s → ⊥
  pub many_lifts : x ≡ many → d ≤ D → m < M → (s : State) × (y ≡ live s)

-- four answers are apart
pub live_wrong : {X : Type 0} {s : State} → live s ≡ wrong → X
live_wrong h = let z : ◌≡◌ {A = ℕ} 0 1 = cc in absurd (omega arith)

pub live_deep : {X : Type 0} {s : State} → live s ≡ deep → X
live_deep h = let z : ◌≡◌ {A = ℕ} 0 1 = cc in absurd (omega arith)

pub live_many : {X : Type 0} {s : State} → live s ≡ many → X
live_many h = let z : ◌≡◌ {A = ℕ} 0 1 = cc in absurd (omega arith)

wrong_deep : {X : Type 0} → wrong ≡ deep → X
wrong_deep h = let z : ◌≡◌ {A = ℕ} 0 1 = cc in absurd (omega arith)

wrong_many : {X : Type 0} → wrong ≡ many → X
wrong_many h = let z : ◌≡◌ {A = ℕ} 0 1 = cc in absurd (omega arith)

deep_many : {X : Type 0} → deep ≡ many → X
deep_many h = let z : ◌≡◌ {A = ℕ} 0 1 = cc in absurd (omega arith)

-- ---- a byte that may need a bracket more, a test more, or both: a and b say that there is room for them

abbrev needs : (a b : Bool) → State → Progress
needs true true s = live s
needs true false s = many
needs false true s = deep
needs false false s = wrong

module _ (s : State) (a b : Bool) where
  room_both : a ≡ true → b ≡ true → needs a b s ≡ live s
  room_both p q = rw (p, q)

module _ (s : State) where
  needs_live : (a b : Bool) {t : State} → needs a b s ≡ live t → (a ≡ true) × (b ≡ true)
  needs_live true true h = (refl, refl)
  needs_live true false h = live_many (sym h)
  needs_live false true h = live_deep (sym h)
  needs_live false false h = live_wrong (sym h)

  needs_wrong : (a b : Bool) → needs a b s ≡ wrong → (a ≡ false) × (b ≡ false)
  needs_wrong true true h = live_wrong h
  needs_wrong true false h = wrong_many (sym h)
  needs_wrong false true h = wrong_deep (sym h)
  needs_wrong false false h = (refl, refl)

  needs_deep : (a b : Bool) → needs a b s ≡ deep → (a ≡ false) × (b ≡ true)
  needs_deep true true h = live_deep h
  needs_deep true false h = deep_many (sym h)
  needs_deep false true h = (refl, refl)
  needs_deep false false h = wrong_deep h

  needs_many : (a b : Bool) → needs a b s ≡ many → (a ≡ true) × (b ≡ false)
  needs_many true true h = live_many h
  needs_many true false h = (refl, refl)
  needs_many false true h = deep_many h
  needs_many false false h = wrong_many h

  deep_needs : (a : Bool) → needs a true s ≡ cond a (live s) deep
  deep_needs true = refl
  deep_needs false = refl

  many_needs : (b : Bool) → needs true b s ≡ cond b (live s) many
  many_needs true = refl
  many_needs false = refl

  both-needs : (a b : Bool) → needs a b s ≡ cond a (cond b (live s) many) (cond b deep wrong)
  both-needs true true = refl
  both-needs true false = refl
  both-needs false true = refl
  both-needs false false = refl

-- a says that there is room under the limit d, b under D
record Room (d D : ℕ) (a b : Bool) : Type 0 where
  keeps : d ≤ D → a ≡ true → b ≡ true
  stays : D ≡ d → a ≡ false → b ≡ false
  lifts : d < D → a ≡ false → b ≡ true

-- where nothing more is needed
spared : {d D : ℕ} → Room d D true true
spared = record { keeps = λ h e. e; stays = λ z e. e; lifts = λ h e. refl }

one_more : (x d D : ℕ) → x ≤ d → Room d D (ltb x d) (ltb x D)
one_more x d D l =
    record {
      keeps = λ h e. lt-ltb x D (omega (arith, ltb-true x d e));
      stays = λ z e. ap (ltb x) z ∙ e;
      lifts = λ h e. lt-ltb x D (omega arith);
    }

module _ (d m D M : ℕ) where
  lifts_needs : (s : State) (a b x y : Bool) → Room d D a x → Room m M b y → Lifts d m D M (needs a b s) (needs x y s)
  lifts_needs s a b x y u v =
      record {
        keeps = λ h i t e. let p = needs_live s a b e in room_both s x y (u.keeps h p.0) (v.keeps i p.1) ∙ sym (room_both s a b p.0 p.1) ∙ e;
        wrong_stays = λ e z t h.
            let p = needs_wrong s a b e in
            let q = needs_live s x y h in
            ⊎_elim (λ w. both_ways q.0 (u.stays w p.0)) (λ w. both_ways q.1 (v.stays w p.1)) z;
        deep_stays = λ e z t h. both_ways (needs_live s x y h).0 (u.stays z (needs_deep s a b e).0);
        deep_lifts = λ e h i. let p = needs_deep s a b e in (s, room_both s x y (u.lifts h p.0) (v.keeps i p.1));
        many_stays = λ e z t h. both_ways (needs_live s x y h).1 (v.stays z (needs_many s a b e).1);
        many_lifts = λ e h i. let p = needs_many s a b e in (s, room_both s x y (u.keeps h p.0) (v.lifts i p.1));
      }

  lifts_live : (s : State) → Lifts d m D M (live s) (live s)
  lifts_live s = lifts_needs s true true true true spared spared

  lifts_wrong : Lifts d m D M wrong wrong
  lifts_wrong =
      record {
        keeps = λ a b t e. e;
        wrong_stays = λ e z t h. live_wrong (sym h);
        deep_stays = λ e z t h. wrong_deep e;
        deep_lifts = λ e a b. wrong_deep e;
        many_stays = λ e z t h. wrong_many e;
        many_lifts = λ e a b. wrong_many e;
      }

  lifts_cond : (c : Bool) {x y x' y' : Progress} → Lifts d m D M x x' → Lifts d m D M y y' → Lifts d m D M (cond c x y) (cond c x' y')
  lifts_cond true a b = a
  lifts_cond false a b = b

  -- the limit on nesting
  lifts_deep : (x : ℕ) → x ≤ d → (s : State) → Lifts d m D M (cond (ltb x d) (live s) deep) (cond (ltb x D) (live s) deep)
  lifts_deep x l s = subst₂ (Lifts d m D M) (deep_needs s (ltb x d)) (deep_needs s (ltb x D)) (lifts_needs s (ltb x d) true (ltb x D) true (one_more x d D l) spared)

  -- the limit on tests
  lifts_many : (n : ℕ) → n ≤ m → (s : State) → Lifts d m D M (cond (ltb n m) (live s) many) (cond (ltb n M) (live s) many)
  lifts_many n l s = subst₂ (Lifts d m D M) (many_needs s (ltb n m)) (many_needs s (ltb n M)) (lifts_needs s true (ltb n m) true (ltb n M) spared (one_more n m M l))

  -- both
  lifts_chosen : (k : List Bracket) (n : ℕ) → length k ≤ d → n ≤ m → Lifts d m D M (chosen d m k n) (chosen D M k n)
  lifts_chosen k n l c =
      let s : State = state at_item (square-open ∷ k) (suc n) in
      subst₂ (Lifts d m D M) (both-needs s (ltb (length k) d) (ltb n m)) (both-needs s (ltb (length k) D) (ltb n M))
      (lifts_needs s (ltb (length k) d) (ltb n m) (ltb (length k) D) (ltb n M) (one_more (length k) d D l) (one_more n m M c))

  lifts_closed : (k : List Bracket) (n b : ℕ) → Lifts d m D M (closed k n b) (closed k n b)
  lifts_closed [] n b = lifts_wrong
  lifts_closed (s ∷ k) n b = lifts_cond (eqb b (close_of s)) (lifts_live (state (closed_phase s) k n)) lifts_wrong

  lifts_string : (k : List Bracket) (n : ℕ) (s : StringStep) → Lifts d m D M (in_string k n s) (in_string k n s)
  lifts_string k n (StringStep.More pending) = lifts_live (state (in-string pending) k n)
  lifts_string k n StringStep.Close = lifts_live (state after_item k n)
  lifts_string k n StringStep.Wrong = lifts_wrong

  lifts_ended : (k : List Bracket) (n b : ℕ) → Lifts d m D M (ended k n b) (ended k n b)
  lifts_ended k n b = lifts_cond (is_space b) (lifts_live (state after-space k n)) (lifts_closed k n b)

  pub step_lifts : (f : Phase) (k : List Bracket) (n b : ℕ) → length k ≤ d → n ≤ m → Lifts d m D M (step d m (state f k n) b) (step D M (state f k n) b)
  unfolding step
  step_lifts at_item k n b l c =
      lifts_cond (is_space b) (lifts_live (state at_item k n))
      (lifts_cond (eqb b (code "(")) (lifts_deep (length k) l (state at_item (round_open ∷ k) n)) (lifts_cond (is_name_start b) (lifts_live (state (in_name (b ∷ [])) k n)) lifts_wrong))
  step_lifts (in_name w) k n b l c =
      lifts_cond (is_name_part b) (lifts_live (state (in_name (w ++ (b ∷ []))) k n))
      (lifts_cond (is_name w) (lifts_cond (is_space b) (lifts_live (state after-name k n)) (lifts_cond (eqb b (code "[")) (lifts_chosen k n l c) lifts_wrong))
      (lifts_cond (equal w (ascii "not"))
      (lifts_cond (is_space b) (lifts_deep (length k) l (state after_not k n)) (lifts_cond (eqb b (code "(")) (lifts_deep (length k) l (state at_item (round_open ∷ k) n)) lifts_wrong))
      lifts_wrong))
  step_lifts after_not k n b l c =
      lifts_cond (is_space b) (lifts_deep (length k) l (state after_not k n)) (lifts_cond (eqb b (code "(")) (lifts_deep (length k) l (state at_item (round_open ∷ k) n)) lifts_wrong)
  step_lifts after-name k n b l c =
      lifts_cond (is_space b) (lifts_live (state after-name k n)) (lifts_cond (begins_operator b) (lifts_live (state (in_operator b) k n)) lifts_wrong)
  step_lifts (in_operator x) k n b l c = lifts_cond (is_operator (x ∷ b ∷ [])) (lifts_live (state after_operator k n)) lifts_wrong
  step_lifts after_operator k n b l c = lifts_cond (is_space b) (lifts_live (state at_value k n)) lifts_wrong
  step_lifts at_value k n b l c =
      lifts_cond (is_space b) (lifts_live (state at_value k n))
      (lifts_cond (eqb b quote) (lifts_live (state (in-string false) k n)) (lifts_cond (is_bare b) (lifts_live (state in_bare k n)) lifts_wrong))
  step_lifts in_bare k n b l c = lifts_cond (is_bare b) (lifts_live (state in_bare k n)) (lifts_ended k n b)
  step_lifts (in-string pending) k n b l c = lifts_string k n (step_of pending b)
  step_lifts after_item k n b l c = lifts_ended k n b
  step_lifts after-space k n b l c =
      lifts_cond (is_space b) (lifts_live (state after-space k n))
      (lifts_cond (eqb b (code "a")) (lifts_many n c (state (in_connective (ascii "nd ")) k (suc n)))
      (lifts_cond (eqb b (code "o")) (lifts_many n c (state (in_connective (ascii "r ")) k (suc n))) (lifts_closed k n b)))
  step_lifts (in_connective []) k n b l c = lifts_wrong
  step_lifts (in_connective (x ∷ w)) k n b l c = lifts_cond (eqb b x) (lifts_live (state (connective_left w) k n)) lifts_wrong
  step_lifts after_square k n b l c = lifts_cond (eqb b (code ".")) (lifts_live (state at_member k n)) lifts_wrong
  step_lifts at_member k n b l c = lifts_cond (is_name_start b) (lifts_live (state (in_member (b ∷ [])) k n)) lifts_wrong
  step_lifts (in_member w) k n b l c =
      lifts_cond (is_name_part b) (lifts_live (state (in_member (w ++ (b ∷ []))) k n))
      (lifts_cond (is_name w) (lifts_cond (is_space b) (lifts_live (state after-name k n)) lifts_wrong) lifts_wrong)

pub state_lifts : (d m D M : ℕ) (t : State) (b : ℕ) → Good d m t → Lifts d m D M (step d m t b) (step D M t b)
state_lifts d m D M (state f k n) b g = step_lifts d m D M f k n b g.0 g.1

-- a run stays under wider limits
pub runs_lift : {d m : ℕ} (D M : ℕ) {ws : List ℕ} {s t : State} → d ≤ D → m ≤ M → Good d m s → Runs d m s ws t → Runs D M s ws t
runs_lift D M h i g rests = rests
runs_lift {d} {m} D M h i g (goes {b = b} {s = state f k n} {t = t} e r) =
    goes ((step_lifts d m D M f k n b g.0 g.1).keeps h i t e) (runs_lift D M h i (runs_good (goes e rests) g) r)
