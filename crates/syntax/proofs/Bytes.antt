-- What the code's tests on single bytes come to.
-- Assumes nothing.
use Prim.Native.Nat.{ℕ, ◌≤◌, ◌<◌}
use Prim.Native.Char.{code}
use mathlib.Core.Path.{◌≡◌, refl, sym, ◌∙◌}
use mathlib.Core.Bool.{Bool, true, false, not}
use lib.Dec.{eqb}
use borrow.Author.Tests.{eq-eqb, ne_eqb, le-leb, lt-leb}
use Rattle.base.specs.Lists.{all_empty, all_cons, member}
use Rattle.base.proofs.All.{member_all}
use Rattle.syntax.specs.Strings.{quote, backslash, is_bare, is_escape, unescaped, Escape, quotation_mark, reverse_solidus, solidus, backspace, form_feed, line-feed, carriage_return, tabulation}
use Rattle.syntax.specs.Scan.{step_of}
use Rattle.syntax.specs.declared.StringStep.{StringStep}

-- ---- bare words

pub bare_low : (b : ℕ) → b < 0x21 → false ≡ is_bare b
unfolding is_bare
bare_low b h = rw (lt-leb 0x21 b h)

pub bare_high : (b : ℕ) → 0x21 ≤ b → 0x7e < b → false ≡ is_bare b
unfolding is_bare
bare_high b l h = rw (le-leb 0x21 b l, lt-leb b 0x7e h)

module _ (b : ℕ) (l : 0x21 ≤ b) (h : b ≤ 0x7e) where
  pub bare_round : b ≡ code ")" → not (eqb b (code ")")) ≡ is_bare b
  unfolding is_bare
  bare_round e = rw (le-leb 0x21 b l, le-leb b 0x7e h, eq-eqb b (code ")") e)

  pub bare_other : (b ≡ code ")" → ⊥) → not (eqb b (code "]")) ≡ is_bare b
  unfolding is_bare
  bare_other e = rw (le-leb 0x21 b l, le-leb b 0x7e h, ne_eqb b (code ")") e)

-- ---- strings

pub unescaped_other : (b : ℕ) → (b ≡ code "b" → ⊥) → (b ≡ code "f" → ⊥) → (b ≡ code "n" → ⊥) → (b ≡ code "r" → ⊥) → (b ≡ code "t" → ⊥) → b ≡ unescaped b
unfolding unescaped
unescaped_other b h i j k l =
    rw (ne_eqb b (code "b") h, ne_eqb b (code "f") i, ne_eqb b (code "n") j, ne_eqb b (code "r") k, ne_eqb b (code "t") l)

-- the bytes that may follow a backslash, and what they stand for, are those of the escapes
pub escape_stands : {b u : ℕ} → Escape b u → (is_escape b ≡ true) × (unescaped b ≡ u)
unfolding is_escape unescaped member
escape_stands quotation_mark = (refl, refl)
escape_stands reverse_solidus = (refl, refl)
escape_stands solidus = (refl, refl)
escape_stands backspace = (refl, refl)
escape_stands form_feed = (refl, refl)
escape_stands line-feed = (refl, refl)
escape_stands carriage_return = (refl, refl)
escape_stands tabulation = (refl, refl)

pub stands_escape : (b : ℕ) → is_escape b ≡ true → Escape b (unescaped b)
unfolding is_escape unescaped
stands_escape b =
    member_all (λ (x : ℕ). Escape x (unescaped x))
    (all_cons quotation_mark (all_cons solidus (all_cons reverse_solidus (all_cons backspace (all_cons form_feed (all_cons line-feed (all_cons carriage_return (all_cons tabulation all_empty)))))))) b

module _ (pending : Bool) (b : ℕ) where
  pub step_escape : pending ≡ true → (r : Bool) → r ≡ is_escape b → r ≡ true → StringStep.More false ≡ step_of pending b
  unfolding step_of
  step_escape p r e t = rw (p, sym e ∙ t)

  pub step_no_escape : pending ≡ true → (r : Bool) → r ≡ is_escape b → r ≡ false → StringStep.Wrong ≡ step_of pending b
  unfolding step_of
  step_no_escape p r e t = rw (p, sym e ∙ t)

  pub step-quote : pending ≡ false → b ≡ quote → StringStep.Close ≡ step_of pending b
  unfolding step_of
  step-quote p q = rw (p, eq-eqb b quote q)

  pub step-backslash : pending ≡ false → (b ≡ quote → ⊥) → b ≡ backslash → StringStep.More true ≡ step_of pending b
  unfolding step_of
  step-backslash p q s = rw (p, ne_eqb b quote q, eq-eqb b backslash s)

  pub step_low : pending ≡ false → (b ≡ quote → ⊥) → (b ≡ backslash → ⊥) → b < 0x20 → StringStep.Wrong ≡ step_of pending b
  unfolding step_of
  step_low p q s h = rw (p, ne_eqb b quote q, ne_eqb b backslash s, lt-leb 0x20 b h)

  pub step-plain : pending ≡ false → (b ≡ quote → ⊥) → (b ≡ backslash → ⊥) → 0x20 ≤ b → StringStep.More false ≡ step_of pending b
  unfolding step_of
  step-plain p q s h = rw (p, ne_eqb b quote q, ne_eqb b backslash s, le-leb 0x20 b h)
