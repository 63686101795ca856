-- What stands around a filter in square brackets, as its writers put it; and a connective's text.
-- Assumes nothing.
use Prim.Native.Nat.{ℕ, ◌+◌, ◌≤◌}
use native.Mathlib.Omega.{arith}
use mathlib.Core.Path.{◌≡◌, refl, sym, ap}
use mathlib.Core.List.{List, [], ◌++◌}
use lib.ListN.{length}
use Rattle.base.specs.Ascii.{ascii}
use Rattle.syntax.specs.declared.Connective.{Connective}
use Rattle.syntax.specs.Tree.{Test}
use Rattle.plain.specs.Plain.{connective_text, plain_test}
use Rattle.base.specs.Writing.{Room, Puts}
use Rattle.spell.specs.Walks.{choice_text, member_text}
use Rattle.base.proofs.Writing.{room_same, puts_same, lent, back, Wrote, wrote_end, first_room, first-within, last_room, last_wrote}

-- ---- a name and "["

module _ (n out : List ℕ) (h : Room (choice_text n) out) where
  choice_parts : Room (n ++ ascii "[") out
  unfolding choice_text
  choice_parts = h

  pub bundle_room : Room n out
  bundle_room = first_room n (ascii "[") out choice_parts

  module _ {out₁ : List ℕ} {k : ℕ} (p : Puts n out out₁ k) where
    pub bundle-within : k ≤ length out₁
    bundle-within = first-within n (ascii "[") out choice_parts p

    pub square_room : Room (ascii "[") (lent out₁ k)
    square_room = last_room n (ascii "[") out choice_parts p

    module _ {exit : List ℕ} {m : ℕ} (q : Puts (ascii "[") (lent out₁ k) exit m) where
      choice_wrote : Wrote (choice_text n) [] out (back out₁ k exit) (k + m)
      unfolding choice_text
      choice_wrote = last_wrote n (ascii "[") out choice_parts p q

      pub choice_long : length (back out₁ k exit) ≡ length out
      choice_long = choice_wrote.long

      pub choice_puts : Puts (choice_text n) out (back out₁ k exit) (k + m)
      choice_puts = wrote_end choice_wrote refl

-- ---- "]." and a test

module _ (t : Test) (out : List ℕ) (h : Room (member_text t) out) where
  member_parts : Room (ascii "]." ++ plain_test t) out
  unfolding member_text
  member_parts = h

  pub dot_room : Room (ascii "].") out
  dot_room = first_room (ascii "].") (plain_test t) out member_parts

  module _ {out₁ : List ℕ} {k : ℕ} (p : Puts (ascii "].") out out₁ k) where
    pub dot_within : k ≤ length out₁
    dot_within = first-within (ascii "].") (plain_test t) out member_parts p

    pub member_room : Room (plain_test t) (lent out₁ k)
    member_room = last_room (ascii "].") (plain_test t) out member_parts p

    module _ {exit : List ℕ} {m : ℕ} (q : Puts (plain_test t) (lent out₁ k) exit m) where
      member_wrote : Wrote (member_text t) [] out (back out₁ k exit) (k + m)
      unfolding member_text
      member_wrote = last_wrote (ascii "].") (plain_test t) out member_parts p q

      pub member-within : k + m ≤ length out
      member-within = omega (arith, member_wrote.within, member_wrote.long)

      pub member_long : length (back out₁ k exit) ≡ length out
      member_long = member_wrote.long

      pub member_puts : Puts (member_text t) out (back out₁ k exit) (k + m)
      member_puts = wrote_end member_wrote refl

-- ---- a connective

module _ (a : Connective) where
  module _ (e : a ≡ Connective.And) where
    pub and_room : {out : List ℕ} → Room (connective_text a) out → Room (ascii " and ") out
    and_room h = rw e at h

    pub and_puts : {out exit : List ℕ} {n : ℕ} → Puts (ascii " and ") out exit n → Puts (connective_text a) out exit n
    and_puts p = rw e p

  module _ (e : a ≡ Connective.Or) where
    pub or_room : {out : List ℕ} → Room (connective_text a) out → Room (ascii " or ") out
    or_room h = rw e at h

    pub or_puts : {out exit : List ℕ} {n : ℕ} → Puts (ascii " or ") out exit n → Puts (connective_text a) out exit n
    or_puts p = rw e p

-- ---- the name by another list that is the same

module _ {w v : List ℕ} (e : w ≡ v) where
  pub choice_room_named : {out : List ℕ} → Room (choice_text v) out → Room (choice_text w) out
  choice_room_named = room_same (ap choice_text (sym e))

  pub choice_named : {out exit : List ℕ} {n : ℕ} → Puts (choice_text w) out exit n → Puts (choice_text v) out exit n
  choice_named = puts_same (ap choice_text e)
