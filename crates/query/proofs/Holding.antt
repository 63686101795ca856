-- The loop of `keep_pair`: the rows keep the alternatives so far, and those that are left make the pair.
-- The invariant `Holding`: the rows keep the alternatives so far, and these with the alternatives of the bytes left make the pair
-- (`whole`). A turn takes the next alternative, writes its text behind the bytes in use and adds its row (`holding_next`). What earlier
-- rows keep stays, since their names and texts lie in the bytes below `used`, which are not touched (`keeps_on`, by `part_front`). Each
-- alternative but the last takes a byte of the value at least, its comma, so at most one row more is added than the value has bytes
-- (`count`).
-- Assumes nothing.
use Rattle.std.specs.Prelude.{Option, Some, None, unwrap_or, is_some}
use Prim.Native.Nat.{ℕ, zero, suc, ◌+◌, ◌-◌, ◌≤◌, ◌<◌}
use native.Mathlib.Omega.{arith}
use mathlib.Core.Path.{◌≡◌, refl, ap, sym, ◌∙◌, subst}
use mathlib.Core.Bool.{Bool, true, false, not, false≢true}
use mathlib.Core.List.{List, [], ◌∷◌, ◌++◌, map, append_assoc, append-nil}
use lib.ListN.{length, take, drop, length-drop}
use lib.Seq.{take-append_seam, take-append-le, take-take, length-take-le, drop-append-add}
use lib.Dec.{leb}
use mathlib.Core.Logic.{⊎_elim}
use borrow.Author.Tests.{leb-true, leb-false}
use Rattle.base.proofs.Tests.{decided}
use Rattle.base.specs.Lists.{All, all_empty, all_cons}
use Rattle.base.specs.Parts.{part}
use Rattle.query.specs.Spelling.{Alternative, Sign}
use Rattle.query.specs.Reader.{signs_of, cut_signs, text_of, split_of, alternative}
use Rattle.query.specs.Scan.{first_of, signs_from, cut_from, PieceOf}
use Rattle.query.specs.Rows.{pushed, Kept, keep_pair, kept_in, RowWithin, Keeps, PairHeld}
use Rattle.query.specs.declared.Piece.{Piece}
use Rattle.query.specs.declared.Row.{Row}
use Rattle.query.specs.declared.Rows.{Rows}
use Rattle.query.proofs.Gathering.{cut_first}
use Rattle.query.proofs.Keeping.{keeps_push}

-- the alternatives that are left, if one begins at the position
abbrev pub kept_from : (List Sign → Alternative) → List ℕ → Option ℕ → List Kept
kept_from f value next = keep_pair (map f (cut_from value next))

-- how many they are at most, where the value has n bytes
abbrev pub room_left : ℕ → Option ℕ → ℕ
room_left n (Some i) = n - i + 1
room_left n None = 0

pub record Holding (value : List ℕ) (at name until start : ℕ) (bytes₀ : List ℕ) (entry : Rows) (bytes : List ℕ) (rows : Rows) (used : ℕ) (next : Option ℕ) : Type 0 where
  pub done : List Kept
  pub keeps : (ks : List Kept) → Keeps entry bytes₀ start ks → Keeps rows bytes used (ks ++ done)
  pub whole : keep_pair (map (alternative at (part bytes₀ name until)) (cut_signs (signs_of false value)))
      ≡ done ++ kept_from (alternative at (part bytes₀ name until)) value next
  pub front : take start bytes ≡ take start bytes₀
  pub lower : start ≤ used
  pub upper : used ≤ start + unwrap_or next (length value)
  pub within : unwrap_or next (length value) ≤ length value
  pub count : rows.count + room_left (length value) next ≤ entry.count + length value + 1
  pub room : length value + start ≤ length bytes₀
  pub begins : name ≤ until
  pub named : until ≤ start
  pub few : entry.count + length value < 4000

-- ---- bytes that stay

-- a part lies within the first n
part_front : (s t : List ℕ) (n a e : ℕ) → e ≤ n → take n s ≡ take n t → part s a e ≡ part t a e
part_front s t n a e h same = within s ∙ ap (λ (l : List ℕ). take (e - a) (drop a l)) same ∙ sym (within t)
  where
    cut_off : (k a : ℕ) (l : List ℕ) (m : ℕ) → a + k ≤ m → take k (drop a (take m l)) ≡ take k (drop a l)
    cut_off k zero l m h = take-take k m l (omega arith)
    cut_off k (suc a) [] zero h = refl
    cut_off k (suc a) [] (suc m) h = refl
    cut_off k (suc a) (x ∷ l) zero h = absurd (omega arith)
    cut_off k (suc a) (x ∷ l) (suc m) h = cut_off k a l m (omega arith)

    empty : (k : ℕ) (l : List ℕ) → k ≡ 0 → take k l ≡ []
    empty k l z = rw z

    forward : (l : List ℕ) → a ≤ e → take (e - a) (drop a l) ≡ take (e - a) (drop a (take n l))
    forward l k = sym (cut_off (e - a) a l n (omega arith))

    backward : (l : List ℕ) → e < a → take (e - a) (drop a l) ≡ take (e - a) (drop a (take n l))
    backward l k = empty (e - a) (drop a l) (omega arith) ∙ sym (empty (e - a) (drop a (take n l)) (omega arith))

    within : (l : List ℕ) → part l a e ≡ take (e - a) (drop a (take n l))
    within l = ⊎_elim (λ k. forward l (leb-true a e k)) (λ k. backward l (leb-false a e k)) (decided (leb a e))

-- what is kept stays where the bytes do
all_same-map : (f g : Row → Kept) (used : ℕ) (rs : List Row) → ((r : Row) → RowWithin used r → f r ≡ g r)
    → All (RowWithin used) rs → map f rs ≡ map g rs
all_same-map f g used [] h all_empty = refl
all_same-map f g used (r ∷ rs) h (all_cons e es) = let x : f r ≡ g r = h r e in let y : map f rs ≡ map g rs = all_same-map f g used rs h es in cc

kept_same : (b c : List ℕ) (used : ℕ) → take used b ≡ take used c → (r : Row) → RowWithin used r → kept_in b r ≡ kept_in c r
unfolding kept_in
kept_same b c used same r w =
    let x : part b r.name r.until ≡ part c r.name r.until = part_front b c used r.name r.until w.until same in
    let y : part b r.text r.end ≡ part c r.text r.end = part_front b c used r.text r.end w.end same in
    cc

wider : (used more : ℕ) → used ≤ more → {rs : List Row} → All (RowWithin used) rs → All (RowWithin more) rs
wider used more h all_empty = all_empty
wider used more h (all_cons {x = r} e es) =
    all_cons {x = r} (record { name = e.name; until = omega (arith, e.until); text = e.text; end = omega (arith, e.end) }) (wider used more h es)

pub keeps_on : {q : Rows} {b : List ℕ} {used : ℕ} {ks : List Kept} (c : List ℕ) (more : ℕ) → Keeps q b used ks → take used c ≡ take used b → used ≤ more → Keeps q c more ks
keeps_on {q} {b} {used} {ks} c more k same h =
    record {
      count = k.count;
      cells = k.cells;
      kept = λ n. all_same-map (kept_in c) (kept_in b) used (take q.count q.rows) (kept_same c b used same) (k.ends n) ∙ k.kept n;
      ends = λ n. wider used more h (k.ends n);
    }

-- ---- the alternatives that are left

keep-step : (f : List Sign → Alternative) (w : List Sign) (value : List ℕ) (next : Option ℕ) (last : Bool) → is_some next ≡ not last
    → keep_pair (f w ∷ map f (cut_from value next)) ≡ record { alternative = f w; last = last } ∷ kept_from f value next
unfolding keep_pair
keep-step f w value None true e = refl
keep-step f w value None false e = absurd (false≢true e)
keep-step f w value (Some i) true e = absurd (false≢true (sym e))
keep-step f w value (Some i) false e = rw (cut_first (signs_from value i))

-- ---- a turn

pub holding_starts : (value : List ℕ) (at name until start : ℕ) (bytes : List ℕ) (entry : Rows) → length value + start ≤ length bytes → name ≤ until → until ≤ start → entry.count + length value < 4000
    → Holding value at name until start bytes entry bytes entry start (Some 0)
holding_starts value at name until start bytes entry r b n f =
    record {
      done = [];
      keeps = λ ks k. subst (Keeps entry bytes start) (sym (append-nil ks)) k;
      whole = refl;
      front = refl;
      lower = omega arith;
      upper = omega arith;
      within = omega arith;
      count = omega arith;
      room = r;
      begins = b;
      named = n;
      few = f;
    }

module _ {value : List ℕ} {at name until start : ℕ} {bytes₀ : List ℕ} {entry : Rows} {bytes : List ℕ} {rows : Rows} {used : ℕ} {next : Option ℕ}
    (h : Holding value at name until start bytes₀ entry bytes rows used next) where
  pub holding_ends : next ≡ None → PairHeld value at name until start bytes₀ entry bytes (record { rows = rows; used = used })
  unfolding keep_pair
  holding_ends e =
      let all : keep_pair (map (alternative at (part bytes₀ name until)) (cut_signs (signs_of false value))) ≡ h.done = h.whole ∙ rw e (append-nil h.done) in
      let upper : used ≤ start + length value = rw e at h.upper in
      let count : rows.count + 0 ≤ entry.count + length value + 1 = rw e at h.count in
      record {
        keeps = λ ks k. subst (λ (l : List Kept). Keeps rows bytes used (ks ++ l)) (sym all) (h.keeps ks k);
        front = h.front;
        lower = h.lower;
        upper = upper;
        count = omega arith;
      }

  module _ (from : ℕ) (e : next ≡ Some from) where
    upper : used ≤ start + from
    upper = rw e at h.upper

    pub holding_within : from ≤ length value
    holding_within = rw e at h.within

    count : rows.count + (length value - from + 1) ≤ entry.count + length value + 1
    count = rw e at h.count

    pub holding_few : rows.count < 4096
    holding_few = omega (arith, count, h.few)

    module _ (long : length bytes ≡ length bytes₀) where
      pub holding_part : used ≤ length bytes
      holding_part = omega (arith, upper, holding_within, h.room, long)

      pub holding_room : length value - from ≤ length (take (length bytes - used) (drop used bytes))
      holding_room = omega (arith, upper, holding_within, h.room, long, length-take-le (length bytes - used) (drop used bytes) (omega (arith, length-drop used bytes)))

      pub holding_end : (out : List ℕ) (piece : Piece) → PieceOf value from out piece → used + piece.len ≤ length bytes
      holding_end out piece p = omega (arith, upper, h.room, long, p.few)

    module _ (out : List ℕ) (piece : Piece) (p : PieceOf value from out piece) where
      next_room : (o : Option ℕ) → ((i : ℕ) → o ≡ Some i → (from + piece.len < i) × (i ≤ length value)) → room_left (length value) o ≤ length value - from
      next_room (Some i) on = let b = on i refl in omega (arith, b.0, b.1)
      next_room None on = omega arith

      pub holding_less : room_left (length value) piece.next < room_left (length value) next
      holding_less = let r = next_room piece.next p.on in rw e (omega arith)

      next_end : (o : Option ℕ) → ((i : ℕ) → o ≡ Some i → (from + piece.len < i) × (i ≤ length value)) → (from + piece.len ≤ unwrap_or o (length value)) × (unwrap_or o (length value) ≤ length value)
      next_end (Some i) on = let b = on i refl in (omega (arith, b.0), b.1)
      next_end None on = (p.few, omega arith)

      module _ (long : length bytes ≡ length bytes₀) (last : Bool) (l : is_some piece.next ≡ not last) where
        abbrev after : List ℕ
        after = take used bytes ++ (out ++ drop (length bytes - used) (drop used bytes))

        abbrev row : Row
        row = record { at = at; name = name; until = until; text = used; end = used + piece.len; split = piece.split; last = last }

        abbrev signs : List Sign
        signs = signs_from value from

        abbrev made : List Sign → Alternative
        made = alternative at (part bytes₀ name until)

        size : length (take used bytes) ≡ used
        size = length-take-le used bytes (holding_part long)

        same_front : take used after ≡ take used bytes
        same_front = ap (λ (n : ℕ). take n after) (sym size) ∙ take-append_seam (take used bytes) (out ++ drop (length bytes - used) (drop used bytes))

        rest_there : drop used after ≡ out ++ drop (length bytes - used) (drop used bytes)
        rest_there = ap (λ (n : ℕ). drop n after) (sym size ∙ plus_zero (length (take used bytes))) ∙ drop-append-add (take used bytes) (out ++ drop (length bytes - used) (drop used bytes)) 0
          where
            plus_zero : (n : ℕ) → n ≡ n + 0
            plus_zero n = omega arith

        text_there : part after used (used + piece.len) ≡ text_of (first_of signs)
        text_there =
            let n : used + piece.len - used ≡ piece.len = omega arith in
            ap (λ (k : ℕ). take k (drop used after)) n ∙ ap (take piece.len) rest_there ∙ take-append-le piece.len out (drop (length bytes - used) (drop used bytes)) p.fits ∙ p.text

        front_there : take start after ≡ take start bytes₀
        front_there = sym (take-take start used after h.lower) ∙ ap (take start) same_front ∙ take-take start used bytes h.lower ∙ h.front

        kept_there : kept_in after row ≡ record { alternative = made (first_of signs); last = last }
        unfolding kept_in
        kept_there =
            let x : part after name until ≡ part bytes₀ name until = part_front after bytes₀ start name until h.named front_there in
            let y : part after used (used + piece.len) ≡ text_of (first_of signs) = text_there in
            let z : piece.split ≡ split_of (first_of signs) = p.splits in
            cc

        left : keep_pair (map made (cut_signs signs)) ≡ kept_in after row ∷ kept_from made value piece.next
        left =
            ap (λ (l : List (List Sign)). keep_pair (map made l)) (cut_first signs)
            ∙ ap (λ (l : List (List Sign)). keep_pair (made (first_of signs) ∷ map made l)) p.rest
            ∙ keep-step made (first_of signs) value piece.next last l
            ∙ ap (λ (k : Kept). k ∷ kept_from made value piece.next) (sym kept_there)

        holding_next : Holding value at name until start bytes₀ entry after (pushed rows row) (used + piece.len) piece.next
        unfolding pushed
        holding_next =
            let ends = next_end piece.next p.on in
            record {
              done = h.done ++ (kept_in after row ∷ []);
              keeps = λ ks k. subst (Keeps (pushed rows row) after (used + piece.len)) (append_assoc ks h.done (kept_in after row ∷ []))
                  (keeps_push row (keeps_on after (used + piece.len) (h.keeps ks k) same_front (omega arith)) (record { name = h.begins; until = omega (arith, h.named, h.lower); text = omega arith; end = omega arith }));
              whole = h.whole ∙ rw e (ap (λ (l : List Kept). h.done ++ l) left) ∙ sym (append_assoc h.done (kept_in after row ∷ []) (kept_from made value piece.next));
              front = front_there;
              lower = omega (arith, h.lower);
              upper = omega (arith, upper, ends.0);
              within = ends.1;
              count = omega (arith, count, next_room piece.next p.on);
              room = h.room;
              begins = h.begins;
              named = h.named;
              few = h.few;
            }

        pub holding_again : (rows' : Rows) → rows' ≡ pushed rows row → Holding value at name until start bytes₀ entry after rows' (used + piece.len) piece.next
        holding_again rows' e = subst (λ (q : Rows). Holding value at name until start bytes₀ entry after q (used + piece.len) piece.next) (sym e) holding_next
