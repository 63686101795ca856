-- A block is written and read back, and read and written back: a first byte, a head, the number of items, the items, zeros and the check sum.
-- Written and read back is by induction on the list of items (`items-written`): where the first item stands, the block has its bytes and
-- then those of the others, so its tag, mark and text are found and the reader goes on behind them. Read and written back is by induction
-- on the number of items (`items-read`): the part up to byte 508 is the bytes of the items that are read there and then zeros, since the
-- layout has each item end before byte 508 and zeros behind the last. `held` and `written` put the first byte, the head, the number of
-- items and the check sum around that.
-- Assumes nothing.
use Prim.Native.Nat.{ℕ, zero, suc, ◌+◌, ◌-◌, ◌≤◌, ◌<◌}
use native.Mathlib.Omega.{arith}
use mathlib.Core.Path.{◌≡◌, refl, ap, ap₂, sym, ◌∙◌, subst}
use mathlib.Core.Bool.{Bool, true, false, cond}
use mathlib.Core.List.{List, [], ◌∷◌, ◌++◌, append_assoc}
use lib.Dec.{leb, eqb}
use lib.ListN.{length, get_or, take, drop, replicate, length-append, length-replicate}
use lib.Seq.{drop-drop, take_at, drop_at, length-take-le}
use borrow.Author.Tests.{le-leb, leb-true, eqb-true}
use Rattle.base.specs.Bytes.{Byte, Bytes}
use Rattle.base.specs.Lists.{All, all_empty, all_cons, every}
use Rattle.base.specs.Parts.{part}
use Rattle.base.proofs.Tests.{and_left, and_right}
use Rattle.base.proofs.All.{all_append}
use Rattle.base.proofs.Parts.{drop-at-index, drop-first, part_length, part_cons, part-append, part_bytes}
use Rattle.base.specs.Parts.{padded}
use Rattle.block.specs.Words.{word_bytes}
use Rattle.block.specs.Sum.{sum_from}
use Rattle.block.specs.Seal.{seal}
use Rattle.block.specs.Items.{zeros, has_marks, head_size, length_at, next, mark_at, text_at, laid_out, has_layout, items, marks, join}
use Rattle.block.proofs.Contents.{Held, Written}
use Rattle.block.proofs.Seal.{after, seal-body, seal-bytes, seal_sealed, sealed_seal}
use Rattle.block.proofs.Items.{layout_items_decide, layout_first, layout_count, layout_items, items-length}

-- the bytes of one item after the other are bytes
join-bytes : {X : Type 0} (bytes_of : X → List ℕ) {xs : List X} → All (λ (x : X). Bytes (bytes_of x)) xs → Bytes (join bytes_of xs)
unfolding join
join-bytes bytes_of all_empty = all_empty
join-bytes bytes_of (all_cons h t) = all_append Byte h (join-bytes bytes_of t)

-- ---- zeros

zeros-replicate : (n : ℕ) → zeros (replicate n 0) ≡ true
unfolding zeros every
zeros-replicate zero = refl
zeros-replicate (suc n) = zeros-replicate n

zeros_are : (s : List ℕ) → zeros s ≡ true → s ≡ replicate (length s) 0
unfolding zeros every
zeros_are [] h = refl
zeros_are (x ∷ s) h =
    ap₂ (λ (y : ℕ) (t : List ℕ). y ∷ t) (eqb-true x 0 (and_left (eqb x 0) (zeros s) h)) (zeros_are s (and_right (eqb x 0) (zeros s) h))

-- the padding of a seal
after-zeros : (body : List ℕ) → zeros (take (508 - length body) (after body)) ≡ true
after-zeros body =
    let n = 508 - length body in
    ap zeros (take_at (replicate n 0) (word_bytes (sum_from 1 (padded 508 body))) n (length-replicate n 0)) ∙ zeros-replicate n

-- ---- an item that was written

length_found : (b : List ℕ) (w : Bool) → has_marks (get_or b 0 0) ≡ w → (p : ℕ) → length_at b p ≡ p + head_size w
unfolding length_at
length_found b w k p = rw k

module _ (b : List ℕ) (w : Bool) (k : has_marks (get_or b 0 0) ≡ w) (p t m : ℕ) (s r : List ℕ) (e : drop p b ≡ t ∷ (marks w m ++ (length s ∷ (s ++ r)))) where
  item_tag : get_or b p 0 ≡ t
  item_tag = drop-first b p (t ∷ (marks w m ++ (length s ∷ (s ++ r)))) e

  item-mark : (w ≡ false → m ≡ 0) → mark_at b p ≡ m
  unfolding mark_at
  item-mark z = go w k e z
    where
      go : (w : Bool) → has_marks (get_or b 0 0) ≡ w → drop p b ≡ t ∷ (marks w m ++ (length s ∷ (s ++ r))) → (w ≡ false → m ≡ 0) → cond (has_marks (get_or b 0 0)) (get_or b (p + 1) 0) 0 ≡ m
      go true k e z = rw k (drop-at-index b p (t ∷ m ∷ length s ∷ (s ++ r)) e 1)
      go false k e z = rw k (sym (z refl))

  item-length : get_or b (p + head_size w) 0 ≡ length s
  item-length = go w e
    where
      go : (w : Bool) → drop p b ≡ t ∷ (marks w m ++ (length s ∷ (s ++ r))) → get_or b (p + head_size w) 0 ≡ length s
      go true e = drop-at-index b p (t ∷ m ∷ length s ∷ (s ++ r)) e 2
      go false e = drop-at-index b p (t ∷ length s ∷ (s ++ r)) e 1

  item-next : next b p ≡ p + head_size w + 1 + length s
  unfolding next
  item-next = rw (length_found b w k p) (ap (λ (n : ℕ). p + head_size w + 1 + n) item-length)

  item_from : drop (p + head_size w + 1) b ≡ s ++ r
  item_from = go w e
    where
      go : (w : Bool) → drop p b ≡ t ∷ (marks w m ++ (length s ∷ (s ++ r))) → drop (p + head_size w + 1) b ≡ s ++ r
      go true e = let z : p + 2 + 1 ≡ p + 3 = omega arith in ap (λ (n : ℕ). drop n b) z ∙ sym (drop-drop 3 p b) ∙ ap (drop 3) e
      go false e = let z : p + 1 + 1 ≡ p + 2 = omega arith in ap (λ (n : ℕ). drop n b) z ∙ sym (drop-drop 2 p b) ∙ ap (drop 2) e

  item_text : text_at b p ≡ s
  unfolding text_at
  item_text =
      let n : next b p - (p + head_size w + 1) ≡ length s = omega (arith, item-next) in
      rw (length_found b w k p) (ap₂ take n item_from ∙ take_at s r (length s) refl)

  item_rest : drop (next b p) b ≡ r
  item_rest = ap (λ (n : ℕ). drop n b) item-next ∙ sym (drop-drop (length s) (p + head_size w + 1) b) ∙ ap (drop (length s)) item_from ∙ drop_at s r (length s) refl

marks-length : (w : Bool) (m : ℕ) (l : List ℕ) → suc (length (marks w m ++ l)) ≡ head_size w + length l
marks-length true m l = omega arith
marks-length false m l = omega arith

module _ {X : Type 0} (make : ℕ → ℕ → List ℕ → X) (w : Bool) (bytes_of : X → List ℕ) (spelt : (t m : ℕ) (s : List ℕ) → bytes_of (make t m s) ≡ t ∷ (marks w m ++ (length s ∷ s))) where
  -- ---- written and read back

  module _ (parts : (x : X) → (t m : ℕ) × (s : List ℕ) × (x ≡ make t m s)) where
    -- in a block without marks an item's mark is 0
    abbrev pub Unmarked : X → Type 0
    Unmarked x = w ≡ false → (parts x).1 ≡ 0

    join_first : (x : X) (xs : List X) (r : List ℕ)
        → join bytes_of (x ∷ xs) ++ r ≡ (parts x).0 ∷ (marks w (parts x).1 ++ (length (parts x).2 ∷ ((parts x).2 ++ (join bytes_of xs ++ r))))
    unfolding join
    join_first x xs r =
        append_assoc (bytes_of x) (join bytes_of xs) r
        ∙ ap (λ (l : List ℕ). l ++ (join bytes_of xs ++ r)) (ap bytes_of (parts x).3 ∙ spelt (parts x).0 (parts x).1 (parts x).2)
        ∙ ap (λ (l : List ℕ). (parts x).0 ∷ l) (append_assoc (marks w (parts x).1) (length (parts x).2 ∷ (parts x).2) (join bytes_of xs ++ r))

    join-length : (x : X) (xs : List X) → length (join bytes_of (x ∷ xs)) ≡ head_size w + 1 + length (parts x).2 + length (join bytes_of xs)
    unfolding join
    join-length x xs =
        let item : length (bytes_of x) ≡ head_size w + suc (length (parts x).2) =
        ap length (ap bytes_of (parts x).3 ∙ spelt (parts x).0 (parts x).1 (parts x).2) ∙ marks-length w (parts x).1 (length (parts x).2 ∷ (parts x).2) in
        omega (arith, length-append (bytes_of x) (join bytes_of xs))

    items-written : (xs : List X) (b : List ℕ) → has_marks (get_or b 0 0) ≡ w → All Unmarked xs → (p : ℕ) (r : List ℕ) (end : ℕ) → drop p b ≡ join bytes_of xs ++ r → p + length (join bytes_of xs) ≡ end → end ≤ 508
        → zeros (take (508 - end) r) ≡ true → (laid_out (length xs) b p ≡ true) × (items make (length xs) b p ≡ xs)
    unfolding laid_out items join
    items-written [] b k u p r end e l h z =
        let n : 508 - p ≡ 508 - end = omega arith in
        (ap₂ (λ (k : ℕ) (t : List ℕ). zeros (take k t)) n e ∙ z, refl)
    items-written (x ∷ xs) b k (all_cons u us) p r end e l h z =
        let t = (parts x).0 in
        let m = (parts x).1 in
        let s = (parts x).2 in
        let rest = join bytes_of xs ++ r in
        let first : drop p b ≡ t ∷ (marks w m ++ (length s ∷ (s ++ rest))) = e ∙ join_first x xs r in
        let at : next b p ≡ p + head_size w + 1 + length s = item-next b w k p t m s rest first in
        let size = join-length x xs in
        let within : next b p ≤ 508 = omega arith in
        let back = items-written xs b k us (next b p) r end (item_rest b w k p t m s rest first) (omega arith) h z in
        let same : make (get_or b p 0) (mark_at b p) (text_at b p) ≡ make t m s = rw (item_tag b w k p t m s rest first, item-mark b w k p t m s rest first u, item_text b w k p t m s rest first) in (
          rw (le-leb (next b p) 508 within) back.0,
          ap₂ (λ (y : X) (ys : List X). y ∷ ys) (same ∙ sym (parts x).3) back.1,
        )

    -- what is held by the block of a first byte, a head, the number of items and the items
    module _ (first : ℕ) (head : List ℕ) (xs : List X) (most : ℕ) where
      abbrev body : List ℕ
      body = first ∷ (head ++ (length xs ∷ join bytes_of xs))

      abbrev at : ℕ
      at = length (first ∷ head)

      from_count : drop at (seal body) ≡ length xs ∷ (join bytes_of xs ++ after body)
      from_count =
          ap (drop at) (seal-body body ∙ append_assoc (first ∷ head) (length xs ∷ join bytes_of xs) (after body))
          ∙ drop_at (first ∷ head) (length xs ∷ (join bytes_of xs ++ after body)) at refl

      count : get_or (seal body) at 0 ≡ length xs
      count = drop-first (seal body) at (length xs ∷ (join bytes_of xs ++ after body)) from_count

      starts : get_or (seal body) 0 0 ≡ first
      starts = ap (λ (l : List ℕ). get_or l 0 0) (seal-body body)

      module _ (room : length body ≤ 508) (k : has_marks first ≡ w) (u : All Unmarked xs) where
        back : (laid_out (length xs) (seal body) (at + 1) ≡ true) × (items make (length xs) (seal body) (at + 1) ≡ xs)
        back =
            let end = length body in
            let size : at + 1 + length (join bytes_of xs) ≡ end = omega (arith, length-append head (length xs ∷ join bytes_of xs)) in
            items-written xs (seal body) (ap has_marks starts ∙ k) u (at + 1) (after body) end (sym (drop-drop 1 at (seal body)) ∙ ap (drop 1) from_count) size room (after-zeros body)

        layout : length xs ≤ most → has_layout first at most (seal body) ≡ true
        layout few =
            let b = seal body in
            let laid : laid_out (get_or b at 0) b (at + 1) ≡ true = ap (λ (k : ℕ). laid_out k b (at + 1)) count ∙ back.0 in
            sym (layout_items_decide b first at most starts (omega (arith, count))) ∙ laid

      pub held : most < 256 → Byte first → has_marks first ≡ w → All Unmarked xs → Bytes head → Written bytes_of most body (seal body) xs → Held make first at most (seal body) xs
      held small f k u h v =
          let n : Byte (length xs) = omega (arith, v.few) in
          let bytes : Bytes body = all_cons f (all_append Byte h (all_cons n (join-bytes bytes_of v.each))) in
          record {
            bytes = seal-bytes body v.room bytes;
            sealed = seal_sealed body v.room bytes;
            layout = layout v.room k u v.few;
            same = ap (λ (k : ℕ). items make k (seal body) (at + 1)) count ∙ (back v.room k u).1;
          }

  -- ---- read and written back

  module _ (b : List ℕ) (size : 508 ≤ length b) (marked : has_marks (get_or b 0 0) ≡ w) where
    next_is : (p : ℕ) → next b p ≡ length_at b p + 1 + get_or b (length_at b p) 0
    unfolding next
    next_is p = refl

    text_length : (p : ℕ) → next b p ≤ 508 → length (text_at b p) ≡ get_or b (length_at b p) 0
    unfolding text_at
    text_length p h = part_length b (length_at b p + 1) (next b p) (omega arith) ∙ omega (arith, next_is p)

    text_part : (p : ℕ) → next b p ≤ 508 → part b (length_at b p) (next b p) ≡ length (text_at b p) ∷ text_at b p
    unfolding text_at
    text_part p h =
        part_cons b (length_at b p) (next b p) (omega (arith, next_is p)) (omega arith) ∙ ap (λ (k : ℕ). k ∷ part b (length_at b p + 1) (next b p)) (sym (text_length p h))

    -- the bytes of the item at p
    item-bytes : (p : ℕ) → next b p ≤ 508 → bytes_of (make (get_or b p 0) (mark_at b p) (text_at b p)) ≡ part b p (next b p)
    unfolding mark_at
    item-bytes p h =
        let from : length_at b p ≡ p + head_size w = length_found b w marked p in
        let end = next_is p in
        let text = text_part p h in
        spelt (get_or b p 0) (mark_at b p) (text_at b p) ∙ ap (λ (l : List ℕ). get_or b p 0 ∷ (marks w (mark_at b p) ++ l)) (sym text) ∙ sym (part_cons b p (next b p) (omega arith) (omega arith) ∙ ap (λ (l : List ℕ). get_or b p 0 ∷ l) (go w marked from (omega arith)))
      where
        go : (w : Bool) → has_marks (get_or b 0 0) ≡ w → length_at b p ≡ p + head_size w → length_at b p < next b p → part b (p + 1) (next b p) ≡ marks w (mark_at b p) ++ part b (length_at b p) (next b p)
        go true k e l = rw (k, e) (part_cons b (p + 1) (next b p) (omega arith) (omega arith) ∙ ap (λ (j : ℕ). get_or b (p + 1) 0 ∷ part b j (next b p)) (let z : p + 1 + 1 ≡ p + 2 = omega arith in z))
        go false k e l = rw e

    items-read : (k p : ℕ) → p ≤ 508 → laid_out k b p ≡ true → (n : ℕ) × (part b p 508 ≡ join bytes_of (items make k b p) ++ replicate n 0)
    unfolding laid_out items join
    items-read zero p h l = (length (part b p 508), zeros_are (part b p 508) l)
    items-read (suc k) p h l =
        let within : next b p ≤ 508 = leb-true (next b p) 508 (and_left (leb (next b p) 508) (laid_out k b (next b p)) l) in
        let up : p ≤ next b p = unfold next length_at in omega arith in
        let x = make (get_or b p 0) (mark_at b p) (text_at b p) in
        let xs = items make k b (next b p) in
        let back = items-read k (next b p) within (and_right (leb (next b p) 508) (laid_out k b (next b p)) l) in (
          back.0,
          sym (part-append b p (next b p) 508 up within)
              ∙ ap₂ (λ (s t : List ℕ). s ++ t) (sym (item-bytes p within)) back.1
              ∙ sym (append_assoc (bytes_of x) (join bytes_of xs) (replicate back.0 0)),
        )

    items-bytes : Bytes b → (k p : ℕ) → laid_out k b p ≡ true → All (λ (x : X). Bytes (bytes_of x)) (items make k b p)
    unfolding laid_out items
    items-bytes h zero p l = all_empty
    items-bytes h (suc k) p l =
        let within : next b p ≤ 508 = leb-true (next b p) 508 (and_left (leb (next b p) 508) (laid_out k b (next b p)) l) in
        all_cons (subst Bytes (sym (item-bytes p within)) (part_bytes b p (next b p) h))
        (items-bytes h k (next b p) (and_right (leb (next b p) 508) (laid_out k b (next b p)) l))

    -- in a block without marks each item is made with the mark 0
    items_unmarked : w ≡ false → (P : X → Type 0) → ((t : ℕ) (s : List ℕ) → P (make t 0 s)) → (k p : ℕ) → All P (items make k b p)
    unfolding items mark_at
    items_unmarked f P h zero p = all_empty
    items_unmarked f P h (suc k) p =
        let zero-mark : mark_at b p ≡ 0 = rw (marked ∙ f) in
        all_cons (subst (λ (m : ℕ). P (make (get_or b p 0) m (text_at b p))) (sym zero-mark) (h (get_or b p 0) (text_at b p))) (items_unmarked f P h k (next b p))

  -- how a block is written that holds items behind the byte at `at`
  module _ (b : List ℕ) (first at most : ℕ) (xs : List X) (above : 0 < at) (inside : at < 508) (k : has_marks first ≡ w) (h : Held make first at most b xs) where
    held_length : length xs ≡ get_or b at 0
    held_length = ap length (sym h.same) ∙ items-length make (get_or b at 0) b (at + 1)

    long : 508 ≤ length b
    long = omega (arith, h.sealed.size)

    marked : has_marks (get_or b 0 0) ≡ w
    marked = ap has_marks (layout_first b first at most h.layout) ∙ k

    laid : laid_out (get_or b at 0) b (at + 1) ≡ true
    laid = layout_items b first at most h.layout

    abbrev held_body : List ℕ
    held_body = first ∷ (part b 1 at ++ (length xs ∷ join bytes_of xs))

    back_from : (m : ℕ) × (part b (at + 1) 508 ≡ join bytes_of xs ++ replicate m 0)
    back_from =
        let r = items-read b long marked (get_or b at 0) (at + 1) (omega arith) laid in
        (r.0, r.1 ∙ ap (λ (l : List X). join bytes_of l ++ replicate r.0 0) h.same)

    front : take 508 b ≡ held_body ++ replicate back_from.0 0
    front =
        part_cons b 0 508 (omega arith) long
        ∙ ap₂ (λ (x : ℕ) (t : List ℕ). x ∷ t) (layout_first b first at most h.layout)
        (sym (part-append b 1 at 508 (omega arith) (omega arith))
        ∙ ap (λ (t : List ℕ). part b 1 at ++ t) (part_cons b at 508 inside long ∙ ap₂ (λ (k : ℕ) (t : List ℕ). k ∷ t) (sym held_length) back_from.1)
        ∙ sym (append_assoc (part b 1 at) (length xs ∷ join bytes_of xs) (replicate back_from.0 0)))

    size : length held_body + back_from.0 ≡ 508
    size =
        sym (length-append held_body (replicate back_from.0 0) ∙ ap (λ (k : ℕ). length held_body + k) (length-replicate back_from.0 0))
        ∙ sym (ap length front)
        ∙ length-take-le 508 b long

    pub unmarked : w ≡ false → (P : X → Type 0) → ((t : ℕ) (s : List ℕ) → P (make t 0 s)) → All P xs
    unmarked f P p = subst (All P) h.same (items_unmarked b long marked f P p (get_or b at 0) (at + 1))

    pub written : Written bytes_of most held_body b xs
    unfolding padded
    written =
        let m : back_from.0 ≡ 508 - length held_body = omega (arith, size) in
        record {
          few = omega (arith, held_length, layout_count b first at most h.layout);
          each = subst (λ (l : List X). All (λ (x : X). Bytes (bytes_of x)) l) h.same (items-bytes b long marked h.bytes (get_or b at 0) (at + 1) laid);
          room = omega (arith, size);
          same = sealed_seal b h.bytes h.sealed held_body (front ∙ ap (λ (k : ℕ). held_body ++ replicate k 0) m);
        }
