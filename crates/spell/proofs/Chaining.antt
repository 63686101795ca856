-- A filter's loop: the items up to an end are written, and what is left of the chain is joined to them.
-- The invariant `Chained`: the reader goes on from the position reached with the tree so far (`reads`), and that tree's plain spelling is
-- what was written (`puts`). There is room for one item more, since the spelling of the tree with that item joined is never longer than
-- that of the whole (`chain_longer`, by induction on the fuel). A turn writes the connective and the item behind what was written, and that
-- is the spelling of the join (`chained_next`).
-- Assumes nothing.
use Rattle.std.specs.Prelude.{Option, Some, None}
use Prim.Native.Nat.{ℕ, zero, suc, ◌+◌, ◌-◌, ◌≤◌}
use native.Mathlib.Omega.{arith}
use mathlib.Core.Path.{◌≡◌, refl, sym, ap, ◌∙◌}
use mathlib.Core.Bool.{true}
use mathlib.Core.List.{List, [], ◌++◌, append-nil}
use lib.ListN.{length, length-append}
use Rattle.syntax.specs.Tree.{Tree, join}
use Rattle.syntax.specs.Scan.{connective_at}
use Rattle.syntax.specs.declared.Connective.{Connective}
use Rattle.syntax.specs.declared.Link.{Link}
use Rattle.syntax.specs.Reader.{Parsed, parsed, unparsed, and_then, chain_by, chain_of, item_at, filter_at}
use Rattle.syntax.proofs.Complete.{filter_step, chain_step}
use Rattle.syntax.proofs.Places.{connective_ahead}
use Rattle.plain.specs.Plain.{connective_text, is_join, plain, operand}
use Rattle.base.specs.Writing.{Puts}
use Rattle.spell.specs.Walks.{RoomFor, Spelt, joined}
use Rattle.spell.specs.declared.Written.{Written}
use Rattle.plain.proofs.Length.{join-length}
use Rattle.base.proofs.Writing.{puts_same, puts_length, puts_over, puts_stay, lent, back, Wrote, wrote_room, wrote_next, wrote_end}
use Rattle.spell.proofs.Walking.{never, same_tree, item-within}

-- ---- what a chain that was read to its end tells

-- one item more
record Joins (xs : List ℕ) (item : ℕ → Parsed) (k m : ℕ) (a : Connective) (f : Tree) (q : ℕ) (all : Tree) : Type 0 where
  end : ℕ
  tree : Tree
  reads : item m ≡ parsed end tree
  rest : chain_of k xs item end (join a f tree) ≡ parsed q all

then_item : (xs : List ℕ) (item : ℕ → Parsed) (k m : ℕ) (a : Connective) (f : Tree) (q : ℕ) (all : Tree) → and_then (λ e u. chain_of k xs item e u) (join a f) (item m) ≡ parsed q all → Joins xs item k m a f q all
then_item xs item k m a f q all e = go (item m) refl e
  where
    go : (g : Parsed) → item m ≡ g → and_then (λ e u. chain_of k xs item e u) (join a f) g ≡ parsed q all → Joins xs item k m a f q all
    go (parsed n g) r h = record { end = n; tree = g; reads = r; rest = h }
    go unparsed r h = never h

join_longer : (a : Connective) (f g : Tree) → length (plain f) + length (joined a g) ≤ length (plain (join a f g))
unfolding plain joined
join_longer a f g = omega (arith, join-length a (plain f) (operand g), length-append (connective_text a) (operand g))

chain_longer : (k : ℕ) (xs : List ℕ) (item : ℕ → Parsed) (p q : ℕ) (f all : Tree) → chain_of k xs item p f ≡ parsed q all → length (plain f) ≤ length (plain all)
unfolding chain_of
chain_longer zero xs item p q f all e = never e
chain_longer (suc k) xs item p q f all e = go (λ n u. chain_longer k xs item n q u all) (connective_at xs p) e
  where
    go : ((n : ℕ) (u : Tree) → chain_of k xs item n u ≡ parsed q all → length (plain u) ≤ length (plain all)) → (c : Option Link) → chain_by p f item (λ e u. chain_of k xs item e u) c ≡ parsed q all → length (plain f) ≤ length (plain all)
    go on (Some l) h =
        let j = then_item xs item k l.next l.connective f q all h in
        let i = on j.end (join l.connective f j.tree) j.rest in
        omega (arith, join_longer l.connective f j.tree)
    go on None h = let s : f ≡ all = same_tree h in omega (arith, ap (λ (x : Tree). length (plain x)) s)

-- ---- the loop

module _ (d : ℕ) (xs : List ℕ) (close p : ℕ) where
  abbrev item : ℕ → Parsed
  item k = item_at d xs close k

  -- the items before w.end are written, and make the tree
  pub record Chained (entry out : List ℕ) (w : Written) : Type 0 where
    pub room : RoomFor plain (filter_at d xs close p) entry
    pub left : ℕ
    pub tree : Tree
    pub reads : filter_at d xs close p ≡ chain_of left xs item w.end tree
    pub enough : length xs - w.end + 1 ≤ left
    pub from : p + 1 ≤ w.end
    pub within : w.end ≤ length xs
    pub puts : Puts (plain tree) entry out w.length
    pub long : length out ≡ length entry
    pub join : w.join ≡ is_join tree

  record FirstItem (q : ℕ) (all : Tree) : Type 0 where
    end : ℕ
    tree : Tree
    reads : item p ≡ parsed end tree
    rest : chain_of (length xs) xs item end tree ≡ parsed q all

  first-item : (q : ℕ) (all : Tree) → filter_at d xs close p ≡ parsed q all → FirstItem q all
  first-item q all e = go (item p) refl (sym (filter_step d xs close p) ∙ e)
    where
      go : (g : Parsed) → item p ≡ g → and_then (λ n u. chain_of (length xs) xs item n u) (λ u. u) g ≡ parsed q all → FirstItem q all
      go (parsed n g) r h = record { end = n; tree = g; reads = r; rest = h }
      go unparsed r h = never h

  module _ {out : List ℕ} (r : RoomFor plain (filter_at d xs close p) out) where
    pub chained_item : RoomFor plain (item_at d xs close p) out
    chained_item =
        let i = first-item r.end r.tree r.reads in
        let l = chain_longer (length xs) xs item i.end r.end i.tree r.tree i.rest in
        record { end = i.end; tree = i.tree; reads = i.reads; room = record { fits = omega (arith, r.room.fits) } }

    module _ {exit : List ℕ} {w : Written} (s : Spelt plain (item_at d xs close p) out exit w) where
      short : length (plain s.tree) ≤ length (plain r.tree)
      short =
          let i = first-item r.end r.tree r.reads in
          let t : s.tree ≡ i.tree = same_tree (sym s.reads ∙ i.reads) in
          omega (arith, ap (λ (x : Tree). length (plain x)) t, chain_longer (length xs) xs item i.end r.end i.tree r.tree i.rest)

      kept : length exit ≡ length out
      kept = puts_length s.puts (omega (arith, s.puts.long, short, r.room.fits))

      pub chained_starts : Chained exit exit w
      chained_starts =
          let u = item-within d xs close p s in
          record {
            room = record { end = r.end; tree = r.tree; reads = r.reads; room = record { fits = omega (arith, kept, r.room.fits) } };
            left = length xs;
            tree = s.tree;
            reads = rw (filter_step d xs close p, s.reads);
            enough = omega arith;
            from = u.0;
            within = u.1;
            puts = puts_stay s.puts;
            long = refl;
            join = s.join;
          }

      -- what is written over the first item is written over the buffer that was lent
      pub chained_over : {last : List ℕ} {v : Written} → Spelt plain (filter_at d xs close p) exit last v → Spelt plain (filter_at d xs close p) out last v
      chained_over {last} {v} t =
          let same : r.tree ≡ t.tree = same_tree (sym r.reads ∙ t.reads) in
          record {
            tree = t.tree;
            reads = t.reads;
            puts = puts_over s.puts (omega (arith, short, ap (λ (x : Tree). length (plain x)) same)) t.puts;
            join = t.join;
          }

  module _ {entry out : List ℕ} {w : Written} (h : Chained entry out w) where
    step : chain_of h.left xs item w.end h.tree ≡ chain_by w.end h.tree item (λ n u. chain_of (h.left - 1) xs item n u) (connective_at xs w.end)
    step = chain_step h.left xs item w.end h.tree (omega (arith, h.enough))

    whole : chain_of h.left xs item w.end h.tree ≡ parsed h.room.end h.room.tree
    whole = sym h.reads ∙ h.room.reads

    pub chained_within : w.length ≤ length out
    chained_within = omega (arith, h.long, h.puts.long, h.room.room.fits, chain_longer h.left xs item w.end h.room.end h.tree h.room.tree whole)

    module _ (c : Option Link) (e : c ≡ connective_at xs w.end) where
      pub chained_ends : c ≡ None → Spelt plain (filter_at d xs close p) entry out w
      chained_ends z =
          record {
            tree = h.tree;
            reads = h.reads ∙ step ∙ ap (chain_by w.end h.tree item (λ n u. chain_of (h.left - 1) xs item n u)) (sym e ∙ z);
            puts = h.puts;
            join = h.join;
          }

      module _ (l : Link) (n : c ≡ Some l) where
        next : Joins xs item (h.left - 1) l.next l.connective h.tree h.room.end h.room.tree
        next =
            then_item xs item (h.left - 1) l.next l.connective h.tree h.room.end h.room.tree
            (ap (chain_by w.end h.tree item (λ n u. chain_of (h.left - 1) xs item n u)) (sym n ∙ e) ∙ sym step ∙ whole)

        fits : length (plain h.tree) + length (joined l.connective next.tree) ≤ length entry
        fits =
            omega (
              arith,
              join_longer l.connective h.tree next.tree,
              h.room.room.fits,
              chain_longer (h.left - 1) xs item next.end h.room.end (join l.connective h.tree next.tree) h.room.tree next.rest,
            )

        wrote : Wrote (plain h.tree ++ joined l.connective next.tree) (joined l.connective next.tree) entry out w.length
        wrote = record { done = plain h.tree; whole = refl; puts = h.puts; long = h.long; within = omega (arith, fits, h.puts.long, h.long) }

        pub chained_room : RoomFor (joined l.connective) (item_at d xs close l.next) (lent out w.length)
        chained_room = record { end = next.end; tree = next.tree; reads = next.reads; room = wrote_room wrote (joined l.connective next.tree) [] (sym (append-nil (joined l.connective next.tree))) }

        module _ {exit : List ℕ} {v : Written} (s : Spelt (joined l.connective) (item_at d xs close l.next) (lent out w.length) exit v) where
          same : next.tree ≡ s.tree
          same = same_tree (sym next.reads ∙ s.reads)

          wrote_more : Wrote (plain h.tree ++ joined l.connective next.tree) [] entry (back out w.length exit) (w.length + v.length)
          wrote_more = wrote_next wrote (joined l.connective next.tree) [] (sym (append-nil (joined l.connective next.tree))) (puts_same (ap (joined l.connective) (sym same)) s.puts)

          pub chained_fits : w.length + v.length ≤ length out
          chained_fits = omega (arith, wrote_more.within, wrote_more.long, h.long)

          pub chained_ahead : (w.end + 1 ≤ v.end) × (v.end ≤ length xs)
          chained_ahead = let y = connective_ahead xs w.end l c e n in let u = item-within d xs close l.next s in (omega arith, u.1)

          pub chained_next : Chained entry (back out w.length exit) (record { end = v.end; length = w.length + v.length; join = true })
          unfolding plain joined
          chained_next =
              record {
                room = h.room;
                left = h.left - 1;
                tree = join l.connective h.tree s.tree;
                reads = h.reads ∙ step ∙ ap (chain_by w.end h.tree item (λ n u. chain_of (h.left - 1) xs item n u)) (sym e ∙ n) ∙ ap (and_then (λ n u. chain_of (h.left - 1) xs item n u) (join l.connective h.tree)) s.reads;
                enough = omega (arith, h.enough, chained_ahead);
                from = omega (arith, h.from, chained_ahead);
                within = chained_ahead.1;
                puts = puts_same (ap (λ (x : Tree). plain h.tree ++ joined l.connective x) same) (wrote_end wrote_more refl);
                long = wrote_more.long;
                join = refl;
              }
