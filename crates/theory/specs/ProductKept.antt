-- A product keeps its meaning, whatever two theories it is made of. Assumes nothing.
use Rattle.std.specs.Prelude.{◌≡◌, ℕ, ◌<◌, ◌&&◌, List, Some, None, Ok, Err, Option, Result}
use Rattle.std.proofs.Common.{ap, arith}
use Rattle.theory.specs.declared.fault.PatternFault.{PatternFault}
use Rattle.theory.specs.declared.product.Product.{Product}
use Rattle.theory.specs.Meaning.{Meaning, Kept, Inside, Included, Shared, Single}
use Rattle.theory.specs.ProductMeaning.{both, joined, onward, product_meaning}
use Rattle.theory.specs.Telling.{tells_as, tells_both}

module _ {P R C P2 R2 C2 : Type 0} (m : Meaning P R C) (n : Meaning P2 R2 C2) where
  equal : (x y : m.Point × n.Point) → x.0 ≡ y.0 → x.1 ≡ y.1 → x ≡ y
  equal x y p q = λ i. (p i, q i)

  both_shows : (a b : Product R R2) (o : Option m.Point) (u : Option n.Point) → Shared m a.left b.left o → Shared n a.right b.right u →
      Shared (product_meaning m n) a b (both o u)
  both_shows a b None u s t = λ x p q. s x.0 p.0 q.0
  both_shows a b (Some x) None s t = λ z p q. t z.1 p.1 q.1
  both_shows a b (Some x) (Some y) s t = ((s.0, t.0), (s.1, t.1))

  module _ (k : Kept m) (l : Kept n) where
    joined_inside : (file : List ℕ) (at middle : ℕ) (p : P) (r : Result (P2 × ℕ) PatternFault) → at < middle → Inside file middle r → Inside file at (joined m n p r)
    joined_inside file at middle p (Ok (q, end)) h (i, j) = (omega arith, j)
    joined_inside file at middle p (Err f) h i = (i.0, i.1, omega arith, i.3)

    read_inside : (file : List ℕ) (at depth : ℕ) (r : Result (P × ℕ) PatternFault) → Inside file at r → Inside file at (onward m n file depth r)
    read_inside file at depth (Ok (p, middle)) (i, j) = joined_inside file at middle p (n.reads file middle depth) i (l.inside file middle depth j)
    read_inside file at depth (Err f) i = i

    -- the sides of a region that lies within another lie within its sides, since each side has a cell
    sides_included : (a b : Product R R2) → Included (product_meaning m n) a b → Included m a.left b.left × Included n a.right b.right
    sides_included a b h =
        (λ x p. let w = l.some a.right in (h (x, w.0) (p, w.1)).0, λ y q. let w = k.some a.left in (h (w.0, y) (w.1, q)).1)

    -- the sides of a single pattern are single
    left_single : (p : Product P P2) → Single (product_meaning m n) p → Single m p.left
    left_single p s is f =
        let c = s is f in
        (c.0.0, (c.1.0.0, λ x i. ap (λ (z : m.Point × n.Point). z.0) (c.1.1 (x, c.0.1) (i, c.1.0.1))))

    right_single : (p : Product P P2) → Single (product_meaning m n) p → Single n p.right
    right_single p s is f =
        let c = s is f in
        (c.0.1, (c.1.0.1, λ y i. ap (λ (z : m.Point × n.Point). z.1) (c.1.1 (c.0.0, y) (c.1.0.0, i))))

    both_single : (p : Product P P2) → Single m p.left × Single n p.right → Single (product_meaning m n) p
    both_single p (s, t) is f =
        let c = s is f in
        let d = t is f in
        ((c.0, d.0), ((c.1.0, d.1.0), λ y i. equal y (c.0, d.0) (c.1.1 y.0 i.0) (d.1.1 y.1 i.1)))

    pub product_kept : Kept (product_meaning m n)
    product_kept = record {
      inside = λ file at depth h. read_inside file at depth (m.reads file at depth) (k.inside file at depth h);
      alike = λ x y. tells_as (m.same x.0 y.0 && n.same x.1 y.1) ((x.0 ≡ y.0) × (x.1 ≡ y.1)) (x ≡ y)
          (λ (e, f). equal x y e f) (λ e. (ap (λ (z : m.Point × n.Point). z.0) e, ap (λ (z : m.Point × n.Point). z.1) e))
          (tells_both (m.same x.0 y.0) (n.same x.1 y.1) (x.0 ≡ y.0) (x.1 ≡ y.1) (k.alike x.0 y.0) (l.alike x.1 y.1));
      lone = λ p. tells_as (m.single p.left && n.single p.right) (Single m p.left × Single n p.right) (Single (product_meaning m n) p)
          (both_single p) (λ s. (left_single p s, right_single p s))
          (tells_both (m.single p.left) (n.single p.right) (Single m p.left) (Single n p.right) (k.lone p.left) (l.lone p.right));
      named = λ p s is f. (k.named p.left (left_single p s) is f, l.named p.right (right_single p s) is f);
      some = λ r. (((k.some r.left).0, (l.some r.right).0), ((k.some r.left).1, (l.some r.right).1));
      member = λ r x. tells_both (m.has r.left x.0) (n.has r.right x.1) (m.In r.left x.0) (n.In r.right x.1) (k.member r.left x.0) (l.member r.right x.1);
      part = λ a b. tells_as (m.within a.left b.left && n.within a.right b.right) (Included m a.left b.left × Included n a.right b.right) (Included (product_meaning m n) a b)
          (λ (i, j) x p. (i x.0 p.0, j x.1 p.1)) (sides_included a b)
          (tells_both (m.within a.left b.left) (n.within a.right b.right) (Included m a.left b.left) (Included n a.right b.right) (k.part a.left b.left) (l.part a.right b.right));
      shows = λ a b. both_shows a b (m.shown a.left b.left) (n.shown a.right b.right) (k.shows a.left b.left) (l.shows a.right b.right);
    }
