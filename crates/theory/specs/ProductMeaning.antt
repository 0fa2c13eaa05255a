-- The product of two theories: its regions hold one region of each, its cells one cell of each. Assumes nothing.
use Rattle.std.specs.Prelude.{ℕ, ◌&&◌, List, Some, None, Ok, Err, Option, Result}
use Rattle.theory.specs.declared.fault.PatternFault.{PatternFault}
use Rattle.theory.specs.declared.product.Product.{Product}
use Rattle.theory.specs.Meaning.{Meaning}

-- a cell is shown where each side shows one
abbrev pub both : {X Y : Type 0} → Option X → Option Y → Option (X × Y)
both None o = None
both (Some x) None = None
both (Some x) (Some y) = Some (x, y)

module _ {P R C P2 R2 C2 : Type 0} (m : Meaning P R C) (n : Meaning P2 R2 C2) where
  abbrev pub joined : P → Result (P2 × ℕ) PatternFault → Result (Product P P2 × ℕ) PatternFault
  joined p (Ok (q, end)) = Ok (record { left = p; right = q }, end)
  joined p (Err f) = Err f

  -- the right pattern begins where the left one ends
  abbrev pub onward : List ℕ → ℕ → Result (P × ℕ) PatternFault → Result (Product P P2 × ℕ) PatternFault
  onward file depth (Ok (p, middle)) = joined p (n.reads file middle depth)
  onward file depth (Err f) = Err f

  abbrev pub product_meaning : Meaning (Product P P2) (Product R R2) (Product C C2)
  product_meaning = record {
    reads = λ file at depth. onward file depth (m.reads file at depth);
    filled = λ p is. record { left = m.filled p.left is; right = n.filled p.right is };
    Point = m.Point × n.Point;
    point = λ c. (m.point c.left, n.point c.right);
    same = λ x y. m.same x.0 y.0 && n.same x.1 y.1;
    single = λ p. m.single p.left && n.single p.right;
    only = λ p is. (m.only p.left is, n.only p.right is);
    In = λ r x. m.In r.left x.0 × n.In r.right x.1;
    has = λ r x. m.has r.left x.0 && n.has r.right x.1;
    within = λ a b. m.within a.left b.left && n.within a.right b.right;
    shown = λ a b. both (m.shown a.left b.left) (n.shown a.right b.right);
  }
