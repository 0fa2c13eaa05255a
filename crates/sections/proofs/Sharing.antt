-- The least shared cell, from the least number of steps. Assumes nothing.
--
-- (f, s, n)   a section that begins no later than (g, r, m)
use Rattle.std.specs.Bool.{then_some}
use borrow.Author.Tests.{ltb-false}
use Rattle.std.proofs.Common.{Bool, true, false, ltb, ltb-true, ◌≡◌, ℕ, ◌+◌, ◌-◌, ◌*◌, ◌/◌, ◌<◌, ◌≤◌, Some, None, Option, refl, ap, subst, mul-le-mul_left, arith}
use Prim.Native.Nat.{◌∣◌}
use native.Mathlib.Nat.{dvd-mul_right, mul-div_cancel', le_of_mul-le-mul_left}
use Rattle.euclid.specs.Steps.{Least}
use Rattle.sections.specs.Cells.{Among, LeastBoth}

-- sharing is symmetric, and the least shared cell is one
pub least_swap : (P Q : ℕ → Type 0) (r : Option ℕ) → LeastBoth P Q r → LeastBoth Q P r
least_swap P Q None h = λ x q p. h x p q
least_swap P Q (Some x) (p, (q, l)) = (q, (p, λ y b a. l y a b))

pub least_one : (P Q : ℕ → Type 0) (r q : Option ℕ) → LeastBoth P Q r → LeastBoth P Q q → r ≡ q
least_one P Q None None h k = refl
least_one P Q None (Some x) h (p, (q, l)) = absurd (h x p q)
least_one P Q (Some x) None (p, (q, l)) k = absurd (k x p q)
least_one P Q (Some x) (Some y) (p, (q, l)) (p', (q', l')) =
    let a = l y p' q' in let b = l' x p q in let e : x ≡ y = omega arith in ap (λ (z : ℕ). Some z) e

module _ (f s n g r m : ℕ) (le : f ≤ g) where
  -- the way from f to a shared cell is a multiple of s
  meet : (y t v : ℕ) → y ≡ f + s * t → y ≡ g + r * v → s ∣ g - f + r * v
  meet y t v a b = let e : s * t ≡ g - f + r * v = omega arith in subst (λ (z : ℕ). s ∣ z) e (dvd-mul_right s t)

  -- no number of steps leads to a cell of the first section
  pub none_ever : ((v : ℕ) → s ∣ g - f + r * v → ⊥) → LeastBoth (Among f s n) (Among g r m) None
  none_ever h y (t, (l, a)) (v, (k, b)) = h v (meet y t v a b)

  module _ (u : ℕ) (F : Least s r (g - f) u) where
    -- the second section has ended by then
    pub none_second : m ≤ u → LeastBoth (Among f s n) (Among g r m) None
    none_second h y (t, (l, a)) (v, (k, b)) = let w = F.first v (meet y t v a b) in omega arith

    whole : s * ((g - f + r * u) / s) ≡ g - f + r * u
    whole = mul-div_cancel' s F.meets

    -- the answer once the second section has not ended: none where the first one has
    pub found : 0 < s → u < m → LeastBoth (Among f s n) (Among g r m) (then_some (ltb ((g - f + r * u) / s) n) (f + (g - f + r * u)))
    found p h = go (ltb ((g - f + r * u) / s) n) refl
      where
        go : (t : Bool) → ltb ((g - f + r * u) / s) n ≡ t → LeastBoth (Among f s n) (Among g r m) (then_some t (f + (g - f + r * u)))
        go true e = (
          ((g - f + r * u) / s, (ltb-true _ _ e, omega (arith, whole))),
          (
            (u, (h, omega arith)),
            λ y (t, (l, a)) (v, (i, b)). omega (arith, mul-le-mul_left r (F.first v (meet y t v a b))),
          ),
        )
        go false e = λ y (t, (l, a)) (v, (k, b)).
            let c : s * ((g - f + r * u) / s) ≤ s * t = omega (arith, whole, mul-le-mul_left r (F.first v (meet y t v a b))) in
            let d = le_of_mul-le-mul_left c p in
            let n = ltb-false _ _ e in
            omega arith
