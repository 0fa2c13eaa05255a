-- Membership and inclusion of sections, over plain numbers. Assumes nothing.
--
-- (f, s, n) and (g, r, m)   sections as first, step and count
use Rattle.std.specs.Prelude.{◌≡◌, ℕ, ◌+◌, ◌-◌, ◌*◌, ◌/◌, ◌%◌, ◌<◌, ◌≤◌, refl}
use Rattle.std.proofs.Common.{sym, ◌∙◌, ap, mul-add, mul_assoc, mul-zero, mul-one, mul-le-mul_left, arith}
use Rattle.std.proofs.Math.Nat.{div-add-mod, mul-mod_right, mul-div_cancel', mul-sub, eq_of_mul-eq-mul_left, dvd_of_mod-eq-zero, div-eq_of_eq-mul_right}
use Rattle.sections.specs.Cells.{Among}

-- membership by quotient and remainder
pub in_from : (f s n x : ℕ) → f ≤ x → (x - f) % s ≡ 0 → (x - f) / s < n → Among f s n x
in_from f s n x h e l = ((x - f) / s, (l, omega (arith, div-add-mod (x - f) s)))

pub in_even : (f s n x : ℕ) → Among f s n x → (x - f) % s ≡ 0
in_even f s n x (t, (l, e)) = let d : x - f ≡ s * t = omega arith in rw d (mul-mod_right s t)

pub in_high : (f s n x : ℕ) → 0 < s → Among f s n x → (x - f) / s < n
in_high f s n x p (t, (l, e)) =
    let d : x - f ≡ s * t = omega arith in let q : (x - f) / s ≡ t = div-eq_of_eq-mul_right p d in omega arith

pub first_in : (f s n : ℕ) → 0 < n → Among f s n f
first_in f s n h = (0, (h, omega (arith, mul-zero s)))

pub last_in : (f s n : ℕ) → 0 < n → Among f s n (f + s * (n - 1))
last_in f s n h = (n - 1, (omega arith, refl))

module _ (f s n g r m : ℕ) (pr : 0 < r) where
  -- from both ends and the steps to each cell
  pub every_by_step : s % r ≡ 0 → Among g r m f → Among g r m (f + s * (n - 1)) → (x : ℕ) → Among f s n x → Among g r m x
  every_by_step e (t, (l, a)) (u, (k, b)) x (v, (h, c)) =
      let q = s / r in
      let w : r * q ≡ s = mul-div_cancel' r (dvd_of_mod-eq-zero r e) in
      let at : (y : ℕ) → s * y ≡ r * (q * y) = λ y. ap (λ (z : ℕ). z * y) (sym w) ∙ mul_assoc r q y in
      let top : r * (t + q * (n - 1)) ≡ r * u = omega (arith, mul-add r t (q * (n - 1)), at (n - 1)) in
      let same : t + q * (n - 1) ≡ u = eq_of_mul-eq-mul_left r pr (t + q * (n - 1)) u top in
      let i : v ≤ n - 1 = omega arith in
      let j : q * v ≤ q * (n - 1) = mul-le-mul_left q i in
      (t + q * v, (omega arith, omega (arith, mul-add r t (q * v), at v)))

  pub every_one : n ≡ 1 → Among g r m f → (x : ℕ) → Among f s n x → Among g r m x
  every_one e (t, (l, a)) x (v, (h, c)) =
      let z : v ≡ 0 = omega arith in (t, (l, omega (arith, ap (λ (y : ℕ). s * y) z, mul-zero s)))

  -- from each cell to the steps
  pub step_divides : 1 < n → ((x : ℕ) → Among f s n x → Among g r m x) → s % r ≡ 0
  step_divides h all = go (all f (first_in f s n (omega arith))) (all (f + s * 1) (1, (h, refl)))
    where
      go : Among g r m f → Among g r m (f + s * 1) → s % r ≡ 0
      go (t, (l, a)) (u, (k, b)) =
          let o = mul-one s in let e : s ≡ r * (u - t) = omega (arith, mul-sub r u t) in rw e (mul-mod_right r (u - t))
