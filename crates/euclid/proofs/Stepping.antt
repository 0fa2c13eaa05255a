-- The least number of steps to a multiple, by Euclid's rule on modulus and step. Assumes nothing.
--
-- m   the modulus      a   the step      d   the start
use Rattle.std.proofs.Common.{◌≡◌, ℕ, zero, suc, ◌+◌, ◌-◌, ◌*◌, ◌/◌, ◌%◌, ◌<◌, ◌≤◌, ◌↔◌, refl, add-zero, ap, subst, mul_assoc, add-mul, mul-le-mul_left, mul-zero, mul-suc, mul-add, arith}
use Rattle.std.proofs.Common.{Option, Some, None, nat_eq, eq-eqb}
use Rattle.std.specs.Option.{is_some, IfSome}
use Prim.Native.Nat.{◌∣◌}
use native.Mathlib.Nat.{div-add-mod, dvd-add_iff_left, dvd-mul_right, dvd_trans, zero-dvd, zero-mod, dvd-sub, dvd-mod_iff, mod-eq-zero_of_dvd, dvd_of_mod-eq-zero, mul-div_cancel', lt_of_mul-lt-mul_left, le_of_mul-le-mul_left}
use Rattle.std.specs.Int.{IsGcd}
use Rattle.euclid.specs.Divisor.{euclid}
use Rattle.euclid.specs.Steps.{Fewest, Least}
use Rattle.euclid.proofs.Rule.{at_zero, at_rest, euclid_greatest}

-- where the divisor of m and a divides d and m does not, the step is not 0
pub moves : (m a d : ℕ) → euclid m a ∣ d → (d % m ≡ 0 → ⊥) → 0 < a
moves m zero d g n = absurd (n (mod-eq-zero_of_dvd m (rw (← at_zero m 0 refl) at g)))
moves m (suc a) d g n = omega arith

-- the divisor of the next pair divides what is lacking
pub still_meets : (m a d : ℕ) → 0 < a → euclid m a ∣ d → euclid a (m % a) ∣ m - d % m
still_meets m a d p g =
    let G = euclid_greatest m a in
    rw (at_rest m a (λ e. omega arith)) (dvd-sub (euclid m a) G.0 ((dvd-mod_iff (euclid m a) G.0).1 g))

-- where the greatest common divisor does not divide the start, no number of steps will do
pub never : (m a d g : ℕ) → IsGcd m a g → (d % g ≡ 0 → ⊥) → (k : ℕ) → m ∣ d + a * k → ⊥
never m a d g G nay k h =
    nay (mod-eq-zero_of_dvd g ((dvd-add_iff_left g (dvd_trans g G.1 (dvd-mul_right a k))).1 (dvd_trans g G.0 h)))

pub no_steps : (m a d : ℕ) → d % m ≡ 0 → Least m a d 0
no_steps m a d e = record { meets = rw (mul-zero a, add-zero d) (dvd_of_mod-eq-zero m e); first = λ v h. omega arith }

-- a factor may be reduced by the number that has to divide
reduced : (a m e k : ℕ) → (a ∣ e + m % a * k) ↔ (a ∣ e + m * k)
reduced a m e k =
    let q : e + m % a * k + a * (m / a * k) ≡ e + m * k =
    omega (arith, ap (λ (x : ℕ). x * k) (div-add-mod m a), add-mul (a * (m / a)) (m % a) k, mul_assoc a (m / a) k) in
    subst (λ (x : ℕ). (a ∣ e + m % a * k) ↔ (a ∣ x)) q (dvd-add_iff_left a (dvd-mul_right a (m / a * k)))

-- from the answer k for the pair (a, m mod a) to that for (m, a)
module _ (m a d k : ℕ) (pm : 0 < m) (pa : 0 < a) (n : d % m ≡ 0 → ⊥) (f : Least a (m % a) (m - d % m) k) where
  abbrev rise : ℕ
  rise = m - d % m + m * k

  whole : a * (rise / a) ≡ rise
  whole = mul-div_cancel' a ((reduced a m (m - d % m) k).0 f.meets)

  reached : m ∣ d + a * (rise / a)
  reached =
      let e : m * (d / m + suc k) ≡ d + a * (rise / a) =
      omega (arith, whole, mul-add m (d / m) (suc k), mul-suc m k) in
      rw (← e) (dvd-mul_right m (d / m + suc k))

  none_before : (v : ℕ) → m ∣ d + a * v → rise / a ≤ v
  none_before v h =
      let q = (d + a * v) / m in
      let D = d / m in
      let e : m * q ≡ d + a * v = mul-div_cancel' m h in
      let c : D < q = lt_of_mul-lt-mul_left m (omega arith) in
      let j = q - suc D in
      let t : q ≡ D + suc j = omega arith in
      let u : m - d % m + m * j ≡ a * v = omega (arith, ap (λ (x : ℕ). m * x) t, mul-add m D (suc j), mul-suc m j) in
      let y : a ∣ m - d % m + m * j = rw u (dvd-mul_right a v) in
      let w : k ≤ j = f.first j ((reduced a m (m - d % m) j).1 y) in
      le_of_mul-le-mul_left (omega (arith, whole, mul-le-mul_left m w)) pa

  pub more_steps : Least m a d ((m - d % m + m * k) / a)
  more_steps = record { meets = reached; first = none_before }

  pub more_below : k < a → (m - d % m + m * k) / a < m
  more_below h = lt_of_mul-lt-mul_left a (omega (arith, whole, mul-le-mul_left m h, mul-suc m k))

-- of 0 only 0 is a multiple
pub at_nothing : (m a d : ℕ) → d ≡ 0 → Least m a d 0
at_nothing m a d e = no_steps m a d (rw e (zero-mod m))

pub never_nothing : (m a d : ℕ) → m ≡ 0 → (d ≡ 0 → ⊥) → (k : ℕ) → m ∣ d + a * k → ⊥
never_nothing m a d z nay k h = let w = zero-dvd.0 (rw z at h) in omega arith

-- the answer is there exactly where the divisor divides the start
pub fewest : (m a d g : ℕ) → IsGcd m a g → (r : Option ℕ) → is_some r ≡ nat_eq (d % g) 0 → IfSome r (λ n. Least m a d n) → Fewest m a d r
fewest m a d g G None e h = never m a d g G (λ z. cc (eq-eqb (d % g) 0 z))
fewest m a d g G (Some n) e h = h
