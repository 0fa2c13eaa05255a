-- Euclid's rule ends in time, and finds the greatest common divisor. Assumes nothing.
use Rattle.std.proofs.Common.{◌≡◌, ℕ, zero, suc, ◌%◌, ◌<◌, refl, arith, ne_eqb}
use Rattle.std.specs.Int.{IsGcd}
use Rattle.std.proofs.lemmas.Nat.Gcd.{IsGcd-from_zero, IsGcd-from_mod}
use Rattle.euclid.specs.Divisor.{reduced, euclid}

step : (n a b : ℕ) → reduced (suc n) a (suc b) ≡ reduced n (suc b) (a % suc b)
unfolding reduced
step n a b = rw (ne_eqb (suc b) 0 (λ e. omega arith))

-- more than b times is enough
enough : (n m a b : ℕ) → b < n → b < m → reduced n a b ≡ reduced m a b
unfolding reduced
enough zero m a b h k = absurd (omega arith)
enough (suc n) zero a b h k = absurd (omega arith)
enough (suc n) (suc m) a zero h k = refl
enough (suc n) (suc m) a (suc b) h k = cc (step n a b, step m a b, enough n m (suc b) (a % suc b) (omega arith) (omega arith))

-- the two lines of the rule
pub at_zero : (a b : ℕ) → b ≡ 0 → a ≡ euclid a b
unfolding reduced euclid
at_zero a zero e = refl
at_zero a (suc b) e = absurd (omega arith)

pub at_rest : (a b : ℕ) → (b ≡ 0 → ⊥) → euclid b (a % b) ≡ euclid a b
unfolding euclid
at_rest a zero n = absurd (n refl)
at_rest a (suc b) n = cc (step (suc b) a b, enough (suc (a % suc b)) (suc b) (suc b) (a % suc b) (omega arith) (omega arith))

divides : (n a b : ℕ) → b < n → IsGcd a b (reduced n a b)
unfolding reduced
divides zero a b h = absurd (omega arith)
divides (suc n) a zero h = IsGcd-from_zero a 0 refl
divides (suc n) a (suc b) h = rw (step n a b) (IsGcd-from_mod a (suc b) _ (divides n (suc b) (a % suc b) (omega arith)))

pub euclid_greatest : (a b : ℕ) → IsGcd a b (euclid a b)
unfolding euclid
euclid_greatest a b = divides (suc b) a b (omega arith)
