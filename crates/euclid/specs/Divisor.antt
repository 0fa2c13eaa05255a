-- Euclid's rule for the greatest common divisor. Assumes nothing.
use Rattle.std.specs.Prelude.{ℕ, zero, suc, ◌%◌, cond, ◌==◌}

-- Euclid's rule, taken at most n times
unfoldable pub reduced : ℕ → ℕ → ℕ → ℕ
reduced zero a b = a
reduced (suc n) a b = cond (b == 0) a (reduced n b (a % b))

-- the second number falls each time, so that b + 1 times are enough
unfoldable pub euclid : ℕ → ℕ → ℕ
euclid a b = reduced (suc b) a b
