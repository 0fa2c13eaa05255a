-- Going in steps of one number until a multiple of another is met. Assumes nothing.
use Rattle.std.specs.Prelude.{ℕ, ◌+◌, ◌*◌, ◌≤◌, Some, None, Option}
use Rattle.std.specs.Int.{◌∣◌}

-- n is the least number of steps that lead from start to a multiple of the modulus
pub record Least (modulus step start n : ℕ) : Type 0 where
  pub meets : modulus ∣ start + step * n
  pub first : (k : ℕ) → modulus ∣ start + step * k → n ≤ k

-- the least number of steps, or none where no number of steps leads to a multiple
abbrev pub Fewest : (modulus step start : ℕ) → Option ℕ → Type 0
Fewest modulus step start None = (k : ℕ) → modulus ∣ start + step * k → ⊥
Fewest modulus step start (Some n) = Least modulus step start n
