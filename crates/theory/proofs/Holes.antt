-- Fillings, and the index that fills a hole. Assumes nothing.
use Rattle.std.proofs.Common.{◌≡◌, ℕ, zero, suc, ◌≤◌, List, length, get_or, sym, refl, arith}
use Rattle.std.proofs.lemmas.List.{get_or_past}
use Rattle.theory.specs.Meaning.{hole_count, Filling, index_of, largest_index, zeros}

pub zeros_fill : Filling zeros
zeros_fill = (refl, small)
  where
    small : (k : ℕ) → get_or zeros k 0 ≤ largest_index
    small zero = omega arith
    small (suc zero) = omega arith
    small (suc (suc zero)) = omega arith
    small (suc (suc (suc k))) = omega arith

-- past the last foreach there is no index
pub no_index : (is : List ℕ) (hole : ℕ) → length is ≡ hole_count → (hole ≡ 1 → ⊥) → (hole ≡ 2 → ⊥) → (hole ≡ 3 → ⊥) → 0 ≡ index_of is hole
no_index is zero l a b c = refl
no_index is (suc k) l a b c = sym (get_or_past is k 0 (omega arith))

-- an index of a filling is small
pub index_small : (is : List ℕ) (hole : ℕ) → Filling is → index_of is hole ≤ largest_index
index_small is zero f = omega arith
index_small is (suc k) f = f.1 k
