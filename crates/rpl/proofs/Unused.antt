-- A small number that stands nowhere in a list. Assumes nothing.
use Rattle.std.proofs.Common.{◌≡◌, ℕ, zero, suc, ◌<◌, ◌≢◌, ◌⊎◌, List, [], ◌∷◌, length, sym, refl, inl, inr, arith}
use native.Mathlib.Decide.{ℕ_discrete}

-- k is not in the list
abbrev pub Out : ℕ → List ℕ → Type 0
Out k [] = Unit {0}
Out k (x ∷ xs) = (x ≢ k) × Out k xs

-- the list without a number that is in it
record Without (m : ℕ) (xs : List ℕ) : Type 0 where
  others : List ℕ
  fewer : length others < length xs
  back : (k : ℕ) → k ≢ m → Out k others → Out k xs

look : (m : ℕ) (xs : List ℕ) → Out m xs ⊎ Without m xs
look m [] = inl tt
look m (x ∷ xs) = go (ℕ_discrete x m) (look m xs)
  where
    go : Dec (x ≡ m) → Out m xs ⊎ Without m xs → Out m (x ∷ xs) ⊎ Without m (x ∷ xs)
    go (yes e) o = inr (record { others = xs; fewer = omega arith; back = λ k n o'. ((λ h. n (rw (sym h, e) refl)), o') })
    go (no n) (inl o) = inl (n, o)
    go (no n) (inr w) = inr (record { others = x ∷ w.others; fewer = omega (arith, w.fewer); back = λ k d o. (o.0, w.back k d o.1) })

-- of more numbers than the list is long, one is not in it
pub unused : (m : ℕ) (xs : List ℕ) → length xs < m → (k : ℕ) × (k < m) × Out k xs
unused zero xs h = absurd (omega arith)
unused (suc m) xs h = go (unused m) (look m xs)
  where
    go : ((ys : List ℕ) → length ys < m → (k : ℕ) × (k < m) × Out k ys) → Out m xs ⊎ Without m xs → (k : ℕ) × (k < suc m) × Out k xs
    go next (inl o) = (m, omega arith, o)
    go next (inr w) =
        let r = next w.others (omega (arith, w.fewer)) in
        (r.0, omega (arith, r.1), w.back r.0 (λ e. omega (arith, r.1)) r.2)
