-- Entries of lists: where they come from, and where they stand. Assumes nothing.
use Rattle.std.proofs.Common.{◌≡◌, ℕ, zero, suc, ◌+◌, Bool, true, false, ◌⊎◌, List, [], ◌∷◌, ◌++◌, map, Some, None, sym, refl, ap, subst, inl, inr, arith}
use Rattle.recipe.specs.Cells.{at_number}
use Rattle.recipe.proofs.Once.{entry_is}
use Rattle.certifier.specs.Faults.{unless}
use Rattle.certifier.specs.Lists.{Among, beside, from, gather}

module _ {X : Type 0} where
  -- two lists, one after the other
  pub among_first : (x : X) (xs ys : List X) → Among x xs → Among x (xs ++ ys)
  among_first x [] ys h = absurd h
  among_first x (y ∷ xs) ys (inl e) = inl e
  among_first x (y ∷ xs) ys (inr h) = inr (among_first x xs ys h)

  pub among_second : (x : X) (xs ys : List X) → Among x ys → Among x (xs ++ ys)
  among_second x [] ys h = h
  among_second x (y ∷ xs) ys h = inr (among_second x xs ys h)

  pub among_either : (x : X) (xs ys : List X) → Among x (xs ++ ys) → Among x xs ⊎ Among x ys
  among_either x [] ys h = inr h
  among_either x (y ∷ xs) ys (inl e) = inl (inl e)
  among_either x (y ∷ xs) ys (inr h) = go (among_either x xs ys h)
    where
      go : Among x xs ⊎ Among x ys → Among x (y ∷ xs) ⊎ Among x ys
      go (inl a) = inl (inr a)
      go (inr b) = inr b

  -- the entry at a number is an entry, and each entry has a number
  pub none_numbered : {A : Type 0} (x : X) → None ≡ Some x → A
  none_numbered x e = absurd cc

  pub among_at : (xs : List X) (k : ℕ) (x : X) → at_number xs k ≡ Some x → Among x xs
  among_at [] k x h = none_numbered x h
  among_at (y ∷ xs) zero x h = inl (sym (entry_is y x h))
  among_at (y ∷ xs) (suc k) x h = inr (among_at xs k x h)

  pub at_among : (xs : List X) (x : X) → Among x xs → (k : ℕ) × (at_number xs k ≡ Some x)
  at_among [] x h = absurd h
  at_among (y ∷ xs) x (inl e) = (0, ap Some (sym e))
  at_among (y ∷ xs) x (inr h) = let (k, e) = at_among xs x h in (suc k, e)

  -- the same with numbers counted from n on
  pub among_from : (n : ℕ) (xs : List X) (k : ℕ) (x : X) → at_number xs k ≡ Some x → Among (n + k, x) (from n xs)
  among_from n [] k x h = none_numbered x h
  among_from n (y ∷ xs) zero x h = inl (ap₂ (omega arith) (sym (entry_is y x h)))
    where
      ap₂ : n + 0 ≡ n → x ≡ y → ◌≡◌ {A = ℕ × X} (n + 0, x) (n, y)
      ap₂ p q = λ i. (p i, q i)
  among_from n (y ∷ xs) (suc k) x h = inr (subst (λ (j : ℕ). Among (j, x) (from (suc n) xs)) (omega arith) (among_from (suc n) xs k x h))

  pub from_among : (n : ℕ) (xs : List X) (k : ℕ) (x : X) → Among (k, x) (from n xs) → (j : ℕ) × (k ≡ n + j) × (at_number xs j ≡ Some x)
  from_among n [] k x h = absurd h
  from_among n (y ∷ xs) k x (inl e) = let low : k ≡ n = ap (λ p. p.0) e in (0, omega arith, ap Some (sym (ap (λ p. p.1) e)))
  from_among n (y ∷ xs) k x (inr h) = let (j, e, f) = from_among (suc n) xs k x h in (suc j, omega arith, f)

  -- what a refusal is told for
  pub unless_among : (b : Bool) (v x : X) → Among x (unless b v) → (b ≡ false) × (x ≡ v)
  unless_among true v x h = absurd h
  unless_among false v x (inl e) = (refl, e)
  unless_among false v x (inr h) = absurd h

module _ {X Y : Type 0} where
  -- what a function gives for each entry
  pub gather_among : (f : X → List Y) (x : X) (xs : List X) (y : Y) → Among x xs → Among y (f x) → Among y (gather f xs)
  gather_among f x [] y g h = absurd g
  gather_among f x (z ∷ xs) y (inl e) h = among_first y (f z) (gather f xs) (subst (λ z. Among y (f z)) e h)
  gather_among f x (z ∷ xs) y (inr g) h = among_second y (f z) (gather f xs) (gather_among f x xs y g h)

  pub among_gather : (f : X → List Y) (xs : List X) (y : Y) → Among y (gather f xs) → (x : X) × Among x xs × Among y (f x)
  among_gather f [] y h = absurd h
  among_gather f (z ∷ xs) y h = go (among_either y (f z) (gather f xs) h) (among_gather f xs y)
    where
      go : Among y (f z) ⊎ Among y (gather f xs) → (Among y (gather f xs) → (x : X) × Among x xs × Among y (f x)) → (x : X) × Among x (z ∷ xs) × Among y (f x)
      go (inl g) later = (z, inl refl, g)
      go (inr g) later = let (x, a, b) = later g in (x, inr a, b)

  pub map_at : (f : X → Y) (xs : List X) (k : ℕ) (x : X) → at_number xs k ≡ Some x → at_number (map f xs) k ≡ Some (f x)
  map_at f [] k x h = none_numbered x h
  map_at f (z ∷ xs) zero x h = ap (λ w. Some (f w)) (entry_is z x h)
  map_at f (z ∷ xs) (suc k) x h = map_at f xs k x h

  pub at_map : (f : X → Y) (xs : List X) (k : ℕ) (y : Y) → at_number (map f xs) k ≡ Some y → (x : X) × (at_number xs k ≡ Some x) × (f x ≡ y)
  at_map f [] k y h = none_numbered y h
  at_map f (z ∷ xs) zero y h = (z, refl, entry_is (f z) y h)
  at_map f (z ∷ xs) (suc k) y h = at_map f xs k y h

  pub map_among : (f : X → Y) (xs : List X) (x : X) → Among x xs → Among (f x) (map f xs)
  map_among f xs x h = let (k, e) = at_among xs x h in among_at (map f xs) k (f x) (map_at f xs k x e)

  pub among_map : (f : X → Y) (xs : List X) (y : Y) → Among y (map f xs) → (x : X) × Among x xs × (f x ≡ y)
  among_map f xs y h =
      let (k, e) = at_among (map f xs) y h in
      let (x, g, same) = at_map f xs k y e in
      (x, among_at xs k x g, same)

  -- two lists side by side
  pub at_beside : (xs : List X) (ys : List Y) (k : ℕ) (x : X) (y : Y) → at_number (beside xs ys) k ≡ Some (x, y) → (at_number xs k ≡ Some x) × (at_number ys k ≡ Some y)
  at_beside [] ys k x y h = none_numbered (x, y) h
  at_beside (a ∷ xs) [] k x y h = none_numbered (x, y) h
  at_beside (a ∷ xs) (b ∷ ys) zero x y h = let e = entry_is (a, b) (x, y) h in (ap (λ p. Some p.0) e, ap (λ p. Some p.1) e)
  at_beside (a ∷ xs) (b ∷ ys) (suc k) x y h = at_beside xs ys k x y h
