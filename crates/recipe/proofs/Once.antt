-- In a list that grows by cells that it does not have, each cell is found where it stands. Assumes nothing.
use Rattle.std.proofs.Common.{◌≡◌, ℕ, zero, suc, Bool, true, false, cond, ◌⊎◌, List, [], ◌∷◌, ◌++◌, length, is_some, Some, None, Option, refl, ap, inl, inr}
use Rattle.theory.specs.Meaning.{Kept, Meaning}
use Rattle.theory.specs.Telling.{yes_told}
use Rattle.recipe.specs.Cells.{at_number, later, position}

pub entry_is : {X : Type 0} (x y : X) → Some x ≡ Some y → x ≡ y
entry_is x y e = cc

-- an entry of a list with one more is one of the list, or the last
pub either : {X : Type 0} (xs : List X) (y : X) (k : ℕ) (x : X) → at_number (xs ++ (y ∷ [])) k ≡ Some x → (at_number xs k ≡ Some x) ⊎ ((k ≡ length xs) × (y ≡ x))
either [] y zero x h = inr (refl, entry_is y x h)
either [] y (suc k) x h = absurd cc
either (z ∷ xs) y zero x h = inl h
either (z ∷ xs) y (suc k) x h = go (either xs y k x h)
  where
    go : (at_number xs k ≡ Some x) ⊎ ((k ≡ length xs) × (y ≡ x)) → (at_number xs k ≡ Some x) ⊎ ((suc k ≡ suc (length xs)) × (y ≡ x))
    go (inl e) = inl e
    go (inr (e, f)) = inr (ap suc e, f)

module _ {P R C : Type 0} (m : Meaning P R C) where
  -- one more cell at the end alters no position, and its own is the end where it is new
  stays_found : (x y : m.Point) (xs : List m.Point) (k : ℕ) → position m x xs ≡ Some k → position m x (xs ++ (y ∷ [])) ≡ Some k
  unfolding position
  stays_found x y [] k h = absurd cc
  stays_found x y (w ∷ xs) k h = go (m.same x w) (position m x xs) (position m x (xs ++ (y ∷ []))) (stays_found x y xs) h
    where
      go : (b : Bool) (old new : Option ℕ) → ((j : ℕ) → old ≡ Some j → new ≡ Some j) → cond b (Some 0) (later old) ≡ Some k → cond b (Some 0) (later new) ≡ Some k
      go true old new f h = h
      go false (Some j) new f h = rw (f j refl) h
      go false None new f h = absurd cc

  found_last : (x : m.Point) (xs : List m.Point) → m.same x x ≡ true → is_some (position m x xs) ≡ false → position m x (xs ++ (x ∷ [])) ≡ Some (length xs)
  unfolding position
  found_last x [] e h = rw e
  found_last x (w ∷ xs) e h = go (m.same x w) (position m x xs) (position m x (xs ++ (x ∷ []))) (found_last x xs e) h
    where
      go : (b : Bool) (old new : Option ℕ) → (is_some old ≡ false → new ≡ Some (length xs)) → is_some (cond b (Some 0) (later old)) ≡ false → cond b (Some 0) (later new) ≡ Some (suc (length xs))
      go true old new f h = absurd cc
      go false None new f h = rw (f refl)
      go false (Some j) new f h = absurd cc

  abbrev pub Once : List m.Point → Type 0
  Once xs = (k : ℕ) (x : m.Point) → at_number xs k ≡ Some x → position m x xs ≡ Some k

  pub once_none : Once []
  once_none k x h = absurd cc

  pub once_more : Kept m → (xs : List m.Point) (y : m.Point) → Once xs → is_some (position m y xs) ≡ false → Once (xs ++ (y ∷ []))
  once_more kept xs y f e k x h = go (either xs y k x h)
    where
      go : (at_number xs k ≡ Some x) ⊎ ((k ≡ length xs) × (y ≡ x)) → position m x (xs ++ (y ∷ [])) ≡ Some k
      go (inl h) = stays_found x y xs k (f k x h)
      go (inr (l, s)) =
          rw (l, ← s) (found_last y xs (yes_told (m.same y y) (y ≡ y) (kept.alike y y) refl) e)
