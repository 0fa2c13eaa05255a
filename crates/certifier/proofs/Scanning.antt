-- Scanning a list: what the rest of it gives. Assumes nothing.
use Rattle.std.proofs.Common.{◌≡◌, ℕ, zero, suc, ◌+◌, ◌<◌, List, [], ◌∷◌, ◌++◌, map, IsTrue, Some, None, Option, sym, refl, ap, ◌∙◌, subst, arith}
use Rattle.std.proofs.lemmas.Iterator.{YieldsList}
use Rattle.std.specs.Fn.{Called}
use Rattle.std.specs.Iterator.{AlwaysYields, Yields}
use Rattle.std.specs.Iterator.Runs.{AllItemsGive, IsFirstToGive, SomeRun, YieldsRun}
use Rattle.std.specs.List.{slice_get}
use Rattle.std.specs.Option.{IfSome, IsSomeAnd, MatchOption, option_map}
use denote.Param.Members.{Mut}
use Rattle.certifier.specs.Lists.{first, gather}

-- the first of two lists
pub first_of_both : {X : Type 0} (xs ys : List X) (x : X) → first xs ≡ Some x → first (xs ++ ys) ≡ Some x
first_of_both [] ys x e = absurd cc
first_of_both (y ∷ xs) ys x e = e

pub first_of_second : {X : Type 0} (xs ys : List X) → first xs ≡ None → first (xs ++ ys) ≡ first ys
first_of_second [] ys e = refl
first_of_second (y ∷ xs) ys e = absurd cc

pub gather_map : {X Y Z : Type 0} (f : Y → List Z) (h : X → Y) (xs : List X) → gather f (map h xs) ≡ gather (λ x. f (h x)) xs
gather_map f h [] = refl
gather_map f h (x ∷ xs) = ap (λ rest. f (h x) ++ rest) (gather_map f h xs)

-- what `find_map` gives, where a call at an item shows the first of what is gathered from it
module _ {S A B F Y Z : Type 0} (steps : S → Option A → S → Type 0) (v : A → B) (g : Mut F (A × Unit {0}) (Option Y)) (faults : B → List Z) (shown : Y → Z) (f : F)
    (tells : (x : A) (r : Option Y) (q : F) → Called g f (x, tt) r q → (q ≡ f) × (option_map shown r ≡ first (faults (v x)))) where
  none_told : (xs : List A) (all : List B) (s t u : S) → AlwaysYields steps v s all → Yields steps s xs t → steps t None u → ((k : ℕ) → IfSome (slice_get xs k) (λ x. Called g f (x, tt) None f)) →
      None ≡ first (gather faults all)
  none_told [] [] s t u e y n h = refl
  none_told [] (b ∷ all) s t u e y n h = absurd (e.0 u (subst (λ j. steps j None u) (sym y) n))
  none_told (x ∷ xs) [] s t u e y n h = absurd (e x y.0 y.1)
  none_told (x ∷ xs) (b ∷ all) s t u e y n h =
      let (is, later) = e.1 x y.0 y.1 in
      let none = (tells x None f (h 0)).1 ∙ ap (λ c. first (faults c)) is in
      none_told xs all y.0 t u later y.2 n (λ k. h (suc k)) ∙ sym (first_of_second (faults b) (gather faults all) (sym none))

  some_told : (i : ℕ) (z : Y) (xs : List A) (all : List B) (s t : S) → AlwaysYields steps v s all → Yields steps s xs t → IsSomeAnd (slice_get xs i) (λ x. Called g f (x, tt) (Some z) f) →
      ((k : ℕ) → k < i → IsSomeAnd (slice_get xs k) (λ x. Called g f (x, tt) None f)) → Some (shown z) ≡ first (gather faults all)
  some_told i z [] all s t e y at before = absurd at
  some_told i z (x ∷ xs) [] s t e y at before = absurd (e x y.0 y.1)
  some_told zero z (x ∷ xs) (b ∷ all) s t e y at before =
      let (is, later) = e.1 x y.0 y.1 in
      let some = (tells x (Some z) f at).1 ∙ ap (λ c. first (faults c)) is in
      sym (first_of_both (faults b) (gather faults all) (shown z) (sym some))
  some_told (suc i) z (x ∷ xs) (b ∷ all) s t e y at before =
      let (is, later) = e.1 x y.0 y.1 in
      let none = (tells x None f (before 0 (omega arith))).1 ∙ ap (λ c. first (faults c)) is in
      some_told i z xs all y.0 t later y.2 at (λ k l. before (suc k) (omega arith)) ∙ sym (first_of_second (faults b) (gather faults all) (sym none))

  module _ (s : S) (all : List B) (road : YieldsList steps v s all) where
    pub first_from_find_map : (r : Option Y) →
        SomeRun steps s (λ p. MatchOption r (IsTrue p.whole × AllItemsGive p g f None) (λ y. (i : ℕ) × (i < p.len) × (p.len ≡ i + 1) × IsFirstToGive p g f (Some y) None i)) →
        option_map shown r ≡ first (gather faults all)
    unfolding YieldsRun
    first_from_find_map None (p, from, (whole, gives)) =
        let (t, items, ends) = p.gave.0 in
        let (u, end) = ends whole in
        none_told p.items all s t u road.runs (subst (λ j. Yields steps j p.items t) from items) end
        (λ k. subst (λ o. IfSome o (λ x. Called g f (x, tt) None f)) (p.gave.1 k) (gives (λ a r q c. (tells a.0 r q c).0) k))
    first_from_find_map (Some z) (p, from, (i, below, last, gives)) =
        let (t, items, ends) = p.gave.0 in
        let (at, before) = gives (λ a r q c. (tells a.0 r q c).0) in
        some_told i z p.items all s t road.runs (subst (λ j. Yields steps j p.items t) from items)
        (subst (λ o. IsSomeAnd o (λ x. Called g f (x, tt) (Some z) f)) (p.gave.1 i) at)
        (λ k l. subst (λ o. IsSomeAnd o (λ x. Called g f (x, tt) None f)) (p.gave.1 k) (before k l))
