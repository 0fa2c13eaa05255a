-- What a result that was read was made of. Assumes nothing.
use Rattle.std.proofs.Common.{◌≡◌, ℕ, Bool, true, false, cond, Ok, Err, Result, refl, ap, ◌∙◌, subst}
use Rattle.std.proofs.lemmas.Result.{err_from_is_err_and}
use Rattle.std.specs.Result.{IsErrAnd}
use Rattle.recipe.specs.declared.fault.Fault.{Fault}
use Rattle.recipe.specs.Records.{mapped, then}

-- what a result was made of
pub then_ok : {A B : Type 0} (x : Result A Fault) (g : A → Result B Fault) {b : B} → then x g ≡ Ok b → (a : A) × (x ≡ Ok a) × (g a ≡ Ok b)
then_ok (Ok a) g e = (a, refl, e)
then_ok (Err f) g e = absurd cc

-- a test that was met, or not
pub met : {A : Type 0} (t : Bool) (x : Result A Fault) (f : Fault) (a : A) → cond t x (Err f) ≡ Ok a → (t ≡ true) × (x ≡ Ok a)
met true x f a e = (refl, e)
met false x f a e = absurd cc

pub absent : {A : Type 0} (t : Bool) (x : Result A Fault) (f : Fault) (a : A) → cond t (Err f) x ≡ Ok a → (t ≡ false) × (x ≡ Ok a)
absent true x f a e = absurd cc
absent false x f a e = (refl, e)

-- a reading gave one value and one end
pub same_what : {A : Type 0} (a b : A) (n k : ℕ) → ◌≡◌ {A = Result (A × ℕ) Fault} (Ok (a, n)) (Ok (b, k)) → a ≡ b
same_what {A} a b n k e = let p : ◌≡◌ {A = A × ℕ} (a, n) (b, k) = cc in ap (λ (q : A × ℕ). q.0) p

pub same_end : {A : Type 0} (a b : A) (n k : ℕ) → ◌≡◌ {A = Result (A × ℕ) Fault} (Ok (a, n)) (Ok (b, k)) → n ≡ k
same_end {A} a b n k e = let p : ◌≡◌ {A = A × ℕ} (a, n) (b, k) = cc in ap (λ (q : A × ℕ). q.1) p

pub same_tree : {A : Type 0} (a b : A) → ◌≡◌ {A = Result A Fault} (Ok a) (Ok b) → a ≡ b
same_tree a b e = cc

-- what is shown of a result by what its image was
module _ {X Y : Type 0} (g : X → Y) where
  pub by_ok : (Q : Result X Fault → Y → Type 0) → ((a : X) → Q (Ok a) (g a)) → (r : Result X Fault) (y : Y) → Ok y ≡ mapped g r → Q r y
  by_ok Q q (Ok a) y e = let same : g a ≡ y = cc in subst (λ z. Q (Ok a) z) same (q a)
  by_ok Q q (Err f) y e = absurd cc

  pub was_err : (r : Result X Fault) (f : Fault) → Err f ≡ mapped g r → r ≡ Err f
  was_err (Ok a) f e = absurd cc
  was_err (Err u) f e = let same : u ≡ f = cc in ap (λ v. Err v) same

-- a `?` that ends the function hands on the fault that it met
pub passed_on : {X : Type 0} (r : Result X Fault) (f : Fault) → IsErrAnd r (λ e. e ≡ f) → r ≡ Err f
passed_on r f h = let p = err_from_is_err_and r h in p.1 ∙ ap (λ e. Err e) p.2
