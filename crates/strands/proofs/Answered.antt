-- What a reader answered, from whether `ok` gave a value. Assumes nothing.
use Rattle.std.proofs.Common.{◌≡◌, Some, None, Ok, Err, Result, ◌∙◌, ap}
use Rattle.std.specs.Result.{result_ok}
use Rattle.recipe.specs.declared.fault.Fault.{Fault}

module _ {X : Type 0} where
  pub got : (r s : Result X Fault) (x : X) → Some x ≡ result_ok r → r ≡ s → Ok x ≡ s
  got (Ok y) s x e h = let same : x ≡ y = cc in ap Ok same ∙ h
  got (Err f) s x e h = absurd cc

  pub lost : (r s : Result X Fault) → None ≡ result_ok r → r ≡ s → (f : Fault) × (Err f ≡ s)
  lost (Ok y) s e h = absurd cc
  lost (Err f) s e h = (f, h)
