-- The number of a branch of a fork, turn by turn. Assumes nothing.
use Rattle.std.proofs.Common.{◌≡◌, ℕ, zero, suc, ◌+◌, ◌<◌, ◌≤◌, List, Some, None, Ok, Err, sym, refl, arith}
use Rattle.theory.specs.Meaning.{Meaning}
use Rattle.recipe.specs.declared.extent.Extent.{Extent}
use Rattle.recipe.specs.declared.fault.Fault.{Fault}
use Rattle.recipe.specs.Extents.{capped}
use Rattle.recipe.specs.declared.site.Site.{Site}
use Rattle.strands.specs.ChildAt.{branch_at, measured}

module _ {P R C : Type 0} (m : Meaning P R C) (file : List ℕ) (site : Site) where
  pub branch_again : (left next number at : ℕ) (y : Extent) (later : ℕ) → next + 1 ≡ left → Ok y ≡ measured m file site at → later ≡ capped (number + y.strands) →
      branch_at m file site left number at ≡ branch_at m file site next later y.end
  unfolding branch_at
  branch_again zero next number at y later p e c = absurd (omega arith)
  branch_again (suc k) next number at y later p e c = let one : next ≡ k = omega arith in rw (sym e, one, c)

  pub branch_bad : (left number at : ℕ) (f : Fault) → 0 < left → Err f ≡ measured m file site at → branch_at m file site left number at ≡ None
  unfolding branch_at
  branch_bad zero number at f p e = absurd (omega arith)
  branch_bad (suc k) number at f p e = rw (sym e)

  pub branch_done : (left number at : ℕ) → left ≤ 0 → branch_at m file site left number at ≡ Some number
  unfolding branch_at
  branch_done zero number at p = refl
  branch_done (suc k) number at p = absurd (omega arith)
