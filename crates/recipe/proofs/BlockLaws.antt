-- Each way through the reading of effects, statements and blocks. Assumes nothing.
use Rattle.std.proofs.Common.{◌≡◌, ℕ, zero, suc, ◌-◌, true, false, List, [], Ok, Err, Result, refl, arith}
use Rattle.theory.specs.declared.fault.Flaw.TheVariants.{TooMany}
use Rattle.theory.specs.Meaning.{Meaning}
use Rattle.recipe.specs.declared.fault.Fault.{Fault}
use Rattle.recipe.specs.declared.fault.Fault.TheVariants.{Record}
use Rattle.recipe.specs.declared.head.Spot.TheVariants.{Effects}
use Rattle.recipe.specs.Blocks.{effects, with_effect}
use Rattle.recipe.specs.Heads.{begins}
use Rattle.recipe.specs.Records.{mapped, record_at, then}
use Rattle.recipe.specs.Extents.{ending}
use Rattle.recipe.specs.Rec.{Rec}

-- where what was read ends
module _ {X Y : Type 0} where
  ending_then : (x : Result (X × ℕ) Fault) (f : X → Y) → mapped ending (then x (λ r. Ok (f r.0, r.1))) ≡ mapped ending x
  ending_then (Ok (a, e)) f = refl
  ending_then (Err u) f = refl

module _ {P R C : Type 0} (m : Meaning P R C) (file : List ℕ) (depth : ℕ) where
  pub effects_stop : (room at : ℕ) → begins file Effects at ≡ false → effects m file room depth at ≡ Ok ([], at)
  unfolding effects
  effects_stop zero at e = rw e
  effects_stop (suc room) at e = rw e

  pub effects_full : (room at : ℕ) → begins file Effects at ≡ true → room ≡ 0 → effects m file room depth at ≡ Err (Record TooMany at)
  unfolding effects
  effects_full zero at e z = rw e
  effects_full (suc room) at e z = absurd (omega arith)

  pub effects_bad : (room at : ℕ) (f : Fault) → begins file Effects at ≡ true → (room ≡ 0 → ⊥) → record_at m file Effects 0 depth at ≡ Err f → effects m file room depth at ≡ Err f
  unfolding effects
  effects_bad zero at f e z h = absurd (z refl)
  effects_bad (suc room) at f e z h = rw (e, h)

  pub effects_more : (room at : ℕ) (r : Rec P) (end : ℕ) → begins file Effects at ≡ true → (room ≡ 0 → ⊥) → record_at m file Effects 0 depth at ≡ Ok (r, end) →
      mapped ending (effects m file room depth at) ≡ mapped ending (effects m file (room - 1) depth end)
  unfolding effects
  effects_more zero at r end e z h = absurd (z refl)
  effects_more (suc room) at r end e z h =
      let one : suc room - 1 ≡ room = omega arith in rw (e, h, one) (ending_then (effects m file room depth end) (with_effect m file at r))

pub ruleset effects_read = (effects_stop, effects_full, effects_bad)
