-- What reading gives lies inside the file. Assumes nothing.
use Rattle.std.proofs.Common.{◌≡◌, ℕ, ◌<◌, ◌≤◌, Bool, true, false, List, length, Ok, Err, Result, refl, arith}
use Rattle.theory.specs.declared.fault.Flaw.{Flaw}
use Rattle.theory.specs.declared.fault.Flaw.TheVariants.{Cut, Kind, Limit, TooMany}
use Rattle.theory.specs.declared.fault.PatternFault.{PatternFault}
use Rattle.theory.specs.Fault.{pattern_told}
use Rattle.theory.specs.Meaning.{Faulty, Inside}
use Rattle.theory.specs.Reading.{provided}

module _ (file : List ℕ) where
  pub fault_inside : (at : ℕ) (f : Flaw) → at ≤ length file → Faulty file at (pattern_told (record { flaw = f; place = at }))
  fault_inside at Cut h = omega arith
  fault_inside at Kind h = omega arith
  fault_inside at Limit h = omega arith
  fault_inside at TooMany h = omega arith

  -- a test in order, and what follows it
  pub provided_inside : {P : Type 0} (at : ℕ) (met : Bool) (f : Flaw) (r : Result (P × ℕ) PatternFault) → at ≤ length file → (met ≡ true → Inside file at r) → Inside file at (provided met f at r)
  provided_inside at true f r h next = next refl
  provided_inside at false f r h next = fault_inside at f h

  -- what lies behind a later place lies behind this one
  pub later_inside : {P : Type 0} (at next : ℕ) (r : Result (P × ℕ) PatternFault) → at < next → Inside file next r → Inside file at r
  later_inside at next (Ok (p, end)) h (i, j) = (omega arith, j)
  later_inside at next (Err f) h i = (i.0, i.1, omega (arith, i.2), i.3)
