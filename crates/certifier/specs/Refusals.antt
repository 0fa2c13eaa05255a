-- What a refusal tells, and which cell it shows. Assumes nothing.
use Rattle.std.specs.Prelude.{ℕ, Option}
use Rattle.std.specs.Option.{option_map}
use Rattle.theory.specs.declared.told.Layer.TheVariants.{Certifier, Machine}
use Rattle.theory.specs.declared.told.Told.{Told}
use Rattle.theory.specs.Meaning.{Meaning}
use Rattle.certifier.specs.declared.refusal.Location.{Location}
use Rattle.certifier.specs.declared.refusal.Refusal.{Refusal}
use Rattle.certifier.specs.declared.refusal.Refusal.TheVariants.{OtherTheory, Unlisted, Uncovered, Exceeding, Interfering}

abbrev pub certifier_told : ℕ → Location → Told
certifier_told number here = record { number = number; layer = Certifier; place = here.place; strand = here.strand }

-- that another theory reads the recipe is told as by the machine; of two effects the first is told here
abbrev pub refusal_told : {C : Type 0} → Refusal C → Told
refusal_told OtherTheory = record { number = 20; layer = Machine; place = 0; strand = 0 }
refusal_told (Unlisted here) = certifier_told 10 here
refusal_told (Uncovered here) = certifier_told 11 here
refusal_told (Exceeding here) = certifier_told 12 here
refusal_told (Interfering here there x) = certifier_told 13 here

module _ {P R C : Type 0} (m : Meaning P R C) where
  -- with the cell that a value of the program stands for
  abbrev pub refusal_of : Refusal C → Refusal m.Point
  refusal_of OtherTheory = OtherTheory
  refusal_of (Unlisted here) = Unlisted here
  refusal_of (Uncovered here) = Uncovered here
  refusal_of (Exceeding here) = Exceeding here
  refusal_of (Interfering here there c) = Interfering here there (m.point c)

  abbrev pub refused : Option (Refusal C) → Option (Refusal m.Point)
  refused r = option_map refusal_of r
