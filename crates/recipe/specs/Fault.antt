-- What a fault of reading tells. Assumes nothing.
use Rattle.std.specs.Prelude.{ℕ}
use Rattle.theory.specs.Fault.{flaw_number, pattern_told}
use Rattle.theory.specs.declared.told.Layer.TheVariants.{Reader}
use Rattle.theory.specs.declared.told.Told.{Told}
use Rattle.recipe.specs.declared.fault.Fault.{Fault}
use Rattle.recipe.specs.declared.fault.Fault.TheVariants.{TooLong, Record, Pattern, NotSingle, Repeated, Spare, TooManyStrands}

abbrev pub reader_told : ℕ → ℕ → Told
reader_told number place = record { number = number; layer = Reader; place = place; strand = 0 }

abbrev pub fault_told : Fault → Told
fault_told TooLong = reader_told 1 0
fault_told (Record flaw place) = reader_told (flaw_number flaw) place
fault_told (Pattern fault) = pattern_told fault
fault_told (NotSingle place) = reader_told 6 place
fault_told (Repeated place) = reader_told 7 place
fault_told (Spare place) = reader_told 8 place
fault_told TooManyStrands = reader_told 9 0
