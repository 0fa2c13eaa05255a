-- What a fault inside a pattern tells. Assumes nothing.
use Rattle.std.specs.Prelude.{ℕ}
use Rattle.theory.specs.declared.fault.Flaw.{Flaw}
use Rattle.theory.specs.declared.fault.Flaw.TheVariants.{Cut, Kind, Limit, TooMany}
use Rattle.theory.specs.declared.fault.PatternFault.{PatternFault}
use Rattle.theory.specs.declared.told.Layer.TheVariants.{Theory}
use Rattle.theory.specs.declared.told.Told.{Told}

-- bytes past the end of the file, a kind not allowed there, a number outside its limits, one element too many
abbrev pub flaw_number : Flaw → ℕ
flaw_number Cut = 2
flaw_number Kind = 3
flaw_number Limit = 4
flaw_number TooMany = 5

-- a theory names no strand
abbrev pub pattern_told : PatternFault → Told
pattern_told f = record { number = flaw_number f.flaw; layer = Theory; place = f.place; strand = 0 }
