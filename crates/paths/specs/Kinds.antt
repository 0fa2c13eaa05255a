-- The kind byte of a record of a path. Assumes nothing.
use Rattle.std.specs.Prelude.{ℕ, cond, Ok, Err, Result, ◌==◌}
use Rattle.theory.specs.declared.fault.Flaw.{Flaw}
use Rattle.theory.specs.declared.fault.Flaw.TheVariants as flaw
use Rattle.paths.specs.declared.kind.Kind.{Kind}
use Rattle.paths.specs.declared.kind.Kind.TheVariants.{End, Name, Index, Star, AnyIndex, FilledIndex}

abbrev pub kind_of : ℕ → Result Kind Flaw
kind_of byte =
    cond (byte == 0x40) (Ok End)
    (cond (byte == 0x41) (Ok Name)
    (cond (byte == 0x42) (Ok Index)
    (cond (byte == 0x43) (Ok Star)
    (cond (byte == 0x44) (Ok AnyIndex)
    (cond (byte == 0x45) (Ok FilledIndex)
    (Err flaw.Kind))))))
