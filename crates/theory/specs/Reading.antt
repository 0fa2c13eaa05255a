-- Words for what bytes of a file read as. Assumes nothing.
--
-- byte       the byte at a place
-- word       the number of two bytes from a place on, low byte first
-- provided   what follows a test that is met; the fault where it is not
use Rattle.std.specs.Prelude.{ℕ, ◌+◌, ◌*◌, ◌<◌, Bool, cond, List, Err, Result, slice_index}
use Rattle.theory.specs.declared.fault.Flaw.{Flaw}
use Rattle.theory.specs.declared.fault.PatternFault.{PatternFault}

abbrev pub byte : List ℕ → ℕ → ℕ
byte file at = slice_index file at

abbrev pub word : List ℕ → ℕ → ℕ
word file at = byte file at + 256 * byte file (at + 1)

-- the number of four bytes from a place on, low byte first
abbrev pub four_bytes : List ℕ → ℕ → ℕ
four_bytes file at = word file at + 65536 * word file (at + 2)

-- a file that a program holds: each of its numbers is a byte
abbrev pub Bytes : List ℕ → Type 0
Bytes file = (at : ℕ) → byte file at < 256

-- the fault with a flaw in the record at a place
abbrev pub flawed : Flaw → ℕ → PatternFault
flawed flaw at = record { flaw = flaw; place = at }

abbrev pub provided : {X : Type 0} → Bool → Flaw → ℕ → Result X PatternFault → Result X PatternFault
provided met flaw at next = cond met next (Err (record { flaw = flaw; place = at }))
