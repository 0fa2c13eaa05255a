-- One record by its bytes, as the format has it. Assumes nothing.
--
-- register   a number below 4
-- hole       a number from 1 to the number of enclosing foreach
-- laid       a record is laid from a place to an end, if the bytes there are its kind byte and its numbers, each within its
--            limits, and its pattern, where it has one, reads from there to that end
use Rattle.std.specs.Prelude.{◌≡◌, ℕ, ◌+◌, ◌<◌, ◌≤◌, true, List, length, Ok}
use Rattle.theory.specs.Meaning.{Meaning}
use Rattle.theory.specs.Reading.{byte, four_bytes}
use Rattle.recipe.specs.declared.head.Spot.{Spot}
use Rattle.recipe.specs.declared.head.Spot.TheVariants.{Cells, Effects, Statements, Guarded}
use Rattle.recipe.specs.declared.record.Fork.{Fork}
use Rattle.recipe.specs.declared.record.Fork.TheVariants.{Cobegin, Foreach}
use Rattle.recipe.specs.declared.record.Mode.TheVariants.{Reads, Writes}
use Rattle.recipe.specs.Rec.{Rec, cell, effect, operation, when, fork, end, Operation, load, store, set, add, index, less}

-- where a record may stand: Cells in the list of cells, effects at the head of a block, statements and the End in a block, and
-- under a When any statement but another When
abbrev pub MayStand : {P : Type 0} → Spot → Rec P → Type 0
MayStand Cells (cell p) = Unit {0}
MayStand Cells (effect mode p) = ⊥
MayStand Cells (operation o) = ⊥
MayStand Cells (when r) = ⊥
MayStand Cells (fork f) = ⊥
MayStand Cells end = ⊥
MayStand Effects (cell p) = ⊥
MayStand Effects (effect mode p) = Unit {0}
MayStand Effects (operation o) = ⊥
MayStand Effects (when r) = ⊥
MayStand Effects (fork f) = ⊥
MayStand Effects end = ⊥
MayStand Statements (cell p) = ⊥
MayStand Statements (effect mode p) = ⊥
MayStand Statements (operation o) = Unit {0}
MayStand Statements (when r) = Unit {0}
MayStand Statements (fork f) = Unit {0}
MayStand Statements end = Unit {0}
MayStand Guarded (cell p) = ⊥
MayStand Guarded (effect mode p) = ⊥
MayStand Guarded (operation o) = Unit {0}
MayStand Guarded (when r) = ⊥
MayStand Guarded (fork f) = Unit {0}
MayStand Guarded end = ⊥

-- the number of a byte
abbrev pub Number : List ℕ → (at n low high : ℕ) → Type 0
Number file at n low high = (byte file at ≡ n) × (low ≤ n) × (n ≤ high)

abbrev pub Register : List ℕ → (at r : ℕ) → Type 0
Register file at r = Number file at r 0 3

module _ {P R C : Type 0} (m : Meaning P R C) (file : List ℕ) where
  -- the pattern that begins at a place, and one of a single cell
  abbrev pub Patterned : (depth at : ℕ) → P → ℕ → Type 0
  Patterned depth at p e = (at ≤ length file) × (m.reads file at depth ≡ Ok (p, e))

  abbrev pub Single : (depth at : ℕ) → P → ℕ → Type 0
  Single depth at p e = Patterned depth at p e × (m.single p ≡ true)

  -- a record of so many bytes
  abbrev pub Long : (at n e : ℕ) → Type 0
  Long at n e = (e ≡ at + n) × (e ≤ length file)

  abbrev pub OperationLaid : Operation P → (depth at e : ℕ) → Type 0
  OperationLaid (load r p) depth at e = (byte file at ≡ 0x20) × Register file (at + 1) r × Single depth (at + 2) p e
  OperationLaid (store r p) depth at e = (byte file at ≡ 0x21) × Register file (at + 1) r × Single depth (at + 2) p e
  OperationLaid (set r v) depth at e = (byte file at ≡ 0x22) × Register file (at + 1) r × (four_bytes file (at + 2) ≡ v) × Long at 6 e
  OperationLaid (add t s) depth at e = (byte file at ≡ 0x23) × Register file (at + 1) t × Register file (at + 2) s × Long at 3 e
  OperationLaid (index r h) depth at e = (byte file at ≡ 0x24) × Register file (at + 1) r × Number file (at + 2) h 1 depth × Long at 3 e
  OperationLaid (less t l r) depth at e =
      (byte file at ≡ 0x26) × Register file (at + 1) t × Register file (at + 2) l × Register file (at + 3) r × Long at 4 e

  -- a fork needs room for one more fork, a Foreach also for one more foreach
  abbrev pub ForkLaid : Fork → (forks depth at e : ℕ) → Type 0
  ForkLaid (Cobegin n) forks depth at e = (byte file at ≡ 0x30) × Number file (at + 1) n 2 16 × (0 < forks) × Long at 2 e
  ForkLaid (Foreach n) forks depth at e = (byte file at ≡ 0x31) × Number file (at + 1) n 1 64 × (0 < forks) × (depth < 3) × Long at 2 e

  abbrev pub Laid : Rec P → (forks depth at e : ℕ) → Type 0
  Laid (cell p) forks depth at e = (byte file at ≡ 0x01) × Single depth (at + 1) p e
  Laid (effect Reads p) forks depth at e = (byte file at ≡ 0x10) × Patterned depth (at + 1) p e
  Laid (effect Writes p) forks depth at e = (byte file at ≡ 0x11) × Patterned depth (at + 1) p e
  Laid (operation o) forks depth at e = OperationLaid o depth at e
  Laid (when r) forks depth at e = (byte file at ≡ 0x25) × Register file (at + 1) r × Long at 2 e
  Laid (fork f) forks depth at e = ForkLaid f forks depth at e
  Laid end forks depth at e = (byte file at ≡ 0x3F) × Long at 1 e
