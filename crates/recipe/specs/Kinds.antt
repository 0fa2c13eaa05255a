-- The kinds of records: their bodies, where they may stand, and the limits of their numbers. Assumes nothing.
--
-- kind      the first byte of a record
-- body      the bytes after it; the kind alone fixes how many
-- depth     the number of foreach that enclose a record
use Rattle.std.specs.Prelude.{ℕ, ◌+◌, Bool, true, false, cond, ◌&&◌, List, [], ◌∷◌, ◌++◌, map, Some, None, Option, ◌==◌, nat_le, nat_lt}
use Rattle.theory.specs.Meaning.{hole_count}
use Rattle.theory.specs.Reading.{byte}
use Rattle.recipe.specs.declared.head.Spot.{Spot}
use Rattle.recipe.specs.declared.head.Spot.TheVariants.{Cells, Effects, Statements, Guarded}
use Rattle.recipe.specs.declared.kinds.Kind.{Kind}
use Rattle.recipe.specs.declared.record.Fork.{Fork}
use Rattle.recipe.specs.declared.record.Fork.TheVariants.{Cobegin as CobeginFork, Foreach as ForeachFork}
use Rattle.recipe.specs.declared.kinds.Kind.TheVariants.{Cell, Reads, Writes, Load, Store, Set, Add, Index, When, Less, Cobegin, Foreach, End}

-- the kinds outside patterns
abbrev pub named : List (ℕ × Kind)
named =
    (0x01, Cell) ∷ (0x10, Reads) ∷ (0x11, Writes) ∷ (0x20, Load) ∷ (0x21, Store) ∷ (0x22, Set) ∷ (0x23, Add) ∷
    (0x24, Index) ∷ (0x25, When) ∷ (0x26, Less) ∷ (0x30, Cobegin) ∷ (0x31, Foreach) ∷ (0x3F, End) ∷ []

-- the length of a body by its kind
abbrev pub body_of : Kind → ℕ
body_of Cell = 0
body_of Reads = 0
body_of Writes = 0
body_of Load = 1  -- register
body_of Store = 1  -- register
body_of Set = 5  -- register, value of four bytes
body_of Add = 2  -- target, source
body_of Index = 2  -- register, hole
body_of When = 1  -- register
body_of Less = 3  -- target, left, right
body_of Cobegin = 1  -- branches
body_of Foreach = 1  -- count
body_of End = 0

-- the kinds inside patterns, each with the length of its body
abbrev pub elements : List (ℕ × ℕ)
elements =
    (0x40, 0) ∷  -- end of a path
    (0x41, 2) ∷  -- name
    (0x42, 4) ∷  -- index
    (0x43, 0) ∷  -- star
    (0x44, 0) ∷  -- any index
    (0x45, 4) ∷  -- filled index: hole, scale, offset of two bytes
    (0x48, 8) ∷  -- section: hole, scale, offset, step and count of two bytes each
    []

-- each kind and the length of its body
abbrev pub kinds : List (ℕ × ℕ)
kinds = map (λ (byte, kind). (byte, body_of kind)) named ++ elements

abbrev pub looked_up : List (ℕ × ℕ) → ℕ → ℕ
looked_up [] kind = 0
looked_up ((k, length) ∷ rest) kind = cond (kind == k) length (looked_up rest kind)

-- a byte that is no kind has no body
unfoldable pub body_length : ℕ → ℕ
body_length kind = looked_up kinds kind

abbrev pub kind_in : List (ℕ × Kind) → ℕ → Option Kind
kind_in [] b = None
kind_in ((byte, kind) ∷ rest) b = cond (b == byte) (Some kind) (kind_in rest b)

unfoldable pub kind_of : ℕ → Option Kind
kind_of b = kind_in named b

-- where a kind may stand: a Cell in the cell list, an effect among effects, a statement in a block or under a When;
-- a When and an End in a block only
abbrev pub in_cells : Spot → Bool
in_cells Cells = true
in_cells Effects = false
in_cells Statements = false
in_cells Guarded = false

abbrev pub in_effects : Spot → Bool
in_effects Cells = false
in_effects Effects = true
in_effects Statements = false
in_effects Guarded = false

abbrev pub in_block : Spot → Bool
in_block Cells = false
in_block Effects = false
in_block Statements = true
in_block Guarded = false

abbrev pub in_statement : Spot → Bool
in_statement Cells = false
in_statement Effects = false
in_statement Statements = true
in_statement Guarded = true

abbrev pub allowed : Spot → Kind → Bool
allowed spot Cell = in_cells spot
allowed spot Reads = in_effects spot
allowed spot Writes = in_effects spot
allowed spot Load = in_statement spot
allowed spot Store = in_statement spot
allowed spot Set = in_statement spot
allowed spot Add = in_statement spot
allowed spot Index = in_statement spot
allowed spot When = in_block spot
allowed spot Less = in_statement spot
allowed spot Cobegin = in_statement spot
allowed spot Foreach = in_statement spot
allowed spot End = in_block spot

-- a register is 0 to 3
abbrev pub register : List ℕ → ℕ → Bool
register file at = nat_lt (byte file at) 4

abbrev pub between : ℕ → ℕ → List ℕ → ℕ → Bool
between low high file at = nat_le low (byte file at) && nat_le (byte file at) high

-- the numbers of the body of a record at a place, under so many foreach
abbrev pub in_limits : List ℕ → Kind → (depth at : ℕ) → Bool
in_limits file Cell depth at = true
in_limits file Reads depth at = true
in_limits file Writes depth at = true
in_limits file Load depth at = register file (at + 1)
in_limits file Store depth at = register file (at + 1)
in_limits file Set depth at = register file (at + 1)
in_limits file Add depth at = register file (at + 1) && register file (at + 2)
in_limits file Index depth at = register file (at + 1) && between 1 depth file (at + 2)
in_limits file When depth at = register file (at + 1)
in_limits file Less depth at = register file (at + 1) && register file (at + 2) && register file (at + 3)
in_limits file Cobegin depth at = between 2 16 file (at + 1)
in_limits file Foreach depth at = between 1 64 file (at + 1)
in_limits file End depth at = true

-- whether one more fork may be nested, where so many more may, under so many foreach
abbrev pub roomy : Fork → (forks depth : ℕ) → Bool
roomy (CobeginFork n) forks depth = nat_lt 0 forks
roomy (ForeachFork n) forks depth = nat_lt 0 forks && nat_lt depth hole_count

-- the same by the kind of a record, which is no fork otherwise
abbrev pub has_room : Kind → (forks depth : ℕ) → Bool
has_room Cell forks depth = true
has_room Reads forks depth = true
has_room Writes forks depth = true
has_room Load forks depth = true
has_room Store forks depth = true
has_room Set forks depth = true
has_room Add forks depth = true
has_room Index forks depth = true
has_room When forks depth = true
has_room Less forks depth = true
has_room Cobegin forks depth = nat_lt 0 forks
has_room Foreach forks depth = nat_lt 0 forks && nat_lt depth hole_count
has_room End forks depth = true
