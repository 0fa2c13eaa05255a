-- The records of a file, with what their bodies and patterns say. Assumes nothing.
--
-- operation   a statement that does its work in one step
use Rattle.std.specs.Prelude.{ℕ, Some, None, Option}
use Rattle.recipe.specs.declared.record.Fork.{Fork}
use Rattle.recipe.specs.declared.record.Mode.{Mode}
use Rattle.recipe.specs.declared.record.Mode.TheVariants.{Reads, Writes}

pub data Operation (P : Type 0) : Type 0 where
  load : ℕ → P → Operation P
  store : ℕ → P → Operation P
  set : ℕ → ℕ → Operation P
  add : ℕ → ℕ → Operation P
  index : ℕ → ℕ → Operation P
  less : ℕ → ℕ → ℕ → Operation P

-- one record, with what its body and its pattern say
pub data Rec (P : Type 0) : Type 0 where
  cell : P → Rec P
  effect : Mode → P → Rec P
  operation : Operation P → Rec P
  when : ℕ → Rec P
  fork : Fork → Rec P
  end : Rec P

-- the pattern of a Cell
abbrev pub cell_pattern : {P : Type 0} → Rec P → Option P
cell_pattern (cell p) = Some p
cell_pattern (effect mode p) = None
cell_pattern (operation o) = None
cell_pattern (when r) = None
cell_pattern (fork f) = None
cell_pattern end = None

-- what an effect states, and of which pattern
abbrev pub effect_stated : {P : Type 0} → Rec P → Option (Mode × P)
effect_stated (cell p) = None
effect_stated (effect mode p) = Some (mode, p)
effect_stated (operation o) = None
effect_stated (when r) = None
effect_stated (fork f) = None
effect_stated end = None

-- a Load reads its cell, and a Store writes it
abbrev pub operation_access : {P : Type 0} → Operation P → Option (Mode × P)
operation_access (load r p) = Some (Reads, p)
operation_access (store r p) = Some (Writes, p)
operation_access (set r v) = None
operation_access (add t r) = None
operation_access (index r h) = None
operation_access (less t l r) = None

abbrev pub access_made : {P : Type 0} → Rec P → Option (Mode × P)
access_made (cell p) = None
access_made (effect mode p) = None
access_made (operation o) = operation_access o
access_made (when r) = None
access_made (fork f) = None
access_made end = None
