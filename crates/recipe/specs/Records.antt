-- What the records of a file read as, under a theory. Assumes nothing.
use Rattle.std.specs.Prelude.{ℕ, ◌+◌, cond, List, Ok, Err, Result}
use Rattle.theory.specs.declared.fault.Flaw.TheVariants.{TooMany}
use Rattle.theory.specs.declared.fault.PatternFault.{PatternFault}
use Rattle.theory.specs.Meaning.{Meaning}
use Rattle.theory.specs.Reading.{byte, four_bytes}
use Rattle.recipe.specs.declared.fault.Fault.{Fault}
use Rattle.recipe.specs.declared.fault.Fault.TheVariants.{Pattern as InPattern, NotSingle}
use Rattle.recipe.specs.declared.head.Spot.{Spot}
use Rattle.recipe.specs.declared.kinds.Kind.{Kind}
use Rattle.recipe.specs.declared.kinds.Kind.TheVariants.{Cell, Reads, Writes, Load, Store, Set, Add, Index, When, Less, Cobegin, Foreach, End}
use Rattle.recipe.specs.declared.record.Fork.TheVariants.{Cobegin as CobeginFork, Foreach as ForeachFork}
use Rattle.recipe.specs.declared.record.Mode.TheVariants.{Reads as ReadsMode, Writes as WritesMode}
use Rattle.recipe.specs.Heads.{head, tested}
use Rattle.recipe.specs.Kinds.{has_room}
use Rattle.recipe.specs.Rec.{Rec, cell, effect, operation, when, fork, end, load, store, set, add, index, less}

-- what follows a value that was read; the fault where none was
abbrev pub then : {X Y : Type 0} → Result X Fault → (X → Result Y Fault) → Result Y Fault
then (Ok x) next = next x
then (Err f) next = Err f

abbrev pub mapped : {X Y : Type 0} → (X → Y) → Result X Fault → Result Y Fault
mapped f (Ok x) = Ok (f x)
mapped f (Err e) = Err e

abbrev pub in_pattern : {X : Type 0} → Result X PatternFault → Result X Fault
in_pattern (Ok x) = Ok x
in_pattern (Err f) = Err (InPattern f)

module _ {P R C : Type 0} (m : Meaning P R C) (file : List ℕ) where
  -- the pattern at a place, and its end
  abbrev pub pattern : (depth at : ℕ) → Result (P × ℕ) Fault
  pattern depth at = in_pattern (m.reads file at depth)

  -- the same for a pattern that must be single, which is told at the record that owns it
  abbrev pub lone : (owner : ℕ) → P × ℕ → Result (P × ℕ) Fault
  lone owner (p, after) = cond (m.single p) (Ok (p, after)) (Err (NotSingle owner))

  abbrev pub single_pattern : (owner depth at : ℕ) → Result (P × ℕ) Fault
  single_pattern owner depth at = then (pattern depth at) (lone owner)

  abbrev pub made_of : (P → Rec P) → P × ℕ → Result (Rec P × ℕ) Fault
  made_of made (p, after) = Ok (made p, after)

  -- the record of a kind whose head is in order, and its end
  abbrev pub body : Kind → (depth at : ℕ) → Result (Rec P × ℕ) Fault
  body Cell depth at = then (single_pattern at depth (at + 1)) (made_of cell)
  body Reads depth at = then (pattern depth (at + 1)) (made_of (effect ReadsMode))
  body Writes depth at = then (pattern depth (at + 1)) (made_of (effect WritesMode))
  body Load depth at = then (single_pattern at depth (at + 2)) (made_of (λ p. operation (load (byte file (at + 1)) p)))
  body Store depth at = then (single_pattern at depth (at + 2)) (made_of (λ p. operation (store (byte file (at + 1)) p)))
  body Set depth at = Ok (operation (set (byte file (at + 1)) (four_bytes file (at + 2))), at + 6)
  body Add depth at = Ok (operation (add (byte file (at + 1)) (byte file (at + 2))), at + 3)
  body Index depth at = Ok (operation (index (byte file (at + 1)) (byte file (at + 2))), at + 3)
  body When depth at = Ok (when (byte file (at + 1)), at + 2)
  body Less depth at = Ok (operation (less (byte file (at + 1)) (byte file (at + 2)) (byte file (at + 3))), at + 4)
  body Cobegin depth at = Ok (fork (CobeginFork (byte file (at + 1))), at + 2)
  body Foreach depth at = Ok (fork (ForeachFork (byte file (at + 1))), at + 2)
  body End depth at = Ok (end, at + 1)

  -- the record at a place and its end: its head, then one fork too many, then its body and its pattern
  unfoldable pub record_at : Spot → (forks depth at : ℕ) → Result (Rec P × ℕ) Fault
  record_at spot forks depth at =
      then (head file spot depth at) (λ kind. tested (has_room kind forks depth) TooMany at (body kind depth at))
