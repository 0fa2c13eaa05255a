-- What the program's records say, without the bytes that they borrow. Assumes nothing.
use Rattle.std.specs.Prelude.{◌≡◌, ℕ, ◌+◌, ◌-◌, List, take, drop, Some, None, Ok, Err, Option, Result}
use Rattle.std.specs.Borrow.{Bor}
use Rattle.recipe.specs.declared.fault.Fault.{Fault}
use Rattle.recipe.specs.declared.record.Operation.{Operation as OperationCode}
use Rattle.recipe.specs.declared.record.Operation.TheVariants.{Load, Store, Set, Add, Index, Less}
use Rattle.recipe.specs.declared.record.Pattern.{Pattern}
use Rattle.recipe.specs.declared.record.Record.{Record}
use Rattle.recipe.specs.declared.record.Record.TheVariants.{Cell, Effect, Operation as OperationRecord, When, Fork, End}
use Rattle.recipe.specs.Rec.{Rec, cell, effect, operation, when, fork, end, Operation, load, store, set, add, index, less}

abbrev pub done : {P : Type 0} → OperationCode P → Operation P
done (Load r p) = load r p.pattern
done (Store r p) = store r p.pattern
done (Set r v) = set r v
done (Add t s) = add t s
done (Index r h) = index r h
done (Less t l r) = less t l r

abbrev pub said : {P : Type 0} → Record P → Rec P
said (Cell p) = cell p.pattern
said (Effect mode p) = effect mode p.pattern
said (OperationRecord o) = operation (done o)
said (When r) = when r
said (Fork f) = fork f
said End = end

abbrev pub told : {P : Type 0} → Result (Record P × ℕ) Fault → Result (Rec P × ℕ) Fault
told (Ok (r, after)) = Ok (said r, after)
told (Err f) = Err f

abbrev pub patterned : {P : Type 0} → Result (Pattern P × ℕ) Fault → Result (P × ℕ) Fault
patterned (Ok (p, after)) = Ok (p.pattern, after)
patterned (Err f) = Err f

-- what a reference shows, where there is one
abbrev pub viewed : {X : Type 0} → Option (Bor X) → Option X
viewed (Some r) = Some r.now
viewed None = None

abbrev pub viewed_with : {M X : Type 0} → Option (M × Bor X) → Option (M × X)
viewed_with (Some (mode, r)) = Some (mode, r.now)
viewed_with None = None

-- the bytes of a file from one place to another
abbrev pub part : List ℕ → ℕ → ℕ → List ℕ
part file from to = take (to - from) (drop from file)

-- a record borrows the bytes of its pattern, which end where the record does
abbrev pub OperationBorrows : {P : Type 0} → List ℕ → ℕ → ℕ → OperationCode P → Type 0
OperationBorrows file at after (Load r p) = p.bytes.now ≡ part file (at + 2) after
OperationBorrows file at after (Store r p) = p.bytes.now ≡ part file (at + 2) after
OperationBorrows file at after (Set r v) = Unit {0}
OperationBorrows file at after (Add t s) = Unit {0}
OperationBorrows file at after (Index r h) = Unit {0}
OperationBorrows file at after (Less t l r) = Unit {0}

abbrev pub Borrows : {P : Type 0} → List ℕ → ℕ → ℕ → Record P → Type 0
Borrows file at after (Cell p) = p.bytes.now ≡ part file (at + 1) after
Borrows file at after (Effect mode p) = p.bytes.now ≡ part file (at + 1) after
Borrows file at after (OperationRecord o) = OperationBorrows file at after o
Borrows file at after (When r) = Unit {0}
Borrows file at after (Fork f) = Unit {0}
Borrows file at after End = Unit {0}
