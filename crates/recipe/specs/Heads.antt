-- The head of a record: its kind byte and its body, tested in order. Assumes nothing.
use Rattle.std.specs.Prelude.{ℕ, ◌+◌, Bool, false, cond, List, length, Some, None, Ok, Err, Option, Result, nat_le, nat_lt}
use Rattle.theory.specs.declared.fault.Flaw.{Flaw}
use Rattle.theory.specs.declared.fault.Flaw.TheVariants.{Cut, Kind as KindFlaw, Limit}
use Rattle.theory.specs.Reading.{byte}
use Rattle.recipe.specs.declared.fault.Fault.{Fault}
use Rattle.recipe.specs.declared.fault.Fault.TheVariants.{Record}
use Rattle.recipe.specs.declared.head.Spot.{Spot}
use Rattle.recipe.specs.declared.kinds.Kind.{Kind}
use Rattle.recipe.specs.Kinds.{allowed, body_of, in_limits, kind_of}

-- what follows a test that is met; a fault of the record where it is not
abbrev pub tested : {X : Type 0} → Bool → Flaw → ℕ → Result X Fault → Result X Fault
tested met flaw at next = cond met next (Err (Record flaw at))

-- of a kind: allowed there, its body whole, its numbers within their limits
abbrev pub whole : List ℕ → Spot → (depth at : ℕ) → Option Kind → Result Kind Fault
whole file spot depth at None = Err (Record KindFlaw at)
whole file spot depth at (Some kind) =
    tested (allowed spot kind) KindFlaw at
    (tested (nat_le (at + 1 + body_of kind) (length file)) Cut at
    (tested (in_limits file kind depth at) Limit at (Ok kind)))

-- the kind byte is within the file
unfoldable pub head : List ℕ → Spot → (depth at : ℕ) → Result Kind Fault
head file spot depth at = tested (nat_lt at (length file)) Cut at (whole file spot depth at (kind_of (byte file at)))

-- whether a record that may stand at the spot begins at a place
abbrev pub may_stand : Spot → Option Kind → Bool
may_stand spot None = false
may_stand spot (Some kind) = allowed spot kind

unfoldable pub begins : List ℕ → Spot → ℕ → Bool
begins file spot at = cond (nat_lt at (length file)) (may_stand spot (kind_of (byte file at))) false
