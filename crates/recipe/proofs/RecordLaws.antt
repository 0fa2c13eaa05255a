-- A fork that was read has room. Assumes nothing.
use Rattle.std.proofs.Common.{◌≡◌, ℕ, ◌+◌, Bool, true, false, List, Ok, Err, Result, sym, refl, subst}
use Rattle.theory.specs.declared.fault.Flaw.TheVariants.{TooMany}
use Rattle.theory.specs.Meaning.{Meaning}
use Rattle.recipe.specs.declared.fault.Fault.{Fault}
use Rattle.recipe.specs.declared.head.Spot.{Spot}
use Rattle.recipe.specs.declared.kinds.Kind.{Kind}
use Rattle.recipe.specs.declared.kinds.Kind.TheVariants.{Cell, Reads, Writes, Load, Store, Set, Add, Index, When, Less, Cobegin, Foreach, End}
use Rattle.recipe.specs.Heads.{head, tested}
use Rattle.recipe.specs.Kinds.{has_room}
use Rattle.recipe.specs.Outlines.{Roomy, outline_of}
use Rattle.recipe.specs.Rec.{Rec}
use Rattle.recipe.specs.Records.{body, made_of, pattern, record_at, single_pattern, then}

module _ {P R C : Type 0} (m : Meaning P R C) (file : List ℕ) where
  -- a fork that is read has room
  abbrev RoomyRecord : (forks depth : ℕ) → Result (Rec P × ℕ) Fault → Type 0
  RoomyRecord forks depth (Ok (r, e)) = Roomy (outline_of r) forks depth
  RoomyRecord forks depth (Err f) = Unit {0}

  module _ (forks depth at : ℕ) where
    made_roomy : (make : P → Rec P) → ((p : P) (e : ℕ) → RoomyRecord forks depth (Ok (make p, e))) → (x : Result (P × ℕ) Fault) → RoomyRecord forks depth (then x (made_of m file make))
    made_roomy make h (Ok (p, e)) = h p e
    made_roomy make h (Err f) = tt

    body_roomy : (k : Kind) → has_room k forks depth ≡ true → RoomyRecord forks depth (body m file k depth at)
    body_roomy Cell h = made_roomy _ (λ p e. tt) (single_pattern m file at depth (at + 1))
    body_roomy Reads h = made_roomy _ (λ p e. tt) (pattern m file depth (at + 1))
    body_roomy Writes h = made_roomy _ (λ p e. tt) (pattern m file depth (at + 1))
    body_roomy Load h = made_roomy _ (λ p e. tt) (single_pattern m file at depth (at + 2))
    body_roomy Store h = made_roomy _ (λ p e. tt) (single_pattern m file at depth (at + 2))
    body_roomy Set h = tt
    body_roomy Add h = tt
    body_roomy Index h = tt
    body_roomy When h = tt
    body_roomy Less h = tt
    body_roomy Cobegin h = h
    body_roomy Foreach h = h
    body_roomy End h = tt

    tested_roomy : (k : Kind) (t : Bool) → has_room k forks depth ≡ t → RoomyRecord forks depth (tested t TooMany at (body m file k depth at))
    tested_roomy k true h = body_roomy k h
    tested_roomy k false h = tt

    head_roomy : (x : Result Kind Fault) → RoomyRecord forks depth (then x (λ kind. tested (has_room kind forks depth) TooMany at (body m file kind depth at)))
    head_roomy (Ok k) = tested_roomy k (has_room k forks depth) refl
    head_roomy (Err f) = tt

    pub record_roomy : (spot : Spot) (r : Rec P) (e : ℕ) → Ok (r, e) ≡ record_at m file spot forks depth at → Roomy (outline_of r) forks depth
    unfolding record_at
    record_roomy spot r e h = subst (RoomyRecord forks depth) (sym h) (head_roomy (head file spot depth at))
