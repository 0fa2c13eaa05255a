-- What blocks and statements read as, under a theory. Assumes nothing.
--
-- forks    how many more forks may be nested
-- depth    how many foreach enclose
use Rattle.std.specs.Prelude.{ℕ, zero, suc, ◌+◌, cond, List, [], ◌∷◌, length, Some, None, Ok, Err, Option, Result}
use Rattle.theory.specs.declared.fault.Flaw.TheVariants.{Cut, Kind, TooMany}
use Rattle.theory.specs.Meaning.{Meaning}
use Rattle.recipe.specs.declared.fault.Fault.{Fault}
use Rattle.recipe.specs.declared.fault.Fault.TheVariants.{Record}
use Rattle.recipe.specs.declared.head.Spot.TheVariants.{Effects, Statements as InBlock, Guarded}
use Rattle.recipe.specs.declared.record.Fork.{Fork}
use Rattle.recipe.specs.declared.record.Fork.TheVariants.{Cobegin, Foreach}
use Rattle.recipe.specs.Heads.{begins}
use Rattle.recipe.specs.Records.{record_at, then}
use Rattle.recipe.specs.Rec.{Rec, cell, effect, operation, when, fork, end}
use Rattle.recipe.specs.Tree.{Effect, Block, block, Statements, stop, next, Statement, simple, guarded, cobegin, foreach, Blocks, none, more}

abbrev pub most_effects : ℕ
most_effects = 16

abbrev pub most_forks : ℕ
most_forks = 6

module _ {P R C : Type 0} (m : Meaning P R C) (file : List ℕ) where
  -- the effects from a place on, of which so many more may come, and their end
  abbrev pub with_effect : ℕ → Rec P → List (Effect P) → List (Effect P)
  with_effect at (cell p) es = es
  with_effect at (effect mode p) es = record { place = at; mode = mode; pattern = p } ∷ es
  with_effect at (operation o) es = es
  with_effect at (when r) es = es
  with_effect at (fork f) es = es
  with_effect at end es = es

  unfoldable pub effects : (room depth at : ℕ) → Result (List (Effect P) × ℕ) Fault
  effects zero depth at = cond (begins file Effects at) (Err (Record TooMany at)) (Ok ([], at))
  effects (suc room) depth at =
      cond (begins file Effects at)
      (then (record_at m file Effects 0 depth at) (λ r. then (effects room depth r.1) (λ es. Ok (with_effect at r.0 es.0, es.1))))
      (Ok ([], at))

  -- how the blocks below a fork are read: under so many foreach, from a place on
  abbrev pub Inner : Type 0
  Inner = (depth at : ℕ) → Result (Block P × ℕ) Fault

  -- so many blocks, one after another
  unfoldable pub branches : Inner → (count depth at : ℕ) → Result (Blocks P × ℕ) Fault
  branches inner zero depth at = Ok (none, at)
  branches inner (suc n) depth at =
      then (inner depth at) (λ b. then (branches inner n depth b.1) (λ bs. Ok (more b.0 bs.0, bs.1)))

  -- the blocks of the fork at a place, from behind its record on
  abbrev pub forking : Inner → (depth at : ℕ) → Fork → ℕ → Result (Statement P × ℕ) Fault
  forking inner depth at (Cobegin n) behind = then (branches inner n depth behind) (λ bs. Ok (cobegin at bs.0, bs.1))
  forking inner depth at (Foreach n) behind = then (inner (depth + 1) behind) (λ b. Ok (foreach at n b.0, b.1))

  -- the statement whose record at a place was read, other than a When; other records begin no statement
  abbrev pub plain : Inner → (depth at : ℕ) → Rec P × ℕ → Result (Statement P × ℕ) Fault
  plain inner depth at (cell p, behind) = Err (Record Kind at)
  plain inner depth at (effect mode p, behind) = Err (Record Kind at)
  plain inner depth at (operation o, behind) = Ok (simple at o, behind)
  plain inner depth at (when r, behind) = Err (Record Kind at)
  plain inner depth at (fork f, behind) = forking inner depth at f behind
  plain inner depth at (end, behind) = Err (Record Kind at)

  -- the statement under a When
  unfoldable pub under : Inner → (forks depth at : ℕ) → Result (Statement P × ℕ) Fault
  under inner forks depth at = then (record_at m file Guarded forks depth at) (plain inner depth at)

  -- the statement whose record at a place was read; none at the End of the block
  abbrev pub some_statement : Statement P × ℕ → Result (Option (Statement P) × ℕ) Fault
  some_statement s = Ok (Some s.0, s.1)

  abbrev pub statement_of : Inner → (forks depth at : ℕ) → Rec P × ℕ → Result (Option (Statement P) × ℕ) Fault
  statement_of inner forks depth at (cell p, behind) = Err (Record Kind at)
  statement_of inner forks depth at (effect mode p, behind) = Err (Record Kind at)
  statement_of inner forks depth at (operation o, behind) = Ok (Some (simple at o), behind)
  statement_of inner forks depth at (when r, behind) = then (under inner forks depth behind) (λ s. Ok (Some (guarded at r s.0), s.1))
  statement_of inner forks depth at (fork f, behind) = then (forking inner depth at f behind) some_statement
  statement_of inner forks depth at (end, behind) = Ok (None, behind)

  unfoldable pub statement : Inner → (forks depth at : ℕ) → Result (Option (Statement P) × ℕ) Fault
  statement inner forks depth at = then (record_at m file InBlock forks depth at) (statement_of inner forks depth at)

  -- the rest of the statements, up to the End
  abbrev pub onward : (ℕ → Result (Statements P × ℕ) Fault) → ℕ → Option (Statement P) × ℕ → Result (Statements P × ℕ) Fault
  onward rest at (None, behind) = Ok (stop at, behind)
  onward rest at (Some s, behind) = then (rest behind) (λ ss. Ok (next s ss.0, ss.1))

  -- the statements from a place on; each has a byte at least, so that fuel of one more than the bytes of the file is
  -- enough
  unfoldable pub statements : Inner → (forks depth fuel at : ℕ) → Result (Statements P × ℕ) Fault
  statements inner forks depth zero at = Err (Record Cut at)
  statements inner forks depth (suc fuel) at = then (statement inner forks depth at) (onward (statements inner forks depth fuel) at)

  -- a block: its effects, then its statements
  abbrev pub block_by : Inner → (forks depth at : ℕ) → Result (Block P × ℕ) Fault
  block_by inner forks depth at =
      then (effects most_effects depth at) (λ es. then (statements inner forks depth (suc (length file)) es.1) (λ ss. Ok (block at es.0 ss.0, ss.1)))

  -- the block at a place, with so many more forks nested in it
  unfoldable pub inner : (forks : ℕ) → Inner
  inner zero depth at = Err (Record TooMany at)
  inner (suc forks) depth at = block_by (inner forks) forks depth at

  unfoldable pub block_at : (forks : ℕ) → Inner
  block_at forks depth at = block_by (inner forks) forks depth at
