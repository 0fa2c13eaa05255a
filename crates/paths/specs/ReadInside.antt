-- Reading ends within the file, after its place, and so do its faults. Assumes nothing.
use Rattle.std.specs.Prelude.{ℕ, zero, suc, ◌+◌, ◌<◌, ◌≤◌, List, length, Some, None, Option, Ok, Err, Result, nat_le, nat_lt}
use Rattle.std.proofs.Common.{arith, leb-true, ltb-true}
use Rattle.theory.specs.declared.fault.Flaw.{Flaw}
use Rattle.theory.specs.declared.fault.Flaw.TheVariants.{Cut, Limit, TooMany}
use Rattle.theory.specs.declared.fault.PatternFault.{PatternFault}
use Rattle.theory.specs.Meaning.{Inside}
use Rattle.theory.specs.Reading.{byte, flawed}
use Rattle.theory.proofs.Inside.{fault_inside, later_inside, provided_inside}
use Rattle.paths.specs.declared.pattern.Piece.{Piece}
use Rattle.paths.specs.declared.kind.Kind.{Kind}
use Rattle.paths.specs.declared.kind.Kind.TheVariants as kind
use Rattle.paths.specs.Filling.{Pattern}
use Rattle.paths.specs.Kinds.{kind_of}
use Rattle.paths.specs.Reading.{added, after, allowed_hole, blank, of_kind, path_reads, read_on, record_at, whole}

module _ (file : List ℕ) where
  whole_inside : (at n : ℕ) (r : Result (Option Piece × ℕ) PatternFault) → at ≤ length file → (at + 1 + n ≤ length file → Inside file at r) → Inside file at (whole file at n r)
  whole_inside at n r h f = provided_inside file at (nat_le (at + 1 + n) (length file)) Cut r h (λ e. f (leb-true (at + 1 + n) (length file) e))

  kind_inside : (k : Result Kind Flaw) (depth at : ℕ) → at < length file → Inside file at (of_kind k file depth at)
  kind_inside (Ok kind.End) depth at h = (omega arith, omega arith)
  kind_inside (Ok kind.Name) depth at h = whole_inside at 2 _ (omega arith) (λ k. (omega arith, omega arith))
  kind_inside (Ok kind.Index) depth at h = whole_inside at 4 _ (omega arith) (λ k. (omega arith, omega arith))
  kind_inside (Ok kind.Star) depth at h = (omega arith, omega arith)
  kind_inside (Ok kind.AnyIndex) depth at h = (omega arith, omega arith)
  kind_inside (Ok kind.FilledIndex) depth at h =
      whole_inside at 4 _ (omega arith) (λ k. provided_inside file at (allowed_hole depth (byte file (at + 1))) Limit _ (omega arith) (λ _. (omega arith, omega arith)))
  kind_inside (Err flaw) depth at h = fault_inside file at flaw (omega arith)

  record_inside : (depth at : ℕ) → at ≤ length file → Inside file at (record_at file depth at)
  record_inside depth at h =
      provided_inside file at (nat_lt at (length file)) Cut _ h (λ e. kind_inside (kind_of (byte file at)) depth at (ltb-true at (length file) e))

  after_inside : (at : ℕ) (p : Pattern) (more : Piece → ℕ → Result (Pattern × ℕ) PatternFault) (r : Result (Option Piece × ℕ) PatternFault) →
      Inside file at r → ((x : Piece) (next : ℕ) → at < next → next ≤ length file → Inside file at (more x next)) → Inside file at (after p more r)
  after_inside at p more (Ok (None, next)) i f = i
  after_inside at p more (Ok (Some x, next)) (i, j) f = f x next i j
  after_inside at p more (Err e) i f = i

  on_inside : (left depth : ℕ) (p : Pattern) (at : ℕ) → at ≤ length file → Inside file at (read_on left file depth p at)
  on_inside zero depth p at h =
      after_inside at p (λ x next. Err (flawed TooMany at)) (record_at file depth at) (record_inside depth at h) (λ x next i j. fault_inside file at TooMany h)
  on_inside (suc left) depth p at h =
      after_inside at p (λ x next. read_on left file depth (added p x) next) (record_at file depth at) (record_inside depth at h)
      (λ x next i j. later_inside file at next (read_on left file depth (added p x) next) i (on_inside left depth (added p x) next j))

  pub path_inside : (at depth : ℕ) → at ≤ length file → Inside file at (path_reads file at depth)
  unfolding path_reads
  path_inside at depth = on_inside 12 depth blank at
