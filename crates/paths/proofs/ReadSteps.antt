-- One step of reading a path. Assumes nothing.
use Rattle.std.proofs.Common.{◌≡◌, ℕ, zero, suc, ◌-◌, ◌<◌, ◌≤◌, ◌==◌, false, sym, List, [], ◌∷◌, ◌++◌, length, Some, None, Ok, Err, Option, ap, length-append, arith}
use Rattle.std.proofs.lemmas.Bool.{eqb-false}
use Rattle.theory.specs.declared.fault.Flaw.TheVariants.{TooMany}
use Rattle.theory.specs.declared.fault.PatternFault.{PatternFault}
use Rattle.paths.specs.declared.pattern.Piece.{Piece}
use Rattle.paths.specs.Filling.{Pattern}
use Rattle.paths.specs.Reading.{added, after, path_reads, read_on, record_at}
use Rattle.theory.specs.Reading.{flawed}

abbrev whole : List Piece → Pattern
whole xs = record { items = xs }

module _ (file : List ℕ) (depth : ℕ) (p : Pattern) (at : ℕ) where
  pub read_fault : (left : ℕ) (f : PatternFault) → Err f ≡ record_at file depth at → Err f ≡ read_on left file depth p at
  read_fault zero f e = ap (after p _) e
  read_fault (suc left) f e = ap (after p _) e

  pub read_end : (left next : ℕ) (r : Option Piece) → r ≡ None → Ok (r, next) ≡ record_at file depth at → Ok (p, next) ≡ read_on left file depth p at
  read_end zero next r n e = ap (after p _) (rw n at e)
  read_end (suc left) next r n e = ap (after p _) (rw n at e)

  pub read_full : (left next : ℕ) (r : Option Piece) (x : Piece) → left ≡ 0 → r ≡ Some x → Ok (r, next) ≡ record_at file depth at → Err (flawed TooMany at) ≡ read_on left file depth p at
  read_full zero next r x z n e = ap (after p _) (rw n at e)
  read_full (suc left) next r x z n e = absurd (omega arith)

  pub read_next : (left next : ℕ) (r : Option Piece) (x : Piece) (q : Pattern) → left ≡ 12 - length p.items → length p.items < 12 → r ≡ Some x → Ok (r, next) ≡ record_at file depth at →
      q.items ≡ p.items ++ x ∷ [] → read_on (12 - length q.items) file depth q next ≡ read_on left file depth p at
  read_next zero next r x q l h n e f = absurd (omega arith)
  read_next (suc left) next r x q l h n e f =
      let m : 12 - length q.items ≡ left = omega (arith, ap length f, length-append p.items (x ∷ [])) in
      let g : q ≡ added p x = ap whole f in
      rw (m, g) (ap (after p _) (rw n at e))

pub read_start : (file : List ℕ) (at depth : ℕ) (p : Pattern) → p.items ≡ [] → read_on (12 - length p.items) file depth p at ≡ path_reads file at depth
unfolding path_reads
read_start file at depth p e = ap (λ (xs : List Piece). read_on (12 - length xs) file depth (whole xs) at) e

-- a pattern that is not full has room
pub not_full : (n : ℕ) → n ≤ 12 → false ≡ (n == 12) → n < 12
not_full n h e = omega (arith, eqb-false n 12 (sym e))

-- what the reading of a path stands on
pub ruleset read_steps = (read_fault, read_end, read_full, read_next, read_start)
