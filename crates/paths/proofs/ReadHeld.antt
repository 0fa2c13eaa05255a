-- What is read fits its types, whatever the filling. Assumes nothing.
use Rattle.std.proofs.Common.{◌≡◌, ℕ, zero, suc, ◌+◌, ◌*◌, ◌≤◌, Bool, true, false, cond, ltb, leb, List, [], ◌∷◌, ◌++◌, map, length, Some, None, Option, Ok, Err, Result, subst, length-append, mul-le-mul, arith}
use Rattle.std.proofs.lemmas.List.{length-map}
use Rattle.theory.specs.declared.fault.Flaw.{Flaw}
use Rattle.theory.specs.declared.fault.PatternFault.{PatternFault}
use Rattle.theory.specs.Meaning.{Filling, index_of}
use Rattle.theory.specs.Reading.{Bytes, byte, four_bytes, word}
use Rattle.theory.proofs.Holes.{index_small}
use Rattle.rpl.specs.Inclusion.{FitElement, FitPath}
use Rattle.paths.specs.declared.pattern.FilledIndex.{FilledIndex}
use Rattle.paths.specs.declared.pattern.Piece.{Piece}
use Rattle.paths.specs.declared.pattern.Piece.TheVariants.{Fixed, Filled}
use Rattle.paths.specs.declared.kind.Kind.{Kind}
use Rattle.paths.specs.declared.kind.Kind.TheVariants as kind
use Rattle.paths.specs.Filling.{Pattern, path_filled, piece_filled}
use Rattle.paths.specs.Kinds.{kind_of}
use Rattle.paths.specs.PathLaws.{Held}
use Rattle.paths.specs.Reading.{added, after, allowed_hole, blank, of_kind, path_reads, read_on, record_at, whole}

-- a piece fits, and so a pattern, and what a record says
abbrev FitPiece : Piece → Type 0
FitPiece (Fixed a) = FitElement a
FitPiece (Filled f) = (f.scale ≤ 255) × (f.offset ≤ 65535)

abbrev FitPieces : List Piece → Type 0
FitPieces [] = Unit {0}
FitPieces (x ∷ xs) = FitPiece x × FitPieces xs

abbrev FitPattern : Pattern → Type 0
FitPattern p = (length p.items ≤ 12) × FitPieces p.items

abbrev FitRead : Result (Option Piece × ℕ) PatternFault → Type 0
FitRead (Ok (None, next)) = Unit {0}
FitRead (Ok (Some x, next)) = FitPiece x
FitRead (Err f) = Unit {0}

-- reading
either_fits : (b : Bool) (r q : Result (Option Piece × ℕ) PatternFault) → FitRead r → FitRead q → FitRead (cond b r q)
either_fits true r q f g = f
either_fits false r q f g = g

module _ (file : List ℕ) (bytes : Bytes file) where
  two_fit : (at : ℕ) → word file at ≤ 65535
  two_fit at = omega (arith, bytes at, bytes (at + 1))

  four_fit : (at : ℕ) → four_bytes file at ≤ 4294967295
  four_fit at = omega (arith, two_fit at, two_fit (at + 2))

  whole_fits : (at n : ℕ) (r : Result (Option Piece × ℕ) PatternFault) → FitRead r → FitRead (whole file at n r)
  whole_fits at n r f = either_fits (leb (at + 1 + n) (length file)) r _ f tt

  kind_fits : (k : Result Kind Flaw) (depth at : ℕ) → FitRead (of_kind k file depth at)
  kind_fits (Ok kind.End) depth at = tt
  kind_fits (Ok kind.Name) depth at = whole_fits at 2 _ (two_fit (at + 1))
  kind_fits (Ok kind.Index) depth at = whole_fits at 4 _ (four_fit (at + 1))
  kind_fits (Ok kind.Star) depth at = tt
  kind_fits (Ok kind.AnyIndex) depth at = tt
  kind_fits (Ok kind.FilledIndex) depth at =
      whole_fits at 4 _ (either_fits (allowed_hole depth (byte file (at + 1))) _ _ (omega (arith, bytes (at + 2)), two_fit (at + 3)) tt)
  kind_fits (Err flaw) depth at = tt

  record_fits : (depth at : ℕ) → FitRead (record_at file depth at)
  record_fits depth at = either_fits (ltb at (length file)) _ _ (kind_fits (kind_of (byte file at)) depth at) tt

  more_fits : (xs : List Piece) (x : Piece) → FitPieces xs → FitPiece x → FitPieces (xs ++ x ∷ [])
  more_fits [] x f g = (g, tt)
  more_fits (y ∷ ys) x f g = (f.0, more_fits ys x f.1 g)

  abbrev FitWhole : Result (Pattern × ℕ) PatternFault → Type 0
  FitWhole (Ok (p, end)) = FitPattern p
  FitWhole (Err f) = Unit {0}

  after_fits : (p : Pattern) (more : Piece → ℕ → Result (Pattern × ℕ) PatternFault) (r : Result (Option Piece × ℕ) PatternFault) →
      FitPattern p → FitRead r → ((x : Piece) (next : ℕ) → FitPiece x → FitWhole (more x next)) → FitWhole (after p more r)
  after_fits p more (Ok (None, next)) f g h = f
  after_fits p more (Ok (Some x, next)) f g h = h x next g
  after_fits p more (Err e) f g h = tt

  on_fits : (left depth : ℕ) (p : Pattern) (at : ℕ) → length p.items + left ≤ 12 → FitPieces p.items → FitWhole (read_on left file depth p at)
  on_fits zero depth p at h f = after_fits p _ (record_at file depth at) (omega arith, f) (record_fits depth at) (λ x next g. tt)
  on_fits (suc left) depth p at h f =
      after_fits p (λ x next. read_on left file depth (added p x) next) (record_at file depth at) (omega arith, f) (record_fits depth at)
      (λ x next g. on_fits left depth (added p x) next (omega (arith, length-append p.items (x ∷ []))) (more_fits p.items x f g))

  path_fits : (at depth : ℕ) → FitWhole (path_reads file at depth)
  unfolding path_reads
  path_fits at depth = on_fits 12 depth blank at (omega arith) tt

-- filling: 255 × 63 + 65,535 is 81,600
index_fits : (is : List ℕ) (f : FilledIndex) → Filling is → f.scale ≤ 255 → f.offset ≤ 65535 → f.scale * index_of is f.hole + f.offset ≤ 4294967295
index_fits is f g h k = omega (arith, mul-le-mul h (index_small is f.hole g))

filled_fits : (is : List ℕ) (pieces : List Piece) → Filling is → FitPieces pieces → FitPath (map (piece_filled is) pieces)
filled_fits is [] g f = tt
filled_fits is (Fixed a ∷ pieces) g f = (f.0, filled_fits is pieces g f.1)
filled_fits is (Filled x ∷ pieces) g f = (index_fits is x g f.0.0 f.0.1, filled_fits is pieces g f.1)

pub read_held : (file : List ℕ) (at depth end : ℕ) (p : Pattern) (is : List ℕ) → Bytes file → path_reads file at depth ≡ Ok (p, end) → Filling is → Held (path_filled p is)
read_held file at depth end p is b e g =
    let f : FitPattern p = subst (FitWhole file b) e (path_fits file b at depth) in
    (omega (arith, length-map p.items (piece_filled is)), filled_fits is p.items g f.1)
