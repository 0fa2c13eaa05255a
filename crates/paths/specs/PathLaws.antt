-- What holds of the regions of paths besides the laws of every theory. Assumes nothing.
--
-- held   as a program holds a region: at most 12 elements, with numbers that fit
-- read   what a filling of a pattern gives that bytes read as
use Rattle.std.specs.Prelude.{◌≡◌, ℕ, ◌≤◌, false, List, length, Ok}
use Rattle.theory.specs.Meaning.{Filling}
use Rattle.theory.specs.Reading.{Bytes}
use Rattle.rpl.specs.Inclusion.{FitCell, FitPath}
use Rattle.rpl.specs.Sharing.{AtMost}
use Rattle.paths.specs.Filling.{Pattern, Region}
use Rattle.paths.specs.PathsMeaning.{paths_meaning}

abbrev pub Held : Region → Type 0
Held r = (length r.items ≤ 12) × FitPath r.items

-- a cell of a that is not one of b, with numbers that fit
abbrev pub Witness : Region → Region → Type 0
Witness a b = (x : paths_meaning.Point) × FitCell x × paths_meaning.In a x × (paths_meaning.In b x → ⊥)

pub record PathLaws : Type 0 where
  pub read_held : (file : List ℕ) (at depth end : ℕ) (p : Pattern) (is : List ℕ) → Bytes file → paths_meaning.reads file at depth ≡ Ok (p, end) → Filling is →
      Held (paths_meaning.filled p is)
  pub short : (a b : Region) → Held a → Held b → AtMost 22 (paths_meaning.shown a b)
  pub refused : (a b : Region) → Held a → Held b → paths_meaning.within a b ≡ false → Witness a b
