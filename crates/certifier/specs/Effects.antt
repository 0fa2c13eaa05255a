-- The effects of strands: when one covers another, and when two interfere. Assumes nothing.
--
-- effect       what a strand states of a region: that it reads its cells, or that it writes them
-- grants       what an effect allows: Writes allows both to write and to read, Reads only to read
-- covered      an effect that lies within a single effect which grants it; an access that such an effect has the cell of
-- interfere    two effects that share a cell, at least one of which is Writes
use Rattle.std.specs.List.{list_any}
use Rattle.std.specs.Prelude.{ℕ, Bool, true, false, cond, ◌&&◌, ◌||◌, List, map, None, Option}
use Rattle.theory.specs.Meaning.{Meaning}
use Rattle.recipe.specs.declared.record.Mode.{Mode}
use Rattle.recipe.specs.declared.record.Mode.TheVariants.{Reads, Writes}
use Rattle.recipe.specs.Tree.{Effect as Stated}
use Rattle.certifier.specs.declared.effect.Effect.{Effect}

abbrev pub writes : Mode → Bool
writes Reads = false
writes Writes = true

abbrev pub grants : Mode → Mode → Bool
grants Writes asked = true
grants Reads Reads = true
grants Reads Writes = false

module _ {P R C : Type 0} (m : Meaning P R C) where
  -- an effect of a block, filled with the indices of a strand
  abbrev pub filled_effect : List ℕ → Stated P → Effect R
  filled_effect is e = record { place = e.place; mode = e.mode; region = m.filled e.pattern is }

  abbrev pub filled_effects : List ℕ → List (Stated P) → List (Effect R)
  filled_effects is es = map (filled_effect is) es

  abbrev pub covers : Effect R → Effect R → Bool
  covers by e = grants by.mode e.mode && m.within e.region by.region

  abbrev pub covered : List (Effect R) → Effect R → Bool
  covered own e = list_any (λ by. covers by e) own

  -- the access to a cell by a Load, which reads, or by a Store, which writes
  abbrev pub admits : Effect R → Mode → m.Point → Bool
  admits by mode x = grants by.mode mode && m.has by.region x

  abbrev pub access_covered : List (Effect R) → Mode → m.Point → Bool
  access_covered own mode x = list_any (λ by. admits by mode x) own

  -- a cell by which two effects interfere
  abbrev pub interference : Effect R → Effect R → Option m.Point
  interference e f = cond (writes e.mode || writes f.mode) (m.shown e.region f.region) None
