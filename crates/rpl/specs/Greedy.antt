-- Greedy matching of a path with a word. Assumes nothing.
--
-- outcome   Match: the path has the word; Miss: it has not;
--           Short: it has neither the word nor any word that is left when letters are taken off its front
use Rattle.std.specs.Prelude.{Bool, true, false, cond, List, [], ◌∷◌}
use Rattle.rpl.specs.declared.matching.Outcome.{Outcome}
use Rattle.rpl.specs.declared.matching.Outcome.TheVariants.{Match, Miss, Short}
use Rattle.rpl.specs.declared.element.Key.{Key}
use Rattle.rpl.specs.declared.element.Part.{Part}
use Rattle.rpl.specs.declared.element.Element.{Element}
use Rattle.rpl.specs.declared.element.Element.TheVariants.{Star, One}
use Rattle.rpl.specs.Paths.{stands}

-- a star goes on only after a miss: what is short stays short with fewer letters
abbrev pub onward : Outcome → Outcome → Outcome
onward Match later = Match
onward Miss later = later
onward Short later = Short

-- a star in front of the rest of the path
abbrev pub star_then : {L : Type 0} → (List L → Outcome) → List L → Outcome
star_then rest [] = onward (rest []) Short
star_then rest (e ∷ w) = onward (rest (e ∷ w)) (star_then rest w)

-- a part in front of the rest of the path
abbrev pub one_then : {L : Type 0} → (L → Bool) → (List L → Outcome) → List L → Outcome
one_then takes rest [] = Short
one_then takes rest (e ∷ w) = cond (takes e) (rest w) Miss

-- the empty path
abbrev pub ended : {L : Type 0} → List L → Outcome
ended [] = Match
ended (e ∷ w) = Miss

abbrev pub greedy : {L : Type 0} → (Part → L → Bool) → List Element → List L → Outcome
greedy takes [] w = ended w
greedy takes (Star ∷ p) w = star_then (greedy takes p) w
greedy takes (One a ∷ p) w = one_then (takes a) (greedy takes p) w

abbrev pub is_match : Outcome → Bool
is_match Match = true
is_match Miss = false
is_match Short = false

-- has the path the cell
abbrev pub has_cell : List Element → List Key → Bool
has_cell p w = is_match (greedy stands p w)
