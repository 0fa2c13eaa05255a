-- Greedy matching decides which words a path has, over any letters. Assumes nothing.
use Rattle.std.proofs.Common.{Bool, true, false, cond, List, [], ◌∷◌}
use Rattle.theory.specs.Meaning.{Tells}
use Rattle.theory.specs.Telling.{tells_eqb}
use Rattle.rpl.specs.declared.element.Key.{Key}
use Rattle.rpl.specs.declared.element.Key.TheVariants.{Named, Indexed}
use Rattle.rpl.specs.declared.element.Part.{Part}
use Rattle.rpl.specs.declared.element.Part.TheVariants.{Name, Index, AnyIndex}
use Rattle.rpl.specs.declared.element.Element.{Element}
use Rattle.rpl.specs.declared.element.Element.TheVariants.{Star, One}
use Rattle.rpl.specs.declared.matching.Outcome.{Outcome}
use Rattle.rpl.specs.declared.matching.Outcome.TheVariants.{Match, Miss, Short}
use Rattle.rpl.specs.Paths.{Cells, Matches, Stands, done, more, one, skip, stands}
use Rattle.rpl.specs.Greedy.{greedy, has_cell, is_match, onward, star_then}

module _ {L : Type 0} (Takes : Part → L → Type 0) where
  -- what an outcome says; a path has a word less some front letters exactly when a star before it has the word
  abbrev Said : Outcome → List Element → List L → Type 0
  Said Match p w = Matches Takes p w
  Said Miss p w = Matches Takes p w → ⊥
  Said Short p w = Matches Takes (Star ∷ p) w → ⊥

  one_star : {p : List Element} {w : List L} → Matches Takes (Star ∷ Star ∷ p) w → Matches Takes (Star ∷ p) w
  one_star (skip m) = m
  one_star (more m) = more (one_star m)

  loosen : {a : Part} {p : List Element} {w : List L} → Matches Takes (Star ∷ One a ∷ p) w → Matches Takes (Star ∷ p) w
  loosen (skip (one t m)) = more (skip m)
  loosen (more m) = more (loosen m)

  no_letter_left : {e : L} {w : List L} → Matches Takes [] (e ∷ w) → ⊥
  no_letter_left m = elim m [ ]

  no_letter : {a : Part} {p : List Element} → Matches Takes (Star ∷ One a ∷ p) [] → ⊥
  no_letter (skip m) = elim m [ ]

  star_end : (p : List Element) (o : Outcome) → Said o p [] → Said (onward o Short) (Star ∷ p) []
  star_end p Match h = skip h
  star_end p Miss h = λ m. go m
    where
      go : Matches Takes (Star ∷ Star ∷ p) [] → ⊥
      go (skip (skip m)) = h m
  star_end p Short h = λ m. h (one_star m)

  star_on : (p : List Element) (e : L) (w : List L) (o r : Outcome) → Said o p (e ∷ w) → Said r (Star ∷ p) w → Said (onward o r) (Star ∷ p) (e ∷ w)
  star_on p e w Match r h k = skip h
  star_on p e w Short r h k = λ m. h (one_star m)
  star_on p e w Miss Match h k = more k
  star_on p e w Miss Miss h k = λ m. go m
    where
      go : Matches Takes (Star ∷ p) (e ∷ w) → ⊥
      go (skip m) = h m
      go (more m) = k m
  star_on p e w Miss Short h k = λ m. go (one_star m)
    where
      go : Matches Takes (Star ∷ p) (e ∷ w) → ⊥
      go (skip m) = h m
      go (more m) = k (skip m)

  star_said : (p : List Element) (next : List L → Outcome) → ((w : List L) → Said (next w) p w) → (w : List L) → Said (star_then next w) (Star ∷ p) w
  star_said p next h [] = star_end p (next []) (h [])
  star_said p next h (e ∷ w) = star_on p e w (next (e ∷ w)) (star_then next w) (h (e ∷ w)) (star_said p next h w)

  one_said : (a : Part) (p : List Element) (e : L) (w : List L) (b : Bool) (o : Outcome) →
      Tells b (Takes a e) → Said o p w → Said (cond b o Miss) (One a ∷ p) (e ∷ w)
  one_said a p e w true Match t h = one t h
  one_said a p e w true Miss t h = λ m. go m
    where
      go : Matches Takes (One a ∷ p) (e ∷ w) → ⊥
      go (one u m) = h m
  one_said a p e w true Short t h = λ m. go m
    where
      go : Matches Takes (Star ∷ One a ∷ p) (e ∷ w) → ⊥
      go (skip (one u m)) = h (skip m)
      go (more m) = h (loosen m)
  one_said a p e w false o t h = λ m. go m
    where
      go : Matches Takes (One a ∷ p) (e ∷ w) → ⊥
      go (one u m) = t u

  module _ (takes : Part → L → Bool) (d : (a : Part) (e : L) → Tells (takes a e) (Takes a e)) where
    greedy_said : (p : List Element) (w : List L) → Said (greedy takes p w) p w
    greedy_said [] [] = done
    greedy_said [] (e ∷ w) = no_letter_left
    greedy_said (Star ∷ p) w = star_said p (greedy takes p) (greedy_said p) w
    greedy_said (One a ∷ p) [] = no_letter
    greedy_said (One a ∷ p) (e ∷ w) = one_said a p e w (takes a e) (greedy takes p w) (d a e) (greedy_said p w)

    matched : (o : Outcome) (p : List Element) (w : List L) → Said o p w → Tells (is_match o) (Matches Takes p w)
    matched Match p w h = h
    matched Miss p w h = h
    matched Short p w h = λ m. h (skip m)

    pub greedy_exact : (p : List Element) (w : List L) → Tells (is_match (greedy takes p w)) (Matches Takes p w)
    greedy_exact p w = matched (greedy takes p w) p w (greedy_said p w)

tells_stands : (a : Part) (e : Key) → Tells (stands a e) (Stands a e)
tells_stands (Name a) (Named b) = tells_eqb a b (λ e. e) (λ e. e)
tells_stands (Name a) (Indexed b) = λ z. z
tells_stands (Index a) (Named b) = λ z. z
tells_stands (Index a) (Indexed b) = tells_eqb a b (λ e. e) (λ e. e)
tells_stands AnyIndex (Named b) = λ z. z
tells_stands AnyIndex (Indexed b) = tt

pub has_exact : (p : List Element) (w : List Key) → Tells (has_cell p w) (Cells p w)
has_exact = greedy_exact Stands stands tells_stands
