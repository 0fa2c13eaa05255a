-- One step of greedy matching, on the lists behind its slices. Assumes nothing.
use Rattle.std.proofs.Common.{◌≡◌, ◌≤◌, Bool, List, [], ◌∷◌, length, get_or, sym, refl, ap, ◌∙◌, subst}
use Rattle.rpl.specs.declared.element.Part.{Part}
use Rattle.rpl.specs.declared.element.Element.{Element}
use Rattle.rpl.specs.declared.element.Element.TheVariants.{Star}
use Rattle.rpl.specs.declared.matching.Outcome.{Outcome}
use Rattle.rpl.specs.declared.matching.Outcome.TheVariants.{Match, Miss, Short}
use Rattle.rpl.specs.Greedy.{greedy, onward, star_then}
use Rattle.rpl.specs.Lists.{rest}
use Rattle.rpl.proofs.Lists.{headed}

module _ {L : Type 0} (t : Part → L → Bool) where
  star : (p : List Element) (w : List L) (o : Outcome) → 1 ≤ length p → get_or p 0 Star ≡ Star → o ≡ star_then (greedy t (rest p)) w → o ≡ greedy t p w
  star p w o h e r = subst (λ (q : List Element). o ≡ greedy t q w) (sym (headed Star Star p h e)) r

  -- what the rest comes to settles the whole, unless it is a miss
  settles : (o later : Outcome) → (o ≡ Miss → ⊥) → onward o later ≡ o
  settles Match later n = refl
  settles Miss later n = absurd (n refl)
  settles Short later n = refl

  pub star_settled : (p : List Element) (w : List L) (o : Outcome) → 1 ≤ length p → get_or p 0 Star ≡ Star → (o ≡ Miss → ⊥) → o ≡ greedy t (rest p) w → o ≡ greedy t p w
  star_settled p [] o h e n r = star p [] o h e (sym (settles o Short n) ∙ ap (λ (x : Outcome). onward x Short) r)
  star_settled p (x ∷ w) o h e n r =
      star p (x ∷ w) o h e (sym (settles o (star_then (greedy t (rest p)) w) n) ∙ ap (λ (y : Outcome). onward y (star_then (greedy t (rest p)) w)) r)
