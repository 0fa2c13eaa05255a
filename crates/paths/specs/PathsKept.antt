-- Paths keep their meaning. Assumes nothing.
use Rattle.std.specs.Prelude.{◌≡◌, ℕ, Bool, true, false, ◌&&◌, List, [], ◌∷◌, map, Some, None, Option, refl}
use Rattle.std.proofs.Common.{sym, ap, ◌∙◌, subst}
use Rattle.theory.specs.Meaning.{Kept, Shared, Single, Tells, zeros}
use Rattle.theory.proofs.Holes.{zeros_fill}
use Rattle.rpl.specs.declared.element.Key.{Key}
use Rattle.rpl.specs.declared.element.Element.{Element}
use Rattle.rpl.specs.Sharing.{InBoth, Shows, common}
use Rattle.rpl.specs.Singles.{OnlyOne, a_cell, single_element, single_path}
use Rattle.rpl.proofs.Greedy.{has_exact}
use Rattle.rpl.proofs.Inclusion.{within_exact}
use Rattle.rpl.proofs.Shared.{common_shows}
use Rattle.rpl.proofs.Sole.{a_cell_in, same_exact, single_exact}
use Rattle.paths.specs.declared.pattern.Piece.{Piece}
use Rattle.paths.specs.declared.pattern.Piece.TheVariants.{Fixed, Filled}
use Rattle.paths.specs.Filling.{Pattern, Region, path_filled, piece_filled}
use Rattle.paths.specs.PathsMeaning.{paths_meaning}
use Rattle.paths.specs.ReadInside.{path_inside}

-- whether a pattern is single does not hang on the filling
single_alike : (is js : List ℕ) (pieces : List Piece) → single_path (map (piece_filled is) pieces) ≡ single_path (map (piece_filled js) pieces)
single_alike is js [] = refl
single_alike is js (Fixed a ∷ pieces) = ap (λ (b : Bool). single_element a && b) (single_alike is js pieces)
single_alike is js (Filled f ∷ pieces) = single_alike is js pieces

single_told : (p : Pattern) → Tells (paths_meaning.single p) (Single paths_meaning p)
single_told p = go (paths_meaning.single p) refl
  where
    path_at : List ℕ → List Element
    path_at is = (path_filled p is).items

    go : (b : Bool) → single_path (path_at zeros) ≡ b → Tells b (Single paths_meaning p)
    go true e = λ is f. (a_cell (path_at is), (a_cell_in (path_at is), subst (OnlyOne (path_at is)) (single_alike is zeros p.items ∙ e) (single_exact (path_at is))))
    go false e = λ s.
        let o : OnlyOne (path_at zeros) false = subst (OnlyOne (path_at zeros)) e (single_exact (path_at zeros)) in
        let c = s zeros zeros_fill in
        o.2 (c.1.1 o.0 o.1 ∙ sym (c.1.1 (a_cell (path_at zeros)) (a_cell_in (path_at zeros))))

shared_by : (a b : Region) (o : Option (List Key)) → Shows (InBoth a.items b.items) o → Shared paths_meaning a b o
shared_by a b None h = λ x c d. h x (c, d)
shared_by a b (Some w) h = h

pub paths_kept : Kept paths_meaning
paths_kept = record {
  inside = λ file at depth h. path_inside file at depth h;
  alike = same_exact;
  lone = single_told;
  named = λ p s is f. a_cell_in (path_filled p is).items;
  some = λ r. (a_cell r.items, a_cell_in r.items);
  member = λ r x. has_exact r.items x;
  part = λ a b. within_exact a.items b.items;
  shows = λ a b. shared_by a b (common a.items b.items) (common_shows a.items b.items);
}
