-- Every path has a cell, and just one exactly where it is single; sameness is exact. Assumes nothing.
use Rattle.std.proofs.Common.{◌≡◌, ℕ, Bool, true, false, ◌&&◌, List, [], ◌∷◌, length, sym, refl, ap, ◌∙◌, arith}
use Rattle.theory.specs.Meaning.{Tells}
use Rattle.theory.specs.Telling.{tells_as, tells_both, tells_eqb}
use Rattle.rpl.specs.declared.element.Key.{Key}
use Rattle.rpl.specs.declared.element.Key.TheVariants.{Named, Indexed}
use Rattle.rpl.specs.declared.element.Part.{Part}
use Rattle.rpl.specs.declared.element.Part.TheVariants.{Name, Index, AnyIndex}
use Rattle.rpl.specs.declared.element.Element.{Element}
use Rattle.rpl.specs.declared.element.Element.TheVariants.{Star, One}
use Rattle.rpl.specs.Paths.{Cells, Stands, done, more, one, same_cell, same_key, skip}
use Rattle.rpl.specs.Sharing.{key_of}
use Rattle.rpl.specs.Singles.{OnlyOne, a_cell, single_path}
use Rattle.rpl.proofs.Shared.{key_of_in}

pub a_cell_in : (p : List Element) → Cells p (a_cell p)
a_cell_in [] = done
a_cell_in (Star ∷ p) = skip (a_cell_in p)
a_cell_in (One a ∷ p) = one (key_of_in a) (a_cell_in p)

name_only : (a : ℕ) (e : Key) → Stands (Name a) e → e ≡ Named a
name_only a (Named b) h = ap Named (sym h)
name_only a (Indexed b) h = absurd h

index_only : (a : ℕ) (e : Key) → Stands (Index a) e → e ≡ Indexed a
index_only a (Named b) h = absurd h
index_only a (Indexed b) h = ap Indexed (sym h)

-- a part of just one key in front changes nothing
front_only : (b : Bool) (p : List Element) (a : Part) → ((e : Key) → Stands a e → e ≡ key_of a) → OnlyOne p b → OnlyOne (One a ∷ p) b
front_only true p a h o = λ w c. go w c
  where
    go : (w : List Key) → Cells (One a ∷ p) w → w ≡ key_of a ∷ a_cell p
    go [] c = elim c [ ]
    go (e ∷ w) (one t c) = ap (λ (x : Key). x ∷ w) (h e t) ∙ ap (λ (x : List Key). key_of a ∷ x) (o w c)
front_only false p a h o = (key_of a ∷ o.0, one (key_of_in a) o.1, λ e. o.2 cc)

nil_only : (w : List Key) → Cells [] w → w ≡ []
nil_only [] c = refl
nil_only (e ∷ w) c = elim c [ ]

pub single_exact : (p : List Element) → OnlyOne p (single_path p)
single_exact [] = nil_only
single_exact (Star ∷ p) = (Named 0 ∷ a_cell p, more (skip (a_cell_in p)), λ e. let l : length (Named 0 ∷ a_cell p) ≡ length (a_cell p) = ap length e in omega arith)
single_exact (One (Name a) ∷ p) = front_only (single_path p) p (Name a) (name_only a) (single_exact p)
single_exact (One (Index a) ∷ p) = front_only (single_path p) p (Index a) (index_only a) (single_exact p)
single_exact (One AnyIndex ∷ p) = (Indexed 1 ∷ a_cell p, one tt (a_cell_in p), λ e. cc)

key_exact : (a b : Key) → Tells (same_key a b) (a ≡ b)
key_exact (Named a) (Named b) = tells_eqb a b (ap Named) (λ e. cc)
key_exact (Named a) (Indexed b) = λ e. cc
key_exact (Indexed a) (Named b) = λ e. cc
key_exact (Indexed a) (Indexed b) = tells_eqb a b (ap Indexed) (λ e. cc)

cons_same : (a b : Key) (u v : List Key) → (a ≡ b) × (u ≡ v) → a ∷ u ≡ b ∷ v
cons_same a b u v (e, f) = cc

same_cons : (a b : Key) (u v : List Key) → a ∷ u ≡ b ∷ v → (a ≡ b) × (u ≡ v)
same_cons a b u v e = (cc, cc)

pub same_exact : (u v : List Key) → Tells (same_cell u v) (u ≡ v)
same_exact [] [] = refl
same_exact [] (b ∷ v) = λ e. cc
same_exact (a ∷ u) [] = λ e. cc
same_exact (a ∷ u) (b ∷ v) =
    tells_as (same_key a b && same_cell u v) ((a ≡ b) × (u ≡ v)) (a ∷ u ≡ b ∷ v) (cons_same a b u v) (same_cons a b u v)
    (tells_both (same_key a b) (same_cell u v) (a ≡ b) (u ≡ v) (key_exact a b) (same_exact u v))
