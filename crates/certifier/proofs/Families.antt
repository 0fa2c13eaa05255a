-- The children of a fork, one after another. Assumes nothing.
use Rattle.std.proofs.Common.{◌≡◌, ℕ, ◌+◌, ◌<◌, ◌≤◌, min, List, [], ◌∷◌, ◌++◌, map, length, Some, None, Ok, sym, ap, ◌∙◌, subst, append_assoc, append-nil, arith}
use Rattle.theory.specs.Meaning.{Kept, Meaning}
use Rattle.recipe.specs.declared.recipe.Recipe.{Recipe}
use Rattle.recipe.specs.Blocks.{block_at}
use Rattle.recipe.specs.Numbers.{numbers}
use Rattle.recipe.specs.Recipes.{Tree}
use Rattle.recipe.specs.Tree.{size}
use Rattle.recipe.proofs.Once.{entry_is}
use Rattle.recipe.specs.declared.site.Site.{Site}
use Rattle.strands.specs.Located.{located, strand_at}
use Rattle.strands.specs.Strands.{Strand}
use Rattle.certifier.specs.declared.effect.Effect.{Effect}
use Rattle.certifier.specs.declared.family.Child.{Child}
use Rattle.certifier.specs.Effects.{filled_effects}
use Rattle.certifier.specs.Families.{child_of, children_of}
use Rattle.certifier.specs.Faults.{effects_in, stated}
use Rattle.certifier.specs.Walks.{ChildRead, Family, Holds, Spaced}
use Rattle.certifier.proofs.Held.{located_is, strand_small, strand_stands}
use Rattle.std.proofs.lemmas.List.{map_push}

module _ {P R C : Type 0} (m : Meaning P R C) (recipe : Recipe) (count first : ℕ) where
  -- so many children are still to be read; the next has this number
  abbrev Waiting : Tree P m.Point → List (ℕ × Strand P) → (left number : ℕ) → List (Child R) → Type 0
  Waiting t kids left number got = (rest : List (ℕ × Strand P)) × Family m t number rest × (length rest ≡ left) × (children_of got ++ map (stated m) rest ≡ map (stated m) kids)

  abbrev pub Gathering : (left number : ℕ) → List (Child R) → Type 0
  Gathering left number got = (t : Tree P m.Point) → Holds m recipe t → (kids : List (ℕ × Strand P)) → Family m t first kids → length kids ≡ count → Waiting t kids left number got

  pub gather_all : (left number : ℕ) (got : List (Child R)) → Gathering left number got → left ≤ 0 →
      (t : Tree P m.Point) → Holds m recipe t → (kids : List (ℕ × Strand P)) → Family m t first kids → length kids ≡ count → children_of got ≡ map (stated m) kids
  gather_all left number got inv z t h kids family n = go (inv t h kids family n)
    where
      go : Waiting t kids left number got → children_of got ≡ map (stated m) kids
      go ([], f, l, e) = sym (append-nil (children_of got)) ∙ e
      go (x ∷ rest, f, l, e) = absurd (omega arith)

  module _ (kept : Kept m) (left number : ℕ) (got : List (Child R)) (inv : Gathering left number got) (some : 0 < left) where
    pub gather_stopped : None ≡ strand_at m recipe.file.now (numbers recipe).from number →
        (t : Tree P m.Point) → Holds m recipe t → (kids : List (ℕ × Strand P)) → Family m t first kids → length kids ≡ count → children_of got ≡ map (stated m) kids
    gather_stopped none t h kids family n = go (inv t h kids family n)
      where
        go : Waiting t kids left number got → children_of got ≡ map (stated m) kids
        go ([], f, l, e) = absurd (omega arith)
        go ((k, s) ∷ rest, ((same, spaced), (here, later)), l, e) =
            let found = located_is m kept recipe t h k s here in
            let both = none ∙ ap (strand_at m recipe.file.now (numbers recipe).from) (sym same) ∙ found in
            absurd cc

    pub gather_more : (site : Site) (is : List ℕ) (child : Child R) (next then : ℕ) → Some (site, is) ≡ strand_at m recipe.file.now (numbers recipe).from number →
        ChildRead m recipe.file.now number site is child → next ≡ min (number + child.strands) 18446744073709551615 → then + 1 ≡ left → (now : List (Child R)) → now ≡ got ++ (child ∷ []) → Gathering then next now
    gather_more site is child next then at read sum less now pushed t h kids family n = subst (Waiting t kids then next) (sym pushed) (go (inv t h kids family n))
      where
        go : Waiting t kids left number got → Waiting t kids then next (got ++ (child ∷ []))
        go ([], f, l, e) = absurd (omega arith)
        go ((k, s) ∷ rest, ((same, spaced), (here, later)), l, e) =
            let found = entry_is (site, is) (located s) (at ∙ ap (strand_at m recipe.file.now (numbers recipe).from) (sym same) ∙ located_is m kept recipe t h k s here) in
            let (end, reads) = strand_stands m kept recipe t h k s here in
            let small = strand_small m kept recipe t h k s here in
            let there = subst (λ (q : Site × List ℕ). block_at m recipe.file.now q.0.forks q.0.depth q.0.place ≡ Ok (s.body, end)) (sym found) reads in
            let (child_is, count_is) = read s.body end there (omega arith) in
            let stated_is : child_of child ≡ stated m (k, s) = child_is ∙ (λ i. (sym same i, filled_effects m (found i).1 (effects_in s.body))) in
            let on : k + size s.body ≡ next = omega (arith, same, count_is) in (
              rest,
              (subst (λ (j : ℕ). Spaced j rest) (ap (λ (j : ℕ). j + size s.body) (sym same) ∙ on) spaced, later),
              omega arith,
              ap (λ (cs : List (ℕ × List (Effect R))). cs ++ map (stated m) rest) (map_push child_of got child)
                  ∙ append_assoc (children_of got) (child_of child ∷ []) (map (stated m) rest)
                  ∙ ap (λ (c : ℕ × List (Effect R)). children_of got ++ (c ∷ map (stated m) rest)) stated_is
                  ∙ e,
            )
