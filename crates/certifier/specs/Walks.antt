-- What the walk over a recipe is given, and what it finds. Assumes nothing.
--
-- holds     the recipe of the program is the one that the file reads as
-- there     the strand of a block at a site, with these indices
-- spaced    numbered strands, the first of which has this number, and each of which follows all strands of the one before
use Rattle.std.specs.Prelude.{◌≡◌, ℕ, ◌+◌, ◌≤◌, false, List, [], ◌∷◌, map, length, Some, None, Ok, Err, Option, Result}
use Rattle.theory.specs.Meaning.{Meaning}
use Rattle.recipe.specs.declared.head.Spot.{Spot}
use Rattle.recipe.specs.declared.head.Spot.TheVariants.{Effects}
use Rattle.recipe.specs.declared.record.Fork.{Fork}
use Rattle.recipe.specs.declared.record.Fork.TheVariants.{Cobegin, Foreach}
use Rattle.recipe.specs.declared.fault.Fault.{Fault}
use Rattle.recipe.specs.declared.record.Mode.{Mode}
use Rattle.recipe.specs.Heads.{begins}
use Rattle.recipe.specs.Rec.{Rec, effect_stated}
use Rattle.recipe.specs.declared.recipe.Recipe.{Recipe}
use Rattle.recipe.specs.Blocks.{block_at}
use Rattle.recipe.specs.Numbers.{numbered, numbers}
use Rattle.recipe.specs.Recipes.{Tree, recipe_of}
use Rattle.recipe.specs.Tree.{Effect as Stated, Block, Statement, simple, guarded, cobegin, foreach, size}
use Rattle.recipe.specs.WellFormed.{EffectsLie, StatementLies, StatementsLie}
use Rattle.strands.specs.Children.{statements_of}
use Rattle.recipe.specs.declared.site.Site.{Site}
use Rattle.strands.specs.Strands.{Strand}
use Rattle.certifier.specs.declared.effect.Effect.{Effect}
use Rattle.certifier.specs.declared.family.Child.{Child}
use Rattle.certifier.specs.declared.refusal.Refusal.{Refusal}
use Rattle.certifier.specs.Effects.{filled_effects}
use Rattle.certifier.specs.Families.{child_of, children_of}
use Rattle.certifier.specs.Faults.{effects_in, family_faults, numbered_children, stated, statement_faults, strand_faults}
use Rattle.certifier.specs.Lists.{first}
use Rattle.certifier.specs.Refusals.{refused}
use Rattle.certifier.specs.Sound.{Numbered}

-- how many children a fork has
abbrev pub fork_count : Fork → ℕ
fork_count (Cobegin n) = n
fork_count (Foreach n) = n

abbrev pub there : {P : Type 0} → Site → List ℕ → Block P → Strand P
there site is b = record { body = b; forks = site.forks; depth = site.depth; indices = is }

abbrev pub Spaced : {P : Type 0} → ℕ → List (ℕ × Strand P) → Type 0
Spaced n [] = Unit {0}
Spaced n ((k, s) ∷ rest) = (k ≡ n) × Spaced (n + size s.body) rest

-- a statement that no When guards
abbrev pub Bare : {P : Type 0} → Statement P → Type 0
Bare (simple at o) = Unit {0}
Bare (guarded at r s) = ⊥
Bare (cobegin at bs) = Unit {0}
Bare (foreach at n b) = Unit {0}

module _ {P R C : Type 0} (m : Meaning P R C) where
  -- the effect that was read at a place, filled, and its end
  abbrev pub effect_filled : List ℕ → (place end : ℕ) → Option (Mode × P) → Option (Effect R × ℕ)
  effect_filled is place end (Some (mode, p)) = Some (record { place = place; mode = mode; region = m.filled p is }, end)
  effect_filled is place end None = None

  abbrev pub effect_found : List ℕ → ℕ → Result (Rec P × ℕ) Fault → Option (Effect R × ℕ)
  effect_found is place (Ok (r, end)) = effect_filled is place end (effect_stated r)
  effect_found is place (Err f) = None

  abbrev pub Holds : Recipe → Tree P m.Point → Type 0
  Holds r t = (recipe_of m r.file.now ≡ Ok t) × (numbers r ≡ numbered t)

  -- each strand has its number in the recipe
  abbrev pub AllNumbered : Tree P m.Point → List (ℕ × Strand P) → Type 0
  AllNumbered t [] = Unit {0}
  AllNumbered t ((k, s) ∷ rest) = Numbered m t k s × AllNumbered t rest

  -- the strands of a family
  abbrev pub Family : Tree P m.Point → ℕ → List (ℕ × Strand P) → Type 0
  Family t n kids = Spaced n kids × AllNumbered t kids

  -- the effects at a site, filled
  abbrev pub EffectsFound : List ℕ → Site → List ℕ → List (Effect R) → Type 0
  EffectsFound file site is r =
      (es : List (Stated P)) (from : ℕ) → EffectsLie m file es site.depth site.place from → begins file Effects from ≡ false → r ≡ filled_effects m is es

  -- the number of strands of the block at a site
  abbrev pub Counted : List ℕ → Site → ℕ → Type 0
  Counted file site r = (b : Block P) (e : ℕ) → block_at m file site.forks site.depth site.place ≡ Ok (b, e) → size b ≤ 1024 → r ≡ size b

  -- the child of this number at a site
  abbrev pub ChildRead : List ℕ → ℕ → Site → List ℕ → Child R → Type 0
  ChildRead file number site is c =
      (b : Block P) (e : ℕ) → block_at m file site.forks site.depth site.place ≡ Ok (b, e) → size b ≤ 1024 → (child_of c ≡ (number, filled_effects m is (effects_in b))) × (c.strands ≡ size b)

  -- so many children from a number on
  abbrev pub ChildrenRead : Recipe → (count first : ℕ) → List (Child R) → Type 0
  ChildrenRead recipe count n cs = (t : Tree P m.Point) → Holds recipe t → (kids : List (ℕ × Strand P)) → Family t n kids → length kids ≡ count → children_of cs ≡ map (stated m) kids

  abbrev pub ForkJudged : Recipe → List (Effect R) → (count first : ℕ) → Option (Refusal C) → Type 0
  ForkJudged recipe own count n r =
      (t : Tree P m.Point) → Holds recipe t → (kids : List (ℕ × Strand P)) → Family t n kids → length kids ≡ count → refused m r ≡ first (family_faults m own (map (stated m) kids))

  module _ (recipe : Recipe) (cells : List m.Point) (own : List (Effect R)) (number : ℕ) (site : Site) (is : List ℕ) where
    -- a statement at a place, whose first child has this number
    abbrev pub StatementJudged : (Statement P → Type 0) → Spot → (at n : ℕ) → Option (Refusal C) → Type 0
    StatementJudged Of spot at n r =
        (t : Tree P m.Point) → Holds recipe t → (b : Block P) → own ≡ filled_effects m is (effects_in b) →
        (st : Statement P) (e : ℕ) → Of st → StatementLies m recipe.file.now st spot site.forks site.depth at e → Family t n (numbered_children (there site is b) n st) →
        refused m r ≡ first (statement_faults m cells number (there site is b) n st)

    -- the statements of the block from a place on
    abbrev pub StatementsJudged : ℕ → Option (Refusal C) → Type 0
    StatementsJudged at r =
        (t : Tree P m.Point) → Holds recipe t → (b : Block P) → own ≡ filled_effects m is (effects_in b) → Numbered m t number (there site is b) →
        (e : ℕ) → StatementsLie m recipe.file.now (statements_of b) site.forks site.depth at e →
        refused m r ≡ first (strand_faults m cells (number, there site is b))

  -- the strand of a number
  abbrev pub StrandJudged : Recipe → List m.Point → ℕ → Option (Refusal C) → Type 0
  StrandJudged recipe cells number r =
      (t : Tree P m.Point) → Holds recipe t → (s : Strand P) → Numbered m t number s → refused m r ≡ first (strand_faults m cells (number, s))
