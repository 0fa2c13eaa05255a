-- The faults of a recipe, in the order in which they are told. Assumes nothing.
--
-- strands by ascending number, and the statements of each in file order; a statement under a When counts like any other
-- access    a Load or a Store: its cell must be listed, and covered by the strand's block
-- fork      each child by number, each of its effects in file order, must be covered by the strand's block; then no two
--           children may interfere: each pair of them, by the lower number and then the higher, and each pair of their
--           effects, the lower child's first
use Rattle.std.specs.Prelude.{ℕ, suc, ◌+◌, Bool, true, false, List, [], ◌∷◌, ◌++◌, map, is_some, Some, None, Option}
use Rattle.theory.specs.Meaning.{Meaning}
use Rattle.recipe.specs.declared.record.Mode.{Mode}
use Rattle.recipe.specs.declared.record.Mode.TheVariants.{Reads, Writes}
use Rattle.recipe.specs.Rec.{Operation, load, store, set, add, index, less}
use Rattle.recipe.specs.Blocks.{most_forks}
use Rattle.recipe.specs.Cells.{position, unfilled}
use Rattle.recipe.specs.Recipes.{Tree}
use Rattle.recipe.specs.Tree.{Effect as Stated, Block, block, Statements, stop, next, Statement, simple, guarded, cobegin, foreach, forked}
use Rattle.strands.specs.Children.{child_strands, children, statements_of}
use Rattle.strands.specs.Strands.{Strand, strands_of}
use Rattle.certifier.specs.declared.effect.Effect.{Effect}
use Rattle.certifier.specs.declared.refusal.Location.{Location}
use Rattle.certifier.specs.declared.refusal.Refusal.{Refusal}
use Rattle.certifier.specs.declared.refusal.Refusal.TheVariants.{Unlisted, Uncovered, Exceeding, Interfering}
use Rattle.certifier.specs.Effects.{access_covered, covered, filled_effects, interference}
use Rattle.certifier.specs.Lists.{beside, from, gather}

abbrev pub unless : {X : Type 0} → Bool → X → List X
unless true x = []
unless false x = x ∷ []

abbrev pub location : (place strand : ℕ) → Location
location place strand = record { place = place; strand = strand }

abbrev pub effects_in : {P : Type 0} → Block P → List (Stated P)
effects_in (block at es ss) = es

-- the children of a statement of a strand with their numbers, if the first has this number
abbrev pub numbered_children : {P : Type 0} → Strand P → (first : ℕ) → Statement P → List (ℕ × Strand P)
numbered_children s first t = beside (children t first) (child_strands t s.forks s.depth s.indices)

module _ {P R C : Type 0} (m : Meaning P R C) where
  abbrev pub effects_of : Strand P → List (Effect R)
  effects_of s = filled_effects m s.indices (effects_in s.body)

  -- the children of a statement by their numbers and their effects
  abbrev pub stated : ℕ × Strand P → ℕ × List (Effect R)
  stated (k, s) = (k, effects_of s)

  -- an effect of child k
  abbrev pub effect_faults : List (Effect R) → ℕ → Effect R → List (Refusal m.Point)
  effect_faults own k e = unless (covered m own e) (Exceeding (location e.place k))

  abbrev pub child_faults : List (Effect R) → ℕ × List (Effect R) → List (Refusal m.Point)
  child_faults own (k, es) = gather (effect_faults own k) es

  -- an effect of child k and one of child l
  abbrev pub overlap : (k l : ℕ) → (e f : Effect R) → Option m.Point → List (Refusal m.Point)
  overlap k l e f None = []
  overlap k l e f (Some x) = Interfering (location e.place k) (location f.place l) x ∷ []

  abbrev pub overlaps : (k l : ℕ) → (e f : Effect R) → List (Refusal m.Point)
  overlaps k l e f = overlap k l e f (interference m e f)

  abbrev pub pair_faults : ℕ × List (Effect R) → ℕ × List (Effect R) → List (Refusal m.Point)
  pair_faults (k, es) (l, fs) = gather (λ e. gather (overlaps k l e) fs) es

  abbrev pub pairs_faults : List (ℕ × List (Effect R)) → List (Refusal m.Point)
  pairs_faults [] = []
  pairs_faults (c ∷ cs) = gather (pair_faults c) cs ++ pairs_faults cs

  abbrev pub family_faults : List (Effect R) → List (ℕ × List (Effect R)) → List (Refusal m.Point)
  family_faults own cs = gather (child_faults own) cs ++ pairs_faults cs

  module _ (cells : List m.Point) where
    abbrev pub access_faults : List (Effect R) → Mode → Location → m.Point → List (Refusal m.Point)
    access_faults own mode here x = unless (is_some (position m x cells)) (Unlisted here) ++ unless (access_covered m own mode x) (Uncovered here)

    module _ (number : ℕ) (s : Strand P) where
      abbrev pub operation_faults : ℕ → Operation P → List (Refusal m.Point)
      operation_faults at (load r p) = access_faults (effects_of s) Reads (location at number) (m.only p s.indices)
      operation_faults at (store r p) = access_faults (effects_of s) Writes (location at number) (m.only p s.indices)
      operation_faults at (set r v) = []
      operation_faults at (add t r) = []
      operation_faults at (index r h) = []
      operation_faults at (less t l r) = []

      abbrev pub fork_faults : ℕ → Statement P → List (Refusal m.Point)
      fork_faults n t = family_faults (effects_of s) (map stated (numbered_children s n t))

      -- n is the number of the statement's first child
      abbrev pub statement_faults : ℕ → Statement P → List (Refusal m.Point)
      statement_faults n (simple at o) = operation_faults at o
      statement_faults n (guarded at r t) = statement_faults n t
      statement_faults n (cobegin at bs) = fork_faults n (cobegin at bs)
      statement_faults n (foreach at c b) = fork_faults n (foreach at c b)

      abbrev pub statements_faults : ℕ → Statements P → List (Refusal m.Point)
      statements_faults n (stop at) = []
      statements_faults n (next t ts) = statement_faults n t ++ statements_faults (n + forked t) ts

    abbrev pub strand_faults : ℕ × Strand P → List (Refusal m.Point)
    strand_faults (k, s) = statements_faults k s (suc k) (statements_of s.body)

  -- all strands of a recipe
  abbrev pub strands : Tree P m.Point → List (Strand P)
  strands t = strands_of t.root most_forks 0 unfilled

  unfoldable pub recipe_faults : Tree P m.Point → List (Refusal m.Point)
  recipe_faults t = gather (strand_faults t.cells) (from 0 (strands t))
