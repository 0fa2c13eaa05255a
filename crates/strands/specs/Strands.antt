-- The strands of a recipe, in the order of their numbers. Assumes nothing.
--
-- strand    one instance of a block: the block, how many more forks may be nested in it, how many foreach enclose it,
--           and the three indices that fill its patterns
-- number    the place of a strand in the list of all strands, counted from 0
use Rattle.std.specs.Prelude.{ℕ, zero, suc, ◌+◌, ◌-◌, List, [], ◌∷◌, ◌++◌, slice_set}
use Rattle.recipe.specs.Tree.{Block, block, Statements, stop, next, Statement, simple, guarded, cobegin, foreach, Blocks, none, more}

pub record Strand (P : Type 0) : Type 0 where
  pub body : Block P
  pub forks : ℕ
  pub depth : ℕ
  pub indices : List ℕ

-- what a function gives for each of n numbers from i on, one after another
abbrev pub each : {X : Type 0} → (n i : ℕ) → (ℕ → List X) → List X
each zero i f = []
each (suc n) i f = f i ++ each n (suc i) f

-- a block's own strand comes first, then those of its forks in file order; the branches of a Cobegin come in file order,
-- the instances of a Foreach by index from 0, each with all strands inside it
unfoldable mutual
  pub strands_of : {P : Type 0} → Block P → (forks depth : ℕ) → List ℕ → List (Strand P)
  strands_of (block at es ss) forks depth is =
      record { body = block at es ss; forks = forks; depth = depth; indices = is } ∷ strands_in ss forks depth is

  pub strands_in : {P : Type 0} → Statements P → (forks depth : ℕ) → List ℕ → List (Strand P)
  strands_in (stop at) forks depth is = []
  strands_in (next s ss) forks depth is = strands_under s forks depth is ++ strands_in ss forks depth is

  pub strands_under : {P : Type 0} → Statement P → (forks depth : ℕ) → List ℕ → List (Strand P)
  strands_under (simple at o) forks depth is = []
  strands_under (guarded at r s) forks depth is = strands_under s forks depth is
  strands_under (cobegin at bs) forks depth is = strands_beside bs (forks - 1) depth is
  strands_under (foreach at n b) forks depth is = each n 0 (λ i. strands_of b (forks - 1) (depth + 1) (slice_set is depth i))

  pub strands_beside : {P : Type 0} → Blocks P → (forks depth : ℕ) → List ℕ → List (Strand P)
  strands_beside none forks depth is = []
  strands_beside (more b bs) forks depth is = strands_of b forks depth is ++ strands_beside bs forks depth is
