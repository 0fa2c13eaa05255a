-- The children of a statement: the strands that it sets running. Assumes nothing.
--
-- behind    statements at the end of a list, behind others that have so many strands
use Rattle.std.specs.Prelude.{◌≡◌, ℕ, zero, suc, ◌+◌, ◌-◌, ◌⊎◌, List, [], ◌∷◌, slice_set}
use Rattle.recipe.specs.Tree.{Block, block, Blocks, none, more, Statements, stop, next, Statement, simple, guarded, cobegin, foreach, forked, size}
use Rattle.strands.specs.Strands.{Strand, each}

-- the numbers of blocks one after another, if the first has this number: each follows all strands of the one before
abbrev pub starts : {P : Type 0} → Blocks P → ℕ → List ℕ
starts none n = []
starts (more b bs) n = n ∷ starts bs (n + size b)

-- the same for so many instances of a block of this size
abbrev pub instances : (count size n : ℕ) → List ℕ
instances zero s n = []
instances (suc c) s n = n ∷ instances c s (n + s)

-- the numbers of the children of a statement, if the first has this number
abbrev pub children : {P : Type 0} → Statement P → ℕ → List ℕ
children (simple at o) n = []
children (guarded at r s) n = children s n
children (cobegin at bs) n = starts bs n
children (foreach at c b) n = instances c (size b) n

-- the children themselves
abbrev pub own_strand : {P : Type 0} → Block P → (forks depth : ℕ) → List ℕ → Strand P
own_strand b forks depth is = record { body = b; forks = forks; depth = depth; indices = is }

abbrev pub branch_strands : {P : Type 0} → Blocks P → (forks depth : ℕ) → List ℕ → List (Strand P)
branch_strands none forks depth is = []
branch_strands (more b bs) forks depth is = own_strand b forks depth is ∷ branch_strands bs forks depth is

abbrev pub child_strands : {P : Type 0} → Statement P → (forks depth : ℕ) → List ℕ → List (Strand P)
child_strands (simple at o) forks depth is = []
child_strands (guarded at r s) forks depth is = child_strands s forks depth is
child_strands (cobegin at bs) forks depth is = branch_strands bs (forks - 1) depth is
child_strands (foreach at c b) forks depth is = each c 0 (λ i. own_strand b (forks - 1) (depth + 1) (slice_set is depth i) ∷ [])

-- the statements of a block
abbrev pub statements_of : {P : Type 0} → Block P → Statements P
statements_of (block at es ss) = ss

abbrev pub Behind : {P : Type 0} → Statements P → ℕ → Statements P → Type 0
Behind (stop at) n rest = (n ≡ 0) × (rest ≡ stop at)
Behind (next s ss) n rest = ((n ≡ 0) × (rest ≡ next s ss)) ⊎ ((j : ℕ) × (n ≡ forked s + j) × Behind ss j rest)

-- the number of the first child of a statement, in the strand of a number, behind statements that have so many strands
abbrev pub first_child : (number before : ℕ) → ℕ
first_child number before = number + 1 + before
