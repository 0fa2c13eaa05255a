-- The children of a statement stand at their numbers among its strands. Assumes nothing.
use Rattle.std.proofs.Common.{◌≡◌, ℕ, zero, suc, ◌+◌, ◌-◌, ◌≤◌, List, [], ◌∷◌, ◌++◌, length, set, Some, ap, ◌∙◌, arith}
use Rattle.recipe.specs.Cells.{at_number}
use Rattle.recipe.specs.Tree.{Block, block, Blocks, none, more, Statement, simple, guarded, cobegin, foreach, size}
use Rattle.strands.specs.Children.{starts, instances, children, own_strand, branch_strands, child_strands}
use Rattle.strands.specs.Strands.{Strand, each, strands_of, strands_under, strands_beside}
use Rattle.strands.proofs.Counting.{at_second, of_length}

-- the numbers and the strands of the children, side by side, among all strands from a number on
abbrev pub Told : {P : Type 0} → List ℕ → List (Strand P) → List (Strand P) → (first : ℕ) → Type 0
Told {P} numbers strands all first = (k c : ℕ) (s : Strand P) → at_number numbers k ≡ Some c → at_number strands k ≡ Some s → (first ≤ c) × (at_number all (c - first) ≡ Some s)

number_is : (a b : ℕ) → Some a ≡ Some b → a ≡ b
number_is a b e = cc

nothing : {P : Type 0} (strands all : List (Strand P)) (first : ℕ) → Told [] strands all first
nothing strands all first k c s h g = absurd cc

-- a block, and what stands behind all its strands
one_more : {P : Type 0} (b : Block P) (forks depth : ℕ) (is : List ℕ) (numbers : List ℕ) (strands all : List (Strand P)) (first : ℕ) → Told numbers strands all (first + size b) →
    Told (first ∷ numbers) (own_strand b forks depth is ∷ strands) (strands_of b forks depth is ++ all) first
unfolding strands_of
one_more (block at es ss) forks depth is numbers strands all first later zero c s h g =
    let e = number_is first c h in
    let z : c - first ≡ 0 = omega arith in
    (omega arith, rw z g)
one_more (block at es ss) forks depth is numbers strands all first later (suc k) c s h g =
    let (low, found) = later k c s h g in
    let long = of_length (block at es ss) forks depth is in
    let n : c - first - length (strands_of (block at es ss) forks depth is) ≡ c - (first + size (block at es ss)) = omega arith in
    (omega arith, at_second (strands_of (block at es ss) forks depth is) all (c - first) (omega arith) ∙ ap (at_number all) n ∙ found)

branches_told : {P : Type 0} (bs : Blocks P) (forks depth : ℕ) (is : List ℕ) (first : ℕ) → Told (starts bs first) (branch_strands bs forks depth is) (strands_beside bs forks depth is) first
unfolding strands_beside
branches_told none forks depth is first = nothing [] [] first
branches_told (more b bs) forks depth is first =
    one_more b forks depth is (starts bs (first + size b)) (branch_strands bs forks depth is) (strands_beside bs forks depth is) first (branches_told bs forks depth is (first + size b))

instances_told : {P : Type 0} (count i : ℕ) (b : Block P) (forks depth : ℕ) (is : ℕ → List ℕ) (first : ℕ) →
    Told (instances count (size b) first) (each count i (λ j. own_strand b forks depth (is j) ∷ [])) (each count i (λ j. strands_of b forks depth (is j))) first
instances_told zero i b forks depth is first = nothing [] [] first
instances_told (suc n) i b forks depth is first =
    one_more b forks depth (is i) (instances n (size b) (first + size b)) (each n (suc i) (λ j. own_strand b forks depth (is j) ∷ [])) (each n (suc i) (λ j. strands_of b forks depth (is j))) first
    (instances_told n (suc i) b forks depth is (first + size b))

pub children_told : {P : Type 0} (s : Statement P) (forks depth : ℕ) (is : List ℕ) (first : ℕ) → Told (children s first) (child_strands s forks depth is) (strands_under s forks depth is) first
unfolding strands_under
children_told (simple at o) forks depth is first = nothing [] [] first
children_told (guarded at r s) forks depth is first = children_told s forks depth is first
children_told (cobegin at bs) forks depth is first = branches_told bs (forks - 1) depth is first
children_told (foreach at n b) forks depth is first = instances_told n 0 b (forks - 1) (depth + 1) (λ i. set is depth i) first
