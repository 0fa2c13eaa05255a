-- The children of a fork: how many they are, and how they are numbered. Assumes nothing.
use Rattle.std.proofs.Common.{◌≡◌, ℕ, zero, suc, ◌+◌, ◌-◌, ◌≤◌, List, [], ◌∷◌, length, set, Some, sym, refl, ap, subst, inl, inr, arith}
use Rattle.theory.specs.Meaning.{Meaning}
use Rattle.recipe.specs.Cells.{at_number, unfilled}
use Rattle.recipe.specs.Recipes.{Tree}
use Rattle.recipe.specs.Tree.{Block, Blocks, none, more, Statements, stop, next, Statement, simple, guarded, cobegin, foreach, forked, size, sizes}
use Rattle.recipe.specs.WellFormed.{block_count}
use Rattle.recipe.proofs.Once.{entry_is}
use Rattle.strands.specs.Children.{Behind, branch_strands, child_strands, children, first_child, instances, own_strand, starts, statements_of}
use Rattle.strands.specs.Strands.{Strand, each}
use Rattle.strands.proofs.Kin.{kin}
use Rattle.certifier.specs.Faults.{numbered_children}
use Rattle.certifier.specs.Lists.{beside}
use Rattle.certifier.specs.Sound.{Numbered}
use Rattle.certifier.specs.Walks.{AllNumbered, Family, Spaced}

module _ {P : Type 0} where
  many_branches : (bs : Blocks P) (forks depth : ℕ) (is : List ℕ) (n : ℕ) → length (beside (starts bs n) (branch_strands bs forks depth is)) ≡ block_count bs
  many_branches none forks depth is n = refl
  many_branches (more b bs) forks depth is n = ap suc (many_branches bs forks depth is (n + size b))

  many_instances : (count i s n : ℕ) (f : ℕ → Strand P) → length (beside (instances count s n) (each count i (λ j. f j ∷ []))) ≡ count
  many_instances zero i s n f = refl
  many_instances (suc c) i s n f = ap suc (many_instances c (suc i) s (n + s) f)

  pub branches_many : (s : Strand P) (n place : ℕ) (bs : Blocks P) → length (numbered_children s n (cobegin place bs)) ≡ block_count bs
  branches_many s n place bs = many_branches bs (s.forks - 1) s.depth s.indices n

  pub instances_many : (s : Strand P) (n place count : ℕ) (b : Block P) → length (numbered_children s n (foreach place count b)) ≡ count
  instances_many s n place count b = many_instances count 0 (size b) n (λ i. own_strand b (s.forks - 1) (s.depth + 1) (set s.indices s.depth i))

  spaced_branches : (bs : Blocks P) (forks depth : ℕ) (is : List ℕ) (n : ℕ) → Spaced n (beside (starts bs n) (branch_strands bs forks depth is))
  spaced_branches none forks depth is n = tt
  spaced_branches (more b bs) forks depth is n = (refl, spaced_branches bs forks depth is (n + size b))

  spaced_instances : (b : Block P) (forks depth : ℕ) (is : ℕ → List ℕ) (count i n : ℕ) → Spaced n (beside (instances count (size b) n) (each count i (λ j. own_strand b forks depth (is j) ∷ [])))
  spaced_instances b forks depth is zero i n = tt
  spaced_instances b forks depth is (suc c) i n = (refl, spaced_instances b forks depth is c (suc i) (n + size b))

  pub children_spaced : (s : Strand P) (n : ℕ) (st : Statement P) → Spaced n (numbered_children s n st)
  children_spaced s n (simple at o) = tt
  children_spaced s n (guarded at r st) = children_spaced s n st
  children_spaced s n (cobegin at bs) = spaced_branches bs (s.forks - 1) s.depth s.indices n
  children_spaced s n (foreach at c b) = spaced_instances b (s.forks - 1) (s.depth + 1) (λ i. set s.indices s.depth i) c 0 n

module _ {P R C : Type 0} (m : Meaning P R C) (t : Tree P m.Point) where
  all_numbered : (cs : List ℕ) (ss : List (Strand P)) → ((i c : ℕ) → at_number cs i ≡ Some c → (s : Strand P) × (at_number ss i ≡ Some s) × Numbered m t c s) → AllNumbered m t (beside cs ss)
  all_numbered [] ss f = tt
  all_numbered (c ∷ cs) [] f = tt
  all_numbered (c ∷ cs) (s ∷ ss) f =
      let (u, same, is) = f 0 c refl in (subst (Numbered m t c) (sym (entry_is s u same)) is, all_numbered cs ss (λ i d h. f (suc i) d h))

  -- the children of a statement of a strand
  pub family_of : (number : ℕ) (s : Strand P) → Numbered m t number s → (k : ℕ) (st : Statement P) (later : Statements P) → Behind (statements_of s.body) k (next st later) →
      Family m t (first_child number k) (numbered_children s (first_child number k) st)
  family_of number s is k st later behind = (
    children_spaced s (first_child number k) st,
    all_numbered (children st (first_child number k)) (child_strands st s.forks s.depth s.indices) (λ i c h. kin t.root 6 0 unfilled number s is k st later behind i c h),
  )

-- the strands of a statement are among those of its block
pub behind_room : {P : Type 0} (all : Statements P) (k : ℕ) (st : Statement P) (later : Statements P) → Behind all k (next st later) → k + forked st ≤ sizes all
behind_room (stop at) k st later (z, e) = absurd cc
behind_room (next s ss) k st later (inl (z, e)) =
    let same : st ≡ s = cc in let long = ap forked same in omega arith
behind_room (next s ss) k st later (inr (j, z, b)) = let room = behind_room ss j st later b in omega arith
