-- How strands are numbered. Assumes nothing.
use Rattle.std.specs.Prelude.{◌≡◌, ℕ, ◌-◌, ◌<◌, ◌≤◌, List, ◌++◌, length, Some, None}
use Rattle.recipe.specs.Tree.{Block, Statements, next, Statement, size}
use Rattle.recipe.specs.Cells.{at_number}
use Rattle.strands.specs.Children.{Behind, child_strands, children, first_child, statements_of}
use Rattle.strands.specs.Strands.{Strand, strands_of, strands_under}

-- one list stands in another, in a row from a number on
abbrev pub InRow : {X : Type 0} → List X → ℕ → List X → Type 0
InRow {X} inside k all = (before : List X) × (after : List X) × (all ≡ before ++ (inside ++ after)) × (length before ≡ k)

pub record StrandLaws (P : Type 0) : Type 0 where
  -- a block has as many strands as its size says
  pub counted : (b : Block P) (forks depth : ℕ) (is : List ℕ) → length (strands_of b forks depth is) ≡ size b
  -- its own strand is number 0
  pub own : (b : Block P) (forks depth : ℕ) (is : List ℕ) → at_number (strands_of b forks depth is) 0 ≡ Some (record { body = b; forks = forks; depth = depth; indices = is })
  -- every number below the size is a strand's, and no other number is
  pub onto : (b : Block P) (forks depth : ℕ) (is : List ℕ) (k : ℕ) → k < size b → (s : Strand P) × (at_number (strands_of b forks depth is) k ≡ Some s)
  pub beyond : (b : Block P) (forks depth : ℕ) (is : List ℕ) (k : ℕ) → size b ≤ k → at_number (strands_of b forks depth is) k ≡ None
  -- the strands inside a strand stand in a row, from its own number on: so each is numbered above it, and none outside it is numbered among them
  pub in_row : (b : Block P) (forks depth : ℕ) (is : List ℕ) (k : ℕ) (s : Strand P) → at_number (strands_of b forks depth is) k ≡ Some s →
      InRow (strands_of s.body s.forks s.depth s.indices) k (strands_of b forks depth is)
  -- the children of a statement, if the first has this number, stand at their numbers among its strands
  pub child : (s : Statement P) (forks depth : ℕ) (is : List ℕ) (first k c : ℕ) (t : Strand P) → at_number (children s first) k ≡ Some c → at_number (child_strands s forks depth is) k ≡ Some t →
      (first ≤ c) × (at_number (strands_under s forks depth is) (c - first) ≡ Some t)
  -- in the strand of a number, each number of a child of a statement is that of the child's strand
  pub kin : (b : Block P) (forks depth : ℕ) (is : List ℕ) (k : ℕ) (s : Strand P) → at_number (strands_of b forks depth is) k ≡ Some s →
      (n : ℕ) (st : Statement P) (later : Statements P) → Behind (statements_of s.body) n (next st later) →
      (nth c : ℕ) → at_number (children st (first_child k n)) nth ≡ Some c →
      (t : Strand P) × (at_number (child_strands st s.forks s.depth s.indices) nth ≡ Some t) × (at_number (strands_of b forks depth is) c ≡ Some t)
