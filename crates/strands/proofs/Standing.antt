-- The body of each strand of a block that lies in the file lies in the file. Assumes nothing.
use Rattle.std.proofs.Common.{◌≡◌, ℕ, zero, suc, ◌+◌, ◌-◌, ◌⊎◌, List, [], ◌∷◌, ◌++◌, length, set, Some, Ok, sym, subst, inl, inr}
use Rattle.theory.specs.Meaning.{Kept, Meaning}
use Rattle.recipe.specs.declared.head.Spot.{Spot}
use Rattle.recipe.specs.declared.head.Spot.TheVariants.{Statements as InBlock, Guarded}
use Rattle.recipe.specs.Blocks.{block_at}
use Rattle.recipe.specs.Cells.{at_number}
use Rattle.recipe.specs.Tree.{Block, block, Statements, stop, next, Statement, simple, guarded, cobegin, foreach, Blocks, none, more}
use Rattle.recipe.specs.WellFormed.{BlockLies, BlocksLie, StatementLies, StatementsLie}
use Rattle.recipe.proofs.Lying.{block_lies}
use Rattle.recipe.proofs.Once.{entry_is}
use Rattle.recipe.proofs.Reading.{block_reads}
use Rattle.strands.specs.Located.{place_of}
use Rattle.strands.specs.Strands.{Strand, each, strands_of, strands_in, strands_under, strands_beside}
use Rattle.strands.proofs.Rows.{either}

module _ {P R C : Type 0} (m : Meaning P R C) (file : List ℕ) where
  -- the body of a strand lies in the file, at its own place
  abbrev pub StrandLies : Strand P → Type 0
  StrandLies s = (e : ℕ) × BlockLies m file s.body s.forks s.depth (place_of s.body) e

  -- so do those of all strands of a list
  abbrev pub StrandsLie : List (Strand P) → Type 0
  StrandsLie all = (k : ℕ) (s : Strand P) → at_number all k ≡ Some s → StrandLies s

  lie_none : StrandsLie []
  lie_none k s h = absurd cc

  lie_both : (xs ys : List (Strand P)) → StrandsLie xs → StrandsLie ys → StrandsLie (xs ++ ys)
  lie_both xs ys f g k s h = go (either xs ys k s h)
    where
      go : (at_number xs k ≡ Some s) ⊎ ((j : ℕ) × (k ≡ length xs + j) × (at_number ys j ≡ Some s)) → StrandLies s
      go (inl e) = f k s e
      go (inr (j, e, h)) = g j s h

  lie_each : (n i : ℕ) (f : ℕ → List (Strand P)) → ((j : ℕ) → StrandsLie (f j)) → StrandsLie (each n i f)
  lie_each zero i f h = lie_none
  lie_each (suc n) i f h = lie_both (f i) (each n (suc i) f) (h i) (lie_each n (suc i) f h)

  lie_first : (own : Strand P) (rest : List (Strand P)) → StrandLies own → StrandsLie rest → StrandsLie (own ∷ rest)
  lie_first own rest l f zero s h = subst StrandLies (entry_is own s h) l
  lie_first own rest l f (suc k) s h = f k s h

  mutual
    unfolding strands_of strands_in strands_under strands_beside

    pub strands_lie : (b : Block P) (forks depth : ℕ) (is : List ℕ) (at e : ℕ) → BlockLies m file b forks depth at e → StrandsLie (strands_of b forks depth is)
    strands_lie (block place es ss) forks depth is at e (from, p, few, el, sl) =
        lie_first (record { body = block place es ss; forks = forks; depth = depth; indices = is }) (strands_in ss forks depth is)
        (e, subst (λ (n : ℕ). BlockLies m file (block place es ss) forks depth n e) (sym p) (from, p, few, el, sl)) (lie_in ss forks depth is from e sl)

    lie_in : (ss : Statements P) (forks depth : ℕ) (is : List ℕ) (at e : ℕ) → StatementsLie m file ss forks depth at e → StrandsLie (strands_in ss forks depth is)
    lie_in (stop place) forks depth is at e l = lie_none
    lie_in (next s ss) forks depth is at e (q, l, ls) =
        lie_both (strands_under s forks depth is) (strands_in ss forks depth is) (lie_under s InBlock forks depth is at q l) (lie_in ss forks depth is q e ls)

    lie_under : (s : Statement P) (spot : Spot) (forks depth : ℕ) (is : List ℕ) (at e : ℕ) → StatementLies m file s spot forks depth at e → StrandsLie (strands_under s forks depth is)
    lie_under (simple place o) spot forks depth is at e l = lie_none
    lie_under (guarded place r s) spot forks depth is at e (q, p, h, l) = lie_under s Guarded forks depth is q e l
    lie_under (cobegin place bs) spot forks depth is at e (q, p, h, l) = lie_beside bs (forks - 1) depth is q e l
    lie_under (foreach place n b) spot forks depth is at e (q, p, h, l) =
        lie_each n 0 (λ i. strands_of b (forks - 1) (depth + 1) (set is depth i)) (λ i. strands_lie b (forks - 1) (depth + 1) (set is depth i) q e l)

    lie_beside : (bs : Blocks P) (forks depth : ℕ) (is : List ℕ) (at e : ℕ) → BlocksLie m file bs forks depth at e → StrandsLie (strands_beside bs forks depth is)
    lie_beside none forks depth is at e l = lie_none
    lie_beside (more b bs) forks depth is at e (q, l, ls) =
        lie_both (strands_of b forks depth is) (strands_beside bs forks depth is) (strands_lie b forks depth is at q l) (lie_beside bs forks depth is q e ls)

  -- so it is what is read there
  pub strand_reads : Kept m → (b : Block P) (forks depth : ℕ) (is : List ℕ) (at e : ℕ) → BlockLies m file b forks depth at e → (k : ℕ) (s : Strand P) → at_number (strands_of b forks depth is) k ≡ Some s →
      (end : ℕ) × (block_at m file s.forks s.depth (place_of s.body) ≡ Ok (s.body, end))
  strand_reads kept b forks depth is at e l k s h =
      let (end, lies) = strands_lie b forks depth is at e l k s h in (end, block_reads m file kept s.body s.forks s.depth (place_of s.body) end lies)

  -- the same of a block that was read
  pub strand_read : Kept m → (b : Block P) (forks depth : ℕ) (is : List ℕ) (at e : ℕ) → block_at m file forks depth at ≡ Ok (b, e) → (k : ℕ) (s : Strand P) → at_number (strands_of b forks depth is) k ≡ Some s →
      (end : ℕ) × (block_at m file s.forks s.depth (place_of s.body) ≡ Ok (s.body, end))
  strand_read kept b forks depth is at e r = strand_reads kept b forks depth is at e (block_lies m file forks depth at b e r)
