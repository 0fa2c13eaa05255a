-- What the program's recipe gives, where a file reads as this tree. Assumes nothing.
use Rattle.std.proofs.Common.{◌≡◌, ℕ, ◌+◌, ◌≤◌, false, List, ◌++◌, length, Some, Ok, ap, ◌∙◌, arith, length-append, le-leb}
use Rattle.std.specs.Option.{option_map}
use Rattle.theory.specs.Meaning.{Kept, Meaning}
use Rattle.recipe.specs.declared.head.Spot.TheVariants.{Effects}
use Rattle.recipe.specs.Heads.{begins}
use Rattle.recipe.specs.declared.recipe.Recipe.{Recipe}
use Rattle.recipe.specs.Blocks.{block_at}
use Rattle.recipe.specs.Cells.{unfilled}
use Rattle.recipe.specs.Numbers.{Numbers, numbers}
use Rattle.recipe.specs.Recipes.{Tree}
use Rattle.recipe.specs.Tree.{Block, block, size}
use Rattle.recipe.specs.WellFormed.{BlockLies, EffectsLie, StatementsLie, WellFormed}
use Rattle.recipe.proofs.Accepted.{laws}
use Rattle.recipe.proofs.Lying.{block_lies}
use Rattle.recipe.proofs.Reading.{block_reads, statements_begin}
use Rattle.strands.specs.Children.{statements_of}
use Rattle.strands.specs.Located.{located, place_of, strand_at}
use Rattle.strands.specs.Strands.{Strand, strands_of}
use Rattle.strands.proofs.Counting.{of_length}
use Rattle.strands.proofs.Rows.{of_rows}
use Rattle.strands.proofs.Standing.{strand_reads}
use Rattle.certifier.specs.Faults.{effects_in}
use Rattle.certifier.specs.Sound.{Numbered}
use Rattle.certifier.specs.Walks.{Holds}

module _ {P R C : Type 0} (m : Meaning P R C) (file : List ℕ) where
  -- the effects and the statements of a block that was read
  pub block_apart : (b : Block P) (forks depth at e : ℕ) → BlockLies m file b forks depth at e →
      (from : ℕ) × EffectsLie m file (effects_in b) depth at from × (begins file Effects from ≡ false) × StatementsLie m file (statements_of b) forks depth from e
  block_apart (block place es ss) forks depth at e (from, p, few, el, sl) = (from, el, (statements_begin m file ss forks depth from e sl).0, sl)

  pub read_apart : (b : Block P) (forks depth at e : ℕ) → block_at m file forks depth at ≡ Ok (b, e) →
      (from : ℕ) × EffectsLie m file (effects_in b) depth at from × (begins file Effects from ≡ false) × StatementsLie m file (statements_of b) forks depth from e
  read_apart b forks depth at e h = block_apart b forks depth at e (block_lies m file forks depth at b e h)

module _ {P R C : Type 0} (m : Meaning P R C) (kept : Kept m) (recipe : Recipe) (t : Tree P m.Point) (h : Holds m recipe t) where
  well : WellFormed m recipe.file.now t
  well = (laws m kept).sound recipe.file.now t h.0

  from_is : (numbers recipe).from ≡ t.from
  from_is = ap (λ (n : Numbers). n.from) h.1

  pub located_is : (k : ℕ) (s : Strand P) → Numbered m t k s → strand_at m recipe.file.now (numbers recipe).from k ≡ Some (located s)
  unfolding strand_at well from_is
  located_is k s n =
      rw (from_is, block_reads m recipe.file.now kept t.root 6 0 t.from (length recipe.file.now) well.root_lies, le-leb (size t.root) 1024 well.few_strands)
      (ap (option_map located) n)

  pub strand_stands : (k : ℕ) (s : Strand P) → Numbered m t k s → (e : ℕ) × (block_at m recipe.file.now s.forks s.depth (place_of s.body) ≡ Ok (s.body, e))
  unfolding well
  strand_stands k s n = strand_reads m recipe.file.now kept t.root 6 0 unfilled t.from (length recipe.file.now) well.root_lies k s n

  pub strand_small : (k : ℕ) (s : Strand P) → Numbered m t k s → k + size s.body ≤ 1024
  unfolding well
  strand_small k s n =
      let (before, after, all, at) = of_rows t.root 6 0 unfilled k s n in
      let whole = of_length t.root 6 0 unfilled in
      let own = of_length s.body s.forks s.depth s.indices in
      let sum = ap length all ∙ length-append before (strands_of s.body s.forks s.depth s.indices ++ after) in
      let part = length-append (strands_of s.body s.forks s.depth s.indices) after in
      omega (arith, well.few_strands)
