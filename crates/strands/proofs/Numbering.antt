-- The laws of numbering, together. Assumes nothing.
use Rattle.std.proofs.Common.{◌≡◌, ℕ, List, Some, refl, arith}
use Rattle.recipe.specs.Cells.{at_number}
use Rattle.recipe.specs.Tree.{Block, block}
use Rattle.strands.specs.StrandLaws.{StrandLaws}
use Rattle.strands.specs.Strands.{strands_of}
use Rattle.strands.proofs.Childhood.{children_told}
use Rattle.strands.proofs.Kin.{kin}
use Rattle.strands.proofs.Counting.{at_past, at_some, of_length}
use Rattle.strands.proofs.Rows.{of_rows}

own : {P : Type 0} (b : Block P) (forks depth : ℕ) (is : List ℕ) → at_number (strands_of b forks depth is) 0 ≡ Some (record { body = b; forks = forks; depth = depth; indices = is })
unfolding strands_of
own (block at es ss) forks depth is = refl

pub laws : (P : Type 0) → StrandLaws P
laws P = record {
  counted = of_length;
  own = own;
  onto = λ b forks depth is k h. at_some (strands_of b forks depth is) k (omega (arith, of_length b forks depth is));
  beyond = λ b forks depth is k h. at_past (strands_of b forks depth is) k (omega (arith, of_length b forks depth is));
  in_row = of_rows;
  child = children_told;
  kin = kin;
}
