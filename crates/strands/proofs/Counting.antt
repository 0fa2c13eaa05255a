-- The list of strands is as long as the sizes say, and a number leads to the part that it falls into. Assumes nothing.
use Rattle.std.proofs.Common.{◌≡◌, ℕ, zero, suc, ◌+◌, ◌-◌, ◌*◌, ◌<◌, ◌≤◌, List, [], ◌∷◌, ◌++◌, length, set, Some, None, sym, refl, ap, ◌∙◌, suc-mul, zero-mul, arith, length-append}
use Rattle.recipe.specs.Tree.{Block, block, Statements, stop, next, Statement, simple, guarded, cobegin, foreach, Blocks, none, more, size, sizes, forked, branched}
use Rattle.recipe.specs.Cells.{at_number}
use Rattle.strands.specs.Strands.{each, strands_of, strands_in, strands_under, strands_beside}

each_length : {X : Type 0} (n i s : ℕ) (f : ℕ → List X) → ((j : ℕ) → length (f j) ≡ s) → length (each n i f) ≡ n * s
each_length zero i s f h = sym (zero-mul s)
each_length (suc n) i s f h = length-append (f i) (each n (suc i) f) ∙ omega (arith, h i, each_length n (suc i) s f h, suc-mul n s)

mutual
  unfolding strands_of strands_in strands_under strands_beside

  pub of_length : {P : Type 0} (b : Block P) (forks depth : ℕ) (is : List ℕ) → length (strands_of b forks depth is) ≡ size b
  of_length (block at es ss) forks depth is = ap suc (in_length ss forks depth is)

  pub in_length : {P : Type 0} (ss : Statements P) (forks depth : ℕ) (is : List ℕ) → length (strands_in ss forks depth is) ≡ sizes ss
  in_length (stop at) forks depth is = refl
  in_length (next s ss) forks depth is =
      length-append (strands_under s forks depth is) (strands_in ss forks depth is) ∙ omega (arith, under_length s forks depth is, in_length ss forks depth is)

  pub under_length : {P : Type 0} (s : Statement P) (forks depth : ℕ) (is : List ℕ) → length (strands_under s forks depth is) ≡ forked s
  under_length (simple at o) forks depth is = refl
  under_length (guarded at r s) forks depth is = under_length s forks depth is
  under_length (cobegin at bs) forks depth is = beside_length bs (forks - 1) depth is
  under_length (foreach at n b) forks depth is =
      each_length n 0 (size b) (λ i. strands_of b (forks - 1) (depth + 1) (set is depth i)) (λ i. of_length b (forks - 1) (depth + 1) (set is depth i))

  pub beside_length : {P : Type 0} (bs : Blocks P) (forks depth : ℕ) (is : List ℕ) → length (strands_beside bs forks depth is) ≡ branched bs
  beside_length none forks depth is = refl
  beside_length (more b bs) forks depth is =
      length-append (strands_of b forks depth is) (strands_beside bs forks depth is) ∙ omega (arith, of_length b forks depth is, beside_length bs forks depth is)

-- a number within the first of two lists, or past it
pub at_first : {X : Type 0} (xs ys : List X) (k : ℕ) → k < length xs → at_number (xs ++ ys) k ≡ at_number xs k
at_first [] ys k h = absurd (omega arith)
at_first (x ∷ xs) ys zero h = refl
at_first (x ∷ xs) ys (suc k) h = at_first xs ys k (omega arith)

pub at_second : {X : Type 0} (xs ys : List X) (k : ℕ) → length xs ≤ k → at_number (xs ++ ys) k ≡ at_number ys (k - length xs)
at_second [] ys k h = ap (at_number ys) (omega arith)
at_second (x ∷ xs) ys zero h = absurd (omega arith)
at_second (x ∷ xs) ys (suc k) h = at_second xs ys k (omega arith) ∙ ap (at_number ys) (omega arith)

pub at_past : {X : Type 0} (xs : List X) (k : ℕ) → length xs ≤ k → at_number xs k ≡ None
at_past [] k h = refl
at_past (x ∷ xs) zero h = absurd (omega arith)
at_past (x ∷ xs) (suc k) h = at_past xs k (omega arith)

pub at_some : {X : Type 0} (xs : List X) (k : ℕ) → k < length xs → (x : X) × (at_number xs k ≡ Some x)
at_some [] k h = absurd (omega arith)
at_some (x ∷ xs) zero h = (x, refl)
at_some (x ∷ xs) (suc k) h = at_some xs k (omega arith)
