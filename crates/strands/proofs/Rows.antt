-- The strands inside a strand stand in a row. Assumes nothing.
use Rattle.std.proofs.Common.{◌≡◌, ℕ, zero, suc, ◌+◌, ◌-◌, ◌⊎◌, List, [], ◌∷◌, ◌++◌, length, set, Some, sym, refl, ap, ◌∙◌, subst, inl, inr, append_assoc, append-nil, arith, length-append}
use Rattle.recipe.specs.Tree.{Block, block, Statements, stop, next, Statement, simple, guarded, cobegin, foreach, Blocks, none, more}
use Rattle.strands.specs.StrandLaws.{InRow}
use Rattle.recipe.specs.Cells.{at_number}
use Rattle.recipe.proofs.Once.{entry_is}
use Rattle.strands.specs.Strands.{Strand, each, strands_of, strands_in, strands_under, strands_beside}

-- an entry of two lists is one of the first or one of the second
pub either : {X : Type 0} (xs ys : List X) (k : ℕ) (s : X) → at_number (xs ++ ys) k ≡ Some s → (at_number xs k ≡ Some s) ⊎ ((j : ℕ) × (k ≡ length xs + j) × (at_number ys j ≡ Some s))
either [] ys k s h = inr (k, omega arith, h)
either (x ∷ xs) ys zero s h = inl h
either (x ∷ xs) ys (suc k) s h = go (either xs ys k s h)
  where
    go : (at_number xs k ≡ Some s) ⊎ ((j : ℕ) × (k ≡ length xs + j) × (at_number ys j ≡ Some s)) → (at_number xs k ≡ Some s) ⊎ ((j : ℕ) × (suc k ≡ suc (length xs) + j) × (at_number ys j ≡ Some s))
    go (inl e) = inl e
    go (inr (j, e, f)) = inr (j, omega arith, f)

row_first : {X : Type 0} (inside xs ys : List X) (k : ℕ) → InRow inside k xs → InRow inside k (xs ++ ys)
row_first inside xs ys k (before, after, e, l) =
    (before, after ++ ys, ap (λ a. a ++ ys) e ∙ append_assoc before (inside ++ after) ys ∙ ap (λ a. before ++ a) (append_assoc inside after ys), l)

pub row_second : {X : Type 0} (inside xs ys : List X) (k j : ℕ) → k ≡ length xs + j → InRow inside j ys → InRow inside k (xs ++ ys)
row_second inside xs ys k j n (before, after, e, l) =
    (xs ++ before, after, ap (λ a. xs ++ a) e ∙ sym (append_assoc xs before (inside ++ after)), length-append xs before ∙ omega arith)

-- every strand of a list stands there with the strands inside it, in a row
module _ {P : Type 0} where
  abbrev pub Rows : List (Strand P) → Type 0
  Rows all = (k : ℕ) (s : Strand P) → at_number all k ≡ Some s → InRow (strands_of s.body s.forks s.depth s.indices) k all

  rows_none : Rows []
  rows_none k s h = absurd cc

  rows_both : (xs ys : List (Strand P)) → Rows xs → Rows ys → Rows (xs ++ ys)
  rows_both xs ys f g k s h = go (either xs ys k s h)
    where
      go : (at_number xs k ≡ Some s) ⊎ ((j : ℕ) × (k ≡ length xs + j) × (at_number ys j ≡ Some s)) → InRow (strands_of s.body s.forks s.depth s.indices) k (xs ++ ys)
      go (inl e) = row_first _ xs ys k (f k s e)
      go (inr (j, e, h)) = row_second _ xs ys k j e (g j s h)

  rows_each : (n i : ℕ) (f : ℕ → List (Strand P)) → ((j : ℕ) → Rows (f j)) → Rows (each n i f)
  rows_each zero i f h = rows_none
  rows_each (suc n) i f h = rows_both (f i) (each n (suc i) f) (h i) (rows_each n (suc i) f h)

  mutual
    unfolding strands_of strands_in strands_under strands_beside

    pub of_rows : (b : Block P) (forks depth : ℕ) (is : List ℕ) → Rows (strands_of b forks depth is)
    of_rows (block at es ss) forks depth is zero s h =
        let e = entry_is (record { body = block at es ss; forks = forks; depth = depth; indices = is }) s h in
        subst (λ (s : Strand P). InRow (strands_of s.body s.forks s.depth s.indices) 0 (strands_of (block at es ss) forks depth is)) e
        ([], [], sym (append-nil (strands_of (block at es ss) forks depth is)), refl)
    of_rows (block at es ss) forks depth is (suc k) s h =
        let (before, after, e, l) = in_rows ss forks depth is k s h in
        let own : Strand P = record { body = block at es ss; forks = forks; depth = depth; indices = is } in
        (own ∷ before, after, ap (λ a. own ∷ a) e, ap suc l)

    in_rows : (ss : Statements P) (forks depth : ℕ) (is : List ℕ) → Rows (strands_in ss forks depth is)
    in_rows (stop at) forks depth is = rows_none
    in_rows (next s ss) forks depth is = rows_both (strands_under s forks depth is) (strands_in ss forks depth is) (under_rows s forks depth is) (in_rows ss forks depth is)

    under_rows : (s : Statement P) (forks depth : ℕ) (is : List ℕ) → Rows (strands_under s forks depth is)
    under_rows (simple at o) forks depth is = rows_none
    under_rows (guarded at r s) forks depth is = under_rows s forks depth is
    under_rows (cobegin at bs) forks depth is = beside_rows bs (forks - 1) depth is
    under_rows (foreach at n b) forks depth is =
        rows_each n 0 (λ i. strands_of b (forks - 1) (depth + 1) (set is depth i)) (λ i. of_rows b (forks - 1) (depth + 1) (set is depth i))

    beside_rows : (bs : Blocks P) (forks depth : ℕ) (is : List ℕ) → Rows (strands_beside bs forks depth is)
    beside_rows none forks depth is = rows_none
    beside_rows (more b bs) forks depth is = rows_both (strands_of b forks depth is) (strands_beside bs forks depth is) (of_rows b forks depth is) (beside_rows bs forks depth is)
