-- The children of the statements of a strand stand at their numbers among all strands. Assumes nothing.
use Rattle.std.proofs.Common.{◌≡◌, ℕ, zero, suc, ◌+◌, ◌-◌, ◌<◌, List, [], ◌∷◌, ◌++◌, length, set, Some, sym, refl, ap, ◌∙◌, subst, inl, inr, append_assoc, arith, length-append}
use Rattle.recipe.specs.Cells.{at_number}
use Rattle.recipe.specs.Tree.{Block, block, Blocks, none, more, Statements, stop, next, Statement, simple, guarded, cobegin, foreach, forked, size}
use Rattle.recipe.specs.WellFormed.{block_count}
use Rattle.strands.specs.Children.{Behind, branch_strands, child_strands, children, first_child, own_strand, statements_of}
use Rattle.strands.specs.StrandLaws.{InRow}
use Rattle.strands.specs.Strands.{Strand, each, strands_of, strands_in, strands_under}
use Rattle.strands.proofs.Childhood.{children_told}
use Rattle.strands.proofs.Counting.{at_first, at_second, at_some, under_length}
use Rattle.strands.proofs.Found.{instances_length, starts_length}
use Rattle.strands.proofs.Rows.{of_rows, row_second}

-- rows within rows, and their entries
row_in_row : {X : Type 0} (xs ys all : List X) (i j : ℕ) → InRow xs i ys → InRow ys j all → InRow xs (j + i) all
row_in_row xs ys all i j (before, after, e, l) (before2, after2, e2, l2) = (
  before2 ++ before,
  after ++ after2,
  e2 ∙ ap (λ a. before2 ++ (a ++ after2)) e ∙ ap (λ a. before2 ++ a) (append_assoc before (xs ++ after) after2 ∙ ap (λ a. before ++ a) (append_assoc xs after after2)) ∙ sym (append_assoc before2 before (xs ++ (after ++ after2))),
  length-append before2 before ∙ omega arith,
)

below : {X : Type 0} (xs : List X) (i : ℕ) (x : X) → at_number xs i ≡ Some x → i < length xs
below [] i x h = absurd cc
below (y ∷ xs) zero x h = omega arith
below (y ∷ xs) (suc i) x h = let l = below xs i x h in omega arith

pub row_entry : {X : Type 0} (xs all : List X) (k i : ℕ) (x : X) → InRow xs k all → at_number xs i ≡ Some x → at_number all (k + i) ≡ Some x
row_entry xs all k i x (before, after, e, l) h =
    let less = below xs i x h in
    let n : k + i - length before ≡ i = omega arith in
    ap (λ a. at_number a (k + i)) e ∙ at_second before (xs ++ after) (k + i) (omega arith) ∙ ap (at_number (xs ++ after)) n ∙ at_first xs after i less ∙ h

-- statements behind others
pub behind_none : {P : Type 0} (all : Statements P) → Behind all 0 all
behind_none (stop at) = (refl, refl)
behind_none (next s ss) = inl (refl, refl)

pub behind_more : {P : Type 0} (all : Statements P) (n : ℕ) (s : Statement P) (ss : Statements P) → Behind all n (next s ss) → Behind all (n + forked s) ss
behind_more (stop at) n s ss (z, e) = absurd cc
behind_more (next t ts) n s ss (inl (z, e)) =
    let same : s ≡ t = cc in
    let rest : ss ≡ ts = cc in
    let long = ap forked same in
    inr (0, omega arith, subst (λ (x : Statements _). Behind ts 0 x) (sym rest) (behind_none ts))
behind_more (next t ts) n s ss (inr (j, z, b)) = inr (j + forked s, omega arith, behind_more ts j s ss b)

module _ {P : Type 0} (forks depth : ℕ) (is : List ℕ) where
  row_head : (s t : Statement P) (ss ts : Statements P) → next s ss ≡ next t ts → InRow (strands_under s forks depth is) 0 (strands_in (next t ts) forks depth is)
  unfolding strands_in
  row_head s t ss ts e =
      let same : s ≡ t = cc in ([], strands_in ts forks depth is, ap (λ (x : Statement P). strands_under x forks depth is ++ strands_in ts forks depth is) (sym same), refl)

  -- the strands of a statement stand in a row behind those of the statements before it
  pub statement_row : (all : Statements P) (n : ℕ) (s : Statement P) (ss : Statements P) → Behind all n (next s ss) → InRow (strands_under s forks depth is) n (strands_in all forks depth is)
  unfolding strands_in
  statement_row (stop at) n s ss (z, e) = absurd cc
  statement_row (next t ts) n s ss (inl (z, e)) = subst (λ (i : ℕ). InRow (strands_under s forks depth is) i (strands_in (next t ts) forks depth is)) (sym z) (row_head s t ss ts e)
  statement_row (next t ts) n s ss (inr (j, z, b)) =
      row_second (strands_under s forks depth is) (strands_under t forks depth is) (strands_in ts forks depth is) n j (z ∙ ap (λ (i : ℕ). i + j) (sym (under_length t forks depth is))) (statement_row ts j s ss b)

  body_row : (b : Block P) (n : ℕ) (s : Statement P) (ss : Statements P) → Behind (statements_of b) n (next s ss) → InRow (strands_under s forks depth is) (1 + n) (strands_of b forks depth is)
  unfolding strands_of
  body_row (block at es all) n s ss h =
      row_second (strands_under s forks depth is) (own_strand (block at es all) forks depth is ∷ []) (strands_in all forks depth is) (1 + n) n refl (statement_row all n s ss h)

  -- as many children as numbers of children
  branch_count : (bs : Blocks P) → length (branch_strands bs forks depth is) ≡ block_count bs
  branch_count none = refl
  branch_count (more b bs) = ap suc (branch_count bs)

each_count : {X : Type 0} (n i : ℕ) (f : ℕ → X) → length (each n i (λ j. f j ∷ [])) ≡ n
each_count zero i f = refl
each_count (suc n) i f = ap suc (each_count n (suc i) f)

pub child_count : {P : Type 0} (s : Statement P) (forks depth : ℕ) (is : List ℕ) (first : ℕ) → length (children s first) ≡ length (child_strands s forks depth is)
child_count (simple at o) forks depth is first = refl
child_count (guarded at r s) forks depth is first = child_count s forks depth is first
child_count (cobegin at bs) forks depth is first = starts_length bs first ∙ sym (branch_count (forks - 1) depth is bs)
child_count (foreach at n b) forks depth is first = instances_length n (size b) first ∙ sym (each_count n 0 (λ i. own_strand b (forks - 1) (depth + 1) (set is depth i)))

pub kin : {P : Type 0} (b : Block P) (forks depth : ℕ) (is : List ℕ) (k : ℕ) (s : Strand P) → at_number (strands_of b forks depth is) k ≡ Some s →
    (n : ℕ) (st : Statement P) (later : Statements P) → Behind (statements_of s.body) n (next st later) →
    (nth c : ℕ) → at_number (children st (first_child k n)) nth ≡ Some c →
    (t : Strand P) × (at_number (child_strands st s.forks s.depth s.indices) nth ≡ Some t) × (at_number (strands_of b forks depth is) c ≡ Some t)
kin b forks depth is k s h n st later behind nth c g =
    let first = k + 1 + n in
    let less = below (children st first) nth c g in
    let (t, is_t) = at_some (child_strands st s.forks s.depth s.indices) nth (omega (arith, child_count st s.forks s.depth s.indices first)) in
    let (low, found) = children_told st s.forks s.depth s.indices first nth c t g is_t in
    let row =
    row_in_row (strands_under st s.forks s.depth s.indices) (strands_of s.body s.forks s.depth s.indices) (strands_of b forks depth is) (1 + n) k
    (body_row s.forks s.depth s.indices s.body n st later behind) (of_rows b forks depth is k s h)
    in
    let at : k + (1 + n) + (c - first) ≡ c = omega arith in
    (t, is_t, ap (at_number (strands_of b forks depth is)) (sym at) ∙ row_entry (strands_under st s.forks s.depth s.indices) (strands_of b forks depth is) (k + (1 + n)) (c - first) t row found)
