-- The table of body lengths holds what the kinds say. Assumes nothing.
use Rattle.std.proofs.Common.{◌≡◌, ℕ, zero, suc, ◌+◌, ◌<◌, ◌≤◌, Bool, true, false, cond, eqb, List, [], ◌∷◌, ◌++◌, map, get_or, Some, ap, ◌∙◌, add-zero, add-suc, suc-add, zero-add, arith}
use Rattle.std.proofs.lemmas.Bool.Decides.{nat_tests}
use Rattle.recipe.specs.declared.kinds.Kind.{Kind}
use Rattle.recipe.specs.Kinds.{body_length, body_of, elements, kind_in, kind_of, looked_up, named}

-- the list of a function's values from a number on
abbrev table : (ℕ → ℕ) → ℕ → ℕ → List ℕ
table f from zero = []
table f from (suc n) = f from ∷ table f (suc from) n

table_from : (f : ℕ → ℕ) (from n k : ℕ) → k < n → get_or (table f from n) k 0 ≡ f (from + k)
table_from f from zero k h = absurd (omega arith)
table_from f from (suc n) zero h = rw (add-zero from)
table_from f from (suc n) (suc k) h = rw (add-suc from k) (rw (← suc-add from k) (table_from f (suc from) n k (omega arith)))

pub table_at : (f : ℕ → ℕ) (n k : ℕ) → k < n → get_or (table f 0 n) k 0 ≡ f k
table_at f n k h = table_from f 0 n k h ∙ ap f (zero-add k)

-- no kind is above the table
pub beyond : (k : ℕ) → 73 ≤ k → body_length k ≡ 0
unfolding body_length
beyond k h = grind (arith, nat_tests)

-- a kind is found with the length of its body
found : (list : List (ℕ × Kind)) (b : ℕ) (k : Kind) → kind_in list b ≡ Some k → looked_up (map (λ (byte, kind). (byte, body_of kind)) list ++ elements) b ≡ body_of k
found [] b k e = absurd cc
found ((byte, kind) ∷ rest) b k e = go (eqb b byte) (found rest b k) e
  where
    go : (t : Bool) {n : ℕ} → (kind_in rest b ≡ Some k → n ≡ body_of k) → cond t (Some kind) (kind_in rest b) ≡ Some k → cond t (body_of kind) n ≡ body_of k
    go true later h = let same : kind ≡ k = cc in ap body_of same
    go false later h = later h

pub lengths_agree : (b : ℕ) (k : Kind) → kind_of b ≡ Some k → body_length b ≡ body_of k
unfolding kind_of body_length
lengths_agree b k e = found named b k e
