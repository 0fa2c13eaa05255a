-- Lists behind slice patterns. Assumes nothing.
use Rattle.std.proofs.Common.{◌≡◌, ◌≤◌, List, [], ◌∷◌, length, get_or, sym, ap, ◌∙◌, arith}
use Rattle.std.proofs.lemmas.List.{nil_from_length, take_rest}
use Rattle.rpl.specs.Lists.{rest}

-- the rest of a list with a first element
pub rest_is : {X : Type 0} (x : X) (xs : List X) → rest (x ∷ xs) ≡ xs
rest_is x xs = take_rest (x ∷ xs) 1

-- a list with this first element
pub headed : {X : Type 0} (d x : X) (xs : List X) → 1 ≤ length xs → get_or xs 0 d ≡ x → xs ≡ x ∷ rest xs
headed d x [] h e = absurd (omega arith)
headed d x (y ∷ ys) h e = ap (λ (z : _). z ∷ ys) e ∙ ap (λ (zs : List _). x ∷ zs) (sym (rest_is y ys))

pub empty : {X : Type 0} (xs : List X) → length xs ≤ 0 → xs ≡ []
empty xs h = nil_from_length xs (omega arith)
