-- Inclusion is exact, and a refusal has a cell to show for it. Assumes nothing.
use Rattle.std.proofs.Common.{◌≡◌, ℕ, suc, ◌<◌, ◌≤◌, Bool, false, ◌≢◌, List, [], ◌∷◌, map, length, refl, ◌∙◌, subst, arith}
use Rattle.theory.specs.Meaning.{Tells}
use Rattle.theory.specs.Telling.{tells_as, tells_eqb}
use Rattle.rpl.specs.declared.element.Key.{Key}
use Rattle.rpl.specs.declared.element.Key.TheVariants.{Named, Indexed}
use Rattle.rpl.specs.declared.element.Part.{Part}
use Rattle.rpl.specs.declared.element.Part.TheVariants.{Name, Index, AnyIndex}
use Rattle.rpl.specs.declared.element.Element.{Element}
use Rattle.rpl.specs.declared.element.Element.TheVariants.{Star, One}
use Rattle.rpl.specs.Paths.{Cells, Matches, Stands, done, more, one, skip}
use Rattle.rpl.specs.Inclusion.{FitCell, FitPath, Outside, covers, within_path}
use Rattle.rpl.proofs.Greedy.{greedy_exact}
use Rattle.rpl.proofs.Unused.{Out, unused}

-- every key of the letter is a key of the part; no part covers a star
abbrev Covers : Part → Element → Type 0
Covers a Star = ⊥
Covers (Name a) (One (Name b)) = a ≡ b
Covers (Name a) (One (Index b)) = ⊥
Covers (Name a) (One AnyIndex) = ⊥
Covers (Index a) (One (Name b)) = ⊥
Covers (Index a) (One (Index b)) = a ≡ b
Covers (Index a) (One AnyIndex) = ⊥
Covers AnyIndex (One (Name b)) = ⊥
Covers AnyIndex (One (Index b)) = Unit {0}
Covers AnyIndex (One AnyIndex) = Unit {0}

tells_covers : (a : Part) (b : Element) → Tells (covers a b) (Covers a b)
tells_covers a Star = λ z. z
tells_covers (Name a) (One (Name b)) = tells_eqb a b (λ e. e) (λ e. e)
tells_covers (Name a) (One (Index b)) = λ z. z
tells_covers (Name a) (One AnyIndex) = λ z. z
tells_covers (Index a) (One (Name b)) = λ z. z
tells_covers (Index a) (One (Index b)) = tells_eqb a b (λ e. e) (λ e. e)
tells_covers (Index a) (One AnyIndex) = λ z. z
tells_covers AnyIndex (One (Name b)) = λ z. z
tells_covers AnyIndex (One (Index b)) = tt
tells_covers AnyIndex (One AnyIndex) = tt

-- where the second path has the elements of the first, it has every cell of the first
through : (a b : Part) (e : Key) → Covers a (One b) → Stands b e → Stands a e
through (Name a) (Name b) (Named c) h k = h ∙ k
through (Name a) (Name b) (Indexed c) h k = k
through (Name a) (Index b) e h k = absurd h
through (Name a) AnyIndex e h k = absurd h
through (Index a) (Name b) e h k = absurd h
through (Index a) (Index b) (Named c) h k = k
through (Index a) (Index b) (Indexed c) h k = h ∙ k
through (Index a) AnyIndex e h k = absurd h
through AnyIndex (Name b) e h k = absurd h
through AnyIndex (Index b) (Named c) h k = k
through AnyIndex (Index b) (Indexed c) h k = tt
through AnyIndex AnyIndex e h k = k

absorb : {b : Element} {p q : List Element} {w : List Key} → ((v : List Key) → Cells p v → Cells (Star ∷ q) v) → Cells (b ∷ p) w → Cells (Star ∷ q) w
absorb f (skip m) = f _ m
absorb f (more m) = more (absorb f m)
absorb f (one t m) = more (f _ m)

over : {a : Part} {b : Element} {p q : List Element} {w : List Key} → Covers a b → ((v : List Key) → Cells p v → Cells q v) → Cells (b ∷ p) w → Cells (One a ∷ q) w
over h f (skip m) = absurd h
over h f (more m) = absurd h
over {a} h f (one {a = b} {e = e} {w = v} t m) = one (through a b e h t) (f v m)

every : {q p : List Element} → Matches Covers q p → (w : List Key) → Cells p w → Cells q w
every done w c = c
every (skip m) w c = skip (every m w c)
every (more m) w c = absorb (every m) c
every (one t m) w c = over t (every m) c

-- a cell of p that has n for each star and each any-index: where n is not in q, q has it only by p's elements
abbrev key_with : ℕ → Element → Key
key_with n Star = Named n
key_with n (One (Name a)) = Named a
key_with n (One (Index a)) = Indexed a
key_with n (One AnyIndex) = Indexed n

abbrev cell_with : ℕ → List Element → List Key
cell_with n = map (key_with n)

cell_with_in : (n : ℕ) (p : List Element) → Cells p (cell_with n p)
cell_with_in n [] = done
cell_with_in n (Star ∷ p) = more (skip (cell_with_in n p))
cell_with_in n (One (Name a) ∷ p) = one refl (cell_with_in n p)
cell_with_in n (One (Index a) ∷ p) = one refl (cell_with_in n p)
cell_with_in n (One AnyIndex ∷ p) = one tt (cell_with_in n p)

cell_with_fits : (n : ℕ) → n ≤ 65535 → (p : List Element) → FitPath p → FitCell (cell_with n p)
cell_with_fits n h [] f = tt
cell_with_fits n h (Star ∷ p) f = (h, cell_with_fits n h p f.1)
cell_with_fits n h (One (Name a) ∷ p) f = (f.0, cell_with_fits n h p f.1)
cell_with_fits n h (One (Index a) ∷ p) f = (f.0, cell_with_fits n h p f.1)
cell_with_fits n h (One AnyIndex ∷ p) f = (omega arith, cell_with_fits n h p f.1)

-- the names and the indices of a path
abbrev numbers : List Element → List ℕ
numbers [] = []
numbers (Star ∷ q) = numbers q
numbers (One (Name a) ∷ q) = a ∷ numbers q
numbers (One (Index a) ∷ q) = a ∷ numbers q
numbers (One AnyIndex ∷ q) = numbers q

numbers_few : (q : List Element) → length (numbers q) ≤ length q
numbers_few [] = omega arith
numbers_few (Star ∷ q) = omega (arith, numbers_few q)
numbers_few (One (Name a) ∷ q) = omega (arith, numbers_few q)
numbers_few (One (Index a) ∷ q) = omega (arith, numbers_few q)
numbers_few (One AnyIndex ∷ q) = omega (arith, numbers_few q)

abbrev Other : ℕ → Part → Type 0
Other n (Name a) = a ≢ n
Other n (Index a) = a ≢ n
Other n AnyIndex = Unit {0}

abbrev Fresh : ℕ → List Element → Type 0
Fresh n [] = Unit {0}
Fresh n (Star ∷ q) = Fresh n q
Fresh n (One a ∷ q) = Other n a × Fresh n q

fresh : (n : ℕ) (q : List Element) → Out n (numbers q) → Fresh n q
fresh n [] h = tt
fresh n (Star ∷ q) h = fresh n q h
fresh n (One (Name a) ∷ q) h = (h.0, fresh n q h.1)
fresh n (One (Index a) ∷ q) h = (h.0, fresh n q h.1)
fresh n (One AnyIndex ∷ q) h = (tt, fresh n q h)

lift : (n : ℕ) (a : Part) (b : Element) → Other n a → Stands a (key_with n b) → Covers a b
lift n (Name a) Star f h = f h
lift n (Index a) Star f h = h
lift n AnyIndex Star f h = h
lift n (Name a) (One (Name b)) f h = h
lift n (Name a) (One (Index b)) f h = h
lift n (Name a) (One AnyIndex) f h = h
lift n (Index a) (One (Name b)) f h = h
lift n (Index a) (One (Index b)) f h = h
lift n (Index a) (One AnyIndex) f h = f h
lift n AnyIndex (One (Name b)) f h = h
lift n AnyIndex (One (Index b)) f h = tt
lift n AnyIndex (One AnyIndex) f h = tt

-- an AnyIndex of q never stands for the name of a star, so a star of p is taken by a star of q alone
lifted : (n : ℕ) {q : List Element} {w : List Key} → Cells q w → Fresh n q → (p : List Element) → w ≡ cell_with n p → Matches Covers q p
lifted n done f [] e = done
lifted n done f (b ∷ p) e = cc
lifted n (skip m) f p e = skip (lifted n m f p e)
lifted n (more m) f [] e = cc
lifted n (more m) f (b ∷ p) e = more (lifted n m f p cc)
lifted n (one t m) f [] e = cc
lifted n (one {a = a} {e = x} t m) f (b ∷ p) e =
    let same : x ≡ key_with n b = cc in
    one (lift n a b f.0 (subst (Stands a) same t)) (lifted n m f.1 p cc)

-- of m numbers, m above the length of q, one that q has not
module _ (p q : List Element) (m : ℕ) (h : length q < m) where
  spare : (k : ℕ) × (k < m) × Out k (numbers q)
  spare = unused m (numbers q) (omega (arith, numbers_few q))

  abbrev witness : List Key
  witness = cell_with spare.0 p

  witness_in : Cells p witness
  witness_in = cell_with_in spare.0 p

  witness_lifts : Cells q witness → Matches Covers q p
  witness_lifts c = lifted spare.0 c (fresh spare.0 q spare.2) p refl

  witness_fits : m ≤ 65536 → FitPath p → FitCell witness
  witness_fits k f = cell_with_fits spare.0 (omega (arith, spare.1)) p f

within_lifts : (p q : List Element) → Tells (within_path p q) (Matches Covers q p)
within_lifts p q = greedy_exact Covers covers tells_covers q p

pub within_exact : (p q : List Element) → Tells (within_path p q) ((w : List Key) → Cells p w → Cells q w)
within_exact p q = tells_as (within_path p q) (Matches Covers q p) ((w : List Key) → Cells p w → Cells q w) every
    (λ all. witness_lifts p q (suc (length q)) (omega arith) (all (witness p q (suc (length q)) (omega arith)) (witness_in p q (suc (length q)) (omega arith))))
    (within_lifts p q)

pub refused : (p q : List Element) → FitPath p → length q ≤ 65535 → within_path p q ≡ false → Outside p q
refused p q f h e =
    let l : length q < 65536 = omega arith in
    let n : Tells false (Matches Covers q p) = subst (λ (b : Bool). Tells b (Matches Covers q p)) e (within_lifts p q) in
    (witness p q 65536 l, witness_fits p q 65536 l (omega arith) f, witness_in p q 65536 l, λ c. n (witness_lifts p q 65536 l c))
