-- Each way through the list of cells. Assumes nothing.
use Rattle.std.proofs.Common.{◌≡◌, ℕ, zero, suc, ◌+◌, ◌-◌, ◌<◌, ◌≤◌, true, false, List, [], ◌∷◌, ◌++◌, length, is_some, Some, None, Ok, Err, Option, Result, sym, refl, ap, ◌∙◌, subst, arith}
use Rattle.std.specs.Result.{result_ok}
use Rattle.theory.specs.declared.fault.Flaw.TheVariants.{TooMany}
use Rattle.theory.specs.Meaning.{Meaning}
use Rattle.recipe.specs.declared.fault.Fault.{Fault}
use Rattle.recipe.specs.declared.fault.Fault.TheVariants.{Record, Repeated}
use Rattle.recipe.specs.declared.head.Spot.TheVariants.{Cells}
use Rattle.recipe.specs.Cells.{cell_at, cells, later, position}
use Rattle.recipe.specs.Heads.{begins}
use Rattle.recipe.specs.Listed.{listed, pointed_at}

-- a position counted from further on
abbrev pub shifted : ℕ → Option ℕ → Option ℕ
shifted k None = None
shifted k (Some n) = Some (k + n)

shifted_later : (k : ℕ) (o : Option ℕ) → shifted k (later o) ≡ shifted (suc k) o
shifted_later k None = refl
shifted_later k (Some n) = ap (λ i. Some i) (omega arith)

pub shifted_none : (o : Option ℕ) → shifted 0 o ≡ o
shifted_none None = refl
shifted_none (Some n) = ap (λ i. Some i) (omega arith)

module _ {P R C : Type 0} (m : Meaning P R C) (file : List ℕ) where
  pub listed_end : (n at : ℕ) → n ≤ 0 → listed m file n at ≡ []
  unfolding listed
  listed_end zero at z = refl
  listed_end (suc n) at z = absurd (omega arith)

  pub listed_bad : (n at : ℕ) (f : Fault) → Err f ≡ cell_at m file at → listed m file n at ≡ []
  unfolding listed
  listed_bad zero at f e = refl
  listed_bad (suc n) at f e = rw (sym e)

  -- what a reading without its fault says
  pub cell_got : (r : Result (C × ℕ) Fault) (y : C) (after at : ℕ) → Some (y, after) ≡ result_ok r → pointed_at m r ≡ cell_at m file at → Ok (m.point y, after) ≡ cell_at m file at
  cell_got (Ok p) y after at h is = let same : p ≡ (y, after) = cc in subst (λ (q : C × ℕ). pointed_at m (Ok q) ≡ cell_at m file at) same is
  cell_got (Err f) y after at h is = absurd cc

  pub listed_none : (r : Result (C × ℕ) Fault) (n at : ℕ) → None ≡ result_ok r → pointed_at m r ≡ cell_at m file at → listed m file n at ≡ []
  listed_none (Ok x) n at h is = absurd cc
  listed_none (Err f) n at h is = listed_bad n at f is

  pub listed_more : (n at after : ℕ) (y : m.Point) → 0 < n → Ok (y, after) ≡ cell_at m file at → listed m file n at ≡ y ∷ listed m file (n - 1) after
  unfolding listed
  listed_more zero at after y z e = absurd (omega arith)
  listed_more (suc n) at after y z e = let one : suc n - 1 ≡ n = omega arith in rw (sym e, one)

  -- the search goes on, ends, or has found the cell
  module _ (x : m.Point) where
    pub found_here : (k n at after : ℕ) (y : m.Point) → 0 < n → Ok (y, after) ≡ cell_at m file at → m.same x y ≡ true → Some k ≡ shifted k (position m x (listed m file n at))
    unfolding position
    found_here k n at after y z e s = rw (listed_more n at after y z e, s) (ap (λ i. Some i) (omega arith))

    pub found_later : (k n at after : ℕ) (y : m.Point) → 0 < n → Ok (y, after) ≡ cell_at m file at → m.same x y ≡ false →
        shifted k (position m x (listed m file n at)) ≡ shifted (k + 1) (position m x (listed m file (n - 1) after))
    unfolding position
    found_later k n at after y z e s =
        let one : suc k ≡ k + 1 = omega arith in
        rw (listed_more n at after y z e, s) (shifted_later k (position m x (listed m file (n - 1) after)) ∙ ap (λ i. shifted i (position m x (listed m file (n - 1) after))) one)

    pub found_never : (k : ℕ) (xs : List m.Point) → xs ≡ [] → None ≡ shifted k (position m x xs)
    unfolding position
    found_never k xs e = rw e

  -- so many cells are listed between two places
  abbrev pub Walks : (count from to : ℕ) → Type 0
  Walks zero from to = from ≡ to
  Walks (suc n) from to = (x : m.Point) × (after : ℕ) × (Ok (x, after) ≡ cell_at m file from) × Walks n after to

  pub walks_length : (n from to : ℕ) → Walks n from to → length (listed m file n from) ≡ n
  unfolding listed
  walks_length zero from to w = refl
  walks_length (suc n) from to (x, after, e, w) = rw (sym e) (ap suc (walks_length n after to w))

  pub walks_on : (n from to after : ℕ) (y : m.Point) → Walks n from to → Ok (y, after) ≡ cell_at m file to → Walks (suc n) from after
  walks_on zero from to after y w e = subst (λ (k : ℕ). Walks 1 k after) (sym w) (y, after, e, refl)
  walks_on (suc n) from to after y (x, q, d, w) e = (x, q, d, walks_on n q to after y w e)

  pub walks_listed : (n from to after : ℕ) (y : m.Point) → Walks n from to → Ok (y, after) ≡ cell_at m file to → listed m file (suc n) from ≡ listed m file n from ++ (y ∷ [])
  unfolding listed
  walks_listed zero from to after y w e = rw (w, ← e)
  walks_listed (suc n) from to after y (x, q, d, w) e = rw (sym d) (ap (λ (l : List m.Point). x ∷ l) (walks_listed n q to after y w e))

  pub none_listed : (at : ℕ) → listed m file 0 at ≡ []
  unfolding listed
  none_listed at = refl

  module _ (seen : List m.Point) where
    pub cells_stop : (room at : ℕ) → begins file Cells at ≡ false → cells m file room seen at ≡ Ok (seen, at)
    unfolding cells
    cells_stop zero at e = rw e
    cells_stop (suc room) at e = rw e

    pub cells_full : (room at : ℕ) → begins file Cells at ≡ true → room ≡ 0 → cells m file room seen at ≡ Err (Record TooMany at)
    unfolding cells
    cells_full zero at e z = rw e
    cells_full (suc room) at e z = absurd (omega arith)

    pub cells_bad : (room at : ℕ) (f : Fault) → begins file Cells at ≡ true → 0 < room → Err f ≡ cell_at m file at → cells m file room seen at ≡ Err f
    unfolding cells
    cells_bad zero at f e z h = absurd (omega arith)
    cells_bad (suc room) at f e z h = rw (e, sym h)

    pub cells_repeated : (room at after : ℕ) (x : m.Point) → begins file Cells at ≡ true → 0 < room → Ok (x, after) ≡ cell_at m file at → is_some (position m x seen) ≡ true → cells m file room seen at ≡ Err (Repeated at)
    unfolding cells
    cells_repeated zero at after x e z h s = absurd (omega arith)
    cells_repeated (suc room) at after x e z h s = rw (e, sym h, s)

    pub cells_more : (room at after : ℕ) (x : m.Point) → begins file Cells at ≡ true → 0 < room → Ok (x, after) ≡ cell_at m file at → is_some (position m x seen) ≡ false →
        cells m file room seen at ≡ cells m file (room - 1) (seen ++ (x ∷ [])) after
    unfolding cells
    cells_more zero at after x e z h s = absurd (omega arith)
    cells_more (suc room) at after x e z h s = let one : suc room - 1 ≡ room = omega arith in rw (e, sym h, s, one)

  -- one more cell is listed, and is not among those before it
  pub cells_on : (count at after : ℕ) (x : m.Point) → begins file Cells at ≡ true → count < 128 → Ok (x, after) ≡ cell_at m file at → is_some (position m x (listed m file count 0)) ≡ false → Walks count 0 at →
      (cells m file (128 - (count + 1)) (listed m file (count + 1) 0) after ≡ cells m file (128 - count) (listed m file count 0) at) × Walks (count + 1) 0 after
  cells_on count at after x e h c s w =
      let one : suc count ≡ count + 1 = omega arith in
      let less : 128 - count - 1 ≡ 128 - (count + 1) = omega arith in
      subst (λ (k : ℕ). (cells m file (128 - (count + 1)) (listed m file k 0) after ≡ cells m file (128 - count) (listed m file count 0) at) × Walks k 0 after) one (
        rw (walks_listed count 0 at after x w c, ← less) (sym (cells_more (listed m file count 0) (128 - count) at after x e (omega arith) c s)),
        walks_on count 0 at after x w c,
      )

pub ruleset cell_found = (found_here, found_never, listed_none, listed_end, cell_got, shifted_none)

pub ruleset cells_read = (cells_stop, cells_full, cells_bad, cells_repeated, walks_length, none_listed)
