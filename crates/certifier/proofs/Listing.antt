-- The listed cells: reading them, and looking one up. Assumes nothing.
use Rattle.std.proofs.Common.{◌≡◌, ℕ, ◌+◌, ◌-◌, ◌≤◌, Bool, true, false, cond, ◌||◌, List, [], ◌∷◌, ◌++◌, map, is_some, Some, None, Ok, Err, Option, sym, refl, ap, ◌∙◌, append_assoc, append-nil, arith}
use Rattle.std.proofs.lemmas.List.{map_push}
use Rattle.std.specs.List.{list_any}
use Rattle.theory.specs.Meaning.{Meaning}
use Rattle.recipe.specs.declared.fault.Fault.{Fault}
use Rattle.recipe.specs.Cells.{cell_at, later, position}
use Rattle.recipe.specs.Listed.{listed}
use Rattle.recipe.proofs.CellLaws.{listed_bad, listed_end, listed_more}

found_or : (b : Bool) (o : Option ℕ) → is_some (cond b (Some 0) (later o)) ≡ (b || is_some o)
found_or true o = refl
found_or false None = refl
found_or false (Some k) = refl

-- a cell is listed where one of the cells is the same
pub listed_any : {P R C : Type 0} (m : Meaning P R C) (x : m.Point) (cells : List C) → is_some (position m x (map m.point cells)) ≡ list_any (λ c. m.same x (m.point c)) cells
unfolding position
listed_any m x [] = refl
listed_any m x (c ∷ cells) = found_or (m.same x (m.point c)) (position m x (map m.point cells)) ∙ ap (λ (b : Bool). m.same x (m.point c) || b) (listed_any m x cells)

module _ {P R C : Type 0} (m : Meaning P R C) (file : List ℕ) (got : List C) (left at : ℕ) (all : List m.Point) (read : List ℕ) (its : read ≡ file) (inv : map m.point got ++ listed m file left at ≡ all) where
  pub list_more : (next : ℕ) → next + 1 ≡ left → (c : C) (after : ℕ) → Ok (m.point c, after) ≡ cell_at m read at → (now : List C) → now ≡ got ++ (c ∷ []) → map m.point now ++ listed m file next after ≡ all
  list_more next n c after e now pushed =
      let later : left - 1 ≡ next = omega arith in
      ap (λ (xs : List C). map m.point xs ++ listed m file next after) pushed
      ∙ ap (λ (xs : List m.Point). xs ++ listed m file next after) (map_push m.point got c)
      ∙ append_assoc (map m.point got) (m.point c ∷ []) (listed m file next after)
      ∙ ap (λ (xs : List m.Point). map m.point got ++ xs) (sym (listed_more m file left at after (m.point c) (omega arith) (e ∙ ap (λ (f : List ℕ). cell_at m f at) its) ∙ ap (λ (k : ℕ). m.point c ∷ listed m file k after) later))
      ∙ inv

  none_left : listed m file left at ≡ [] → map m.point got ≡ all
  none_left e = sym (append-nil (map m.point got)) ∙ ap (λ (xs : List m.Point). map m.point got ++ xs) (sym e) ∙ inv

  pub list_bad : (f : Fault) → Err f ≡ cell_at m read at → map m.point got ≡ all
  list_bad f e = none_left (listed_bad m file left at f (e ∙ ap (λ (f : List ℕ). cell_at m f at) its))

  pub list_all : left ≤ 0 → map m.point got ≡ all
  list_all l = none_left (listed_end m file left at l)
