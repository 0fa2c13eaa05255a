-- What holds of every file that reads. Assumes nothing.
use Rattle.std.proofs.Common.{◌≡◌, ℕ, zero, suc, ◌+◌, ◌≤◌, Bool, true, false, cond, eqb, leb, List, [], ◌∷◌, ◌++◌, length, is_some, Ok, Result, sym, refl, ap, ◌∙◌, subst, arith, leb-true}
use Rattle.theory.specs.Meaning.{Kept, Meaning}
use Rattle.recipe.specs.declared.fault.Fault.{Fault}
use Rattle.recipe.specs.declared.fault.Fault.TheVariants.{Repeated}
use Rattle.recipe.specs.declared.head.Spot.TheVariants.{Cells}
use Rattle.recipe.specs.Blocks.{block_at}
use Rattle.recipe.specs.Cells.{cell_at, cells, listing, position}
use Rattle.recipe.specs.Listed.{listed}
use Rattle.recipe.specs.RecipeLaws.{RecipeLaws}
use Rattle.recipe.specs.Recipes.{Tree, recipe_of, whole_file}
use Rattle.recipe.specs.Heads.{begins}
use Rattle.recipe.specs.Records.{then}
use Rattle.recipe.specs.Tree.{Block, size}
use Rattle.recipe.proofs.LaidOut.{laid_in, laid_out}
use Rattle.recipe.proofs.Results.{absent, met, same_tree, same_what, then_ok}
use Rattle.recipe.proofs.Once.{Once, once_more, once_none}
use Rattle.recipe.specs.WellFormed.{WellFormed}
use Rattle.recipe.proofs.Rise.{rise_block}
use Rattle.recipe.proofs.Whole.{once_distinct, read_lies, well_formed_reads}
use Rattle.recipe.proofs.CellLaws.{Walks, none_listed, walks_length, walks_listed, walks_on}

module _ {P R C : Type 0} (m : Meaning P R C) (kept : Kept m) (file : List ℕ) where
  abbrev Grown : (k room : ℕ) → List m.Point → Type 0
  Grown k room xs = (xs ≡ listed m file (length xs) 0) × (length xs ≤ k + room) × Once m xs

  stays : (k room at e : ℕ) (xs : List m.Point) → Walks m file k 0 at → Once m (listed m file k 0) → ◌≡◌ {A = Result (List m.Point × ℕ) Fault} (Ok (listed m file k 0, at)) (Ok (xs, e)) → Grown k room xs
  stays k room at e xs w o h =
      let s = same_what (listed m file k 0) xs at e h in
      let n : length xs ≡ k = ap length (sym s) ∙ walks_length m file k 0 at w in
      (sym s ∙ ap (λ (i : ℕ). listed m file i 0) (sym n), omega arith, subst (Once m) s o)

  grown : (room k at e : ℕ) (xs : List m.Point) → Walks m file k 0 at → Once m (listed m file k 0) → cells m file room (listed m file k 0) at ≡ Ok (xs, e) → Grown k room xs
  unfolding cells
  grown zero k at e xs w o h = stays k zero at e xs w o (absent (begins file Cells at) _ _ (xs, e) h).1
  grown (suc room) k at e xs w o h = go (λ after. grown room (suc k) after e xs) (begins file Cells at) h
    where
      go : ((after : ℕ) → Walks m file (suc k) 0 after → Once m (listed m file (suc k) 0) → cells m file room (listed m file (suc k) 0) after ≡ Ok (xs, e) → Grown (suc k) room xs) → (t : Bool) →
          cond t (then (cell_at m file at) (listing m file (cells m file room) (listed m file k 0) at)) (Ok (listed m file k 0, at)) ≡ Ok (xs, e) → Grown k (suc room) xs
      go later false h = stays k (suc room) at e xs w o h
      go later true h =
          let ((x, after), c, l) = then_ok (cell_at m file at) (listing m file (cells m file room) (listed m file k 0) at) h in
          let (new, rest) = absent (is_some (position m x (listed m file k 0))) (cells m file room (listed m file k 0 ++ (x ∷ [])) after) (Repeated at) (xs, e) l in
          let on = walks_on m file k 0 at after x w (sym c) in
          let longer = sym (walks_listed m file k 0 at after x w (sym c)) in
          let more = subst (Once m) longer (once_more m kept (listed m file k 0) x o new) in
          let (same, few, once) = later after on more (subst (λ (seen : List m.Point). cells m file room seen after ≡ Ok (xs, e)) longer rest) in
          (same, omega arith, once)

  abbrev Fits : Tree P m.Point → Type 0
  Fits t = (length t.cells ≤ 128) × (size t.root ≤ 1024) × (t.cells ≡ listed m file (length t.cells) 0) × Once m t.cells

  fits : (t : Tree P m.Point) (xs : List m.Point) (from : ℕ) (b : Block P) (after : ℕ) → Grown 0 128 xs → whole_file m file (xs, from) (b, after) ≡ Ok t → Fits t
  fits t xs from b after (same, few, once) h =
      let (ends, w) = met (eqb after (length file)) _ _ t h in
      let (small, made) = met (leb (size b) 1024) _ _ t w in
      subst Fits (same_tree (record { cells = xs; from = from; root = b }) t made) (omega arith, leb-true (size b) 1024 small, same, once)

  pub accepted : (t : Tree P m.Point) → recipe_of m file ≡ Ok t → (length file ≤ 16384) × Fits t
  unfolding recipe_of
  accepted t h =
      let (short, body) = met (leb (length file) 16384) _ _ t h in
      let ((xs, from), c, l) = then_ok (cells m file 128 [] 0) _ body in
      let ((b, after), d, w) = then_ok (block_at m file 6 0 from) _ l in
      let g = grown 128 0 0 from xs refl (subst (Once m) (sym (none_listed m file 0)) (once_none m)) (subst (λ (seen : List m.Point). cells m file 128 seen 0 ≡ Ok (xs, from)) (sym (none_listed m file 0)) c) in
      (leb-true (length file) 16384 short, fits t xs from b after g w)

well_formed : {P R C : Type 0} (m : Meaning P R C) → Kept m → (file : List ℕ) (t : Tree P m.Point) → recipe_of m file ≡ Ok t → WellFormed m file t
well_formed m kept file t h =
    let (short, fits) = accepted m kept file t h in
    let (cells, root) = read_lies m file t h in
    record {
      short = short;
      few_cells = fits.0;
      few_strands = fits.1;
      once = once_distinct m t.cells fits.3;
      cells_lie = cells;
      root_lies = root;
    }

pub laws : {P R C : Type 0} (m : Meaning P R C) → Kept m → RecipeLaws m
laws m kept = record {
  laid = λ file spot forks depth at r e. laid_out m file spot forks depth at r e;
  reads = λ file spot forks depth at r e a b. laid_in m file forks depth at e spot r a b;
  short = λ file t h. (accepted m kept file t h).0;
  few_cells = λ file t h. (accepted m kept file t h).1.0;
  few_strands = λ file t h. (accepted m kept file t h).1.1;
  in_order = λ file t h. (accepted m kept file t h).1.2;
  once = λ file t h. (accepted m kept file t h).1.3;
  sound = well_formed m kept;
  complete = λ file t w. well_formed_reads m file kept t w;
  unique = λ file t u v w. same_tree t u (sym (well_formed_reads m file kept t v) ∙ well_formed_reads m file kept u w);
  rising = λ file t h. rise_block m kept file t.root 6 0 t.from (length file) (read_lies m file t h).1;
}
