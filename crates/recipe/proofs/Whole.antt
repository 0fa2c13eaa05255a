-- A file reads as a recipe exactly when it is well-formed. Assumes nothing.
use Rattle.std.proofs.Common.{◌≡◌, ℕ, zero, suc, ◌-◌, ◌<◌, ◌≤◌, Bool, true, false, cond, eqb, leb, List, [], ◌∷◌, ◌++◌, length, is_some, Some, None, Ok, Option, Result, sym, refl, ap, ◌∙◌, subst, append_assoc, append-nil, arith, eq-eqb, eqb-true, le-leb}
use Rattle.theory.specs.Meaning.{Kept, Meaning, Tells}
use Rattle.recipe.specs.declared.fault.Fault.{Fault}
use Rattle.recipe.specs.declared.fault.Fault.TheVariants.{Repeated}
use Rattle.recipe.specs.declared.head.Spot.TheVariants.{Cells}
use Rattle.recipe.specs.Heads.{begins}
use Rattle.recipe.specs.Rec.{Rec, cell, effect, operation, when, fork, end}
use Rattle.recipe.specs.Records.{record_at, then}
use Rattle.recipe.proofs.RecordParts.{record_begins}
use Rattle.recipe.proofs.Results.{absent, met, same_end, same_tree, same_what, then_ok}
use Rattle.recipe.specs.Blocks.{block_at}
use Rattle.recipe.specs.Cells.{at_number, cell_at, cells, later, listing, named, position, unfilled}
use Rattle.recipe.specs.Recipes.{Tree, recipe_of, whole_file}
use Rattle.recipe.specs.Tree.{Block, size}
use Rattle.recipe.specs.WellFormed.{BlockLies, CellsLie, Distinct, Stands, WellFormed}
use Rattle.recipe.proofs.CellLaws.{cells_more, cells_stop}
use Rattle.recipe.proofs.Lying.{block_lies, no_result}
use Rattle.recipe.proofs.Once.{Once, entry_is}
use Rattle.recipe.proofs.Reading.{block_begins, block_reads}

-- an entry of the first of two lists, and the one behind it
last_at : {X : Type 0} (xs ys : List X) (x : X) → at_number (xs ++ (x ∷ ys)) (length xs) ≡ Some x
last_at [] ys x = refl
last_at (y ∷ xs) ys x = last_at xs ys x

module _ {P R C : Type 0} (m : Meaning P R C) where
  -- where each cell is found where it stands, none stands twice
  pub once_distinct : (xs : List m.Point) → Once m xs → Distinct xs
  once_distinct xs o j k x h g = entry_is j k (sym (o j x h) ∙ o k x g)

  module _ (kept : Kept m) where
    FoundAt : m.Point → List m.Point → List m.Point → ℕ → Type 0
    FoundAt x seen rest j = (at_number (seen ++ rest) j ≡ Some x) × (j < length seen)

    found_at : (x : m.Point) (seen rest : List m.Point) (j : ℕ) → position m x seen ≡ Some j → FoundAt x seen rest j
    unfolding position FoundAt
    found_at x [] rest j h = absurd cc
    found_at x (y ∷ seen) rest j h = go (m.same x y) (kept.alike x y) (position m x seen) (found_at x seen rest) h
      where
        go : (b : Bool) → Tells b (x ≡ y) → (o : Option ℕ) → ((i : ℕ) → o ≡ Some i → FoundAt x seen rest i) → cond b (Some 0) (later o) ≡ Some j → FoundAt x (y ∷ seen) rest j
        go true t o f h = subst (FoundAt x (y ∷ seen) rest) (entry_is 0 j h) (ap (λ (z : m.Point). Some z) (sym t), omega arith)
        go false t None f h = absurd cc
        go false t (Some i) f h = let (is, low) = f i refl in subst (FoundAt x (y ∷ seen) rest) (entry_is (suc i) j h) (is, omega arith)

    unseen : (x : m.Point) (seen rest : List m.Point) → Distinct (seen ++ (x ∷ rest)) → is_some (position m x seen) ≡ false
    unfolding FoundAt
    unseen x seen rest d = go (position m x seen) refl
      where
        go : (o : Option ℕ) → position m x seen ≡ o → is_some o ≡ false
        go None e = refl
        go (Some j) e = let (is, low) = found_at x seen (x ∷ rest) j e in let same = d j (length seen) x is (last_at seen rest x) in absurd (omega arith)

module _ {P R C : Type 0} (m : Meaning P R C) (file : List ℕ) where
  -- cells
  cell_lies : (at : ℕ) (x : m.Point) (after : ℕ) → cell_at m file at ≡ Ok (x, after) → (p : P) × Stands m file Cells 0 0 at (cell p) after × (x ≡ m.only p unfilled)
  unfolding cell_at
  cell_lies at x after h = let ((r, q), is, rest) = then_ok (record_at m file Cells 0 0 at) (named m at) h in go r q is rest
    where
      go : (r : Rec P) (q : ℕ) → Stands m file Cells 0 0 at r q → named m at (r, q) ≡ Ok (x, after) → (p : P) × Stands m file Cells 0 0 at (cell p) after × (x ≡ m.only p unfilled)
      go (cell p) q is k = (p, is ∙ ap (λ (n : ℕ). Ok (cell p, n)) (same_end (m.only p unfilled) x q after k), sym (same_what (m.only p unfilled) x q after k))
      go (effect mode p) q is k = no_result _ _ k
      go (operation o) q is k = no_result _ _ k
      go (when r) q is k = no_result _ _ k
      go (fork f) q is k = no_result _ _ k
      go end q is k = no_result _ _ k

  cell_reads : (at : ℕ) (x : m.Point) (after : ℕ) (p : P) → Stands m file Cells 0 0 at (cell p) after → x ≡ m.only p unfilled → cell_at m file at ≡ Ok (x, after)
  unfolding cell_at
  cell_reads at x after p h e = rw (h, e)

  MoreLie : (seen : List m.Point) (at : ℕ) → List m.Point → ℕ → Type 0
  MoreLie seen at xs e = (ys : List m.Point) × (xs ≡ seen ++ ys) × CellsLie m file ys at e

  none_lie : (seen : List m.Point) (at : ℕ) (xs : List m.Point) (e : ℕ) → ◌≡◌ {A = Result (List m.Point × ℕ) Fault} (Ok (seen, at)) (Ok (xs, e)) → MoreLie seen at xs e
  unfolding MoreLie
  none_lie seen at xs e h = ([], sym (same_what seen xs at e h) ∙ sym (append-nil seen), same_end seen xs at e h)

  cells_lie : (room : ℕ) (seen : List m.Point) (at : ℕ) (xs : List m.Point) (e : ℕ) → cells m file room seen at ≡ Ok (xs, e) → MoreLie seen at xs e
  unfolding cells MoreLie
  cells_lie zero seen at xs e h = none_lie seen at xs e (absent (begins file Cells at) _ _ (xs, e) h).1
  cells_lie (suc room) seen at xs e h = go (λ more after. cells_lie room more after xs e) (begins file Cells at) h
    where
      go : ((more : List m.Point) (after : ℕ) → cells m file room more after ≡ Ok (xs, e) → MoreLie more after xs e) → (t : Bool) →
          cond t (then (cell_at m file at) (listing m file (cells m file room) seen at)) (Ok (seen, at)) ≡ Ok (xs, e) → MoreLie seen at xs e
      go rest false h = none_lie seen at xs e h
      go rest true h =
          let ((x, after), c, l) = then_ok (cell_at m file at) (listing m file (cells m file room) seen at) h in
          let (new, on) = absent (is_some (position m x seen)) (cells m file room (seen ++ (x ∷ [])) after) (Repeated at) (xs, e) l in
          let (ys, are, lie) = rest (seen ++ (x ∷ [])) after on in
          let (p, stands, one) = cell_lies at x after c in
          (x ∷ ys, are ∙ append_assoc seen (x ∷ []) ys, (p, after, stands, one, lie))

  cells_read : Kept m → (xs seen : List m.Point) (room at e : ℕ) → length xs ≤ room → CellsLie m file xs at e → Distinct (seen ++ xs) → begins file Cells e ≡ false → cells m file room seen at ≡ Ok (seen ++ xs, e)
  cells_read kept [] seen room at e few l d b =
      cells_stop m file seen room at (subst (λ (n : ℕ). begins file Cells n ≡ false) (sym l) b) ∙ (λ i. Ok (sym (append-nil seen) i, l i))
  cells_read kept (x ∷ xs) seen zero at e few l d b = absurd (omega arith)
  cells_read kept (x ∷ xs) seen (suc room) at e few (p, after, h, one, l) d b =
      let less : suc room - 1 ≡ room = omega arith in
      let joined = append_assoc seen (x ∷ []) xs in
      cells_more m file seen (suc room) at after x (record_begins m file Cells 0 0 at (cell p) after h Cells) (omega arith) (sym (cell_reads at x after p h one)) (unseen m kept x seen xs d)
      ∙ ap (λ (n : ℕ). cells m file n (seen ++ (x ∷ [])) after) less
      ∙ cells_read kept xs (seen ++ (x ∷ [])) room after e (omega arith) l (subst (λ (ys : List m.Point). Distinct ys) (sym joined) d) b
      ∙ ap (λ (ys : List m.Point). Ok (ys, e)) joined

  -- a file that reads lies so
  abbrev Lies : Tree P m.Point → Type 0
  Lies t = CellsLie m file t.cells 0 t.from × BlockLies m file t.root 6 0 t.from (length file)

  tree_lies : (t : Tree P m.Point) (xs : List m.Point) (from : ℕ) (b : Block P) (after : ℕ) → CellsLie m file xs 0 from → BlockLies m file b 6 0 from after → whole_file m file (xs, from) (b, after) ≡ Ok t → Lies t
  tree_lies t xs from b after c l h =
      let (ends, w) = met (eqb after (length file)) _ _ t h in
      let (small, made) = met (leb (size b) 1024) _ _ t w in
      subst Lies (same_tree (record { cells = xs; from = from; root = b }) t made)
      (c, subst (λ (n : ℕ). BlockLies m file b 6 0 from n) (eqb-true after (length file) ends) l)

  pub read_lies : (t : Tree P m.Point) → recipe_of m file ≡ Ok t → Lies t
  unfolding recipe_of MoreLie
  read_lies t h =
      let (short, body) = met (leb (length file) 16384) _ _ t h in
      let ((xs, from), c, l) = then_ok (cells m file 128 [] 0) _ body in
      let ((b, after), d, w) = then_ok (block_at m file 6 0 from) _ l in
      let (ys, are, lie) = cells_lie 128 [] 0 xs from c in
      tree_lies t xs from b after (subst (λ (zs : List m.Point). CellsLie m file zs 0 from) (sym are) lie) (block_lies m file 6 0 from b after d) w

  -- a well-formed file reads
  pub well_formed_reads : Kept m → (t : Tree P m.Point) → WellFormed m file t → recipe_of m file ≡ Ok t
  unfolding recipe_of
  well_formed_reads kept t w =
      rw (
        le-leb (length file) 16384 w.short,
        cells_read kept t.cells [] 128 0 t.from w.few_cells w.cells_lie w.once (block_begins m file t.root 6 0 t.from (length file) w.root_lies),
        block_reads m file kept t.root 6 0 t.from (length file) w.root_lies,
        eq-eqb (length file) (length file) refl,
        le-leb (size t.root) 1024 w.few_strands,
      )
