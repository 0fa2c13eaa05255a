-- When a recipe is sound: what the certifier looks for, in terms of cells. Assumes nothing.
--
-- access      a Load or a Store of a strand: its place, whether it reads or writes, and its cell
-- family      the children of one fork of a strand, with their numbers
-- covered     lying within one effect that grants as much
-- clear       of two effects: they share no cell, or neither writes
-- inside      a strand is inside another whose number it has, or among whose strands it is numbered
-- parallel    of two strands: inside two children of one fork
use Rattle.std.specs.Prelude.{◌≡◌, ℕ, suc, ◌+◌, ◌<◌, ◌≤◌, true, ◌||◌, List, [], ◌∷◌, ◌++◌, Some}
use Rattle.theory.specs.Meaning.{Apart, Included, Meaning}
use Rattle.recipe.specs.declared.record.Mode.{Mode}
use Rattle.recipe.specs.declared.record.Mode.TheVariants.{Reads, Writes}
use Rattle.recipe.specs.Rec.{Operation, load, store, set, add, index, less}
use Rattle.recipe.specs.Cells.{at_number}
use Rattle.recipe.specs.Recipes.{Tree}
use Rattle.recipe.specs.Tree.{Statements, stop, next, Statement, simple, guarded, cobegin, foreach, forked, size}
use Rattle.strands.specs.Children.{statements_of}
use Rattle.strands.specs.Strands.{Strand}
use Rattle.certifier.specs.declared.effect.Effect.{Effect}
use Rattle.certifier.specs.declared.refusal.Location.{Location}
use Rattle.certifier.specs.declared.refusal.Refusal.{Refusal}
use Rattle.certifier.specs.declared.refusal.Refusal.TheVariants.{OtherTheory, Unlisted, Uncovered, Exceeding, Interfering}
use Rattle.certifier.specs.Effects.{grants, writes}
use Rattle.certifier.specs.Faults.{effects_of, numbered_children, strands}
use Rattle.certifier.specs.Lists.{Among}

-- k is the number j of this strand, or that of one of the strands inside it
abbrev pub Inside : {P : Type 0} → (j k : ℕ) → Strand P → Type 0
Inside j k s = (j ≤ k) × (k < j + size s.body)

-- the families of a strand, if its first child has this number
abbrev pub family : {P : Type 0} → Strand P → ℕ → Statement P → List (List (ℕ × Strand P))
family s n (simple at o) = []
family s n (guarded at r t) = family s n t
family s n (cobegin at bs) = numbered_children s n (cobegin at bs) ∷ []
family s n (foreach at c b) = numbered_children s n (foreach at c b) ∷ []

abbrev pub families_in : {P : Type 0} → Strand P → ℕ → Statements P → List (List (ℕ × Strand P))
families_in s n (stop at) = []
families_in s n (next t ts) = family s n t ++ families_in s (n + forked t) ts

abbrev pub families : {P : Type 0} → ℕ × Strand P → List (List (ℕ × Strand P))
families (k, s) = families_in s (suc k) (statements_of s.body)

module _ {P R C : Type 0} (m : Meaning P R C) where
  abbrev pub Access : Type 0
  Access = ℕ × Mode × m.Point

  abbrev pub operation_accesses : List ℕ → ℕ → Operation P → List Access
  operation_accesses is at (load r p) = (at, Reads, m.only p is) ∷ []
  operation_accesses is at (store r p) = (at, Writes, m.only p is) ∷ []
  operation_accesses is at (set r v) = []
  operation_accesses is at (add t r) = []
  operation_accesses is at (index r h) = []
  operation_accesses is at (less t l r) = []

  abbrev pub statement_accesses : List ℕ → Statement P → List Access
  statement_accesses is (simple at o) = operation_accesses is at o
  statement_accesses is (guarded at r t) = statement_accesses is t
  statement_accesses is (cobegin at bs) = []
  statement_accesses is (foreach at c b) = []

  abbrev pub accesses_in : List ℕ → Statements P → List Access
  accesses_in is (stop at) = []
  accesses_in is (next t ts) = statement_accesses is t ++ accesses_in is ts

  abbrev pub accesses : Strand P → List Access
  accesses s = accesses_in s.indices (statements_of s.body)

  abbrev pub Covered : List (Effect R) → Effect R → Type 0
  Covered own e = (by : Effect R) × Among by own × (grants by.mode e.mode ≡ true) × Included m e.region by.region

  abbrev pub AccessCovered : List (Effect R) → Mode → m.Point → Type 0
  AccessCovered own mode x = (by : Effect R) × Among by own × (grants by.mode mode ≡ true) × m.In by.region x

  abbrev pub Clear : Effect R → Effect R → Type 0
  Clear e f = (writes e.mode || writes f.mode) ≡ true → Apart m e.region f.region

  abbrev pub AllClear : Strand P → Strand P → Type 0
  AllClear a b = (e f : Effect R) → Among e (effects_of m a) → Among f (effects_of m b) → Clear e f

  module _ (t : Tree P m.Point) where
    -- the strand of a number
    abbrev pub Numbered : ℕ → Strand P → Type 0
    Numbered k s = at_number (strands m t) k ≡ Some s

    -- each access names a listed and covered cell
    abbrev pub SoundAccesses : Strand P → Type 0
    SoundAccesses s = (at : ℕ) (mode : Mode) (x : m.Point) → Among (at, mode, x) (accesses s) → Among x t.cells × AccessCovered (effects_of m s) mode x

    -- each effect of each child is covered
    abbrev pub SoundChildren : Strand P → List (ℕ × Strand P) → Type 0
    SoundChildren s cs = (k : ℕ) (c : Strand P) → Among (k, c) cs → (e : Effect R) → Among e (effects_of m c) → Covered (effects_of m s) e

    -- no two children have interfering effects
    abbrev pub ApartChildren : List (ℕ × Strand P) → Type 0
    ApartChildren cs = (i j k l : ℕ) (c d : Strand P) → i < j → at_number cs i ≡ Some (k, c) → at_number cs j ≡ Some (l, d) → AllClear c d

    pub record SoundStrand (k : ℕ) (s : Strand P) : Type 0 where
      pub accesses_sound : SoundAccesses s
      pub children_covered : (cs : List (ℕ × Strand P)) → Among cs (families (k, s)) → SoundChildren s cs
      pub children_apart : (cs : List (ℕ × Strand P)) → Among cs (families (k, s)) → ApartChildren cs

    abbrev pub Sound : Type 0
    Sound = (k : ℕ) (s : Strand P) → Numbered k s → SoundStrand k s

    -- what is really wrong where a recipe is refused
    abbrev pub WrongAccess : Location → (Strand P → Mode → m.Point → Type 0) → Type 0
    WrongAccess here Wrong = (s : Strand P) × (mode : Mode) × (x : m.Point) × Numbered here.strand s × Among (here.place, mode, x) (accesses s) × Wrong s mode x

    -- two children of one fork, each with an effect of its own
    pub record Related (a b : Location) (e f : Effect R) : Type 0 where
      pub parent : ℕ
      pub above : Strand P
      pub stands : Numbered parent above
      pub siblings : List (ℕ × Strand P)
      pub a_family : Among siblings (families (parent, above))
      pub left : Strand P
      pub right : Strand P
      pub left_child : Among (a.strand, left) siblings
      pub right_child : Among (b.strand, right) siblings
      pub left_effect : Among e (effects_of m left) × (e.place ≡ a.place)
      pub right_effect : Among f (effects_of m right) × (f.place ≡ b.place)

    -- the strands of two numbers are inside two children of one fork, the first inside the child of the lower number
    pub record Parallel (j k : ℕ) : Type 0 where
      pub parent : ℕ
      pub above : Strand P
      pub stands : Numbered parent above
      pub siblings : List (ℕ × Strand P)
      pub a_family : Among siblings (families (parent, above))
      pub left_number : ℕ
      pub right_number : ℕ
      pub left : Strand P
      pub right : Strand P
      pub left_child : Among (left_number, left) siblings
      pub right_child : Among (right_number, right) siblings
      pub ordered : left_number < right_number
      pub left_inside : Inside left_number j left
      pub right_inside : Inside right_number k right

    -- an effect of a child that no effect of its parent covers
    pub record Exceeds (here : Location) : Type 0 where
      pub parent : ℕ
      pub above : Strand P
      pub stands : Numbered parent above
      pub siblings : List (ℕ × Strand P)
      pub a_family : Among siblings (families (parent, above))
      pub child : Strand P
      pub a_child : Among (here.strand, child) siblings
      pub effect : Effect R
      pub its_effect : Among effect (effects_of m child) × (effect.place ≡ here.place)
      pub uncovered : Covered (effects_of m above) effect → ⊥

    abbrev pub Wrong : Refusal m.Point → Type 0
    Wrong OtherTheory = ⊥
    Wrong (Unlisted here) = WrongAccess here (λ s mode x. Among x t.cells → ⊥)
    Wrong (Uncovered here) = WrongAccess here (λ s mode x. AccessCovered (effects_of m s) mode x → ⊥)
    Wrong (Exceeding here) = Exceeds here
    Wrong (Interfering a b x) =
        (e : Effect R) × (f : Effect R) × Related a b e f × (a.strand < b.strand) × ((writes e.mode || writes f.mode) ≡ true) × m.In e.region x × m.In f.region x
