-- What holds in a sound recipe: nothing is wrong, effects lie within those around them, and parallel strands are clear. Assumes nothing.
use Rattle.std.proofs.Common.{◌≡◌, ℕ, zero, suc, ◌-◌, ◌<◌, ◌≤◌, ◌⊎◌, List, sym, ap, ◌∙◌, subst, inl, inr, arith}
use Rattle.std.proofs.lemmas.Bool.{cases_lt}
use Rattle.theory.specs.Meaning.{Meaning}
use Rattle.recipe.proofs.Once.{entry_is}
use Rattle.recipe.specs.Blocks.{most_forks}
use Rattle.recipe.specs.Cells.{at_number, unfilled}
use Rattle.recipe.specs.Recipes.{Tree}
use Rattle.strands.specs.Children.{statements_of}
use Rattle.strands.specs.Strands.{Strand}
use Rattle.certifier.specs.declared.effect.Effect.{Effect}
use Rattle.certifier.specs.declared.refusal.Refusal.{Refusal}
use Rattle.certifier.specs.declared.refusal.Refusal.TheVariants.{OtherTheory, Unlisted, Uncovered, Exceeding, Interfering}
use Rattle.certifier.specs.Faults.{effects_of, strands}
use Rattle.certifier.specs.Lists.{Among}
use Rattle.certifier.specs.Sound.{AllClear, Covered, families, Inside, Numbered, Parallel, Sound, Wrong}
use Rattle.certifier.proofs.Gathered.{at_among}
use Rattle.certifier.proofs.Judging.{clear_under, covered_own, covered_through}
use Rattle.certifier.proofs.Kinship.{child_stands, family_placed, inside_child}

module _ {P R C : Type 0} (m : Meaning P R C) (t : Tree P m.Point) where
  -- children of one fork have no interfering effects, so nothing is wrong
  siblings_clear : Sound m t → (p : ℕ) (a : Strand P) → Numbered m t p a → (cs : List (ℕ × Strand P)) → Among cs (families (p, a)) →
      (k l : ℕ) (c d : Strand P) → Among (k, c) cs → Among (l, d) cs → k < l → AllClear m c d
  siblings_clear sound p a h cs fam k l c d at_c at_d o =
      let (i, e) = at_among cs (k, c) at_c in
      let (j, f) = at_among cs (l, d) at_d in
      (sound p a h).children_apart cs fam i j k l c d (family_placed a (suc p) (statements_of a.body) cs fam i j k l c d e f o) e f

  pub sound_right : Sound m t → (r : Refusal m.Point) → Wrong m t r → ⊥
  sound_right sound OtherTheory w = w
  sound_right sound (Unlisted here) (s, mode, x, h, a, wrong) = wrong ((sound here.strand s h).accesses_sound here.place mode x a).0
  sound_right sound (Uncovered here) (s, mode, x, h, a, wrong) = wrong ((sound here.strand s h).accesses_sound here.place mode x a).1
  sound_right sound (Exceeding here) w =
      w.uncovered ((sound w.parent w.above w.stands).children_covered w.siblings w.a_family here.strand w.child w.a_child w.effect w.its_effect.0)
  sound_right sound (Interfering a b x) (e, f, w, o, writing, x-in-e, x-in-f) =
      siblings_clear sound w.parent w.above w.stands w.siblings w.a_family a.strand b.strand w.left w.right w.left_child w.right_child o
      e f w.left_effect.0 w.right_effect.0 writing x x-in-e x-in-f

  -- a strand's effects are covered by each strand around it: first by that of whose fork it is a child, and so on
  abbrev Inherits : Strand P → Strand P → Type 0
  Inherits a s = (e : Effect R) → Among e (effects_of m s) → Covered m (effects_of m a) e

  inherited_by : Sound m t → (turns : ℕ) (j k : ℕ) (a s : Strand P) → Numbered m t j a → Numbered m t k s → Inside j k a → k - j < turns → Inherits a s
  inherited_by sound zero j k a s f g (low, high) fuel e h = absurd (omega arith)
  inherited_by sound (suc turns) j k a s f g (low, high) fuel e h = go (cases_lt j k) (inherited_by sound turns)
    where
      go : (j < k) ⊎ (k ≤ j) →
          ((j k : ℕ) (a s : Strand P) → Numbered m t j a → Numbered m t k s → Inside j k a → k - j < turns → Inherits a s) → Covered m (effects_of m a) e
      go (inl inner) later =
          let (cs, fam, (i, c, b, around)) = inside_child j a k (low, high) inner in
          let (above, stands) = child_stands t.root most_forks 0 unfilled j a f cs fam i c b in
          covered_through m (effects_of m a) (effects_of m c) e ((sound j a f).children_covered cs fam i c b) (later i k c s stands g around (omega arith) e h)
      go (inr outer) later =
          let same : j ≡ k = omega arith in
          covered_own m (effects_of m a) e (subst (λ (w : Strand P). Among e (effects_of m w)) (entry_is s a (sym g ∙ ap (at_number (strands m t)) (sym same) ∙ f)) h)

  pub inherited : Sound m t → (j k : ℕ) (a s : Strand P) → Numbered m t j a → Numbered m t k s → Inside j k a → Inherits a s
  inherited sound j k a s f g inside e h = inherited_by sound (suc (k - j)) j k a s f g inside (omega arith) e h

  pub apart : Sound m t → (j k : ℕ) (a b : Strand P) → Numbered m t j a → Numbered m t k b → Parallel m t j k → AllClear m a b
  apart sound j k a b f g w e h i n =
      let stands = child_stands t.root most_forks 0 unfilled w.parent w.above w.stands w.siblings w.a_family in
      clear_under m (effects_of m w.left) (effects_of m w.right) e h
      (siblings_clear sound w.parent w.above w.stands w.siblings w.a_family w.left_number w.right_number w.left w.right w.left_child w.right_child w.ordered)
      (inherited sound w.left_number j w.left a (stands w.left_number w.left w.left_child).1 f w.left_inside e i)
      (inherited sound w.right_number k w.right b (stands w.right_number w.right w.right_child).1 g w.right_inside h n)
