-- A recipe of which no fault is told is sound, and each fault that is told is one. Assumes nothing.
use Rattle.std.proofs.Common.{◌≡◌, ℕ, suc, ◌<◌, true, ◌||◌, ◌⊎◌, List, map, is_some, Some, None, Option, sym, refl, subst, subst₂, inl, inr, arith}
use Rattle.theory.specs.Meaning.{Kept, Meaning}
use Rattle.recipe.specs.declared.record.Mode.{Mode}
use Rattle.recipe.specs.Cells.{at_number, position}
use Rattle.recipe.specs.Recipes.{Tree}
use Rattle.strands.specs.Children.{statements_of}
use Rattle.strands.specs.Strands.{Strand}
use Rattle.certifier.specs.declared.effect.Effect.{Effect}
use Rattle.certifier.specs.declared.refusal.Location.{Location}
use Rattle.certifier.specs.declared.refusal.Refusal.{Refusal}
use Rattle.certifier.specs.declared.refusal.Refusal.TheVariants.{Unlisted, Uncovered, Exceeding, Interfering}
use Rattle.certifier.specs.Effects.{access_covered, covered, interference, writes}
use Rattle.certifier.specs.Faults.{child_faults, effects_of, location, overlap, pair_faults, pairs_faults, recipe_faults, stated, strand_faults, strands, unless}
use Rattle.certifier.specs.Lists.{Among, from, gather}
use Rattle.certifier.specs.Sound.{Access, AccessCovered, accesses, ApartChildren, Clear, Covered, families, Numbered, Related, Sound, SoundChildren, SoundStrand, Wrong}
use Rattle.certifier.proofs.Gathered.{among_at, among_either, among_first, among_from, among_gather, among_map, among_second, at_map, from_among, gather_among, map_among, map_at, unless_among}
use Rattle.certifier.proofs.Judging.{Between, held, tells_access, tells_covered, tells_listed, told_between, told_no}
use Rattle.certifier.proofs.Kinship.{family_ascends}
use Rattle.certifier.proofs.Sources.{among_pairs, faults_among, faults_at, faults_source, Pair, pairs_among, Source, source_faults}

module _ {P R C : Type 0} (m : Meaning P R C) where
  -- the cell that two effects are told to share, and what holds of two of which nothing is told
  abbrev Shown : (k l : ℕ) (e f : Effect R) → Refusal m.Point → Type 0
  Shown k l e f r =
      (x : m.Point) × ((writes e.mode || writes f.mode) ≡ true) × m.In e.region x × m.In f.region x × (r ≡ Interfering (location e.place k) (location f.place l) x)

  overlap_told : (k l : ℕ) (e f : Effect R) (o : Option m.Point) → Between m e f o → (r : Refusal m.Point) → Among r (overlap m k l e f o) → Shown k l e f r
  overlap_told k l e f None s r h = absurd h
  overlap_told k l e f (Some x) s r (inl g) = (x, s.0, s.1, s.2, g)
  overlap_told k l e f (Some x) s r (inr h) = absurd h

  overlap_silent : (k l : ℕ) (e f : Effect R) (o : Option m.Point) → Between m e f o → ((r : Refusal m.Point) → Among r (overlap m k l e f o) → ⊥) → Clear m e f
  overlap_silent k l e f None s silent = s
  overlap_silent k l e f (Some x) s silent = absurd (silent (Interfering (location e.place k) (location f.place l) x) (inl refl))

  -- what is told of an access whose cell is not listed, or not covered, and of an effect of a child that is not covered
  abbrev cell_faults : List m.Point → Location → m.Point → List (Refusal m.Point)
  cell_faults cells here x = unless (is_some (position m x cells)) (Unlisted here)

  abbrev cover_faults : List (Effect R) → Location → Mode → m.Point → List (Refusal m.Point)
  cover_faults own here mode x = unless (access_covered m own mode x) (Uncovered here)

  abbrev effect_faults : List (Effect R) → ℕ → Effect R → List (Refusal m.Point)
  effect_faults own k e = unless (covered m own e) (Exceeding (location e.place k))

  -- and of an effect beside those of another child
  abbrev overlaps : (k l : ℕ) → List (Effect R) → Effect R → List (Refusal m.Point)
  overlaps k l fs e = gather (λ f. overlap m k l e f (interference m e f)) fs

  module _ (kept : Kept m) (t : Tree P m.Point) where
    -- each fault that is told is one
    access_wrong : (k : ℕ) (s : Strand P) → Numbered m t k s → (a : Access m) → Among a (accesses m s) → (r : Refusal m.Point) → Among r (faults_at m t.cells k s a) → Wrong m t r
    access_wrong k s h (at, mode, x) a r f = go (among_either r (cell_faults t.cells (location at k) x) (cover_faults (effects_of m s) (location at k) mode x) f)
      where
        go : Among r (cell_faults t.cells (location at k) x) ⊎ Among r (cover_faults (effects_of m s) (location at k) mode x) → Wrong m t r
        go (inl g) =
            let (no_cell, e) = unless_among (is_some (position m x t.cells)) (Unlisted (location at k)) r g in
            subst (Wrong m t) (sym e) (s, mode, x, h, a, told_no (is_some (position m x t.cells)) (Among x t.cells) (tells_listed m kept x t.cells) no_cell)
        go (inr g) =
            let own = effects_of m s in
            let (no_cover, e) = unless_among (access_covered m own mode x) (Uncovered (location at k)) r g in
            subst (Wrong m t) (sym e) (s, mode, x, h, a, told_no (access_covered m own mode x) (AccessCovered m own mode x) (tells_access m kept own mode x) no_cover)

    module _ (p : ℕ) (a : Strand P) (stands : Numbered m t p a) (cs : List (ℕ × Strand P)) (fam : Among cs (families (p, a))) (r : Refusal m.Point) where
      exceeding_wrong : (k : ℕ) (c : Strand P) → Among (k, c) cs → (e : Effect R) → Among e (effects_of m c) → Among r (effect_faults (effects_of m a) k e) → Wrong m t r
      exceeding_wrong k c g e b f =
          let own = effects_of m a in
          let (no_cover, so) = unless_among (covered m own e) (Exceeding (location e.place k)) r f in
          subst (Wrong m t) {x = Exceeding (location e.place k)} {y = r} (sym so) (record {
            parent = p;
            above = a;
            stands = stands;
            siblings = cs;
            a_family = fam;
            child = c;
            a_child = g;
            effect = e;
            its_effect = (b, refl);
            uncovered = told_no (covered m own e) (Covered m own e) (tells_covered m kept own e) no_cover;
          })

      child_wrong : Among r (gather (child_faults m (effects_of m a)) (map (stated m) cs)) → Wrong m t r
      child_wrong f = of_entry (among_gather (child_faults m (effects_of m a)) (map (stated m) cs) r f)
        where
          of_effect : (k : ℕ) (c : Strand P) → Among (k, c) cs → (e : Effect R) × Among e (effects_of m c) × Among r (effect_faults (effects_of m a) k e) → Wrong m t r
          of_effect k c g (e, b, f) = exceeding_wrong k c g e b f

          of_child : (u : ℕ × List (Effect R)) → Among r (child_faults m (effects_of m a) u) → (x : ℕ × Strand P) × Among x cs × (stated m x ≡ u) → Wrong m t r
          of_child u f ((k, c), g, same) =
              let told = subst (λ (w : ℕ × List (Effect R)). Among r (child_faults m (effects_of m a) w)) (sym same) f in
              of_effect k c g (among_gather (effect_faults (effects_of m a) k) (effects_of m c) r told)

          of_entry : (u : ℕ × List (Effect R)) × Among u (map (stated m) cs) × Among r (child_faults m (effects_of m a) u) → Wrong m t r
          of_entry (u, g, f) = of_child u f (among_map (stated m) cs u g)

      interfering_wrong : (k l : ℕ) (c d : Strand P) → Among (k, c) cs → Among (l, d) cs → k < l → Among r (pair_faults m (k, effects_of m c) (l, effects_of m d)) → Wrong m t r
      interfering_wrong k l c d g i o f = of_first (among_gather (overlaps k l (effects_of m d)) (effects_of m c) r f)
        where
          of_cell : (e f : Effect R) → Among e (effects_of m c) → Among f (effects_of m d) → Shown k l e f r → Wrong m t r
          of_cell e f b v (x, writing, x-in-e, x-in-f, so) =
              let pair : Related m t (location e.place k) (location f.place l) e f = record {
                parent = p;
                above = a;
                stands = stands;
                siblings = cs;
                a_family = fam;
                left = c;
                right = d;
                left_child = g;
                right_child = i;
                left_effect = (b, refl);
                right_effect = (v, refl);
              } in
              subst (Wrong m t) {x = Interfering (location e.place k) (location f.place l) x} {y = r} (sym so) (e, f, pair, o, writing, x-in-e, x-in-f)

          of_second : (e : Effect R) → Among e (effects_of m c) → (f : Effect R) × Among f (effects_of m d) × Among r (overlap m k l e f (interference m e f)) → Wrong m t r
          of_second e b (f, v, told) = of_cell e f b v (overlap_told k l e f (interference m e f) (told_between m kept e f) r told)

          of_first : (e : Effect R) × Among e (effects_of m c) × Among r (overlaps k l (effects_of m d) e) → Wrong m t r
          of_first (e, b, told) = of_second e b (among_gather (λ f. overlap m k l e f (interference m e f)) (effects_of m d) r told)

      pair_wrong : Among r (pairs_faults m (map (stated m) cs)) → Wrong m t r
      pair_wrong f = of_pair (among_pairs m (map (stated m) cs) r f)
        where
          of_children : (i j : ℕ) (u v : ℕ × List (Effect R)) → i < j → Among r (pair_faults m u v) →
              (x : ℕ × Strand P) × (at_number cs i ≡ Some x) × (stated m x ≡ u) → (x : ℕ × Strand P) × (at_number cs j ≡ Some x) × (stated m x ≡ v) → Wrong m t r
          of_children i j u v o told ((k, c), at_c, is_u) ((l, d), at_d, is_v) =
              let ascends = family_ascends a (suc p) (statements_of a.body) cs fam i j k l c d o at_c at_d in
              interfering_wrong k l c d (among_at cs i (k, c) at_c) (among_at cs j (l, d) at_d) ascends
              (subst₂ (λ (u v : ℕ × List (Effect R)). Among r (pair_faults m u v)) (sym is_u) (sym is_v) told)

          of_pair : Pair m (map (stated m) cs) r → Wrong m t r
          of_pair (i, j, u, v, o, at_u, at_v, told) = of_children i j u v o told (at_map (stated m) cs i u at_u) (at_map (stated m) cs j v at_v)

      family_wrong : Among r (faults_among m t.cells p a cs) → Wrong m t r
      family_wrong f = either (among_either r (gather (child_faults m (effects_of m a)) (map (stated m) cs)) (pairs_faults m (map (stated m) cs)) f)
        where
          either : Among r (gather (child_faults m (effects_of m a)) (map (stated m) cs)) ⊎ Among r (pairs_faults m (map (stated m) cs)) → Wrong m t r
          either (inl g) = child_wrong g
          either (inr g) = pair_wrong g

    strand_wrong : (k : ℕ) (s : Strand P) → Numbered m t k s → (r : Refusal m.Point) → Among r (strand_faults m t.cells (k, s)) → Wrong m t r
    strand_wrong k s h r f = go (faults_source m t.cells k s (suc k) (statements_of s.body) r f)
      where
        go : Source m t.cells k s (accesses m s) (families (k, s)) r → Wrong m t r
        go (inl (a, b, g)) = access_wrong k s h a b r g
        go (inr (cs, b, g)) = family_wrong k s h cs b r g

    pub recipe_wrong : (r : Refusal m.Point) → Among r (recipe_faults m t) → Wrong m t r
    unfolding recipe_faults
    recipe_wrong r h =
        let (ks, a, f) = among_gather (strand_faults m t.cells) (from 0 (strands m t)) r h in
        let (j, e, g) = from_among 0 (strands m t) ks.0 ks.1 a in
        strand_wrong ks.0 ks.1 (subst (λ (k : ℕ). at_number (strands m t) k ≡ Some ks.1) (omega arith) g) r f

    -- where no fault is told, the recipe is sound
    abbrev Silent : List (Refusal m.Point) → Type 0
    Silent faults = (r : Refusal m.Point) → Among r faults → ⊥

    access_silent : (k : ℕ) (s : Strand P) (at : ℕ) (mode : Mode) (x : m.Point) → Silent (faults_at m t.cells k s (at, mode, x)) → Among x t.cells × AccessCovered m (effects_of m s) mode x
    access_silent k s at mode x silent =
        let here = location at k in
        let own = effects_of m s in
        let no_cell = cell_faults t.cells here x in
        let no_cover = cover_faults own here mode x in
        let listed = held (is_some (position m x t.cells)) (Among x t.cells) (Unlisted here) (tells_listed m kept x t.cells) (λ g. silent (Unlisted here) (among_first (Unlisted here) no_cell no_cover g)) in
        let granted = held (access_covered m own mode x) (AccessCovered m own mode x) (Uncovered here) (tells_access m kept own mode x) (λ g. silent (Uncovered here) (among_second (Uncovered here) no_cell no_cover g)) in
        (listed, granted)

    child_silent : (s : Strand P) (cs : List (ℕ × Strand P)) → Silent (gather (child_faults m (effects_of m s)) (map (stated m) cs)) → SoundChildren m t s cs
    child_silent s cs silent k c a e b =
        let own = effects_of m s in
        let told = Exceeding (location e.place k) in
        held (covered m own e) (Covered m own e) told (tells_covered m kept own e)
        (λ g. silent told (gather_among (child_faults m own) (k, effects_of m c) (map (stated m) cs) told (map_among (stated m) cs (k, c) a) (gather_among (effect_faults own k) e (effects_of m c) told b g)))

    pair_silent : (cs : List (ℕ × Strand P)) → Silent (pairs_faults m (map (stated m) cs)) → ApartChildren m t cs
    pair_silent cs silent i j k l c d o p q e f a b =
        overlap_silent k l e f (interference m e f) (told_between m kept e f)
        (λ r g. silent r (pairs_among m (map (stated m) cs) r (
          i,
          j,
          (k, effects_of m c),
          (l, effects_of m d),
          o,
          map_at (stated m) cs i (k, c) p,
          map_at (stated m) cs j (l, d) q,
          gather_among (overlaps k l (effects_of m d)) e (effects_of m c) r a (gather_among (λ f. overlap m k l e f (interference m e f)) f (effects_of m d) r b g),
        )))

    strand_silent : (k : ℕ) (s : Strand P) → Silent (strand_faults m t.cells (k, s)) → SoundStrand m t k s
    strand_silent k s silent =
        let of_source = λ (r : Refusal m.Point) (h : Source m t.cells k s (accesses m s) (families (k, s)) r). silent r (source_faults m t.cells k s (suc k) (statements_of s.body) r h) in
        let exceeding = λ (cs : List (ℕ × Strand P)). gather (child_faults m (effects_of m s)) (map (stated m) cs) in
        let interfering = λ (cs : List (ℕ × Strand P)). pairs_faults m (map (stated m) cs) in
        record {
          accesses_sound = λ at mode x a. access_silent k s at mode x (λ r g. of_source r (inl ((at, mode, x), a, g)));
          children_covered = λ cs f. child_silent s cs (λ r g. of_source r (inr (cs, f, among_first r (exceeding cs) (interfering cs) g)));
          children_apart = λ cs f. pair_silent cs (λ r g. of_source r (inr (cs, f, among_second r (exceeding cs) (interfering cs) g)));
        }

    pub silent_sound : Silent (recipe_faults m t) → Sound m t
    unfolding recipe_faults
    silent_sound silent k s h =
        let here = subst (λ (j : ℕ). Among (j, s) (from 0 (strands m t))) (omega arith) (among_from 0 (strands m t) k s h) in
        strand_silent k s (λ r f. silent r (gather_among (strand_faults m t.cells) (k, s) (from 0 (strands m t)) r here f))
