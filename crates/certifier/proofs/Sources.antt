-- What each fault of a strand is told for: one of its accesses, or one of its families. Assumes nothing.
use Rattle.std.proofs.Common.{◌≡◌, ℕ, zero, suc, ◌+◌, ◌<◌, ◌⊎◌, List, [], ◌∷◌, ◌++◌, map, Some, sym, refl, subst, inl, inr, arith}
use Rattle.theory.specs.Meaning.{Meaning}
use Rattle.recipe.specs.declared.record.Mode.TheVariants.{Reads, Writes}
use Rattle.recipe.specs.Rec.{Operation, load, store, set, add, index, less}
use Rattle.recipe.specs.Cells.{at_number}
use Rattle.recipe.proofs.Once.{entry_is}
use Rattle.recipe.specs.Tree.{Statements, stop, next, Statement, simple, guarded, cobegin, foreach, forked}
use Rattle.strands.specs.Strands.{Strand}
use Rattle.certifier.specs.declared.effect.Effect.{Effect}
use Rattle.certifier.specs.declared.refusal.Refusal.{Refusal}
use Rattle.certifier.specs.Faults.{access_faults, effects_of, family_faults, location, numbered_children, operation_faults, pair_faults, pairs_faults, stated, statement_faults, statements_faults}
use Rattle.certifier.specs.Lists.{Among, gather}
use Rattle.certifier.specs.Sound.{Access, accesses_in, families_in, family, operation_accesses, statement_accesses}
use Rattle.certifier.proofs.Gathered.{among_at, among_either, among_first, among_gather, among_second, at_among, gather_among, none_numbered}

module _ {P R C : Type 0} (m : Meaning P R C) where
  -- two children of a family, the earlier first, and a fault of the pair
  abbrev pub Pair : List (ℕ × List (Effect R)) → Refusal m.Point → Type 0
  Pair cs r = (i : ℕ) × (j : ℕ) × (c : ℕ × List (Effect R)) × (d : ℕ × List (Effect R)) × (i < j) × (at_number cs i ≡ Some c) × (at_number cs j ≡ Some d) × Among r (pair_faults m c d)

  pub pairs_among : (cs : List (ℕ × List (Effect R))) (r : Refusal m.Point) → Pair cs r → Among r (pairs_faults m cs)
  pairs_among [] r (i, j, c, d, o, p, q, h) = none_numbered c p
  pairs_among (b ∷ cs) r (zero, zero, c, d, o, p, q, h) = absurd (omega arith)
  pairs_among (b ∷ cs) r (zero, suc j, c, d, o, p, q, h) =
      among_first r (gather (pair_faults m b) cs) (pairs_faults m cs)
      (gather_among (pair_faults m b) d cs r (among_at cs j d q) (subst (λ (w : ℕ × List (Effect R)). Among r (pair_faults m w d)) (sym (entry_is b c p)) h))
  pairs_among (b ∷ cs) r (suc i, zero, c, d, o, p, q, h) = absurd (omega arith)
  pairs_among (b ∷ cs) r (suc i, suc j, c, d, o, p, q, h) = among_second r (gather (pair_faults m b) cs) (pairs_faults m cs) (pairs_among cs r (i, j, c, d, omega arith, p, q, h))

  pub among_pairs : (cs : List (ℕ × List (Effect R))) (r : Refusal m.Point) → Among r (pairs_faults m cs) → Pair cs r
  among_pairs [] r h = absurd h
  among_pairs (b ∷ cs) r h = go (among_either r (gather (pair_faults m b) cs) (pairs_faults m cs) h) (among_pairs cs r)
    where
      go : Among r (gather (pair_faults m b) cs) ⊎ Among r (pairs_faults m cs) → (Among r (pairs_faults m cs) → Pair cs r) → Pair (b ∷ cs) r
      go (inl g) later =
          let (d, a, f) = among_gather (pair_faults m b) cs r g in
          let (k, e) = at_among cs d a in
          (0, suc k, b, d, omega arith, refl, e, f)
      go (inr g) later = let (i, j, c, d, o, p, q, f) = later g in (suc i, suc j, c, d, omega arith, p, q, f)

  module _ (cells : List m.Point) (number : ℕ) (s : Strand P) where
    -- the faults of one access of the strand, and of one family
    abbrev pub faults_at : Access m → List (Refusal m.Point)
    faults_at (at, mode, x) = access_faults m cells (effects_of m s) mode (location at number) x

    abbrev pub faults_among : List (ℕ × Strand P) → List (Refusal m.Point)
    faults_among cs = family_faults m (effects_of m s) (map (stated m) cs)

    -- a fault of some access, or of some family
    abbrev pub Source : List (Access m) → List (List (ℕ × Strand P)) → Refusal m.Point → Type 0
    Source accessed forks r = ((a : Access m) × Among a accessed × Among r (faults_at a)) ⊎ ((cs : List (ℕ × Strand P)) × Among cs forks × Among r (faults_among cs))

    source_first : (xs ys : List (Access m)) (us vs : List (List (ℕ × Strand P))) (r : Refusal m.Point) → Source xs us r → Source (xs ++ ys) (us ++ vs) r
    source_first xs ys us vs r (inl (a, h, f)) = inl (a, among_first a xs ys h, f)
    source_first xs ys us vs r (inr (cs, h, f)) = inr (cs, among_first cs us vs h, f)

    source_second : (xs ys : List (Access m)) (us vs : List (List (ℕ × Strand P))) (r : Refusal m.Point) → Source ys vs r → Source (xs ++ ys) (us ++ vs) r
    source_second xs ys us vs r (inl (a, h, f)) = inl (a, among_second a xs ys h, f)
    source_second xs ys us vs r (inr (cs, h, f)) = inr (cs, among_second cs us vs h, f)

    source_either : (xs ys : List (Access m)) (us vs : List (List (ℕ × Strand P))) (r : Refusal m.Point) → Source (xs ++ ys) (us ++ vs) r → Source xs us r ⊎ Source ys vs r
    source_either xs ys us vs r (inl (a, h, f)) = go (among_either a xs ys h)
      where
        go : Among a xs ⊎ Among a ys → Source xs us r ⊎ Source ys vs r
        go (inl g) = inl (inl (a, g, f))
        go (inr g) = inr (inl (a, g, f))
    source_either xs ys us vs r (inr (cs, h, f)) = go (among_either cs us vs h)
      where
        go : Among cs us ⊎ Among cs vs → Source xs us r ⊎ Source ys vs r
        go (inl g) = inl (inr (cs, g, f))
        go (inr g) = inr (inr (cs, g, f))

    only_access : (a : Access m) (r : Refusal m.Point) → Source (a ∷ []) [] r → Among r (faults_at a)
    only_access a r (inl (b, inl e, f)) = subst (λ (c : Access m). Among r (faults_at c)) e f
    only_access a r (inl (b, inr h, f)) = absurd h
    only_access a r (inr (cs, h, f)) = absurd h

    only_family : (cs : List (ℕ × Strand P)) (r : Refusal m.Point) → Source [] (cs ∷ []) r → Among r (faults_among cs)
    only_family cs r (inl (a, h, f)) = absurd h
    only_family cs r (inr (ds, inl e, f)) = subst (λ (c : List (ℕ × Strand P)). Among r (faults_among c)) e f
    only_family cs r (inr (ds, inr h, f)) = absurd h

    no_source : (r : Refusal m.Point) → Source [] [] r → ⊥
    no_source r (inl (a, h, f)) = h
    no_source r (inr (cs, h, f)) = h

    operation_source : (at : ℕ) (o : Operation P) (r : Refusal m.Point) → Among r (operation_faults m cells number s at o) → Source (operation_accesses m s.indices at o) [] r
    operation_source at (load t p) r h = inl ((at, Reads, m.only p s.indices), inl refl, h)
    operation_source at (store t p) r h = inl ((at, Writes, m.only p s.indices), inl refl, h)
    operation_source at (set t v) r h = absurd h
    operation_source at (add t u) r h = absurd h
    operation_source at (index t u) r h = absurd h
    operation_source at (less t u v) r h = absurd h

    source_operation : (at : ℕ) (o : Operation P) (r : Refusal m.Point) → Source (operation_accesses m s.indices at o) [] r → Among r (operation_faults m cells number s at o)
    source_operation at (load t p) r h = only_access (at, Reads, m.only p s.indices) r h
    source_operation at (store t p) r h = only_access (at, Writes, m.only p s.indices) r h
    source_operation at (set t v) r h = no_source r h
    source_operation at (add t u) r h = no_source r h
    source_operation at (index t u) r h = no_source r h
    source_operation at (less t u v) r h = no_source r h

    statement_source : (n : ℕ) (t : Statement P) (r : Refusal m.Point) → Among r (statement_faults m cells number s n t) → Source (statement_accesses m s.indices t) (family s n t) r
    statement_source n (simple at o) r h = operation_source at o r h
    statement_source n (guarded at g t) r h = statement_source n t r h
    statement_source n (cobegin at bs) r h = inr (numbered_children s n (cobegin at bs), inl refl, h)
    statement_source n (foreach at c b) r h = inr (numbered_children s n (foreach at c b), inl refl, h)

    source_statement : (n : ℕ) (t : Statement P) (r : Refusal m.Point) → Source (statement_accesses m s.indices t) (family s n t) r → Among r (statement_faults m cells number s n t)
    source_statement n (simple at o) r h = source_operation at o r h
    source_statement n (guarded at g t) r h = source_statement n t r h
    source_statement n (cobegin at bs) r h = only_family (numbered_children s n (cobegin at bs)) r h
    source_statement n (foreach at c b) r h = only_family (numbered_children s n (foreach at c b)) r h

    pub faults_source : (n : ℕ) (ss : Statements P) (r : Refusal m.Point) → Among r (statements_faults m cells number s n ss) → Source (accesses_in m s.indices ss) (families_in s n ss) r
    faults_source n (stop at) r h = absurd h
    faults_source n (next t ts) r h =
        go (among_either r (statement_faults m cells number s n t) (statements_faults m cells number s (n + forked t) ts) h) (faults_source (n + forked t) ts r)
      where
        go : Among r (statement_faults m cells number s n t) ⊎ Among r (statements_faults m cells number s (n + forked t) ts) →
            (Among r (statements_faults m cells number s (n + forked t) ts) → Source (accesses_in m s.indices ts) (families_in s (n + forked t) ts) r) →
            Source (accesses_in m s.indices (next t ts)) (families_in s n (next t ts)) r
        go (inl f) later = source_first (statement_accesses m s.indices t) (accesses_in m s.indices ts) (family s n t) (families_in s (n + forked t) ts) r (statement_source n t r f)
        go (inr f) later = source_second (statement_accesses m s.indices t) (accesses_in m s.indices ts) (family s n t) (families_in s (n + forked t) ts) r (later f)

    pub source_faults : (n : ℕ) (ss : Statements P) (r : Refusal m.Point) → Source (accesses_in m s.indices ss) (families_in s n ss) r → Among r (statements_faults m cells number s n ss)
    source_faults n (stop at) r h = no_source r h
    source_faults n (next t ts) r h =
        go (source_either (statement_accesses m s.indices t) (accesses_in m s.indices ts) (family s n t) (families_in s (n + forked t) ts) r h) (source_faults (n + forked t) ts r)
      where
        go : Source (statement_accesses m s.indices t) (family s n t) r ⊎ Source (accesses_in m s.indices ts) (families_in s (n + forked t) ts) r →
            (Source (accesses_in m s.indices ts) (families_in s (n + forked t) ts) r → Among r (statements_faults m cells number s (n + forked t) ts)) →
            Among r (statements_faults m cells number s n (next t ts))
        go (inl f) later = among_first r (statement_faults m cells number s n t) (statements_faults m cells number s (n + forked t) ts) (source_statement n t r f)
        go (inr f) later = among_second r (statement_faults m cells number s n t) (statements_faults m cells number s (n + forked t) ts) (later f)
