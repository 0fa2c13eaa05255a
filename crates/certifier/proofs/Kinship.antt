-- The numbers of children: they ascend, each is a strand's, and every strand inside a strand is inside a child of it. Assumes nothing.
use Rattle.std.proofs.Common.{◌≡◌, ℕ, zero, suc, ◌+◌, ◌-◌, ◌*◌, ◌<◌, ◌≤◌, ◌⊎◌, List, [], ◌∷◌, ◌++◌, length, set, Some, sym, refl, ap, ◌∙◌, subst, inl, inr, suc-mul, zero-mul, arith}
use Rattle.std.proofs.lemmas.Bool.{cases_lt}
use Rattle.recipe.proofs.Once.{entry_is}
use Rattle.recipe.specs.Cells.{at_number}
use Rattle.recipe.specs.Tree.{Block, block, Blocks, none, more, Statements, stop, next, Statement, simple, guarded, cobegin, foreach, branched, forked, size, sizes}
use Rattle.strands.proofs.Childhood.{children_told}
use Rattle.strands.proofs.Counting.{under_length}
use Rattle.strands.proofs.Rows.{of_rows}
use Rattle.strands.specs.Children.{branch_strands, child_strands, children, instances, own_strand, starts, statements_of}
use Rattle.strands.specs.StrandLaws.{InRow}
use Rattle.strands.specs.Strands.{Strand, each, strands_in, strands_of, strands_under}
use Rattle.certifier.specs.Faults.{numbered_children}
use Rattle.certifier.specs.Lists.{Among, beside}
use Rattle.certifier.specs.Sound.{families, families_in, family, Inside}
use Rattle.certifier.proofs.Gathered.{among_either, among_first, among_second, at_among, at_beside, none_numbered}

size_some : {P : Type 0} (b : Block P) → 1 ≤ size b
size_some (block at es ss) = omega arith

-- the numbers of a list ascend
abbrev pub Ascending : List ℕ → Type 0
Ascending ns = (i j k l : ℕ) → i < j → at_number ns i ≡ Some k → at_number ns j ≡ Some l → k < l

-- a number, then ascending ones that lie beyond it
ascending_more : (n : ℕ) (ns : List ℕ) → ((j l : ℕ) → at_number ns j ≡ Some l → n < l) → Ascending ns → Ascending (n ∷ ns)
ascending_more n ns beyond later zero zero k l o p q = absurd (omega arith)
ascending_more n ns beyond later zero (suc j) k l o p q = let e = entry_is n k p in omega (arith, beyond j l q)
ascending_more n ns beyond later (suc i) zero k l o p q = absurd (omega arith)
ascending_more n ns beyond later (suc i) (suc j) k l o p q = later i j k l (omega arith) p q

starts_from : {P : Type 0} (bs : Blocks P) (n j l : ℕ) → at_number (starts bs n) j ≡ Some l → n ≤ l
starts_from none n j l h = none_numbered l h
starts_from (more b bs) n zero l h = let e = entry_is n l h in omega arith
starts_from (more b bs) n (suc j) l h = omega (arith, starts_from bs (n + size b) j l h)

starts_ascending : {P : Type 0} (bs : Blocks P) (n : ℕ) → Ascending (starts bs n)
starts_ascending none n i j k l o p q = none_numbered k p
starts_ascending (more b bs) n i j k l o p q =
    ascending_more n (starts bs (n + size b)) (λ j l h. omega (arith, size_some b, starts_from bs (n + size b) j l h)) (starts_ascending bs (n + size b)) i j k l o p q

instances_from : (c s n j l : ℕ) → at_number (instances c s n) j ≡ Some l → n ≤ l
instances_from zero s n j l h = none_numbered l h
instances_from (suc c) s n zero l h = let e = entry_is n l h in omega arith
instances_from (suc c) s n (suc j) l h = omega (arith, instances_from c s (n + s) j l h)

instances_ascending : (c s n : ℕ) → 1 ≤ s → Ascending (instances c s n)
instances_ascending zero s n w i j k l o p q = none_numbered k p
instances_ascending (suc c) s n w i j k l o p q =
    ascending_more n (instances c s (n + s)) (λ j l h. omega (arith, instances_from c s (n + s) j l h)) (instances_ascending c s (n + s) w) i j k l o p q

children_ascending : {P : Type 0} (t : Statement P) (n : ℕ) → Ascending (children t n)
children_ascending (simple at o) n i j k l h p q = none_numbered k p
children_ascending (guarded at r t) n i j k l h p q = children_ascending t n i j k l h p q
children_ascending (cobegin at bs) n i j k l h p q = starts_ascending bs n i j k l h p q
children_ascending (foreach at c b) n i j k l h p q = instances_ascending c (size b) n (size_some b) i j k l h p q

-- the entries of two lists, one after the other
at_earlier : {X : Type 0} (xs ys : List X) (k j : ℕ) (x : X) → k ≡ j → at_number xs k ≡ Some x → at_number (xs ++ ys) j ≡ Some x
at_earlier {X} xs ys k j x e h = subst (λ (i : ℕ). at_number (xs ++ ys) i ≡ Some x) e (go xs k h)
  where
    go : (xs : List X) (k : ℕ) → at_number xs k ≡ Some x → at_number (xs ++ ys) k ≡ Some x
    go [] k h = none_numbered x h
    go (y ∷ xs) zero h = h
    go (y ∷ xs) (suc k) h = go xs k h

at_later : {X : Type 0} (xs ys : List X) (k j : ℕ) (x : X) → length xs + k ≡ j → at_number ys k ≡ Some x → at_number (xs ++ ys) j ≡ Some x
at_later {X} xs ys k j x e h = subst (λ (i : ℕ). at_number (xs ++ ys) i ≡ Some x) e (go xs)
  where
    go : (xs : List X) → at_number (xs ++ ys) (length xs + k) ≡ Some x
    go [] = subst (λ (i : ℕ). at_number ys i ≡ Some x) (omega arith) h
    go (y ∷ xs) =
        let n : suc (length xs + k) ≡ suc (length xs) + k = omega arith in
        subst (λ (i : ℕ). at_number (y ∷ (xs ++ ys)) i ≡ Some x) n (go xs)

at_row : {X : Type 0} (inside all : List X) (j k i : ℕ) (x : X) → InRow inside j all → j + k ≡ i → at_number inside k ≡ Some x → at_number all i ≡ Some x
at_row inside all j k i x (before, after, e, l) n h =
    ap (λ a. at_number a i) e ∙ at_later before (inside ++ after) k i x (omega arith) (at_earlier inside after k k x refl h)

module _ {P : Type 0} where
  -- the strands of a statement of a strand, and of a list of them
  abbrev below : Strand P → Statement P → List (Strand P)
  below s t = strands_under t s.forks s.depth s.indices

  abbrev all_below : Strand P → Statements P → List (Strand P)
  all_below s ss = strands_in ss s.forks s.depth s.indices

  -- each family is the children of one fork, that stands in the list of statements
  abbrev Whole : Strand P → (n : ℕ) → Statements P → List (ℕ × Strand P) → Type 0
  Whole s n ss cs =
      (t : Statement P) × (first : ℕ) × (cs ≡ numbered_children s first t) × (n ≤ first) ×
      ((k : ℕ) (c : Strand P) → at_number (below s t) k ≡ Some c → at_number (all_below s ss) (first - n + k) ≡ Some c)

  fork_of : (s : Strand P) (n : ℕ) (t : Statement P) (cs : List (ℕ × Strand P)) → Among cs (family s n t) → cs ≡ numbered_children s n t
  fork_of s n (simple at o) cs h = absurd h
  fork_of s n (guarded at r t) cs h = fork_of s n t cs h
  fork_of s n (cobegin at bs) cs (inl e) = e
  fork_of s n (cobegin at bs) cs (inr h) = absurd h
  fork_of s n (foreach at c b) cs (inl e) = e
  fork_of s n (foreach at c b) cs (inr h) = absurd h

  family_whole : (s : Strand P) (n : ℕ) (ss : Statements P) (cs : List (ℕ × Strand P)) → Among cs (families_in s n ss) → Whole s n ss cs
  unfolding strands_in
  family_whole s n (stop at) cs h = absurd h
  family_whole s n (next t ts) cs h = go (among_either cs (family s n t) (families_in s (n + forked t) ts) h) (family_whole s (n + forked t) ts cs)
    where
      go : Among cs (family s n t) ⊎ Among cs (families_in s (n + forked t) ts) → (Among cs (families_in s (n + forked t) ts) → Whole s (n + forked t) ts cs) → Whole s n (next t ts) cs
      go (inl g) later = (t, n, fork_of s n t cs g, omega arith, λ k c e. at_earlier (below s t) (all_below s ts) k (n - n + k) c (omega arith) e)
      go (inr g) later =
          let (u, first, e, low, found) = later g in
          let long = under_length t s.forks s.depth s.indices in
          (u, first, e, omega arith, λ k c f. at_later (below s t) (all_below s ts) (first - (n + forked t) + k) (first - n + k) c (omega arith) (found k c f))

  child_at : (s : Strand P) (t : Statement P) (first : ℕ) (cs : List (ℕ × Strand P)) → cs ≡ numbered_children s first t → (i k : ℕ) (c : Strand P) → at_number cs i ≡ Some (k, c) →
      (at_number (children t first) i ≡ Some k) × (at_number (child_strands t s.forks s.depth s.indices) i ≡ Some c)
  child_at s t first cs e i k c p =
      at_beside (children t first) (child_strands t s.forks s.depth s.indices) i k c (subst (λ (w : List (ℕ × Strand P)). at_number w i ≡ Some (k, c)) e p)

  -- the numbers in a family ascend
  pub family_ascends : (s : Strand P) (n : ℕ) (ss : Statements P) (cs : List (ℕ × Strand P)) → Among cs (families_in s n ss) →
      (i j k l : ℕ) (c d : Strand P) → i < j → at_number cs i ≡ Some (k, c) → at_number cs j ≡ Some (l, d) → k < l
  family_ascends s n ss cs h i j k l c d o p q =
      let (t, first, e, low, found) = family_whole s n ss cs h in
      children_ascending t first i j k l o (child_at s t first cs e i k c p).0 (child_at s t first cs e j l d q).0

  -- so a child of a lower number is told earlier
  pub family_placed : (s : Strand P) (n : ℕ) (ss : Statements P) (cs : List (ℕ × Strand P)) → Among cs (families_in s n ss) →
      (i j k l : ℕ) (c d : Strand P) → at_number cs i ≡ Some (k, c) → at_number cs j ≡ Some (l, d) → k < l → i < j
  family_placed s n ss cs h i j k l c d p q o = go (cases_lt i j) (cases_lt j i)
    where
      go : (i < j) ⊎ (j ≤ i) → (j < i) ⊎ (i ≤ j) → i < j
      go (inl e) f = e
      go (inr e) (inl f) = absurd (omega (arith, family_ascends s n ss cs h j i l k d c f q p))
      go (inr e) (inr f) =
          let same : i ≡ j = omega arith in
          let one = entry_is (k, c) (l, d) (sym p ∙ ap (at_number cs) same ∙ q) in
          absurd (omega (arith, ap (λ (w : ℕ × Strand P). w.0) one))

  -- and each child stands at its number
  family_stands : (s : Strand P) (n : ℕ) (ss : Statements P) (cs : List (ℕ × Strand P)) → Among cs (families_in s n ss) →
      (k : ℕ) (c : Strand P) → Among (k, c) cs → (n ≤ k) × (at_number (all_below s ss) (k - n) ≡ Some c)
  family_stands s n ss cs h k c a =
      let (t, first, e, low, found) = family_whole s n ss cs h in
      let (i, p) = at_among cs (k, c) a in
      let (q, r) = child_at s t first cs e i k c p in
      let (above, g) = children_told t s.forks s.depth s.indices first i k c q r in
      (omega arith, subst (λ (j : ℕ). at_number (all_below s ss) j ≡ Some c) (omega arith) (found (k - first) c g))

  -- so it is the strand of that number
  first_later : (b : Block P) (forks depth : ℕ) (is : List ℕ) (k : ℕ) (c : Strand P) → at_number (strands_in (statements_of b) forks depth is) k ≡ Some c →
      at_number (strands_of b forks depth is) (suc k) ≡ Some c
  unfolding strands_of
  first_later (block at es ss) forks depth is k c h = h

  pub child_stands : (b : Block P) (forks depth : ℕ) (is : List ℕ) (j : ℕ) (a : Strand P) → at_number (strands_of b forks depth is) j ≡ Some a →
      (cs : List (ℕ × Strand P)) → Among cs (families (j, a)) → (k : ℕ) (c : Strand P) → Among (k, c) cs → (j < k) × (at_number (strands_of b forks depth is) k ≡ Some c)
  child_stands b forks depth is j a h cs f k c g =
      let (above, e) = family_stands a (suc j) (statements_of a.body) cs f k c g in
      let here = first_later a.body a.forks a.depth a.indices (k - suc j) c e in
      (omega arith, at_row (strands_of a.body a.forks a.depth a.indices) (strands_of b forks depth is) j (suc (k - suc j)) k c (of_rows b forks depth is j a h) (omega arith) here)

  -- a number falls to a child of a family
  abbrev Around : List (ℕ × Strand P) → ℕ → Type 0
  Around cs k = (i : ℕ) × (c : Strand P) × Among (i, c) cs × Inside i k c

  around_more : (n : ℕ) (a : Strand P) (cs : List (ℕ × Strand P)) (k : ℕ) → n ≤ k → (n + size a.body ≤ k → Around cs k) → Around ((n, a) ∷ cs) k
  around_more n a cs k low later = go (cases_lt k (n + size a.body))
    where
      go : (k < n + size a.body) ⊎ (n + size a.body ≤ k) → Around ((n, a) ∷ cs) k
      go (inl h) = (n, a, inl refl, (low, h))
      go (inr h) = let (i, c, f, g) = later h in (i, c, inr f, g)

  branches_around : (bs : Blocks P) (forks depth : ℕ) (is : List ℕ) (n k : ℕ) → n ≤ k → k < n + branched bs → Around (beside (starts bs n) (branch_strands bs forks depth is)) k
  branches_around none forks depth is n k low high = absurd (omega arith)
  branches_around (more b bs) forks depth is n k low high =
      around_more n (own_strand b forks depth is) (beside (starts bs (n + size b)) (branch_strands bs forks depth is)) k low (λ h. branches_around bs forks depth is (n + size b) k h (omega arith))

  instances_around : (count i : ℕ) (b : Block P) (forks depth : ℕ) (is : ℕ → List ℕ) (n k : ℕ) → n ≤ k → k < n + count * size b →
      Around (beside (instances count (size b) n) (each count i (λ j. own_strand b forks depth (is j) ∷ []))) k
  instances_around zero i b forks depth is n k low high = absurd (omega (arith, zero-mul (size b)))
  instances_around (suc c) i b forks depth is n k low high =
      around_more n (own_strand b forks depth (is i)) (beside (instances c (size b) (n + size b)) (each c (suc i) (λ j. own_strand b forks depth (is j) ∷ []))) k low
      (λ h. instances_around c (suc i) b forks depth is (n + size b) k h (omega (arith, suc-mul c (size b))))

  family_around : (s : Strand P) (n : ℕ) (t : Statement P) (k : ℕ) → n ≤ k → k < n + forked t → (cs : List (ℕ × Strand P)) × Among cs (family s n t) × Around cs k
  family_around s n (simple at o) k low high = absurd (omega arith)
  family_around s n (guarded at r t) k low high = family_around s n t k low high
  family_around s n (cobegin at bs) k low high = (numbered_children s n (cobegin at bs), inl refl, branches_around bs (s.forks - 1) s.depth s.indices n k low high)
  family_around s n (foreach at c b) k low high =
      (numbered_children s n (foreach at c b), inl refl, instances_around c 0 b (s.forks - 1) (s.depth + 1) (λ i. set s.indices s.depth i) n k low high)

  families_around : (s : Strand P) (n : ℕ) (ss : Statements P) (k : ℕ) → n ≤ k → k < n + sizes ss → (cs : List (ℕ × Strand P)) × Among cs (families_in s n ss) × Around cs k
  families_around s n (stop at) k low high = absurd (omega arith)
  families_around s n (next t ts) k low high = go (cases_lt k (n + forked t)) (λ h. families_around s (n + forked t) ts k h (omega arith))
    where
      go : (k < n + forked t) ⊎ (n + forked t ≤ k) → (n + forked t ≤ k → (cs : List (ℕ × Strand P)) × Among cs (families_in s (n + forked t) ts) × Around cs k) →
          (cs : List (ℕ × Strand P)) × Among cs (families_in s n (next t ts)) × Around cs k
      go (inl h) later = let (cs, f, g) = family_around s n t k low h in (cs, among_first cs (family s n t) (families_in s (n + forked t) ts) f, g)
      go (inr h) later = let (cs, f, g) = later h in (cs, among_second cs (family s n t) (families_in s (n + forked t) ts) f, g)

  size_in : (b : Block P) → size b ≡ suc (sizes (statements_of b))
  size_in (block at es ss) = refl

  -- a strand inside another is that one, or inside a child of it
  pub inside_child : (j : ℕ) (a : Strand P) (k : ℕ) → Inside j k a → j < k → (cs : List (ℕ × Strand P)) × Among cs (families (j, a)) × Around cs k
  inside_child j a k (low, high) h = families_around a (suc j) (statements_of a.body) k h (omega (arith, size_in a.body))
