-- The number that is computed for a child of a fork is the child's, where the fork's blocks lie in the file. Assumes
-- nothing.
use Rattle.std.proofs.Common.{◌≡◌, ℕ, zero, suc, ◌+◌, ◌-◌, ◌*◌, ◌<◌, ◌≤◌, ◌⊎◌, List, length, Some, Ok, Option, sym, refl, ap, ◌∙◌, subst, inl, inr, suc-mul, zero-mul, arith, le-ltb, lt-ltb}
use Rattle.std.proofs.lemmas.Bool.{cases_lt}
use Rattle.theory.specs.Meaning.{Kept, Meaning}
use Rattle.recipe.specs.declared.record.Fork.{Fork}
use Rattle.recipe.specs.declared.record.Fork.TheVariants.{Cobegin, Foreach}
use Rattle.recipe.specs.Blocks.{forking, inner}
use Rattle.recipe.specs.Cells.{at_number}
use Rattle.recipe.specs.Extents.{capped}
use Rattle.recipe.specs.Tree.{Block, Blocks, none, more, Statement, simple, guarded, cobegin, foreach, branched, forked, size}
use Rattle.recipe.specs.WellFormed.{BlockLies, BlocksLie, block_count}
use Rattle.recipe.proofs.Lying.{branches_lie, inner_lies}
use Rattle.recipe.proofs.Parts.{cobegin_parts, foreach_parts}
use Rattle.recipe.proofs.Reading.{block_reads}
use Rattle.recipe.specs.declared.site.Site.{Site}
use Rattle.strands.specs.ChildAt.{branch_at, child_at}
use Rattle.strands.specs.ChildFound.{ChildFound, ForkLies}
use Rattle.strands.specs.Children.{children, instances, starts}
use Rattle.strands.proofs.Counting.{at_past}

-- how many numbers there are
pub starts_length : {P : Type 0} (bs : Blocks P) (n : ℕ) → length (starts bs n) ≡ block_count bs
starts_length none n = refl
starts_length (more b bs) n = ap suc (starts_length bs (n + size b))

pub instances_length : (c s n : ℕ) → length (instances c s n) ≡ c
instances_length zero s n = refl
instances_length (suc c) s n = ap suc (instances_length c s (n + s))

-- the number of an instance
instance_at : (c s n k : ℕ) → k < c → at_number (instances c s n) k ≡ Some (n + k * s)
instance_at zero s n k h = absurd (omega arith)
instance_at (suc c) s n zero h = ap (λ (i : ℕ). Some i) (omega (arith, zero-mul s))
instance_at (suc c) s n (suc k) h = instance_at c s (n + s) k (omega arith) ∙ ap (λ (i : ℕ). Some i) (omega (arith, suc-mul k s))

-- no number is cut
uncut : (first k left c s : ℕ) → c ≡ k + suc left → first + c * s ≤ 1024 → capped (first + k * capped s) ≡ first + k * s
uncut first k left c s e h =
    let f : c * s ≡ (k + suc left) * s = ap (λ (i : ℕ). i * s) e in
    let small : capped s ≡ s = omega arith in
    rw small (omega arith)

module _ {P R C : Type 0} (m : Meaning P R C) (kept : Kept m) (file : List ℕ) where
  branch_found : (site : Site) (bs : Blocks P) (nth number at e : ℕ) → BlocksLie m file bs site.forks site.depth at e → number + branched bs ≤ 1024 → nth < block_count bs →
      branch_at m file site nth number at ≡ at_number (starts bs number) nth
  unfolding branch_at
  branch_found site none nth number at e l s h = absurd (omega arith)
  branch_found site (more b bs) zero number at e l s h = refl
  branch_found site (more b bs) (suc nth) number at e (q, l, ls) s h =
      let n : capped (number + capped (size b)) ≡ number + size b = omega arith in
      rw (block_reads m file kept b site.forks site.depth at q l, n) (branch_found site bs nth (number + size b) q e ls (omega arith) (omega arith))

  module _ (fork : Fork) (site : Site) (first nth : ℕ) where
    cobegin_found : (bs : Blocks P) (e : ℕ) → fork ≡ Cobegin (block_count bs) → BlocksLie m file bs site.forks site.depth site.place e → first + branched bs ≤ 1024 →
        child_at m file site first nth fork ≡ at_number (starts bs first) nth
    unfolding child_at
    cobegin_found bs e f l s = go (cases_lt nth (block_count bs))
      where
        go : (nth < block_count bs) ⊎ (block_count bs ≤ nth) → child_at m file site first nth fork ≡ at_number (starts bs first) nth
        go (inl h) = rw (f, lt-ltb nth (block_count bs) h) (branch_found site bs nth first site.place e l s h)
        go (inr h) = rw (f, le-ltb nth (block_count bs) h) (sym (at_past (starts bs first) nth (omega (arith, starts_length bs first))))

    foreach_found : (n : ℕ) (b : Block P) (e : ℕ) → fork ≡ Foreach n → BlockLies m file b site.forks site.depth site.place e → first + n * size b ≤ 1024 →
        child_at m file site first nth fork ≡ at_number (instances n (size b) first) nth
    unfolding child_at
    foreach_found n b e f l s = go (cases_lt nth n)
      where
        go : (nth < n) ⊎ (n ≤ nth) → child_at m file site first nth fork ≡ at_number (instances n (size b) first) nth
        go (inl h) =
            rw (f, lt-ltb nth n h, block_reads m file kept b site.forks site.depth site.place e l, uncut first nth (n - suc nth) n (size b) (omega arith) s) (sym (instance_at n (size b) first nth h))
        go (inr h) = rw (f, le-ltb nth n h) (sym (at_past (instances n (size b) first) nth (omega (arith, instances_length n (size b) first))))

    pub child_found : (r : Option ℕ) → r ≡ child_at m file site first nth fork → ChildFound m file fork site first nth r
    child_found r is s e l h = is ∙ go s l h
      where
        go : (s : Statement P) → ForkLies m file fork site s e → first + forked s ≤ 1024 → child_at m file site first nth fork ≡ at_number (children s first) nth
        go (simple at o) l h = absurd l
        go (guarded at r s) l h = absurd l
        go (cobegin at bs) (f, l) h = cobegin_found bs e f l h
        go (foreach at n b) (f, l) h = foreach_found n b e f l h

-- the site inside a fork whose record ends at a place, where so many more forks may be nested and so many foreach enclose
abbrev pub inside_fork : Fork → (behind forks depth : ℕ) → Site
inside_fork (Cobegin n) behind forks depth = record { place = behind; forks = forks - 1; depth = depth }
inside_fork (Foreach n) behind forks depth = record { place = behind; forks = forks - 1; depth = depth + 1 }

-- the blocks of a fork that was read lie there
pub fork_lies : {P R C : Type 0} (m : Meaning P R C) (file : List ℕ) (f : Fork) (forks depth at behind : ℕ) (s : Statement P) (e : ℕ) → forking m file (inner m file forks) depth at f behind ≡ Ok (s, e) →
    ForkLies m file f (inside_fork f behind forks depth) s e
fork_lies {P} m file (Cobegin n) forks depth at behind s e h =
    let (bs, are, same) = cobegin_parts m file (inner m file forks) depth at n behind s e h in
    let (lie, count) = branches_lie m file (inner m file forks) forks (inner_lies m file forks) n depth behind bs e are in
    subst (λ (x : Statement P). ForkLies m file (Cobegin n) (inside_fork (Cobegin n) behind forks depth) x e) (sym same) (ap (λ (c : ℕ). Cobegin c) (sym count), lie)
fork_lies {P} m file (Foreach n) forks depth at behind s e h =
    let (b, is, same) = foreach_parts m file (inner m file forks) depth at n behind s e h in
    subst (λ (x : Statement P). ForkLies m file (Foreach n) (inside_fork (Foreach n) behind forks depth) x e) (sym same) (refl, inner_lies m file forks (depth + 1) behind b e is)
