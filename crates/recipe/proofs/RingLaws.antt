-- Each way through the reading of statements and blocks, by where they end and how many strands they have. Assumes
-- nothing.
use Rattle.std.proofs.Common.{◌≡◌, ℕ, zero, suc, ◌+◌, ◌-◌, ◌*◌, ◌<◌, ◌≤◌, true, ltb, ◌⊎◌, List, Some, None, Ok, Err, Option, Result, sym, refl, ap, ◌∙◌, inl, inr, suc-mul, zero-mul, arith}
use Rattle.std.proofs.lemmas.Bool.{and_parts, cases_lt, ltb-true}
use Rattle.theory.specs.Meaning.{Meaning}
use Rattle.recipe.specs.declared.extent.Extent.{Extent}
use Rattle.recipe.specs.declared.fault.Fault.{Fault}
use Rattle.recipe.specs.declared.record.Fork.{Fork}
use Rattle.recipe.specs.declared.record.Fork.TheVariants.{Cobegin, Foreach}
use Rattle.recipe.proofs.Results.{by_ok, was_err}
use Rattle.recipe.specs.Blocks.{Inner, block_at, branches, inner, onward, statement, statements}
use Rattle.recipe.specs.Records.{mapped, then}
use Rattle.recipe.specs.Extents.{capped, extent, one_after, statement_extent}
use Rattle.recipe.specs.Kinds.{roomy}
use Rattle.recipe.specs.Tree.{Block, Statements, next, Statement, Blocks, none, more, size, sizes, forked, branched}

-- counting strands in parts
capped_sum : (a b : ℕ) → capped (capped a + capped b) ≡ capped (a + b)
capped_sum a b = omega arith

pub capped_times : (n s : ℕ) → capped (n * capped s) ≡ capped (n * s)
capped_times zero s = rw (zero-mul (capped s), zero-mul s)
capped_times (suc n) s = go (cases_lt s 1025)
  where
    go : (s < 1025) ⊎ (1025 ≤ s) → capped (suc n * capped s) ≡ capped (suc n * s)
    go (inl h) = let e : capped s ≡ s = omega arith in rw e
    go (inr h) = let e : capped s ≡ 1025 = omega arith in rw e (omega (arith, suc-mul n 1025, suc-mul n s))

-- parts one after another
pub after_none : {X : Type 0} (strands : X → ℕ) (at : ℕ) (r : Result (X × ℕ) Fault) → mapped (one_after (record { end = at; strands = 0 })) (mapped (extent strands) r) ≡ mapped (extent strands) r
after_none strands at (Ok (x, e)) = ap (λ n. Ok (record { end = e; strands = n })) (omega arith)
after_none strands at (Err f) = refl

after_twice : (a b : Extent) (r : Result Extent Fault) → mapped (one_after a) (mapped (one_after b) r) ≡ mapped (one_after (one_after a b)) r
after_twice a b (Ok x) = ap (λ n. Ok (record { end = x.end; strands = n })) (omega arith)
after_twice a b (Err f) = refl

pub after_last : (x : Extent) (e : ℕ) → x.strands ≤ 1025 → Ok (record { end = e; strands = x.strands }) ≡ mapped (one_after x) (Ok (record { end = e; strands = 0 }))
after_last x e h = ap (λ n. Ok (record { end = e; strands = n })) (omega arith)

module _ {P R C : Type 0} (m : Meaning P R C) (file : List ℕ) where
  -- blocks one after another
  module _ (inside : Inner m file) (depth : ℕ) where
    pub branches_none : (n at : ℕ) → n ≤ 0 → branches m file inside n depth at ≡ Ok (none, at)
    unfolding branches
    branches_none zero at z = refl
    branches_none (suc n) at z = absurd (omega arith)

    pub branches_fault : (n at : ℕ) (f : Fault) → 0 < n → Err f ≡ mapped (extent size) (inside depth at) → branches m file inside n depth at ≡ Err f
    unfolding branches
    branches_fault zero at f z e = absurd (omega arith)
    branches_fault (suc n) at f z e = rw (was_err (extent size) (inside depth at) f e)

    joined : (b : Block P) (e : ℕ) (r : Result (Blocks P × ℕ) Fault) →
        mapped (extent branched) (then r (λ bs. Ok (more b bs.0, bs.1))) ≡ mapped (one_after (extent size (b, e))) (mapped (extent branched) r)
    joined b e (Ok (bs, q)) = ap (λ n. Ok (record { end = q; strands = n })) (sym (capped_sum (size b) (branched bs)))
    joined b e (Err f) = refl

    branches_more : (n at : ℕ) (x : Extent) → 0 < n → Ok x ≡ mapped (extent size) (inside depth at) →
        mapped (extent branched) (branches m file inside n depth at) ≡ mapped (one_after x) (mapped (extent branched) (branches m file inside (n - 1) depth x.end))
    unfolding branches
    branches_more zero at x z e = absurd (omega arith)
    branches_more (suc n) at x z e =
        let one : suc n - 1 ≡ n = omega arith in
        rw one
        (by_ok (extent size)
        (λ r y. mapped (extent branched) (then r (λ b. then (branches m file inside n depth b.1) (λ bs. Ok (more b.0 bs.0, bs.1))))
        ≡ mapped (one_after y) (mapped (extent branched) (branches m file inside n depth y.end)))
        (λ (b, e). joined b e (branches m file inside n depth e)) (inside depth at) x e)

    pub branches_on : (n : ℕ) (so_far x : Extent) → 0 < n → Ok x ≡ mapped (extent size) (inside depth so_far.end) →
        mapped (one_after (one_after so_far x)) (mapped (extent branched) (branches m file inside (n - 1) depth x.end)) ≡ mapped (one_after so_far) (mapped (extent branched) (branches m file inside n depth so_far.end))
    branches_on n so_far x z e =
        sym (after_twice so_far x (mapped (extent branched) (branches m file inside (n - 1) depth x.end))) ∙ ap (mapped (one_after so_far)) (sym (branches_more n so_far.end x z e))

  -- the blocks of a fork
  pub inner_less : (forks : ℕ) → 0 < forks → inner m file forks ≡ block_at m file (forks - 1)
  unfolding inner block_at
  inner_less zero z = absurd (omega arith)
  inner_less (suc forks) z = let one : suc forks - 1 ≡ forks = omega arith in rw one

  pub some_forks : (f : Fork) (forks depth : ℕ) → roomy f forks depth ≡ true → 0 < forks
  some_forks (Cobegin n) forks depth h = ltb-true 0 forks h
  some_forks (Foreach n) forks depth h = ltb-true 0 forks (and_parts (ltb 0 forks) (ltb depth 3) h).0

  -- statements up to the End
  module _ (inside : Inner m file) (forks depth : ℕ) where
    pub statements_fault : (fuel at : ℕ) (f : Fault) → 0 < fuel → Err f ≡ mapped statement_extent (statement m file inside forks depth at) → statements m file inside forks depth fuel at ≡ Err f
    unfolding statements
    statements_fault zero at f z e = absurd (omega arith)
    statements_fault (suc fuel) at f z e = rw (was_err statement_extent (statement m file inside forks depth at) f e)

    -- what an outcome of the first statement leaves to the rest
    Goes : (ℕ → Result (Statements P × ℕ) Fault) → ℕ → Option (Statement P) × ℕ → Option ℕ × ℕ → Type 0
    Goes rest at x (None, after) = mapped (extent sizes) (onward m file rest at x) ≡ Ok (record { end = after; strands = 0 })
    Goes rest at x (Some n, after) = mapped (extent sizes) (onward m file rest at x) ≡ mapped (one_after (record { end = after; strands = n })) (mapped (extent sizes) (rest after))

    after_one : (s : Statement P) (at : ℕ) (r : Result (Statements P × ℕ) Fault) →
        mapped (extent sizes) (then r (λ ss. Ok (next s ss.0, ss.1))) ≡ mapped (one_after (record { end = at; strands = capped (forked s) })) (mapped (extent sizes) r)
    after_one s at (Ok (ss, e)) = ap (λ n. Ok (record { end = e; strands = n })) (sym (capped_sum (forked s) (sizes ss)))
    after_one s at (Err f) = refl

    goes : (rest : ℕ → Result (Statements P × ℕ) Fault) (at : ℕ) (x : Option (Statement P) × ℕ) → Goes rest at x (statement_extent x)
    unfolding Goes
    goes rest at (None, after) = refl
    goes rest at (Some s, after) = after_one s after (rest after)

    goes_by : (rest : ℕ → Result (Statements P × ℕ) Fault) (at : ℕ) (r : Result (Option (Statement P) × ℕ) Fault) (y : Option ℕ × ℕ) → Ok y ≡ mapped statement_extent r →
        (x : Option (Statement P) × ℕ) × (r ≡ Ok x) × Goes rest at x y
    goes_by rest at r y e =
        by_ok statement_extent (λ r y. (x : Option (Statement P) × ℕ) × (r ≡ Ok x) × Goes rest at x y) (λ x. (x, refl, goes rest at x)) r y e

    pub statements_ended : (fuel at after : ℕ) → 0 < fuel → Ok (None, after) ≡ mapped statement_extent (statement m file inside forks depth at) →
        mapped (extent sizes) (statements m file inside forks depth fuel at) ≡ Ok (record { end = after; strands = 0 })
    unfolding statements Goes
    statements_ended zero at after z e = absurd (omega arith)
    statements_ended (suc fuel) at after z e =
        let w = goes_by (statements m file inside forks depth fuel) at (statement m file inside forks depth at) (None, after) e in rw w.1 w.2

    statements_more : (fuel at n after : ℕ) → 0 < fuel → Ok (Some n, after) ≡ mapped statement_extent (statement m file inside forks depth at) →
        mapped (extent sizes) (statements m file inside forks depth fuel at) ≡ mapped (one_after (record { end = after; strands = n })) (mapped (extent sizes) (statements m file inside forks depth (fuel - 1) after))
    unfolding statements Goes
    statements_more zero at n after z e = absurd (omega arith)
    statements_more (suc fuel) at n after z e =
        let one : suc fuel - 1 ≡ fuel = omega arith in
        let w = goes_by (statements m file inside forks depth fuel) at (statement m file inside forks depth at) (Some n, after) e in
        rw (one, w.1) w.2

    pub statements_on : (fuel : ℕ) (so_far : Extent) (found : Option ℕ) (n after : ℕ) → 0 < fuel → found ≡ Some n → Ok (found, after) ≡ mapped statement_extent (statement m file inside forks depth so_far.end) →
        mapped (one_after (one_after so_far (record { end = after; strands = n }))) (mapped (extent sizes) (statements m file inside forks depth (fuel - 1) after))
        ≡ mapped (one_after so_far) (mapped (extent sizes) (statements m file inside forks depth fuel so_far.end))
    statements_on fuel so_far found n after z is e =
        sym (after_twice so_far (record { end = after; strands = n }) (mapped (extent sizes) (statements m file inside forks depth (fuel - 1) after)))
        ∙ ap (mapped (one_after so_far)) (sym (statements_more fuel so_far.end n after z (ap (λ (o : Option ℕ). Ok (o, after)) (sym is) ∙ e)))

pub ruleset branches_read = (branches_none, branches_fault, after_last)

pub ruleset fork_read = (inner_less, some_forks, capped_times)

pub ruleset statements_read = (statements_fault, statements_ended, after_last)
