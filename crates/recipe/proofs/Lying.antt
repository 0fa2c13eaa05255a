-- What was read lies in the file. Assumes nothing.
use Rattle.std.proofs.Common.{◌≡◌, ℕ, zero, suc, ◌+◌, ◌-◌, ◌≤◌, Bool, true, false, cond, List, [], length, Some, None, Ok, Err, Option, Result, sym, refl, ap, ◌∙◌, subst, arith}
use Rattle.theory.specs.Meaning.{Meaning}
use Rattle.recipe.specs.declared.fault.Fault.{Fault}
use Rattle.recipe.specs.declared.head.Spot.{Spot}
use Rattle.recipe.specs.declared.head.Spot.TheVariants.{Effects, Statements as InBlock, Guarded}
use Rattle.recipe.specs.declared.record.Fork.{Fork}
use Rattle.recipe.specs.declared.record.Fork.TheVariants.{Cobegin, Foreach}
use Rattle.recipe.specs.Heads.{begins}
use Rattle.recipe.specs.Rec.{Operation, Rec, cell, effect, operation, when, fork, end}
use Rattle.recipe.specs.Records.{record_at, then}
use Rattle.recipe.proofs.RecordParts.{belongs, record_belongs}
use Rattle.recipe.proofs.Results.{absent, same_end, same_what, then_ok}
use Rattle.recipe.specs.Blocks.{Inner, block_at, block_by, branches, effects, forking, inner, onward, plain, statement, statement_of, statements, under, with_effect}
use Rattle.recipe.specs.Tree.{Effect, Block, block, Statements, stop, next, Statement, simple, guarded, Blocks, none, more}
use Rattle.recipe.specs.WellFormed.{BlockLies, BlocksLie, EffectsLie, Stands, StatementLies, StatementsLie, block_count}
use Rattle.recipe.proofs.Parts.{cobegin_parts, foreach_parts}

pub no_result : {A B : Type 0} (f : Fault) (a : A) → ◌≡◌ {A = Result A Fault} (Err f) (Ok a) → B
no_result f a h = absurd cc

module _ {P R C : Type 0} (m : Meaning P R C) (file : List ℕ) where
  -- effects
  FewLie : (room depth at : ℕ) → List (Effect P) → ℕ → Type 0
  FewLie room depth at es e = (length es ≤ room) × EffectsLie m file es depth at e

  with_lies : (room depth at : ℕ) (r : Rec P) (after : ℕ) (es : List (Effect P)) (e : ℕ) → Stands m file Effects 0 depth at r after → belongs Effects r ≡ true → FewLie room depth after es e → FewLie (suc room) depth at (with_effect m file at r es) e
  unfolding FewLie
  with_lies room depth at (cell p) after es e h b (few, lie) = absurd (let z : ◌≡◌ {A = ℕ} 0 1 = cc in omega arith)
  with_lies room depth at (effect mode p) after es e h b (few, lie) = (omega arith, (after, refl, h, lie))
  with_lies room depth at (operation o) after es e h b (few, lie) = absurd (let z : ◌≡◌ {A = ℕ} 0 1 = cc in omega arith)
  with_lies room depth at (when r) after es e h b (few, lie) = absurd (let z : ◌≡◌ {A = ℕ} 0 1 = cc in omega arith)
  with_lies room depth at (fork f) after es e h b (few, lie) = absurd (let z : ◌≡◌ {A = ℕ} 0 1 = cc in omega arith)
  with_lies room depth at end after es e h b (few, lie) = absurd (let z : ◌≡◌ {A = ℕ} 0 1 = cc in omega arith)

  none_lie : (room depth at : ℕ) (es : List (Effect P)) (e : ℕ) → ◌≡◌ {A = Result (List (Effect P) × ℕ) Fault} (Ok ([], at)) (Ok (es, e)) → FewLie room depth at es e
  unfolding FewLie
  none_lie room depth at es e h = subst (λ (xs : List (Effect P)). FewLie room depth at xs e) (same_what [] es at e h) (omega arith, same_end [] es at e h)

  effects_lie : (room depth at : ℕ) (es : List (Effect P)) (e : ℕ) → effects m file room depth at ≡ Ok (es, e) → FewLie room depth at es e
  unfolding effects
  effects_lie zero depth at es e h = none_lie zero depth at es e (absent (begins file Effects at) _ _ (es, e) h).1
  effects_lie (suc room) depth at es e h = go (λ after xs. effects_lie room depth after xs e) (begins file Effects at) h
    where
      go : ((after : ℕ) (xs : List (Effect P)) → effects m file room depth after ≡ Ok (xs, e) → FewLie room depth after xs e) → (t : Bool) →
          cond t (then (record_at m file Effects 0 depth at) (λ r. then {Y = List (Effect P) × ℕ} (effects m file room depth r.1) (λ xs. Ok (with_effect m file at r.0 xs.0, xs.1)))) (Ok ([], at)) ≡ Ok (es, e) → FewLie (suc room) depth at es e
      go later false h = none_lie (suc room) depth at es e h
      go later true h =
          let ((r, after), is, rest) = then_ok (record_at m file Effects 0 depth at) _ h in
          let ((xs, last), are, made) = then_ok (effects m file room depth after) _ rest in
          let ends = same_end (with_effect m file at r xs) es last e made in
          subst (λ (ys : List (Effect P)). FewLie (suc room) depth at ys e) (same_what (with_effect m file at r xs) es last e made)
          (with_lies room depth at r after xs e is (record_belongs m file Effects 0 depth at r after is) (later after xs (are ∙ ap (λ (n : ℕ). Ok (xs, n)) ends)))

  -- the rest, where the blocks inside a fork lie
  module _ (inside : Inner m file) (forks : ℕ) (inside_lie : (depth at : ℕ) (b : Block P) (e : ℕ) → inside depth at ≡ Ok (b, e) → BlockLies m file b (forks - 1) depth at e) where
    pub branches_lie : (n depth at : ℕ) (bs : Blocks P) (e : ℕ) → branches m file inside n depth at ≡ Ok (bs, e) → BlocksLie m file bs (forks - 1) depth at e × (block_count bs ≡ n)
    unfolding branches
    branches_lie zero depth at bs e h =
        subst (λ (xs : Blocks P). BlocksLie m file xs (forks - 1) depth at e × (block_count xs ≡ 0)) (same_what none bs at e h) (same_end none bs at e h, refl)
    branches_lie (suc n) depth at bs e h =
        let ((b, after), is, rest) = then_ok (inside depth at) _ h in
        let ((xs, last), are, made) = then_ok (branches m file inside n depth after) _ rest in
        let ends = same_end (more b xs) bs last e made in
        let (lie, count) = branches_lie n depth after xs e (are ∙ ap (λ (j : ℕ). Ok (xs, j)) ends) in
        subst (λ (ys : Blocks P). BlocksLie m file ys (forks - 1) depth at e × (block_count ys ≡ suc n)) (same_what (more b xs) bs last e made)
        ((after, inside_lie depth at b after is, lie), ap suc count)

    fork_lies : (spot : Spot) (depth at : ℕ) (f : Fork) (behind : ℕ) (s : Statement P) (e : ℕ) → Stands m file spot forks depth at (fork f) behind → forking m file inside depth at f behind ≡ Ok (s, e) → StatementLies m file s spot forks depth at e
    fork_lies spot depth at (Cobegin n) behind s e h k =
        let (bs, are, same) = cobegin_parts m file inside depth at n behind s e k in
        let (lie, count) = branches_lie n depth behind bs e are in
        subst (λ (x : Statement P). StatementLies m file x spot forks depth at e) (sym same)
        (behind, refl, subst (λ (c : ℕ). Stands m file spot forks depth at (fork (Cobegin c)) behind) (sym count) h, lie)
    fork_lies spot depth at (Foreach n) behind s e h k =
        let (b, is, same) = foreach_parts m file inside depth at n behind s e k in
        subst (λ (x : Statement P). StatementLies m file x spot forks depth at e) (sym same) (behind, refl, h, inside_lie (depth + 1) behind b e is)

    -- the statement of a record other than a When
    simple_lies : (spot : Spot) (depth at : ℕ) (o : Operation P) (behind : ℕ) (s : Statement P) (e : ℕ) → Stands m file spot forks depth at (operation o) behind → simple at o ≡ s → behind ≡ e → StatementLies m file s spot forks depth at e
    simple_lies spot depth at o behind s e h same ends =
        subst (λ (x : Statement P). StatementLies m file x spot forks depth at e) same (refl, h ∙ ap (λ (j : ℕ). Ok (operation o, j)) ends)

    plain_lies : (depth at : ℕ) (r : Rec P) (behind : ℕ) (s : Statement P) (e : ℕ) → Stands m file Guarded forks depth at r behind → plain m file inside depth at (r, behind) ≡ Ok (s, e) → StatementLies m file s Guarded forks depth at e
    plain_lies depth at (cell p) behind s e h k = no_result _ _ k
    plain_lies depth at (effect mode p) behind s e h k = no_result _ _ k
    plain_lies depth at (operation o) behind s e h k = simple_lies Guarded depth at o behind s e h (same_what (simple at o) s behind e k) (same_end (simple at o) s behind e k)
    plain_lies depth at (when r) behind s e h k = no_result _ _ k
    plain_lies depth at (fork f) behind s e h k = fork_lies Guarded depth at f behind s e h k
    plain_lies depth at end behind s e h k = no_result _ _ k

    under_lies : (depth at : ℕ) (s : Statement P) (e : ℕ) → under m file inside forks depth at ≡ Ok (s, e) → StatementLies m file s Guarded forks depth at e
    unfolding under
    under_lies depth at s e h = let ((r, behind), is, rest) = then_ok (record_at m file Guarded forks depth at) _ h in plain_lies depth at r behind s e is rest

    -- a statement of a block, or the End
    SomeLies : (depth at : ℕ) → Option (Statement P) → ℕ → Type 0
    SomeLies depth at None e = Stands m file InBlock forks depth at end e
    SomeLies depth at (Some s) e = StatementLies m file s InBlock forks depth at e

    some_is : (depth at : ℕ) (x y : Option (Statement P)) (n e : ℕ) → ◌≡◌ {A = Result (Option (Statement P) × ℕ) Fault} (Ok (x, n)) (Ok (y, e)) → SomeLies depth at x n → SomeLies depth at y e
    some_is depth at x y n e h l = subst (λ (j : ℕ). SomeLies depth at y j) (same_end x y n e h) (subst (λ (z : Option (Statement P)). SomeLies depth at z n) (same_what x y n e h) l)

    statement_of_lies : (depth at : ℕ) (r : Rec P) (behind : ℕ) (x : Option (Statement P)) (e : ℕ) → Stands m file InBlock forks depth at r behind → statement_of m file inside forks depth at (r, behind) ≡ Ok (x, e) → SomeLies depth at x e
    unfolding SomeLies
    statement_of_lies depth at (cell p) behind x e h k = no_result _ _ k
    statement_of_lies depth at (effect mode p) behind x e h k = no_result _ _ k
    statement_of_lies depth at (operation o) behind x e h k = some_is depth at (Some (simple at o)) x behind e k (refl, h)
    statement_of_lies depth at (when r) behind x e h k =
        let ((s, last), is, made) = then_ok (under m file inside forks depth behind) _ k in
        some_is depth at (Some (guarded at r s)) x last e made (behind, refl, h, under_lies depth behind s last is)
    statement_of_lies depth at (fork f) behind x e h k =
        let ((s, last), is, made) = then_ok (forking m file inside depth at f behind) _ k in
        some_is depth at (Some s) x last e made (fork_lies InBlock depth at f behind s last h is)
    statement_of_lies depth at end behind x e h k = some_is depth at None x behind e k h

    statement_lies : (depth at : ℕ) (x : Option (Statement P)) (e : ℕ) → statement m file inside forks depth at ≡ Ok (x, e) → SomeLies depth at x e
    unfolding statement
    statement_lies depth at x e h = let ((r, behind), is, rest) = then_ok (record_at m file InBlock forks depth at) _ h in statement_of_lies depth at r behind x e is rest

    onward_lies : (depth at : ℕ) (rest : ℕ → Result (Statements P × ℕ) Fault) (ss : Statements P) (e : ℕ) → ((from : ℕ) (xs : Statements P) → rest from ≡ Ok (xs, e) → StatementsLie m file xs forks depth from e) →
        (x : Option (Statement P)) (from : ℕ) → SomeLies depth at x from → onward m file rest at (x, from) ≡ Ok (ss, e) → StatementsLie m file ss forks depth at e
    unfolding SomeLies
    onward_lies depth at rest ss e later None from l h =
        subst (λ (xs : Statements P). StatementsLie m file xs forks depth at e) (same_what (stop at) ss from e h)
        (refl, l ∙ ap (λ (j : ℕ). Ok (end, j)) (same_end (stop at) ss from e h))
    onward_lies depth at rest ss e later (Some s) from l h =
        let ((xs, last), are, made) = then_ok (rest from) _ h in
        let ends = same_end (next s xs) ss last e made in
        subst (λ (ys : Statements P). StatementsLie m file ys forks depth at e) (same_what (next s xs) ss last e made)
        (from, l, later from xs (are ∙ ap (λ (j : ℕ). Ok (xs, j)) ends))

    statements_lie : (fuel depth at : ℕ) (ss : Statements P) (e : ℕ) → statements m file inside forks depth fuel at ≡ Ok (ss, e) → StatementsLie m file ss forks depth at e
    unfolding statements
    statements_lie zero depth at ss e h = no_result _ _ h
    statements_lie (suc fuel) depth at ss e h =
        let ((x, from), is, rest) = then_ok (statement m file inside forks depth at) _ h in
        onward_lies depth at (statements m file inside forks depth fuel) ss e (λ n xs. statements_lie fuel depth n xs e) x from (statement_lies depth at x from is) rest

    block_by_lies : (depth at : ℕ) (b : Block P) (e : ℕ) → block_by m file inside forks depth at ≡ Ok (b, e) → BlockLies m file b forks depth at e
    unfolding FewLie
    block_by_lies depth at b e h =
        let ((es, from), are, rest) = then_ok (effects m file 16 depth at) _ h in
        let ((ss, last), on, made) = then_ok (statements m file inside forks depth (suc (length file)) from) _ rest in
        let ends = same_end (block at es ss) b last e made in
        let (few, lie) = effects_lie 16 depth at es from are in
        subst (λ (x : Block P). BlockLies m file x forks depth at e) (same_what (block at es ss) b last e made)
        (from, refl, few, lie, statements_lie (suc (length file)) depth from ss e (on ∙ ap (λ (j : ℕ). Ok (ss, j)) ends))

  -- a block inside a fork, where so many more forks could be nested outside it
  pub inner_lies : (forks depth at : ℕ) (b : Block P) (e : ℕ) → inner m file forks depth at ≡ Ok (b, e) → BlockLies m file b (forks - 1) depth at e
  unfolding inner
  inner_lies zero depth at b e h = no_result _ _ h
  inner_lies (suc forks) depth at b e h =
      let one : forks ≡ suc forks - 1 = omega arith in
      subst (λ (j : ℕ). BlockLies m file b j depth at e) one (block_by_lies (inner m file forks) forks (inner_lies forks) depth at b e h)

  pub block_lies : (forks depth at : ℕ) (b : Block P) (e : ℕ) → block_at m file forks depth at ≡ Ok (b, e) → BlockLies m file b forks depth at e
  unfolding block_at
  block_lies forks depth at b e h = block_by_lies (inner m file forks) forks (inner_lies forks) depth at b e h
