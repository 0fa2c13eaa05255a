-- What a part of a file that was read consists of. Assumes nothing.
use Rattle.std.proofs.Common.{◌≡◌, ℕ, zero, suc, ◌+◌, ◌-◌, ◌<◌, ◌⊎◌, List, length, Some, None, Ok, Err, Option, Result, sym, ap, ◌∙◌, subst, inl, inr, arith}
use Rattle.theory.specs.Meaning.{Meaning}
use Rattle.recipe.specs.declared.fault.Fault.{Fault}
use Rattle.recipe.specs.declared.head.Spot.TheVariants.{Statements as InBlock, Guarded}
use Rattle.recipe.specs.declared.record.Fork.TheVariants.{Cobegin, Foreach}
use Rattle.recipe.specs.Blocks.{Inner, block_at, branches, effects, forking, inner, onward, plain, statement, statement_of, statements, under}
use Rattle.recipe.specs.declared.outline.Outline.{Outline}
use Rattle.recipe.specs.declared.outline.Outline.TheVariants.{Operation as OperationOutline, When as WhenOutline, Fork as ForkOutline, End as EndOutline, Other as OtherOutline}
use Rattle.recipe.specs.Records.{mapped, record_at}
use Rattle.recipe.specs.Outlines.{outlined}
use Rattle.recipe.proofs.Results.{then_ok, same_end, same_what, same_tree}
use Rattle.recipe.specs.Rec.{Rec, cell, effect, operation, when, fork, end}
use Rattle.recipe.specs.Tree.{Effect, Block, block, Statements, stop, next, Statement, simple, guarded, cobegin, foreach, Blocks, none, more, forked, sizes, branched}

module _ {P R C : Type 0} (m : Meaning P R C) (file : List ℕ) where
  pub record BlockParts (forks depth at : ℕ) (b : Block P) (e : ℕ) : Type 0 where
    pub es : List (Effect P)
    pub from : ℕ
    pub ss : Statements P
    pub effects_are : effects m file 16 depth at ≡ Ok (es, from)
    pub statements_are : statements m file (inner m file forks) forks depth (suc (length file)) from ≡ Ok (ss, e)
    pub whole : b ≡ block at es ss

  pub block_parts : (forks depth at : ℕ) (b : Block P) (e : ℕ) → block_at m file forks depth at ≡ Ok (b, e) → BlockParts forks depth at b e
  unfolding block_at
  block_parts forks depth at b e h =
      let u = then_ok (effects m file 16 depth at) _ h in
      let v = then_ok (statements m file (inner m file forks) forks depth (suc (length file)) u.0.1) _ u.2 in
      let made = block at u.0.0 v.0.0 in
      let last : v.0.1 ≡ e = same_end made b v.0.1 e v.2 in
      record {
        es = u.0.0;
        from = u.0.1;
        ss = v.0.0;
        effects_are = u.1;
        statements_are = v.1 ∙ ap (λ (k : ℕ). Ok (v.0.0, k)) last;
        whole = sym (same_what made b v.0.1 e v.2);
      }

  -- one statement and the rest, or the End
  pub record Further (inside : Inner m file) (forks depth fuel at : ℕ) (ss : Statements P) (e : ℕ) : Type 0 where
    pub s : Statement P
    pub from : ℕ
    pub rest : Statements P
    pub statement_is : statement m file inside forks depth at ≡ Ok (Some s, from)
    pub rest_is : statements m file inside forks depth (fuel - 1) from ≡ Ok (rest, e)
    pub whole : ss ≡ next s rest

  Split : (inside : Inner m file) (forks depth fuel at : ℕ) (ss : Statements P) (e : ℕ) → Type 0
  Split inside forks depth fuel at ss e = ((statement m file inside forks depth at ≡ Ok (None, e)) × (ss ≡ stop at)) ⊎ Further inside forks depth fuel at ss e

  split : (inside : Inner m file) (forks depth fuel at : ℕ) (ss : Statements P) (e : ℕ) (x : Option (Statement P) × ℕ) → statement m file inside forks depth at ≡ Ok x →
      onward m file (statements m file inside forks depth fuel) at x ≡ Ok (ss, e) → Split inside forks depth (suc fuel) at ss e
  unfolding Split
  split inside forks depth fuel at ss e (None, q) h k =
      let last : q ≡ e = same_end (stop at) ss q e k in inl (h ∙ ap (λ (n : ℕ). Ok (None, n)) last, sym (same_what (stop at) ss q e k))
  split inside forks depth fuel at ss e (Some s, q) h k =
      let u = then_ok (statements m file inside forks depth fuel q) _ k in
      let made = next s u.0.0 in
      let last : u.0.1 ≡ e = same_end made ss u.0.1 e u.2 in
      let one : suc fuel - 1 ≡ fuel = omega arith in
      inr (record { s = s; from = q; rest = u.0.0; statement_is = h; rest_is = rw one (u.1 ∙ ap (λ (n : ℕ). Ok (u.0.0, n)) last); whole = sym (same_what made ss u.0.1 e u.2) })

  statements_parts : (inside : Inner m file) (forks depth fuel at : ℕ) (ss : Statements P) (e : ℕ) → statements m file inside forks depth fuel at ≡ Ok (ss, e) → Split inside forks depth fuel at ss e
  unfolding statements
  statements_parts inside forks depth zero at ss e h = absurd cc
  statements_parts inside forks depth (suc fuel) at ss e h = let u = then_ok (statement m file inside forks depth at) _ h in split inside forks depth fuel at ss e u.0 u.1 u.2

  -- a number within a list of statements that was read leads on to a statement
  pub statements_further : (inside : Inner m file) (forks depth fuel at : ℕ) (ss : Statements P) (e k : ℕ) → statements m file inside forks depth fuel at ≡ Ok (ss, e) → k < sizes ss → Further inside forks depth fuel at ss e
  unfolding Split
  statements_further inside forks depth fuel at ss e k h l =
      elim (statements_parts inside forks depth fuel at ss e h) [ inl (p, q) ↦ absurd (let z = ap sizes q in omega arith) | inr f ↦ f ]

  pub record MoreBlocks (inside : Inner m file) (n depth at : ℕ) (bs : Blocks P) (e : ℕ) : Type 0 where
    pub b : Block P
    pub from : ℕ
    pub rest : Blocks P
    pub block_is : inside depth at ≡ Ok (b, from)
    pub rest_is : branches m file inside (n - 1) depth from ≡ Ok (rest, e)
    pub whole : bs ≡ more b rest

  pub branches_further : (inside : Inner m file) (n depth at : ℕ) (bs : Blocks P) (e k : ℕ) → branches m file inside n depth at ≡ Ok (bs, e) → k < branched bs → MoreBlocks inside n depth at bs e
  unfolding branches
  branches_further inside zero depth at bs e k h l = absurd (let z = ap branched (same_what none bs at e h) in omega arith)
  branches_further inside (suc n) depth at bs e k h l =
      let u = then_ok (inside depth at) _ h in
      let v = then_ok (branches m file inside n depth u.0.1) _ u.2 in
      let made = more u.0.0 v.0.0 in
      let last : v.0.1 ≡ e = same_end made bs v.0.1 e v.2 in
      let one : suc n - 1 ≡ n = omega arith in
      record {
        b = u.0.0;
        from = u.0.1;
        rest = v.0.0;
        block_is = u.1;
        rest_is = rw one (v.1 ∙ ap (λ (j : ℕ). Ok (v.0.0, j)) last);
        whole = sym (same_what made bs v.0.1 e v.2);
      }

  -- a fork
  pub cobegin_parts : (inside : Inner m file) (depth at n behind : ℕ) (s : Statement P) (e : ℕ) → forking m file inside depth at (Cobegin n) behind ≡ Ok (s, e) →
      (bs : Blocks P) × (branches m file inside n depth behind ≡ Ok (bs, e)) × (s ≡ cobegin at bs)
  cobegin_parts inside depth at n behind s e h =
      let u = then_ok (branches m file inside n depth behind) _ h in
      let made = cobegin at u.0.0 in
      (u.0.0, u.1 ∙ ap (λ (j : ℕ). Ok (u.0.0, j)) (same_end made s u.0.1 e u.2), sym (same_what made s u.0.1 e u.2))

  pub foreach_parts : (inside : Inner m file) (depth at n behind : ℕ) (s : Statement P) (e : ℕ) → forking m file inside depth at (Foreach n) behind ≡ Ok (s, e) →
      (b : Block P) × (inside (depth + 1) behind ≡ Ok (b, e)) × (s ≡ foreach at n b)
  foreach_parts inside depth at n behind s e h =
      let u = then_ok (inside (depth + 1) behind) _ h in
      let made = foreach at n u.0.0 in
      (u.0.0, u.1 ∙ ap (λ (j : ℕ). Ok (u.0.0, j)) (same_end made s u.0.1 e u.2), sym (same_what made s u.0.1 e u.2))

  -- a statement by the outline of its record
  module _ (inside : Inner m file) (forks depth at : ℕ) (s : Statement P) (e : ℕ) where
    abbrev pub UnderParts : Outline × ℕ → Type 0
    UnderParts (OperationOutline, q) = forked s ≡ 0
    UnderParts (WhenOutline, q) = ⊥
    UnderParts (ForkOutline f, q) = forking m file inside depth at f q ≡ Ok (s, e)
    UnderParts (EndOutline, q) = ⊥
    UnderParts (OtherOutline, q) = ⊥

    no_result : {A : Type 0} (f : Fault) (a : A) → Err f ≡ Ok a → ⊥
    no_result f a h = let z : ◌≡◌ {A = ℕ} 0 1 = cc in omega arith

    under_of : (r : Rec P × ℕ) → plain m file inside depth at r ≡ Ok (s, e) → UnderParts (outlined r)
    under_of (cell p, q) h = no_result _ _ h
    under_of (effect o p, q) h = no_result _ _ h
    under_of (operation o, q) h = ap forked (sym (same_what (simple at o) s q e h))
    under_of (when r, q) h = no_result _ _ h
    under_of (fork f, q) h = h
    under_of (end, q) h = no_result _ _ h

    outline_is : (x : Result (Rec P × ℕ) Fault) (a : Rec P × ℕ) (y : Outline × ℕ) → x ≡ Ok a → Ok y ≡ mapped outlined x → outlined a ≡ y
    outline_is x a y h k = sym (same_tree y (outlined a) (k ∙ ap (mapped outlined) h))

    pub under_parts : (y : Outline × ℕ) → under m file inside forks depth at ≡ Ok (s, e) → Ok y ≡ mapped outlined (record_at m file Guarded forks depth at) → UnderParts y
    unfolding under
    under_parts y h k =
        let u = then_ok (record_at m file Guarded forks depth at) _ h in
        subst UnderParts (outline_is (record_at m file Guarded forks depth at) u.0 y u.1 k) (under_of u.0 u.2)

    abbrev pub StatementParts : Outline × ℕ → Type 0
    StatementParts (OperationOutline, q) = forked s ≡ 0
    StatementParts (WhenOutline, q) = (r : ℕ) × (t : Statement P) × (under m file inside forks depth q ≡ Ok (t, e)) × (s ≡ guarded at r t)
    StatementParts (ForkOutline f, q) = forking m file inside depth at f q ≡ Ok (s, e)
    StatementParts (EndOutline, q) = ⊥
    StatementParts (OtherOutline, q) = ⊥

    some_what : (t : Option (Statement P)) (q : ℕ) → ◌≡◌ {A = Result (Option (Statement P) × ℕ) Fault} (Ok (t, q)) (Ok (Some s, e)) → t ≡ Some s
    some_what t q h = same_what t (Some s) q e h

    statement_from : (r : Rec P × ℕ) → statement_of m file inside forks depth at r ≡ Ok (Some s, e) → StatementParts (outlined r)
    statement_from (cell p, q) h = no_result _ _ h
    statement_from (effect o p, q) h = no_result _ _ h
    statement_from (operation o, q) h = let t : simple at o ≡ s = cc (some_what (Some (simple at o)) q h) in ap forked (sym t)
    statement_from (when r, q) h =
        let u = then_ok (under m file inside forks depth q) _ h in
        let t : guarded at r u.0.0 ≡ s = cc (some_what (Some (guarded at r u.0.0)) u.0.1 u.2) in
        (r, u.0.0, u.1 ∙ ap (λ (j : ℕ). Ok (u.0.0, j)) (same_end _ _ u.0.1 e u.2), sym t)
    statement_from (fork f, q) h =
        let u = then_ok (forking m file inside depth at f q) _ h in
        let t : u.0.0 ≡ s = cc (some_what (Some u.0.0) u.0.1 u.2) in
        u.1 ∙ (λ i. Ok (t i, same_end (Some u.0.0) (Some s) u.0.1 e u.2 i))
    statement_from (end, q) h = let t = some_what None q h in let z : ◌≡◌ {A = ℕ} 0 1 = cc in omega arith

    pub statement_parts : (y : Outline × ℕ) → statement m file inside forks depth at ≡ Ok (Some s, e) → Ok y ≡ mapped outlined (record_at m file InBlock forks depth at) → StatementParts y
    unfolding statement
    statement_parts y h k =
        let u = then_ok (record_at m file InBlock forks depth at) _ h in
        subst StatementParts (outline_is (record_at m file InBlock forks depth at) u.0 y u.1 k) (statement_from u.0 u.2)

    -- the record of a statement was read
    pub under_read : under m file inside forks depth at ≡ Ok (s, e) → (a : Rec P × ℕ) × (record_at m file Guarded forks depth at ≡ Ok a)
    unfolding under
    under_read h = let u = then_ok (record_at m file Guarded forks depth at) _ h in (u.0, u.1)

    pub statement_read : statement m file inside forks depth at ≡ Ok (Some s, e) → (a : Rec P × ℕ) × (record_at m file InBlock forks depth at ≡ Ok a)
    unfolding statement
    statement_read h = let u = then_ok (record_at m file InBlock forks depth at) _ h in (u.0, u.1)
