-- What lies in the file is read. Assumes nothing.
use Rattle.std.proofs.Common.{◌≡◌, ℕ, zero, suc, ◌+◌, ◌-◌, ◌<◌, ◌≤◌, Bool, true, false, List, [], ◌∷◌, length, Some, Ok, sym, refl, ◌∙◌, subst, arith}
use Rattle.theory.specs.Meaning.{Kept, Meaning}
use Rattle.recipe.specs.declared.head.Spot.{Spot}
use Rattle.recipe.specs.declared.head.Spot.TheVariants.{Cells, Effects, Statements as InBlock, Guarded}
use Rattle.recipe.specs.declared.record.Fork.{Fork}
use Rattle.recipe.specs.declared.record.Fork.TheVariants.{Cobegin, Foreach}
use Rattle.recipe.specs.Heads.{begins}
use Rattle.recipe.specs.Rec.{Operation, Rec, effect, operation, when, fork, end}
use Rattle.recipe.proofs.RecordParts.{belongs, fork_room, record_begins, record_belongs, record_ends}
use Rattle.recipe.specs.Blocks.{block_at, branches, effects, forking, inner, statement, statements, under}
use Rattle.recipe.specs.Tree.{Effect, Block, block, Statements, stop, next, Statement, simple, guarded, cobegin, foreach, Blocks, none, more}
use Rattle.recipe.specs.WellFormed.{BlockLies, BlocksLie, EffectsLie, Stands, StatementLies, StatementsLie, block_count}
use Rattle.recipe.proofs.RingLaws.{inner_less, some_forks}

module _ {P R C : Type 0} (m : Meaning P R C) (file : List ℕ) where
  -- a fork that stands may be nested
  pub fork_nests : (spot : Spot) (forks depth at : ℕ) (f : Fork) (e : ℕ) → Stands m file spot forks depth at (fork f) e → 0 < forks
  fork_nests spot forks depth at f e h = some_forks m file f forks depth (fork_room m file spot forks depth at f e h)

  -- what may begin where a part lies
  pub begin_as : (spot other : Spot) (forks depth at : ℕ) (r : Rec P) (e : ℕ) (b : Bool) → belongs other r ≡ b → Stands m file spot forks depth at r e → begins file other at ≡ b
  begin_as spot other forks depth at r e b h k = record_begins m file spot forks depth at r e k other ∙ h

  statement_begins : (s : Statement P) (spot : Spot) (forks depth at e : ℕ) → StatementLies m file s spot forks depth at e → (begins file Effects at ≡ false) × (begins file Cells at ≡ false)
  statement_begins (simple place o) spot forks depth at e (p, h) = (begin_as spot Effects forks depth at _ _ false refl h, begin_as spot Cells forks depth at _ _ false refl h)
  statement_begins (guarded place r s) spot forks depth at e (q, p, h, l) = (begin_as spot Effects forks depth at _ _ false refl h, begin_as spot Cells forks depth at _ _ false refl h)
  statement_begins (cobegin place bs) spot forks depth at e (q, p, h, l) = (begin_as spot Effects forks depth at _ _ false refl h, begin_as spot Cells forks depth at _ _ false refl h)
  statement_begins (foreach place n b) spot forks depth at e (q, p, h, l) = (begin_as spot Effects forks depth at _ _ false refl h, begin_as spot Cells forks depth at _ _ false refl h)

  pub statements_begin : (ss : Statements P) (forks depth at e : ℕ) → StatementsLie m file ss forks depth at e → (begins file Effects at ≡ false) × (begins file Cells at ≡ false)
  statements_begin (stop place) forks depth at e (p, h) = (begin_as InBlock Effects forks depth at _ _ false refl h, begin_as InBlock Cells forks depth at _ _ false refl h)
  statements_begin (next s ss) forks depth at e (q, l, ls) = statement_begins s InBlock forks depth at q l

  effects_begin : (es : List (Effect P)) (depth at e : ℕ) → EffectsLie m file es depth at e → begins file Cells e ≡ false → begins file Cells at ≡ false
  effects_begin [] depth at e l h = subst (λ (n : ℕ). begins file Cells n ≡ false) (sym l) h
  effects_begin (x ∷ xs) depth at e (q, p, k, l) h = begin_as Effects Cells 0 depth at _ _ false refl k

  pub block_begins : (b : Block P) (forks depth at e : ℕ) → BlockLies m file b forks depth at e → begins file Cells at ≡ false
  block_begins (block place es ss) forks depth at e (from, p, few, el, sl) = effects_begin es depth at from el (statements_begin ss forks depth from e sl).1

  -- effects
  pub effects_read : (es : List (Effect P)) (room depth at e : ℕ) → length es ≤ room → EffectsLie m file es depth at e → begins file Effects e ≡ false → effects m file room depth at ≡ Ok (es, e)
  unfolding effects
  effects_read [] zero depth at e few l h = rw (l, h)
  effects_read [] (suc room) depth at e few l h = rw (l, h)
  effects_read (x ∷ xs) zero depth at e few l h = absurd (omega arith)
  effects_read (x ∷ xs) (suc room) depth at e few (q, p, k, l) h =
      let later = effects_read xs room depth q e (omega arith) l h in
      rw (begin_as Effects Effects 0 depth at (effect x.mode x.pattern) q true refl k, k, later)
      (λ i. Ok (record { place = sym p i; mode = x.mode; pattern = x.pattern } ∷ xs, e))

  module _ (kept : Kept m) where
    -- a part ends after its place and within the file
    pub effects_end : (es : List (Effect P)) (depth at e : ℕ) → EffectsLie m file es depth at e → at ≤ e
    effects_end [] depth at e l = omega arith
    effects_end (x ∷ xs) depth at e (q, p, h, l) =
        let (low, mid) = record_ends m file Effects 0 depth at (effect x.mode x.pattern) q h kept in let up = effects_end xs depth q e l in omega arith

    mutual
      pub block_ends : (b : Block P) (forks depth at e : ℕ) → BlockLies m file b forks depth at e → (at < e) × (e ≤ length file)
      block_ends (block place es ss) forks depth at e (from, p, few, el, sl) =
          let low = effects_end es depth at from el in let (up, high) = statements_end ss forks depth from e sl in (omega arith, high)

      pub statements_end : (ss : Statements P) (forks depth at e : ℕ) → StatementsLie m file ss forks depth at e → (at < e) × (e ≤ length file)
      statements_end (stop place) forks depth at e (p, h) = record_ends m file InBlock forks depth at end e h kept
      statements_end (next s ss) forks depth at e (q, l, ls) =
          let (low, mid) = statement_ends s InBlock forks depth at q l in let (up, high) = statements_end ss forks depth q e ls in (omega arith, high)

      pub statement_ends : (s : Statement P) (spot : Spot) (forks depth at e : ℕ) → StatementLies m file s spot forks depth at e → (at < e) × (e ≤ length file)
      statement_ends (simple place o) spot forks depth at e (p, h) = record_ends m file spot forks depth at (operation o) e h kept
      statement_ends (guarded place r s) spot forks depth at e (q, p, h, l) =
          let (low, mid) = record_ends m file spot forks depth at (when r) q h kept in let (up, high) = statement_ends s Guarded forks depth q e l in (omega arith, high)
      statement_ends (cobegin place bs) spot forks depth at e (q, p, h, l) =
          let (low, mid) = record_ends m file spot forks depth at (fork (Cobegin (block_count bs))) q h kept in
          let (up, high) = blocks_end bs (forks - 1) depth q e mid l in
          (omega arith, high)
      statement_ends (foreach place n b) spot forks depth at e (q, p, h, l) =
          let (low, mid) = record_ends m file spot forks depth at (fork (Foreach n)) q h kept in
          let (up, high) = block_ends b (forks - 1) (depth + 1) q e l in
          (omega arith, high)

      pub blocks_end : (bs : Blocks P) (forks depth at e : ℕ) → at ≤ length file → BlocksLie m file bs forks depth at e → (at ≤ e) × (e ≤ length file)
      blocks_end none forks depth at e h l = (omega arith, omega arith)
      blocks_end (more b bs) forks depth at e h (q, l, ls) =
          let (low, mid) = block_ends b forks depth at q l in let (up, high) = blocks_end bs forks depth q e mid ls in (omega arith, high)

    -- a statement by the spot where it stands: in a block, or under a When; no statement stands elsewhere
    Reads : Spot → (forks depth at : ℕ) → Statement P → ℕ → Type 0
    Reads Cells forks depth at s e = ⊥
    Reads Effects forks depth at s e = ⊥
    Reads InBlock forks depth at s e = statement m file (inner m file forks) forks depth at ≡ Ok (Some s, e)
    Reads Guarded forks depth at s e = under m file (inner m file forks) forks depth at ≡ Ok (s, e)

    module _ (forks depth at : ℕ) where
      misplaced : (spot : Spot) (r : Rec P) (e : ℕ) → belongs spot r ≡ false → Stands m file spot forks depth at r e → ⊥
      misplaced spot r e n h = let y = record_belongs m file spot forks depth at r e h in let z : ◌≡◌ {A = ℕ} 0 1 = cc in omega arith

      simple_reads : (spot : Spot) (e place : ℕ) (o : Operation P) → place ≡ at → Stands m file spot forks depth at (operation o) e → Reads spot forks depth at (simple place o) e
      unfolding Reads statement under
      simple_reads Cells e place o p h = misplaced Cells _ e refl h
      simple_reads Effects e place o p h = misplaced Effects _ e refl h
      simple_reads InBlock e place o p h = rw h (λ i. Ok (Some (simple (sym p i) o), e))
      simple_reads Guarded e place o p h = rw h (λ i. Ok (simple (sym p i) o, e))

      guarded_reads : (spot : Spot) (q e place r : ℕ) (s : Statement P) → place ≡ at → Stands m file spot forks depth at (when r) q → Reads Guarded forks depth q s e → Reads spot forks depth at (guarded place r s) e
      unfolding Reads statement
      guarded_reads Cells q e place r s p h k = misplaced Cells _ q refl h
      guarded_reads Effects q e place r s p h k = misplaced Effects _ q refl h
      guarded_reads InBlock q e place r s p h k = rw (h, k) (λ i. Ok (Some (guarded (sym p i) r s), e))
      guarded_reads Guarded q e place r s p h k = absurd (misplaced Guarded _ q refl h)

      fork_reads : (spot : Spot) (f : Fork) (q e : ℕ) (s : Statement P) → Stands m file spot forks depth at (fork f) q → forking m file (inner m file forks) depth at f q ≡ Ok (s, e) → Reads spot forks depth at s e
      unfolding Reads statement under
      fork_reads Cells f q e s h k = misplaced Cells _ q refl h
      fork_reads Effects f q e s h k = misplaced Effects _ q refl h
      fork_reads InBlock f q e s h k = rw (h, k)
      fork_reads Guarded f q e s h k = rw (h, k)

      cobegin_reads : (spot : Spot) (q e place : ℕ) (bs : Blocks P) → place ≡ at → Stands m file spot forks depth at (fork (Cobegin (block_count bs))) q →
          branches m file (block_at m file (forks - 1)) (block_count bs) depth q ≡ Ok (bs, e) → Reads spot forks depth at (cobegin place bs) e
      cobegin_reads spot q e place bs p h k =
          fork_reads spot (Cobegin (block_count bs)) q e (cobegin place bs) h
          (rw (inner_less m file forks (fork_nests spot forks depth at (Cobegin (block_count bs)) q h), k) (λ i. Ok (cobegin (sym p i) bs, e)))

      foreach_reads : (spot : Spot) (q e place n : ℕ) (b : Block P) → place ≡ at → Stands m file spot forks depth at (fork (Foreach n)) q →
          block_at m file (forks - 1) (depth + 1) q ≡ Ok (b, e) → Reads spot forks depth at (foreach place n b) e
      foreach_reads spot q e place n b p h k =
          fork_reads spot (Foreach n) q e (foreach place n b) h
          (rw (inner_less m file forks (fork_nests spot forks depth at (Foreach n) q h), k) (λ i. Ok (foreach (sym p i) n b, e)))

    -- the End, and a statement with those behind it; each has a byte at least
    stop_reads : (fuel forks depth at e place : ℕ) → length file < fuel + at → place ≡ at → Stands m file InBlock forks depth at end e →
        statements m file (inner m file forks) forks depth fuel at ≡ Ok (stop place, e)
    unfolding statements statement
    stop_reads zero forks depth at e place room p h = let (low, high) = record_ends m file InBlock forks depth at end e h kept in absurd (omega arith)
    stop_reads (suc fuel) forks depth at e place room p h = rw h (λ i. Ok (stop (sym p i), e))

    next_reads : (fuel forks depth at q e : ℕ) (s : Statement P) (ss : Statements P) → length file < fuel + at → (at < q) × (q ≤ length file) → (q < e) × (e ≤ length file) → Reads InBlock forks depth at s q →
        ((left : ℕ) → length file < left + q → statements m file (inner m file forks) forks depth left q ≡ Ok (ss, e)) → statements m file (inner m file forks) forks depth fuel at ≡ Ok (next s ss, e)
    unfolding statements Reads
    next_reads zero forks depth at q e s ss room (low, mid) (up, high) k later = absurd (omega arith)
    next_reads (suc fuel) forks depth at q e s ss room (low, mid) (up, high) k later = rw (k, later fuel (omega arith))

    -- blocks and their parts
    mutual
      unfolding block_at branches

      pub block_reads : (b : Block P) (forks depth at e : ℕ) → BlockLies m file b forks depth at e → block_at m file forks depth at ≡ Ok (b, e)
      block_reads (block place es ss) forks depth at e (from, p, few, el, sl) =
          rw (effects_read es 16 depth at from few el (statements_begin ss forks depth from e sl).0, statements_read ss (suc (length file)) forks depth from e (omega arith) sl)
          (λ i. Ok (block (sym p i) es ss, e))

      statements_read : (ss : Statements P) (fuel forks depth at e : ℕ) → length file < fuel + at → StatementsLie m file ss forks depth at e →
          statements m file (inner m file forks) forks depth fuel at ≡ Ok (ss, e)
      statements_read (stop place) fuel forks depth at e room (p, h) = stop_reads fuel forks depth at e place room p h
      statements_read (next s ss) fuel forks depth at e room (q, l, ls) =
          next_reads fuel forks depth at q e s ss room (statement_ends s InBlock forks depth at q l) (statements_end ss forks depth q e ls) (statement_reads s InBlock forks depth at q l) (λ left h. statements_read ss left forks depth q e h ls)

      statement_reads : (s : Statement P) (spot : Spot) (forks depth at e : ℕ) → StatementLies m file s spot forks depth at e → Reads spot forks depth at s e
      statement_reads (simple place o) spot forks depth at e (p, h) = simple_reads forks depth at spot e place o p h
      statement_reads (guarded place r s) spot forks depth at e (q, p, h, l) = guarded_reads forks depth at spot q e place r s p h (statement_reads s Guarded forks depth q e l)
      statement_reads (cobegin place bs) spot forks depth at e (q, p, h, l) =
          cobegin_reads forks depth at spot q e place bs p h (blocks_read bs (forks - 1) depth q e l)
      statement_reads (foreach place n b) spot forks depth at e (q, p, h, l) =
          foreach_reads forks depth at spot q e place n b p h (block_reads b (forks - 1) (depth + 1) q e l)

      blocks_read : (bs : Blocks P) (forks depth at e : ℕ) → BlocksLie m file bs forks depth at e → branches m file (block_at m file forks) (block_count bs) depth at ≡ Ok (bs, e)
      blocks_read none forks depth at e l = rw l
      blocks_read (more b bs) forks depth at e (q, l, ls) = rw (block_reads b forks depth at q l, blocks_read bs forks depth q e ls)

    -- a statement of a block
    pub in_block_reads : (s : Statement P) (forks depth at e : ℕ) → StatementLies m file s InBlock forks depth at e → statement m file (inner m file forks) forks depth at ≡ Ok (Some s, e)
    unfolding Reads
    in_block_reads s forks depth at e l = statement_reads s InBlock forks depth at e l
