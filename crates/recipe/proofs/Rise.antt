-- The places of the records of a block that lies in the file rise. Assumes nothing.
use Rattle.std.proofs.Common.{◌≡◌, ℕ, suc, ◌+◌, ◌-◌, ◌≤◌, List, [], ◌∷◌, ◌++◌, arith}
use Rattle.theory.specs.Meaning.{Kept, Meaning}
use Rattle.recipe.specs.declared.head.Spot.{Spot}
use Rattle.recipe.specs.declared.head.Spot.TheVariants.{Effects, Statements as InBlock, Guarded}
use Rattle.recipe.specs.declared.record.Fork.TheVariants.{Cobegin, Foreach}
use Rattle.recipe.specs.Rec.{Rec, effect, operation, when, fork, end}
use Rattle.recipe.proofs.RecordParts.{record_ends}
use Rattle.recipe.specs.Tree.{Effect, Block, block, Statements, stop, next, Statement, simple, guarded, cobegin, foreach, Blocks, none, more}
use Rattle.recipe.specs.WellFormed.{BlockLies, BlocksLie, EffectsLie, Rising, Stands, StatementLies, StatementsLie, block_count, effect_places, places, places_beside, places_in, places_under}

rise_lower : (ps : List ℕ) (a b c : ℕ) → a ≤ b → Rising ps b c → Rising ps a c
rise_lower [] a b c h r = omega arith
rise_lower (p ∷ ps) a b c h (l, r) = (omega arith, r)

rise_both : (ps qs : List ℕ) (a b c : ℕ) → Rising ps a b → Rising qs b c → Rising (ps ++ qs) a c
rise_both [] qs a b c r s = rise_lower qs a b c r s
rise_both (p ∷ ps) qs a b c (l, r) s = (l, rise_both ps qs (suc p) b c r s)

module _ {P R C : Type 0} (m : Meaning P R C) (kept : Kept m) (file : List ℕ) where
  -- a record, and what stands behind it
  rise_record : (spot : Spot) (forks depth at : ℕ) (r : Rec P) (q place e : ℕ) (ps : List ℕ) → Stands m file spot forks depth at r q → place ≡ at → Rising ps q e → Rising (place ∷ ps) at e
  rise_record spot forks depth at r q place e ps h p rise =
      let (low, high) = record_ends m file spot forks depth at r q h kept in (omega arith, rise_lower ps (suc place) q e (omega arith) rise)

  rise_effects : (es : List (Effect P)) (depth at e : ℕ) → EffectsLie m file es depth at e → Rising (effect_places es) at e
  rise_effects [] depth at e l = omega arith
  rise_effects (x ∷ xs) depth at e (q, p, h, l) = rise_record Effects 0 depth at (effect x.mode x.pattern) q x.place e (effect_places xs) h p (rise_effects xs depth q e l)

  mutual
    pub rise_block : (b : Block P) (forks depth at e : ℕ) → BlockLies m file b forks depth at e → Rising (places b) at e
    rise_block (block place es ss) forks depth at e (from, p, few, el, sl) = rise_both (effect_places es) (places_in ss) at from e (rise_effects es depth at from el) (rise_statements ss forks depth from e sl)

    pub rise_statements : (ss : Statements P) (forks depth at e : ℕ) → StatementsLie m file ss forks depth at e → Rising (places_in ss) at e
    rise_statements (stop place) forks depth at e (p, h) = rise_record InBlock forks depth at end e place e [] h p (omega arith)
    rise_statements (next s ss) forks depth at e (q, l, ls) = rise_both (places_under s) (places_in ss) at q e (rise_statement s InBlock forks depth at q l) (rise_statements ss forks depth q e ls)

    pub rise_statement : (s : Statement P) (spot : Spot) (forks depth at e : ℕ) → StatementLies m file s spot forks depth at e → Rising (places_under s) at e
    rise_statement (simple place o) spot forks depth at e (p, h) = rise_record spot forks depth at (operation o) e place e [] h p (omega arith)
    rise_statement (guarded place r s) spot forks depth at e (q, p, h, l) = rise_record spot forks depth at (when r) q place e (places_under s) h p (rise_statement s Guarded forks depth q e l)
    rise_statement (cobegin place bs) spot forks depth at e (q, p, h, l) =
        rise_record spot forks depth at (fork (Cobegin (block_count bs))) q place e (places_beside bs) h p (rise_blocks bs (forks - 1) depth q e l)
    rise_statement (foreach place n b) spot forks depth at e (q, p, h, l) =
        rise_record spot forks depth at (fork (Foreach n)) q place e (places b) h p (rise_block b (forks - 1) (depth + 1) q e l)

    pub rise_blocks : (bs : Blocks P) (forks depth at e : ℕ) → BlocksLie m file bs forks depth at e → Rising (places_beside bs) at e
    rise_blocks none forks depth at e l = omega arith
    rise_blocks (more b bs) forks depth at e (q, l, ls) = rise_both (places b) (places_beside bs) at q e (rise_block b forks depth at q l) (rise_blocks bs forks depth q e ls)
