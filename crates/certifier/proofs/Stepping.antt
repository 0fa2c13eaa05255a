-- The statements of a strand, one after another. Assumes nothing.
use Rattle.std.proofs.Common.{◌≡◌, ℕ, suc, ◌+◌, min, List, Some, None, Ok, Option, Result, sym, refl, ap, ◌∙◌, subst, arith}
use Rattle.theory.specs.Meaning.{Kept, Meaning}
use Rattle.recipe.specs.declared.fault.Fault.{Fault}
use Rattle.recipe.specs.declared.head.Spot.TheVariants.{Statements as InBlock}
use Rattle.recipe.specs.Records.{mapped}
use Rattle.recipe.proofs.Results.{same_end, same_what}
use Rattle.recipe.specs.declared.recipe.Recipe.{Recipe}
use Rattle.recipe.specs.Blocks.{inner, statement}
use Rattle.recipe.specs.Extents.{capped, statement_extent}
use Rattle.recipe.specs.Recipes.{Tree}
use Rattle.recipe.specs.Tree.{Block, block, Statements, stop, next, Statement, forked, size, sizes}
use Rattle.recipe.specs.WellFormed.{StatementLies, StatementsLie}
use Rattle.recipe.proofs.Once.{entry_is}
use Rattle.recipe.proofs.Reading.{in_block_reads}
use Rattle.strands.specs.Children.{Behind, first_child, statements_of}
use Rattle.recipe.specs.declared.site.Site.{Site}
use Rattle.strands.proofs.Kin.{behind_more, behind_none}
use Rattle.certifier.specs.declared.effect.Effect.{Effect}
use Rattle.certifier.specs.declared.refusal.Refusal.{Refusal}
use Rattle.certifier.specs.Effects.{filled_effects}
use Rattle.certifier.specs.Faults.{effects_in, numbered_children, statement_faults, statements_faults, strand_faults}
use Rattle.certifier.specs.Lists.{first}
use Rattle.certifier.specs.Refusals.{refused}
use Rattle.certifier.specs.Sound.{Numbered}
use Rattle.certifier.specs.Walks.{Family, Holds, StatementJudged, there}
use Rattle.certifier.proofs.Held.{strand_small}
use Rattle.certifier.proofs.Scanning.{first_of_both, first_of_second}
use Rattle.certifier.proofs.Siblings.{behind_room, family_of}

block_room : {P : Type 0} (b : Block P) → size b ≡ suc (sizes (statements_of b))
block_room (block at es ss) = refl

module _ {P R C : Type 0} (m : Meaning P R C) (kept : Kept m) (recipe : Recipe) (cells : List m.Point) (own : List (Effect R)) (number : ℕ) (site : Site) (is : List ℕ) (place : ℕ) where
  -- the statements that are left, and the number of the next child
  abbrev Left : Block P → ℕ → (at child : ℕ) → Type 0
  Left b e at child =
      (k : ℕ) × (rest : Statements P) × Behind (statements_of b) k rest × StatementsLie m recipe.file.now rest site.forks site.depth at e × (child ≡ first_child number k)
      × (first (statements_faults m cells number (there site is b) child rest) ≡ first (strand_faults m cells (number, there site is b)))

  abbrev pub Walked : (at child : ℕ) → Type 0
  Walked at child =
      (t : Tree P m.Point) → Holds m recipe t → (b : Block P) → own ≡ filled_effects m is (effects_in b) → Numbered m t number (there site is b) →
      (e : ℕ) → StatementsLie m recipe.file.now (statements_of b) site.forks site.depth place e → Left b e at child

  abbrev pub Judged : Option (Refusal C) → Type 0
  Judged r =
      (t : Tree P m.Point) → Holds m recipe t → (b : Block P) → own ≡ filled_effects m is (effects_in b) → Numbered m t number (there site is b) →
      (e : ℕ) → StatementsLie m recipe.file.now (statements_of b) site.forks site.depth place e → refused m r ≡ first (strand_faults m cells (number, there site is b))

  pub walk_none : (child : ℕ) → child ≡ min (number + 1) 18446744073709551615 → Walked place child
  walk_none child sum t holds b same numbered e lie =
      let small = strand_small m kept recipe t holds number (there site is b) numbered in
      let room = block_room b in
      let at : child ≡ suc number = omega arith in
      (0, statements_of b, behind_none (statements_of b), lie, omega arith, ap (λ (n : ℕ). first (statements_faults m cells number (there site is b) n (statements_of b))) at)

  module _ (at child : ℕ) (walked : Walked at child) where
    -- what is read at the statements that are left
    ends : (e place : ℕ) → StatementsLie m recipe.file.now (stop place) site.forks site.depth at e → statement m recipe.file.now (inner m recipe.file.now site.forks) site.forks site.depth at ≡ Ok (None, e)
    unfolding statement
    ends e place (p, h) = rw h

    reads : (st : Statement P) (q : ℕ) → StatementLies m recipe.file.now st InBlock site.forks site.depth at q →
        statement m recipe.file.now (inner m recipe.file.now site.forks) site.forks site.depth at ≡ Ok (Some st, q)
    reads st q l = in_block_reads m recipe.file.now kept st site.forks site.depth at q l

    module _ (file : List ℕ) (its : file ≡ recipe.file.now) where
      abbrev Given : Result (Option ℕ × ℕ) Fault → Type 0
      Given r = r ≡ mapped statement_extent (statement m file (inner m file site.forks) site.forks site.depth at)

      in_recipe : (r : Result (Option ℕ × ℕ) Fault) → Given r → r ≡ mapped statement_extent (statement m recipe.file.now (inner m recipe.file.now site.forks) site.forks site.depth at)
      in_recipe r h = h ∙ ap (λ (f : List ℕ). mapped statement_extent (statement m f (inner m f site.forks) site.forks site.depth at)) its

      -- no statement is read
      pub walk_over : (r : Result (Option ℕ × ℕ) Fault) → Given r → ((strands end : ℕ) → r ≡ Ok (Some strands, end) → ⊥) → Judged None
      walk_over r h other t holds b same numbered e lie = go (walked t holds b same numbered e lie)
        where
          go : Left b e at child → None ≡ first (strand_faults m cells (number, there site is b))
          go (k, stop p, behind, l, n, faults) = faults
          go (k, next st later, behind, (q, l, ls), n, faults) = absurd (other (capped (forked st)) q (in_recipe r h ∙ ap (mapped statement_extent) (reads st q l)))

      module _ (strands end : ℕ) (o : Option ℕ) (some : o ≡ Some strands) (given : Given (Ok (o, end)))
          (r : Option (Refusal C)) (judged : StatementJudged m recipe cells own number site is (λ st. Unit {0}) InBlock at child r) where
        h : Ok (Some strands, end) ≡ mapped statement_extent (statement m recipe.file.now (inner m recipe.file.now site.forks) site.forks site.depth at)
        h = ap (λ (o : Option ℕ). Ok (o, end)) (sym some) ∙ in_recipe (Ok (o, end)) given

        -- the first statement that is left was looked at
        looked : (t : Tree P m.Point) → Holds m recipe t → (b : Block P) → own ≡ filled_effects m is (effects_in b) → Numbered m t number (there site is b) → (k : ℕ) (st : Statement P) (later : Statements P) →
            Behind (statements_of b) k (next st later) → (q : ℕ) → StatementLies m recipe.file.now st InBlock site.forks site.depth at q → child ≡ first_child number k →
            refused m r ≡ first (statement_faults m cells number (there site is b) child st)
        looked t holds b same numbered k st later behind q l n =
            judged t holds b same st q tt l
            (subst (λ (j : ℕ). Family m t j (numbered_children (there site is b) j st)) (sym n) (family_of m t number (there site is b) numbered k st later behind))

        impossible : {X : Type 0} (e p : ℕ) → StatementsLie m recipe.file.now (stop p) site.forks site.depth at e → X
        impossible e p l = let z = same_what (Some strands) None end e (h ∙ ap (mapped statement_extent) (ends e p l)) in absurd cc

        pub walk_found : (v : Refusal C) → r ≡ Some v → Judged (Some v)
        walk_found v found t holds b same numbered e lie = go (walked t holds b same numbered e lie)
          where
            go : Left b e at child → refused m (Some v) ≡ first (strand_faults m cells (number, there site is b))
            go (k, stop p, behind, l, n, faults) = impossible e p l
            go (k, next st later, behind, (q, l, ls), n, faults) =
                let here = looked t holds b same numbered k st later behind q l n in
                sym (first_of_both (statement_faults m cells number (there site is b) child st) (statements_faults m cells number (there site is b) (child + forked st) later) _ (sym here ∙ ap (refused m) found)) ∙ faults

        pub walk_more : r ≡ None → (next_child : ℕ) → next_child ≡ min (child + strands) 18446744073709551615 → Walked end next_child
        walk_more none next_child sum t holds b same numbered e lie = go (walked t holds b same numbered e lie)
          where
            go : Left b e at child → Left b e end next_child
            go (k, stop p, behind, l, n, faults) = impossible e p l
            go (k, next st later, behind, (q, l, ls), n, faults) =
                let here = looked t holds b same numbered k st later behind q l n in
                let both = h ∙ ap (mapped statement_extent) (reads st q l) in
                let count = entry_is strands (capped (forked st)) (same_what (Some strands) (Some (capped (forked st))) end q both) in
                let last = same_end (Some strands) (Some (capped (forked st))) end q both in
                let small = strand_small m kept recipe t holds number (there site is b) numbered in
                let room = behind_room (statements_of b) k st later behind in
                let on : child + forked st ≡ next_child = omega (arith, block_room b) in (
                  k + forked st,
                  later,
                  behind_more (statements_of b) k st later behind,
                  subst (λ (j : ℕ). StatementsLie m recipe.file.now later site.forks site.depth j e) (sym last) ls,
                  omega arith,
                  ap (λ (j : ℕ). first (statements_faults m cells number (there site is b) j later)) (sym on)
                      ∙ sym (first_of_second (statement_faults m cells number (there site is b) child st) (statements_faults m cells number (there site is b) (child + forked st) later) (sym here ∙ ap (refused m) none))
                      ∙ faults,
                )
