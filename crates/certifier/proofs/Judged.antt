-- What each way through a statement finds. Assumes nothing.
use Rattle.std.proofs.Common.{◌≡◌, ℕ, List, map, Ok, Err, Option, sym, ap, ◌∙◌, subst}
use Rattle.theory.specs.Meaning.{Meaning}
use Rattle.recipe.specs.declared.fault.Fault.{Fault}
use Rattle.recipe.specs.declared.head.Spot.{Spot}
use Rattle.recipe.specs.declared.head.Spot.TheVariants.{Statements as InBlock, Guarded}
use Rattle.recipe.specs.declared.outline.Outline.{Outline}
use Rattle.recipe.specs.declared.outline.Outline.TheVariants.{Fork as ForkOutline, When as WhenOutline}
use Rattle.recipe.specs.declared.record.Fork.{Fork}
use Rattle.recipe.specs.declared.record.Fork.TheVariants.{Cobegin, Foreach}
use Rattle.recipe.specs.Outlines.{outline_of, outlined}
use Rattle.recipe.specs.Rec.{Rec, fork, operation, when}
use Rattle.recipe.specs.Records.{mapped, record_at}
use Rattle.recipe.proofs.RecordParts.{record_belongs}
use Rattle.recipe.proofs.Results.{same_tree, same_what}
use Rattle.recipe.specs.declared.recipe.Recipe.{Recipe}
use Rattle.recipe.specs.Tree.{Statement, simple, guarded, cobegin, foreach}
use Rattle.recipe.specs.WellFormed.{StatementLies, block_count}
use Rattle.recipe.proofs.Lying.{no_result}
use Rattle.recipe.specs.declared.site.Site.{Site}
use Rattle.certifier.specs.declared.effect.Effect.{Effect}
use Rattle.certifier.specs.declared.refusal.Refusal.{Refusal}
use Rattle.certifier.specs.Faults.{family_faults, numbered_children, stated, statement_faults}
use Rattle.certifier.specs.Lists.{first}
use Rattle.certifier.specs.Refusals.{refused}
use Rattle.certifier.proofs.Siblings.{branches_many, instances_many}
use Rattle.certifier.specs.Walks.{Bare, Family, ForkJudged, StatementJudged, fork_count, there}

module _ {P R C : Type 0} (m : Meaning P R C) (recipe : Recipe) (cells : List m.Point) (own : List (Effect R)) (number : ℕ) (site : Site) (is : List ℕ) where
  module _ (spot : Spot) (at n : ℕ) where
    abbrev Found : Option (Refusal C) → Type 0
    Found r = StatementJudged m recipe cells own number site is Bare spot at n r

    record_there : (st : Statement P) (e : ℕ) → StatementLies m recipe.file.now st spot site.forks site.depth at e →
        (r : Rec P) × (q : ℕ) × (record_at m recipe.file.now spot site.forks site.depth at ≡ Ok (r, q))
    record_there (simple place o) e (p, h) = (operation o, e, h)
    record_there (guarded place r s) e (q, p, h, l) = (when r, q, h)
    record_there (cobegin place bs) e (q, p, h, l) = (fork (Cobegin (block_count bs)), q, h)
    record_there (foreach place k b) e (q, p, h, l) = (fork (Foreach k), q, h)

    module _ (x : Rec P) (q : ℕ) (file : List ℕ) (its : file ≡ recipe.file.now) (reads : Ok (x, q) ≡ record_at m file spot site.forks site.depth at) where
      is_the : (y : Rec P) (e : ℕ) → record_at m recipe.file.now spot site.forks site.depth at ≡ Ok (y, e) → x ≡ y
      is_the y e h = same_what x y q e (reads ∙ ap (λ (f : List ℕ). record_at m f spot site.forks site.depth at) its ∙ h)

      fork_is : (f k : Fork) (e : ℕ) → ForkOutline f ≡ outline_of x → record_at m recipe.file.now spot site.forks site.depth at ≡ Ok (fork k, e) → f ≡ k
      fork_is f k e o h = let z : ForkOutline f ≡ ForkOutline k = o ∙ ap outline_of (is_the (fork k) e h) in cc

      pub found_fork : (f : Fork) → ForkOutline f ≡ outline_of x → (count : ℕ) → count ≡ fork_count f → (r : Option (Refusal C)) → ForkJudged m recipe own count n r → Found r
      found_fork f o count counted r judged t holds b same st e bare lie family = go st bare lie family
        where
          go : (st : Statement P) → Bare st → StatementLies m recipe.file.now st spot site.forks site.depth at e → Family m t n (numbered_children (there site is b) n st) →
              refused m r ≡ first (statement_faults m cells number (there site is b) n st)
          go (simple place o1) bare (p0, h) family = let z = o ∙ ap outline_of (is_the (operation o1) e h) in absurd cc
          go (guarded place k s) bare lie family = absurd bare
          go (cobegin place bs) bare (q1, p0, h, l) family =
              judged t holds (numbered_children (there site is b) n (cobegin place bs)) family (branches_many (there site is b) n place bs ∙ sym (counted ∙ ap fork_count (fork_is f (Cobegin (block_count bs)) q1 o h)))
              ∙ ap (λ (es : List (Effect R)). first (family_faults m es (map (stated m) (numbered_children (there site is b) n (cobegin place bs))))) same
          go (foreach place k b1) bare (q1, p0, h, l) family =
              judged t holds (numbered_children (there site is b) n (foreach place k b1)) family (instances_many (there site is b) n place k b1 ∙ sym (counted ∙ ap fork_count (fork_is f (Foreach k) q1 o h)))
              ∙ ap (λ (es : List (Effect R)). first (family_faults m es (map (stated m) (numbered_children (there site is b) n (foreach place k b1))))) same

  -- a statement under a When is bare
  bare_under : (st : Statement P) (at e : ℕ) → StatementLies m recipe.file.now st Guarded site.forks site.depth at e → Bare st
  bare_under (simple place o) at e lie = tt
  bare_under (guarded place r s) at e (q, p, h, l) = let z = record_belongs m recipe.file.now Guarded site.forks site.depth at (when r) q h in absurd cc
  bare_under (cobegin place bs) at e lie = tt
  bare_under (foreach place k b) at e lie = tt

  module _ (at n : ℕ) where
    abbrev Whole : Option (Refusal C) → Type 0
    Whole r = StatementJudged m recipe cells own number site is (λ st. Unit {0}) InBlock at n r

    pub whole_nothing : (f : Fault) (file : List ℕ) → file ≡ recipe.file.now → Err f ≡ mapped outlined (record_at m file InBlock site.forks site.depth at) → (r : Option (Refusal C)) → Whole r
    whole_nothing f file its h r t holds b same st e bare lie family =
        let (x, q, k) = record_there InBlock at n st e lie in
        no_result f (outlined (x, q)) (h ∙ ap (λ (f : List ℕ). mapped outlined (record_at m f InBlock site.forks site.depth at)) its ∙ ap (mapped outlined) k)

    outline_at : (y : Outline × ℕ) (x : Rec P) (q : ℕ) → Ok y ≡ mapped outlined (record_at m recipe.file.now InBlock site.forks site.depth at) →
        record_at m recipe.file.now InBlock site.forks site.depth at ≡ Ok (x, q) → y ≡ (outline_of x, q)
    outline_at y x q h k = same_tree y (outline_of x, q) (h ∙ ap (mapped outlined) k)

    pub whole_guarded : (o : Outline) (end : ℕ) (file : List ℕ) → file ≡ recipe.file.now → o ≡ WhenOutline → Ok (o, end) ≡ mapped outlined (record_at m file InBlock site.forks site.depth at) →
        (r : Option (Refusal C)) → Found Guarded end n r → Whole r
    whole_guarded o end file its guards reads r found t holds b same st e bare lie family = go st lie family
      where
        h : Ok (WhenOutline, end) ≡ mapped outlined (record_at m recipe.file.now InBlock site.forks site.depth at)
        h = ap (λ (o : Outline). Ok (o, end)) (sym guards) ∙ reads ∙ ap (λ (f : List ℕ). mapped outlined (record_at m f InBlock site.forks site.depth at)) its

        go : (st : Statement P) → StatementLies m recipe.file.now st InBlock site.forks site.depth at e → Family m t n (numbered_children (there site is b) n st) →
            refused m r ≡ first (statement_faults m cells number (there site is b) n st)
        go (simple place o) (p0, k) family = let z = ap (λ (y : Outline × ℕ). y.0) (outline_at (WhenOutline, end) (operation o) e h k) in absurd cc
        go (guarded place g s) (q, p0, k, l) family =
            let ends = ap (λ (y : Outline × ℕ). y.1) (outline_at (WhenOutline, end) (when g) q h k) in
            let under = subst (λ (j : ℕ). StatementLies m recipe.file.now s Guarded site.forks site.depth j e) (sym ends) l in
            found t holds b same s e (bare_under s end e under) under family
        go (cobegin place bs) (q, p0, k, l) family = let z = ap (λ (y : Outline × ℕ). y.0) (outline_at (WhenOutline, end) (fork (Cobegin (block_count bs))) q h k) in absurd cc
        go (foreach place c b1) (q, p0, k, l) family = let z = ap (λ (y : Outline × ℕ). y.0) (outline_at (WhenOutline, end) (fork (Foreach c)) q h k) in absurd cc
