-- The search for a strand, turn by turn. Assumes nothing.
use Rattle.std.proofs.Common.{◌≡◌, ℕ, zero, suc, ◌+◌, ◌-◌, ◌*◌, ◌/◌, ◌%◌, ◌<◌, ◌≤◌, true, ◌⊎◌, List, ◌++◌, length, set, Some, None, Ok, Err, Option, Result, sym, refl, ap, ◌∙◌, inl, inr, mul-le-mul_right, mod-lt, mod-eq_of_lt, suc-mul, mul_comm, zero-mul, arith, le-leb}
use native.Mathlib.Nat.{mod-eq-sub-mod, div-add-mod, div-eq_of_lt, div-eq-sub-div}
use Rattle.std.proofs.lemmas.Bool.{cases_lt}
use borrow.Author.Tests.{lt-leb}
use Rattle.theory.specs.Meaning.{Meaning}
use Rattle.recipe.specs.declared.fault.Fault.{Fault}
use Rattle.recipe.specs.Blocks.{block_at, branches, inner, statement, statements, effects, forking}
use Rattle.recipe.specs.Tree.{Block, Blocks, none, Statement, Statements, size, branched, forked, sizes, block, foreach}
use Rattle.recipe.specs.declared.site.Site.{Site}
use Rattle.recipe.specs.Cells.{at_number, unfilled}
use Rattle.strands.specs.Strands.{each, strands_beside, strands_in, strands_of, strands_under}
use Rattle.strands.proofs.Counting.{at_first, at_past, at_second, of_length, under_length}
use Rattle.recipe.specs.declared.extent.Extent.{Extent}
use Rattle.recipe.specs.declared.outline.Outline.{Outline}
use Rattle.recipe.specs.declared.outline.Outline.TheVariants.{Operation as OperationOutline, When as WhenOutline, Fork as ForkOutline, End as EndOutline, Other as OtherOutline}
use Rattle.recipe.specs.declared.record.Fork.{Fork}
use Rattle.recipe.specs.declared.record.Fork.TheVariants.{Cobegin, Foreach}
use Rattle.recipe.specs.declared.head.Spot.TheVariants.{Statements as InBlock, Guarded}
use Rattle.recipe.specs.Records.{mapped as over, record_at}
use Rattle.recipe.specs.Extents.{capped, ending, extent, statement_extent}
use Rattle.recipe.specs.Kinds.{roomy}
use Rattle.recipe.specs.Outlines.{outlined}
use Rattle.recipe.proofs.RingLaws.{branches_none, inner_less, some_forks}
use Rattle.recipe.proofs.Results.{by_ok, was_err, same_what}
use Rattle.std.specs.Option.{option_map}
use Rattle.strands.specs.Finding.{FoundInBlock, FoundInBranches, FoundInFork, FoundInStatement, FoundInStatements, FoundUnder}
use Rattle.strands.specs.Located.{found_in, located, strand_at}
use Rattle.recipe.proofs.Parts.{block_parts, branches_further, cobegin_parts, foreach_parts, StatementParts, statement_parts, statement_read, statements_further, UnderParts, under_parts, under_read}

module _ {P R C : Type 0} (m : Meaning P R C) (file : List ℕ) (site : Site) (is : List ℕ) where
  -- what is left of a list of blocks holds the strand, under what is left of its number
  abbrev pub LeftBeside : (count number blocks at left : ℕ) → Type 0
  LeftBeside count number blocks at left =
      (bs : Blocks P) (e : ℕ) → branches m file (block_at m file site.forks) count site.depth site.place ≡ Ok (bs, e) → branched bs ≤ 1024 → number < branched bs →
      (rest : Blocks P) × (branches m file (block_at m file site.forks) blocks site.depth at ≡ Ok (rest, e)) × (branched rest ≤ 1024) × (left < branched rest)
      × (at_number (strands_beside rest site.forks site.depth is) left ≡ at_number (strands_beside bs site.forks site.depth is) number)

  -- the same of a list of statements
  abbrev pub LeftIn : (number at left : ℕ) → Type 0
  LeftIn number at left =
      (ss : Statements P) (fuel e : ℕ) → statements m file (inner m file site.forks) site.forks site.depth fuel site.place ≡ Ok (ss, e) → sizes ss ≤ 1024 → number < sizes ss →
      (rest : Statements P) × (f : ℕ) × (statements m file (inner m file site.forks) site.forks site.depth f at ≡ Ok (rest, e)) × (sizes rest ≤ 1024) × (left < sizes rest)
      × (at_number (strands_in rest site.forks site.depth is) left ≡ at_number (strands_in ss site.forks site.depth is) number)

-- a number among equal parts falls into the part of its quotient, at its remainder
each_at : {X : Type 0} (n i s k : ℕ) (f : ℕ → List X) → 0 < s → ((j : ℕ) → length (f j) ≡ s) → k < n * s → at_number (each n i f) k ≡ at_number (f (i + k / s)) (k % s)
each_at zero i s k f p h l = absurd (omega (arith, zero-mul s))
each_at (suc n) i s k f p h l = go (λ c. each_at n (suc i) s (k - s) f p h (omega (arith, suc-mul n s))) (cases_lt k s)
  where
    go : (s ≤ k → at_number (each n (suc i) f) (k - s) ≡ at_number (f (suc i + (k - s) / s)) ((k - s) % s)) → (k < s) ⊎ (s ≤ k) → at_number (f i ++ each n (suc i) f) k ≡ at_number (f (i + k / s)) (k % s)
    go later (inl c) =
        let e : i ≡ i + k / s = omega (arith, div-eq_of_lt c) in
        at_first (f i) (each n (suc i) f) k (omega (arith, h i)) ∙ (λ t. at_number (f (e t)) (sym (mod-eq_of_lt c) t))
    go later (inr c) =
        let e : suc i + (k - s) / s ≡ i + k / s = omega (arith, div-eq-sub-div p c) in
        let d : k - length (f i) ≡ k - s = omega (arith, h i) in
        at_second (f i) (each n (suc i) f) k (omega (arith, h i))
        ∙ ap (at_number (each n (suc i) f)) d
        ∙ later c
        ∙ (λ t. at_number (f (e t)) (sym (mod-eq-sub-mod c) t))

-- a number falls into the first part of a list, or into what is behind it
module _ {X : Type 0} (head rest all : List X) (whole : all ≡ head ++ rest) (n : ℕ) (len : length head ≡ n) (left : ℕ) where
  in_head : left < n → at_number head left ≡ at_number all left
  in_head l = sym (at_first head rest left (omega arith)) ∙ ap (λ (xs : List X). at_number xs left) (sym whole)

  behind_head : n ≤ left → at_number rest (left - n) ≡ at_number all left
  behind_head l = ap (at_number rest) (omega arith) ∙ sym (at_second head rest left (omega arith)) ∙ ap (λ (xs : List X). at_number xs left) (sym whole)

some_strand : {P : Type 0} (b : Block P) → 0 < size b
some_strand (block at es ss) = omega arith

-- what is read and what is known of it are the same
no_both : {A B : Type 0} (g : A → B) (x : Result A Fault) (f : Fault) (a : A) → Err f ≡ over g x → x ≡ Ok a → ⊥
no_both g x f a e h = let k : Err f ≡ over g (Ok a) = e ∙ ap (over g) h in cc

image : {A B : Type 0} (g : A → B) (x : Result A Fault) (y : B) (a : A) → Ok y ≡ over g x → x ≡ Ok a → y ≡ g a
image g x y a e h = let k : Ok y ≡ over g (Ok a) = e ∙ ap (over g) h in cc

module _ {P R C : Type 0} (m : Meaning P R C) (file : List ℕ) (site : Site) (is : List ℕ) (number : ℕ) where
  -- a block
  pub block_itself : number ≡ 0 → FoundInBlock m file site is number (Some (site, is))
  unfolding strands_of
  block_itself z b e h l k =
      let p = block_parts m file site.forks site.depth site.place b e h in rw (p.whole, z)

  pub block_bad : (f : Fault) → Err f ≡ over ending (effects m file 16 site.depth site.place) → (r : Option (Site × List ℕ)) → FoundInBlock m file site is number r
  block_bad f u r b e h l k =
      let p = block_parts m file site.forks site.depth site.place b e h in
      absurd (no_both ending (effects m file 16 site.depth site.place) f (p.es, p.from) u p.effects_are)

  pub block_inside : (q : ℕ) (r : Option (Site × List ℕ)) → (number ≡ 0 → ⊥) → Ok q ≡ over ending (effects m file 16 site.depth site.place) →
      FoundInStatements m file (record { place = q; forks = site.forks; depth = site.depth }) is (number - 1) r → FoundInBlock m file site is number r
  unfolding strands_of
  block_inside q r nz u found b e h l k =
      let p = block_parts m file site.forks site.depth site.place b e h in
      let at : q ≡ p.from = image ending (effects m file 16 site.depth site.place) q (p.es, p.from) u p.effects_are in
      let w = ap size p.whole in
      let n : number ≡ suc (number - 1) = omega arith in
      let inner_found = found p.ss (suc (length file)) e
      (ap (λ (i : ℕ). statements m file (inner m file site.forks) site.forks site.depth (suc (length file)) i) at ∙ p.statements_are) (omega arith) (omega arith) in
      inner_found
      ∙ ap (λ (i : ℕ). option_map located (at_number (strands_of (block site.place p.es p.ss) site.forks site.depth is) i)) (sym n)
      ∙ ap (λ (x : Block P). option_map located (at_number (strands_of x site.forks site.depth is) number)) (sym p.whole)

  -- statements
  abbrev here : ℕ → Site
  here at = record { place = at; forks = site.forks; depth = site.depth }

  abbrev read_at : ℕ → Result (Option (Statement P) × ℕ) Fault
  read_at at = statement m file (inner m file site.forks) site.forks site.depth at

  module _ (at left : ℕ) (inv : LeftIn m file site is number at left) where
    -- no statement is read
    pub statements_over : (x : Result (Option ℕ × ℕ) Fault) → x ≡ over statement_extent (read_at at) → ((n q : ℕ) → x ≡ Ok (Some n, q) → ⊥) → (r : Option (Site × List ℕ)) →
        FoundInStatements m file site is number r
    statements_over x u other r ss fuel e h l k =
        let w = inv ss fuel e h l k in
        let x = statements_further m file (inner m file site.forks) site.forks site.depth w.1 at w.0 e left w.2 w.4 in
        absurd (other (capped (forked x.s)) x.from (u ∙ ap (over statement_extent) x.statement_is))

    module _ (n q : ℕ) (o : Option ℕ) (some : o ≡ Some n) (given : Ok (o, q) ≡ over statement_extent (read_at at)) where
      u : Ok (Some n, q) ≡ over statement_extent (read_at at)
      u = ap (λ (o : Option ℕ). Ok (o, q)) (sym some) ∙ given

      -- the statement that was measured
      measured : (s : Statement P) (from : ℕ) → read_at at ≡ Ok (Some s, from) → (n ≡ capped (forked s)) × (q ≡ from)
      measured s from d =
          let z = image statement_extent (read_at at) (Some n, q) (Some s, from) u d in
          (let y : ◌≡◌ {A = Option ℕ} (Some n) (Some (capped (forked s))) = ap (λ (p : Option ℕ × ℕ). p.0) z in cc, ap (λ (p : Option ℕ × ℕ). p.1) z)

      pub statements_here : (r : Option (Site × List ℕ)) → left < n → FoundInStatement m file (here at) is left r → FoundInStatements m file site is number r
      unfolding strands_in
      statements_here r c found ss fuel e h l k =
          let (rest, f, reads, few, low, same) = inv ss fuel e h l k in
          let x = statements_further m file (inner m file site.forks) site.forks site.depth f at rest e left reads low in
          let d = measured x.s x.from x.statement_is in
          let z = ap sizes x.whole in
          found x.s x.from x.statement_is (omega arith) (omega arith)
          ∙ ap (option_map located) (in_head (strands_under x.s site.forks site.depth is) (strands_in x.rest site.forks site.depth is) (strands_in rest site.forks site.depth is)
          (ap (λ (y : Statements P). strands_in y site.forks site.depth is) x.whole) (forked x.s) (under_length x.s site.forks site.depth is) left (omega arith) ∙ same)

      pub statements_again : n ≤ left → LeftIn m file site is number q (left - n)
      unfolding strands_in
      statements_again c ss fuel e h l k =
          let (rest, f, reads, few, low, same) = inv ss fuel e h l k in
          let x = statements_further m file (inner m file site.forks) site.forks site.depth f at rest e left reads low in
          let d = measured x.s x.from x.statement_is in
          let z = ap sizes x.whole in
          let all : n ≡ forked x.s = omega arith in (
            x.rest,
            f - 1,
            ap (λ (i : ℕ). statements m file (inner m file site.forks) site.forks site.depth (f - 1) i) d.1 ∙ x.rest_is,
            omega arith,
            omega arith,
            behind_head (strands_under x.s site.forks site.depth is) (strands_in x.rest site.forks site.depth is) (strands_in rest site.forks site.depth is)
                (ap (λ (y : Statements P). strands_in y site.forks site.depth is) x.whole) n (under_length x.s site.forks site.depth is ∙ sym all) left c ∙ same,
          )

  -- blocks one after another
  abbrev block_read : ℕ → Result (Block P × ℕ) Fault
  block_read at = block_at m file site.forks site.depth at

  module _ (count blocks at left : ℕ) (inv : LeftBeside m file site is count number blocks at left) where
    pub branches_end : blocks ≤ 0 → (r : Option (Site × List ℕ)) → FoundInBranches m file site is number r count
    branches_end z r bs e h l k =
        let w = inv bs e h l k in
        let x = sym (branches_none m file (block_at m file site.forks) site.depth blocks at z) ∙ w.1 in
        let y = ap branched (same_what none w.0 at e x) in
        let g = w.3 in
        absurd (omega arith)

    pub branches_bad : (f : Fault) → Err f ≡ over (extent size) (block_read at) → (r : Option (Site × List ℕ)) → FoundInBranches m file site is number r count
    branches_bad f u r bs e h l k =
        let w = inv bs e h l k in
        let x = branches_further m file (block_at m file site.forks) blocks site.depth at w.0 e left w.1 w.3 in
        absurd (no_both (extent size) (block_read at) f (x.b, x.from) u x.block_is)

    module _ (y : Extent) (u : Ok y ≡ over (extent size) (block_read at)) where
      pub branches_here : (r : Option (Site × List ℕ)) → left < y.strands → FoundInBlock m file (here at) is left r → FoundInBranches m file site is number r count
      unfolding strands_beside
      branches_here r c found bs e h l k =
          let (rest, reads, few, low, same) = inv bs e h l k in
          let x = branches_further m file (block_at m file site.forks) blocks site.depth at rest e left reads low in
          let d = ap (λ (v : Extent). v.strands) (image (extent size) (block_read at) y (x.b, x.from) u x.block_is) in
          let z = ap branched x.whole in
          found x.b x.from x.block_is (omega arith) (omega arith)
          ∙ ap (option_map located) (in_head (strands_of x.b site.forks site.depth is) (strands_beside x.rest site.forks site.depth is) (strands_beside rest site.forks site.depth is)
          (ap (λ (v : Blocks P). strands_beside v site.forks site.depth is) x.whole) (size x.b) (of_length x.b site.forks site.depth is) left (omega arith) ∙ same)

      pub branches_again : (next : ℕ) → next + 1 ≡ blocks → y.strands ≤ left → LeftBeside m file site is count number next y.end (left - y.strands)
      unfolding strands_beside
      branches_again next more c bs e h l k =
          let (rest, reads, few, low, same) = inv bs e h l k in
          let x = branches_further m file (block_at m file site.forks) blocks site.depth at rest e left reads low in
          let v = image (extent size) (block_read at) y (x.b, x.from) u x.block_is in
          let d = ap (λ (v : Extent). v.strands) v in
          let z = ap branched x.whole in
          let one : next ≡ blocks - 1 = omega arith in
          let all : y.strands ≡ size x.b = omega arith in (
            x.rest,
            (λ i. branches m file (block_at m file site.forks) (one i) site.depth (v i).end) ∙ x.rest_is,
            omega arith,
            omega arith,
            behind_head (strands_of x.b site.forks site.depth is) (strands_beside x.rest site.forks site.depth is) (strands_beside rest site.forks site.depth is)
                (ap (λ (v : Blocks P). strands_beside v site.forks site.depth is) x.whole) y.strands (of_length x.b site.forks site.depth is ∙ sym all) left c ∙ same,
          )

  -- a fork, whose first block stands at the site
  module _ (f : Fork) (roomed : roomy f site.forks site.depth ≡ true) where
    pub fork_cobegin : (n : ℕ) (r : Option (Site × List ℕ)) → f ≡ Cobegin n → FoundInBranches m file (record { place = site.place; forks = site.forks - 1; depth = site.depth }) is number r n →
        FoundInFork m file site is number r f
    unfolding strands_under
    fork_cobegin n r d found s at e h l k =
        let h' : forking m file (block_at m file (site.forks - 1)) site.depth at (Cobegin n) site.place ≡ Ok (s, e) =
        (λ i. forking m file (sym (inner_less m file site.forks (some_forks m file f site.forks site.depth roomed)) i) site.depth at (sym d i) site.place) ∙ h in
        let p = cobegin_parts m file (block_at m file (site.forks - 1)) site.depth at n site.place s e h' in
        let z = ap forked p.2 in
        found p.0 e p.1 (omega arith) (omega arith)
        ∙ ap (λ (x : Statement P). option_map located (at_number (strands_under x site.forks site.depth is) number)) (sym p.2)

    module _ (n : ℕ) (d : f ≡ Foreach n) where
      abbrev inside_read : Result (Block P × ℕ) Fault
      inside_read = block_at m file (site.forks - 1) (site.depth + 1) site.place

      parted : (s : Statement P) (at e : ℕ) → forking m file (inner m file site.forks) site.depth at f site.place ≡ Ok (s, e) →
          (b : Block P) × (inside_read ≡ Ok (b, e)) × (s ≡ foreach at n b)
      parted s at e h =
          foreach_parts m file (block_at m file (site.forks - 1)) site.depth at n site.place s e
          ((λ i. forking m file (sym (inner_less m file site.forks (some_forks m file f site.forks site.depth roomed)) i) site.depth at (sym d i) site.place) ∙ h)

      pub fork_bad : (u : Fault) → Err u ≡ over (extent size) inside_read → (r : Option (Site × List ℕ)) → FoundInFork m file site is number r f
      fork_bad u c r s at e h l k = let p = parted s at e h in absurd (no_both (extent size) inside_read u (p.0, e) c p.1)

      module _ (y : Extent) (c : Ok y ≡ over (extent size) inside_read) where
        pub fork_empty : y.strands ≡ 0 → (r : Option (Site × List ℕ)) → FoundInFork m file site is number r f
        fork_empty z r s at e h l k =
            let p = parted s at e h in
            let w = ap (λ (v : Extent). v.strands) (image (extent size) inside_read y (p.0, e) c p.1) in
            let g = some_strand p.0 in
            absurd (omega arith)

        -- the block is as large as it was measured
        sized : (b : Block P) (e : ℕ) → inside_read ≡ Ok (b, e) → n * size b ≤ 1024 → number < n * size b → (y.strands ≡ size b) × (size b ≤ 1024)
        sized b e d l k = go n l k
          where
            w : y.strands ≡ capped (size b)
            w = ap (λ (v : Extent). v.strands) (image (extent size) inside_read y (b, e) c d)

            go : (j : ℕ) → j * size b ≤ 1024 → number < j * size b → (y.strands ≡ size b) × (size b ≤ 1024)
            go zero a z = absurd (omega (arith, zero-mul (size b)))
            go (suc j) a z = let t = suc-mul j (size b) in (omega (arith, w), omega arith)

        pub fork_past : n ≤ number / y.strands → (r : Option (Site × List ℕ)) → FoundInFork m file site is number r f
        fork_past z r s at e h l k =
            let p = parted s at e h in
            let w = ap forked p.2 in
            let g = sized p.0 e p.1 (omega arith) (omega arith) in
            let t : n * y.strands ≤ number / y.strands * y.strands = mul-le-mul_right y.strands z in
            let v = ap (λ (i : ℕ). n * i) g.0 in
            absurd (omega (arith, div-add-mod number y.strands, mul_comm y.strands (number / y.strands)))

        pub fork_foreach : (r : Option (Site × List ℕ)) → (y.strands ≡ 0 → ⊥) →
            FoundInBlock m file (record { place = site.place; forks = site.forks - 1; depth = site.depth + 1 }) (set is site.depth (number / y.strands)) (number % y.strands) r → FoundInFork m file site is number r f
        unfolding strands_under
        fork_foreach r nz found s at e h l k =
            let p = parted s at e h in
            let w = ap forked p.2 in
            let g = sized p.0 e p.1 (omega arith) (omega arith) in
            let pos : 0 < y.strands = omega arith in
            let less = mod-lt number pos in
            let v = ap (λ (i : ℕ). n * i) g.0 in
            let within : number < n * y.strands = omega arith in
            let zero_on : 0 + number / y.strands ≡ number / y.strands = omega arith in
            found p.0 e p.1 g.1 (omega (arith, g.0))
            ∙ ap (option_map located)
            (ap (λ (i : ℕ). at_number (strands_of p.0 (site.forks - 1) (site.depth + 1) (set is site.depth i)) (number % y.strands)) (sym zero_on)
            ∙ sym (each_at n 0 y.strands number (λ i. strands_of p.0 (site.forks - 1) (site.depth + 1) (set is site.depth i)) pos
            (λ i. of_length p.0 (site.forks - 1) (site.depth + 1) (set is site.depth i) ∙ sym g.0) within)
            ∙ ap (λ (x : Statement P). at_number (strands_under x site.forks site.depth is) number) (sym p.2))

  -- a statement, by the outline of its record
  pub under_fork : (o : Outline) (q : ℕ) (f : Fork) (r : Option (Site × List ℕ)) → o ≡ ForkOutline f → Ok (o, q) ≡ over outlined (record_at m file Guarded site.forks site.depth site.place) →
      FoundInFork m file (here q) is number r f → FoundUnder m file site is number r
  under_fork o q f r is_fork c found s e h l k =
      found s site.place e (under_parts m file (inner m file site.forks) site.forks site.depth site.place s e (ForkOutline f, q) h (ap (λ (o : Outline). Ok (o, q)) (sym is_fork) ∙ c)) l k

  pub under_none : (o : Outline) (q : ℕ) → ((f : Fork) → o ≡ ForkOutline f → ⊥) → Ok (o, q) ≡ over outlined (record_at m file Guarded site.forks site.depth site.place) →
      (r : Option (Site × List ℕ)) → FoundUnder m file site is number r
  under_none o q nay c r s e h l k = go o nay (under_parts m file (inner m file site.forks) site.forks site.depth site.place s e (o, q) h c)
    where
      go : (o : Outline) → ((f : Fork) → o ≡ ForkOutline f → ⊥) → UnderParts m file (inner m file site.forks) site.forks site.depth site.place s e (o, q) →
          r ≡ option_map located (at_number (strands_under s site.forks site.depth is) number)
      go OperationOutline nay p = absurd (omega arith)
      go WhenOutline nay p = absurd p
      go (ForkOutline f) nay p = absurd (nay f refl)
      go EndOutline nay p = absurd p
      go OtherOutline nay p = absurd p

  pub statement_when : (o : Outline) (q : ℕ) (r : Option (Site × List ℕ)) → o ≡ WhenOutline → Ok (o, q) ≡ over outlined (record_at m file InBlock site.forks site.depth site.place) →
      FoundUnder m file (here q) is number r → FoundInStatement m file site is number r
  unfolding strands_under
  statement_when o q r is_when c found s e h l k =
      let p = statement_parts m file (inner m file site.forks) site.forks site.depth site.place s e (WhenOutline, q) h (ap (λ (o : Outline). Ok (o, q)) (sym is_when) ∙ c) in
      let z = ap forked p.3 in
      found p.1 e p.2 (omega arith) (omega arith)
      ∙ ap (λ (x : Statement P). option_map located (at_number (strands_under x site.forks site.depth is) number)) (sym p.3)

  pub statement_fork : (o : Outline) (q : ℕ) (f : Fork) (r : Option (Site × List ℕ)) → o ≡ ForkOutline f → Ok (o, q) ≡ over outlined (record_at m file InBlock site.forks site.depth site.place) →
      FoundInFork m file (here q) is number r f → FoundInStatement m file site is number r
  statement_fork o q f r is_fork c found s e h l k =
      found s site.place e (statement_parts m file (inner m file site.forks) site.forks site.depth site.place s e (ForkOutline f, q) h (ap (λ (o : Outline). Ok (o, q)) (sym is_fork) ∙ c)) l k

  pub statement_none : (o : Outline) (q : ℕ) → (o ≡ WhenOutline → ⊥) → ((f : Fork) → o ≡ ForkOutline f → ⊥) → Ok (o, q) ≡ over outlined (record_at m file InBlock site.forks site.depth site.place) →
      (r : Option (Site × List ℕ)) → FoundInStatement m file site is number r
  statement_none o q nay noy c r s e h l k = go o nay noy (statement_parts m file (inner m file site.forks) site.forks site.depth site.place s e (o, q) h c)
    where
      go : (o : Outline) → (o ≡ WhenOutline → ⊥) → ((f : Fork) → o ≡ ForkOutline f → ⊥) → StatementParts m file (inner m file site.forks) site.forks site.depth site.place s e (o, q) →
          r ≡ option_map located (at_number (strands_under s site.forks site.depth is) number)
      go OperationOutline nay noy p = absurd (omega arith)
      go WhenOutline nay noy p = absurd (nay refl)
      go (ForkOutline f) nay noy p = absurd (noy f refl)
      go EndOutline nay noy p = absurd p
      go OtherOutline nay noy p = absurd p

  pub under_bad : (u : Fault) → Err u ≡ over outlined (record_at m file Guarded site.forks site.depth site.place) → (r : Option (Site × List ℕ)) → FoundUnder m file site is number r
  under_bad u c r s e h l k =
      let p = under_read m file (inner m file site.forks) site.forks site.depth site.place s e h in
      absurd (no_both outlined (record_at m file Guarded site.forks site.depth site.place) u p.0 c p.1)

  pub statement_bad : (u : Fault) → Err u ≡ over outlined (record_at m file InBlock site.forks site.depth site.place) → (r : Option (Site × List ℕ)) → FoundInStatement m file site is number r
  statement_bad u c r s e h l k =
      let p = statement_read m file (inner m file site.forks) site.forks site.depth site.place s e h in
      absurd (no_both outlined (record_at m file InBlock site.forks site.depth site.place) u p.0 c p.1)

-- the root block
module _ {P R C : Type 0} (m : Meaning P R C) (file : List ℕ) (root number : ℕ) where
  abbrev root_read : Result (Block P × ℕ) Fault
  root_read = block_at m file 6 0 root

  pub root_bad : (f : Fault) → Err f ≡ over (extent size) root_read → None ≡ strand_at m file root number
  unfolding strand_at
  root_bad f e = rw (was_err (extent size) root_read f e)

  module _ (y : Extent) (e : Ok y ≡ over (extent size) root_read) where
    pub root_large : 1024 < y.strands → None ≡ strand_at m file root number
    unfolding strand_at
    root_large h =
        by_ok (extent size) (λ r y. 1024 < y.strands → None ≡ found_in number r)
        (λ (b, q) k. let l : 1024 < size b = omega arith in rw (lt-leb (size b) 1024 l)) root_read y e h

    pub root_past : y.strands ≤ 1024 → y.strands ≤ number → None ≡ strand_at m file root number
    unfolding strand_at
    root_past s h =
        by_ok (extent size) (λ r y. y.strands ≤ 1024 → y.strands ≤ number → None ≡ found_in number r)
        (λ (b, q) s k.
        let l : size b ≤ 1024 = omega arith in
        rw (le-leb (size b) 1024 l) (ap (option_map located) (sym (at_past (strands_of b 6 0 unfilled) number (omega (arith, of_length b 6 0 unfilled))))))
        root_read y e s h

    pub root_found : (r : Option (Site × List ℕ)) → y.strands ≤ 1024 → number < y.strands →
        FoundInBlock m file (record { place = root; forks = 6; depth = 0 }) unfilled number r → r ≡ strand_at m file root number
    unfolding strand_at
    root_found r s h found =
        by_ok (extent size) (λ x y. x ≡ root_read → y.strands ≤ 1024 → number < y.strands → r ≡ found_in number x)
        (λ (b, q) w s k.
        let l : size b ≤ 1024 = omega arith in
        let n : number < size b = omega arith in
        rw (le-leb (size b) 1024 l) (found b q (sym w) l n))
        root_read y e refl s h

-- the file and the place of its root are those of the recipe
pub moved : {P R C : Type 0} (m : Meaning P R C) (file file' : List ℕ) (root root' number : ℕ) (r : Option (Site × List ℕ)) → file ≡ file' → root ≡ root' → r ≡ strand_at m file root number → r ≡ strand_at m file' root' number
moved m file file' root root' number r p q e = e ∙ (λ i. strand_at m (p i) (q i) number)
