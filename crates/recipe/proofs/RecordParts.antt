-- What a record that was read consists of, where it may stand, and where it ends. Assumes nothing.
use Rattle.std.proofs.Common.{◌≡◌, ℕ, ◌+◌, ◌<◌, ◌≤◌, Bool, true, ltb, leb, List, length, Some, None, Ok, Err, Option, Result, sym, refl, ap, ◌∙◌, subst, arith, ltb-true, leb-true}
use Rattle.theory.specs.declared.fault.Flaw.TheVariants.{Cut, Kind as KindFlaw, Limit, TooMany}
use Rattle.theory.specs.declared.fault.PatternFault.{PatternFault}
use Rattle.theory.specs.Meaning.{Inside, Kept, Meaning}
use Rattle.theory.specs.Reading.{byte}
use Rattle.recipe.proofs.HeadLaws.{begins_some}
use Rattle.recipe.specs.declared.fault.Fault.{Fault}
use Rattle.recipe.specs.declared.fault.Fault.TheVariants.{NotSingle, Record}
use Rattle.recipe.specs.declared.head.Spot.{Spot}
use Rattle.recipe.specs.declared.kinds.Kind.{Kind}
use Rattle.recipe.specs.declared.kinds.Kind.TheVariants.{Cell, Reads, Writes, Load, Store, Set, Add, Index, When, Less, Cobegin, Foreach, End}
use Rattle.recipe.specs.declared.record.Fork.{Fork}
use Rattle.recipe.specs.Extents.{EndsBehind}
use Rattle.recipe.specs.Heads.{begins, head, whole}
use Rattle.recipe.specs.Kinds.{allowed, body_of, has_room, in_block, in_cells, in_effects, in_limits, in_statement, kind_of, roomy}
use Rattle.recipe.specs.Rec.{Rec, cell, effect, operation, when, fork, end}
use Rattle.recipe.specs.Records.{body, in_pattern, lone, made_of, pattern, record_at, single_pattern, then}
use Rattle.recipe.proofs.RecordLaws.{record_roomy}
use Rattle.recipe.proofs.Results.{met, same_end, same_tree, same_what, then_ok}

-- whether a record may stand at a spot, by what it is
abbrev pub belongs : {P : Type 0} → Spot → Rec P → Bool
belongs spot (cell p) = in_cells spot
belongs spot (effect mode p) = in_effects spot
belongs spot (operation o) = in_statement spot
belongs spot (when r) = in_block spot
belongs spot (fork f) = in_statement spot
belongs spot end = in_block spot

-- the head
module _ (file : List ℕ) (spot : Spot) (depth at : ℕ) where
  pub record HeadParts (k : Kind) : Type 0 where
    pub within : at < length file
    pub known : kind_of (byte file at) ≡ Some k
    pub placed : allowed spot k ≡ true
    pub uncut : at + 1 + body_of k ≤ length file
    pub limited : in_limits file k depth at ≡ true

  pub head_parts : (k : Kind) → head file spot depth at ≡ Ok k → HeadParts k
  unfolding head
  head_parts k h =
      let (l, w) = met (ltb at (length file)) _ _ k h in go (ltb-true at (length file) l) (kind_of (byte file at)) refl w
    where
      go : at < length file → (o : Option Kind) → kind_of (byte file at) ≡ o → whole file spot depth at o ≡ Ok k → HeadParts k
      go l None e w = absurd cc
      go l (Some j) e w =
          let (a, v) = met (allowed spot j) _ (Record KindFlaw at) k w in
          let (c, u) = met (leb (at + 1 + body_of j) (length file)) _ (Record Cut at) k v in
          let (i, t) = met (in_limits file j depth at) (Ok j) (Record Limit at) k u in
          subst HeadParts (same_tree j k t) (record { within = l; known = e; placed = a; uncut = leb-true (at + 1 + body_of j) (length file) c; limited = i })

module _ {P R C : Type 0} (m : Meaning P R C) (file : List ℕ) where
  -- what a pattern was made into
  pub made_parts : (make : P → Rec P) (x : Result (P × ℕ) Fault) (r : Rec P) (e : ℕ) → then x (made_of m file make) ≡ Ok (r, e) → (p : P) × (x ≡ Ok (p, e)) × (make p ≡ r)
  made_parts make x r e h =
      let ((p, after), is, made) = then_ok x (made_of m file make) h in
      (p, is ∙ ap (λ (n : ℕ). Ok (p, n)) (same_end (make p) r after e made), same_what (make p) r after e made)

  module _ (depth at : ℕ) (r : Rec P) (e : ℕ) (other : Spot) where
    belongs_made : (make : P → Rec P) (x : Result (P × ℕ) Fault) → then x (made_of m file make) ≡ Ok (r, e) → (p : P) × (belongs other r ≡ belongs other (make p))
    belongs_made make x h = let (p, is, same) = made_parts make x r e h in (p, ap (belongs other) (sym same))

    belongs_as : (made : Rec P) (after : ℕ) → ◌≡◌ {A = Result (Rec P × ℕ) Fault} (Ok (made, after)) (Ok (r, e)) → belongs other r ≡ belongs other made
    belongs_as made after h = ap (belongs other) (sym (same_what made r after e h))

    -- a record may stand where its kind may
    body_belongs : (k : Kind) → body m file k depth at ≡ Ok (r, e) → belongs other r ≡ allowed other k
    body_belongs Cell h = (belongs_made _ (single_pattern m file at depth (at + 1)) h).1
    body_belongs Reads h = (belongs_made _ (pattern m file depth (at + 1)) h).1
    body_belongs Writes h = (belongs_made _ (pattern m file depth (at + 1)) h).1
    body_belongs Load h = (belongs_made _ (single_pattern m file at depth (at + 2)) h).1
    body_belongs Store h = (belongs_made _ (single_pattern m file at depth (at + 2)) h).1
    body_belongs Set h = belongs_as _ _ h
    body_belongs Add h = belongs_as _ _ h
    body_belongs Index h = belongs_as _ _ h
    body_belongs When h = belongs_as _ _ h
    body_belongs Less h = belongs_as _ _ h
    body_belongs Cobegin h = belongs_as _ _ h
    body_belongs Foreach h = belongs_as _ _ h
    body_belongs End h = belongs_as _ _ h

  module _ (kept : Kept m) where
    pattern_ends : (depth at : ℕ) (p : P) (e : ℕ) → at ≤ length file → pattern m file depth at ≡ Ok (p, e) → EndsBehind file at e
    pattern_ends depth at p e l h = go (m.reads file at depth) (kept.inside file at depth l) h
      where
        go : (x : Result (P × ℕ) PatternFault) → Inside file at x → in_pattern x ≡ Ok (p, e) → EndsBehind file at e
        go (Ok (q, n)) i h = let s = same_end q p n e h in (omega arith, omega arith)
        go (Err f) i h = absurd cc

    single_ends : (owner depth at : ℕ) (p : P) (e : ℕ) → at ≤ length file → single_pattern m file owner depth at ≡ Ok (p, e) → EndsBehind file at e
    single_ends owner depth at p e l h =
        let ((q, n), is, only) = then_ok (pattern m file depth at) (lone m file owner) h in
        let (yes_single, same) = met (m.single q) (Ok (q, n)) (NotSingle owner) (p, e) only in
        let s = same_end q p n e same in
        let (low, high) = pattern_ends depth at q n l is in
        (omega arith, omega arith)

    module _ (depth at : ℕ) (r : Rec P) (e : ℕ) where
      owned : (make : P → Rec P) (n : ℕ) (x : Result (P × ℕ) Fault) → at < n → ((p : P) → x ≡ Ok (p, e) → EndsBehind file n e) → then x (made_of m file make) ≡ Ok (r, e) → EndsBehind file at e
      owned make n x l f h = let (p, is, same) = made_parts make x r e h in let (low, high) = f p is in (omega arith, high)

      fixed : (made : Rec P) (n : ℕ) → EndsBehind file at n → ◌≡◌ {A = Result (Rec P × ℕ) Fault} (Ok (made, n)) (Ok (r, e)) → EndsBehind file at e
      fixed made n (low, high) h = let s = same_end made r n e h in (omega arith, omega arith)

      body_ends : (k : Kind) → at + 1 + body_of k ≤ length file → body m file k depth at ≡ Ok (r, e) → EndsBehind file at e
      body_ends Cell l h = owned _ (at + 1) (single_pattern m file at depth (at + 1)) (omega arith) (λ p is. single_ends at depth (at + 1) p e (omega arith) is) h
      body_ends Reads l h = owned _ (at + 1) (pattern m file depth (at + 1)) (omega arith) (λ p is. pattern_ends depth (at + 1) p e (omega arith) is) h
      body_ends Writes l h = owned _ (at + 1) (pattern m file depth (at + 1)) (omega arith) (λ p is. pattern_ends depth (at + 1) p e (omega arith) is) h
      body_ends Load l h = owned _ (at + 2) (single_pattern m file at depth (at + 2)) (omega arith) (λ p is. single_ends at depth (at + 2) p e (omega arith) is) h
      body_ends Store l h = owned _ (at + 2) (single_pattern m file at depth (at + 2)) (omega arith) (λ p is. single_ends at depth (at + 2) p e (omega arith) is) h
      body_ends Set l h = fixed _ (at + 6) (omega arith) h
      body_ends Add l h = fixed _ (at + 3) (omega arith) h
      body_ends Index l h = fixed _ (at + 3) (omega arith) h
      body_ends When l h = fixed _ (at + 2) (omega arith) h
      body_ends Less l h = fixed _ (at + 4) (omega arith) h
      body_ends Cobegin l h = fixed _ (at + 2) (omega arith) h
      body_ends Foreach l h = fixed _ (at + 2) (omega arith) h
      body_ends End l h = fixed _ (at + 1) (omega arith) h

  module _ (spot : Spot) (forks depth at : ℕ) (r : Rec P) (e : ℕ) (h : record_at m file spot forks depth at ≡ Ok (r, e)) where
    record_parts : (k : Kind) × HeadParts file spot depth at k × (body m file k depth at ≡ Ok (r, e))
    unfolding record_at
    record_parts =
        let (k, is, rest) = then_ok (head file spot depth at) _ h in
        let (room, whole) = met (has_room k forks depth) (body m file k depth at) (Record TooMany at) (r, e) rest in
        (k, head_parts file spot depth at k is, whole)

    -- it may stand where it stands
    pub record_belongs : belongs spot r ≡ true
    record_belongs = let (k, parts, whole) = record_parts in body_belongs depth at r e spot k whole ∙ parts.placed

    -- a record begins there at just the spots where it may stand
    pub record_begins : (other : Spot) → begins file other at ≡ belongs other r
    record_begins other =
        let (k, parts, whole) = record_parts in
        sym (begins_some file other at parts.within k parts.known) ∙ sym (body_belongs depth at r e other k whole)

    -- it ends after its place and within the file
    pub record_ends : Kept m → EndsBehind file at e
    record_ends kept = let (k, parts, whole) = record_parts in body_ends kept depth at r e k parts.uncut whole

  -- a fork that stands has room
  pub fork_room : (spot : Spot) (forks depth at : ℕ) (f : Fork) (e : ℕ) → record_at m file spot forks depth at ≡ Ok (fork f, e) → roomy f forks depth ≡ true
  fork_room spot forks depth at f e h = record_roomy m file forks depth at spot (fork f) e (sym h)
