-- What the reader finds at a place is a record that is laid there. Assumes nothing.
use Rattle.std.proofs.Common.{◌≡◌, ℕ, ◌+◌, ◌<◌, ◌≤◌, Bool, true, false, cond, ◌&&◌, eqb, List, [], ◌∷◌, length, Some, Ok, Err, Option, Result, sym, refl, ap, ◌∙◌, subst, arith, ltb-true, leb-true, eqb-true, lt-ltb, le-leb}
use Rattle.theory.specs.declared.fault.Flaw.TheVariants.{TooMany}
use Rattle.theory.specs.declared.fault.PatternFault.{PatternFault}
use Rattle.theory.specs.Meaning.{Meaning}
use Rattle.theory.specs.Reading.{byte}
use Rattle.recipe.specs.declared.kinds.Kind.{Kind}
use Rattle.recipe.specs.declared.kinds.Kind.TheVariants.{Cell, Reads, Writes, Load, Store, Set, Add, Index, When, Less, Cobegin, Foreach, End}
use Rattle.recipe.specs.declared.fault.Fault.{Fault}
use Rattle.recipe.specs.declared.fault.Fault.TheVariants.{NotSingle, Record}
use Rattle.recipe.specs.Kinds.{allowed, between, body_of, has_room, in_limits, kind_in, kind_of, named, register}
use Rattle.recipe.specs.Records.{body, in_pattern, lone, made_of, pattern, record_at, single_pattern, then}
use Rattle.recipe.specs.Layout.{Laid, MayStand, Number, Register}
use Rattle.recipe.specs.Rec.{Operation, Rec, cell, effect, operation, when, fork, end, load, store, set, add, index, less}
use Rattle.recipe.specs.declared.record.Fork.{Fork}
use Rattle.recipe.specs.declared.record.Fork.TheVariants.{Cobegin as CobeginFork, Foreach as ForeachFork}
use Rattle.recipe.specs.declared.record.Mode.TheVariants.{Reads as ReadsMode, Writes as WritesMode}
use Rattle.recipe.specs.declared.head.Spot.{Spot}
use Rattle.recipe.specs.declared.head.Spot.TheVariants.{Cells, Effects, Statements, Guarded}
use Rattle.recipe.specs.Heads.{head}
use Rattle.recipe.proofs.RecordParts.{belongs, head_parts, HeadParts, made_parts, record_belongs}
use Rattle.recipe.proofs.Results.{met, same_end, same_what, then_ok}

-- the byte that stands for a kind
abbrev code_of : Kind → ℕ
code_of Cell = 0x01
code_of Reads = 0x10
code_of Writes = 0x11
code_of Load = 0x20
code_of Store = 0x21
code_of Set = 0x22
code_of Add = 0x23
code_of Index = 0x24
code_of When = 0x25
code_of Less = 0x26
code_of Cobegin = 0x30
code_of Foreach = 0x31
code_of End = 0x3F

abbrev Coded : List (ℕ × Kind) → Type 0
Coded [] = Unit {0}
Coded ((c, k) ∷ rest) = (c ≡ code_of k) × Coded rest

coded_turn : (b c : ℕ) (j k : Kind) (rest : Option Kind) (t : Bool) → eqb b c ≡ t → c ≡ code_of j → (rest ≡ Some k → b ≡ code_of k) → cond t (Some j) rest ≡ Some k → b ≡ code_of k
coded_turn b c j k rest true y same later s = let is : j ≡ k = cc in eqb-true b c y ∙ same ∙ ap code_of is
coded_turn b c j k rest false y same later s = later s

coded_in : (l : List (ℕ × Kind)) → Coded l → (b : ℕ) (k : Kind) → kind_in l b ≡ Some k → b ≡ code_of k
coded_in [] h b k e = absurd cc
coded_in ((c, j) ∷ rest) (same, h) b k e = coded_turn b c j k (kind_in rest b) (eqb b c) refl same (coded_in rest h b k) e

pub coded : (b : ℕ) (k : Kind) → kind_of b ≡ Some k → b ≡ code_of k
unfolding kind_of
coded b k e = coded_in named (refl, (refl, (refl, (refl, (refl, (refl, (refl, (refl, (refl, (refl, (refl, (refl, (refl, tt))))))))))))) b k e

pub kind_at : (b : ℕ) (k : Kind) → b ≡ code_of k → kind_of b ≡ Some k
unfolding kind_of
kind_at b Cell e = rw e
kind_at b Reads e = rw e
kind_at b Writes e = rw e
kind_at b Load e = rw e
kind_at b Store e = rw e
kind_at b Set e = rw e
kind_at b Add e = rw e
kind_at b Index e = rw e
kind_at b When e = rw e
kind_at b Less e = rw e
kind_at b Cobegin e = rw e
kind_at b Foreach e = rw e
kind_at b End e = rw e

both : (a b : Bool) → a && b ≡ true → (a ≡ true) × (b ≡ true)
both true b e = (refl, e)
both false b e = absurd cc

stands_out : {P : Type 0} (spot : Spot) (r : Rec P) → belongs spot r ≡ true → MayStand spot r
stands_out Cells (cell p) h = tt
stands_out Cells (effect mode p) h = absurd cc
stands_out Cells (operation o) h = absurd cc
stands_out Cells (when r) h = absurd cc
stands_out Cells (fork f) h = absurd cc
stands_out Cells end h = absurd cc
stands_out Effects (cell p) h = absurd cc
stands_out Effects (effect mode p) h = tt
stands_out Effects (operation o) h = absurd cc
stands_out Effects (when r) h = absurd cc
stands_out Effects (fork f) h = absurd cc
stands_out Effects end h = absurd cc
stands_out Statements (cell p) h = absurd cc
stands_out Statements (effect mode p) h = absurd cc
stands_out Statements (operation o) h = tt
stands_out Statements (when r) h = tt
stands_out Statements (fork f) h = tt
stands_out Statements end h = tt
stands_out Guarded (cell p) h = absurd cc
stands_out Guarded (effect mode p) h = absurd cc
stands_out Guarded (operation o) h = tt
stands_out Guarded (when r) h = absurd cc
stands_out Guarded (fork f) h = tt
stands_out Guarded end h = absurd cc

-- the kind of a record
abbrev kind_of_operation : {P : Type 0} → Operation P → Kind
kind_of_operation (load r p) = Load
kind_of_operation (store r p) = Store
kind_of_operation (set r v) = Set
kind_of_operation (add t s) = Add
kind_of_operation (index r h) = Index
kind_of_operation (less t l r) = Less

abbrev kind_of_fork : Fork → Kind
kind_of_fork (CobeginFork n) = Cobegin
kind_of_fork (ForeachFork n) = Foreach

abbrev kind_of_record : {P : Type 0} → Rec P → Kind
kind_of_record (cell p) = Cell
kind_of_record (effect ReadsMode p) = Reads
kind_of_record (effect WritesMode p) = Writes
kind_of_record (operation o) = kind_of_operation o
kind_of_record (when r) = When
kind_of_record (fork f) = kind_of_fork f
kind_of_record end = End

operation_in : {P : Type 0} (spot : Spot) (o : Operation P) → MayStand {P = P} spot (operation o) → allowed spot (kind_of_operation o) ≡ true
operation_in Statements (load r p) h = refl
operation_in Statements (store r p) h = refl
operation_in Statements (set r v) h = refl
operation_in Statements (add t s) h = refl
operation_in Statements (index r k) h = refl
operation_in Statements (less t l r) h = refl
operation_in Guarded (load r p) h = refl
operation_in Guarded (store r p) h = refl
operation_in Guarded (set r v) h = refl
operation_in Guarded (add t s) h = refl
operation_in Guarded (index r k) h = refl
operation_in Guarded (less t l r) h = refl
operation_in Cells o h = absurd h
operation_in Effects o h = absurd h

stands_in : {P : Type 0} (spot : Spot) (r : Rec P) → MayStand spot r → allowed spot (kind_of_record r) ≡ true
stands_in Cells (cell p) h = refl
stands_in Cells (effect mode p) h = absurd h
stands_in Cells (operation o) h = absurd h
stands_in Cells (when r) h = absurd h
stands_in Cells (fork f) h = absurd h
stands_in Cells end h = absurd h
stands_in Effects (cell p) h = absurd h
stands_in Effects (effect ReadsMode p) h = refl
stands_in Effects (effect WritesMode p) h = refl
stands_in Effects (operation o) h = absurd h
stands_in Effects (when r) h = absurd h
stands_in Effects (fork f) h = absurd h
stands_in Effects end h = absurd h
stands_in Statements (cell p) h = absurd h
stands_in Statements (effect mode p) h = absurd h
stands_in Statements (operation o) h = operation_in Statements o h
stands_in Statements (when r) h = refl
stands_in Statements (fork (CobeginFork n)) h = refl
stands_in Statements (fork (ForeachFork n)) h = refl
stands_in Statements end h = refl
stands_in Guarded (cell p) h = absurd h
stands_in Guarded (effect mode p) h = absurd h
stands_in Guarded (operation o) h = operation_in Guarded o h
stands_in Guarded (when r) h = absurd h
stands_in Guarded (fork (CobeginFork n)) h = refl
stands_in Guarded (fork (ForeachFork n)) h = refl
stands_in Guarded end h = absurd h

module _ {P R C : Type 0} (m : Meaning P R C) (file : List ℕ) where
  -- a pattern that was read, and one of a single cell
  patterned_out : (depth at : ℕ) (p : P) (e : ℕ) → pattern m file depth at ≡ Ok (p, e) → m.reads file at depth ≡ Ok (p, e)
  patterned_out depth at p e h = go (m.reads file at depth) h
    where
      go : (x : Result (P × ℕ) PatternFault) → in_pattern x ≡ Ok (p, e) → x ≡ Ok (p, e)
      go (Ok (q, n)) i = let same : ◌≡◌ {A = P × ℕ} (q, n) (p, e) = cc in ap Ok same
      go (Err f) i = absurd cc

  single_out : (owner depth at : ℕ) (p : P) (e : ℕ) → single_pattern m file owner depth at ≡ Ok (p, e) → (m.reads file at depth ≡ Ok (p, e)) × (m.single p ≡ true)
  single_out owner depth at p e h =
      let ((q, n), is, only) = then_ok (pattern m file depth at) (lone m file owner) h in
      let (yes_single, same) = met (m.single q) (Ok (q, n)) (NotSingle owner) (p, e) only in
      let z : ◌≡◌ {A = P × ℕ} (q, n) (p, e) = cc in
      (patterned_out depth at p e (is ∙ ap Ok z), ap m.single (sym (ap (λ (w : P × ℕ). w.0) z)) ∙ yes_single)

  patterned_in : (depth at : ℕ) (p : P) (e : ℕ) → m.reads file at depth ≡ Ok (p, e) → pattern m file depth at ≡ Ok (p, e)
  patterned_in depth at p e h = ap in_pattern h

  single_in : (owner depth at : ℕ) (p : P) (e : ℕ) → m.reads file at depth ≡ Ok (p, e) → m.single p ≡ true → single_pattern m file owner depth at ≡ Ok (p, e)
  single_in owner depth at p e h s = rw (h, s)

  -- a number within its limits
  number_out : (at low high : ℕ) → between low high file at ≡ true → Number file at (byte file at) low high
  number_out at low high h = let (a, b) = both _ _ h in (refl, leb-true low (byte file at) a, leb-true (byte file at) high b)

  register_out : (at : ℕ) → register file at ≡ true → Register file at (byte file at)
  register_out at h = let l = ltb-true (byte file at) 4 h in (refl, omega arith, omega arith)

  module _ (forks depth at : ℕ) (r : Rec P) (e : ℕ) where
    laid_as : (made : Rec P) (n : ℕ) → ◌≡◌ {A = Result (Rec P × ℕ) Fault} (Ok (made, n)) (Ok (r, e)) → ((n ≡ e) → Laid m file made forks depth at e) → Laid m file r forks depth at e
    laid_as made n h f = subst (λ (x : Rec P). Laid m file x forks depth at e) (same_what made r n e h) (f (same_end made r n e h))

    laid_owned : (make : P → Rec P) (x : Result (P × ℕ) Fault) → then x (made_of m file make) ≡ Ok (r, e) → ((p : P) → x ≡ Ok (p, e) → Laid m file (make p) forks depth at e) → Laid m file r forks depth at e
    laid_owned make x h f = let (p, is, made) = made_parts m file make x r e h in subst (λ (y : Rec P). Laid m file y forks depth at e) made (f p is)

    body_laid : (k : Kind) → byte file at ≡ code_of k → at + 1 + body_of k ≤ length file → in_limits file k depth at ≡ true → has_room k forks depth ≡ true → body m file k depth at ≡ Ok (r, e) → Laid m file r forks depth at e
    body_laid Cell c u l o h = laid_owned _ (single_pattern m file at depth (at + 1)) h (λ p is. let (x, s) = single_out at depth (at + 1) p e is in (c, ((omega arith, x), s)))
    body_laid Reads c u l o h = laid_owned _ (pattern m file depth (at + 1)) h (λ p is. (c, (omega arith, patterned_out depth (at + 1) p e is)))
    body_laid Writes c u l o h = laid_owned _ (pattern m file depth (at + 1)) h (λ p is. (c, (omega arith, patterned_out depth (at + 1) p e is)))
    body_laid Load c u l o h = laid_owned _ (single_pattern m file at depth (at + 2)) h (λ p is. let (x, s) = single_out at depth (at + 2) p e is in (c, register_out (at + 1) l, ((omega arith, x), s)))
    body_laid Store c u l o h = laid_owned _ (single_pattern m file at depth (at + 2)) h (λ p is. let (x, s) = single_out at depth (at + 2) p e is in (c, register_out (at + 1) l, ((omega arith, x), s)))
    body_laid Set c u l o h = laid_as _ (at + 6) h (λ n. (c, register_out (at + 1) l, refl, (sym n, omega arith)))
    body_laid Add c u l o h = let (a, b) = both _ _ l in laid_as _ (at + 3) h (λ n. (c, register_out (at + 1) a, register_out (at + 2) b, (sym n, omega arith)))
    body_laid Index c u l o h = let (a, b) = both _ _ l in laid_as _ (at + 3) h (λ n. (c, register_out (at + 1) a, number_out (at + 2) 1 depth b, (sym n, omega arith)))
    body_laid When c u l o h = laid_as _ (at + 2) h (λ n. (c, register_out (at + 1) l, (sym n, omega arith)))
    body_laid Less c u l o h =
        let (ab, d) = both _ _ l in
        let (a, b) = both _ _ ab in
        laid_as _ (at + 4) h (λ n. (c, register_out (at + 1) a, register_out (at + 2) b, register_out (at + 3) d, (sym n, omega arith)))
    body_laid Cobegin c u l o h = laid_as _ (at + 2) h (λ n. (c, number_out (at + 1) 2 16 l, ltb-true 0 forks o, (sym n, omega arith)))
    body_laid Foreach c u l o h = let (a, b) = both _ _ o in laid_as _ (at + 2) h (λ n. (c, number_out (at + 1) 1 64 l, ltb-true 0 forks a, ltb-true depth 3 b, (sym n, omega arith)))
    body_laid End c u l o h = laid_as _ (at + 1) h (λ n. (c, (sym n, omega arith)))

  -- what is read is laid there, where it may stand
  pub laid_out : (spot : Spot) (forks depth at : ℕ) (r : Rec P) (e : ℕ) → record_at m file spot forks depth at ≡ Ok (r, e) → MayStand spot r × Laid m file r forks depth at e
  unfolding record_at
  laid_out spot forks depth at r e h =
      let (k, is, rest) = then_ok (head file spot depth at) _ h in
      let (room, made) = met (has_room k forks depth) (body m file k depth at) (Record TooMany at) (r, e) rest in
      let parts : HeadParts file spot depth at k = head_parts file spot depth at k is in
      (stands_out spot r (record_belongs m file spot forks depth at r e h), body_laid forks depth at r e k (coded (byte file at) k parts.known) parts.uncut parts.limited room made)

  -- a number within its limits, and two tests that are met
  number_in : (at n low high : ℕ) → Number file at n low high → between low high file at ≡ true
  number_in at n low high (is, l, h) = let a : low ≤ byte file at = omega arith in let b : byte file at ≤ high = omega arith in rw (le-leb low (byte file at) a, le-leb (byte file at) high b)

  register_in : (at n : ℕ) → Register file at n → register file at ≡ true
  register_in at n (is, l, h) = let a : byte file at < 4 = omega arith in lt-ltb (byte file at) 4 a

  -- what the reader asks of a kind, one test after another
  record Asked (k : Kind) (forks depth at : ℕ) : Type 0 where
    known : byte file at ≡ code_of k
    uncut : at + 1 + body_of k ≤ length file
    limited : in_limits file k depth at ≡ true
    room : has_room k forks depth ≡ true

  module _ (forks depth at e : ℕ) where
    asked : (r : Rec P) → Laid m file r forks depth at e → Asked (kind_of_record r) forks depth at
    asked (cell p) (c, ((l, x), s)) = record { known = c; uncut = omega arith; limited = refl; room = refl }
    asked (effect ReadsMode p) (c, (l, x)) = record { known = c; uncut = omega arith; limited = refl; room = refl }
    asked (effect WritesMode p) (c, (l, x)) = record { known = c; uncut = omega arith; limited = refl; room = refl }
    asked (operation (load r p)) (c, a, ((l, x), s)) = record { known = c; uncut = omega arith; limited = register_in (at + 1) r a; room = refl }
    asked (operation (store r p)) (c, a, ((l, x), s)) = record { known = c; uncut = omega arith; limited = register_in (at + 1) r a; room = refl }
    asked (operation (set r v)) (c, a, w, (n, l)) = record { known = c; uncut = omega arith; limited = register_in (at + 1) r a; room = refl }
    asked (operation (add t s)) (c, a, b, (n, l)) = record { known = c; uncut = omega arith; limited = rw (register_in (at + 1) t a, register_in (at + 2) s b); room = refl }
    asked (operation (index r k)) (c, a, b, (n, l)) = record { known = c; uncut = omega arith; limited = rw (register_in (at + 1) r a, number_in (at + 2) k 1 depth b); room = refl }
    asked (operation (less t x y)) (c, a, b, d, (n, l)) = record { known = c; uncut = omega arith; limited = rw (register_in (at + 1) t a, register_in (at + 2) x b, register_in (at + 3) y d); room = refl }
    asked (when r) (c, a, (n, l)) = record { known = c; uncut = omega arith; limited = register_in (at + 1) r a; room = refl }
    asked (fork (CobeginFork k)) (c, a, f, (n, l)) = record { known = c; uncut = omega arith; limited = number_in (at + 1) k 2 16 a; room = lt-ltb 0 forks f }
    asked (fork (ForeachFork k)) (c, a, f, d, (n, l)) = record { known = c; uncut = omega arith; limited = number_in (at + 1) k 1 64 a; room = rw (lt-ltb 0 forks f, lt-ltb depth 3 d) }
    asked end (c, (n, l)) = record { known = c; uncut = omega arith; limited = refl; room = refl }

    -- the body that the reader makes is that record
    body_in : (r : Rec P) → Laid m file r forks depth at e → body m file (kind_of_record r) depth at ≡ Ok (r, e)
    body_in (cell p) (c, ((l, x), s)) = ap (λ (y : Result (P × ℕ) Fault). then y (made_of m file cell)) (single_in at depth (at + 1) p e x s)
    body_in (effect ReadsMode p) (c, (l, x)) = ap (λ (y : Result (P × ℕ) Fault). then y (made_of m file (effect ReadsMode))) (patterned_in depth (at + 1) p e x)
    body_in (effect WritesMode p) (c, (l, x)) = ap (λ (y : Result (P × ℕ) Fault). then y (made_of m file (effect WritesMode))) (patterned_in depth (at + 1) p e x)
    body_in (operation (load r p)) (c, (a, z, z2), ((l, x), s)) = ap (λ (y : Result (P × ℕ) Fault). then y (made_of m file (λ q. operation (load (byte file (at + 1)) q)))) (single_in at depth (at + 2) p e x s) ∙ (λ i. Ok (operation (load (a i) p), e))
    body_in (operation (store r p)) (c, (a, z, z2), ((l, x), s)) = ap (λ (y : Result (P × ℕ) Fault). then y (made_of m file (λ q. operation (store (byte file (at + 1)) q)))) (single_in at depth (at + 2) p e x s) ∙ (λ i. Ok (operation (store (a i) p), e))
    body_in (operation (set r v)) (c, (a, z, z2), w, (n, l)) = λ i. Ok (operation (set (a i) (w i)), sym n i)
    body_in (operation (add t s)) (c, (a, z, z2), (b, y, y2), (n, l)) = λ i. Ok (operation (add (a i) (b i)), sym n i)
    body_in (operation (index r k)) (c, (a, z, z2), (b, y, y2), (n, l)) = λ i. Ok (operation (index (a i) (b i)), sym n i)
    body_in (operation (less t x y)) (c, (a, z, z2), (b, w, w2), (d, v, v2), (n, l)) = λ i. Ok (operation (less (a i) (b i) (d i)), sym n i)
    body_in (when r) (c, (a, z, z2), (n, l)) = λ i. Ok (when (a i), sym n i)
    body_in (fork (CobeginFork k)) (c, (a, z, z2), f, (n, l)) = λ i. Ok (fork (CobeginFork (a i)), sym n i)
    body_in (fork (ForeachFork k)) (c, (a, z, z2), f, d, (n, l)) = λ i. Ok (fork (ForeachFork (a i)), sym n i)
    body_in end (c, (n, l)) = λ i. Ok (end, sym n i)

    -- what is laid there, where it may stand, is read
    pub laid_in : (spot : Spot) (r : Rec P) → MayStand spot r → Laid m file r forks depth at e → record_at m file spot forks depth at ≡ Ok (r, e)
    unfolding record_at head
    laid_in spot r s h =
        let q = asked r h in
        let w : at < length file = omega (arith, q.uncut) in
        rw (lt-ltb at (length file) w, kind_at (byte file at) (kind_of_record r) q.known, stands_in spot r s, le-leb (at + 1 + body_of (kind_of_record r)) (length file) q.uncut, q.limited, q.room)
        (body_in r h)
