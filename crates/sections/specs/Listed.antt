-- Going through the cells one by one answers membership, inclusion and sharing. Assumes nothing.
use Rattle.std.specs.Prelude.{◌≡◌, ℕ, zero, suc, ◌+◌, ◌*◌, ◌<◌, Bool, true, false, cond, ◌&&◌, ◌||◌, Some, None, Option, ◌≢◌, nat_eq}
use Rattle.std.proofs.Common.{subst, mul-zero, mul-suc}
use native.Mathlib.Omega.{arith}
use Rattle.std.specs.List.{list_any, list_all, find}
use Rattle.theory.specs.Meaning.{Tells}
use Rattle.theory.specs.Telling.{tells_eqb}
use Rattle.sections.specs.declared.section.Section.{Section}
use Rattle.sections.specs.Cells.{Among, In, Included, LeastBoth, LeastShared, cells_from, has, within, shown}

-- the first of n + 1 cells, and the others
here : (n f s : ℕ) → Among f s (suc n) f
here n f s = (0, (omega arith, omega (arith, mul-zero s)))

further : (n f s x : ℕ) → Among (f + s) s n x → Among f s (suc n) x
further n f s x (t, (l, e)) = (suc t, (omega arith, omega (arith, mul-suc s t)))

split : (n f s x : ℕ) → (x ≢ f) → Among f s (suc n) x → Among (f + s) s n x
split n f s x other (zero, (l, e)) = absurd (other (omega (arith, mul-zero s)))
split n f s x other (suc t, (l, e)) = (t, (omega arith, omega (arith, mul-suc s t)))

has_turn : (n f s x : ℕ) (a b : Bool) → Tells a (x ≡ f) → Tells b (Among (f + s) s n x) → Tells (a || b) (Among f s (suc n) x)
has_turn n f s x true b e h = rw e (here n f s)
has_turn n f s x false true e h = further n f s x h
has_turn n f s x false false e h = λ i. h (split n f s x e i)

among_tells : (n f s x : ℕ) → Tells (list_any (nat_eq x) (cells_from n f s)) (Among f s n x)
unfolding cells_from
among_tells zero f s x = λ (t, (l, e)). omega arith
among_tells (suc n) f s x = has_turn n f s x _ _ (tells_eqb x f (λ e. e) (λ e. e)) (among_tells n (f + s) s x)

pub has_tells : (s : Section) (x : ℕ) → Tells (has s x) (In s x)
unfolding has
has_tells s x = among_tells s.count s.first s.step x

-- a test that tells Q, put to each cell
module _ (Q : ℕ → Type 0) (test : ℕ → Bool) (tells : (x : ℕ) → Tells (test x) (Q x)) where
  all_turn : (n f s : ℕ) (a b : Bool) → Tells a (Q f) → Tells b ((x : ℕ) → Among (f + s) s n x → Q x) → Tells (a && b) ((x : ℕ) → Among f s (suc n) x → Q x)
  all_turn n f s true true q h = λ x (t, (l, e)). go x t l e
    where
      go : (x t : ℕ) → t < suc n → x ≡ f + s * t → Q x
      go x zero l e = let z : f ≡ x = omega (arith, mul-zero s) in subst Q z q
      go x (suc t) l e = h x (t, (omega arith, omega (arith, mul-suc s t)))
  all_turn n f s true false q h = λ every. h (λ x i. every x (further n f s x i))
  all_turn n f s false b q h = λ every. q (every f (here n f s))

  all_tells : (n f s : ℕ) → Tells (list_all test (cells_from n f s)) ((x : ℕ) → Among f s n x → Q x)
  unfolding cells_from
  all_tells zero f s = λ x (t, (l, e)). absurd (omega arith)
  all_tells (suc n) f s = all_turn n f s _ _ (tells f) (all_tells n (f + s) s)

  past : (n f s : ℕ) → (Q f → ⊥) → (o : Option ℕ) → LeastBoth (Among (f + s) s n) Q o → LeastBoth (Among f s (suc n)) Q o
  past n f s other None h = λ x i q. h x (split n f s x (λ e. other (subst Q e q)) i) q
  past n f s other (Some x) (p, (q, l)) = (further n f s x p, (q, λ y i w. l y (split n f s y (λ e. other (subst Q e w)) i) w))

  find_turn : (n f s : ℕ) (a : Bool) (o : Option ℕ) → Tells a (Q f) → LeastBoth (Among (f + s) s n) Q o → LeastBoth (Among f s (suc n)) Q (cond a (Some f) o)
  find_turn n f s true o q h = (here n f s, (q, λ y (t, (l, e)) w. omega arith))
  find_turn n f s false o q h = past n f s q o h

  find_least : (n f s : ℕ) → LeastBoth (Among f s n) Q (find test (cells_from n f s))
  unfolding cells_from
  find_least zero f s = λ x (t, (l, e)) q. omega arith
  find_least (suc n) f s = find_turn n f s _ _ (tells f) (find_least n (f + s) s)

pub within_tells : (a b : Section) → Tells (within a b) (Included a b)
unfolding within
within_tells a b = all_tells (In b) (has b) (has_tells b) a.count a.first a.step

pub shown_least : (a b : Section) → LeastShared a b (shown a b)
unfolding shown
shown_least a b = find_least (In b) (has b) (has_tells b) a.count a.first a.step
