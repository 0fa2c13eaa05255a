-- What the tests of effects say, in terms of cells. Assumes nothing.
use Rattle.std.proofs.Common.{◌≡◌, ℕ, Bool, true, false, cond, ◌||◌, ◌⊎◌, List, [], ◌∷◌, is_some, Some, None, Option, refl, subst, inl, inr}
use Rattle.std.specs.List.{list_any}
use Rattle.theory.specs.Meaning.{Included, Kept, Meaning, Shared, Tells}
use Rattle.theory.specs.Telling.{tells_as, tells_both}
use Rattle.recipe.specs.declared.record.Mode.{Mode}
use Rattle.recipe.specs.declared.record.Mode.TheVariants.{Reads, Writes}
use Rattle.recipe.specs.Cells.{later, position}
use Rattle.certifier.specs.declared.effect.Effect.{Effect}
use Rattle.certifier.specs.Effects.{access_covered, admits, covered, covers, grants, interference, writes}
use Rattle.certifier.specs.Faults.{unless}
use Rattle.certifier.specs.Lists.{Among}
use Rattle.certifier.specs.Sound.{AccessCovered, Clear, Covered}

tells_itself : (b : Bool) → Tells b (b ≡ true)
tells_itself true = refl
tells_itself false = λ e. absurd cc

tells_either : (a b : Bool) (P Q : Type 0) → Tells a P → Tells b Q → Tells (a || b) (P ⊎ Q)
tells_either true b P Q s t = inl s
tells_either false true P Q s t = inr t
tells_either false false P Q s t = neither
  where
    neither : P ⊎ Q → ⊥
    neither (inl p) = s p
    neither (inr q) = t q

-- a no denies the fact, and where nothing is told the fact holds
pub told_no : (b : Bool) (P : Type 0) → Tells b P → b ≡ false → P → ⊥
told_no true P t e = absurd cc
told_no false P t e = t

pub held : {X : Type 0} (b : Bool) (P : Type 0) (v : X) → Tells b P → (Among v (unless b v) → ⊥) → P
held true P v t silent = t
held false P v t silent = absurd (silent (inl refl))

tells_some : {X : Type 0} (test : X → Bool) (Q : X → Type 0) → ((x : X) → Tells (test x) (Q x)) → (xs : List X) → Tells (list_any test xs) ((x : X) × Among x xs × Q x)
tells_some test Q f [] = λ w. w.1
tells_some {X} test Q f (x ∷ xs) =
    tells_as (test x || list_any test xs) (Q x ⊎ ((y : X) × Among y xs × Q y)) ((y : X) × Among y (x ∷ xs) × Q y) into out
    (tells_either (test x) (list_any test xs) (Q x) ((y : X) × Among y xs × Q y) (f x) (tells_some test Q f xs))
  where
    into : Q x ⊎ ((y : X) × Among y xs × Q y) → (y : X) × Among y (x ∷ xs) × Q y
    into (inl q) = (x, inl refl, q)
    into (inr (y, a, q)) = (y, inr a, q)

    sorted : (y : X) → Among y (x ∷ xs) → Q y → Q x ⊎ ((y : X) × Among y xs × Q y)
    sorted y (inl e) q = inl (subst Q e q)
    sorted y (inr a) q = inr (y, a, q)

    out : (y : X) × Among y (x ∷ xs) × Q y → Q x ⊎ ((y : X) × Among y xs × Q y)
    out (y, a, q) = sorted y a q

found_or : (b : Bool) (o : Option ℕ) → (b || is_some o) ≡ is_some (cond b (Some 0) (later o))
found_or true o = refl
found_or false None = refl
found_or false (Some k) = refl

-- grants is a rule of no regions: it may be taken twice, and what writes is granted by what writes
pub grants_same : (a : Mode) → grants a a ≡ true
grants_same Reads = refl
grants_same Writes = refl

pub grants_twice : (a b c : Mode) → grants a b ≡ true → grants b c ≡ true → grants a c ≡ true
grants_twice Writes b c g h = refl
grants_twice Reads Reads c g h = h
grants_twice Reads Writes c g h = absurd cc

pub writes_granted : (a b c d : Mode) → grants a c ≡ true → grants b d ≡ true → (writes c || writes d) ≡ true → (writes a || writes b) ≡ true
writes_granted Writes b c d g h w = refl
writes_granted Reads Writes c d g h w = refl
writes_granted Reads Reads Reads Reads g h w = w
writes_granted Reads Reads Reads Writes g h w = h
writes_granted Reads Reads Writes d g h w = g

module _ {P R C : Type 0} (m : Meaning P R C) where
  -- covering goes on through effects that are covered, and clear effects stay so
  pub covered_own : (own : List (Effect R)) (e : Effect R) → Among e own → Covered m own e
  covered_own own e a = (e, a, grants_same e.mode, λ x h. h)

  pub covered_through : (own between : List (Effect R)) (e : Effect R) → ((f : Effect R) → Among f between → Covered m own f) → Covered m between e → Covered m own e
  covered_through own between e f (by, a, g, h) =
      let (over, b, i, j) = f by a in
      (over, b, grants_twice over.mode by.mode e.mode i g, λ x w. j x (h x w))

  pub clear_under : (cs ds : List (Effect R)) (e f : Effect R) → ((a b : Effect R) → Among a cs → Among b ds → Clear m a b) → Covered m cs e → Covered m ds f → Clear m e f
  clear_under cs ds e f clear (a, p, g, i) (b, q, h, j) w x s t =
      clear a b p q (writes_granted a.mode b.mode e.mode f.mode g h w) x (i x s) (j x t)

  -- what two effects have to do with one another, by the cell that is told
  abbrev pub Between : Effect R → Effect R → Option m.Point → Type 0
  Between e f None = Clear m e f
  Between e f (Some x) = ((writes e.mode || writes f.mode) ≡ true) × m.In e.region x × m.In f.region x

  module _ (kept : Kept m) where
    tells_covers : (e by : Effect R) → Tells (covers m by e) ((grants by.mode e.mode ≡ true) × Included m e.region by.region)
    tells_covers e by =
        tells_both (grants by.mode e.mode) (m.within e.region by.region) _ _ (tells_itself (grants by.mode e.mode)) (kept.part e.region by.region)

    pub tells_covered : (own : List (Effect R)) (e : Effect R) → Tells (covered m own e) (Covered m own e)
    tells_covered own e =
        tells_as (covered m own e) _ (Covered m own e) (λ w. (w.0, w.1, w.2.0, w.2.1)) (λ w. (w.0, w.1, (w.2, w.3)))
        (tells_some (λ by. covers m by e) (λ by. (grants by.mode e.mode ≡ true) × Included m e.region by.region) (tells_covers e) own)

    tells_admits : (mode : Mode) (x : m.Point) (by : Effect R) → Tells (admits m by mode x) ((grants by.mode mode ≡ true) × m.In by.region x)
    tells_admits mode x by = tells_both (grants by.mode mode) (m.has by.region x) _ _ (tells_itself (grants by.mode mode)) (kept.member by.region x)

    pub tells_access : (own : List (Effect R)) (mode : Mode) (x : m.Point) → Tells (access_covered m own mode x) (AccessCovered m own mode x)
    tells_access own mode x =
        tells_as (access_covered m own mode x) _ (AccessCovered m own mode x) (λ w. (w.0, w.1, w.2.0, w.2.1)) (λ w. (w.0, w.1, (w.2, w.3)))
        (tells_some (λ by. admits m by mode x) (λ by. (grants by.mode mode ≡ true) × m.In by.region x) (tells_admits mode x) own)

    pub tells_listed : (x : m.Point) (cells : List m.Point) → Tells (is_some (position m x cells)) (Among x cells)
    unfolding position
    tells_listed x [] = λ h. h
    tells_listed x (y ∷ cells) =
        subst (λ (b : Bool). Tells b (Among x (y ∷ cells))) (found_or (m.same x y) (position m x cells))
        (tells_either (m.same x y) (is_some (position m x cells)) (x ≡ y) (Among x cells) (kept.alike x y) (tells_listed x cells))

    pub told_between : (e f : Effect R) → Between e f (interference m e f)
    told_between e f = go (writes e.mode || writes f.mode) refl (m.shown e.region f.region) (kept.shows e.region f.region)
      where
        go : (b : Bool) → (writes e.mode || writes f.mode) ≡ b → (o : Option m.Point) → Shared m e.region f.region o → Between e f (cond b o None)
        go true w None s = λ v. s
        go true w (Some x) s = (w, s.0, s.1)
        go false w o s = λ v. absurd cc
