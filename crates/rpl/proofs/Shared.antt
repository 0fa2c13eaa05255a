-- Sharing is exact, and shows at most 22 keys. Assumes nothing.
use Rattle.std.proofs.Common.{◌≡◌, ℕ, suc, ◌+◌, ◌<◌, ◌≤◌, Bool, true, false, cond, eqb, ltb, ◌⊎◌, List, [], ◌∷◌, length, Some, None, Option, sym, refl, ◌∙◌, inl, inr, arith}
use Rattle.theory.specs.Meaning.{Tells}
use Rattle.theory.specs.Telling.{tells_eqb, tells_ltb}
use Rattle.rpl.specs.declared.element.Key.{Key}
use Rattle.rpl.specs.declared.element.Key.TheVariants.{Named, Indexed}
use Rattle.rpl.specs.declared.element.Part.{Part}
use Rattle.rpl.specs.declared.element.Part.TheVariants.{Name, Index, AnyIndex}
use Rattle.rpl.specs.declared.element.Element.{Element}
use Rattle.rpl.specs.declared.element.Element.TheVariants.{Star, One}
use Rattle.rpl.specs.Paths.{Cells, Stands, done, more, one, skip}
use Rattle.rpl.specs.Sharing.{AtMost, InBoth, Shows, common, common_cons, common_key, common_nil, either, in_front, in_front_if, key_of, meeting}

-- one key
pub key_of_in : (a : Part) → Stands a (key_of a)
key_of_in (Name a) = refl
key_of_in (Index a) = refl
key_of_in AnyIndex = tt

abbrev Met : Part → Part → Option Key → Type 0
Met a b None = (e : Key) → Stands a e → Stands b e → ⊥
Met a b (Some k) = Stands a k × Stands b k

name_not_index : (a : ℕ) (b : Part) → ((c : ℕ) → Stands b (Named c) → ⊥) → (e : Key) → Stands (Name a) e → Stands b e → ⊥
name_not_index a b n (Named c) h k = n c k
name_not_index a b n (Indexed c) h k = h

common_key_met : (a b : Part) → Met a b (common_key a b)
common_key_met (Name a) (Name b) = go (eqb a b) (tells_eqb a b (λ e. e) (λ e. e))
  where
    apart : (a ≡ b → ⊥) → (e : Key) → Stands (Name a) e → Stands (Name b) e → ⊥
    apart n (Named c) h k = n (h ∙ sym k)
    apart n (Indexed c) h k = h

    go : (t : Bool) → Tells t (a ≡ b) → Met (Name a) (Name b) (cond t (Some (Named a)) None)
    go true h = (refl, sym h)
    go false n = apart n
common_key_met (Name a) (Index b) = name_not_index a (Index b) (λ c h. h)
common_key_met (Name a) AnyIndex = name_not_index a AnyIndex (λ c h. h)
common_key_met (Index a) (Name b) = λ e h k. name_not_index b (Index a) (λ c z. z) e k h
common_key_met (Index a) (Index b) = go (eqb a b) (tells_eqb a b (λ e. e) (λ e. e))
  where
    apart : (a ≡ b → ⊥) → (e : Key) → Stands (Index a) e → Stands (Index b) e → ⊥
    apart n (Named c) h k = h
    apart n (Indexed c) h k = n (h ∙ sym k)

    go : (t : Bool) → Tells t (a ≡ b) → Met (Index a) (Index b) (cond t (Some (Indexed a)) None)
    go true h = (refl, sym h)
    go false n = apart n
common_key_met (Index a) AnyIndex = (refl, tt)
common_key_met AnyIndex (Name b) = λ e h k. name_not_index b AnyIndex (λ c z. z) e k h
common_key_met AnyIndex (Index b) = (tt, refl)
common_key_met AnyIndex AnyIndex = (tt, tt)

-- some cell of a set
abbrev Some_of : (List Key → Type 0) → Type 0
Some_of P = (w : List Key) × P w

-- an answer for a set of cells from answers for sets that its cells come from
module _ {P R : List Key → Type 0} (from : (w : List Key) → R w → Some_of P) where
  same_shows : (o : Option (List Key)) → Shows P o → ((w : List Key) → P w → R w) → Shows R o
  same_shows None h f = λ w r. let v = from w r in h v.0 v.1
  same_shows (Some u) h f = f u h

  front_shows : (k : Key) (o : Option (List Key)) → Shows P o → ((w : List Key) → P w → R (k ∷ w)) → Shows R (in_front k o)
  front_shows k None h f = λ w r. let v = from w r in h v.0 v.1
  front_shows k (Some u) h f = f u h

module _ {P Q R : List Key → Type 0} (from : (w : List Key) → R w → Some_of P ⊎ Some_of Q) where
  neither : Shows P None → Shows Q None → Shows R None
  neither h k = λ w r. elim (from w r) [ inl v ↦ h v.0 v.1 | inr v ↦ k v.0 v.1 ]

  either_shows : (o u : Option (List Key)) → Shows P o → Shows Q u → ((w : List Key) → P w → R w) → ((w : List Key) → Q w → R w) → Shows R (either o u)
  either_shows None None h k f g = neither h k
  either_shows None (Some v) h k f g = g v k
  either_shows (Some v) u h k f g = f v h

  either_front_shows : (e : Key) (o u : Option (List Key)) → Shows P o → Shows Q u → ((w : List Key) → P w → R w) → ((w : List Key) → Q w → R (e ∷ w)) →
      Shows R (either o (in_front e u))
  either_front_shows e None None h k f g = neither h k
  either_front_shows e None (Some v) h k f g = g v k
  either_front_shows e (Some v) u h k f g = f v h

-- a shared cell comes from one that what is left shares
star_star : {p q : List Element} (w : List Key) → Cells (Star ∷ p) w → Cells (Star ∷ q) w → Some_of (InBoth p (Star ∷ q)) ⊎ Some_of (InBoth (Star ∷ p) q)
star_star w (skip c) d = inl (w, (c, d))
star_star w (more c) (skip d) = inr (w, (more c, d))
star_star (e ∷ w) (more c) (more d) = star_star w c d

star_one : {p q : List Element} {b : Part} (w : List Key) → Cells (Star ∷ p) w → Cells (One b ∷ q) w → Some_of (InBoth p (One b ∷ q)) ⊎ Some_of (InBoth (Star ∷ p) q)
star_one w (skip c) d = inl (w, (c, d))
star_one (e ∷ w) (more c) (one t d) = inr (w, (c, d))

one_star : {p q : List Element} {a : Part} (w : List Key) → Cells (One a ∷ p) w → Cells (Star ∷ q) w → Some_of (InBoth (One a ∷ p) q) ⊎ Some_of (InBoth p (Star ∷ q))
one_star w c (skip d) = inl (w, (c, d))
one_star (e ∷ w) (one t c) (more d) = inr (w, (c, d))

one_one : {p q : List Element} {a b : Part} (w : List Key) → Cells (One a ∷ p) w → Cells (One b ∷ q) w → ((e : Key) × Stands a e × Stands b e) × Some_of (InBoth p q)
one_one [] c d = elim c [ ]
one_one (e ∷ w) (one s c) (one t d) = ((e, s, t), (w, (c, d)))

nil_star : {q : List Element} (w : List Key) → Cells [] w → Cells (Star ∷ q) w → Some_of (InBoth [] q)
nil_star w done (skip d) = ([], (done, d))

star_nil : {p : List Element} (w : List Key) → Cells (Star ∷ p) w → Cells [] w → Some_of (InBoth p [])
star_nil w (skip c) done = ([], (c, done))
star_nil w (more c) d = elim d [ ]

nil_one : {q : List Element} {b : Part} (w : List Key) → Cells [] w → Cells (One b ∷ q) w → ⊥
nil_one [] c d = elim d [ ]
nil_one (e ∷ w) c d = elim c [ ]

one_one_shows : (p q : List Element) (a b : Part) (m : Option Key) (o : Option (List Key)) → Met a b m → Shows (InBoth p q) o → Shows (InBoth (One a ∷ p) (One b ∷ q)) (in_front_if m o)
one_one_shows p q a b None o h k = λ w m. let t = (one_one w m.0 m.1).0 in h t.0 t.1 t.2
one_one_shows p q a b (Some e) o h k = front_shows (λ w m. (one_one w m.0 m.1).1) e o k (λ w m. (one h.0 m.0, one h.1 m.1))

meeting_shows : (p q : List Element) (a b : Element) (left right both : Option (List Key)) →
    Shows (InBoth p (b ∷ q)) left → Shows (InBoth (a ∷ p) q) right → Shows (InBoth p q) both → Shows (InBoth (a ∷ p) (b ∷ q)) (meeting a b left right both)
meeting_shows p q Star Star left right both l r g =
    either_shows (λ w m. star_star w m.0 m.1) left right l r (λ w m. (skip m.0, m.1)) (λ w m. (m.0, skip m.1))
meeting_shows p q Star (One b) left right both l r g =
    either_front_shows (λ w m. star_one w m.0 m.1) (key_of b) left right l r (λ w m. (skip m.0, m.1)) (λ w m. (more m.0, one (key_of_in b) m.1))
meeting_shows p q (One a) Star left right both l r g =
    either_front_shows (λ w m. one_star w m.0 m.1) (key_of a) right left r l (λ w m. (m.0, skip m.1)) (λ w m. (one (key_of_in a) m.0, more m.1))
meeting_shows p q (One a) (One b) left right both l r g = one_one_shows p q a b (common_key a b) both (common_key_met a b) g

nil_shows : (q : List Element) → Shows (InBoth [] q) (common_nil q)
nil_shows [] = (done, done)
nil_shows (Star ∷ q) = same_shows (λ w m. nil_star w m.0 m.1) (common_nil q) (nil_shows q) (λ w m. (m.0, skip m.1))
nil_shows (One b ∷ q) = λ w m. nil_one w m.0 m.1

cons_shows : (a : Element) (p : List Element) (next : List Element → Option (List Key)) → ((q : List Element) → Shows (InBoth p q) (next q)) →
    (q : List Element) → Shows (InBoth (a ∷ p) q) (common_cons a next q)
cons_shows Star p next h [] = same_shows (λ w m. star_nil w m.0 m.1) (next []) (h []) (λ w m. (skip m.0, m.1))
cons_shows (One a) p next h [] = λ w m. nil_one w m.1 m.0
cons_shows a p next h (b ∷ q) = meeting_shows p q a b (next (b ∷ q)) (common_cons a next q) (next q) (h (b ∷ q)) (cons_shows a p next h q) (h q)

pub common_shows : (p q : List Element) → Shows (InBoth p q) (common p q)
common_shows [] q = nil_shows q
common_shows (a ∷ p) q = cons_shows a p (common p) (common_shows p) q

-- the shown cell has at most a key for each part of the two paths
abbrev parts : List Element → ℕ
parts [] = 0
parts (Star ∷ p) = parts p
parts (One a ∷ p) = suc (parts p)

at_most_more : (o : Option (List Key)) (n m : ℕ) → n ≤ m → AtMost n o → AtMost m o
at_most_more None n m l h = tt
at_most_more (Some u) n m l h = omega arith

front_few : (k : Key) (o : Option (List Key)) (n : ℕ) → AtMost n o → AtMost (suc n) (in_front k o)
front_few k None n h = tt
front_few k (Some u) n h = omega arith

either_few : (o u : Option (List Key)) (n : ℕ) → AtMost n o → AtMost n u → AtMost n (either o u)
either_few None u n h k = k
either_few (Some w) u n h k = h

front_if_few : (m : Option Key) (o : Option (List Key)) (n : ℕ) → AtMost n o → AtMost (suc n) (in_front_if m o)
front_if_few None o n h = tt
front_if_few (Some k) o n h = front_few k o n h

meeting_few : (p q : List Element) (a b : Element) (left right both : Option (List Key)) →
    AtMost (parts p + parts (b ∷ q)) left → AtMost (parts (a ∷ p) + parts q) right → AtMost (parts p + parts q) both →
    AtMost (parts (a ∷ p) + parts (b ∷ q)) (meeting a b left right both)
meeting_few p q Star Star left right both l r g = either_few left right _ l r
meeting_few p q Star (One b) left right both l r g =
    either_few left (in_front (key_of b) right) _ l (at_most_more _ _ _ (omega arith) (front_few (key_of b) right _ r))
meeting_few p q (One a) Star left right both l r g =
    either_few right (in_front (key_of a) left) _ r (at_most_more _ _ _ (omega arith) (front_few (key_of a) left _ l))
meeting_few p q (One a) (One b) left right both l r g = at_most_more (in_front_if (common_key a b) both) _ _ (omega arith) (front_if_few (common_key a b) both _ g)

nil_few : (q : List Element) → AtMost (parts q) (common_nil q)
nil_few [] = omega arith
nil_few (Star ∷ q) = nil_few q
nil_few (One b ∷ q) = tt

cons_few : (a : Element) (p : List Element) (next : List Element → Option (List Key)) → ((q : List Element) → AtMost (parts p + parts q) (next q)) →
    (q : List Element) → AtMost (parts (a ∷ p) + parts q) (common_cons a next q)
cons_few Star p next h [] = h []
cons_few (One a) p next h [] = tt
cons_few a p next h (b ∷ q) = meeting_few p q a b (next (b ∷ q)) (common_cons a next q) (next q) (h (b ∷ q)) (cons_few a p next h q) (h q)

common_few : (p q : List Element) → AtMost (parts p + parts q) (common p q)
common_few [] q = at_most_more (common_nil q) _ _ (omega arith) (nil_few q)
common_few (a ∷ p) q = cons_few a p (common p) (common_few p) q

-- a path without a star has cells of its own length
parts_few : (p : List Element) → parts p ≤ length p
parts_few [] = omega arith
parts_few (Star ∷ p) = omega (arith, parts_few p)
parts_few (One a ∷ p) = omega (arith, parts_few p)

starless : {p : List Element} {w : List Key} → Cells p w → length p ≤ parts p → length w ≤ length p
starless done h = omega arith
starless (skip {p} m) h = absurd (omega (arith, parts_few p))
starless (more {p} m) h = absurd (omega (arith, parts_few p))
starless (one m c) h = omega (arith, starless c (omega arith))

short : (p q : List Element) (n : ℕ) (o : Option (List Key)) → Shows (InBoth p q) o → AtMost (parts p + parts q) o →
    length p ≤ n → length q ≤ n → length p + length q ≤ n + 2 → AtMost n o
short p q n None h k lp lq s = tt
short p q n (Some u) h k lp lq s =
    go (ltb (parts p) (length p)) (ltb (parts q) (length q)) (tells_ltb (parts p) (length p) (λ l. l) (λ l. l)) (tells_ltb (parts q) (length q) (λ l. l) (λ l. l))
  where
    go : (s t : Bool) → Tells s (parts p < length p) → Tells t (parts q < length q) → length u ≤ n
    go true true x y = omega arith
    go false t x y = omega (arith, starless h.0 (omega (arith, x)))
    go true false x y = omega (arith, starless h.1 (omega (arith, y)))

-- two paths that have at most n elements each, and n + 2 together, show at most n keys
pub common_short : (p q : List Element) (n : ℕ) → length p ≤ n → length q ≤ n → length p + length q ≤ n + 2 → AtMost n (common p q)
common_short p q n = short p q n (common p q) (common_shows p q) (common_few p q)
