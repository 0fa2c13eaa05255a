-- The bits of the table are those of the shared cells. Assumes nothing.
use Rattle.std.proofs.Common.{◌≡◌, suc, ◌-◌, ◌<◌, ◌≤◌, Bool, true, false, ◌&&◌, ◌||◌, List, [], ◌∷◌, length, get_or, set, Some, None, Option, sym, refl, ap, ◌∙◌, subst, arith}
use Rattle.rpl.specs.declared.element.Key.{Key}
use Rattle.rpl.specs.declared.element.Element.{Element}
use Rattle.rpl.specs.declared.element.Element.TheVariants.{Star, One}
use Rattle.rpl.specs.Lists.{rest}
use Rattle.rpl.specs.Sharing.{common, common_key, common_nil, either, in_front, in_front_if, key_of, meeting}
use Rattle.rpl.specs.Table.{RowOf, TableOf, is_some, meeting_bit}
use Rattle.rpl.proofs.Lists.{empty, headed}
use Rattle.rpl.proofs.CommonSteps.{common_meeting, nil_there, none_there, room_both, room_left, room_right, star_left}
use Rattle.rpl.proofs.Entries.{entry, later, next_entry, put_first, put_next}

-- one bit
either_some : {X : Type 0} (o u : Option X) → is_some (either o u) ≡ is_some o || is_some u
either_some None u = refl
either_some (Some x) u = refl

front_some : (k : Key) (o : Option (List Key)) → is_some (in_front k o) ≡ is_some o
front_some k None = refl
front_some k (Some w) = refl

front_if_some : (m : Option Key) (o : Option (List Key)) → is_some (in_front_if m o) ≡ is_some m && is_some o
front_if_some None o = refl
front_if_some (Some k) o = front_some k o

swap : (a b : Bool) → a || b ≡ b || a
swap false false = refl
swap false true = refl
swap true false = refl
swap true true = refl

meeting_some : (a b : Element) (left right both : Option (List Key)) → meeting_bit a b (is_some left) (is_some right) (is_some both) ≡ is_some (meeting a b left right both)
meeting_some Star Star left right both = sym (either_some left right)
meeting_some Star (One b) left right both = sym (either_some left (in_front (key_of b) right) ∙ ap (λ (x : Bool). is_some left || x) (front_some (key_of b) right))
meeting_some (One a) Star left right both =
    swap (is_some left) (is_some right) ∙ sym (either_some right (in_front (key_of a) left) ∙ ap (λ (x : Bool). is_some right || x) (front_some (key_of a) left))
meeting_some (One a) (One b) left right both = sym (front_if_some (common_key a b) both)

-- the row of the empty path
abbrev Bit : (List Element → Option (List Key)) → Bool → List Element → Type 0
Bit f bit q = bit ≡ is_some (f q)

pub first_next : (row : List Bool) (q : List Element) → 1 ≤ length q → RowOf common_nil row (rest q) → get_or row (length q - 1) false ≡ is_some (common_nil (rest q))
first_next = next_entry false (Bit common_nil)

pub first_star : (row : List Bool) (q : List Element) (bit : Bool) → 1 ≤ length q → length q < length row → get_or q 0 Star ≡ Star → RowOf common_nil row (rest q) →
    bit ≡ is_some (common_nil (rest q)) → RowOf common_nil (set row (length q) bit) q
first_star row q bit h k e r b = put_next false (Bit common_nil) row q bit h k (b ∙ ap (λ (x : List Element). is_some (common_nil x)) (sym (headed Star Star q h e))) r

pub first_one : (row : List Bool) (q : List Element) → 1 ≤ length q → length q < length row → (get_or q 0 Star ≡ Star → ⊥) → RowOf common_nil row (rest q) →
    RowOf common_nil (set row (length q) false) q
first_one row q h k n r = put_next false (Bit common_nil) row q false h k (go q h n) r
  where
    go : (q : List Element) → 1 ≤ length q → (get_or q 0 Star ≡ Star → ⊥) → false ≡ is_some (common_nil q)
    go [] h n = absurd (omega arith)
    go (Star ∷ q) h n = absurd (n refl)
    go (One b ∷ q) h n = refl

-- the row of a path from that of its rest
module _ (p : List Element) (hp : 1 ≤ length p) where
  pub next_star_end : (row : List Bool) (q : List Element) → length q ≤ 0 → get_or p 0 Star ≡ Star → RowOf (common (rest p)) row q → RowOf (common p) row q
  next_star_end row q h e r = subst (λ (x : List Element). RowOf (common x) row q) (sym (headed Star Star p hp e)) (go row q h r)
    where
      go : (row : List Bool) (q : List Element) → length q ≤ 0 → RowOf (common (rest p)) row q → RowOf (common (Star ∷ rest p)) row q
      go row [] h r = r
      go row (b ∷ q) h r = absurd (omega arith)

  -- old is the row of the rest of p, row already that of p at the rest of q
  pub next_on : (old row : List Bool) (q : List Element) (bit : Bool) → 1 ≤ length q → length q < length row → RowOf (common (rest p)) old q → RowOf (common p) row (rest q) →
      bit ≡ meeting_bit (get_or p 0 Star) (get_or q 0 Star) (get_or old (length q) false) (get_or row (length q - 1) false) (get_or old (length q - 1) false) →
      RowOf (common p) (set row (length q) bit) q
  next_on old row q bit h k r s e =
      let left = entry false (Bit (common (rest p))) old q r in
      let both = next_entry false (Bit (common (rest p))) old q h (later false (Bit (common (rest p))) old q h r) in
      let right = next_entry false (Bit (common p)) row q h s in
      put_next false (Bit (common p)) row q bit h k
      (e ∙ rw (left, right, both) (meeting_some (get_or p 0 Star) (get_or q 0 Star) (common (rest p) q) (common p (rest q)) (common (rest p) (rest q)))
      ∙ ap is_some (common_meeting p q hp h)) s

pub later_row : (p : List Element) (row : List Bool) (q : List Element) → 1 ≤ length q → RowOf (common p) row q → RowOf (common p) row (rest q)
later_row p = later false (Bit (common p))

-- the table
abbrev RightRow : List Element → List Bool → List Element → Type 0
RightRow q row p = RowOf (common p) row q

pub table_first : (table : List (List Bool)) (p q : List Element) (row : List Bool) → length p ≤ 0 → 1 ≤ length table → RowOf common_nil row q → TableOf q (set table 0 row) p
table_first table p q row h k r = put_first [] (RightRow q) table p row h k (subst (λ (x : List Element). RowOf (common x) row q) (sym (empty p h)) r)

pub table_row : (table : List (List Bool)) (p q : List Element) → TableOf q table p → RowOf (common p) (get_or table (length p) []) q
table_row table p q = entry [] (RightRow q) table p

pub table_next : (table : List (List Bool)) (p q : List Element) (row : List Bool) → 1 ≤ length p → length p < length table → RowOf (common p) row q → TableOf q table (rest p) →
    TableOf q (set table (length p) row) p
table_next table p q row = put_next [] (RightRow q) table p row

-- a bit of it, and the table of what is left of either path
pub table_bit : (table : List (List Bool)) (p q : List Element) → TableOf q table p → get_or (get_or table (length p) []) (length q) false ≡ is_some (common p q)
table_bit table p q r = entry false (Bit (common p)) (get_or table (length p) []) q (table_row table p q r)

pub table_left : (table : List (List Bool)) (p q : List Element) → 1 ≤ length p → TableOf q table p → TableOf q table (rest p)
table_left table p q = later [] (RightRow q) table p

pub table_right : (table : List (List Bool)) (p q : List Element) → 1 ≤ length q → TableOf q table p → TableOf (rest q) table p
table_right table [] q h r = later_row [] (get_or table 0 []) q h r
table_right table (a ∷ p) q h r = (later_row (a ∷ p) (get_or table (suc (length p)) []) q h r.0, table_right table p q h r.1)

pub table_both : (table : List (List Bool)) (p q : List Element) → 1 ≤ length p → 1 ≤ length q → TableOf q table p → TableOf (rest q) table (rest p)
table_both table p q h k r = table_left table p (rest q) h (table_right table p q k r)

-- what the functions that fill rows and the table stand on
pub ruleset row_steps = (first_next, first_star, first_one, next_star_end, next_on)

pub ruleset table_steps = (table_first, table_next)

-- and the search for the shared cell
pub ruleset found_steps = (table_bit, table_left, table_right, table_both, room_left, room_right, room_both, none_there, nil_there, star_left)
