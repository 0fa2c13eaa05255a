-- One step towards a shared cell, on the lists behind the slices. Assumes nothing.
use Rattle.std.proofs.Common.{◌≡◌, ℕ, suc, ◌≤◌, Bool, true, false, List, [], ◌∷◌, length, get_or, Some, None, Option, sym, refl, ap, ◌∙◌, subst, arith}
use Rattle.std.proofs.lemmas.Bool.{false≢true}
use Rattle.rpl.specs.declared.element.Key.{Key}
use Rattle.rpl.specs.declared.element.Element.{Element}
use Rattle.rpl.specs.declared.element.Element.TheVariants.{Star, One}
use Rattle.rpl.specs.Lists.{rest}
use Rattle.rpl.specs.Sharing.{AtMost, common, common_nil, either, in_front, key_of, meeting}
use Rattle.rpl.specs.Table.{is_some}
use Rattle.rpl.proofs.Lists.{empty, headed, rest_is}
use Rattle.rpl.proofs.Shared.{common_short}

-- what a bit says of the answer
pub none_there : {X : Type 0} (bit : Bool) (o : Option X) → bit ≡ is_some o → bit ≡ false → None ≡ o
none_there bit None e f = refl
none_there bit (Some x) e f = cc

pub nil_there : (bit : Bool) (p q : List Element) → length p ≤ 0 → bit ≡ is_some (common p q) → bit ≡ true → Some [] ≡ common p q
nil_there bit p q h e f = subst (λ (x : List Element). Some [] ≡ common x q) (sym (empty p h)) (go q (sym (e ∙ ap (λ (x : List Element). is_some (common x q)) (empty p h)) ∙ f))
  where
    go : (q : List Element) → is_some (common_nil q) ≡ true → Some [] ≡ common_nil q
    go [] e = refl
    go (Star ∷ q) e = go q e
    go (One b ∷ q) e = cc

-- two paths with first elements, from what they share without them
pub common_meeting : (p q : List Element) → 1 ≤ length p → 1 ≤ length q →
    meeting (get_or p 0 Star) (get_or q 0 Star) (common (rest p) q) (common p (rest q)) (common (rest p) (rest q)) ≡ common p q
common_meeting [] q h k = absurd (omega arith)
common_meeting (a ∷ p) [] h k = absurd (omega arith)
common_meeting (a ∷ p) (b ∷ q) h k = rw (rest_is a p, rest_is b q) refl

-- a star that ends here
pub star_left : (p q : List Element) (o : Option (List Key)) (bit : Bool) → 1 ≤ length p → get_or p 0 Star ≡ Star → o ≡ common (rest p) q →
    bit ≡ is_some (common (rest p) q) → bit ≡ true → o ≡ common p q
star_left p q None bit h e r b t = absurd (false≢true (ap is_some r ∙ sym b ∙ t))
star_left p q (Some w) bit h e r b t = subst (λ (x : List Element). Some w ≡ common x q) (sym (headed Star Star p h e)) (go (rest p) q r)
  where
    go : (p q : List Element) → Some w ≡ common p q → Some w ≡ common (Star ∷ p) q
    go p [] r = r
    go p (Star ∷ q) r = ap (λ (o : Option (List Key)). either o (common (Star ∷ p) q)) r
    go p (One b ∷ q) r = ap (λ (o : Option (List Key)). either o (in_front (key_of b) (common (Star ∷ p) q))) r

-- there is room for one more key
fewer : (q : List Element) (n : ℕ) → 1 ≤ length q → length q ≤ suc n → length (rest q) ≤ n
fewer [] n h k = absurd (omega arith)
fewer (b ∷ q) n h k = omega (arith, ap length (rest_is b q))

module _ (p q : List Element) (o : Option (List Key)) (h : length p ≤ 12) (k : length q ≤ 12) where
  pub room_left : 1 ≤ length p → o ≡ common (rest p) q → AtMost 21 o
  room_left n e = subst (AtMost 21) (sym e) (common_short (rest p) q 21 (omega (arith, fewer p 11 n h)) (omega arith) (omega (arith, fewer p 11 n h)))

  pub room_right : 1 ≤ length q → o ≡ common p (rest q) → AtMost 21 o
  room_right n e = subst (AtMost 21) (sym e) (common_short p (rest q) 21 (omega arith) (omega (arith, fewer q 11 n k)) (omega (arith, fewer q 11 n k)))

  pub room_both : 1 ≤ length p → 1 ≤ length q → o ≡ common (rest p) (rest q) → AtMost 21 o
  room_both n m e = subst (AtMost 21) (sym e) (common_short (rest p) (rest q) 21 (omega (arith, fewer p 11 n h)) (omega (arith, fewer q 11 m k)) (omega (arith, fewer p 11 n h, fewer q 11 m k)))
