-- Entries under the lengths of suffixes: reading and writing them. Assumes nothing.
use Rattle.std.proofs.Common.{◌≡◌, ℕ, suc, ◌-◌, ◌<◌, ◌≤◌, List, [], ◌∷◌, length, get_or, set, sym, subst, arith}
use Rattle.std.proofs.lemmas.List.{get_or-set_other, get_or-set_same}
use Rattle.rpl.specs.declared.element.Element.{Element}
use Rattle.rpl.specs.Lists.{rest}
use Rattle.rpl.specs.Table.{Entries}
use Rattle.rpl.proofs.Lists.{rest_is}

module _ {X : Type 0} (d : X) (Right : X → List Element → Type 0) where
  -- the entry of p, those of the rest of p, and the entry of the rest
  pub entry : (xs : List X) (p : List Element) → Entries d Right xs p → Right (get_or xs (length p) d) p
  entry xs [] r = r
  entry xs (a ∷ p) r = r.0

  pub later : (xs : List X) (p : List Element) → 1 ≤ length p → Entries d Right xs p → Entries d Right xs (rest p)
  later xs [] h r = absurd (omega arith)
  later xs (a ∷ p) h r = subst (Entries d Right xs) (sym (rest_is a p)) r.1

  pub next_entry : (xs : List X) (p : List Element) → 1 ≤ length p → Entries d Right xs (rest p) → Right (get_or xs (length p - 1) d) (rest p)
  next_entry xs [] h r = absurd (omega arith)
  next_entry xs (a ∷ p) h r =
      let m : suc (length p) - 1 ≡ length p = omega arith in
      subst (λ (i : ℕ). Right (get_or xs i d) (rest (a ∷ p))) (sym m)
      (subst (Right (get_or xs (length p) d)) (sym (rest_is a p)) (entry xs p (subst (Entries d Right xs) (rest_is a p) r)))

  -- a write behind the entries of p leaves them
  unmoved : (xs : List X) (p : List Element) (k : ℕ) (v : X) → length p < k → Entries d Right xs p → Entries d Right (set xs k v) p
  unmoved xs [] k v h r = rw (get_or-set_other xs k 0 v d (λ e. omega arith)) r
  unmoved xs (a ∷ p) k v h r = (rw (get_or-set_other xs k (suc (length p)) v d (λ e. omega arith)) r.0, unmoved xs p k v (omega arith) r.1)

  -- the entry of p is written
  pub put_first : (xs : List X) (p : List Element) (v : X) → length p ≤ 0 → 1 ≤ length xs → Right v p → Entries d Right (set xs 0 v) p
  put_first xs [] v h k e = rw (get_or-set_same xs 0 v d k) e
  put_first xs (a ∷ p) v h k e = absurd (omega arith)

  pub put_next : (xs : List X) (p : List Element) (v : X) → 1 ≤ length p → length p < length xs → Right v p → Entries d Right xs (rest p) →
      Entries d Right (set xs (length p) v) p
  put_next xs [] v h k e r = absurd (omega arith)
  put_next xs (a ∷ p) v h k e r =
      (rw (get_or-set_same xs (suc (length p)) v d k) e, unmoved xs p (suc (length p)) v (omega arith) (subst (Entries d Right xs) (rest_is a p) r))
