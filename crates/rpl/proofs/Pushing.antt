-- The slots of a short list after a push, behind its items or in front of them. Assumes nothing.
use Rattle.std.proofs.Common.{◌≡◌, ℕ, zero, suc, ◌+◌, ◌-◌, ◌<◌, ◌≤◌, List, [], ◌∷◌, ◌++◌, length, take, drop, replicate, slice_set, sym, refl, ap, subst, ◌∙◌, add-one, arith}
use Rattle.std.proofs.lemmas.List.{drop-drop, drop-replicate, drop-set-lt, drop-take, length-drop, length-set, length-take-le, take-replicate, take-take}
use Rattle.rpl.specs.ShortList.{ShortList}
use Rattle.rpl.specs.Slots.{Slotted, items_few}

blanks_after_push : (n len : ℕ) → n - (len + 1) ≡ n - len - 1
blanks_after_push n len = omega arith

blanks_after_front : (k len : ℕ) → k - len ≡ suc k - (len + 1)
blanks_after_front k len = omega arith

items_and_rest : (k len : ℕ) → len ≤ k → k ≡ len + (k - len)
items_and_rest k len h = omega arith

-- the slots turned by one, the last of them to the front
abbrev pub turned : {T : Type 0} → List T → List T
turned slots = drop (length slots - 1) slots ++ take (length slots - 1) slots

-- an item set in the place of a first one
first_set : {T : Type 0} (front back : List T) (x : T) → length front ≡ 1 → slice_set (front ++ back) 0 x ≡ x ∷ back
first_set [] back x h = absurd (omega arith)
first_set (y ∷ []) back x h = refl
first_set (y ∷ z ∷ ys) back x h = absurd (omega arith)

module _ {T : Type 0} (blank : T) where
  -- a list with room has a slot without an item
  pub slot_left
      : (n len : ℕ) (slots : List T) (v : ShortList T) → Slotted blank n len slots → record { items = take len slots } ≡ v → length v.items < n → len < n
  slot_left n len slots v h e room =
      subst (λ k. k < n) (items_few blank n len slots h) (subst (λ w. length w.items < n) (sym e) room)

  blanks_left
      : (n len : ℕ) (slots : List T) → Slotted blank n len slots → drop (len + 1) slots ≡ replicate (n - len - 1) blank
  blanks_left n len slots h =
      rw (← drop-drop 1 len slots, h.blanks) (drop-replicate 1 (n - len) blank)

  -- the slots with an item behind the others
  pub pushed
      : (n len : ℕ) (slots : List T) (x : T)
      → Slotted blank n len slots → len < n → Slotted blank n (len + 1) (slice_set slots len x)
  pushed n len slots x h room = record {
    few = omega arith;
    all = rw (length-set slots len x) h.all;
    blanks = rw (drop-set-lt (len + 1) slots len x (omega arith), blanks_after_push n len) (blanks_left n len slots h);
  }

  -- an item in the place of the first of the turned slots
  module _ (len k : ℕ) (slots : List T) (x : T) (h : Slotted blank (suc k) len slots) (room : len ≤ k) where
    last_one : length (drop (length slots - 1) slots) ≡ 1
    last_one = omega (arith, length-drop (length slots - 1) slots, h.all)

    others : take (length slots - 1) slots ≡ take k slots
    others = ap (λ i. take i slots) (omega (arith, h.all))

    in_front : slice_set (turned slots) 0 x ≡ x ∷ take k slots
    in_front = first_set (drop (length slots - 1) slots) (take (length slots - 1) slots) x last_one ∙ ap (λ ys. x ∷ ys) others

    blanks_behind : drop len (take k slots) ≡ replicate (k - len) blank
    blanks_behind =
        ap (λ i. drop len (take i slots)) (items_and_rest k len room)
        ∙ drop-take len (k - len) slots
        ∙ ap (take (k - len)) h.blanks
        ∙ take-replicate (k - len) (suc k - len) blank (omega arith)

    fronted_items_suc : take (len + 1) (slice_set (turned slots) 0 x) ≡ x ∷ take len slots
    fronted_items_suc =
        ap (take (len + 1)) in_front ∙ ap (λ i. take i (x ∷ take k slots)) (add-one len) ∙ ap (λ ys. x ∷ ys) (take-take len k slots room)

    fronted_suc : Slotted blank (suc k) (len + 1) (slice_set (turned slots) 0 x)
    fronted_suc = record {
      few = omega arith;
      all = ap length in_front ∙ ap suc (length-take-le k slots (omega (arith, h.all)));
      blanks = ap (drop (len + 1)) in_front ∙ ap (λ i. drop i (x ∷ take k slots)) (add-one len) ∙ blanks_behind ∙ ap (λ i. replicate i blank) (blanks_after_front k len);
    }

  -- the items with one in front
  pub fronted_items
      : (n len : ℕ) (slots : List T) (x : T) → Slotted blank n len slots → len < n → take (len + 1) (slice_set (turned slots) 0 x) ≡ x ∷ take len slots
  fronted_items zero len slots x h room = absurd (omega arith)
  fronted_items (suc k) len slots x h room = fronted_items_suc len k slots x h (omega arith)

  -- the slots with an item in front
  pub fronted
      : (n len : ℕ) (slots : List T) (x : T) → Slotted blank n len slots → len < n → Slotted blank n (len + 1) (slice_set (turned slots) 0 x)
  fronted zero len slots x h room = absurd (omega arith)
  fronted (suc k) len slots x h room = fronted_suc len k slots x h (omega arith)
