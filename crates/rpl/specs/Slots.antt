-- The slots of a short list: the first so many hold its items, and the others a blank. Assumes nothing.
use Rattle.std.specs.Prelude.{◌≡◌, ℕ, ◌-◌, ◌≤◌, List, ◌++◌, length, take, drop, replicate}
use Rattle.std.proofs.Common.{arith, length-take-le, take-append-drop}

module _ {T : Type 0} (blank : T) where
  -- n slots, of which the first len hold items
  pub record Slotted (n len : ℕ) (slots : List T) : Type 0 where
    pub few : len ≤ n
    pub all : length slots ≡ n
    pub blanks : drop len slots ≡ replicate (n - len) blank

  -- the slots of these items
  abbrev pub slots_of : ℕ → List T → List T
  slots_of n xs = xs ++ replicate (n - length xs) blank

  -- as many items as the length says
  pub items_few : (n len : ℕ) (slots : List T) → Slotted n len slots → length (take len slots) ≡ len
  items_few n len slots h = length-take-le len slots (omega (arith, h.few, h.all))

  -- the items give the slots back
  pub slots_back : (n len : ℕ) (slots : List T) → Slotted n len slots → slots_of n (take len slots) ≡ slots
  slots_back n len slots h =
      rw (items_few n len slots h, ← h.blanks) (take-append-drop len slots)
