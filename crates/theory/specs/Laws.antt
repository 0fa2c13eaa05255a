-- What holds of the answers of every theory. Assumes nothing.
use Rattle.std.specs.Prelude.{◌≡◌, true, None}
use Rattle.theory.specs.Meaning.{Meaning}

pub record TheoryLaws {P R C : Type 0} (m : Meaning P R C) : Type 0 where
  pub reflexive : (a : R) → m.within a a ≡ true
  pub transitive : (a b c : R) → m.within a b ≡ true → m.within b c ≡ true → m.within a c ≡ true
  pub symmetric : (a b : R) → m.shown a b ≡ None → m.shown b a ≡ None
  pub part_apart : (a b c : R) → m.within a b ≡ true → m.shown b c ≡ None → m.shown a c ≡ None
