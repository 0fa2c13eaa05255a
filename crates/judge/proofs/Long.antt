-- What is said of an input that is too long does not hang on its last bytes. Assumes nothing.
use Rattle.std.proofs.Common.{◌≡◌, ℕ, ◌<◌, ◌≤◌, ◌⊎◌, inl, inr, List, [], ◌∷◌, length, take, Some, None, Err, Option, refl, sym, ap, ◌∙◌, arith}
use Rattle.std.proofs.lemmas.Bool.{cases_lt}
use Rattle.std.proofs.lemmas.List.{length-take-le, take_all}
use borrow.Author.Tests.{lt-leb}
use Rattle.theory.specs.Meaning.{Meaning}
use Rattle.recipe.specs.declared.fault.Fault.TheVariants.{TooLong}
use Rattle.recipe.specs.Recipes.{recipe_of}
use Rattle.judge.specs.declared.refusal.Refusal.TheVariants.{Unread}
use Rattle.judge.specs.declared.theories.TheoryName.{TheoryName}
use Rattle.judge.specs.declared.theories.TheoryName.TheVariants.{Paths, Sections, PathsSections, SectionsSections}
use Rattle.judge.specs.Judged.{judged, judged_by, judged_named, read_by}
use Rattle.judge.specs.Named.{theory_named}

read_long : {P R C : Type 0} (m : Meaning P R C) (file : List ℕ) → 16384 < length file → read_by m file ≡ Err (Unread TooLong)
unfolding read_by recipe_of
read_long m file h = rw (lt-leb (length file) 16384 h)

named_long : (name : TheoryName) (file : List ℕ) → 16384 < length file → judged_named name file ≡ Err (Unread TooLong)
unfolding judged_named
named_long Paths file h = read_long _ file h
named_long Sections file h = read_long _ file h
named_long PathsSections file h = read_long _ file h
named_long SectionsSections file h = read_long _ file h

alike : (o : Option TheoryName) (f g : List ℕ) → 16384 < length f → 16384 < length g → judged_by f o ≡ judged_by g o
alike None f g h k = refl
alike (Some name) f g h k = named_long name f h ∙ sym (named_long name g k)

-- a theory byte, and 16,385 bytes of the file
pub enough : (input : List ℕ) → judged (take 16386 input) ≡ judged input
enough [] = refl
enough (b ∷ file) = go (cases_lt 16385 (length file))
  where
    go : (16385 < length file) ⊎ (length file ≤ 16385) → judged (b ∷ take 16385 file) ≡ judged (b ∷ file)
    go (inl l) = let k = length-take-le 16385 file (omega arith) in alike (theory_named b) (take 16385 file) file (omega arith) (omega arith)
    go (inr l) = ap (λ (f : List ℕ). judged (b ∷ f)) (take_all 16385 file l)
