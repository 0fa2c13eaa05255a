-- The laws of the certifier, together. Assumes nothing.
use Rattle.std.proofs.Common.{◌≡◌, ℕ, List, [], ◌∷◌, Ok, Err, Result, sym, refl, ap, ◌∙◌, inl}
use Rattle.theory.specs.Meaning.{Kept, Meaning}
use Rattle.recipe.specs.declared.fault.Fault.{Fault}
use Rattle.recipe.specs.Recipes.{Tree, recipe_of}
use Rattle.recipe.specs.Tree.{size}
use Rattle.certifier.specs.declared.refusal.Refusal.{Refusal}
use Rattle.certifier.specs.CertifierLaws.{CertifierLaws}
use Rattle.certifier.specs.Faults.{recipe_faults}
use Rattle.certifier.specs.Lists.{Among, first}
use Rattle.certifier.specs.Verdicts.{read_verdict, unless_refused, verdict_of}
use Rattle.certifier.proofs.Heritage.{apart, inherited, sound_right}
use Rattle.certifier.proofs.Soundness.{recipe_wrong, silent_sound}

refusal : {A E : Type 0} → E → Result A E → E
refusal d (Ok a) = d
refusal d (Err e) = e

same_refusal : {A E : Type 0} (e f : E) → ◌≡◌ {A = Result A E} (Err e) (Err f) → e ≡ f
unfolding refusal
same_refusal {A} {E} e f p = ap (λ (r : Result A E). refusal e r) p

module _ {X : Type 0} where
  -- certified where no fault is told, and only there; and what is refused is told
  certified : (faults : List (Refusal X)) (strands n : ℕ) → unless_refused strands (first faults) ≡ Ok n → ((r : Refusal X) → Among r faults → ⊥) × (n ≡ strands)
  certified [] strands n e = (λ r h. h, cc)
  certified (r ∷ faults) strands n e = absurd cc

  certifies : (faults : List (Refusal X)) (strands : ℕ) → ((r : Refusal X) → Among r faults → ⊥) → unless_refused strands (first faults) ≡ Ok strands
  certifies [] strands silent = refl
  certifies (r ∷ faults) strands silent = absurd (silent r (inl refl))

  refused : (faults : List (Refusal X)) (strands : ℕ) (r : Refusal X) → unless_refused strands (first faults) ≡ Err r → Among r faults
  refused [] strands r e = absurd cc
  refused (s ∷ faults) strands r e = inl (sym (same_refusal s r e))

module _ {P R C : Type 0} (m : Meaning P R C) where
  verdict_read : (file : List ℕ) (r : Result (Tree P m.Point) Fault) → recipe_of m file ≡ r → verdict_of m file ≡ read_verdict m r
  unfolding verdict_of
  verdict_read file r e = ap (read_verdict m) e

  pub laws : Kept m → CertifierLaws m
  laws kept = record {
    certified_sound = λ file t n e v.
        let (silent, counted) = certified (recipe_faults m t) (size t.root) n (sym (verdict_read file (Ok t) e) ∙ v) in
        (silent_sound m kept t silent, counted);
    sound_certified = λ file t e sound.
        verdict_read file (Ok t) e ∙ certifies (recipe_faults m t) (size t.root) (λ r h. sound_right m t sound r (recipe_wrong m kept t r h));
    refused_wrong = λ file t r e v. recipe_wrong m kept t r (refused (recipe_faults m t) (size t.root) r (sym (verdict_read file (Ok t) e) ∙ v));
    unread = λ file f e. verdict_read file (Err f) e;
    inherited = inherited m;
    apart = apart m;
  }
