-- The effects of a block, one after another. Assumes nothing.
use Rattle.std.proofs.Common.{◌≡◌, ℕ, false, List, [], ◌∷◌, ◌++◌, Some, None, Ok, Err, Result, sym, refl, ap, ◌∙◌, subst, append_assoc, append-nil}
use Rattle.theory.specs.Meaning.{Meaning}
use Rattle.recipe.specs.declared.fault.Fault.{Fault}
use Rattle.recipe.specs.declared.head.Spot.TheVariants.{Effects}
use Rattle.recipe.specs.Heads.{begins}
use Rattle.recipe.specs.Rec.{Rec}
use Rattle.recipe.specs.Records.{record_at}
use Rattle.recipe.proofs.RecordParts.{record_begins, record_belongs}
use Rattle.recipe.specs.Tree.{Effect as Stated}
use Rattle.recipe.specs.WellFormed.{EffectsLie}
use Rattle.recipe.proofs.Once.{entry_is}
use Rattle.certifier.specs.declared.effect.Effect.{Effect}
use Rattle.certifier.specs.Effects.{filled_effects}
use Rattle.certifier.specs.Walks.{effect_found}

module _ {P R C : Type 0} (m : Meaning P R C) (file : List ℕ) (is : List ℕ) (depth : ℕ) where
  -- these were read; the rest lies from a place on
  abbrev Rest : ℕ → List (Effect R) → List (Stated P) → ℕ → Type 0
  Rest at got es from = (rest : List (Stated P)) × EffectsLie m file rest depth at from × (got ++ filled_effects m is rest ≡ filled_effects m is es)

  abbrev pub Collected : (place at : ℕ) → List (Effect R) → Type 0
  Collected place at got = (es : List (Stated P)) (from : ℕ) → EffectsLie m file es depth place from → begins file Effects from ≡ false → Rest at got es from

  -- what is found where an effect lies, and where none begins
  found_here : (x : Stated P) (xs : List (Stated P)) (at from : ℕ) (lie : EffectsLie m file (x ∷ xs) depth at from) →
      effect_found m is at (record_at m file Effects 0 depth at) ≡ Some (record { place = x.place; mode = x.mode; region = m.filled x.pattern is }, lie.0)
  found_here x xs at from (q, p, k, l) = rw k (λ i. Some (record { place = sym p i; mode = x.mode; region = m.filled x.pattern is }, q))

  none_begins : (at : ℕ) (r : Result (Rec P × ℕ) Fault) → record_at m file Effects 0 depth at ≡ r → begins file Effects at ≡ false → effect_found m is at r ≡ None
  none_begins at (Err f) h n = refl
  none_begins at (Ok (r, e)) h n =
      let y = record_begins m file Effects 0 depth at r e h Effects in
      let z = record_belongs m file Effects 0 depth at r e h in
      absurd cc

  pub collect_all : (place at : ℕ) (got : List (Effect R)) → Collected place at got → None ≡ effect_found m is at (record_at m file Effects 0 depth at) →
      (es : List (Stated P)) (from : ℕ) → EffectsLie m file es depth place from → begins file Effects from ≡ false → got ≡ filled_effects m is es
  collect_all place at got inv h es from l k = go (inv es from l k)
    where
      go : Rest at got es from → got ≡ filled_effects m is es
      go ([], lie, e) = sym (append-nil got) ∙ e
      go (x ∷ xs, lie, e) = let two = h ∙ found_here x xs at from lie in absurd cc

  pub collect_more : (place at : ℕ) (got : List (Effect R)) → Collected place at got → (y : Effect R) (end : ℕ) → Some (y, end) ≡ effect_found m is at (record_at m file Effects 0 depth at) →
      (now : List (Effect R)) → now ≡ got ++ (y ∷ []) → Collected place end now
  collect_more place at got inv y end h now pushed es from l k = subst (λ (r : List (Effect R)). Rest end r es from) (sym pushed) (go (inv es from l k))
    where
      go : Rest at got es from → Rest end (got ++ (y ∷ [])) es from
      go ([], lie, e) =
          let none = h ∙ none_begins at (record_at m file Effects 0 depth at) refl (subst (λ (n : ℕ). begins file Effects n ≡ false) (sym lie) k) in
          absurd cc
      go (x ∷ xs, lie, e) =
          let pair = entry_is (y, end) (record { place = x.place; mode = x.mode; region = m.filled x.pattern is }, lie.0) (h ∙ found_here x xs at from lie) in (
            xs,
            subst (λ (n : ℕ). EffectsLie m file xs depth n from) (sym (ap (λ (q : Effect R × ℕ). q.1) pair)) lie.3,
            append_assoc got (y ∷ []) (filled_effects m is xs) ∙ ap (λ (q : Effect R × ℕ). got ++ (q.0 ∷ filled_effects m is xs)) pair ∙ e,
          )
