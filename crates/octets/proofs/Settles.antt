-- What it means that a contract leaves no second answer: two calls on the same arguments that both meet it have the same result
-- and leave the same octets. Each crate has one such theorem a public function. Assumes nothing.
use mathlib.Core.Path.{◌≡◌, sym, ◌∙◌}
use Prim.Native.Nat.{ℕ}
use mathlib.Core.List.{List}
use Rattle.octets.specs.Write.{Wrote}

-- the result is settled
abbrev pub Unique {ℓ₁ ℓ₂ ℓ₃ ℓ₄} : {L : Type ℓ₁} {D : L → Type ℓ₂} {Z : L → Type ℓ₃} {E : L → Type ℓ₄} → ((κs : L) → D κs → Z κs → E κs → Type 0) → Type (ℓ₁ ⊔ ℓ₂ ⊔ ℓ₃ ⊔ ℓ₄)
Unique {L = L} {D} {Z} {E} P = (κs : L) (a : D κs) (z z' : Z κs) (e e' : E κs) → P κs a z e → P κs a z' e' → z ≡ z'

-- the result is settled, and so is what `view` sees of the parameters at exit
abbrev pub Settles {ℓ₁ ℓ₂ ℓ₃ ℓ₄} : {L : Type ℓ₁} {D : L → Type ℓ₂} {Z : L → Type ℓ₃} {E : L → Type ℓ₄} {W : Type 0} →
    ((κs : L) → D κs → Z κs → E κs → Type 0) → ((κs : L) → E κs → W) → Type (ℓ₁ ⊔ ℓ₂ ⊔ ℓ₃ ⊔ ℓ₄)
Settles {L = L} {D} {Z} {E} P view =
    (κs : L) (a : D κs) (z z' : Z κs) (e e' : E κs) → P κs a z e → P κs a z' e' → (z ≡ z') × (view κs e ≡ view κs e')

-- two values that are each what one definition says
pub only {ℓ} : {A : Type ℓ} {x y v : A} → x ≡ v → y ≡ v → x ≡ y
only p q = p ∙ sym q

-- a writer's count and octets
pub only_wrote : {xs before after after' : List ℕ} {r r' : ℕ} → Wrote xs before r after → Wrote xs before r' after' → (r ≡ r') × (after ≡ after')
only_wrote p q = (only p.count q.count, only p.octets q.octets)
