-- The front of a call, for any property of inputs and plans that a test hands on: its refusals, an empty command, and then the plan of what it brings.
-- Assumes nothing.
use Rattle.std.specs.Prelude.{None}
use Prim.Native.Nat.{ℕ, ◌≤◌, ◌<◌}
use mathlib.Core.Path.{◌≡◌}
use mathlib.Core.List.{List, [], ◌∷◌}
use mathlib.Core.Bool.{Bool, true, false}
use borrow.Author.Tests.{ltb-true, ltb-false, le-ltb}
use Rattle.protocol.specs.declared.Event.{Event}
use Rattle.protocol.specs.declared.Failure.TheVariants as F
use Rattle.protocol.specs.declared.Refusal.TheVariants as R
use Rattle.protocol.specs.Plan.{Plan, ends, tests, refuses, fails}
use Rattle.protocol.specs.Role.{Role, Input, command, event, ranged, enough, taking, plan}

module _ {S : Type 0} (T : Input → Plan S → Type 0) (tested : (i : Input) (b : Bool) (p q : Plan S) → (b ≡ true → T i p) → (b ≡ false → T i q) → T i (tests b p q)) where
  pub fronted : (role : Role S) (m : S) (room : ℕ) → (role.finished m ≡ true → (i : Input) → T i (ends (refuses R.Finished)))
      → (role.finished m ≡ false → room < enough → (i : Input) → T i (ends (refuses R.OutboxShort)))
      → (role.finished m ≡ false → enough ≤ room → (i : Input) → ranged i ≡ false → T i (ends (refuses R.PasskeyRange)))
      → (role.finished m ≡ false → enough ≤ room → T (command []) (ends (fails None F.InvalidParameters)))
      → (role.finished m ≡ false → enough ≤ room → (code : ℕ) (body : List ℕ) → T (command (code ∷ body)) (role.commanded m code body))
      → (role.finished m ≡ false → enough ≤ room → (e : Event) → ranged (event e) ≡ true → T (event e) (role.raised m e))
      → (i : Input) → T i (plan role m i room)
  fronted role m room finished short range empty commanded raised i =
      tested i _ _ _ (λ u. finished u i) λ u.
      tested i _ _ _ (λ n. short u (ltb-true room enough n) i) λ n.
      tested i _ _ _ (taken u (ltb-false room enough n) i) (range u (ltb-false room enough n) i)
    where
      taken : role.finished m ≡ false → enough ≤ room → (j : Input) → ranged j ≡ true → T j (taking role m j)
      taken u n (command []) r = empty u n
      taken u n (command (code ∷ body)) r = commanded u n code body
      taken u n (event e) r = raised u n e r

-- an outbox that is long enough is as good as any
pub roomy_plan : {S : Type 0} (role : Role S) (m : S) (i : Input) (room : ℕ) → enough ≤ room → plan role m i room ≡ plan role m i enough
roomy_plan role m i room n = rw (le-ltb room enough n)
