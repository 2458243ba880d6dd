-- The front of a call, walked once for every role: its refusals, an empty command, and then the plan of what it brings. Assumes nothing.
use Rattle.std.specs.Prelude.{None}
use Prim.Native.Nat.{ℕ, ◌-◌, ◌≤◌, ◌<◌}
use mathlib.Core.Path.{◌≡◌, refl, sym, ap}
use mathlib.Core.List.{List, [], ◌∷◌}
use mathlib.Core.Bool.{true, false}
use lib.ListN.{length, get_or, take, drop}
use lib.Seq.{take_all}
use native.Mathlib.Omega.{arith}
use borrow.Author.Tests.{ltb-true, ltb-false}
use Rattle.protocol.specs.declared.Event.{Event}
use Rattle.protocol.specs.declared.Failure.TheVariants as F
use Rattle.protocol.specs.declared.Refusal.TheVariants as R
use Rattle.protocol.specs.Plan.{Ending, ends, refuses, fails, runs, Along}
use Rattle.protocol.specs.Role.{Role, Call, Input, command, event, ranged, enough, taking, plan}
use Rattle.protocol.proofs.Plan.{along}

module _ {S : Type 0} (role : Role S) (m : S) (c : Call) (P : Ending S → Type 0) where
  -- what holds of each refusal, of an empty command and along each plan holds of what the call comes to
  pub walk : (role.finished m ≡ true → P (refuses R.Finished))
      → (role.finished m ≡ false → c.room < enough → P (refuses R.OutboxShort))
      → (role.finished m ≡ false → enough ≤ c.room → ranged c.input ≡ false → P (refuses R.PasskeyRange))
      → (role.finished m ≡ false → enough ≤ c.room → c.input ≡ command [] → P (fails None F.InvalidParameters))
      → (role.finished m ≡ false → enough ≤ c.room → (code : ℕ) (body : List ℕ) → c.input ≡ command (code ∷ body) → Along c.supplied P (role.commanded m code body))
      → (role.finished m ≡ false → enough ≤ c.room → (e : Event) → c.input ≡ event e → ranged (event e) ≡ true → Along c.supplied P (role.raised m e))
      → P (runs c.supplied (plan role m c.input c.room))
  unfolding Along
  walk finished short range empty commanded raised = along c.supplied P (plan role m c.input c.room) front
    where
      taken : role.finished m ≡ false → enough ≤ c.room → (i : Input) → c.input ≡ i → ranged i ≡ true → Along c.supplied P (taking role m i)
      taken u n (command []) e r = empty u n e
      taken u n (command (code ∷ body)) e r = commanded u n code body e
      taken u n (event x) e r = raised u n x e r

      front : Along c.supplied P (plan role m c.input c.room)
      front = (
        λ u. finished u,
        λ u. (
          λ n. short u (ltb-true c.room enough n),
          λ n.
              (λ r. taken u (ltb-false c.room enough n) c.input refl r, λ r. range u (ltb-false c.room enough n) r),
        ),
      )

-- a command as the code has it: its length, its first octet, and the rest
module _ {S : Type 0} (role : Role S) (m : S) where
  pub no_octets : (cmd : List ℕ) → length cmd ≡ 0 → taking role m (command cmd) ≡ ends (fails None F.InvalidParameters)
  no_octets [] e = refl
  no_octets (code ∷ body) e = absurd (omega arith)

  pub some_octets : (cmd : List ℕ) → (length cmd ≡ 0 → ⊥) → taking role m (command cmd) ≡ role.commanded m (get_or cmd 0 0) (take (length cmd - 1) (drop 1 cmd))
  some_octets [] h = absurd (h refl)
  some_octets (code ∷ body) h = ap (role.commanded m code) (sym (take_all (length (code ∷ body) - 1) body (omega arith)))
