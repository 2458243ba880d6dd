-- The gate before a call, judged once for every role: shut, the call is refused; open, its plan is followed. Assumes nothing.
use Rattle.std.specs.Prelude.{Result, Ok, Err, ⊤}
use Prim.Native.Nat.{ℕ}
use mathlib.Core.Path.{◌≡◌, refl, sym, ap, ◌∙◌}
use mathlib.Core.List.{List}
use mathlib.Core.Bool.{Bool, true, false}
use native.Mathlib.Omega.{arith}
use Rattle.protocol.specs.declared.Refusal.{Refusal}
use Rattle.protocol.specs.declared.Refusal.TheVariants as R
use Rattle.protocol.specs.declared.Supplied.{Supplied}
use Rattle.protocol.specs.Plan.{Plan, ends, tests, refuses}
use Rattle.protocol.specs.Role.{Role, Outcome, gate_of, said}
use Rattle.protocol.specs.Met.{Followed}
use Rattle.protocol.proofs.Follows.{refusing, passes, stops}

open_shut : {u : ⊤} {x : Refusal} → ◌≡◌ {A = Result ⊤ Refusal} (Ok u) (Err x) → ⊥
open_shut e = let z : ◌≡◌ {A = ℕ} 0 1 = cc in omega arith

same_shut : {x y : Refusal} → ◌≡◌ {A = Result ⊤ Refusal} (Err x) (Err y) → x ≡ y
same_shut e = cc

-- the front of every plan
abbrev front : {S : Type 0} → Bool → Bool → Bool → Plan S → Plan S
front b d k p = tests b (ends (refuses R.Finished)) (tests d (ends (refuses R.OutboxShort)) (tests k p (ends (refuses R.PasskeyRange))))

module _ {S T : Type 0} {role : Role S} {given : Outcome S → ℕ → T} {channel : ℕ} {m : S} {a : Supplied} {r : T} where
  -- a refusal that the gate names
  because : {x y : Refusal} {g : Result ⊤ Refusal} {out : List ℕ} → g ≡ Err y → g ≡ Err x → r ≡ given (said role m (refuses x)) 0
      → Followed role given channel m a (ends (refuses y)) r out out
  because e w h = refusing (h ∙ ap (λ y. given (said role m (refuses y)) 0) (same_shut (sym w ∙ e)))

  pub shut : {b d k : Bool} {p : Plan S} {g : Result ⊤ Refusal} {x : Refusal} {out : List ℕ} → g ≡ gate_of b d k → g ≡ Err x → r ≡ given (said role m (refuses x)) 0
      → Followed role given channel m a (front b d k p) r out out
  unfolding gate_of
  shut {b = true} e w h = passes refl (because e w h)
  shut {b = false} {d = true} e w h = stops refl (passes refl (because e w h))
  shut {b = false} {d = false} {k = false} e w h = stops refl (stops refl (stops refl (because e w h)))
  shut {b = false} {d = false} {k = true} e w h = absurd (open_shut (sym e ∙ w))

  pub admitted : {b d k : Bool} {u : ⊤} {p : Plan S} {g : Result ⊤ Refusal} {before after : List ℕ} → g ≡ gate_of b d k → g ≡ Ok u → Followed role given channel m a p r before after
      → Followed role given channel m a (front b d k p) r before after
  unfolding gate_of
  admitted {b = false} {d = false} {k = true} e w h = stops refl (stops refl (passes refl h))
  admitted {b = true} e w h = absurd (open_shut (sym w ∙ e))
  admitted {b = false} {d = true} e w h = absurd (open_shut (sym w ∙ e))
  admitted {b = false} {d = false} {k = false} e w h = absurd (open_shut (sym w ∙ e))
