-- Runs with timeout marks in them, of any role: without a mark they are runs of calls, a mark is a timeout and no input, what is finished takes nothing,
-- and marks that raise no rank keep the bound. Assumes nothing.
use Prim.Native.Nat.{ℕ, ◌+◌, ◌≤◌}
use mathlib.Core.Path.{◌≡◌, refl, sym, ap, subst, ◌∙◌}
use mathlib.Core.List.{List, [], ◌∷◌, ◌++◌, map}
use mathlib.Core.Bool.{Bool, true, false}
use lib.ListN.{length}
use native.Mathlib.Omega.{arith}
use Rattle.protocol.specs.Plan.{Along}
use Rattle.protocol.specs.Role.{Role, Call, Outcome, plan, step, timed_out, is_taken, keep, after, run, history, Lower}
use Rattle.protocol.specs.Marks.{Deed, call, mark, ran, inputs}
use Rattle.protocol.proofs.Ends.{stays, timeout_stays}
use Rattle.protocol.proofs.Runs as Runs

module _ {S : Type 0} (role : Role S) where
  pub ran_calls : (cs : List Call) (m : S) → ran role m (map call cs) ≡ run role m cs
  unfolding ran run
  ran_calls [] m = refl
  ran_calls (c ∷ cs) m = ran_calls cs (after role m c)

  pub inputs_calls : (cs : List Call) (m : S) → inputs role m (map call cs) ≡ history role m cs
  unfolding inputs history
  inputs_calls [] m = refl
  inputs_calls (c ∷ cs) m = ap (λ h. keep (is_taken (step role m c).answer) c h) (inputs_calls cs (after role m c))

  -- a mark is a timeout, and no input
  pub ran_mark : (m : S) → ran role m (mark ∷ []) ≡ timed_out role m
  unfolding ran
  ran_mark m = refl

  pub inputs_mark : (m : S) → inputs role m (mark ∷ []) ≡ []
  unfolding inputs
  inputs_mark m = refl

  -- deeds after deeds begin where those left the machine
  pub ran_after : (ds es : List Deed) (m : S) → ran role m (ds ++ es) ≡ ran role (ran role m ds) es
  unfolding ran
  ran_after [] es m = refl
  ran_after (call c ∷ ds) es m = ran_after ds es (after role m c)
  ran_after (mark ∷ ds) es m = ran_after ds es (timed_out role m)

  pub inputs_after : (ds es : List Deed) (m : S) → inputs role m (ds ++ es) ≡ inputs role m ds ++ inputs role (ran role m ds) es
  unfolding ran inputs
  inputs_after [] es m = refl
  inputs_after (call c ∷ ds) es m =
      ap (λ h. keep (is_taken (step role m c).answer) c h) (inputs_after ds es (after role m c))
      ∙ kept (is_taken (step role m c).answer) (inputs role (after role m c) ds) (inputs role (ran role (after role m c) ds) es)
    where
      kept : (b : Bool) (h i : List Call) → keep b c (h ++ i) ≡ keep b c h ++ i
      kept true h i = refl
      kept false h i = refl
  inputs_after (mark ∷ ds) es m = inputs_after ds es (timed_out role m)

  -- what is finished stays as it is and takes nothing, whatever is done to it
  pub idle : (ds : List Deed) (m : S) → role.finished m ≡ true → (ran role m ds ≡ m) × (inputs role m ds ≡ [])
  unfolding ran inputs
  idle [] m h = (refl, refl)
  idle (call c ∷ ds) m h =
      subst (λ (o : Outcome S). (ran role o.next ds ≡ m) × (keep (is_taken o.answer) c (inputs role o.next ds) ≡ [])) (sym (stays role m c h)) (idle ds m h)
  idle (mark ∷ ds) m h = subst (λ (s : S). (ran role s ds ≡ m) × (inputs role s ds ≡ [])) (sym (timeout_stays role m h)) (idle ds m h)

  -- a rank that every taken call lowers and no mark raises
  module _ (rank : S → ℕ) (low : (m : S) (c : Call) → Along c.supplied (Lower role rank m) (plan role m c.input c.room))
      (marked : (m : S) → rank (timed_out role m) ≤ rank m) where
    pub bound : (ds : List Deed) (m : S) → length (inputs role m ds) + rank (ran role m ds) ≤ rank m
    unfolding ran inputs run history
    bound [] m = omega arith
    bound (call c ∷ ds) m =
        omega (arith, kept (is_taken (step role m c).answer) (inputs role (after role m c) ds), Runs.bound role rank low (c ∷ []) m, bound ds (after role m c))
      where
        kept : (b : Bool) (h : List Call) → length (keep b c h) ≡ length (keep b c []) + length h
        kept true h = omega arith
        kept false h = omega arith
    bound (mark ∷ ds) m = omega (arith, marked m, bound ds (timed_out role m))
