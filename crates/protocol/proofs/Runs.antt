-- Runs of any role: calls in two parts, the taken calls alone, and a rank that every taken call lowers. Assumes nothing.
use Prim.Native.Nat.{ℕ, ◌+◌, ◌≤◌}
use mathlib.Core.Path.{◌≡◌, refl, ap, ◌∙◌}
use mathlib.Core.List.{List, [], ◌∷◌, ◌++◌}
use mathlib.Core.Bool.{Bool, true, false}
use lib.ListN.{length}
use lib.Dec.{ltb}
use native.Mathlib.Omega.{arith}
use borrow.Author.Tests.{ltb-false}
use Rattle.protocol.specs.declared.Refusal.TheVariants as R
use Rattle.protocol.specs.Plan.{Plan, Ending, ends, tests, refuses, fails, moves, runs, Along}
use Rattle.protocol.specs.Role.{Role, Call, said, taking, plan, step, ranged, enough, after, run, is_taken, keep, history, Lower}
use Rattle.protocol.proofs.Plan.{along}

-- each call has an outbox that is long enough
unfoldable pub Roomy : List Call → Type 0
Roomy [] = Unit {0}
Roomy (c ∷ h) = (enough ≤ c.room) × Roomy h

module _ {S : Type 0} (role : Role S) where
  pub run_append : (cs ds : List Call) (m : S) → run role m (cs ++ ds) ≡ run role (run role m cs) ds
  unfolding run
  run_append [] ds m = refl
  run_append (c ∷ cs) ds m = run_append cs ds (after role m c)

  -- a call that comes to an end is followed
  pub took : (m : S) (c : Call) (h : List Call) (e : Ending S) → runs c.supplied (plan role m c.input c.room) ≡ e
      → run role m (c ∷ h) ≡ run role (said role m e).next h
  unfolding run step
  took m c h e i = ap (λ x. run role (said role m x).next h) i

  -- the taken calls alone make the same run
  pub replay : (cs : List Call) (m : S) → run role m (history role m cs) ≡ run role m cs
  unfolding run history step
  replay [] m = refl
  replay (c ∷ cs) m = go (runs c.supplied (plan role m c.input c.room)) refl (replay cs (after role m c))
    where
      go : (e : Ending S) → runs c.supplied (plan role m c.input c.room) ≡ e
          → run role (said role m e).next (history role (said role m e).next cs) ≡ run role (said role m e).next cs
          → run role m (keep (is_taken (said role m e).answer) c (history role (said role m e).next cs)) ≡ run role (said role m e).next cs
      go (refuses r) e h = h
      go (fails x f) e h = took m c (history role (role.failed m f) cs) (fails x f) e ∙ h
      go (moves s ps x y a) e h = took m c (history role s cs) (moves s ps x y a) e ∙ h

  -- each taken call had an outbox that is long enough
  pub roomy : (cs : List Call) (m : S) → Roomy (history role m cs)
  unfolding history Roomy step runs
  roomy [] m = tt
  roomy (c ∷ cs) m = go (role.finished m) (ltb c.room enough) refl (tests (ranged c.input) (taking role m c.input) (ends (refuses R.PasskeyRange))) (roomy cs _)
    where
      kept : (e : Ending S) (h : List Call) → enough ≤ c.room → Roomy h → Roomy (keep (is_taken (said role m e).answer) c h)
      kept (refuses r) h n g = g
      kept (fails x f) h n g = (n, g)
      kept (moves s ps x y a) h n g = (n, g)

      go : (b d : Bool) → ltb c.room enough ≡ d → (p : Plan S) →
          (let e : Ending S = runs c.supplied (tests b (ends (refuses R.Finished)) (tests d (ends (refuses R.OutboxShort)) p)) in
          Roomy (history role (said role m e).next cs) → Roomy (keep (is_taken (said role m e).answer) c (history role (said role m e).next cs)))
      go true d i p g = g
      go false true i p g = g
      go false false i p g = kept (runs c.supplied p) _ (ltb-false c.room enough i) g

  -- a rank that every taken call lowers
  module _ (rank : S → ℕ) (low : (m : S) (c : Call) → Along c.supplied (Lower role rank m) (plan role m c.input c.room)) where
    pub bound : (cs : List Call) (m : S) → length (history role m cs) + rank (run role m cs) ≤ rank m
    unfolding run history step
    bound [] m = omega arith
    bound (c ∷ cs) m = go (runs c.supplied (plan role m c.input c.room)) (along c.supplied (Lower role rank m) _ (low m c)) (bound cs _)
      where
        go : (e : Ending S) → Lower role rank m e → length (history role (said role m e).next cs) + rank (run role (said role m e).next cs) ≤ rank (said role m e).next
            → length (keep (is_taken (said role m e).answer) c (history role (said role m e).next cs)) + rank (run role (said role m e).next cs) ≤ rank m
        go (refuses r) l h = h
        go (fails x f) l h = omega arith
        go (moves s ps x y a) l h = omega arith
