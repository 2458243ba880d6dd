-- For every role: a refused call changes nothing, a failed one ends the machine, R1, R2 and R3 of an event come first, in this order, and ask nothing, and
-- a timeout ends what is not finished. Assumes nothing.
use Prim.Native.Nat.{ℕ, ◌≤◌, ◌<◌}
use mathlib.Core.Path.{◌≡◌, refl, ap}
use mathlib.Core.List.{[]}
use mathlib.Core.Bool.{Bool, true, false, true≢false, false≢true, cond}
use native.Mathlib.Omega.{arith}
use borrow.Author.Tests.{lt-ltb, le-ltb}
use Rattle.protocol.specs.declared.Answer.TheVariants as A
use Rattle.protocol.specs.declared.Failure.{Failure}
use Rattle.protocol.specs.declared.Failure.TheVariants as F
use Rattle.protocol.specs.declared.Refusal.{Refusal}
use Rattle.protocol.specs.declared.Refusal.TheVariants as R
use Rattle.protocol.specs.declared.Supplied.{Supplied}
use Rattle.protocol.specs.Plan.{Ending, refuses, fails, moves, runs, asked}
use Rattle.protocol.specs.Role.{Role, Input, Call, ranged, enough, is_taken, said, plan, step, questions, timed_out}
use Rattle.protocol.specs.Ends.{Unchanged, Ended}

-- the same either way
pub either : {A : Type 0} (b : Bool) (x : A) → cond b x x ≡ x
either true x = refl
either false x = refl

module _ {S : Type 0} (role : Role S) (m : S) where
  unchanged : (x : Refusal) (e : Ending S) → (said role m e).answer ≡ A.Refused x → Unchanged m (said role m e)
  unchanged x (refuses r) h = record { next = refl; packets = refl; first = refl; second = refl; action = refl }
  unchanged x (fails v f) h = absurd (true≢false (ap is_taken h))
  unchanged x (moves s ps v w a) h = absurd (true≢false (ap is_taken h))

  ended : (f : Failure) (e : Ending S) → (said role m e).answer ≡ A.Failed f → Ended role m f (said role m e)
  ended f (refuses r) h = absurd (false≢true (ap is_taken h))
  ended f (fails v g) h = let d : g ≡ f = cc in record { next = rw d; packets = refl; second = rw d; action = refl }
  ended f (moves s ps v w a) h = let z : ◌≡◌ {A = ℕ} 0 1 = cc in absurd (omega arith)

  module _ (c : Call) where
    pub changes_nothing : (x : Refusal) → (step role m c).answer ≡ A.Refused x → Unchanged m (step role m c)
    unfolding step
    changes_nothing x = unchanged x (runs c.supplied (plan role m c.input c.room))

    pub ends : (f : Failure) → (step role m c).answer ≡ A.Failed f → Ended role m f (step role m c)
    unfolding step
    ends f = ended f (runs c.supplied (plan role m c.input c.room))

    -- Refusals, each where those before it are not given

    pub stays : role.finished m ≡ true → step role m c ≡ said role m (refuses R.Finished)
    unfolding step runs
    stays h = rw h

    pub short : role.finished m ≡ false → c.room < enough → step role m c ≡ said role m (refuses R.OutboxShort)
    unfolding step runs
    short u h = rw (u, lt-ltb c.room enough h)

    pub out_of_range : role.finished m ≡ false → enough ≤ c.room → ranged c.input ≡ false → step role m c ≡ said role m (refuses R.PasskeyRange)
    unfolding step runs
    out_of_range u h r = rw (u, le-ltb c.room enough h, r)

  module _ (i : Input) (a : Supplied) where
    pub finished_asks_nothing : role.finished m ≡ true → questions role m i a ≡ []
    unfolding questions asked
    finished_asks_nothing h = rw h

    pub range_asks_nothing : ranged i ≡ false → questions role m i a ≡ []
    unfolding questions asked
    range_asks_nothing h = rw h (either (role.finished m) [])

  -- Marking a timeout: none where the machine is finished, and Error 18 elsewhere

  pub timeout_stays : role.finished m ≡ true → timed_out role m ≡ m
  unfolding timed_out
  timeout_stays h = rw h

  pub timeout_ends : role.finished m ≡ false → timed_out role m ≡ role.failed m F.Timeout
  unfolding timed_out
  timeout_ends h = rw h

  -- what has failed is finished: so is the machine then
  pub timeout_finished : role.finished (role.failed m F.Timeout) ≡ true → role.finished (timed_out role m) ≡ true
  unfolding timed_out
  timeout_finished h = go (role.finished m) refl
    where
      go : (b : Bool) → role.finished m ≡ b → role.finished (cond b m (role.failed m F.Timeout)) ≡ true
      go true e = e
      go false e = h

-- and a second mark changes nothing
pub timeout_twice : {S : Type 0} (role : Role S) (m : S) → role.finished (role.failed m F.Timeout) ≡ true → timed_out role (timed_out role m) ≡ timed_out role m
timeout_twice role m h = timeout_stays role (timed_out role m) (timeout_finished role m h)
