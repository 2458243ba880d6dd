-- Error is where a call failed, and no question follows a failure; BondLost is raised exactly for a request while a bond is known; and a call that is taken
-- goes on or succeeds. (What a failed call leaves is as in any role.) Assumes nothing.
use Rattle.std.specs.Prelude.{Option, Some, None, IsSome, Result, Ok, Err, option_map}
use Prim.Native.Nat.{ℕ, ◌≤◌}
use mathlib.Core.Path.{◌≡◌, refl, sym, ap, subst, ◌∙◌}
use mathlib.Core.Logic.{◌↔◌, inl, inr}
use mathlib.Core.Bool.{false, false≢true}
use native.Mathlib.Omega.{arith}
use borrow.Author.Tests.{le-ltb, eq-eqb}
use Rattle.features.specs.declared.PairingFeatures.{PairingFeatures}
use Rattle.frames.specs.Packets.{request_code}
use Rattle.protocol.specs.declared.Action.{Action}
use Rattle.protocol.specs.declared.Answer.{Answer}
use Rattle.protocol.specs.declared.Answer.TheVariants as A
use Rattle.protocol.specs.declared.Bond.{Bond}
use Rattle.protocol.specs.declared.ConnectionEvent.{ConnectionEvent}
use Rattle.protocol.specs.declared.ConnectionEvent.TheVariants as E
use Rattle.protocol.specs.declared.Failure.{Failure}
use Rattle.protocol.specs.declared.Supplied.{Supplied}
use Rattle.protocol.specs.Plan.{ends as finally, runs, asked}
use Rattle.protocol.specs.Parts.{accept_of, accepting}
use Rattle.protocol.specs.Role.{Input, Call, enough, said, plan, step, questions}
use Rattle.protocol.proofs.Ends.{changes_nothing, ends}
use Rattle.protocol.proofs.Front.{roomy_plan}
use Rattle.machine.specs.declared.Phase.TheVariants as P
use Rattle.machine.specs.declared.State.{State}
use Rattle.machine.specs.State.{at, finished_phase}
use Rattle.machine.specs.Request.{lost, responding}
use Rattle.machine.specs.Responder.{responder}
use Rattle.machine.specs.Failures.{Loses, loses, Before, Asked, kinds, Onward, goes, succeeds}
use Rattle.machine.proofs.Ends.{Answered, end}

no_error : {s : State} {x : Option ConnectionEvent} {y : Option Action} {f : Failure} → Onward s x y → s.phase ≡ P.Error f → ⊥
no_error (goes u v w) i = false≢true (sym u ∙ ap finished_phase i)
no_error (succeeds v) i = let z : ◌≡◌ {A = ℕ} 0 1 = cc in omega arith

-- A call that is taken goes on or succeeds: with the type `Answer`, there is no fourth end
pub goes_on : (m : State) (c : Call) → let o = step responder m c in o.answer ≡ A.Taken → Onward o.next o.second o.action
unfolding step
goes_on m c e = rw e at (end m c).answer

module _ (m : State) (c : Call) (f : Failure) where
  in_error : finished_phase m.phase ≡ false → (step responder m c).next.phase ≡ P.Error f → (x : Answer) → (step responder m c).answer ≡ x → x ≡ A.Failed f
  in_error u i (A.Refused r) e = absurd (false≢true (sym u ∙ ap (λ (s : State). finished_phase s.phase) (sym (changes_nothing responder m c r e).next) ∙ ap finished_phase i))
  in_error u i (A.Failed g) e = let d = (ends responder m c g e).next in cc
  in_error u i A.Taken e = absurd (no_error (goes_on m c e) i)

  -- Error with a failure, exactly where the call failed with it
  pub error_iff : finished_phase m.phase ≡ false → ((step responder m c).next.phase ≡ P.Error f) ↔ ((step responder m c).answer ≡ A.Failed f)
  error_iff u = (λ i. in_error u i _ refl, λ e. ap (λ (s : State). s.phase) (ends responder m c f e).next)

  -- and nothing else of the state changes
  pub error_next : (step responder m c).answer ≡ A.Failed f → (step responder m c).next ≡ at m (P.Error f)
  error_next e = (ends responder m c f e).next

  -- no question follows a failure: what was asked ends with the question that failed it
  pub asks_no_more : (step responder m c).answer ≡ A.Failed f → Asked f (kinds (questions responder m c.input c.supplied))
  unfolding step questions
  asks_no_more e =
      let h : Answered m c (asked c.supplied (plan responder m c.input c.room)) (step responder m c) (A.Failed f) = rw e at (end m c).answer in
      subst (λ p. Asked f (kinds (asked c.supplied p))) (roomy_plan responder m c.input c.room h.0) h.1

-- BondLost

lost_by : (m : State) (c : Call) {x : Option ConnectionEvent} → Before m c x → x ≡ Some E.BondLost → (enough ≤ c.room) × Loses m c.input
lost_by m c (inl n) e = let z : ◌≡◌ {A = ℕ} 0 1 = cc in absurd (omega arith)
lost_by m c (inr l) e = (l.1, l.2)

losing : (m : State) (a : Supplied) (n : ℕ) {i : Input} → enough ≤ n → Loses m i → (said responder m (runs a (plan responder m i n))).first ≡ Some E.BondLost
unfolding runs
losing m a n h (loses {code} {body} p k t) = rw (p, le-ltb n enough h, eq-eqb code request_code k) (go (at m P.WaitingPairingRequest) t (accept_of body))
  where
    known : (b : Option Bond) → IsSome b → option_map (λ x. E.BondLost) b ≡ Some E.BondLost
    known (Some b) t = refl
    known None t = absurd (false≢true t)

    go : (s : State) → IsSome s.setup.known → (x : Result PairingFeatures Failure)
        → (said responder s (runs a (accepting (lost s) x λ f. finally (responding s f)))).first ≡ Some E.BondLost
    go s t (Err f) = known s.setup.known t
    go s t (Ok f) = known s.setup.known t

module _ (m : State) (c : Call) where
  -- the first event is BondLost or nothing
  pub first_event : Before m c (step responder m c).first
  unfolding step
  first_event = (end m c).first

  -- BondLost comes of a request while a bond is known, a failing one included, unless the outbox is short
  pub lost_iff : ((step responder m c).first ≡ Some E.BondLost) ↔ ((enough ≤ c.room) × Loses m c.input)
  unfolding step
  lost_iff = (lost_by m c first_event, λ h. losing m c.supplied c.room h.0 h.1)
