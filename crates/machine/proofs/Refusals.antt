-- A call is refused in the scope's three cases and in no other, in its order. (It then changes nothing, as in any role.) Assumes nothing.
use Prim.Native.Nat.{ℕ, ◌<◌, ◌≤◌}
use mathlib.Core.Path.{◌≡◌, ap}
use mathlib.Core.Logic.{◌↔◌}
use mathlib.Core.Bool.{true, false}
use borrow.Author.Tests.{eq-eqb, le-ltb, lt-leb}
use Rattle.frames.specs.Packets.{public_key_code}
use Rattle.protocol.specs.declared.Answer.TheVariants as A
use Rattle.protocol.specs.declared.Event.TheVariants as I
use Rattle.protocol.specs.declared.Refusal.{Refusal}
use Rattle.protocol.specs.declared.Refusal.TheVariants as R
use Rattle.protocol.specs.declared.Supplied.{Supplied}
use Rattle.protocol.specs.Plan.{refuses, runs}
use Rattle.protocol.specs.Role.{Input, event, Call, enough, said, step}
use Rattle.protocol.proofs.Ends.{stays, short, out_of_range}
use Rattle.machine.specs.declared.State.{State}
use Rattle.machine.specs.State.{finished_phase}
use Rattle.machine.specs.Responder.{responder}
use Rattle.machine.specs.Refusals.{reads, Outside, typed, drawn, Refuses}
use Rattle.machine.proofs.Ends.{bring, end}

-- the step in each case
outside : (m : State) (a : Supplied) (n : ℕ) {i : Input} → finished_phase m.phase ≡ false → enough ≤ n → Outside m a i → step responder m (bring i a n) ≡ said responder m (refuses R.PasskeyRange)
unfolding step runs
outside m a n u h (typed {p} l) = out_of_range responder m (bring (event (I.PassKeyInput p)) a n) u h (lt-leb p 999999 l)
outside m a n u h (drawn (reads {code} central p e k v w d) l) =
    rw (p, le-ltb n enough h, eq-eqb code public_key_code e, k, v, w, d, lt-leb a.passkey 999999 l)

refusing : (m : State) (c : Call) (x : Refusal) → Refuses m c x → step responder m c ≡ said responder m (refuses x)
refusing m c R.Finished h = stays responder m c h
refusing m c R.OutboxShort h = short responder m c h.0 h.1
refusing m c R.PasskeyRange h = outside m c.supplied c.room h.0 h.1 h.2

refuses_iff : (m : State) (c : Call) (x : Refusal) → ((step responder m c).answer ≡ A.Refused x) ↔ Refuses m c x
unfolding step
refuses_iff m c x = (λ e. rw e at (end m c).answer, λ h. ap (λ o. o.answer) (refusing m c x h))

module _ (m : State) (c : Call) where
  -- R1: in Success and Error
  pub finished_iff : ((step responder m c).answer ≡ A.Refused R.Finished) ↔ (finished_phase m.phase ≡ true)
  finished_iff = refuses_iff m c R.Finished

  -- R2: elsewhere, with an outbox that is too short
  pub short_iff : ((step responder m c).answer ≡ A.Refused R.OutboxShort) ↔ ((finished_phase m.phase ≡ false) × (c.room < enough))
  short_iff = refuses_iff m c R.OutboxShort

  -- R3: elsewhere, with an outbox that suffices, and a passkey above 999,999
  pub range_iff : ((step responder m c).answer ≡ A.Refused R.PasskeyRange)
      ↔ ((finished_phase m.phase ≡ false) × (enough ≤ c.room) × Outside m c.supplied c.input)
  range_iff = refuses_iff m c R.PasskeyRange
