-- No call changes the setup, and none but a request the peer's features. Assumes nothing.
use mathlib.Core.Path.{◌≡◌, sym, ap}
use mathlib.Core.Logic.{◌⊎◌}
use Rattle.protocol.specs.Role.{Call, step}
use Rattle.machine.specs.declared.Phase.TheVariants as P
use Rattle.machine.specs.declared.State.{State}
use Rattle.machine.specs.State.{progress_of, joined_of}
use Rattle.machine.specs.Responder.{responder}
use Rattle.machine.proofs.Ends.{end}

module _ (m : State) (c : Call) where
  pub setup_kept : (step responder m c).next.setup ≡ m.setup
  unfolding step
  setup_kept = (end m c).setup

  pub features_kept : ((step responder m c).next.features ≡ m.features) ⊎ (m.phase ≡ P.WaitingPairingRequest)
  unfolding step
  features_kept = (end m c).features

  -- so a step gives back all of the state but the setup that it was given
  pub joined_kept : joined_of m.setup (progress_of (step responder m c).next) ≡ (step responder m c).next
  joined_kept = ap (λ s. joined_of s (progress_of (step responder m c).next)) (sym setup_kept)
