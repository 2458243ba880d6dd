-- An outbox that is long enough holds the frames of every step, so nothing is ever cut: they stand at its start, and after them is what was there.
-- Assumes nothing.
use Prim.Native.Nat.{ℕ, suc, ◌≤◌}
use mathlib.Core.Path.{◌≡◌, refl, ap, ◌∙◌}
use mathlib.Core.List.{List, [], ◌∷◌, ◌++◌}
use mathlib.Core.Bool.{Bool, true, false, cond}
use native.Mathlib.Omega.{arith}
use lib.ListN.{length, drop}
use Rattle.octets.specs.Write.{over}
use Rattle.octets.proofs.Write.{laid_room, wrote_room}
use Rattle.features.specs.Bits.{identity_bit}
use Rattle.frames.specs.Packets.{Packet, pairing_response, pairing_confirm, pairing_random, identity_information, identity_address, dhkey_check, framed, channel}
use Rattle.frames.proofs.Frames.{length_value, length_key}
use Rattle.protocol.specs.declared.Supplied.{Supplied}
use Rattle.protocol.specs.Met.{Met}
use Rattle.protocol.specs.Role.{Call, enough, step}
use Rattle.protocol.proofs.Room.{one_packet, two_packets, longest}
use Rattle.machine.specs.declared.State.{State}
use Rattle.machine.specs.declared.Step.{Step}
use Rattle.machine.specs.Request.{own_features}
use Rattle.machine.specs.Exchange.{own_key}
use Rattle.machine.specs.Responder.{responder, step_of}
use Rattle.machine.specs.Room.{Sized}
use Rattle.machine.proofs.Ends.{Sends, end}

module _ {m : State} {a : Supplied} (z : Sized m a) where
  identity : (b : Bool) → length (framed channel (cond b (identity_information m.setup.irk ∷ identity_address m.setup.identity ∷ []) [])) ≤ enough
  identity true =
      omega (arith, two_packets (identity_information m.setup.irk) (identity_address m.setup.identity) 16 7 (length_value _ 16 z.irk) (ap suc (length_value _ 6 z.identity)))
  identity false = omega arith

  fits_by : {ps : List Packet} → Sends m a ps → length (framed channel ps) ≤ enough
  fits_by Sends.nothing = omega arith
  fits_by (Sends.response {f}) = omega (arith, one_packet (pairing_response f) 6 refl)
  fits_by Sends.key = omega (arith, one_packet (own_key m) 64 (length_key _ _ z.keyx z.keyy))
  fits_by Sends.key_confirm = omega (arith, longest m.setup.keyx m.setup.keyy a.ownconfirm z.keyx z.keyy z.ownconfirm)
  fits_by Sends.confirm = omega (arith, one_packet (pairing_confirm a.ownconfirm) 16 (length_value _ 16 z.ownconfirm))
  fits_by Sends.kept_nonce = omega (arith, one_packet (pairing_random m.secrets.ownnonce) 16 (length_value _ 16 z.ownnonce))
  fits_by Sends.drawn_nonce = omega (arith, one_packet (pairing_random a.nonce) 16 (length_value _ 16 z.nonce))
  fits_by Sends.check = omega (arith, one_packet (dhkey_check a.owncheck) 16 (length_value _ 16 z.owncheck))
  fits_by Sends.identity = identity (identity_bit (own_features m.setup m.features).responder)

module _ (m : State) (c : Call) (z : Sized m c.supplied) where
  -- a step sends at most that many octets
  pub fits : length (framed channel (step responder m c).packets) ≤ enough
  unfolding step
  fits = fits_by z (end m c).packets

  -- so what a caller that lent them finds is the frames, counted, and after them what was there
  pub whole : {r : Step} {before after : List ℕ} → enough ≤ length before → Met step_of channel (step responder m c) r before after
      → let frames = framed channel (step responder m c).packets in (r.sent ≡ length frames) × (after ≡ frames ++ drop (length frames) before)
  unfolding over
  whole {before} room met =
      let frames = framed channel (step responder m c).packets in
      (ap (λ x. x.sent) met.step ∙ wrote_room frames before (omega (arith, fits)), met.out ∙ laid_room frames before (omega (arith, fits)))
