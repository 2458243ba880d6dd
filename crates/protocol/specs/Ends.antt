-- What a refused call leaves, and what a failed one, for every role.
use Rattle.std.specs.Prelude.{◌≡◌, [], Some, None}
use Rattle.protocol.specs.declared.ConnectionEvent.TheVariants as E
use Rattle.protocol.specs.declared.Failure.{Failure}
use Rattle.protocol.specs.Role.{Role, Outcome}

-- nothing has changed: no state, no packet, no event, no action
pub record Unchanged {S : Type 0} (m : S) (o : Outcome S) : Type 0 where
  pub next : o.next ≡ m
  pub packets : o.packets ≡ []
  pub first : o.first ≡ None
  pub second : o.second ≡ None
  pub action : o.action ≡ None

-- the state after the failure; no packet, no action; PairingFailed last
pub record Ended {S : Type 0} (role : Role S) (m : S) (f : Failure) (o : Outcome S) : Type 0 where
  pub next : o.next ≡ role.failed m f
  pub packets : o.packets ≡ []
  pub second : o.second ≡ Some (E.PairingFailed f)
  pub action : o.action ≡ None
