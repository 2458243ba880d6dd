-- What the packets of a step need of the outbox.
use Rattle.std.specs.Prelude.{◌≡◌, length}
use Rattle.protocol.specs.declared.Supplied.{Supplied}
use Rattle.machine.specs.declared.State.{State}

-- the arrays that packets are made of have the lengths that the code's types give them
pub record Sized (m : State) (a : Supplied) : Type 0 where
  pub keyx : length m.setup.keyx ≡ 32
  pub keyy : length m.setup.keyy ≡ 32
  pub irk : length m.setup.irk ≡ 16
  pub identity : length m.setup.identity.octets ≡ 6
  pub ownnonce : length m.secrets.ownnonce ≡ 16
  pub nonce : length a.nonce ≡ 16
  pub ownconfirm : length a.ownconfirm ≡ 16
  pub owncheck : length a.owncheck ≡ 16
