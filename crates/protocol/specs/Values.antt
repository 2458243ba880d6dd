-- Sample values, for the tables of this crate and of the roles. Each counts up from a first octet of its own: no two are alike, so that one that is
-- exchanged, left out or not turned round shows. And what is made of them, by position.
use Rattle.std.specs.Prelude.{ℕ, zero, suc, ◌+◌, List, [], ◌∷◌, Bool, Option}
use Rattle.octets.specs.Octets.{zeros}
use Rattle.address.specs.declared.Address.{Address}
use Rattle.address.specs.declared.AddressKind.TheVariants.{Public, Random}
use Rattle.features.specs.declared.IoCapabilities.{IoCapabilities}
use Rattle.features.specs.declared.UseOutOfBand.{UseOutOfBand}
use Rattle.method.specs.declared.SecurityLevel.{SecurityLevel}
use Rattle.protocol.specs.declared.Bond.{Bond}
use Rattle.protocol.specs.declared.Check.{Check}
use Rattle.protocol.specs.declared.Commitment.{Commitment}
use Rattle.protocol.specs.declared.Question.{Question}
use Rattle.protocol.specs.declared.Question.TheVariants as Q
use Rattle.protocol.specs.declared.Secrets.{Secrets}
use Rattle.protocol.specs.declared.Setup.{Setup}
use Rattle.protocol.specs.declared.Supplied.{Supplied}

-- n octets, counting up from a
unfoldable pub from : ℕ → ℕ → List ℕ
from a zero = []
from a (suc n) = a ∷ from (a + 1) n

-- sixteen zeros
abbrev pub none : List ℕ
none = zeros 16

-- addresses
abbrev pub public : List ℕ → Address
public octets = record { kind = Public; octets = octets }

abbrev pub random : List ℕ → Address
random octets = record { kind = Random; octets = octets }

abbrev pub nobody : Address
nobody = public (zeros 6)

-- Ours: the public key, the IRK, the address of the connection, the identity address; and the peer's address of the connection

abbrev pub our_x : List ℕ
our_x = from 0x01 32

abbrev pub our_y : List ℕ
our_y = from 0x02 32

abbrev pub our_irk : List ℕ
our_irk = from 0x03 16

abbrev pub our_address : Address
our_address = random (from 0x04 6)

abbrev pub our_identity : Address
our_identity = public (from 0x05 6)

abbrev pub peer_address : Address
peer_address = public (from 0x06 6)

-- What was exchanged; the peer's confirm and its check are what is supplied for them

abbrev pub peer_x : List ℕ
peer_x = from 0x0A 32

abbrev pub dh_key : List ℕ
dh_key = from 0x0B 32

abbrev pub confirm : List ℕ
confirm = from 0x0C 16

abbrev pub peer_nonce : List ℕ
peer_nonce = from 0x0D 16

abbrev pub our_nonce : List ℕ
our_nonce = from 0x0E 16

abbrev pub peer_secret : List ℕ
peer_secret = from 0x0F 16

abbrev pub our_secret : List ℕ
our_secret = from 0x10 16

abbrev pub check : List ℕ
check = from 0x11 16

-- What is drawn, and what is answered

abbrev pub new_nonce : List ℕ
new_nonce = from 0x16 16

abbrev pub new_key : List ℕ
new_key = from 0x17 32

abbrev pub our_confirm : List ℕ
our_confirm = from 0x18 16

abbrev pub mac_key : List ℕ
mac_key = from 0x19 16

abbrev pub link_key : List ℕ
link_key = from 0x1A 16

abbrev pub our_check : List ℕ
our_check = from 0x1B 16

-- What comes: a public key, a value; out of band our random and the peer's

abbrev pub new_x : List ℕ
new_x = from 0x1C 32

abbrev pub new_y : List ℕ
new_y = from 0x1D 32

abbrev pub value : List ℕ
value = from 0x1E 16

abbrev pub our_random : List ℕ
our_random = from 0x20 16

abbrev pub peer_random : List ℕ
peer_random = from 0x21 16

-- By position

-- each kind of question by its arguments, as Part H 2.2.6 to 2.2.9 has them
abbrev pub dh : List ℕ → List ℕ → Question
dh x y = Q.DH x y

abbrev pub f4 : (Commitment → Question) → List ℕ → List ℕ → List ℕ → ℕ → Question
f4 whose u v x z = whose (record { u = u; v = v; x = x; z = z })

abbrev pub f5 : List ℕ → List ℕ → List ℕ → Address → Address → Question
f5 w n1 n2 a1 a2 = Q.F5 w n1 n2 a1 a2

abbrev pub f6 : (Check → Question) → List ℕ → List ℕ → List ℕ → List ℕ → List ℕ → Address → Address → Question
f6 whose w n1 n2 r iocap a1 a2 = whose (record { w = w; n1 = n1; n2 = n2; r = r; iocap = iocap; a1 = a1; a2 = a2 })

abbrev pub g2 : List ℕ → List ℕ → List ℕ → List ℕ → Question
g2 u v x y = Q.G2 u v x y

-- what was exchanged: the peer's x, the DHKey, the peer's confirm, the nonces (the peer's, ours), the secrets (the peer's, ours), the passkey
abbrev pub secrets : List ℕ → List ℕ → List ℕ → List ℕ → List ℕ → List ℕ → List ℕ → ℕ → Secrets
secrets x w c n1 n2 s1 s2 p =
    record { peerx = x; dhkey = w; confirm = c; peernonce = n1; ownnonce = n2; peersecret = s1; ownsecret = s2; passkey = p }

-- a passkey's sixteen octets, by its last three
abbrev pub secret : ℕ → ℕ → ℕ → List ℕ
secret a b c = 0 ∷ 0 ∷ 0 ∷ 0 ∷ 0 ∷ 0 ∷ 0 ∷ 0 ∷ 0 ∷ 0 ∷ 0 ∷ 0 ∷ 0 ∷ a ∷ b ∷ c ∷ []

-- a bond: the link key, the level, the peer's address and its IRK
abbrev pub bond : List ℕ → SecurityLevel → Address → List ℕ → Bond
bond ltk level address irk = record { ltk = ltk; level = level; address = address; irk = irk }

-- our side: IO, OOB, whether it asks bonding, the configured passkey, the IRK and the known bond
abbrev pub setup : IoCapabilities → UseOutOfBand → Bool → Option ℕ → List ℕ → Option Bond → Setup
setup io oob bonding passkey irk known =
    record { io = io; oob = oob; bonding = bonding; passkey = passkey; keyx = our_x; keyy = our_y; irk = irk; own = our_address; identity = our_identity; peer = peer_address; known = known }

-- what is supplied: whether DH is valid, and a drawn passkey. g2's answer has more than six digits
abbrev pub handing : Bool → ℕ → Supplied
handing valid drawn =
    record { nonce = new_nonce; passkey = drawn; dhvalid = valid; dhkey = new_key; ownconfirm = our_confirm; peerconfirm = confirm; g2 = 4123456789; mackey = mac_key; ltk = link_key; peercheck = check; owncheck = our_check }

-- what was exchanged before the sample, with the passkey 345,678
abbrev pub had : Secrets
had = secrets peer_x dh_key confirm peer_nonce our_nonce peer_secret our_secret 345678
