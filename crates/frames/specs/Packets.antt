-- The packets of the Security Manager that are sent, and their octets: one command (Part H 3.3) in an L2CAP basic frame (Vol 3 Part A 3.1).
use Rattle.std.specs.Prelude.{ℕ, ◌+◌, ◌/◌, ◌%◌, List, [], ◌∷◌, ◌++◌, length}
use Rattle.octets.specs.Octets.{flip}
use Rattle.features.specs.declared.PairingFeatures.{PairingFeatures}
use Rattle.features.specs.Features.{encode_of}
use Rattle.address.specs.declared.Address.{Address}
use Rattle.address.specs.Identity.{kind_number}

-- The codes, Part H 3.3

abbrev pub request_code : ℕ
request_code = 0x01

abbrev pub response_code : ℕ
response_code = 0x02

abbrev pub confirm_code : ℕ
confirm_code = 0x03

abbrev pub random_code : ℕ
random_code = 0x04

abbrev pub identity_information_code : ℕ
identity_information_code = 0x08

abbrev pub identity_address_code : ℕ
identity_address_code = 0x09

abbrev pub security_request_code : ℕ
security_request_code = 0x0B

abbrev pub public_key_code : ℕ
public_key_code = 0x0C

abbrev pub check_code : ℕ
check_code = 0x0D

-- The packets. Values, coordinates and addresses are most significant octet first here, and travel least significant first

pub data Packet : Type 0 where
  -- Part H 3.5.2, 3.5.3, 3.5.4
  pairing_response : PairingFeatures → Packet
  pairing_confirm pairing_random : List ℕ → Packet
  -- Part H 3.6.4, 3.6.5, 3.6.7
  identity_information : List ℕ → Packet
  identity_address : Address → Packet
  security_request : ℕ → Packet
  -- Part H 3.5.6, 3.5.7
  public_key : List ℕ → List ℕ → Packet
  dhkey_check : List ℕ → Packet

abbrev pub code_of : Packet → ℕ
code_of (pairing_response features) = response_code
code_of (pairing_confirm value) = confirm_code
code_of (pairing_random nonce) = random_code
code_of (identity_information irk) = identity_information_code
code_of (identity_address address) = identity_address_code
code_of (security_request authreq) = security_request_code
code_of (public_key x y) = public_key_code
code_of (dhkey_check value) = check_code

abbrev pub payload_of : Packet → List ℕ
payload_of (pairing_response features) = encode_of features
payload_of (pairing_confirm value) = flip value
payload_of (pairing_random nonce) = flip nonce
payload_of (identity_information irk) = flip irk
payload_of (identity_address address) = kind_number address.kind ∷ flip address.octets
payload_of (security_request authreq) = authreq ∷ []
payload_of (public_key x y) = flip x ++ flip y
payload_of (dhkey_check value) = flip value

-- The frames

-- Part H 3.2: the fixed channel of the Security Manager on LE
abbrev pub channel : ℕ
channel = 0x0006

-- length and channel, both least significant octet first, and the code; `size` counts the code and the payload
abbrev pub head : ℕ → ℕ → ℕ → List ℕ
head channel size code = size % 256 ∷ size / 256 ∷ channel % 256 ∷ channel / 256 ∷ code ∷ []

unfoldable pub frame : ℕ → ℕ → List ℕ → List ℕ
frame channel code payload = head channel (length payload + 1) code ++ payload

-- packets on a channel, a frame each, one after the other
abbrev pub framed : ℕ → List Packet → List ℕ
framed channel [] = []
framed channel (p ∷ []) = frame channel (code_of p) (payload_of p)
framed channel (p ∷ (q ∷ ps)) = frame channel (code_of p) (payload_of p) ++ framed channel (q ∷ ps)
