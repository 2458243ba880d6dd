-- Identity Address Information: Part H 3.6.5.
use Rattle.std.specs.Prelude.{ℕ, List, Option, Some, None, Result, Ok, Err, cond, length, take, drop, get_or, eqb, leb}
use Rattle.octets.specs.Octets.{flip}
use Rattle.address.specs.declared.Address.{Address}
use Rattle.address.specs.declared.AddressKind.{AddressKind}
use Rattle.address.specs.declared.AddressKind.TheVariants.{Public, Random}
use Rattle.address.specs.declared.UnknownKind.{UnknownKind}

-- Part H 3.6.5: the type octet
abbrev pub kind_number : AddressKind → ℕ
kind_number Public = 0
kind_number Random = 1

-- 0 and 1; no other number is a type
abbrev pub kind_from : ℕ → Result AddressKind UnknownKind
kind_from n = cond (eqb n 0) (Ok Public) (cond (eqb n 1) (Ok Random) (Err record { 0 = n }))

-- an address that came
abbrev pub received_of : AddressKind → List ℕ → Option Address
received_of kind octets = Some record { kind = kind; octets = octets }

-- the six octets behind the type, least significant first on the air
abbrev pub body : List ℕ → List ℕ
body l = flip (take 6 (drop 1 l))

-- at least seven octets, the first 0 or 1; later ones are ignored
unfoldable pub decode_of : List ℕ → Option Address
decode_of l =
    cond (leb 7 (length l))
    (cond (eqb (get_or l 0 0) 0) (received_of Public (body l)) (cond (eqb (get_or l 0 0) 1) (received_of Random (body l)) None))
    None
