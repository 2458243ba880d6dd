-- The payload of a setup: 153 bytes, rows and offsets as in docs/CALLS.md.
use Rattle.std.specs.Prelude.{ℕ, ◌+◌, List, [], ◌∷◌, Bool, true, cond, Option, Some, None, is_some, unwrap_or, Result, Ok, Err, length, get_or, eqb, leb}
use Rattle.octets.specs.Octets.{zeros}
use Rattle.address.specs.declared.Address.{Address}
use Rattle.address.specs.declared.AddressKind.{AddressKind}
use Rattle.address.specs.declared.AddressKind.TheVariants.{Public, Random}
use Rattle.address.specs.Identity.{kind_number}
use Rattle.features.specs.Features.{io_number, io_of, oob_number, oob_of}
use Rattle.method.specs.declared.SecurityLevel.{SecurityLevel}
use Rattle.method.specs.declared.SecurityLevel.TheVariants.{NoEncryption, Encrypted, EncryptedAuthenticated}
use Rattle.method.specs.Method.{level_number}
use Rattle.protocol.specs.declared.Bond.{Bond}
use Rattle.protocol.specs.declared.Setup.{Setup}
use Rattle.setups.specs.declared.StartKind.{StartKind}
use Rattle.setups.specs.declared.StartKind.TheVariants.{Plain, ByUser, NotByUser}
use Rattle.setups.specs.declared.SetupCall.{SetupCall}
use Rattle.setups.specs.declared.UnknownStart.{UnknownStart}
use Rattle.fields.specs.Fields.{little, number_at, field, flag_number, flag_at, one, join, every, at_most}

-- an address: type, then six bytes
abbrev pub address_octets : Address → List ℕ
address_octets a = kind_number a.kind ∷ a.octets

-- the type of a number; range tests ask it of 0 and 1 alone
abbrev pub kind_of : ℕ → AddressKind
kind_of n = cond (eqb n 0) Public Random

abbrev pub address_at : ℕ → List ℕ → Address
address_at at l = record { kind = kind_of (get_or l at 0); octets = field 6 (at + 1) l }

-- the numbers of the cases, and the cases of numbers; range tests ask them of numbers in range alone
abbrev pub start_number : StartKind → ℕ
start_number Plain = 0
start_number ByUser = 1
start_number NotByUser = 2

abbrev pub start_of : ℕ → StartKind
start_of n = cond (eqb n 0) Plain (cond (eqb n 1) ByUser NotByUser)

abbrev pub numbered_start : ℕ → Result StartKind UnknownStart
numbered_start n = cond (leb n 2) (Ok (start_of n)) (Err (record { 0 = n }))

abbrev pub level_of : ℕ → SecurityLevel
level_of n = cond (eqb n 0) NoEncryption (cond (eqb n 1) Encrypted EncryptedAuthenticated)

-- whether a passkey is configured, and which; 0 where none is
abbrev pub configured_number : Option ℕ → ℕ
configured_number o = flag_number (is_some o)

abbrev pub configured_passkey : Option ℕ → ℕ
configured_passkey o = unwrap_or o 0

abbrev pub configured_of : ℕ → ℕ → Option ℕ
configured_of k n = cond (eqb k 1) (Some n) None

-- the rows, with their offsets: the known bond's, then the box's with these behind, then all
abbrev pub bond_rows : Bool → Bond → List (List ℕ)
bond_rows there bond =
    one (flag_number there)  -- 112
    ∷ bond.ltk  -- 113
    ∷ one (level_number bond.level)  -- 129
    ∷ address_octets bond.address  -- 130
    ∷ bond.irk  -- 137
    ∷ []

abbrev pub box_rows : SetupCall → List (List ℕ)
box_rows c =
    c.keyx  -- 11
    ∷ c.keyy  -- 43
    ∷ c.irk  -- 75
    ∷ address_octets c.own  -- 91
    ∷ address_octets c.identity  -- 98
    ∷ address_octets c.peer  -- 105
    ∷ bond_rows c.there c.bond

abbrev pub setup_rows : SetupCall → List (List ℕ)
setup_rows c =
    one (start_number c.start)  -- 0
    ∷ little 2 c.outbox  -- 1
    ∷ one (io_number c.io)  -- 3
    ∷ one (oob_number c.oob)  -- 4
    ∷ one (flag_number c.bonding)  -- 5
    ∷ one (configured_number c.passkey)  -- 6
    ∷ little 4 (configured_passkey c.passkey)  -- 7
    ∷ box_rows c

-- the payload; none where the outbox's length is above 512
unfoldable pub setup_octets : SetupCall → List ℕ
setup_octets c = cond (leb c.outbox 512) (join (setup_rows c)) []

-- what a payload says
abbrev pub bond_at : List ℕ → Bond
bond_at l = record { ltk = field 16 113 l; level = level_of (get_or l 129 0); address = address_at 130 l; irk = field 16 137 l }

unfoldable pub setup_call : List ℕ → SetupCall
setup_call l =
    record {
      start = start_of (get_or l 0 0);
      outbox = number_at 2 1 l;
      io = io_of (get_or l 3 0);
      oob = oob_of (get_or l 4 0);
      bonding = flag_at 5 l;
      passkey = configured_of (get_or l 6 0) (number_at 4 7 l);
      keyx = field 32 11 l;
      keyy = field 32 43 l;
      irk = field 16 75 l;
      own = address_at 91 l;
      identity = address_at 98 l;
      peer = address_at 105 l;
      there = flag_at 112 l;
      bond = bond_at l;
    }

-- the setup that is said: a bond that is not there is none
abbrev pub setup_in : SetupCall → Setup
setup_in c =
    record {
      io = c.io;
      oob = c.oob;
      bonding = c.bonding;
      passkey = c.passkey;
      keyx = c.keyx;
      keyy = c.keyy;
      irk = c.irk;
      own = c.own;
      identity = c.identity;
      peer = c.peer;
      known = cond c.there (Some c.bond) None;
    }

-- the call of a setup, with a bond that stands where it has no known one
abbrev pub call_of : StartKind → ℕ → Setup → Bond → SetupCall
call_of start outbox s b =
    record {
      start = start;
      outbox = outbox;
      io = s.io;
      oob = s.oob;
      bonding = s.bonding;
      passkey = s.passkey;
      keyx = s.keyx;
      keyy = s.keyy;
      irk = s.irk;
      own = s.own;
      identity = s.identity;
      peer = s.peer;
      there = is_some s.known;
      bond = unwrap_or s.known b;
    }

-- what stands there: zeros, read as a level and an address
abbrev pub no_bond : Bond
no_bond = record { ltk = zeros 16; level = NoEncryption; address = record { kind = Public; octets = zeros 6 }; irk = zeros 16 }

-- where no passkey is configured its number is 0
abbrev pub passkey_fits : List ℕ → Bool
passkey_fits l = cond (eqb (get_or l 6 0) 0) (eqb (number_at 4 7 l) 0) true

-- the length and the ranges
unfoldable pub setup_fits : List ℕ → Bool
setup_fits l =
    every (
    eqb (length l) 153
    ∷ leb (number_at 2 1 l) 512
    ∷ at_most 0 2 l
    ∷ at_most 3 4 l
    ∷ at_most 4 1 l
    ∷ at_most 5 1 l
    ∷ at_most 6 1 l
    ∷ passkey_fits l
    ∷ at_most 91 1 l
    ∷ at_most 98 1 l
    ∷ at_most 105 1 l
    ∷ at_most 112 1 l
    ∷ at_most 129 2 l
    ∷ at_most 130 1 l
    ∷ [])

-- nothing in a payload that doesn't fit
unfoldable pub read_setup : List ℕ → Option SetupCall
read_setup l = cond (setup_fits l) (Some (setup_call l)) None
