-- The six octets of Pairing Request and Pairing Response (Part H 3.5.1, 3.5.2), both ways.
use Rattle.std.specs.Prelude.{ℕ, List, [], ◌∷◌, Option, Some, None, Result, Ok, Err, cond, length, get_or, eqb, leb}
use Rattle.features.specs.declared.IoCapabilities.{IoCapabilities}
use Rattle.features.specs.declared.IoCapabilities.TheVariants.{DisplayOnly, DisplayYesNo, KeyboardOnly, NoInputNoOutput, KeyboardDisplay}
use Rattle.features.specs.declared.UseOutOfBand.{UseOutOfBand}
use Rattle.features.specs.declared.UseOutOfBand.TheVariants.{NotPresent, Present}
use Rattle.features.specs.declared.PairingFeatures.{PairingFeatures}
use Rattle.features.specs.declared.Reserved.{Reserved}

-- a number without a meaning
abbrev pub reserved : ℕ → Reserved
reserved n = record { 0 = n }

-- Part H 3.5.1: the IO capability values
abbrev pub io_number : IoCapabilities → ℕ
io_number DisplayOnly = 0
io_number DisplayYesNo = 1
io_number KeyboardOnly = 2
io_number NoInputNoOutput = 3
io_number KeyboardDisplay = 4

-- the IO capability of a number; `decode_of` and `io_from` ask it of 0 to 4 alone
abbrev pub io_of : ℕ → IoCapabilities
io_of n =
    cond (eqb n 0) DisplayOnly (cond (eqb n 1) DisplayYesNo (cond (eqb n 2) KeyboardOnly (cond (eqb n 3) NoInputNoOutput KeyboardDisplay)))

-- 0 to 4; the others are reserved
abbrev pub io_from : ℕ → Result IoCapabilities Reserved
io_from n = cond (leb n 4) (Ok (io_of n)) (Err (reserved n))

-- Part H 3.5.1: the OOB data flag values
abbrev pub oob_number : UseOutOfBand → ℕ
oob_number NotPresent = 0
oob_number Present = 1

-- the OOB data flag of a number; `decode_of` and `oob_from` ask it of 0 and 1 alone
abbrev pub oob_of : ℕ → UseOutOfBand
oob_of n = cond (eqb n 0) NotPresent Present

-- 0 and 1; the others are reserved
abbrev pub oob_from : ℕ → Result UseOutOfBand Reserved
oob_from n = cond (leb n 1) (Ok (oob_of n)) (Err (reserved n))

-- the six octets, in the packet's order
abbrev pub encode_of : PairingFeatures → List ℕ
encode_of f = io_number f.io ∷ oob_number f.oob ∷ f.authreq ∷ f.keysize ∷ f.initiator ∷ f.responder ∷ []

-- what six octets say
abbrev pub features_of : List ℕ → PairingFeatures
features_of l =
    record { io = io_of (get_or l 0 0); oob = oob_of (get_or l 1 0); authreq = get_or l 2 0; keysize = get_or l 3 0; initiator = get_or l 4 0; responder = get_or l 5 0 }

-- six octets, IO at most 4, OOB at most 1
unfoldable pub decode_of : List ℕ → Option PairingFeatures
decode_of l =
    cond (eqb (length l) 6)
    (cond (leb (get_or l 0 0) 4)
    (cond (leb (get_or l 1 0) 1)
    (Some (features_of l))
    None)
    None)
    None

-- Part H 2.2.8: IOcap of f6, AuthReq first
abbrev pub io_cap_of : PairingFeatures → List ℕ
io_cap_of f = f.authreq ∷ oob_number f.oob ∷ io_number f.io ∷ []
