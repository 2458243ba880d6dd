-- Selecting the key generation method: Part H 2.3.5.1, Tables 2.6 to 2.8, written as the tables are.
use Rattle.std.specs.Prelude.{ℕ, Bool, true, false, cond, ◌&&◌, ◌||◌, Result, Ok, Err, eqb}
use Rattle.features.specs.declared.IoCapabilities.{IoCapabilities}
use Rattle.features.specs.declared.IoCapabilities.TheVariants.{DisplayOnly, DisplayYesNo, KeyboardOnly, NoInputNoOutput, KeyboardDisplay}
use Rattle.features.specs.declared.UseOutOfBand.{UseOutOfBand}
use Rattle.features.specs.declared.UseOutOfBand.TheVariants.{NotPresent, Present}
use Rattle.features.specs.declared.PairingFeatures.{PairingFeatures}
use Rattle.features.specs.Bits.{mitm_bit}
use Rattle.method.specs.declared.PassKeyEntryAction.TheVariants.{Display, Input}
use Rattle.method.specs.declared.Kind.{Kind}
use Rattle.method.specs.declared.Kind.TheVariants.{Legacy, SecureConnections}
use Rattle.method.specs.declared.PairingMethod.{PairingMethod}
use Rattle.method.specs.declared.PairingMethod.TheVariants.{JustWorks, NumericComparison, PassKeyEntry, OutOfBand}
use Rattle.method.specs.declared.SecurityLevel.{SecurityLevel}
use Rattle.method.specs.declared.SecurityLevel.TheVariants.{NoEncryption, Encrypted, EncryptedAuthenticated}
use Rattle.method.specs.declared.UnknownLevel.{UnknownLevel}

-- a cell of Table 2.8: one method, or one for legacy pairing and one for Secure Connections
abbrev pub Cell : Type 0
Cell = Kind → PairingMethod

-- one method for both
abbrev pub always : PairingMethod → Cell
always method kind = method

-- Numeric Comparison for Secure Connections, the other cell for legacy pairing
abbrev pub numeric_or : Cell → Cell
numeric_or other Legacy = other Legacy
numeric_or other SecureConnections = NumericComparison

-- Just Works; Passkey Entry by who displays and who inputs
abbrev just_works : Cell
just_works = always JustWorks

abbrev initiator_displays : Cell
initiator_displays = always (PassKeyEntry Display Input)

abbrev responder_displays : Cell
responder_displays = always (PassKeyEntry Input Display)

abbrev both_input : Cell
both_input = always (PassKeyEntry Input Input)

-- five cells, one for each IO capability of the initiator
abbrev columns : Cell → Cell → Cell → Cell → Cell → IoCapabilities → Cell
columns a b c d e DisplayOnly = a
columns a b c d e DisplayYesNo = b
columns a b c d e KeyboardOnly = c
columns a b c d e NoInputNoOutput = d
columns a b c d e KeyboardDisplay = e

-- Table 2.8: a row for each IO capability of the responder, with the cells of the initiator's in the order above
abbrev pub table : IoCapabilities → IoCapabilities → Cell
table DisplayOnly = columns just_works just_works responder_displays just_works responder_displays
table DisplayYesNo = columns just_works (numeric_or just_works) responder_displays just_works (numeric_or responder_displays)
table KeyboardOnly = columns initiator_displays initiator_displays both_input just_works initiator_displays
table NoInputNoOutput = columns just_works just_works just_works just_works just_works
table KeyboardDisplay = columns initiator_displays (numeric_or initiator_displays) responder_displays just_works (numeric_or initiator_displays)

-- whether an OOB data flag is set
abbrev pub set : UseOutOfBand → Bool
set NotPresent = false
set Present = true

-- Tables 2.6 and 2.7: legacy pairing uses OOB where both flags are set, Secure Connections where either is
abbrev pub uses_oob : Kind → Bool → Bool → Bool
uses_oob Legacy a b = a && b
uses_oob SecureConnections a b = a || b

-- Tables 2.6 and 2.7: else Just Works where neither side asks MITM protection, and the IO capabilities where one does
unfoldable pub method_of : Kind → PairingFeatures → PairingFeatures → PairingMethod
method_of kind initiator responder =
    cond (uses_oob kind (set initiator.oob) (set responder.oob)) OutOfBand
    (cond (mitm_bit initiator.authreq || mitm_bit responder.authreq) (table responder.io initiator.io kind) JustWorks)

-- Part H 2.3.5.1: Just Works is unauthenticated, the others are authenticated
abbrev pub level_of : PairingMethod → SecurityLevel
level_of JustWorks = Encrypted
level_of NumericComparison = EncryptedAuthenticated
level_of (PassKeyEntry central peripheral) = EncryptedAuthenticated
level_of OutOfBand = EncryptedAuthenticated

-- levels as docs/CALLS.md numbers them, and the level of a number
abbrev pub level_number : SecurityLevel → ℕ
level_number NoEncryption = 0
level_number Encrypted = 1
level_number EncryptedAuthenticated = 2

abbrev pub numbered_level : ℕ → Result SecurityLevel UnknownLevel
numbered_level n =
    cond (eqb n 0) (Ok NoEncryption)
    (cond (eqb n 1) (Ok Encrypted)
    (cond (eqb n 2) (Ok EncryptedAuthenticated)
    (Err record { 0 = n })))
