-- The scope's samples of the choice: P5 and P6.
use Rattle.std.specs.Prelude.{List, [], ◌∷◌, Bool, true, false}
use Rattle.features.specs.declared.IoCapabilities.{IoCapabilities}
use Rattle.features.specs.declared.IoCapabilities.TheVariants.{DisplayYesNo, NoInputNoOutput}
use Rattle.features.specs.declared.UseOutOfBand.{UseOutOfBand}
use Rattle.features.specs.declared.UseOutOfBand.TheVariants.{NotPresent, Present}
use Rattle.features.specs.declared.PairingFeatures.{PairingFeatures}
use Rattle.features.specs.Bits.{our_auth_req}
use Rattle.method.specs.declared.Kind.TheVariants.{Legacy, SecureConnections}
use Rattle.method.specs.declared.PairingMethod.{PairingMethod}
use Rattle.method.specs.declared.PairingMethod.TheVariants.{JustWorks, NumericComparison, OutOfBand}
use Rattle.method.specs.Method.{method_of}

pub record Sample : Type 0 where
  pub initiator : PairingFeatures
  pub responder : PairingFeatures
  pub lesc : PairingMethod
  pub old : PairingMethod

-- features of which the choice reads IO, OOB and MITM
abbrev features : IoCapabilities → UseOutOfBand → Bool → PairingFeatures
features io oob mitm = record { io = io; oob = oob; authreq = our_auth_req false mitm; keysize = 16; initiator = 0; responder = 0 }

abbrev sample : PairingFeatures → PairingFeatures → PairingMethod → PairingMethod → Sample
sample i r l o = record { initiator = i; responder = r; lesc = l; old = o }

-- the two methods by the tables, and as the sample has them
abbrev pub made : Sample → List PairingMethod
made s = method_of SecureConnections s.initiator s.responder ∷ method_of Legacy s.initiator s.responder ∷ []

abbrev pub said : Sample → List PairingMethod
said s = s.lesc ∷ s.old ∷ []

unfoldable pub samples : List Sample
samples =
    -- P5: OOB on one side, no MITM
    sample (features DisplayYesNo Present false) (features DisplayYesNo NotPresent false) OutOfBand JustWorks
    ∷ sample (features NoInputNoOutput NotPresent false) (features DisplayYesNo Present false) OutOfBand JustWorks
    -- P6: DisplayYesNo twice, MITM
    ∷ sample (features DisplayYesNo NotPresent true) (features DisplayYesNo NotPresent true) NumericComparison JustWorks
    ∷ []
