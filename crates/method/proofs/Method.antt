-- Laws of the choice: what Tables 2.6 and 2.7 come to, test by test. Assumes nothing.
use mathlib.Core.Path.{◌≡◌, refl}
use mathlib.Core.Bool.{true, false}
use Rattle.features.specs.declared.PairingFeatures.{PairingFeatures}
use Rattle.features.specs.Bits.{mitm_bit}
use Rattle.features.specs.declared.IoCapabilities.{IoCapabilities}
use Rattle.features.specs.declared.IoCapabilities.TheVariants.{DisplayOnly, DisplayYesNo, KeyboardOnly, NoInputNoOutput, KeyboardDisplay}
use Rattle.method.specs.declared.Kind.{Kind}
use Rattle.method.specs.declared.PairingMethod.TheVariants.{JustWorks, OutOfBand}
use Rattle.method.specs.declared.SecurityLevel.{SecurityLevel}
use Rattle.method.specs.declared.SecurityLevel.TheVariants.{NoEncryption, Encrypted, EncryptedAuthenticated}
use Rattle.std.specs.Prelude.{Ok}
use Rattle.method.specs.Method.{table, set, uses_oob, method_of, level_number, numbered_level}

module _ (kind : Kind) (initiator responder : PairingFeatures) where
  pub by_oob : uses_oob kind (set initiator.oob) (set responder.oob) ≡ true → OutOfBand ≡ method_of kind initiator responder
  unfolding method_of
  by_oob u = rw u

  module _ (u : uses_oob kind (set initiator.oob) (set responder.oob) ≡ false) where
    pub initiator_asks : mitm_bit initiator.authreq ≡ true → table responder.io initiator.io kind ≡ method_of kind initiator responder
    unfolding method_of
    initiator_asks i = rw (u, i)

    module _ (i : mitm_bit initiator.authreq ≡ false) where
      pub responder_asks : mitm_bit responder.authreq ≡ true → table responder.io initiator.io kind ≡ method_of kind initiator responder
      unfolding method_of
      responder_asks r = rw (u, i, r)

      pub neither_asks : mitm_bit responder.authreq ≡ false → JustWorks ≡ method_of kind initiator responder
      unfolding method_of
      neither_asks r = rw (u, i, r)

-- Table 2.8: the column of an initiator with no input and no output
pub no_input : (responder : IoCapabilities) (kind : Kind) → JustWorks ≡ table responder NoInputNoOutput kind
no_input DisplayOnly kind = refl
no_input DisplayYesNo kind = refl
no_input KeyboardOnly kind = refl
no_input NoInputNoOutput kind = refl
no_input KeyboardDisplay kind = refl

-- a level is the one that its number gives
pub numbered_level_number : (l : SecurityLevel) → numbered_level (level_number l) ≡ Ok l
numbered_level_number NoEncryption = refl
numbered_level_number Encrypted = refl
numbered_level_number EncryptedAuthenticated = refl
