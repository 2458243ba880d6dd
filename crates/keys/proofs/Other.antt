-- What the last arm of a match takes: any event but the link's is not listed. Assumes nothing.
use mathlib.Core.Bool.{Bool}
use mathlib.Core.Path.{◌≡◌, refl}
use Rattle.protocol.specs.declared.Event.{Event}
use Rattle.protocol.specs.declared.Event.TheVariants as I
use Rattle.machine.specs.declared.State.{State}
use Rattle.protocol.specs.Plan.{unlisted}
use Rattle.machine.specs.Keys.{on_bonded_link, on_encrypted}

pub bonded_other : (m : State) (x : Event) → ((ok : Bool) → x ≡ I.LinkEncryptedResult ok → ⊥) → on_bonded_link m x ≡ unlisted
bonded_other m (I.LinkEncryptedResult ok) n = absurd (n ok refl)
bonded_other m I.PassKeyConfirm n = refl
bonded_other m I.PassKeyCancel n = refl
bonded_other m (I.PassKeyInput p) n = refl
bonded_other m (I.OobDataReceived o) n = refl

pub encrypted_other : (m : State) (x : Event) → ((ok : Bool) → x ≡ I.LinkEncryptedResult ok → ⊥) → on_encrypted m x ≡ unlisted
encrypted_other m (I.LinkEncryptedResult ok) n = absurd (n ok refl)
encrypted_other m I.PassKeyConfirm n = refl
encrypted_other m I.PassKeyCancel n = refl
encrypted_other m (I.PassKeyInput p) n = refl
encrypted_other m (I.OobDataReceived o) n = refl
