-- What the last arm of a match takes: any event but the data is not listed. Assumes nothing.
use mathlib.Core.Path.{◌≡◌, refl}
use Rattle.protocol.specs.declared.OobData.{OobData}
use Rattle.protocol.specs.declared.Event.{Event}
use Rattle.protocol.specs.declared.Event.TheVariants as I
use Rattle.machine.specs.declared.State.{State}
use Rattle.protocol.specs.Plan.{unlisted}
use Rattle.machine.specs.Oob.{on_oob_data}

pub oob_other : (m : State) (x : Event) → ((o : OobData) → x ≡ I.OobDataReceived o → ⊥) → on_oob_data m x ≡ unlisted
oob_other m (I.LinkEncryptedResult ok) n = refl
oob_other m I.PassKeyConfirm n = refl
oob_other m I.PassKeyCancel n = refl
oob_other m (I.PassKeyInput p) n = refl
oob_other m (I.OobDataReceived o) n = absurd (n o refl)
