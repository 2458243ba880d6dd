-- What the last arm of a match takes: any event but a passkey and a no is not listed. Assumes nothing.
use mathlib.Core.List.{List}
use Rattle.std.specs.Prelude.{Option}
use Prim.Native.Nat.{ℕ}
use mathlib.Core.Path.{◌≡◌, refl}
use Rattle.protocol.specs.declared.Event.{Event}
use Rattle.protocol.specs.declared.Event.TheVariants as I
use Rattle.machine.specs.declared.State.{State}
use Rattle.protocol.specs.Plan.{unlisted}
use Rattle.machine.specs.Passkey.{on_typing}

pub typing_other : (m : State) (held : Option (List ℕ)) (x : Event) → (x ≡ I.PassKeyCancel → ⊥) → ((p : ℕ) → x ≡ I.PassKeyInput p → ⊥) → on_typing m held x ≡ unlisted
typing_other m held (I.LinkEncryptedResult ok) n1 n2 = refl
typing_other m held I.PassKeyConfirm n1 n2 = refl
typing_other m held I.PassKeyCancel n1 n2 = absurd (n1 refl)
typing_other m held (I.PassKeyInput p) n1 n2 = absurd (n2 p refl)
typing_other m held (I.OobDataReceived o) n1 n2 = refl
