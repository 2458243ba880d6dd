-- What the last arm of a match takes: any event but a yes and a no is not listed, and every method but Just Works shows a number. Assumes nothing.
use Rattle.std.specs.Prelude.{Option}
use Prim.Native.Nat.{ℕ}
use mathlib.Core.Path.{◌≡◌, refl}
use mathlib.Core.List.{List}
use Rattle.method.specs.declared.PairingMethod.{PairingMethod}
use Rattle.method.specs.declared.PairingMethod.TheVariants.{JustWorks, NumericComparison, PassKeyEntry, OutOfBand}
use Rattle.protocol.specs.declared.Event.{Event}
use Rattle.protocol.specs.declared.Event.TheVariants as I
use Rattle.machine.specs.declared.State.{State}
use Rattle.protocol.specs.Plan.{unlisted}
use Rattle.machine.specs.Numeric.{compares, on_comparison}

pub comparison_other : (m : State) (held : Option (List ℕ)) (x : Event) → (x ≡ I.PassKeyConfirm → ⊥) → (x ≡ I.PassKeyCancel → ⊥) → on_comparison m held x ≡ unlisted
comparison_other m held (I.LinkEncryptedResult ok) n1 n2 = refl
comparison_other m held I.PassKeyConfirm n1 n2 = absurd (n1 refl)
comparison_other m held I.PassKeyCancel n1 n2 = absurd (n2 refl)
comparison_other m held (I.PassKeyInput p) n1 n2 = refl
comparison_other m held (I.OobDataReceived o) n1 n2 = refl

pub compares_other : (x : PairingMethod) (m : State) (nonce : List ℕ) → (x ≡ JustWorks → ⊥) → compares x m nonce ≡ compares NumericComparison m nonce
compares_other JustWorks m nonce n = absurd (n refl)
compares_other NumericComparison m nonce n = refl
compares_other (PassKeyEntry central peripheral) m nonce n = refl
compares_other OutOfBand m nonce n = refl
