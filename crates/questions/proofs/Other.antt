-- What the last arm of a match takes: a phase, an event and a method of which nothing is asked. Assumes nothing.
use Rattle.std.specs.Prelude.{Option, Some, None, Result, Ok, Err}
use Prim.Native.Nat.{ℕ}
use mathlib.Core.Path.{◌≡◌, refl}
use mathlib.Core.Logic.{◌⊎◌, inl, inr}
use mathlib.Core.List.{List}
use Rattle.features.specs.declared.PairingFeatures.{PairingFeatures}
use Rattle.method.specs.declared.PairingMethod.{PairingMethod}
use Rattle.method.specs.declared.PairingMethod.TheVariants.{JustWorks, NumericComparison, PassKeyEntry, OutOfBand}
use Rattle.method.specs.declared.PassKeyEntryAction.TheVariants as W
use Rattle.protocol.specs.declared.Event.{Event}
use Rattle.protocol.specs.declared.Event.TheVariants as I
use Rattle.protocol.specs.declared.Failure.{Failure}
use Rattle.protocol.specs.declared.Given.{Given}
use Rattle.protocol.specs.declared.OobData.{OobData}
use Rattle.protocol.specs.declared.Question.{Question}
use Rattle.protocol.specs.declared.Secrets.{Secrets}
use Rattle.protocol.specs.declared.Supplied.{Supplied}
use Rattle.protocol.specs.Plan.{ends}
use Rattle.protocol.specs.Parts.{accept_of, accepting, shown}
use Rattle.protocol.specs.Next.{Queried}
use Rattle.protocol.proofs.Next.{asks_nothing, draws, draws_passkey_lem, either}
use Rattle.machine.specs.declared.Phase.{Phase}
use Rattle.machine.specs.declared.Phase.TheVariants as P
use Rattle.machine.specs.declared.State.{State}
use Rattle.machine.specs.Request.{lost, responding}
use Rattle.machine.specs.Exchange.{comparing, begins, showing}
use Rattle.machine.specs.Numeric.{numbering, compares, on_comparison}
use Rattle.machine.specs.Passkey.{on_typing}
use Rattle.machine.specs.Oob.{on_oob_data}
use Rattle.machine.specs.Keys.{on_bonded_link, on_encrypted}
use Rattle.machine.specs.Responder.{on_command, on_event}

module _ (g : Given) (a : Supplied) (r : Option Question) (none : r ≡ None) where
  accepted : (m : State) (x : Result PairingFeatures Failure) → Queried g a (accepting (lost m) x λ f. ends (responding m f)) r
  accepted m (Ok f) = asks_nothing none
  accepted m (Err f) = asks_nothing none

  bonded : (m : State) (e : Event) → Queried g a (on_bonded_link m e) r
  bonded m (I.LinkEncryptedResult ok) = either (either (asks_nothing none) (asks_nothing none)) (asks_nothing none)
  bonded m I.PassKeyConfirm = asks_nothing none
  bonded m I.PassKeyCancel = asks_nothing none
  bonded m (I.PassKeyInput p) = asks_nothing none
  bonded m (I.OobDataReceived o) = asks_nothing none

  encrypted : (m : State) (e : Event) → Queried g a (on_encrypted m e) r
  encrypted m (I.LinkEncryptedResult ok) = either (either (asks_nothing none) (asks_nothing none)) (asks_nothing none)
  encrypted m I.PassKeyConfirm = asks_nothing none
  encrypted m I.PassKeyCancel = asks_nothing none
  encrypted m (I.PassKeyInput p) = asks_nothing none
  encrypted m (I.OobDataReceived o) = asks_nothing none

  pub command_other : (x : Phase) (m : State) (code : ℕ) (body : List ℕ) → (x ≡ P.WaitingPublicKey → ⊥) → (x ≡ P.WaitingNumericComparisonRandom → ⊥) → ((round : ℕ) → x ≡ P.WaitingPassKeyEntryConfirm round → ⊥) → ((round : ℕ) → x ≡ P.WaitingPassKeyEntryRandom round → ⊥) → (x ≡ P.WaitingDHKeyEa → ⊥) → Queried g a (on_command x m code body) r
  command_other P.WaitingPairingRequest m code body n1 n2 n3 n4 n5 = either (accepted m (accept_of body)) (asks_nothing none)
  command_other P.WaitingPublicKey m code body n1 n2 n3 n4 n5 = absurd (n1 refl)
  command_other P.WaitingNumericComparisonRandom m code body n1 n2 n3 n4 n5 = absurd (n2 refl)
  command_other (P.WaitingNumericComparisonResult held) m code body n1 n2 n3 n4 n5 = either (either (either (asks_nothing none) (asks_nothing none)) (asks_nothing none)) (asks_nothing none)
  command_other (P.WaitingPassKeyInput held) m code body n1 n2 n3 n4 n5 = either (either (either (asks_nothing none) (asks_nothing none)) (asks_nothing none)) (asks_nothing none)
  command_other (P.WaitingPassKeyEntryConfirm round) m code body n1 n2 n3 n4 n5 = absurd (n3 round refl)
  command_other (P.WaitingPassKeyEntryRandom round) m code body n1 n2 n3 n4 n5 = absurd (n4 round refl)
  command_other P.WaitingOobData m code body n1 n2 n3 n4 n5 = asks_nothing none
  command_other P.WaitingOobRandom m code body n1 n2 n3 n4 n5 = either (either (draws (asks_nothing none)) (asks_nothing none)) (asks_nothing none)
  command_other P.WaitingDHKeyEa m code body n1 n2 n3 n4 n5 = absurd (n5 refl)
  command_other P.WaitingLinkEncrypted m code body n1 n2 n3 n4 n5 = asks_nothing none
  command_other P.WaitingIdentitityInformation m code body n1 n2 n3 n4 n5 = either (either (asks_nothing none) (asks_nothing none)) (asks_nothing none)
  command_other P.WaitingIdentitityAddressInformation m code body n1 n2 n3 n4 n5 = either (either (asks_nothing none) (asks_nothing none)) (asks_nothing none)
  command_other P.Success m code body n1 n2 n3 n4 n5 = asks_nothing none
  command_other (P.Error f) m code body n1 n2 n3 n4 n5 = asks_nothing none

  pub event_other : (x : Phase) (m : State) (e : Event) → ((held : Option (List ℕ)) → x ≡ P.WaitingNumericComparisonResult held → ⊥) → ((held : Option (List ℕ)) → x ≡ P.WaitingPassKeyInput held → ⊥) → (x ≡ P.WaitingOobData → ⊥) → Queried g a (on_event x m e) r
  event_other P.WaitingPairingRequest m e n1 n2 n3 = bonded m e
  event_other P.WaitingPublicKey m e n1 n2 n3 = asks_nothing none
  event_other P.WaitingNumericComparisonRandom m e n1 n2 n3 = asks_nothing none
  event_other (P.WaitingNumericComparisonResult held) m e n1 n2 n3 = absurd (n1 held refl)
  event_other (P.WaitingPassKeyInput held) m e n1 n2 n3 = absurd (n2 held refl)
  event_other (P.WaitingPassKeyEntryConfirm round) m e n1 n2 n3 = asks_nothing none
  event_other (P.WaitingPassKeyEntryRandom round) m e n1 n2 n3 = asks_nothing none
  event_other P.WaitingOobData m e n1 n2 n3 = absurd (n3 refl)
  event_other P.WaitingOobRandom m e n1 n2 n3 = asks_nothing none
  event_other P.WaitingDHKeyEa m e n1 n2 n3 = asks_nothing none
  event_other P.WaitingLinkEncrypted m e n1 n2 n3 = encrypted m e
  event_other P.WaitingIdentitityInformation m e n1 n2 n3 = asks_nothing none
  event_other P.WaitingIdentitityAddressInformation m e n1 n2 n3 = asks_nothing none
  event_other P.Success m e n1 n2 n3 = asks_nothing none
  event_other (P.Error f) m e n1 n2 n3 = asks_nothing none

  pub comparison_other : (m : State) (held : Option (List ℕ)) (x : Event) → (x ≡ I.PassKeyConfirm → ⊥) → Queried g a (on_comparison m held x) r
  comparison_other m held (I.LinkEncryptedResult ok) n = asks_nothing none
  comparison_other m held I.PassKeyConfirm n = absurd (n refl)
  comparison_other m held I.PassKeyCancel n = asks_nothing none
  comparison_other m held (I.PassKeyInput p) n = asks_nothing none
  comparison_other m held (I.OobDataReceived o) n = asks_nothing none

  pub typing_other : (m : State) (held : Option (List ℕ)) (x : Event) → ((p : ℕ) → x ≡ I.PassKeyInput p → ⊥) → Queried g a (on_typing m held x) r
  typing_other m held (I.LinkEncryptedResult ok) n = asks_nothing none
  typing_other m held I.PassKeyConfirm n = asks_nothing none
  typing_other m held I.PassKeyCancel n = asks_nothing none
  typing_other m held (I.PassKeyInput p) n = absurd (n p refl)
  typing_other m held (I.OobDataReceived o) n = asks_nothing none

  pub received_other : (m : State) (x : Event) → ((o : OobData) → x ≡ I.OobDataReceived o → ⊥) → Queried g a (on_oob_data m x) r
  received_other m (I.LinkEncryptedResult ok) n = asks_nothing none
  received_other m I.PassKeyConfirm n = asks_nothing none
  received_other m I.PassKeyCancel n = asks_nothing none
  received_other m (I.PassKeyInput p) n = asks_nothing none
  received_other m (I.OobDataReceived o) n = absurd (n o refl)

  showed : (c : Option ℕ) (m : State) (s : Secrets) → Queried g a (shown c λ p. ends (showing m s p)) r
  showed None m s = draws_passkey_lem (either (asks_nothing none) (asks_nothing none))
  showed (Some p) m s = asks_nothing none

  pub key_other : (x : PairingMethod) (m : State) (s : Secrets) → (x ≡ JustWorks → ⊥) → (x ≡ NumericComparison → ⊥) → Queried g a (begins x m s) r
  key_other JustWorks m s n1 n2 = absurd (n1 refl)
  key_other NumericComparison m s n1 n2 = absurd (n2 refl)
  key_other (PassKeyEntry central W.Display) m s n1 n2 = showed m.setup.passkey m s
  key_other (PassKeyEntry central W.Input) m s n1 n2 = asks_nothing none
  key_other OutOfBand m s n1 n2 = asks_nothing none

-- Just Works and numeric comparison begin alike
pub key_comparing : {g : Given} {a : Supplied} {r : Option Question} (x : PairingMethod) (m : State) (s : Secrets) → (x ≡ JustWorks) ⊎ (x ≡ NumericComparison)
    → Queried g a (comparing m s) r → Queried g a (begins x m s) r
key_comparing x m s (inl e) h = rw e h
key_comparing x m s (inr e) h = rw e h

pub compare_other : (x : PairingMethod) (m : State) (nonce : List ℕ) → (x ≡ JustWorks → ⊥) → compares x m nonce ≡ numbering m nonce
compare_other JustWorks m nonce n = absurd (n refl)
compare_other NumericComparison m nonce n = refl
compare_other (PassKeyEntry central peripheral) m nonce n = refl
compare_other OutOfBand m nonce n = refl
