-- What each phase waits for: a call that brings it goes on by what is left of its plan, and any other is refused or fails. Assumes nothing.
use Rattle.std.specs.Prelude.{Option, Some, None, unwrap_or, Result, Ok, Err}
use Rattle.std.proofs.lemmas.Bool.{cond-true}
use Prim.Native.Nat.{ℕ, ◌+◌, ◌≤◌, ◌<◌}
use mathlib.Core.Path.{◌≡◌, refl, ap, ◌∙◌}
use mathlib.Core.List.{List, [], ◌∷◌}
use mathlib.Core.Bool.{Bool, true, false, cond, ◌&&◌, ◌||◌}
use native.Mathlib.Omega.{arith}
use lib.Dec.{eqb, ltb}
use borrow.Author.Tests.{eqb-true, ltb-true, ltb-false, le-ltb}
use Rattle.octets.specs.Octets.{flip, same}
use Rattle.octets.proofs.Octets.{same_eq, same_refl}
use Rattle.address.specs.Identity.{decode_of as address_of}
use Rattle.features.specs.declared.PairingFeatures.{PairingFeatures}
use Rattle.method.specs.declared.Kind.TheVariants.{SecureConnections}
use Rattle.method.specs.declared.PairingMethod.{PairingMethod}
use Rattle.method.specs.declared.PairingMethod.TheVariants.{JustWorks, NumericComparison, PassKeyEntry, OutOfBand}
use Rattle.method.specs.declared.PassKeyEntryAction.{PassKeyEntryAction}
use Rattle.method.specs.declared.PassKeyEntryAction.TheVariants as W
use Rattle.method.specs.Method.{method_of}
use Rattle.rounds.specs.Rounds.{after_of}
use Rattle.frames.specs.Packets.{request_code, confirm_code, random_code, check_code, identity_information_code, pairing_random}
use Rattle.protocol.specs.declared.ConnectionEvent.{ConnectionEvent}
use Rattle.protocol.specs.declared.ConnectionEvent.TheVariants as E
use Rattle.protocol.specs.declared.Event.{Event}
use Rattle.protocol.specs.declared.Event.TheVariants as I
use Rattle.protocol.specs.declared.Failure.{Failure}
use Rattle.protocol.specs.declared.OobData.{OobData}
use Rattle.protocol.specs.declared.Refusal.{Refusal}
use Rattle.protocol.specs.declared.Refusal.TheVariants as R
use Rattle.protocol.specs.declared.Secrets.{Secrets}
use Rattle.protocol.specs.declared.Supplied.{Supplied}
use Rattle.protocol.specs.Plan.{Plan, Ending, ends, goes, refuses, fails, runs, Along, nowhere}
use Rattle.protocol.specs.Parts.{key_x, is_value, accept_of, accepting, shown}
use Rattle.protocol.specs.Exchanged.{fresh, set_nonces}
use Rattle.protocol.specs.Role.{Call, command, event, ranged, enough, said, plan, run}
use Rattle.protocol.proofs.Runs as Runs
use Rattle.protocol.proofs.Walk.{walk}
use Rattle.machine.specs.declared.Phase.{Phase}
use Rattle.machine.specs.declared.Phase.TheVariants as P
use Rattle.machine.specs.declared.State.{State}
use Rattle.machine.specs.State.{at, to, bonded, finished_phase}
use Rattle.machine.specs.Request.{own_features, lost, responding}
use Rattle.machine.specs.Exchange.{own_key, comparing, showing, begins}
use Rattle.machine.specs.Dhkey.{checked}
use Rattle.machine.specs.Numeric.{disclosing, numbering, compares, confirmed}
use Rattle.machine.specs.Passkey.{confirming, typed, waits, matched}
use Rattle.machine.specs.Oob.{absent, received}
use Rattle.machine.specs.Keys.{encrypting, succeeds, with_irk, addressed}
use Rattle.machine.specs.Responder.{on_command, on_event, responder}
use Rattle.machine.specs.Passed.{Brings, Raises, Value, Request, Key, Shows, configured, drawn, Typed, Matching}
use Rattle.machine.specs.Completed.{Encrypts, Identity}

-- two constructors are never one
pub clash : {A : Type 0} → ◌≡◌ {A = ℕ} 0 1 → A
clash e = absurd (omega arith)

-- the secrets after the peer's key
abbrev pub exchanged : List ℕ → Call → Secrets
exchanged w c = fresh (key_x w) c.supplied.dhkey

-- the call c brings what the machine m waits for in a phase, and this is left of its plan
pub data Awaited (m : State) (c : Call) : Phase → Plan State → Type 0 where
  request : {f : PairingFeatures} {x : PairingMethod} → Request m.setup f x c → Awaited m c P.WaitingPairingRequest (ends (responding m f))
  bonded_link : Encrypts c → Awaited m c P.WaitingPairingRequest (encrypting (bonded m m.setup.known))
  key : {w : List ℕ} → Key w c → Awaited m c P.WaitingPublicKey (begins m.method m (exchanged w c))
  compared : {w : List ℕ} → Value random_code w c → Awaited m c P.WaitingNumericComparisonRandom (compares m.method m (flip w))
  early_check : {w : List ℕ} → Value check_code w c
      → Awaited m c (P.WaitingNumericComparisonResult None) (ends (goes (at m (P.WaitingNumericComparisonResult (Some (flip w)))) [] None))
  yes : Raises I.PassKeyConfirm c → Awaited m c (P.WaitingNumericComparisonResult None) (confirmed m None)
  yes_held : {v : List ℕ} → Raises I.PassKeyConfirm c → v ≡ c.supplied.peercheck
      → Awaited m c (P.WaitingNumericComparisonResult (Some v)) (ends (checked m c.supplied.ltk c.supplied.owncheck))
  early_confirm : {v : List ℕ} → Value confirm_code v c
      → Awaited m c (P.WaitingPassKeyInput None) (ends (goes (at m (P.WaitingPassKeyInput (Some (flip v)))) [] None))
  passkey : {p : ℕ} → Typed p c → Awaited m c (P.WaitingPassKeyInput None) (typed m None p)
  passkey_held : {p : ℕ} {v : List ℕ} → Typed p c → Awaited m c (P.WaitingPassKeyInput (Some v)) (typed m (Some v) p)
  confirm : {r : ℕ} {v : List ℕ} → Value confirm_code v c → Awaited m c (P.WaitingPassKeyEntryConfirm r) (confirming m m.secrets r (flip v))
  random : {r : ℕ} {w : List ℕ} → Matching m.secrets.confirm w c → Awaited m c (P.WaitingPassKeyEntryRandom r) (ends (matched m r (flip w)))
  oob_data : (o : OobData) → c.input ≡ event (I.OobDataReceived o) → (absent o || same o.peerconfirm c.supplied.peerconfirm) ≡ true
      → Awaited m c P.WaitingOobData (ends (received m o))
  oob_random : {w : List ℕ} → Value random_code w c → Awaited m c P.WaitingOobRandom
      (ends (goes (to m P.WaitingDHKeyEa (set_nonces m.secrets (flip w) c.supplied.nonce)) (pairing_random c.supplied.nonce ∷ []) None))
  check : {w : List ℕ} → Value check_code w c → flip w ≡ c.supplied.peercheck
      → Awaited m c P.WaitingDHKeyEa (ends (checked m c.supplied.ltk c.supplied.owncheck))
  link : Encrypts c → Awaited m c P.WaitingLinkEncrypted (encrypting m)
  information : {w : List ℕ} → Value identity_information_code w c
      → Awaited m c P.WaitingIdentitityInformation (ends (goes (at (bonded m (with_irk m.bond (flip w))) P.WaitingIdentitityAddressInformation) [] None))
  address : {w : List ℕ} → Identity w c → Awaited m c P.WaitingIdentitityAddressInformation (ends (succeeds (addressed m (unwrap_or (address_of w) nowhere)) []))

-- What is awaited goes on so

took : {m : State} {c : Call} {p : Phase} {q : Plan State} → Awaited m c p q → m.phase ≡ p → ltb c.room enough ≡ false
    → runs c.supplied (plan responder m c.input c.room) ≡ runs c.supplied q
unfolding runs
took (request a) e n = rw (a.brings, e, n, a.says)
took (bonded_link i) e n = rw (i, e, n)
took (key k) e n = rw (k.brings, e, n, k.whole) (cond-true _ _ _ k.valid)
took (compared k) e n = rw (k.brings, e, n, k.whole)
took (early_check k) e n = rw (k.brings, e, n, k.whole)
took (yes i) e n = rw (i, e, n)
took {c} (yes_held i s) e n = rw (i, e, n, s, same_refl c.supplied.peercheck)
took (early_confirm k) e n = rw (k.brings, e, n, k.whole)
took (passkey t) e n = rw (t.brings, e, n, t.range)
took (passkey_held t) e n = rw (t.brings, e, n, t.range)
took (confirm k) e n = rw (k.brings, e, n, k.whole)
took {c} (random k) e n = rw (k.random.brings, e, n, k.random.whole, k.equal, same_refl c.supplied.peerconfirm)
took {c} (oob_data o i s) e n = rw (i, e, n) (go (absent o) (same o.peerconfirm c.supplied.peerconfirm) _ s)
  where
    go : {A : Type 0} {x : A} (a b : Bool) (y : A) → (a || b) ≡ true → cond a x (cond b x y) ≡ x
    go true b y e = refl
    go false b y e = rw e
took (oob_random k) e n = rw (k.brings, e, n, k.whole)
took {c} (check k s) e n = rw (k.brings, e, n, k.whole, s, same_refl c.supplied.peercheck)
took (link i) e n = rw (i, e, n)
took (information k) e n = rw (k.brings, e, n, k.whole)
took (address k) e n = rw (k.brings, e, n, k.valid)

module _ {m : State} {c : Call} {p : Phase} {q : Plan State} (e : m.phase ≡ p) (a : Awaited m c p q) (room : enough ≤ c.room) where
  pub goes_on : runs c.supplied (plan responder m c.input c.room) ≡ runs c.supplied q
  goes_on = took a e (le-ltb c.room enough room)

  -- and so does a run
  pub on : (X : State → Type 0) (h : List Call) → X (run responder (said responder m (runs c.supplied q)).next h) → X (run responder m (c ∷ h))
  on X h x = rw (Runs.took responder m c h _ goes_on) x

-- What holds of each refusal and each failure, and along what is left of a plan, holds of what any call comes to

module _ (c : Call) (H : Ending State → Type 0) (stay : (r : Refusal) → H (refuses r)) (fail : (e : Option ConnectionEvent) (f : Failure) → H (fails e f)) (m : State) where
  abbrev Holds : Plan State → Type 0
  Holds q = Along c.supplied H q

  module _ (code : ℕ) (w : List ℕ) (i : c.input ≡ command (code ∷ w)) where
    brought : (k : ℕ) → eqb code k ≡ true → Brings k w c
    brought k e = i ∙ ap (λ x. command (x ∷ w)) (eqb-true code k e)

    valued : {X : Type 0} {f g : Failure} (k : ℕ) → (Value k w c → X)
        → (eqb code k ≡ true → (is_value w ≡ true → X) × (is_value w ≡ false → H (fails None f))) × (eqb code k ≡ false → H (fails None g))
    valued k g = (λ e. (λ l. g (record { brings = brought k e; whole = l }), λ l. fail _ _), λ e. fail _ _)

    asked : (x : Result PairingFeatures Failure) → accept_of w ≡ x → eqb code request_code ≡ true
        → ((f : PairingFeatures) → Request m.setup f (method_of SecureConnections f (own_features m.setup f)) c → H (responding m f))
        → Holds (accepting (lost m) x (λ f. ends (responding m f)))
    unfolding Along
    asked (Err f) e j g = fail _ _
    asked (Ok f) e j g = g f (record { payload = w; brings = brought request_code j; says = e; chooses = refl })

    on_command_lem : (p : Phase) → ((q : Plan State) → Awaited m c p q → Holds q) → Holds (on_command p m code w)
    unfolding Along
    on_command_lem P.WaitingPairingRequest g = (λ e. asked (accept_of w) refl e (λ f a. g _ (request a)), λ e. fail _ _)
    on_command_lem P.WaitingPublicKey g = (λ e. (λ l. (λ v. g _ (key (record { brings = brought _ e; whole = l; valid = v })), λ v. fail _ _), λ l. fail _ _), λ e. fail _ _)
    on_command_lem P.WaitingNumericComparisonRandom g = valued random_code (λ k. g _ (compared k))
    on_command_lem (P.WaitingNumericComparisonResult (Some v)) g = (λ e. (λ h. clash (cc), λ h. fail _ _), λ e. fail _ _)
    on_command_lem (P.WaitingNumericComparisonResult None) g =
        (λ e. (λ h. (λ l. g _ (early_check (record { brings = brought _ e; whole = l })), λ l. fail _ _), λ h. fail _ _), λ e. fail _ _)
    on_command_lem (P.WaitingPassKeyInput (Some v)) g = (λ e. (λ h. clash (cc), λ h. fail _ _), λ e. fail _ _)
    on_command_lem (P.WaitingPassKeyInput None) g =
        (λ e. (λ h. (λ l. g _ (early_confirm (record { brings = brought _ e; whole = l })), λ l. fail _ _), λ h. fail _ _), λ e. fail _ _)
    on_command_lem (P.WaitingPassKeyEntryConfirm r) g = valued confirm_code (λ k. g _ (confirm k))
    on_command_lem (P.WaitingPassKeyEntryRandom r) g = valued random_code (λ k. (λ e. g _ (random (record { random = k; equal = same_eq _ _ e })), λ e. fail _ _))
    on_command_lem P.WaitingOobData g = fail _ _
    on_command_lem P.WaitingOobRandom g = valued random_code (λ k. g _ (oob_random k))
    on_command_lem P.WaitingDHKeyEa g = (λ e. (λ s. both (is_value w) _ s (λ l t. g _ (check (record { brings = brought _ e; whole = l }) (same_eq _ _ t))), λ s. fail _ _), λ e. fail _ _)
      where
        both : {A : Type 0} (a b : Bool) → (a && b) ≡ true → (a ≡ true → b ≡ true → A) → A
        both true b e f = f refl e
        both false b e f = clash (cc)
    on_command_lem P.WaitingLinkEncrypted g = fail _ _
    on_command_lem P.WaitingIdentitityInformation g = valued identity_information_code (λ k. g _ (information k))
    on_command_lem P.WaitingIdentitityAddressInformation g = (λ e. (λ v. g _ (address (record { brings = brought _ e; valid = v })), λ v. fail _ _), λ e. fail _ _)
    on_command_lem P.Success g = stay _
    on_command_lem (P.Error f) g = stay _

  -- an event by its kind
  by_event : (p : Phase) → ((ok : Bool) → c.input ≡ event (I.LinkEncryptedResult ok) → Holds (on_event p m (I.LinkEncryptedResult ok)))
      → (c.input ≡ event I.PassKeyConfirm → Holds (on_event p m I.PassKeyConfirm)) → Holds (on_event p m I.PassKeyCancel)
      → ((n : ℕ) → Typed n c → Holds (on_event p m (I.PassKeyInput n))) → ((o : OobData) → c.input ≡ event (I.OobDataReceived o) → Holds (on_event p m (I.OobDataReceived o)))
      → (e : Event) → c.input ≡ event e → ranged (event e) ≡ true → Holds (on_event p m e)
  by_event p a b d f g (I.LinkEncryptedResult ok) i r = a ok i
  by_event p a b d f g I.PassKeyConfirm i r = b i
  by_event p a b d f g I.PassKeyCancel i r = d
  by_event p a b d f g (I.PassKeyInput n) i r = f n (record { brings = i; range = r })
  by_event p a b d f g (I.OobDataReceived o) i r = g o i

  on_event_lem : (p : Phase) → ((q : Plan State) → Awaited m c p q → Holds q) → (e : Event) → c.input ≡ event e → ranged (event e) ≡ true → Holds (on_event p m e)
  unfolding Along
  on_event_lem P.WaitingPairingRequest g = by_event P.WaitingPairingRequest (λ ok i. (λ t. g _ (bonded_link (rw (← t) i)), λ t. fail _ _)) (λ i. fail _ _) (fail _ _) (λ n t. fail _ _) (λ o i. fail _ _)
  on_event_lem P.WaitingPublicKey g = λ e i r. fail _ _
  on_event_lem P.WaitingNumericComparisonRandom g = λ e i r. fail _ _
  on_event_lem (P.WaitingNumericComparisonResult (Some v)) g =
      by_event (P.WaitingNumericComparisonResult (Some v)) (λ ok i. fail _ _) (λ i. (λ s. g _ (yes_held i (same_eq _ _ s)), λ s. fail _ _)) (fail _ _) (λ n t. fail _ _) (λ o i. fail _ _)
  on_event_lem (P.WaitingNumericComparisonResult None) g = by_event (P.WaitingNumericComparisonResult None) (λ ok i. fail _ _) (λ i. g _ (yes i)) (fail _ _) (λ n t. fail _ _) (λ o i. fail _ _)
  on_event_lem (P.WaitingPassKeyInput (Some v)) g = by_event (P.WaitingPassKeyInput (Some v)) (λ ok i. fail _ _) (λ i. fail _ _) (fail _ _) (λ n t. g _ (passkey_held t)) (λ o i. fail _ _)
  on_event_lem (P.WaitingPassKeyInput None) g = by_event (P.WaitingPassKeyInput None) (λ ok i. fail _ _) (λ i. fail _ _) (fail _ _) (λ n t. g _ (passkey t)) (λ o i. fail _ _)
  on_event_lem (P.WaitingPassKeyEntryConfirm round) g = λ e i r. fail _ _
  on_event_lem (P.WaitingPassKeyEntryRandom round) g = λ e i r. fail _ _
  on_event_lem P.WaitingOobData g =
      by_event P.WaitingOobData (λ ok i. fail _ _) (λ i. fail _ _) (fail _ _) (λ n t. fail _ _)
      (λ o i. (λ a. g _ (oob_data o i (rw a)), λ a. (λ s. g _ (oob_data o i (rw (a, s))), λ s. fail _ _)))
  on_event_lem P.WaitingOobRandom g = λ e i r. fail _ _
  on_event_lem P.WaitingDHKeyEa g = λ e i r. fail _ _
  on_event_lem P.WaitingLinkEncrypted g = by_event P.WaitingLinkEncrypted (λ ok i. (λ t. g _ (link (rw (← t) i)), λ t. fail _ _)) (λ i. fail _ _) (fail _ _) (λ n t. fail _ _) (λ o i. fail _ _)
  on_event_lem P.WaitingIdentitityInformation g = λ e i r. fail _ _
  on_event_lem P.WaitingIdentitityAddressInformation g = λ e i r. fail _ _
  on_event_lem P.Success g = λ e i r. stay _
  on_event_lem (P.Error f) g = λ e i r. stay _

-- a finished phase refuses, so one that fails is not finished
pub visit : (m : State) (c : Call) (H : Ending State → Type 0) → ((r : Refusal) → H (refuses r))
    → (finished_phase m.phase ≡ false → (e : Option ConnectionEvent) (f : Failure) → H (fails e f))
    → ((q : Plan State) → Awaited m c m.phase q → Along c.supplied H q) → H (runs c.supplied (plan responder m c.input c.room))
visit m c H stay fail g =
    walk responder m c H (λ u. stay _) (λ u n. stay _) (λ u n r. stay _) (λ u n i. fail u _ _)
    (λ u n code w i. on_command_lem c H stay (fail u) m code w i m.phase g) (λ u n e i r. on_event_lem c H stay (fail u) m m.phase g e i r)

-- after round r: the next one, or the DHKey check
pub any_round : (r : ℕ) (X : Phase → Type 0) → (r < 19 → X (P.WaitingPassKeyEntryConfirm (r + 1))) → (19 ≤ r → X P.WaitingDHKeyEa) → X (waits (after_of r))
any_round r X f g = go (ltb r 19) refl
  where
    go : (b : Bool) → ltb r 19 ≡ b → X (waits (cond b (Some (r + 1)) None))
    go true e = f (ltb-true r 19 e)
    go false e = g (ltb-false r 19 e)

-- by any method, after the key and after the random
module _ (a : Supplied) (H : Ending State → Type 0) (m : State) where
  pub any_key : (s : Secrets) → H (refuses R.PasskeyRange) → (m.method ≡ OutOfBand → H (goes (to m P.WaitingOobData s) (own_key m ∷ []) (Some E.OobRequest)))
      → ((x : PassKeyEntryAction) (n : ℕ) → m.method ≡ PassKeyEntry x W.Display → Shows m.setup.passkey a.passkey n → H (showing m s n))
      → ((x : PassKeyEntryAction) → m.method ≡ PassKeyEntry x W.Input → H (goes (to m (P.WaitingPassKeyInput None) s) (own_key m ∷ []) (Some E.PassKeyInput)))
      → (m.method ≡ JustWorks → Along a H (comparing m s)) → (m.method ≡ NumericComparison → Along a H (comparing m s)) → Along a H (begins m.method m s)
  unfolding Along
  any_key s stay oob show type works number = go m.method refl
    where
      shows : (k : Option ℕ) → ((n : ℕ) → Shows k a.passkey n → H (showing m s n)) → Along a H (shown k (λ n. ends (showing m s n)))
      shows None g = (λ r. g a.passkey (drawn a.passkey r), λ r. stay)
      shows (Some n) g = g n (configured n a.passkey)

      go : (x : PairingMethod) → m.method ≡ x → Along a H (begins x m s)
      go OutOfBand e = oob e
      go (PassKeyEntry x W.Display) e = shows m.setup.passkey (λ n. show x n e)
      go (PassKeyEntry x W.Input) e = type x e
      go JustWorks e = works e
      go NumericComparison e = number e

  pub any_random : (x : PairingMethod) (n : List ℕ) → H (disclosing m n P.WaitingDHKeyEa None) → Along a H (numbering m n) → Along a H (compares x m n)
  unfolding Along
  any_random JustWorks n f g = f
  any_random NumericComparison n f g = g
  any_random (PassKeyEntry x y) n f g = g
  any_random OutOfBand n f g = g
