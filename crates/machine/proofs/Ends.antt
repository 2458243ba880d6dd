-- How every call ends, and what it asks, draws and sends: the one walk over the plans of all phases, which the theorems on single calls are read off.
-- Assumes nothing.
use Rattle.std.specs.Prelude.{Option, Some, None, Result, option_map}
use Prim.Native.Nat.{ℕ, ◌+◌, ◌≤◌}
use mathlib.Core.Path.{◌≡◌, refl, ap, sym, ◌∙◌}
use mathlib.Core.Logic.{◌⊎◌, inl, inr}
use mathlib.Core.List.{List, [], ◌∷◌}
use mathlib.Core.Bool.{Bool, true, false, true≢false, cond}
use lib.ListN.{length}
use lib.Dec.{ltb, leb, eqb}
use borrow.Author.Tests.{eqb-true, leb-false}
use Rattle.octets.specs.Octets.{flip}
use Rattle.address.specs.declared.Address.{Address}
use Rattle.features.specs.declared.PairingFeatures.{PairingFeatures}
use Rattle.features.specs.Features.{io_cap_of}
use Rattle.method.specs.declared.PairingMethod.{PairingMethod}
use Rattle.method.specs.declared.PairingMethod.TheVariants.{JustWorks, NumericComparison, PassKeyEntry, OutOfBand}
use Rattle.method.specs.declared.PassKeyEntryAction.TheVariants as W
use Rattle.rounds.specs.Rounds.{after_of, in_range}
use Rattle.frames.specs.Packets.{Packet, request_code, public_key_code, confirm_code, random_code, check_code, pairing_response, pairing_confirm, pairing_random, dhkey_check}
use Rattle.protocol.specs.declared.Action.{Action}
use Rattle.protocol.specs.declared.Answer.{Answer}
use Rattle.protocol.specs.declared.Answer.TheVariants as A
use Rattle.protocol.specs.declared.Bond.{Bond}
use Rattle.protocol.specs.declared.ConnectionEvent.{ConnectionEvent}
use Rattle.protocol.specs.declared.ConnectionEvent.TheVariants as E
use Rattle.protocol.specs.declared.Event.{Event}
use Rattle.protocol.specs.declared.Event.TheVariants as I
use Rattle.protocol.specs.declared.Failure.{Failure}
use Rattle.protocol.specs.declared.OobData.{OobData}
use Rattle.protocol.specs.declared.Question.{Question}
use Rattle.protocol.specs.declared.Question.TheVariants as Q
use Rattle.protocol.specs.declared.Refusal.{Refusal}
use Rattle.protocol.specs.declared.Secrets.{Secrets}
use Rattle.protocol.specs.declared.Supplied.{Supplied}
use Rattle.protocol.specs.Plan.{Plan, Ending, ends, refuses, fails, moves, asked, runs}
use Rattle.protocol.specs.Draws.{Draw, draws}
use Rattle.protocol.specs.Parts.{accepting, is_value, is_key, key_x, key_y, ask_dh, shown}
use Rattle.protocol.specs.Exchanged.{fresh, set_passkey}
use Rattle.protocol.specs.Role.{Input, command, event, Call, Outcome, ranged, enough, said, plan}
use Rattle.protocol.proofs.Parts.{Heard, malformed, insecure, small, right, heard}
use Rattle.protocol.proofs.Trace.{Traced, traced, All}
use Rattle.protocol.proofs.Front.{fronted}
use Rattle.machine.specs.declared.Phase.{Phase}
use Rattle.machine.specs.declared.Phase.TheVariants as P
use Rattle.machine.specs.declared.State.{State}
use Rattle.machine.specs.State.{bonded, finished_phase}
use Rattle.machine.specs.Request.{own_features, lost, responding}
use Rattle.machine.specs.Exchange.{own_key, showing, begins}
use Rattle.machine.specs.Numeric.{compares, confirmed}
use Rattle.machine.specs.Dhkey.{checking}
use Rattle.machine.specs.Holding.{holds}
use Rattle.machine.specs.Oob.{receiving}
use Rattle.machine.specs.Passkey.{waits, confirming, typed}
use Rattle.machine.specs.Keys.{own_identity, encrypting}
use Rattle.machine.specs.Responder.{on_command, on_event, responder}
use Rattle.machine.specs.Refusals.{ReadsPasskey, reads, Outside, Refuses}
use Rattle.machine.specs.Reading.{ReadsNonce, Reads}
use Rattle.machine.specs.Failures.{by_answer, loses, Before, Asked, kinds, Onward}

-- what a call sends: nothing, one packet, our key and a confirm, or our identity
pub data Sends (m : State) (a : Supplied) : List Packet → Type 0 where
  nothing : Sends m a []
  response : {f : PairingFeatures} → Sends m a (pairing_response f ∷ [])
  key : Sends m a (own_key m ∷ [])
  key_confirm : Sends m a (own_key m ∷ pairing_confirm a.ownconfirm ∷ [])
  confirm : Sends m a (pairing_confirm a.ownconfirm ∷ [])
  kept_nonce : Sends m a (pairing_random m.secrets.ownnonce ∷ [])
  drawn_nonce : Sends m a (pairing_random a.nonce ∷ [])
  check : Sends m a (dhkey_check a.owncheck ∷ [])
  identity : Sends m a (own_identity m)

-- the IO triples of f6
abbrev pub Triple : State → Question → Type 0
Triple m (Q.DH x y) = Unit {0}
Triple m (Q.OwnConfirm c) = Unit {0}
Triple m (Q.PeerConfirm c) = Unit {0}
Triple m (Q.G2 u v x y) = Unit {0}
Triple m (Q.F5 w n1 n2 a1 a2) = Unit {0}
Triple m (Q.PeerCheck c) = c.iocap ≡ io_cap_of m.features
Triple m (Q.OwnCheck c) = c.iocap ≡ io_cap_of (own_features m.setup m.features)

-- refused as the scope says, failed as it says, or taken
abbrev pub Answered : State → Call → List Question → Outcome State → Answer → Type 0
Answered m c qs o (A.Refused r) = Refuses m c r
Answered m c qs o (A.Failed f) = (enough ≤ c.room) × Asked f (kinds qs)
Answered m c qs o A.Taken = Onward o.next o.second o.action

-- what is shown of every call: of all that it asked (qs) and drew (ds), and of what is said of its end
pub record End (m : State) (c : Call) (qs : List Question) (ds : List Draw) (e : Ending State) : Type 0 where
  pub triples : All (Triple m) qs
  pub drew : All (Reads m c.supplied c.input) ds
  pub once : leb (length ds) 1 ≡ true
  pub setup : (said responder m e).next.setup ≡ m.setup
  pub features : ((said responder m e).next.features ≡ m.features) ⊎ (m.phase ≡ P.WaitingPairingRequest)
  pub packets : Sends m c.supplied (said responder m e).packets
  pub first : Before m c (said responder m e).first
  pub answer : Answered m c qs (said responder m e) (said responder m e).answer

-- the phase after a round
rounded : (r : ℕ) → finished_phase (waits (after_of r)) ≡ false
rounded r = go (ltb r 19)
  where
    go : (b : Bool) → finished_phase (waits (cond b (Some (r + 1)) None)) ≡ false
    go true = refl
    go false = refl

-- a call, by its parts
abbrev pub bring : Input → Supplied → ℕ → Call
bring i a n = record { input = i; supplied = a; room = n }

module _ (m : State) (u : finished_phase m.phase ≡ false) (a : Supplied) (n : ℕ) (room : enough ≤ n) where
  -- Single ends

  module _ {i : Input} {qs : List Question} where
    -- a failure, by what was asked before it
    dies : {f : Failure} {v : Option ConnectionEvent} → Before m (bring i a n) v → All (Triple m) qs → Asked f (kinds qs) → End m (bring i a n) qs [] (fails v f)
    dies v t h = record { triples = t; drew = tt; once = refl; setup = refl; features = inl refl; packets = Sends.nothing; first = v; answer = (room, h) }

    -- a move, by what was asked and drawn before it
    moving : {ds : List Draw} {p : Phase} {w : PairingMethod} {s : Secrets} {b : Option Bond} {r : Address} {ps : List Packet} {e : Option ConnectionEvent} {x : Option Action}
        → All (Triple m) qs → All (Reads m a i) ds → leb (length ds) 1 ≡ true → Sends m a ps
        → Onward (record { phase = p; setup = m.setup; features = m.features; method = w; secrets = s; bond = b; peer = r }) e x
        → End m (bring i a n) qs ds (moves (record { phase = p; setup = m.setup; features = m.features; method = w; secrets = s; bond = b; peer = r }) ps None e x)
    moving t d o p h = record { triples = t; drew = d; once = o; setup = refl; features = inl refl; packets = p; first = inl refl; answer = h }

  -- a failure before anything was asked
  falls : {i : Input} {f : Failure} → by_answer f ≡ false → End m (bring i a n) [] [] (fails None f)
  falls h = dies (inl refl) tt (Asked.nothing h)

  -- The parts that two calls share, and those with a case for each method

  abbrev Ends : Input → Plan State → Type 0
  Ends i p = Traced a (End m (bring i a n)) p

  module _ (i : Input) where
    -- an early payload
    holding : (b : Option (List ℕ)) (k code : ℕ) (body : List ℕ) (p : Option (List ℕ) → Phase) → ((v : List ℕ) → finished_phase (p (Some v)) ≡ false) → Ends i (holds m b k code body p)
    unfolding Traced
    holding b k code body p f = (λ _. (λ _. (λ _. moving tt tt refl Sends.nothing (Onward.goes (f _) refl refl), λ _. falls refl), λ _. falls refl), λ _. falls refl)

    -- a round's confirm
    answering : (s : Secrets) (r : ℕ) (v : List ℕ) → ReadsNonce m a i → Ends i (confirming m s r v)
    unfolding Traced
    answering s r v h = moving (tt, tt) (h, tt) refl Sends.confirm (Onward.goes refl refl refl)

    -- a random of numeric comparison
    comparing : (w : PairingMethod) (v : List ℕ) → Ends i (compares w m v)
    unfolding Traced
    comparing JustWorks v = moving tt tt refl Sends.kept_nonce (Onward.goes refl refl refl)
    comparing NumericComparison v = moving (tt, tt) tt refl Sends.kept_nonce (Onward.goes refl refl refl)
    comparing (PassKeyEntry central peripheral) v = moving (tt, tt) tt refl Sends.kept_nonce (Onward.goes refl refl refl)
    comparing OutOfBand v = moving (tt, tt) tt refl Sends.kept_nonce (Onward.goes refl refl refl)

    -- a DHKey check
    weighing : (whole : Bool) (v : List ℕ) → Ends i (checking m whole v)
    unfolding Traced
    weighing whole v = (λ _. moving (tt, (refl, (refl, tt))) tt refl Sends.check (Onward.goes refl refl refl), λ _. dies (inl refl) (tt, (refl, tt)) Asked.check)

    -- the user's yes
    agreeing : (held : Option (List ℕ)) → Ends i (confirmed m held)
    unfolding Traced
    agreeing (Some v) = weighing true v
    agreeing None = moving tt tt refl Sends.nothing (Onward.goes refl refl refl)

    -- out-of-band data
    receives : (o : OobData) → Ends i (receiving m o)
    unfolding Traced
    receives o = (
      λ _. moving tt tt refl Sends.nothing (Onward.goes refl refl refl),
      λ _. (λ _. moving (tt, tt) tt refl Sends.nothing (Onward.goes refl refl refl), λ _. dies (inl refl) (tt, tt) Asked.confirm),
    )

    -- the encrypted link
    encrypted : (b : Option Bond) → Ends i (encrypting (bonded m b))
    unfolding Traced
    encrypted b = (λ _. moving tt tt refl Sends.identity (Onward.goes refl refl refl), λ _. moving tt tt refl Sends.identity (Onward.succeeds refl))

  -- the passkey is typed
  typing : (held : Option (List ℕ)) → m.phase ≡ P.WaitingPassKeyInput held → (p : ℕ) → in_range p ≡ true → Ends (event (I.PassKeyInput p)) (typed m held p)
  unfolding Traced
  typing (Some v) e p r = answering (event (I.PassKeyInput p)) (set_passkey m.secrets p) 0 v (ReadsNonce.typed e r)
  typing None e p r = moving tt tt refl Sends.nothing (Onward.goes refl refl refl)

  module _ (code : ℕ) (body : List ℕ) where
    losing : m.phase ≡ P.WaitingPairingRequest → eqb code request_code ≡ true → Before m (bring (command (code ∷ body)) a n) (lost m)
    losing e k = go m.setup.known refl
      where
        go : (b : Option Bond) → m.setup.known ≡ b → Before m (bring (command (code ∷ body)) a n) (option_map (λ x. E.BondLost) b)
        go (Some b) h = inr (refl, room, loses e (eqb-true code request_code k) (rw h refl))
        go None h = inl refl

    accepted : {x : Result PairingFeatures Failure} → m.phase ≡ P.WaitingPairingRequest → eqb code request_code ≡ true → Heard body x
        → Ends (command (code ∷ body)) (accepting (lost m) x λ f. ends (responding m f))
    unfolding Traced
    accepted e k (malformed h) = dies (losing e k) tt (Asked.nothing refl)
    accepted e k (insecure h s) = dies (losing e k) tt (Asked.nothing refl)
    accepted e k (small h s) = dies (losing e k) tt (Asked.nothing refl)
    accepted e k (right h s t) =
        record { triples = tt; drew = tt; once = refl; setup = refl; features = inr e; packets = Sends.response; first = losing e k; answer = Onward.goes refl refl refl }

    module _ (e : m.phase ≡ P.WaitingPublicKey) (k : code ≡ public_key_code) (h : is_key body ≡ true) (v : a.dhvalid ≡ true) where
      abbrev Begun : Plan State → Type 0
      Begun = Traced a (λ qs. End m (bring (command (code ∷ body)) a n) (ask_dh (key_x body) (key_y body) ∷ qs))

      begun : (w : PairingMethod) (s : Secrets) → m.method ≡ w → Begun (begins w m s)
      unfolding Traced
      begun JustWorks s d = moving (tt, (tt, tt)) (ReadsNonce.key e k h v (inl d), tt) refl Sends.key_confirm (Onward.goes refl refl refl)
      begun NumericComparison s d = moving (tt, (tt, tt)) (ReadsNonce.key e k h v (inr d), tt) refl Sends.key_confirm (Onward.goes refl refl refl)
      begun OutOfBand s d = moving (tt, tt) tt refl Sends.key (Onward.goes refl refl refl)
      begun (PassKeyEntry central W.Input) s d = moving (tt, tt) tt refl Sends.key (Onward.goes refl refl refl)
      begun (PassKeyEntry central W.Display) s d = go m.setup.passkey refl
        where
          go : (x : Option ℕ) → m.setup.passkey ≡ x → Begun (shown x λ p. ends (showing m s p))
          go (Some p) c = moving (tt, tt) tt refl Sends.key (Onward.goes refl refl refl)
          go None c =
              let read : ReadsPasskey m a (command (code ∷ body)) = reads central e k h v d c in (
                λ _. moving (tt, tt) (read, tt) refl Sends.key (Onward.goes refl refl refl),
                λ r. record { triples = (tt, tt); drew = (read, tt); once = refl; setup = refl; features = inl refl; packets = Sends.nothing; first = inl refl; answer = (u, room, Outside.drawn read (leb-false a.passkey 999999 r)) },
              )

  -- An event, by its kind

  abbrev Raised : Phase → Event → Type 0
  Raised p e = ranged (event e) ≡ true → Ends (event e) (on_event p m e)

  raised : (p : Phase) → ((ok : Bool) → Raised p (I.LinkEncryptedResult ok)) × Raised p I.PassKeyConfirm × Raised p I.PassKeyCancel × ((n : ℕ) → Raised p (I.PassKeyInput n)) × ((o : OobData) → Raised p (I.OobDataReceived o))
      → (e : Event) → Raised p e
  raised p h (I.LinkEncryptedResult ok) = h.0 ok
  raised p h I.PassKeyConfirm = h.1
  raised p h I.PassKeyCancel = h.2
  raised p h (I.PassKeyInput n) = h.3 n
  raised p h (I.OobDataReceived o) = h.4 o

  -- Both: each plan is walked to its ends

  phased : (p : Phase) → m.phase ≡ p → ((code : ℕ) (body : List ℕ) → Ends (command (code ∷ body)) (on_command p m code body)) × ((e : Event) → Raised p e)
  unfolding Traced
  phased P.WaitingPairingRequest e = (
    λ code body. (λ k. accepted code body e k (heard body), λ _. falls refl),
    raised P.WaitingPairingRequest (λ ok _. (λ _. encrypted _ m.setup.known, λ _. falls refl), λ _. falls refl, λ _. falls refl, λ p _. falls refl, λ o _. falls refl),
  )
  phased P.WaitingPublicKey e = (
    λ code body. (
      λ k. (λ h. (λ v. begun code body e (eqb-true code public_key_code k) h v m.method (fresh (key_x body) a.dhkey) refl, λ _. dies (inl refl) (tt, tt) Asked.key), λ _. falls refl),
      λ _. falls refl,
    ),
    λ x _. falls refl,
  )
  phased P.WaitingNumericComparisonRandom e =
      (λ code body. (λ _. (λ _. comparing _ m.method (flip body), λ _. falls refl), λ _. falls refl), λ x _. falls refl)
  phased (P.WaitingNumericComparisonResult held) e = (
    λ code body. holding _ held check_code code body P.WaitingNumericComparisonResult (λ v. refl),
    raised (P.WaitingNumericComparisonResult held) (λ ok _. falls refl, λ _. agreeing _ held, λ _. falls refl, λ p _. falls refl, λ o _. falls refl),
  )
  phased (P.WaitingPassKeyInput held) e = (
    λ code body. holding _ held confirm_code code body P.WaitingPassKeyInput (λ v. refl),
    raised (P.WaitingPassKeyInput held) (λ ok _. falls refl, λ _. falls refl, λ _. falls refl, typing held e, λ o _. falls refl),
  )
  phased (P.WaitingPassKeyEntryConfirm r) e =
      (λ code body. (λ k. (λ h. answering _ m.secrets r (flip body) (ReadsNonce.confirm r e (eqb-true code confirm_code k) h), λ _. falls refl), λ _. falls refl), λ x _. falls refl)
  phased (P.WaitingPassKeyEntryRandom r) e = (
    λ code body.
        (λ _. (λ _. (λ _. moving (tt, tt) tt refl Sends.kept_nonce (Onward.goes (rounded r) refl refl), λ _. dies (inl refl) (tt, tt) Asked.confirm), λ _. falls refl), λ _. falls refl),
    λ x _. falls refl,
  )
  phased P.WaitingOobData e = (λ code body. falls refl, raised P.WaitingOobData (λ ok _. falls refl, λ _. falls refl, λ _. falls refl, λ p _. falls refl, λ o _. receives _ o))
  phased P.WaitingOobRandom e = (
    λ code body.
        (λ k. (λ h. moving tt (ReadsNonce.oob e (eqb-true code random_code k) h, tt) refl Sends.drawn_nonce (Onward.goes refl refl refl), λ _. falls refl), λ _. falls refl),
    λ x _. falls refl,
  )
  phased P.WaitingDHKeyEa e = (λ code body. (λ _. weighing _ (is_value body) (flip body), λ _. falls refl), λ x _. falls refl)
  phased P.WaitingLinkEncrypted e = (
    λ code body. falls refl,
    raised P.WaitingLinkEncrypted (λ ok _. (λ _. encrypted _ m.bond, λ _. falls refl), λ _. falls refl, λ _. falls refl, λ p _. falls refl, λ o _. falls refl),
  )
  phased P.WaitingIdentitityInformation e =
      (λ code body. (λ _. (λ _. moving tt tt refl Sends.nothing (Onward.goes refl refl refl), λ _. falls refl), λ _. falls refl), λ x _. falls refl)
  phased P.WaitingIdentitityAddressInformation e =
      (λ code body. (λ _. (λ _. moving tt tt refl Sends.nothing (Onward.succeeds refl), λ _. falls refl), λ _. falls refl), λ x _. falls refl)
  phased P.Success e = absurd (true≢false (sym (ap finished_phase e) ∙ u))
  phased (P.Error f) e = absurd (true≢false (sym (ap finished_phase e) ∙ u))

-- a passkey event out of range
unranged : (m : State) (a : Supplied) (i : Input) → ranged i ≡ false → Outside m a i
unranged m a (command cmd) h = absurd (true≢false h)
unranged m a (event (I.LinkEncryptedResult ok)) h = absurd (true≢false h)
unranged m a (event I.PassKeyConfirm) h = absurd (true≢false h)
unranged m a (event I.PassKeyCancel) h = absurd (true≢false h)
unranged m a (event (I.PassKeyInput p)) h = Outside.typed (leb-false p 999999 h)
unranged m a (event (I.OobDataReceived o)) h = absurd (true≢false h)

-- the walk: R1, R2, R3 of an event and an empty command, then the phase's plan
pub end : (m : State) (c : Call) → let p = plan responder m c.input c.room in End m c (asked c.supplied p) (draws c.supplied p) (runs c.supplied p)
unfolding Traced
end m c =
    let a : Supplied = c.supplied in
    traced a (End m c) (plan responder m c.input c.room) (fronted (λ i. Traced a (End m (bring i a c.room))) (λ i b p q h k. (h, k)) responder m c.room
    (λ u i. declines u)
    (λ u n i. declines (u, n))
    (λ u n i r. declines (u, n, unranged m a i r))
    (λ u n. falls m u a c.room n refl)
    (λ u n. (phased m u a c.room n m.phase refl).0)
    (λ u n. (phased m u a c.room n m.phase refl).1)
    c.input)
  where
    declines : {i : Input} {r : Refusal} → Refuses m (bring i c.supplied c.room) r → End m (bring i c.supplied c.room) [] [] (refuses r)
    declines h = record { triples = tt; drew = tt; once = refl; setup = refl; features = inl refl; packets = Sends.nothing; first = inl refl; answer = h }
