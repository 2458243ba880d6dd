-- Success comes last: the identity address where the peer sends one, after an encrypted link, after a right DHKey check. Assumes nothing.
use Rattle.std.specs.Prelude.{Option, Some, None, unwrap_or, Bool}
use Prim.Native.Nat.{ℕ, ◌≤◌}
use mathlib.Core.Path.{◌≡◌, refl, sym, ap, subst, ◌∙◌}
use mathlib.Core.List.{List, [], ◌∷◌}
use mathlib.Core.Bool.{true, false}
use mathlib.Core.Logic.{◌⊎◌, inl, inr}
use Rattle.octets.specs.Octets.{flip}
use Rattle.address.specs.Identity.{decode_of as address_of}
use Rattle.features.specs.Bits.{identity_bit}
use Rattle.frames.specs.Packets.{check_code, identity_information_code}
use Rattle.protocol.specs.declared.Action.TheVariants as X
use Rattle.protocol.specs.declared.Bond.{Bond}
use Rattle.protocol.specs.Plan.{Plan, Ending, runs, Along, nowhere}
use Rattle.protocol.specs.Role.{Call, Outcome, enough, said, plan, step, after, run, is_taken, keep, history}
use Rattle.protocol.proofs.Runs.{replay, Roomy, roomy}
use Rattle.machine.specs.declared.Phase.{Phase}
use Rattle.machine.specs.declared.Phase.TheVariants as P
use Rattle.machine.specs.declared.State.{State}
use Rattle.machine.specs.State.{at, bonded, finished_phase, fresh_state}
use Rattle.machine.specs.Numeric.{disclosing}
use Rattle.machine.specs.Keys.{wants_bonding, storing, addressed}
use Rattle.machine.specs.Responder.{responder}
use Rattle.machine.specs.Passed.{Value}
use Rattle.machine.specs.Completed.{Links, Completes, Informs, Encrypted, Checks, Enables, Identified, identified, Linked, plain, keyed, Checked, checked, Ends, later, Completed, paired}
use Rattle.machine.specs.Demand.{SuccessMeans, FromCheck, LinkKey}
use Rattle.machine.proofs.Awaited.{Awaited, clash, request, bonded_link, key, compared, early_check, yes, yes_held, early_confirm, passkey, passkey_held, confirm, random, oob_data, oob_random, check, link, information, address, goes_on, on, visit, any_round, any_key, any_random}

-- One call

-- what it takes to come to a phase
abbrev Into : State → Call → Outcome State → Phase → Type 0
Into m c o P.Success = Completes m c
Into m c o P.WaitingIdentitityAddressInformation = Informs m c
Into m c o P.WaitingIdentitityInformation = Encrypted m c
Into m c o P.WaitingLinkEncrypted = Enables m c o
Into m c o P.WaitingPairingRequest = ⊥
Into m c o P.WaitingPublicKey = Unit {0}
Into m c o P.WaitingNumericComparisonRandom = Unit {0}
Into m c o (P.WaitingNumericComparisonResult held) = Unit {0}
Into m c o (P.WaitingPassKeyInput held) = Unit {0}
Into m c o (P.WaitingPassKeyEntryConfirm r) = Unit {0}
Into m c o (P.WaitingPassKeyEntryRandom r) = Unit {0}
Into m c o P.WaitingOobData = Unit {0}
Into m c o P.WaitingOobRandom = Unit {0}
Into m c o P.WaitingDHKeyEa = Unit {0}
Into m c o (P.Error f) = Unit {0}

-- and whether encryption is enabled
abbrev Comes : State → Call → Ending State → Type 0
Comes m c e =
    let o : Outcome State = said responder m e in
    ((o.next.phase ≡ m.phase) ⊎ Into m c o o.next.phase) × ((b : Bond) → o.action ≡ Some (X.EnableEncryption b) → Checks m c)

-- no Success enables encryption
no_store : {A : Type 0} (m : State) (x : Bond) → storing m.bond (wants_bonding m) ≡ Some (X.EnableEncryption x) → A
no_store {A} m x = go m.bond (wants_bonding m)
  where
    go : (b : Option Bond) (w : Bool) → storing b w ≡ Some (X.EnableEncryption x) → A
    go (Some b) true e = clash (cc)
    go None true e = clash (cc)
    go b false e = clash (cc)

comes : {m : State} {c : Call} {p : Phase} (q : Plan State) → Awaited m c p q → Along c.supplied (Comes (at m p) c) q
unfolding Along
comes q (request a) = (inr tt, λ x h. clash (cc))
comes {m} q (bonded_link i) = (λ b. (inr (Links.bonded refl i, b), λ x h. clash (cc)), λ b. (inr (Completes.link (Links.bonded refl i) b), no_store (bonded m m.setup.known)))
comes {m} {c} q (key k) =
    any_key c.supplied (Comes (at m P.WaitingPublicKey) c) m _ (inl refl, λ x h. clash (cc)) (λ e. (inr tt, λ x h. clash (cc))) (λ x n e s. (inr tt, λ x h. clash (cc))) (λ x e. (inr tt, λ x h. clash (cc)))
    (λ e. (inr tt, λ x h. clash (cc))) (λ e. (inr tt, λ x h. clash (cc)))
comes {m} {c} q (compared k) = any_random c.supplied (Comes _ c) m m.method _ (inr tt, λ x h. clash (cc)) (inr tt, λ x h. clash (cc))
comes q (early_check k) = (inr tt, λ x h. clash (cc))
comes q (yes i) = (inr tt, λ x h. clash (cc))
comes q (yes_held i e) = (inr (record { check = Checks.held refl i e; bond = _; action = refl; key = refl; kept = refl }), λ x h. Checks.held refl i e)
comes q (early_confirm k) = (inr tt, λ x h. clash (cc))
comes q (passkey t) = (inr tt, λ x h. clash (cc))
comes q (passkey_held t) = (inr tt, λ x h. clash (cc))
comes q (confirm k) = (inr tt, λ x h. clash (cc))
comes {m} {c} q (random {r} k) = (inr (any_round r (Into _ c _) (λ l. tt) (λ l. tt)), λ x h. clash (cc))
comes q (oob_data o i e) = (inr tt, λ x h. clash (cc))
comes q (oob_random k) = (inr tt, λ x h. clash (cc))
comes q (check k e) = (inr (record { check = Checks.arrived refl k e; bond = _; action = refl; key = refl; kept = refl }), λ x h. Checks.arrived refl k e)
comes {m} q (link i) = (λ b. (inr (Links.linked refl i, b), λ x h. clash (cc)), λ b. (inr (Completes.link (Links.linked refl i) b), no_store m))
comes q (information k) = (inr (Informs.information refl k), λ x h. clash (cc))
comes {m} q (address {w} k) = (inr (Completes.address refl k), no_store (addressed m (unwrap_or (address_of w) nowhere)))

module _ (m : State) (c : Call) where
  came : Comes m c (runs c.supplied (plan responder m c.input c.room))
  came = visit m c (Comes m c) (λ r. (inl refl, λ x h. clash (cc))) (λ u e f. (inr tt, λ x h. clash (cc))) comes

  comes_to : (p : Phase) → ¬ (m.phase ≡ p) → (after responder m c).phase ≡ p → Into m c (step responder m c) p
  unfolding step
  comes_to p n e = go came.0
    where
      go : ((after responder m c).phase ≡ m.phase) ⊎ Into m c (step responder m c) (after responder m c).phase → Into m c (step responder m c) p
      go (inl h) = absurd (n (sym h ∙ e))
      go (inr h) = subst (Into m c (step responder m c)) e h

  -- Success from an unfinished phase: the identity address, or an encrypted link where no identity is to come
  pub to_success : finished_phase m.phase ≡ false → (after responder m c).phase ≡ P.Success → Completes m c
  to_success u e = comes_to P.Success (λ h. let z : true ≡ false = sym (ap finished_phase h) ∙ u in clash (cc)) e

  -- the identity address is waited for only after the identity information
  pub to_address : ¬ (m.phase ≡ P.WaitingIdentitityAddressInformation) → (after responder m c).phase ≡ P.WaitingIdentitityAddressInformation → Informs m c
  to_address n e = comes_to P.WaitingIdentitityAddressInformation n e

  -- the identity information is waited for only on an encrypted link
  pub to_information : ¬ (m.phase ≡ P.WaitingIdentitityInformation) → (after responder m c).phase ≡ P.WaitingIdentitityInformation → Encrypted m c
  to_information n e = comes_to P.WaitingIdentitityInformation n e

  -- encryption is enabled at no time but by a right check
  pub only_checks : (b : Bond) → (step responder m c).action ≡ Some (X.EnableEncryption b) → Checks m c
  unfolding step
  only_checks b e = came.1 b e

  -- and each of these does what it says, with an outbox that is long enough
  module _ (room : enough ≤ c.room) where
    goes_to : {p : Phase} {q : Plan State} (s : Phase) → m.phase ≡ p → Awaited m c p q → (said responder m (runs c.supplied q)).next.phase ≡ s → (after responder m c).phase ≡ s
    unfolding step
    goes_to s e a i = ap (λ x. (said responder m x).next.phase) (goes_on e a room) ∙ i

    pub success_of : Completes m c → (after responder m c).phase ≡ P.Success
    unfolding runs
    success_of (Completes.address e k) = goes_to P.Success e (address k) refl
    success_of (Completes.link (Links.linked e i) b) = goes_to P.Success e (link i) (rw b)
    success_of (Completes.link (Links.bonded e i) b) = goes_to P.Success e (bonded_link i) (rw b)

    pub address_of_lem : Informs m c → (after responder m c).phase ≡ P.WaitingIdentitityAddressInformation
    unfolding runs
    address_of_lem (Informs.information e k) = goes_to _ e (information k) refl

    pub information_of : Encrypted m c → (after responder m c).phase ≡ P.WaitingIdentitityInformation
    unfolding runs
    information_of p = go p.0
      where
        go : Links m c → (after responder m c).phase ≡ P.WaitingIdentitityInformation
        go (Links.linked e i) = goes_to _ e (link i) (rw p.1)
        go (Links.bonded e i) = goes_to _ e (bonded_link i) (rw p.1)

    pub link_of : Checks m c → (after responder m c).phase ≡ P.WaitingLinkEncrypted
    unfolding runs
    link_of (Checks.arrived e k s) = goes_to _ e (check k s) refl
    link_of (Checks.held e i s) = goes_to _ e (yes_held i s) refl

pub to_link : LinkKey
to_link m c n e = comes_to m c P.WaitingLinkEncrypted n e

-- A run

-- what the taken calls h of a machine m in a phase complete
abbrev Toward : State → Phase → List Call → Type 0
Toward m P.WaitingPairingRequest h = identity_bit m.features.initiator ≡ false → Completed m.setup h
Toward m P.WaitingPublicKey h = Ends m.features h
Toward m P.WaitingNumericComparisonRandom h = Ends m.features h
Toward m (P.WaitingNumericComparisonResult None) h = Ends m.features h
Toward m (P.WaitingNumericComparisonResult (Some v)) h = (w : List ℕ) (c : Call) → Value check_code w c → flip w ≡ v → Ends m.features (c ∷ h)
Toward m (P.WaitingPassKeyInput held) h = Ends m.features h
Toward m (P.WaitingPassKeyEntryConfirm r) h = Ends m.features h
Toward m (P.WaitingPassKeyEntryRandom r) h = Ends m.features h
Toward m P.WaitingOobData h = Ends m.features h
Toward m P.WaitingOobRandom h = Ends m.features h
Toward m P.WaitingDHKeyEa h = Checked m.features h
Toward m P.WaitingLinkEncrypted h = Linked m.features h
Toward m P.WaitingIdentitityInformation h = Identified h
Toward m P.WaitingIdentitityAddressInformation h = (w : List ℕ) (c : Call) → Value identity_information_code w c → Identified (c ∷ h)
Toward m P.Success h = h ≡ []
Toward m (P.Error f) h = ⊥

module _ (cs : List Call) (ih : (m : State) → (run responder m cs).phase ≡ P.Success → Toward m m.phase (history responder m cs)) (c : Call) where
  abbrev Then : State → Ending State → Type 0
  Then m e =
      let s : State = (said responder m e).next in
      (run responder s cs).phase ≡ P.Success → Toward m m.phase (keep (is_taken (said responder m e).answer) c (history responder s cs))

  by_awaited : {m : State} {p : Phase} (q : Plan State) → Awaited m c p q → Along c.supplied (Then (at m p)) q
  unfolding Along
  by_awaited q (request a) = λ r u. paired a (ih _ r)
  by_awaited q (bonded_link i) = (λ b r u. clash (cc), λ b r u. rw (ih _ r) (Completed.bonded i))
  by_awaited {m} q (key k) =
      any_key c.supplied (Then (at m P.WaitingPublicKey)) m _ (ih _) (λ e r. later (ih _ r)) (λ x n e s r. later (ih _ r)) (λ x e r. later (ih _ r)) (λ e r. later (ih _ r)) (λ e r. later (ih _ r))
  by_awaited {m} q (compared k) = any_random c.supplied (Then _) m m.method _ (λ r. later (Ends.arrived (ih _ r))) (λ r. later (ih _ r))
  by_awaited q (early_check {w} k) = λ r. ih _ r w c k refl
  by_awaited q (yes i) = λ r. later (Ends.arrived (ih _ r))
  by_awaited q (yes_held i e) = λ r w d k g. Ends.held k i (g ∙ e) (ih _ r)
  by_awaited q (early_confirm k) = λ r. later (ih _ r)
  by_awaited q (passkey t) = λ r. later (ih _ r)
  by_awaited q (passkey_held t) = λ r. later (ih _ r)
  by_awaited q (confirm k) = λ r. later (ih _ r)
  by_awaited {m} q (random {r} {w} k) =
      any_round r (λ p. Then (at m (P.WaitingPassKeyEntryRandom r)) (disclosing m (flip w) p None)) (λ l i. later (ih _ i)) (λ l i. later (Ends.arrived (ih _ i)))
  by_awaited q (oob_data o i e) = λ r. later (ih _ r)
  by_awaited q (oob_random k) = λ r. later (Ends.arrived (ih _ r))
  by_awaited q (check k e) = λ r. checked k e (ih _ r)
  by_awaited q (link i) = (λ b r. keyed b i (ih _ r), λ b r. rw (ih _ r) (plain b i))
  by_awaited q (information {w} k) = λ r. ih _ r w c k
  by_awaited q (address k) = λ r w d g. rw (ih _ r) (identified g k)

forward : (cs : List Call) (m : State) → (run responder m cs).phase ≡ P.Success → Toward m m.phase (history responder m cs)
unfolding run history step
forward [] m r = rw r refl
forward (c ∷ cs) m r = visit m c (Then cs (forward cs) c m) (λ x. forward cs m) (λ u e f i. absurd (forward cs (at m (P.Error f)) i)) (by_awaited cs (forward cs) c) r

-- a run that ends in Success is a bonded link, or a pairing whose history ends in a right check, the encrypted link and, where the
-- peer's initiator bit is set, its identity
pub success : SuccessMeans
success s cs r = forward cs (fresh_state s) r refl

-- and back: each of these, where every outbox is long enough, is followed to Success
abbrev Done : State → Type 0
Done m = m.phase ≡ P.Success

last : (m : State) (c : Call) → enough ≤ c.room → Completes m c → Done (run responder m (c ∷ []))
unfolding run
last m c n k = success_of m c n k

identified_on : (m : State) {h : List Call} → m.phase ≡ P.WaitingIdentitityInformation → Identified h → Roomy h → Done (run responder m h)
unfolding Roomy runs
identified_on m e (identified k g) ρ = on e (information k) ρ.0 Done _ (last _ _ ρ.1.0 (Completes.address refl g))

linked_on : (m : State) {h : List Call} → m.phase ≡ P.WaitingLinkEncrypted → Linked m.features h → Roomy h → Done (run responder m h)
unfolding Roomy runs
linked_on m e (plain b i) ρ = last m _ ρ.0 (Completes.link (Links.linked e i) b)
linked_on m e (keyed b i d) ρ = on e (link i) ρ.0 Done _ (rw b (identified_on _ refl d ρ.1))

-- a machine that waits for the DHKey check comes to Success exactly when what it takes is a right check, the encrypted link and, where
-- the peer's initiator bit is set, its identity
pub from_check : FromCheck
unfolding Roomy runs
from_check m cs e = (
  λ r. subst (λ p. Toward m p (history responder m cs)) e (forward cs m r),
  λ d. subst Done (replay responder cs m) (checked_on d (roomy responder cs m)),
)
  where
    checked_on : {h : List Call} → Checked m.features h → Roomy h → Done (run responder m h)
    checked_on (checked k s l) ρ = on e (check k s) ρ.0 Done _ (linked_on _ refl l ρ.1)
