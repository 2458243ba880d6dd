-- What a run of passkey entry sends: our nonce of a round after a match and at no other time, and once. Assumes nothing.
use Prim.Native.Nat.{ℕ, ◌+◌, ◌-◌, ◌*◌, ◌≤◌, ◌<◌}
use mathlib.Core.Path.{◌≡◌, refl, sym, ap, ◌∙◌}
use mathlib.Core.List.{List, [], ◌∷◌, ◌++◌}
use mathlib.Core.Bool.{Bool, true, false, cond}
use mathlib.Core.Logic.{inl, inr}
use native.Mathlib.Omega.{arith}
use lib.ListN.{length}
use lib.Dec.{eqb}
use borrow.Author.Tests.{eqb-true, le-ltb}
use Rattle.octets.proofs.Octets.{ne_same}
use Rattle.features.specs.Bits.{identity_bit}
use Rattle.frames.specs.Packets.{Packet, pairing_random, identity_information, identity_address}
use Rattle.protocol.specs.Plan.{Plan, Ending, runs, Along}
use Rattle.protocol.specs.Role.{Call, said, step, after, run, enough}
use Rattle.machine.specs.declared.Phase.{Phase}
use Rattle.machine.specs.declared.Phase.TheVariants as P
use Rattle.machine.specs.declared.State.{State}
use Rattle.machine.specs.State.{at, fresh_state}
use Rattle.machine.specs.Request.{own_features}
use Rattle.machine.specs.Keys.{own_identity}
use Rattle.machine.specs.Responder.{responder}
use Rattle.machine.specs.Run.{begun, taken, in_round, sent_in}
use Rattle.machine.specs.Passed.{is_passkey}
use Rattle.machine.specs.Sent.{no_random, Discloses, hidden, matched, Sends, passkey, comparison, out_of_band}
use Rattle.machine.specs.Demand.{Match, Mismatch, AtMostOne, OneNonce, OnlyMatch}
use Rattle.machine.proofs.Awaited.{Awaited, clash, request, bonded_link, key, compared, early_check, yes, yes_held, early_confirm, passkey_held, confirm, random, oob_data, oob_random, check, link, information, address, goes_on, visit, any_key, any_random}
use Rattle.machine.proofs.Bound.{left, bound, not_elsewhere, keeps, after_round}

-- A random in round r

pub match : Match
unfolding step runs
match m r c w e k n s = ap (said responder m) (goes_on e (random (record { random = k; equal = s })) n)

pub mismatch : Mismatch
unfolding step runs
mismatch m r c w e k n s = rw (k.brings, e, le-ltb c.room enough n, k.whole, ne_same _ _ s)

-- Whatever the machine and the call

-- our identity keys are no Pairing Random
no_identity : (m : State) → no_random (own_identity m) ≡ true
no_identity m =
    elim (identity_bit (own_features m.setup m.features).responder)
    as (λ b. no_random (cond b (identity_information m.setup.irk ∷ identity_address m.setup.identity ∷ []) []) ≡ true) [ true ↦ refl | false ↦ refl ]

abbrev Sent : State → Call → Ending State → Type 0
Sent m c e = Sends m c (said responder m e).packets

sends : {m : State} {c : Call} {p : Phase} (q : Plan State) → Awaited m c p q → Along c.supplied (Sent (at m p) c) q
unfolding Along
sends q (request a) = passkey (hidden refl)
sends {m} q (bonded_link i) = (λ b. passkey (hidden (no_identity m)), λ b. passkey (hidden (no_identity m)))
sends {m} {c} q (key k) =
    any_key c.supplied (Sent _ c) m _ (passkey (hidden refl)) (λ e. passkey (hidden refl)) (λ x n e s. passkey (hidden refl)) (λ x e. passkey (hidden refl)) (λ e. passkey (hidden refl)) (λ e. passkey (hidden refl))
sends {m} {c} q (compared k) = any_random c.supplied (Sent _ c) m m.method _ (comparison refl k) (comparison refl k)
sends q (early_check k) = passkey (hidden refl)
sends q (yes i) = passkey (hidden refl)
sends q (yes_held i e) = passkey (hidden refl)
sends q (early_confirm k) = passkey (hidden refl)
sends q (Awaited.passkey t) = passkey (hidden refl)
sends q (passkey_held t) = passkey (hidden refl)
sends q (confirm k) = passkey (hidden refl)
sends q (random k) = passkey (matched refl k)
sends q (oob_data o i e) = passkey (hidden refl)
sends q (oob_random k) = out_of_band refl k
sends q (check k e) = passkey (hidden refl)
sends {m} q (link i) = (λ b. passkey (hidden (no_identity m)), λ b. passkey (hidden (no_identity m)))
sends q (information k) = passkey (hidden refl)
sends q (address k) = passkey (hidden refl)

pub sends_step : (m : State) (c : Call) → Sends m c (step responder m c).packets
unfolding step
sends_step m c = visit m c (Sent m c) (λ r. passkey (hidden refl)) (λ u e f. passkey (hidden refl)) sends

-- in a run of passkey entry no Pairing Random leaves but by a match in a round
pub only_match : OnlyMatch
only_match s cs c h = go (begun s cs) (bound cs (fresh_state s)) h (sends_step (begun s cs) c)
  where
    go : (m : State) → length (taken s cs) + left m ≤ 47 → is_passkey (after responder m c).method ≡ true → {ps : List Packet} → Sends m c ps → Discloses m c ps
    go m l h (passkey d) = d
    go m l h (comparison e k) = absurd ((not_elsewhere m (omega arith) (ap is_passkey (sym (keeps m c (λ u. clash (cc)))) ∙ h)).0 e)
    go m l h (out_of_band e k) = absurd ((not_elsewhere m (omega arith) (ap is_passkey (sym (keeps m c (λ u. clash (cc)))) ∙ h)).1 e)

-- Along a run, in round r

-- what a machine sends there, by whether it stands there
module _ (r : ℕ) (f : State → List Packet) (Q : State → List Packet → Type 0)
    (out : (m : State) → Q m []) (there : (m : State) → Q (at m (P.WaitingPassKeyEntryRandom r)) (f (at m (P.WaitingPassKeyEntryRandom r)))) where
  in_round_lem : (p : Phase) (m : State) → Q (at m p) (in_round p (λ k. cond (eqb k r) (f (at m p)) []) [])
  in_round_lem (P.WaitingPassKeyEntryRandom k) m = go (eqb k r) refl
    where
      go : (b : Bool) → eqb k r ≡ b → Q (at m (P.WaitingPassKeyEntryRandom k)) (cond b (f (at m (P.WaitingPassKeyEntryRandom k))) [])
      go true e = rw (eqb-true k r e) (there m)
      go false e = out _
  in_round_lem P.WaitingPairingRequest m = out _
  in_round_lem P.WaitingPublicKey m = out _
  in_round_lem P.WaitingNumericComparisonRandom m = out _
  in_round_lem (P.WaitingNumericComparisonResult held) m = out _
  in_round_lem (P.WaitingPassKeyInput held) m = out _
  in_round_lem (P.WaitingPassKeyEntryConfirm k) m = out _
  in_round_lem P.WaitingOobData m = out _
  in_round_lem P.WaitingOobRandom m = out _
  in_round_lem P.WaitingDHKeyEa m = out _
  in_round_lem P.WaitingLinkEncrypted m = out _
  in_round_lem P.WaitingIdentitityInformation m = out _
  in_round_lem P.WaitingIdentitityAddressInformation m = out _
  in_round_lem P.Success m = out _
  in_round_lem (P.Error e) m = out _

-- from below round r's rank, nothing more is sent in it
silent : (r : ℕ) (cs : List Call) (m : State) → left m < 5 + 2 * (19 - r) → sent_in r m cs ≡ []
unfolding sent_in run
silent r [] m h = refl
silent r (c ∷ cs) m h =
    in_round_lem r (λ n. (step responder n c).packets) (λ n ps. left n < 5 + 2 * (19 - r) → ps ++ sent_in r (after responder n c) cs ≡ [])
    (λ n l. silent r cs (after responder n c) (omega (arith, bound (c ∷ []) n))) (λ n l. absurd (omega arith)) m.phase m h

-- what a run sends in round r is nothing, or one nonce
pub one_nonce : OneNonce
unfolding sent_in step Along
one_nonce r [] m = inl refl
one_nonce r (c ∷ cs) m =
    in_round_lem r (λ n. (step responder n c).packets) (λ n ps. AtMostOne (ps ++ sent_in r (after responder n c) cs)) (λ n. one_nonce r cs (after responder n c))
    (λ n. visit (at n (P.WaitingPassKeyEntryRandom r)) c (One n) (λ x. one_nonce r cs (at n (P.WaitingPassKeyEntryRandom r)))
    (λ u e f. inl (silent r cs (at n (P.Error f)) (omega arith))) (nonce n)) m.phase m
  where
    One : State → Ending State → Type 0
    One n e = AtMostOne ((said responder (at n (P.WaitingPassKeyEntryRandom r)) e).packets ++ sent_in r (said responder (at n (P.WaitingPassKeyEntryRandom r)) e).next cs)

    nonce : (n : State) (q : Plan State) → Awaited (at n (P.WaitingPassKeyEntryRandom r)) c (P.WaitingPassKeyEntryRandom r) q → Along c.supplied (One n) q
    nonce n q (random k) = inr (n.secrets.ownnonce, ap (λ ps. pairing_random n.secrets.ownnonce ∷ ps) (silent r cs _ (after_round n.method r)))
