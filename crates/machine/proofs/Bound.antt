-- A run takes at most 47 calls, and is finished by the 47th: each taken call lowers a rank. Assumes nothing.
use Rattle.std.specs.Prelude.{Some, None}
use Prim.Native.Nat.{ℕ, ◌+◌, ◌-◌, ◌*◌, ◌≤◌, ◌<◌}
use mathlib.Core.Path.{◌≡◌, refl, ap, ◌∙◌}
use mathlib.Core.List.{List, [], ◌∷◌}
use mathlib.Core.Bool.{Bool, true, false, cond}
use native.Mathlib.Omega.{arith}
use lib.ListN.{length}
use Rattle.method.specs.declared.Kind.TheVariants.{SecureConnections}
use Rattle.method.specs.declared.PairingMethod.{PairingMethod}
use Rattle.method.specs.declared.PairingMethod.TheVariants.{JustWorks, NumericComparison, PassKeyEntry, OutOfBand}
use Rattle.method.specs.declared.PassKeyEntryAction.TheVariants as W
use Rattle.method.specs.Method.{method_of}
use Rattle.rounds.specs.Rounds.{after_of}
use Rattle.protocol.specs.declared.Setup.{Setup}
use Rattle.protocol.specs.declared.Supplied.{Supplied}
use Rattle.protocol.specs.Plan.{Plan, Ending, runs, Along}
use Rattle.protocol.specs.Role.{Call, said, plan, step, after, run, is_taken, keep, history, Lower}
use Rattle.protocol.proofs.Along.{along_end}
use Rattle.protocol.proofs.Runs as Runs
use Rattle.machine.specs.declared.Phase.{Phase}
use Rattle.machine.specs.declared.Phase.TheVariants as P
use Rattle.machine.specs.declared.State.{State}
use Rattle.machine.specs.State.{at, finished_phase, fresh_state}
use Rattle.machine.specs.Request.{own_features, requested}
use Rattle.machine.specs.Numeric.{compares}
use Rattle.machine.specs.Passkey.{waits}
use Rattle.machine.specs.Responder.{responder}
use Rattle.machine.specs.Run.{begun, taken, longest}
use Rattle.machine.specs.Passed.{is_passkey}
use Rattle.machine.specs.Demand.{AtMost47, ByMethod}
use Rattle.machine.proofs.Awaited.{Awaited, request, bonded_link, key, compared, early_check, yes, yes_held, early_confirm, passkey, passkey_held, confirm, random, oob_data, oob_random, check, link, information, address, visit, any_round, any_key}

-- a passkey method comes to no phase of another method: there its rank is more than any run has
abbrev elsewhere : PairingMethod → ℕ
elsewhere x = cond (is_passkey x) 44 0

-- the most calls that can be taken after the next one
abbrev further : PairingMethod → Phase → ℕ
further x P.WaitingPairingRequest = 46
further x P.WaitingPublicKey = longest x - 2
further x P.WaitingNumericComparisonRandom = longest x - 3 + elsewhere x
further x (P.WaitingNumericComparisonResult None) = 4
further x (P.WaitingNumericComparisonResult (Some v)) = 3
further x (P.WaitingPassKeyInput None) = 44
further x (P.WaitingPassKeyInput (Some v)) = 43
further x (P.WaitingPassKeyEntryConfirm r) = 5 + 2 * (19 - r)
further x (P.WaitingPassKeyEntryRandom r) = 4 + 2 * (19 - r)
further x P.WaitingOobData = 5 + elsewhere x
further x P.WaitingOobRandom = 4 + elsewhere x
further x P.WaitingDHKeyEa = 3
further x P.WaitingLinkEncrypted = 2
further x P.WaitingIdentitityInformation = 1
further x P.WaitingIdentitityAddressInformation = 0
further x P.Success = 0
further x (P.Error f) = 0

-- the most calls that can still be taken
abbrev pub rank : PairingMethod → Phase → ℕ
rank x p = cond (finished_phase p) 0 (further x p + 1)

abbrev pub left : State → ℕ
left m = rank m.method m.phase

longest_is : (x : PairingMethod) → (5 < longest x) × (longest x < 48)
longest_is JustWorks = (omega arith, omega arith)
longest_is NumericComparison = (omega arith, omega arith)
longest_is OutOfBand = (omega arith, omega arith)
longest_is (PassKeyEntry x W.Display) = (omega arith, omega arith)
longest_is (PassKeyEntry x W.Input) = (omega arith, omega arith)

positive : (m : State) → finished_phase m.phase ≡ false → 0 < left m
positive m u = rw u (omega arith)

-- each end lowers the rank, and from a request on keeps the method
abbrev Low : State → Ending State → Type 0
Low m e = Lower responder left m e × (¬ (m.phase ≡ P.WaitingPairingRequest) → (said responder m e).next.method ≡ m.method)

low_compared : (a : Supplied) (m : State) (n : List ℕ) (x : PairingMethod) → m.method ≡ x → Along a (Low (at m P.WaitingNumericComparisonRandom)) (compares x m n)
unfolding Along
low_compared a m n JustWorks e = (omega (arith, ap longest e), λ n. refl)
low_compared a m n NumericComparison e = (omega (arith, ap longest e), λ n. refl)
low_compared a m n OutOfBand e = (omega (arith, ap longest e), λ n. refl)
low_compared a m n (PassKeyEntry x y) e = (omega (arith, ap elsewhere e), λ n. refl)

pub after_round : (x : PairingMethod) (r : ℕ) → rank x (waits (after_of r)) < 5 + 2 * (19 - r)
after_round x r = any_round r (λ p. rank x p < 5 + 2 * (19 - r)) (λ l. omega arith) (λ l. omega arith)

low : {m : State} {c : Call} {p : Phase} (q : Plan State) → Awaited m c p q → Along c.supplied (Low (at m p)) q
unfolding Along
low {m} q (request {f} a) = (omega (arith, longest_is (method_of SecureConnections f (own_features m.setup f))), λ n. absurd (n refl))
low q (bonded_link i) = (λ b. (omega arith, λ n. refl), λ b. (omega arith, λ n. refl))
low {m} {c} q (key k) =
    any_key c.supplied (Low (at m P.WaitingPublicKey)) m _ (tt, λ n. refl) (λ e. (omega (arith, ap longest e, ap elsewhere e), λ n. refl))
    (λ x n e s. (omega (arith, ap longest e), λ n. refl)) (λ x e. (omega (arith, ap longest e), λ n. refl))
    (λ e. (omega (arith, ap longest e, ap elsewhere e), λ n. refl)) (λ e. (omega (arith, ap longest e, ap elsewhere e), λ n. refl))
low {m} {c} q (compared k) = low_compared c.supplied m _ m.method refl
low q (early_check k) = (omega arith, λ n. refl)
low q (yes i) = (omega arith, λ n. refl)
low q (yes_held i e) = (omega arith, λ n. refl)
low q (early_confirm k) = (omega arith, λ n. refl)
low q (passkey t) = (omega arith, λ n. refl)
low q (passkey_held t) = (omega arith, λ n. refl)
low q (confirm k) = (omega arith, λ n. refl)
low {m} q (random {r} k) = (omega (arith, after_round m.method r), λ n. refl)
low q (oob_data o i e) = (omega arith, λ n. refl)
low q (oob_random k) = (omega arith, λ n. refl)
low q (check k e) = (omega arith, λ n. refl)
low q (link i) = (λ b. (omega arith, λ n. refl), λ b. (omega arith, λ n. refl))
low q (information k) = (omega arith, λ n. refl)
low q (address k) = (omega arith, λ n. refl)

lowers : (m : State) (c : Call) → Low m (runs c.supplied (plan responder m c.input c.room))
lowers m c = visit m c (Low m) (λ r. (tt, λ n. refl)) (λ u e f. (positive m u, λ n. refl)) low

-- what was taken and what is left are at most what there was
pub bound : (cs : List Call) (m : State) → length (history responder m cs) + left (run responder m cs) ≤ left m
bound = Runs.bound responder left (λ m c. along_end c.supplied (Lower responder left m) _ (lowers m c).0)

-- a run of passkey entry comes to no phase in which another method sends a random
pub not_elsewhere : (m : State) → left m ≤ 47 → is_passkey m.method ≡ true → (¬ (m.phase ≡ P.WaitingNumericComparisonRandom)) × (¬ (m.phase ≡ P.WaitingOobRandom))
not_elsewhere m l h =
    let n : elsewhere m.method ≡ 44 = rw h in
    (λ e. omega (arith, ap (rank m.method) e, longest_is m.method), λ e. omega (arith, ap (rank m.method) e))

-- from a request on, a run keeps the method
pub keeps : (m : State) (c : Call) → ¬ (m.phase ≡ P.WaitingPairingRequest) → (after responder m c).method ≡ m.method
unfolding step
keeps m c = (lowers m c).1

keeps_run : (cs : List Call) (m : State) → left m < 47 → (run responder m cs).method ≡ m.method
unfolding run
keeps_run [] m l = refl
keeps_run (c ∷ cs) m l = keeps_run cs (after responder m c) (omega (arith, bound (c ∷ []) m)) ∙ keeps m c (λ e. omega (arith, ap (rank m.method) e))

by_method_at : (cs : List Call) (m : State) → length (history responder (at m P.WaitingPairingRequest) cs) ≤ longest (run responder (at m P.WaitingPairingRequest) cs).method
unfolding run history step Along
by_method_at [] m = omega (arith, longest_is m.method)
by_method_at (c ∷ cs) m = visit m₀ c By (λ r. by_method_at cs m) (λ u e f. few (at m (P.Error f)) (omega arith)) by
  where
    m₀ : State
    m₀ = at m P.WaitingPairingRequest

    By : Ending State → Type 0
    By e = length (keep (is_taken (said responder m₀ e).answer) c (history responder (said responder m₀ e).next cs)) ≤ longest (run responder (said responder m₀ e).next cs).method

    few : (s : State) → left s < 5 → length (c ∷ history responder s cs) ≤ longest (run responder s cs).method
    few s l = omega (arith, bound cs s, longest_is (run responder s cs).method)

    by : (q : Plan State) → Awaited m₀ c P.WaitingPairingRequest q → Along c.supplied By q
    by q (request {f} a) =
        let x : PairingMethod = method_of SecureConnections f (own_features m.setup f) in
        omega (arith, longest_is x, bound cs (requested m₀ f), ap longest (keeps_run cs (requested m₀ f) (omega (arith, longest_is x))))
    by q (bonded_link i) = (λ b. few _ (omega arith), λ b. few _ (omega arith))

pub ended_at_47 : (s : Setup) (cs : List Call) → length (taken s cs) ≡ 47 → finished_phase (begun s cs).phase ≡ true
ended_at_47 s cs h = go (begun s cs) (bound cs (fresh_state s)) _ refl
  where
    go : (m : State) → length (taken s cs) + left m ≤ 47 → (b : Bool) → finished_phase m.phase ≡ b → b ≡ true
    go m l true e = refl
    go m l false e = absurd (omega (arith, positive m e))

pub at_most_47 : AtMost47
at_most_47 s cs = (omega (arith, bound cs (fresh_state s)), ended_at_47 s cs)

pub by_method : ByMethod
by_method s cs = by_method_at cs (fresh_state s)
