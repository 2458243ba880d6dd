-- Passkey entry is exactly twenty rounds: the machine stands before the DHKey check just where its taken history is `Passed`. Assumes nothing.
use Rattle.std.specs.Prelude.{Option, Some, None}
use Rattle.std.proofs.lemmas.Bool.{cond-true}
use Prim.Native.Nat.{ℕ, suc, ◌+◌, ◌-◌, ◌≤◌, ◌<◌}
use mathlib.Core.Path.{◌≡◌, refl, sym, ap, subst, ◌∙◌}
use mathlib.Core.List.{List, [], ◌∷◌, ◌++◌, map}
use mathlib.Core.Bool.{Bool, true, false, cond}
use native.Mathlib.Omega.{arith}
use lib.ListN.{length}
use Rattle.octets.specs.Octets.{flip}
use Rattle.octets.proofs.Octets.{same_refl}
use Rattle.features.specs.declared.PairingFeatures.{PairingFeatures}
use Rattle.method.specs.declared.PairingMethod.{PairingMethod}
use Rattle.method.specs.declared.PairingMethod.TheVariants.{JustWorks, NumericComparison, PassKeyEntry, OutOfBand}
use Rattle.method.specs.declared.PassKeyEntryAction.{PassKeyEntryAction}
use Rattle.method.specs.declared.PassKeyEntryAction.TheVariants as W
use Rattle.rounds.specs.Rounds.{in_range, z_of}
use Rattle.frames.specs.Packets.{confirm_code}
use Rattle.protocol.specs.declared.Setup.{Setup}
use Rattle.protocol.specs.declared.Supplied.{Supplied}
use Rattle.protocol.specs.Plan.{Plan, Ending, refuses, fails, moves, runs, asked, Along}
use Rattle.protocol.specs.Parts.{shown as shown_as}
use Rattle.protocol.specs.Exchanged.{set_peer_nonce, peer_confirm}
use Rattle.protocol.specs.Role.{Call, enough, said, plan, step, questions, after, run, is_taken, keep, history}
use Rattle.protocol.proofs.Runs.{run_append, replay, Roomy, roomy}
use Rattle.machine.specs.declared.Phase.{Phase}
use Rattle.machine.specs.declared.Phase.TheVariants as P
use Rattle.machine.specs.declared.State.{State}
use Rattle.machine.specs.State.{at, to, fresh_state}
use Rattle.machine.specs.Numeric.{disclosing}
use Rattle.machine.specs.Responder.{responder}
use Rattle.machine.specs.Run.{begun, taken, in_round}
use Rattle.machine.specs.Passed.{Value, Request, Key, Shows, configured, drawn, Typed, Matching, Rounds, none, round, Passed, shown, typed, late, number, is_passkey, Reached}
use Rattle.machine.specs.Tested.{asked_z, tested, up_from}
use Rattle.machine.specs.Demand.{Exactly, Enters, First, TwentyBits}
use Rattle.machine.proofs.Awaited.{Awaited, clash, request, bonded_link, key, compared, early_check, yes, yes_held, early_confirm, passkey, passkey_held, confirm, random, oob_data, oob_random, check, link, information, address, on, visit, any_round, any_key, any_random}
use Rattle.machine.proofs.Bound.{rank, left, bound}

-- Forward: by induction on the calls, for every machine

-- z of bits r to 19 of the passkey p
abbrev bits : ℕ → ℕ → List ℕ
bits p r = map (z_of p) (up_from (suc (19 - r)) r)

-- what the taken calls h of a machine m in a phase complete, which bits were tested with them, and the passkey in the end
abbrev Leads : State → Phase → List Call → List ℕ → ℕ → Type 0
Leads m P.WaitingPairingRequest h zs n = Passed m.setup h × (zs ≡ bits n 0)
Leads m P.WaitingPublicKey h zs n = ((f : PairingFeatures) (q : Call) → Request m.setup f m.method q → Passed m.setup (q ∷ h)) × (zs ≡ bits n 0)
Leads m P.WaitingNumericComparisonRandom h zs n = is_passkey m.method ≡ true
Leads m (P.WaitingNumericComparisonResult held) h zs n = is_passkey m.method ≡ true
Leads m (P.WaitingPassKeyInput None) h zs n =
    ((f : PairingFeatures) (x : PassKeyEntryAction) (u : List ℕ) (q k : Call) → Request m.setup f (PassKeyEntry x W.Input) q → Key u k → Passed m.setup (q ∷ k ∷ h))
    × (zs ≡ bits n 0)
Leads m (P.WaitingPassKeyInput (Some held)) h zs n =
    ((f : PairingFeatures) (x : PassKeyEntryAction) (u v : List ℕ) (q k c : Call) → Request m.setup f (PassKeyEntry x W.Input) q → Key u k
    → Value confirm_code v c → flip v ≡ held → Passed m.setup (q ∷ k ∷ c ∷ h)) × (zs ≡ bits n 0)
Leads m (P.WaitingPassKeyEntryConfirm r) h zs n = Rounds (suc (19 - r)) h × (zs ≡ bits m.secrets.passkey r) × (n ≡ m.secrets.passkey)
Leads m (P.WaitingPassKeyEntryRandom r) h zs n =
    ((v : List ℕ) (c : Call) → Value confirm_code v c → flip v ≡ m.secrets.confirm → Rounds (suc (19 - r)) (c ∷ h))
    × (zs ≡ bits m.secrets.passkey r) × (n ≡ m.secrets.passkey)
Leads m P.WaitingOobData h zs n = is_passkey m.method ≡ true
Leads m P.WaitingOobRandom h zs n = is_passkey m.method ≡ true
Leads m P.WaitingDHKeyEa h zs n = (is_passkey m.method ≡ true) × Rounds 0 h × (zs ≡ []) × (n ≡ m.secrets.passkey)
Leads m P.WaitingLinkEncrypted h zs n = ⊥
Leads m P.WaitingIdentitityInformation h zs n = ⊥
Leads m P.WaitingIdentitityAddressInformation h zs n = ⊥
Leads m P.Success h zs n = ⊥
Leads m (P.Error f) h zs n = ⊥

-- after WaitingDHKeyEa there is no way back to it
never : (cs : List Call) (m : State) → left m < 4 → Reached (run responder m cs) → ⊥
never cs m h r = omega (arith, bound cs m, ap (rank (run responder m cs).method) r.0)

late_of : {s : Setup} {f : PairingFeatures} {x : PassKeyEntryAction} {u : List ℕ} {p : ℕ} {q k c t : Call} {h : List Call}
    → Request s f (PassKeyEntry x W.Input) q → Key u k → Typed p t → Rounds 20 (c ∷ h) → Passed s (q ∷ k ∷ c ∷ t ∷ h)
late_of a b t (round c d ρ) = late a b c t d ρ

-- the question of a random in round r: f4(peer x, our x, peer nonce, z), z of bit r
round_asks : (m : State) (r : ℕ) (c : Call) (w : List ℕ) → Matching m.secrets.confirm w c
    → questions responder (at m (P.WaitingPassKeyEntryRandom r)) c.input c.supplied ≡ peer_confirm m.setup m.secrets (flip w) (z_of m.secrets.passkey r) ∷ []
unfolding questions asked
round_asks m r c w k = rw (k.random.brings, k.random.whole, k.equal, same_refl c.supplied.peerconfirm)

module _ (cs : List Call)
    (ih : (m : State) → Reached (run responder m cs) → Leads m m.phase (history responder m cs) (tested m cs) (run responder m cs).secrets.passkey) (c : Call) where
  abbrev Then : State → Ending State → Type 0
  Then m e =
      let s : State = (said responder m e).next in
      let b : Bool = is_taken (said responder m e).answer in
      Reached (run responder s cs) → Leads m m.phase (keep b c (history responder s cs))
      (cond b (in_round m.phase (λ r. map asked_z (questions responder m c.input c.supplied)) []) [] ++ tested s cs) (run responder s cs).secrets.passkey

  -- by another method, no
  other : {A : Type 0} (m : State) (x : PairingMethod) → m.method ≡ x → is_passkey x ≡ false → is_passkey m.method ≡ true → A
  other m x e f g = let h : true ≡ false = sym g ∙ ap is_passkey e ∙ f in clash (cc)

  -- a random in round r, where n rounds were left after it
  by_random : (m : State) (r : ℕ) (w : List ℕ) → Matching m.secrets.confirm w c → (n : ℕ) → 19 - r ≡ n → {h : List Call} {zs : List ℕ} → Rounds n h
      → zs ≡ map (z_of m.secrets.passkey) (up_from n (r + 1)) → ((v : List ℕ) (d : Call) → Value confirm_code v d → flip v ≡ m.secrets.confirm → Rounds (suc (19 - r)) (d ∷ c ∷ h))
      × (map asked_z (questions responder (at m (P.WaitingPassKeyEntryRandom r)) c.input c.supplied) ++ zs ≡ bits m.secrets.passkey r)
  unfolding up_from
  by_random m r w k n e ρ t =
      (λ v d g h. rw e (round g (record { random = k.random; equal = h ∙ k.equal }) ρ), rw (round_asks m r c w k, e) (ap (λ zs. z_of m.secrets.passkey r ∷ zs) t))

  by_awaited : {m : State} {p : Phase} (q : Plan State) → Awaited m c p q → Along c.supplied (Then (at m p)) q
  unfolding Along up_from
  by_awaited q (request {f} a) = λ r. let i = ih _ r in (i.0 f c (record { payload = a.payload; brings = a.brings; says = a.says; chooses = refl }), i.1)
  by_awaited q (bonded_link i) = (λ b r. absurd (never cs _ (omega arith) r), λ b r. absurd (never cs _ (omega arith) r))
  by_awaited {m} q (key {w} k) =
      any_key c.supplied (Then (at m P.WaitingPublicKey)) m _ (ih _) (λ e r. other m OutOfBand e refl (ih _ r))
      (λ x n e s r. let i = ih _ r in (λ f q a. shown (subst (λ y. Request m.setup f y q) e a) k s i.0, rw i.2 i.1))
      (λ x e r. let i = ih _ r in (λ f q a. i.0 f x w q c (subst (λ y. Request m.setup f y q) e a) k, i.1))
      (λ e r. other m JustWorks e refl (ih _ r)) (λ e r. other m NumericComparison e refl (ih _ r))
  by_awaited {m} q (compared k) = any_random c.supplied (Then _) m m.method _ (λ r. (ih _ r).0) (λ r. ih _ r)
  by_awaited q (early_check k) = λ r. ih _ r
  by_awaited q (yes i) = λ r. (ih _ r).0
  by_awaited q (yes_held i e) = λ r. absurd (never cs _ (omega arith) r)
  by_awaited q (early_confirm {v} k) = λ r. let i = ih _ r in (λ f x u q d a b. i.0 f x u v q d c a b k refl, i.1)
  by_awaited q (passkey t) = λ r. let i = ih _ r in (λ f x u q d a b. typed a b t i.0, rw i.2 i.1)
  by_awaited q (passkey_held t) = λ r. let i = ih _ r in (λ f x u v q d k a b g e. late_of a b t (i.0 v k g e), rw i.2 i.1)
  by_awaited q (confirm {v} k) = λ r. let i = ih _ r in (i.0 v c k refl, i.1, i.2)
  by_awaited {m} q (random {r} {w} k) =
      any_round r (λ p. Then (at m (P.WaitingPassKeyEntryRandom r)) (disclosing m (flip w) p None))
      (λ l re. let i = ih _ re in let j = by_random m r w k (suc (19 - (r + 1))) (omega arith) i.0 i.1 in (j.0, j.1, i.2))
      (λ l re. let i = ih _ re in let j = by_random m r w k 0 (omega arith) i.1 i.2 in (j.0, j.1, i.3))
  by_awaited q (oob_data o i e) = λ r. ih _ r
  by_awaited q (oob_random k) = λ r. (ih _ r).0
  by_awaited q (check k e) = λ r. absurd (never cs _ (omega arith) r)
  by_awaited q (link i) = (λ b r. absurd (never cs _ (omega arith) r), λ b r. absurd (never cs _ (omega arith) r))
  by_awaited q (information k) = λ r. absurd (never cs _ (omega arith) r)
  by_awaited q (address k) = λ r. absurd (never cs _ (omega arith) r)

forward : (cs : List Call) (m : State) → Reached (run responder m cs) → Leads m m.phase (history responder m cs) (tested m cs) (run responder m cs).secrets.passkey
unfolding run history tested step
forward [] m r = rw r.0 (r.1, none, refl, refl)
forward (c ∷ cs) m r =
    visit m c (Then cs (forward cs) c m) (λ x. forward cs m) (λ u e f i. absurd (never cs (at m (P.Error f)) (omega arith) i)) (by_awaited cs (forward cs) c) r

-- Backward: what is `Passed` is followed

-- before the DHKey check, with the passkey n
abbrev Ended : ℕ → State → Type 0
Ended n m = Reached m × (m.secrets.passkey ≡ n)

no_rounds : {n : ℕ} {h : List Call} → Rounds n h → n ≡ 0 → (p : ℕ) (m : State) → Ended p m → Ended p (run responder m h)
unfolding run
no_rounds none e p m i = i
no_rounds (round c d ρ) e p m i = absurd (omega arith)

-- a random in round r, and n rounds after it
back_random : {n : ℕ} {h : List Call} {d : Call} {w : List ℕ} → Rounds n h → (r : ℕ) (m : State) → m.phase ≡ P.WaitingPassKeyEntryRandom r → n ≡ 19 - r
    → is_passkey m.method ≡ true → Matching m.secrets.confirm w d → enough ≤ d.room
    → (n ≡ suc (19 - (r + 1)) → Ended m.secrets.passkey (run responder (to m (P.WaitingPassKeyEntryConfirm (r + 1)) (set_peer_nonce m.secrets (flip w))) h))
    → Ended m.secrets.passkey (run responder m (d ∷ h))
unfolding runs
back_random {n} {h} {d} {w} ρ r m p e i g o again =
    on p (random g) o (Ended _) _ (any_round r (λ p. Ended m.secrets.passkey (run responder (to m p (set_peer_nonce m.secrets (flip w))) h))
    (λ l. again (omega arith)) (λ l. no_rounds ρ (omega arith) _ _ ((refl, i), refl)))

back_rounds : {n : ℕ} {h : List Call} → Rounds n h → (r : ℕ) (m : State) → m.phase ≡ P.WaitingPassKeyEntryConfirm r → n ≡ suc (19 - r) → is_passkey m.method ≡ true → Roomy h
    → Ended m.secrets.passkey (run responder m h)
unfolding Roomy runs
back_rounds none r m p e i o = absurd (omega arith)
back_rounds (round {d} {h} k g ρ) r m p e i o =
    on p (confirm k) o.0 (Ended _) _ (back_random ρ r _ refl (omega arith) i g o.1.0 (λ l. back_rounds ρ (r + 1) _ refl l i o.1.1))

shown_took : {k : Option ℕ} {d p : ℕ} → Shows k d p → (a : Supplied) → a.passkey ≡ d → (f : ℕ → Plan State) → runs a (shown_as k f) ≡ runs a (f p)
unfolding runs
shown_took (configured p d) a e f = refl
shown_took (drawn p r) a e f = cond-true _ _ _ (ap in_range e ∙ r) ∙ ap (λ (d : ℕ). runs a (f d)) e

-- the passkey, typed before round 0's confirm or after it
back_typed : {p : ℕ} {t : Call} {h : List Call} (m : State) → m.phase ≡ P.WaitingPassKeyInput None → is_passkey m.method ≡ true → Typed p t → Rounds 20 h → Roomy (t ∷ h)
    → Ended p (run responder m (t ∷ h))
unfolding Roomy runs
back_typed m e i t ρ o = on e (passkey t) o.0 (Ended _) _ (back_rounds ρ 0 _ refl refl i o.1)

back_late : {p : ℕ} {v w : List ℕ} {c t d : Call} {h : List Call} (m : State) → m.phase ≡ P.WaitingPassKeyInput None → is_passkey m.method ≡ true → Value confirm_code v c → Typed p t
    → Matching (flip v) w d → Rounds 19 h → Roomy (c ∷ t ∷ d ∷ h) → Ended p (run responder m (c ∷ t ∷ d ∷ h))
unfolding Roomy runs
back_late m e i k t g ρ o =
    on e (early_confirm k) o.0 (Ended _) _ (on refl (passkey_held t) o.1.0 (Ended _) _
    (back_random ρ 0 _ refl refl i g o.1.1.0 (λ l. back_rounds ρ 1 _ refl l i o.1.1.1)))

backward : (s : Setup) {h : List Call} (d : Passed s h) → Roomy h → Ended (number d) (run responder (fresh_state s) h)
unfolding Roomy runs
backward s (shown {k} a b d ρ) o =
    on refl (request a) o.0 (Ended _) _ (on refl (key b) o.1.0 (Ended _) _ (rw (a.chooses, shown_took d k.supplied refl) (back_rounds ρ 0 _ refl refl refl o.1.1)))
backward s (typed a b t ρ) o = on refl (request a) o.0 (Ended _) _ (on refl (key b) o.1.0 (Ended _) _ (rw a.chooses (back_typed _ refl refl t ρ o.1.1)))
backward s (late a b k t g ρ) o =
    on refl (request a) o.0 (Ended _) _ (on refl (key b) o.1.0 (Ended _) _ (rw a.chooses (back_late _ refl refl k t g ρ o.1.1)))

-- The theorems

module _ (s : Setup) (cs : List Call) (d : Passed s (taken s cs)) where
  ended : Ended (number d) (begun s cs)
  ended = subst (Ended (number d)) (replay responder cs (fresh_state s)) (backward s d (roomy responder cs (fresh_state s)))

  -- the passkey is the one that was shown or typed
  pub passkey_is : (begun s cs).secrets.passkey ≡ number d
  passkey_is = ended.1

pub exact : Exactly
exact s cs = (λ r. (forward cs (fresh_state s) r).0, λ d. (ended s cs d).0)

pub twenty_bits : TwentyBits
twenty_bits s cs r = (forward cs (fresh_state s) r).1

-- of a machine that stands in WaitingDHKeyEa, and stands there again later, nothing was taken in between
pub once : (m : State) (ds : List Call) → m.phase ≡ P.WaitingDHKeyEa → (run responder m ds).phase ≡ P.WaitingDHKeyEa → history responder m ds ≡ []
once m ds e f = nil (history responder m ds) (omega (arith, bound ds m, ap (rank m.method) e, ap (rank (run responder m ds).method) f))
  where
    nil : (h : List Call) → length h ≡ 0 → h ≡ []
    nil [] e = refl
    nil (c ∷ h) e = absurd (omega arith)

pub first : First
unfolding run history step
first s cs c = (λ e. (there e (runs c.supplied (plan responder m c.input c.room)) refl, (exact s (cs ++ (c ∷ []))).0 e.1), back)
  where
    m : State
    m = begun s cs

    last : begun s (cs ++ (c ∷ [])) ≡ after responder m c
    last = run_append responder cs (c ∷ []) (fresh_state s)

    there : Enters s cs c → (e : Ending State) → runs c.supplied (plan responder m c.input c.room) ≡ e → is_taken (said responder m e).answer ≡ true
    there h (refuses r) e = absurd (h.0 (subst Reached (last ∙ ap (λ x. (said responder m x).next) e) h.1))
    there h (fails x f) e = refl
    there h (moves n ps x y a) e = refl

    back : (is_taken (step responder m c).answer ≡ true) × Passed s (taken s (cs ++ (c ∷ []))) → Enters s cs c
    back p =
        let r : Reached (begun s (cs ++ (c ∷ []))) = (exact s (cs ++ (c ∷ []))).1 p.1 in
        (λ q. let e : keep true c [] ≡ [] = ap (λ b. keep b c []) (sym p.0) ∙ once m (c ∷ []) q.0 (subst Reached last r).0 in clash (cc), r)
