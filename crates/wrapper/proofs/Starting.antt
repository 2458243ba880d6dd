-- A start with a Security Request at each of its ends. Assumes nothing.
use Rattle.std.specs.Prelude.{Result, Ok, Err, ⊤}
use Prim.Native.Nat.{ℕ, ◌<◌, ◌≤◌}
use mathlib.Core.Path.{◌≡◌, sym, ap, ◌∙◌}
use mathlib.Core.List.{List, [], ◌∷◌}
use mathlib.Core.Bool.{Bool, true, false, cond}
use native.Mathlib.Omega.{arith}
use lib.ListN.{length}
use borrow.Author.Tests.{lt-ltb, le-ltb}
use Rattle.octets.specs.Write.{Wrote}
use Rattle.features.specs.Bits.{our_auth_req}
use Rattle.frames.specs.Packets.{Packet, security_request, framed, channel}
use Rattle.protocol.specs.declared.Refusal.{Refusal}
use Rattle.protocol.specs.declared.Refusal.TheVariants as R
use Rattle.protocol.specs.declared.Setup.{Setup}
use Rattle.protocol.specs.Role.{enough}
use Rattle.protocol.proofs.Follows.{nothing}
use Rattle.wrapper.specs.declared.Begun.{Begun}
use Rattle.wrapper.specs.Starts.{Beginning, begun_of, Opened, suits, started, starting, start_refused, start_of, asks_mitm, initiate_of}

opened : (b : Beginning) {r : Begun} {n : ℕ} {before after : List ℕ} → r ≡ begun_of b n → Wrote (framed channel b.packets) before n after → Opened b r before after
opened b e w = record { begun = e ∙ ap (begun_of b) w.count; out = w.octets }

opened_refused : (s : Setup) (x : Refusal) {r : Begun} (out : List ℕ) → r ≡ begun_of (start_refused s x) 0 → Opened (start_refused s x) r out out
unfolding start_refused
opened_refused s x out e = opened (start_refused s x) e (nothing channel out)

started_refused : {u : ⊤} {x : Refusal} → ◌≡◌ {A = Result ⊤ Refusal} (Ok u) (Err x) → ⊥
started_refused e = let z : ◌≡◌ {A = ℕ} 0 1 = cc in omega arith

-- a plain start by its answer: refused, so is any; started, it may send
module _ (s : Setup) (ps : List Packet) (out : List ℕ) {begun : Begun} (e : begun ≡ begun_of (start_of s) 0) where
  unfit : {x : Refusal} → begun.answer ≡ Err x → Opened (starting s ps) begun out out
  unfolding starting
  unfit k = go (suits s.passkey) e
    where
      go : (b : Bool) → begun ≡ begun_of (cond b (started s []) (start_refused s R.PasskeyRange)) 0 → Opened (cond b (started s ps) (start_refused s R.PasskeyRange)) begun out out
      go true e = absurd (started_refused (sym (ap (λ (b : Begun). b.answer) e) ∙ k))
      go false e = opened_refused s R.PasskeyRange out e

  fit : {n : ℕ} {after : List ℕ} {u : ⊤} → begun.answer ≡ Ok u → Wrote (framed channel ps) out n after
      → Opened (starting s ps) (record { responder = begun.responder; sent = n; answer = begun.answer }) out after
  unfolding starting start_refused
  fit {n} {after} k w = go (suits s.passkey) e
    where
      go : (b : Bool) → begun ≡ begun_of (cond b (started s []) (start_refused s R.PasskeyRange)) 0
          → Opened (cond b (started s ps) (start_refused s R.PasskeyRange)) (record { responder = begun.responder; sent = n; answer = begun.answer }) out after
      go true e = opened (started s ps) (rw e) w
      go false e = absurd (started_refused (sym k ∙ ap (λ (b : Begun). b.answer) e))

module _ (s : Setup) (user : Bool) (out : List ℕ) where
  pub short_start : {r : Begun} → length out < enough → r ≡ begun_of (start_refused s R.OutboxShort) 0 → Opened (initiate_of s user (length out)) r out out
  unfolding initiate_of
  short_start h e = rw (lt-ltb (length out) enough h) (opened_refused s R.OutboxShort out e)

  -- as a plain start, which sends nothing
  module _ (h : enough ≤ length out) {begun : Begun} (e : begun ≡ begun_of (start_of s) 0) where
    pub unfit_start : {x : Refusal} → begun.answer ≡ Err x → Opened (initiate_of s user (length out)) begun out out
    unfolding initiate_of
    unfit_start k = rw (le-ltb (length out) enough h) (unfit s _ out e k)

    pub opens : {n : ℕ} {after : List ℕ} {u : ⊤} → begun.answer ≡ Ok u → (q : ℕ) → q ≡ our_auth_req s.bonding (asks_mitm s user)
        → Wrote (framed channel (security_request q ∷ [])) out n after → Opened (initiate_of s user (length out)) (record { responder = begun.responder; sent = n; answer = begun.answer }) out after
    unfolding initiate_of
    opens k q a w = rw (le-ltb (length out) enough h, ← a) (fit s _ out e k w)
