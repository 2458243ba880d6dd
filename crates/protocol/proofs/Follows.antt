-- What the proofs of steps cite, for every role: a plan is followed through each test, question and draw to its end. Assumes nothing.
use Rattle.std.specs.Prelude.{Option, None, Result, Ok, Err}
use Prim.Native.Nat.{ℕ}
use mathlib.Core.Path.{◌≡◌, refl, sym, ap, ◌∙◌}
use mathlib.Core.List.{List, []}
use mathlib.Core.Bool.{Bool, true, false}
use native.Mathlib.Omega.{arith}
use lib.ListN.{length, take, drop, length-drop}
use lib.Seq.{length-take-le}
use borrow.Author.Tests.{eqb-true}
use Rattle.octets.specs.Octets.{turned, flip}
use Rattle.octets.specs.Write.{over, Wrote}
use Rattle.octets.proofs.Octets.{turned_whole}
use Rattle.octets.proofs.Write.{written}
use Rattle.frames.specs.Packets.{Packet, framed}
use Rattle.protocol.specs.declared.Action.{Action}
use Rattle.protocol.specs.declared.ConnectionEvent.{ConnectionEvent}
use Rattle.protocol.specs.declared.Failure.{Failure}
use Rattle.protocol.specs.declared.Failure.TheVariants as F
use Rattle.protocol.specs.declared.Question.{Question}
use Rattle.protocol.specs.declared.Refusal.{Refusal}
use Rattle.protocol.specs.declared.Supplied.{Supplied}
use Rattle.protocol.specs.Plan.{Plan, kind_of, Reply, ends, asks, draws_nonce, draws_passkey, tests, refuses, fails, moves, reply, runs, needs}
use Rattle.protocol.specs.Parts.{is_value, is_key, key_x, key_y, verdict_of}
use Rattle.protocol.specs.Role.{Role, Outcome, said}
use Rattle.protocol.specs.Met.{Met, Followed}

-- nothing to write
pub nothing : (channel : ℕ) (out : List ℕ) → Wrote (framed channel []) out 0 out
unfolding over
nothing channel out = written [] out 0 refl out (omega arith) refl

-- Verdicts

pub awaited_wrong : {A : Type 0} {x : A} {f : Failure} → ◌≡◌ {A = Result A Failure} (Ok x) (Err f) → ⊥
awaited_wrong e = let z : ◌≡◌ {A = ℕ} 0 1 = cc in omega arith

pub same_wrong : {A : Type 0} {x y : Failure} → ◌≡◌ {A = Result A Failure} (Err x) (Err y) → x ≡ y
same_wrong e = cc

-- what is awaited has the right length
pub awaited_size : {A : Type 0} (b d : Bool) (f : Failure) (x : A) {y : A} {v : Result A Failure} → v ≡ verdict_of b d f x → v ≡ Ok y → d ≡ true
unfolding verdict_of
awaited_size b true f x e w = refl
awaited_size true false f x e w = absurd (awaited_wrong (sym w ∙ e))
awaited_size false false f x e w = absurd (awaited_wrong (sym w ∙ e))

-- and is the value that was read
pub awaited_value : {A : Type 0} (b d : Bool) (f : Failure) {x y : A} {v : Result A Failure} → v ≡ verdict_of b d f x → v ≡ Ok y → y ≡ x
unfolding verdict_of
awaited_value true true f e w = let same = sym w ∙ e in cc
awaited_value true false f e w = absurd (awaited_wrong (sym w ∙ e))
awaited_value false d f e w = absurd (awaited_wrong (sym w ∙ e))

-- of a value's payload, turned round
pub read_value : (body : List ℕ) → is_value body ≡ true → turned 16 body ≡ flip body
read_value body h = turned_whole 16 body (eqb-true (length body) 16 h)

-- of a public key's, the coordinates
pub read_x : (body : List ℕ) → is_key body ≡ true → turned 32 (take 32 body) ≡ key_x body
read_x body h = turned_whole 32 (take 32 body) (length-take-le 32 body (omega (arith, eqb-true (length body) 64 h)))

pub read_y : (body : List ℕ) → is_key body ≡ true → turned 32 (drop 32 body) ≡ key_y body
read_y body h = turned_whole 32 (drop 32 body) (length-drop 32 body ∙ omega (arith, eqb-true (length body) 64 h))

pub met : {S T : Type 0} {given : Outcome S → ℕ → T} {channel : ℕ} {o : Outcome S} {r : T} {before after : List ℕ} (n : ℕ) → r ≡ given o n
    → Wrote (framed channel o.packets) before n after → Met given channel o r before after
met {given} {o} n e w = record { step = e ∙ ap (given o) w.count; out = w.octets }

module _ {S T : Type 0} {role : Role S} {given : Outcome S → ℕ → T} {channel : ℕ} {m : S} {a : Supplied} {r : T} where
  -- no second step, and no second outbox, follows a plan
  pub only_followed : {p : Plan S} {r' : T} {before after after' : List ℕ} → Followed role given channel m a p r before after
      → Followed role given channel m a p r' before after' → (r ≡ r') × (after ≡ after')
  only_followed p q = (p.met.step ∙ sym q.met.step, p.met.out ∙ sym q.met.out)

  -- The three ends

  pub refusing : {x : Refusal} {out : List ℕ} → r ≡ given (said role m (refuses x)) 0 → Followed role given channel m a (ends (refuses x)) r out out
  unfolding runs
  refusing {out} h = record { met = met 0 h (nothing channel out) }

  pub failing : {e : Option ConnectionEvent} {f : Failure} {out : List ℕ} → r ≡ given (said role m (fails e f)) 0 → Followed role given channel m a (ends (fails e f)) r out out
  unfolding runs
  failing {out} h = record { met = met 0 h (nothing channel out) }

  pub moving : {s : S} {ps : List Packet} {e e' : Option ConnectionEvent} {x : Option Action} {n : ℕ} {before after : List ℕ} → r ≡ given (said role m (moves s ps e e' x)) n
      → Wrote (framed channel ps) before n after → Followed role given channel m a (ends (moves s ps e e' x)) r before after
  unfolding runs
  moving {n} h w = record { met = met n h w }

  -- with nothing to send
  pub moving_silent : {s : S} {e e' : Option ConnectionEvent} {x : Option Action} {out : List ℕ} → r ≡ given (said role m (moves s [] e e' x)) 0
      → Followed role given channel m a (ends (moves s [] e e' x)) r out out
  moving_silent {out} h = moving h (nothing channel out)

  -- Before an end

  pub asking : {q : Question} {k : Reply (kind_of q) → Plan S} {before after : List ℕ} → Followed role given channel m a (k (reply a (kind_of q))) r before after
      → Followed role given channel m a (asks q k) r before after
  unfolding runs
  asking h = record { met = h.met }

  pub drawing : {k : List ℕ → Plan S} {before after : List ℕ} → Followed role given channel m a (k a.nonce) r before after
      → Followed role given channel m a (draws_nonce k) r before after
  unfolding runs
  drawing h = record { met = h.met }

  pub drawing_passkey : {k : ℕ → Plan S} {before after : List ℕ} → Followed role given channel m a (k a.passkey) r before after
      → Followed role given channel m a (draws_passkey k) r before after
  unfolding runs
  drawing_passkey h = record { met = h.met }

  pub passes : {b : Bool} {p q : Plan S} {before after : List ℕ} → b ≡ true → Followed role given channel m a p r before after
      → Followed role given channel m a (tests b p q) r before after
  unfolding runs
  passes {p} {q} {before} {after} i h = record { met = rw i h.met }

  pub stops : {b : Bool} {p q : Plan S} {before after : List ℕ} → b ≡ false → Followed role given channel m a q r before after
      → Followed role given channel m a (tests b p q) r before after
  unfolding runs
  stops i h = record { met = rw i h.met }

  -- A command's code and length, judged

  pub wrong : {A : Type 0} {b d : Bool} {f x : Failure} (y : A) {v : Result A Failure} {q : Plan S} {out : List ℕ} → v ≡ verdict_of b d f y → v ≡ Err x → r ≡ given (said role m (fails None x)) 0
      → Followed role given channel m a (needs b F.InvalidState (needs d f q)) r out out
  unfolding verdict_of
  wrong {b = true} {d = true} y e w h = absurd (awaited_wrong (sym e ∙ w))
  wrong {b = true} {d = false} {f} {x} y e w h = passes refl (stops refl (failing (h ∙ ap (λ z. given (said role m (fails None z)) 0) (same_wrong (sym w ∙ e)))))
  wrong {b = false} {x} y e w h = stops refl (failing (h ∙ ap (λ z. given (said role m (fails None z)) 0) (same_wrong (sym w ∙ e))))

  pub awaited : {A : Type 0} {b d : Bool} {f : Failure} (x : A) {y : A} {v : Result A Failure} {q : Plan S} {before after : List ℕ} → v ≡ verdict_of b d f x → v ≡ Ok y → Followed role given channel m a q r before after
      → Followed role given channel m a (needs b F.InvalidState (needs d f q)) r before after
  unfolding verdict_of
  awaited {b = true} {d = true} x e w h = passes refl (passes refl h)
  awaited {b = true} {d = false} x e w h = absurd (awaited_wrong (sym w ∙ e))
  awaited {b = false} x e w h = absurd (awaited_wrong (sym w ∙ e))
