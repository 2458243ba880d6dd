-- How a query goes on: past a payload that is the awaited one, from one question to what is asked after it, and through a check. Assumes nothing.
use Rattle.std.specs.Prelude.{Option, Some, None, Result, Ok, Err}
use Rattle.std.specs.Option.{option_or}
use Rattle.std.specs.Result.{result_ok}
use Prim.Native.Nat.{ℕ}
use mathlib.Core.Path.{◌≡◌, refl, ap, ◌∙◌}
use mathlib.Core.List.{List, [], ◌∷◌}
use mathlib.Core.Bool.{Bool, true, false, cond, ◌&&◌}
use native.Mathlib.Omega.{arith}
use Rattle.octets.specs.Octets.{same}
use Rattle.protocol.specs.declared.Failure.{Failure}
use Rattle.protocol.specs.declared.Failure.TheVariants as F
use Rattle.protocol.specs.declared.Given.{Given}
use Rattle.protocol.specs.declared.Question.{Question}
use Rattle.protocol.specs.declared.Supplied.{Supplied}
use Rattle.protocol.specs.Plan.{Plan, kind_of, Reply, asks, reply, asked, needs}
use Rattle.protocol.specs.Parts.{verdict_of}
use Rattle.protocol.specs.Next.{known, next_of, Queried}
use Rattle.protocol.proofs.Follows.{awaited_size, awaited_value}
use Rattle.protocol.proofs.Next.{wrong_asks, awaited_asks}
use Rattle.machine.specs.declared.State.{State}
use Rattle.machine.specs.Dhkey.{ask_keys, ask_peer_check, ask_own_check, checking}

-- A command's payload, judged by its Result

told_value : {A : Type 0} {v : Result A Failure} {y : A} → result_ok v ≡ Some y → v ≡ Ok y
told_value {v = Ok x} e = cc
told_value {v = Err x} e = let z : ◌≡◌ {A = ℕ} 0 1 = cc in absurd (omega arith)

module _ {S : Type 0} {g : Given} {a : Supplied} {r : Option Question} {A : Type 0} {b d : Bool} {f : Failure} where
  pub unheard : (x : A) {v : Result A Failure} {q : Plan S} → v ≡ verdict_of b d f x → result_ok v ≡ None → r ≡ None → Queried g a (needs b F.InvalidState (needs d f q)) r
  unheard x {v = Ok y} e w h = let z : ◌≡◌ {A = ℕ} 0 1 = cc in absurd (omega arith)
  unheard x {v = Err y} e w h = wrong_asks x e refl h

  pub heard : (x : A) {v : Result A Failure} {y : A} {q : Plan S} → v ≡ verdict_of b d f x → result_ok v ≡ Some y → Queried g a q r → Queried g a (needs b F.InvalidState (needs d f q)) r
  heard x e w h = awaited_asks x e (told_value w) h

pub heard_value : {A : Type 0} (b d : Bool) (f : Failure) {x : A} {v : Result A Failure} {y : A} → v ≡ verdict_of b d f x → result_ok v ≡ Some y → y ≡ x
heard_value b d f e w = awaited_value b d f e (told_value w)

pub heard_size : {A : Type 0} (b d : Bool) (f : Failure) (x : A) {v : Result A Failure} {y : A} → v ≡ verdict_of b d f x → result_ok v ≡ Some y → d ≡ true
heard_size b d f x e w = awaited_size b d f x e (told_value w)

-- two questions in order: the first, and the second once the first has its answer
pub asks_first : (g : Given) (q : Question) (qs : List Question) {r : Option Question} → known g (kind_of q) ≡ false → r ≡ Some q → r ≡ next_of g (q ∷ qs)
unfolding next_of
asks_first g q qs i h = rw i h

pub asks_second : (g : Given) (q p : Question) {r : Option Question} → known g (kind_of q) ≡ true → r ≡ cond (known g (kind_of p)) None (Some p) → r ≡ next_of g (q ∷ p ∷ [])
unfolding next_of
asks_second g q p i h = rw i h

-- A check, wrong and right
module _ (m : State) {g : Given} {a : Supplied} {r two : Option Question} (e : two ≡ next_of g (ask_keys m ∷ ask_peer_check m a.mackey ∷ [])) where
  pub wrong_check : (b : Bool) (v : List ℕ) → b && same v a.peercheck ≡ false → r ≡ two → Queried g a (checking m b v) r
  unfolding next_of asked
  wrong_check b v s h = record { next = rw s (h ∙ e) }

  pub right_check : (v : List ℕ) → same v a.peercheck ≡ true → r ≡ option_or two (cond g.owncheck None (Some (ask_own_check m a.mackey))) → Queried g a (checking m true v) r
  unfolding next_of asked
  right_check v s h = record { next = rw s (h ∙ ap (λ x. option_or x (cond g.owncheck None (Some (ask_own_check m a.mackey)))) e ∙ go g.f5 g.peercheck) }
    where
      own : Option Question
      own = cond g.owncheck None (Some (ask_own_check m a.mackey))

      go : (b d : Bool) → option_or (cond b (cond d None (Some (ask_peer_check m a.mackey))) (Some (ask_keys m))) own
          ≡ cond b (cond d own (Some (ask_peer_check m a.mackey))) (Some (ask_keys m))
      go true true = refl
      go true false = refl
      go false d = refl

  -- while one of the two is asked, what the check is doesn't matter
  pub asked_check : (v : List ℕ) {q : Question} → two ≡ Some q → r ≡ two → Queried g a (checking m true v) r
  asked_check v {q} t h = go (same v a.peercheck) refl
    where
      go : (b : Bool) → same v a.peercheck ≡ b → Queried g a (checking m true v) r
      go true s = right_check v s (rw t (h ∙ t))
      go false s = wrong_check true v s h
