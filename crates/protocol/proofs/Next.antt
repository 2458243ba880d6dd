-- What the proofs of the query cite, for every role: the next question is looked for through each test, question and draw. Assumes nothing.
use Rattle.std.specs.Prelude.{Option, Some, None, Result, Ok, Err}
use Prim.Native.Nat.{ℕ}
use mathlib.Core.Path.{◌≡◌, refl, sym, ap, ◌∙◌}
use mathlib.Core.List.{List}
use mathlib.Core.Bool.{Bool, true, false, cond}
use Rattle.protocol.specs.declared.Failure.{Failure}
use Rattle.protocol.specs.declared.Failure.TheVariants as F
use Rattle.protocol.specs.declared.Given.{Given}
use Rattle.protocol.specs.declared.Question.{Question}
use Rattle.protocol.specs.declared.Supplied.{Supplied}
use Rattle.protocol.specs.Plan.{Plan, Ending, kind_of, Reply, ends, asks, draws_nonce, draws_passkey, tests, reply, asked, needs}
use Rattle.protocol.specs.Parts.{verdict_of}
use Rattle.protocol.specs.Next.{known, next_of, Queried}
use Rattle.protocol.proofs.Follows.{awaited_wrong}

module _ {S : Type 0} {g : Given} {a : Supplied} {r : Option Question} where
  -- an end asks nothing
  pub asks_nothing : {e : Ending S} → r ≡ None → Queried g a (ends e) r
  unfolding next_of asked
  asks_nothing h = record { next = h }

  -- a question without its answer; and one that has it
  pub asks_now : {q : Question} {k : Reply (kind_of q) → Plan S} → known g (kind_of q) ≡ false → r ≡ Some q → Queried g a (asks q k) r
  unfolding next_of asked
  asks_now i h = record { next = rw i h }

  pub asks_later : {q : Question} {k : Reply (kind_of q) → Plan S} → known g (kind_of q) ≡ true → Queried g a (k (reply a (kind_of q))) r → Queried g a (asks q k) r
  unfolding next_of asked
  asks_later i h = record { next = rw i h.next }

  -- the last one: nothing is asked after it
  pub asks_last : {q : Question} {k : Reply (kind_of q) → Plan S} → Queried g a (k (reply a (kind_of q))) None → r ≡ cond (known g (kind_of q)) None (Some q) → Queried g a (asks q k) r
  unfolding next_of asked
  asks_last {q} {k} i h = record { next = h ∙ ap (λ x. cond (known g (kind_of q)) x (Some q)) i.next }

  pub draws : {k : List ℕ → Plan S} → Queried g a (k a.nonce) r → Queried g a (draws_nonce k) r
  unfolding asked
  draws h = record { next = h.next }

  pub draws_passkey_lem : {k : ℕ → Plan S} → Queried g a (k a.passkey) r → Queried g a (draws_passkey k) r
  unfolding asked
  draws_passkey_lem h = record { next = h.next }

  -- a test
  pub passed : {b : Bool} {p q : Plan S} → b ≡ true → Queried g a p r → Queried g a (tests b p q) r
  unfolding asked
  passed i h = record { next = rw i h.next }

  pub stopped : {b : Bool} {p q : Plan S} → b ≡ false → Queried g a q r → Queried g a (tests b p q) r
  unfolding asked
  stopped i h = record { next = rw i h.next }

  -- one that comes to the same either way
  pub either : {b : Bool} {p q : Plan S} → Queried g a p r → Queried g a q r → Queried g a (tests b p q) r
  either {b = true} h i = passed refl h
  either {b = false} h i = stopped refl i

  -- a command's code and length, judged
  pub wrong_asks : {A : Type 0} {b d : Bool} {f x : Failure} (y : A) {v : Result A Failure} {q : Plan S} → v ≡ verdict_of b d f y → v ≡ Err x → r ≡ None → Queried g a (needs b F.InvalidState (needs d f q)) r
  unfolding verdict_of
  wrong_asks {b = true} {d = true} y e w h = absurd (awaited_wrong (sym e ∙ w))
  wrong_asks {b = true} {d = false} y e w h = passed refl (stopped refl (asks_nothing h))
  wrong_asks {b = false} y e w h = stopped refl (asks_nothing h)

  pub awaited_asks : {A : Type 0} {b d : Bool} {f : Failure} (x : A) {y : A} {v : Result A Failure} {q : Plan S} → v ≡ verdict_of b d f x → v ≡ Ok y → Queried g a q r → Queried g a (needs b F.InvalidState (needs d f q)) r
  unfolding verdict_of
  awaited_asks {b = true} {d = true} x e w h = passed refl (passed refl h)
  awaited_asks {b = true} {d = false} x e w h = absurd (awaited_wrong (sym w ∙ e))
  awaited_asks {b = false} x e w h = absurd (awaited_wrong (sym w ∙ e))
