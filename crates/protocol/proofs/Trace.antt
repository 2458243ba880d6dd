-- A plan walked with all that it asks and draws on the way to its end. Assumes nothing.
use mathlib.Core.Path.{◌≡◌, refl}
use mathlib.Core.List.{List, [], ◌∷◌, Memᴰ}
use mathlib.Core.Bool.{true, false}
use Rattle.protocol.specs.declared.Question.{Question}
use Rattle.protocol.specs.declared.Supplied.{Supplied}
use Rattle.protocol.specs.Plan.{Plan, Ending, ends, asks, draws_nonce, draws_passkey, tests, kind_of, reply, runs, asked}
use Rattle.protocol.specs.Draws.{Draw, nonce, passkey, draws}

module _ {S : Type 0} where
  -- P holds of what a plan asks, of what it draws and of the end that it comes to, handed a, by the tests on the way
  unfoldable pub Traced : Supplied → (List Question → List Draw → Ending S → Type 0) → Plan S → Type 0
  Traced a P (ends e) = P [] [] e
  Traced a P (asks q k) = Traced a (λ qs. P (q ∷ qs)) (k (reply a (kind_of q)))
  Traced a P (draws_nonce k) = Traced a (λ qs ds. P qs (nonce ∷ ds)) (k a.nonce)
  Traced a P (draws_passkey k) = Traced a (λ qs ds. P qs (passkey ∷ ds)) (k a.passkey)
  Traced a P (tests b p q) = (b ≡ true → Traced a P p) × (b ≡ false → Traced a P q)

  pub traced : (a : Supplied) (P : List Question → List Draw → Ending S → Type 0) (p : Plan S) → Traced a P p → P (asked a p) (draws a p) (runs a p)
  unfolding Traced asked draws runs
  traced a P (ends e) h = h
  traced a P (asks q k) h = traced a (λ qs. P (q ∷ qs)) (k (reply a (kind_of q))) h
  traced a P (draws_nonce k) h = traced a (λ qs ds. P qs (nonce ∷ ds)) (k a.nonce) h
  traced a P (draws_passkey k) h = traced a (λ qs ds. P qs (passkey ∷ ds)) (k a.passkey) h
  traced a P (tests true p q) h = traced a P p (h.0 refl)
  traced a P (tests false p q) h = traced a P q (h.1 refl)

-- what holds of all that was asked, or drawn, holds of each
abbrev pub All : {A : Type 0} → (A → Type 0) → List A → Type 0
All P [] = Unit {0}
All P (x ∷ l) = P x × All P l

pub among : {A : Type 0} (P : A → Type 0) (l : List A) → All P l → (x : A) → Memᴰ x l → P x
among {A = A} P [] h x m = elim m [ ]
among P (y ∷ l) h x (Memᴰ.head e) = rw e h.0
among P (y ∷ l) h x (Memᴰ.tail i) = among P l h.1 x i
