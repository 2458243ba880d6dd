-- What a plan draws, and what a call: a nonce or a passkey, in order.
use Rattle.std.specs.Prelude.{ℕ, ◌≡◌, List, [], ◌∷◌, cond}
use Rattle.protocol.specs.declared.Supplied.{Supplied}
use Rattle.protocol.specs.Plan.{Plan, ends, asks, draws_nonce, draws_passkey, tests, kind_of, reply}
use Rattle.protocol.specs.Role.{Role, Input, enough, plan, step, questions}

pub data Draw : Type 0 where
  nonce passkey : Draw

-- the drawn value
abbrev pub Drawn : Draw → Type 0
Drawn nonce = List ℕ
Drawn passkey = ℕ

abbrev pub drawn : Supplied → (d : Draw) → Drawn d
drawn a nonce = a.nonce
drawn a passkey = a.passkey

unfoldable pub draws : {S : Type 0} → Supplied → Plan S → List Draw
draws a (ends e) = []
draws a (asks q k) = draws a (k (reply a (kind_of q)))
draws a (draws_nonce k) = nonce ∷ draws a (k a.nonce)
draws a (draws_passkey k) = passkey ∷ draws a (k a.passkey)
draws a (tests b p q) = cond b (draws a p) (draws a q)

-- what a call draws, whatever its outbox
unfoldable pub drawings : {S : Type 0} → Role S → S → Input → Supplied → List Draw
drawings role m i a = draws a (plan role m i enough)

-- handed b for a, a call comes to the same, whatever its outbox, and asks the same
pub record Alike {S : Type 0} (role : Role S) (m : S) (i : Input) (a b : Supplied) : Type 0 where
  pub step : (n : ℕ) → step role m (record { input = i; supplied = a; room = n }) ≡ step role m (record { input = i; supplied = b; room = n })
  pub questions : questions role m i a ≡ questions role m i b
