-- Steps that are handed nothing, or lent no outbox: their contract holds whatever is supplied or lent, and no second step meets it. Assumes nothing.
use Prim.Native.Nat.{ℕ}
use mathlib.Core.Path.{◌≡◌}
use mathlib.Core.List.{List, []}
use mathlib.Core.Bool.{false}
use Rattle.octets.specs.Octets.{zeros}
use Rattle.protocol.specs.declared.Supplied.{Supplied}
use Rattle.protocol.specs.Plan.{Plan}
use Rattle.protocol.specs.Role.{Role, Outcome}
use Rattle.protocol.specs.Met.{Followed}
use Rattle.protocol.proofs.Follows.{only_followed}

-- one supply, to hold two steps to
abbrev some : Supplied
some =
    record {
      nonce = zeros 16;
      passkey = 0;
      dhvalid = false;
      dhkey = zeros 32;
      ownconfirm = zeros 16;
      peerconfirm = zeros 16;
      g2 = 0;
      mackey = zeros 16;
      ltk = zeros 16;
      peercheck = zeros 16;
      owncheck = zeros 16;
    }

module _ {S T : Type 0} {role : Role S} {given : Outcome S → ℕ → T} {channel : ℕ} {m : S} {p : Plan S} {r r' : T} where
  pub only_unhanded : {before after after' : List ℕ} → ((a : Supplied) → Followed role given channel m a p r before after)
      → ((a : Supplied) → Followed role given channel m a p r' before after') → (r ≡ r') × (after ≡ after')
  only_unhanded h i = only_followed (h some) (i some)

  pub only_quiet : {a : Supplied} → ((out : List ℕ) → Followed role given channel m a p r out out)
      → ((out : List ℕ) → Followed role given channel m a p r' out out) → r ≡ r'
  only_quiet h i = (only_followed (h []) (i [])).0

  pub only_quiet_unhanded : ((a : Supplied) (out : List ℕ) → Followed role given channel m a p r out out)
      → ((a : Supplied) (out : List ℕ) → Followed role given channel m a p r' out out) → r ≡ r'
  only_quiet_unhanded h i = only_quiet (h some) (i some)
