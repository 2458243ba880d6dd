-- The contract of every step of every role. Only here packets become octets, by the channel.
use Rattle.std.specs.Prelude.{ℕ, ◌≡◌, List}
use Rattle.octets.specs.Write.{laid, wrote}
use Rattle.frames.specs.Packets.{framed}
use Rattle.protocol.specs.declared.Supplied.{Supplied}
use Rattle.protocol.specs.Plan.{Plan, runs}
use Rattle.protocol.specs.Role.{Role, Outcome, said}

-- the outcome o is given back as the code's struct (`given`), with the count of its frames' octets; and the frames stand at the start of the outbox
pub record Met {S T : Type 0} (given : Outcome S → ℕ → T) (channel : ℕ) (o : Outcome S) (r : T) (before after : List ℕ) : Type 0 where
  pub step : r ≡ given o (wrote (framed channel o.packets) before)
  pub out : after ≡ laid (framed channel o.packets) before

-- what the plan p of the state m comes to, handed a, is met
pub record Followed {S T : Type 0} (role : Role S) (given : Outcome S → ℕ → T) (channel : ℕ) (m : S) (a : Supplied) (p : Plan S) (r : T) (before after : List ℕ) : Type 0 where
  pub met : Met given channel (said role m (runs a p)) r before after
