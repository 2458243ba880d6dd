-- WaitingNumericComparisonRandom and WaitingNumericComparisonResult. Part H 2.3.5.6.2.
use Rattle.std.specs.Prelude.{ℕ, ◌%◌, List, [], ◌∷◌, true, Option, Some, None}
use Rattle.method.specs.declared.PairingMethod.{PairingMethod}
use Rattle.method.specs.declared.PairingMethod.TheVariants.{JustWorks, NumericComparison, PassKeyEntry, OutOfBand}
use Rattle.frames.specs.Packets.{random_code, check_code, pairing_random}
use Rattle.protocol.specs.declared.ConnectionEvent.{ConnectionEvent}
use Rattle.protocol.specs.declared.ConnectionEvent.TheVariants as E
use Rattle.protocol.specs.declared.Event.{Event}
use Rattle.protocol.specs.declared.Event.TheVariants as I
use Rattle.protocol.specs.declared.Failure.TheVariants as F
use Rattle.protocol.specs.Plan.{Plan, Ending, ends, asks, fails, goes, unlisted}
use Rattle.protocol.specs.Parts.{value, ask_g2}
use Rattle.protocol.specs.Exchanged.{set_peer_nonce}
use Rattle.machine.specs.declared.Phase.{Phase}
use Rattle.machine.specs.declared.Phase.TheVariants as P
use Rattle.machine.specs.declared.State.{State}
use Rattle.machine.specs.Holding.{holds}
use Rattle.machine.specs.State.{at, to}
use Rattle.machine.specs.Dhkey.{checking}

-- the peer's nonce is kept, and ours answers it
abbrev pub disclosing : State → List ℕ → Phase → Option ConnectionEvent → Ending State
disclosing m n p e = goes (to m p (set_peer_nonce m.secrets n)) (pairing_random m.secrets.ownnonce ∷ []) e

-- the user compares g2(peer x, our x, peer nonce, our nonce), six decimal digits
abbrev pub numbering : State → List ℕ → Plan State
numbering m n =
    asks (ask_g2 m.secrets.peerx m.setup.keyx n m.secrets.ownnonce) λ g.
    ends (disclosing m n (P.WaitingNumericComparisonResult None) (Some (E.PassKeyConfirm (g % 1000000))))

-- Just Works compares nothing
abbrev pub compares : PairingMethod → State → List ℕ → Plan State
compares JustWorks m n = ends (disclosing m n P.WaitingDHKeyEa None)
compares NumericComparison m n = numbering m n
compares (PassKeyEntry central peripheral) m n = numbering m n
compares OutOfBand m n = numbering m n

-- a command in WaitingNumericComparisonRandom
abbrev pub on_comparison_random : State → ℕ → List ℕ → Plan State
on_comparison_random m code body = value random_code F.InvalidParameters code body λ n. compares m.method m n

-- a command in WaitingNumericComparisonResult: an early DHKey check is held
abbrev pub on_early_check : State → Option (List ℕ) → ℕ → List ℕ → Plan State
on_early_check m held code body = holds m held check_code code body P.WaitingNumericComparisonResult

-- the user's yes: a held check is handled
abbrev pub confirmed : State → Option (List ℕ) → Plan State
confirmed m (Some v) = checking m true v
confirmed m None = ends (goes (at m P.WaitingDHKeyEa) [] None)

-- an event in WaitingNumericComparisonResult
abbrev pub on_comparison : State → Option (List ℕ) → Event → Plan State
on_comparison m held (I.LinkEncryptedResult ok) = unlisted
on_comparison m held I.PassKeyConfirm = confirmed m held
on_comparison m held I.PassKeyCancel = ends (fails None F.NumericComparisonFailed)
on_comparison m held (I.PassKeyInput p) = unlisted
on_comparison m held (I.OobDataReceived o) = unlisted
