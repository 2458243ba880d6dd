-- What the two sides have exchanged, with parts of it set anew; and the questions about it that both roles ask.
use Rattle.std.specs.Prelude.{ℕ, List}
use Rattle.octets.specs.Octets.{zeros}
use Rattle.rounds.specs.Rounds.{secret_of}
use Rattle.protocol.specs.declared.Question.{Question}
use Rattle.protocol.specs.declared.Question.TheVariants as Q
use Rattle.protocol.specs.declared.Secrets.{Secrets}
use Rattle.protocol.specs.declared.Setup.{Setup}
use Rattle.protocol.specs.Parts.{ask_f4}

-- nothing but the peer's x and the DHKey: secrets not set are zero
abbrev pub fresh : List ℕ → List ℕ → Secrets
fresh x w =
    record { peerx = x; dhkey = w; confirm = zeros 16; peernonce = zeros 16; ownnonce = zeros 16; peersecret = zeros 16; ownsecret = zeros 16; passkey = 0 }

-- the peer's confirm, and our nonce for it
abbrev pub set_confirm : Secrets → List ℕ → List ℕ → Secrets
set_confirm s v n =
    record { peerx = s.peerx; dhkey = s.dhkey; confirm = v; peernonce = s.peernonce; ownnonce = n; peersecret = s.peersecret; ownsecret = s.ownsecret; passkey = s.passkey }

-- the nonces: the peer's, then ours
abbrev pub set_nonces : Secrets → List ℕ → List ℕ → Secrets
set_nonces s peer own =
    record { peerx = s.peerx; dhkey = s.dhkey; confirm = s.confirm; peernonce = peer; ownnonce = own; peersecret = s.peersecret; ownsecret = s.ownsecret; passkey = s.passkey }

abbrev pub set_peer_nonce : Secrets → List ℕ → Secrets
set_peer_nonce s peer = set_nonces s peer s.ownnonce

abbrev pub set_own_nonce : Secrets → List ℕ → Secrets
set_own_nonce s own = set_nonces s s.peernonce own

-- the secrets: the peer's, then ours
abbrev pub set_secrets : Secrets → List ℕ → List ℕ → Secrets
set_secrets s peer own =
    record { peerx = s.peerx; dhkey = s.dhkey; confirm = s.confirm; peernonce = s.peernonce; ownnonce = s.ownnonce; peersecret = peer; ownsecret = own; passkey = s.passkey }

-- the passkey becomes both secrets
abbrev pub set_passkey : Secrets → ℕ → Secrets
set_passkey s p =
    record { peerx = s.peerx; dhkey = s.dhkey; confirm = s.confirm; peernonce = s.peernonce; ownnonce = s.ownnonce; peersecret = secret_of p; ownsecret = secret_of p; passkey = p }

-- our confirm over a nonce: f4(our x, peer x, nonce, z)
abbrev pub own_confirm : Setup → Secrets → List ℕ → ℕ → Question
own_confirm s x n z = ask_f4 Q.OwnConfirm s.keyx x.peerx n z

-- the peer's: f4(peer x, our x, nonce, z)
abbrev pub peer_confirm : Setup → Secrets → List ℕ → ℕ → Question
peer_confirm s x n z = ask_f4 Q.PeerConfirm x.peerx s.keyx n z
