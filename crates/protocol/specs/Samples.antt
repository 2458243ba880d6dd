-- What stands in this crate, a second time, by samples: what is made here, and beside it what the scope and Part H say that it is. One table.
use Rattle.std.specs.Prelude.{ℕ, List, [], ◌∷◌, ◌++◌, map, reverse, Bool, true, false, cond, Option, Some, None, Result, Ok, Err}
use Rattle.features.specs.declared.IoCapabilities.TheVariants.{KeyboardOnly}
use Rattle.features.specs.declared.UseOutOfBand.TheVariants.{Present}
use Rattle.features.specs.Features.{encode_of}
use Rattle.address.specs.Identity.{kind_number}
use Rattle.method.specs.declared.SecurityLevel.TheVariants.{Encrypted}
use Rattle.frames.specs.Packets.{Packet, pairing_random}
use Rattle.protocol.specs.declared.Action.{Action}
use Rattle.protocol.specs.declared.Action.TheVariants as X
use Rattle.protocol.specs.declared.Answer.{Answer}
use Rattle.protocol.specs.declared.Answer.TheVariants as A
use Rattle.protocol.specs.declared.ConnectionEvent.{ConnectionEvent}
use Rattle.protocol.specs.declared.ConnectionEvent.TheVariants as E
use Rattle.protocol.specs.declared.Event.TheVariants as I
use Rattle.protocol.specs.declared.Failure.{Failure}
use Rattle.protocol.specs.declared.Failure.TheVariants as F
use Rattle.protocol.specs.declared.Given.{Given}
use Rattle.protocol.specs.declared.Question.{Question}
use Rattle.protocol.specs.declared.Question.TheVariants as Q
use Rattle.protocol.specs.declared.QuestionKind.TheVariants as K
use Rattle.protocol.specs.declared.Refusal.TheVariants as R
use Rattle.protocol.specs.declared.Secrets.{Secrets}
use Rattle.protocol.specs.declared.Setup.{Setup}
use Rattle.protocol.specs.declared.Supplied.{Supplied}
use Rattle.protocol.specs.Next.{known}
use Rattle.protocol.specs.Numbers.{failure_number, refusal_number}
use Rattle.protocol.specs.Plan.{Plan, Ending, ends, refuses, fails, moves, goes, unlisted, reply, runs}
use Rattle.protocol.specs.Parts as Parts
use Rattle.protocol.specs.Parts.{verdict_of, ask_dh, ask_f4, ask_f5, ask_f6, ask_g2}
use Rattle.protocol.specs.Role.{Role, Input, command, event, Outcome, said as said_of, plan}
use Rattle.protocol.specs.Exchanged.{fresh, set_confirm, set_nonces, set_peer_nonce, set_own_nonce, set_secrets, set_passkey, own_confirm, peer_confirm}
use Rattle.protocol.specs.Values.{from, none, public, random, nobody, our_x, our_irk, peer_x, dh_key, confirm, peer_nonce, our_nonce, peer_secret, our_secret, check, new_key, our_confirm, mac_key, link_key, our_check, new_x, new_y, value, dh, f4, f5, f6, g2, secrets, secret, bond, setup, handing, had}

-- What is shown: a question, what is kept, octets or numbers, a number of the scope, a verdict, an end, an outcome
pub data Shown : Type 0 where
  asked : Question → Shown
  kept : Secrets → Shown
  list : List ℕ → Shown
  number : ℕ → Shown
  verdict : Result (List ℕ) Failure → Shown
  ended : Ending (List ℕ) → Shown
  came : Outcome (List ℕ) → Shown

-- what is made here, and what it must be
pub data Row : Type 0 where
  row : Shown → Shown → Row

abbrev pub made : Row → Shown
made (row x y) = x

abbrev pub said : Row → Shown
said (row x y) = y

-- The samples' parts

-- our side, and what is supplied
abbrev our : Setup
our = setup KeyboardOnly Present true None our_irk None

abbrev given : Supplied
given = handing true 654321

-- what a plan comes to that reads octets: these, or the number of its failure or its refusal
abbrev end : Ending (List ℕ) → Shown
end (refuses r) = number (refusal_number r)
end (fails e f) = number (failure_number f)
end (moves octets ps e e' a) = list octets

abbrev reads : Supplied → Plan (List ℕ) → Shown
reads a p = end (runs a p)

abbrev got : List ℕ → Plan (List ℕ)
got octets = ends (goes octets [] None)

-- a payload behind a code, where 0x0C is the key's, 0x03 a value's, 0x0D the check's, 0x09 the identity address's and 0x01 the features'
abbrev key : ℕ → List ℕ → Shown
key code body = reads given (Parts.key code body λ x y. got (x ++ y))

abbrev one : ℕ → List ℕ → Shown
one code body = reads given (Parts.value 0x03 F.ConfirmValueFailed code body got)

abbrev early : ℕ → List ℕ → Shown
early code body = reads given (Parts.early None 0x03 code body got)

abbrev second : ℕ → List ℕ → Shown
second code body = reads given (Parts.early (Some check) 0x03 code body got)

abbrev checked : ℕ → List ℕ → Shown
checked code body = reads given (Parts.check code body λ whole v. got (cond whole v []))

abbrev identity : ℕ → List ℕ → Shown
identity code body = reads given (Parts.identity code body λ a. got (kind_number a.kind ∷ a.octets))

abbrev features : ℕ → List ℕ → Shown
features code body = reads given (Parts.features 0x01 (Some E.BondLost) code body λ f. got (encode_of f))

-- the answers given so far, and 1 for each kind of question that has its answer, in the order of the kinds
abbrev answers : Bool → Bool → Bool → Bool → Bool → Bool → Bool → Shown
answers dh ownconfirm peerconfirm g2 f5 peercheck owncheck =
    let g : Given = record { dh = dh; ownconfirm = ownconfirm; peerconfirm = peerconfirm; g2 = g2; f5 = f5; peercheck = peercheck; owncheck = owncheck } in
    list (map (λ k. cond (known g k) 1 0) (K.DH ∷ K.OwnConfirm ∷ K.PeerConfirm ∷ K.G2 ∷ K.F5 ∷ K.PeerCheck ∷ K.OwnCheck ∷ []))

-- a role that reads whatever comes, and is never finished; what an input to it comes to, with so many octets of outbox
abbrev reader : Role (List ℕ)
reader = record { finished = λ m. false; failed = λ m f. failure_number f ∷ m; commanded = λ m code body. got (code ∷ body); raised = λ m e. got m }

abbrev plays : Input → ℕ → Shown
plays i room = reads given (plan reader (7 ∷ []) i room)

-- an outcome by position, and a passkey that is typed
abbrev outcome : List ℕ → List Packet → Option ConnectionEvent → Option ConnectionEvent → Option Action → Answer → Shown
outcome next packets first second action answer = came (record { next = next; packets = packets; first = first; second = second; action = action; answer = answer })

abbrev types : ℕ → Input
types p = event (I.PassKeyInput p)

unfoldable pub rows : List Row
rows =
    -- The questions, with their arguments in order
    row (asked (ask_dh new_x new_y)) (asked (dh new_x new_y))
    ∷ row (asked (ask_f4 Q.OwnConfirm new_x new_y value 0x81)) (asked (f4 Q.OwnConfirm new_x new_y value 0x81))
    ∷ row (asked (ask_g2 new_x new_y value check)) (asked (g2 new_x new_y value check))
    ∷ row (asked (ask_f5 new_x value check (public (from 1 6)) (random (from 2 6))))
    (asked (f5 new_x value check (public (from 1 6)) (random (from 2 6))))
    ∷ row (asked (ask_f6 Q.OwnCheck mac_key value check confirm (from 3 3) (public (from 1 6)) (random (from 2 6))))
    (asked (f6 Q.OwnCheck mac_key value check confirm (from 3 3) (public (from 1 6)) (random (from 2 6))))
    -- our confirm is f4(our x, peer x, our nonce, z); the peer's is f4(peer x, our x, peer nonce, z)
    ∷ row (asked (own_confirm our had value 0x81)) (asked (f4 Q.OwnConfirm our_x peer_x value 0x81))
    ∷ row (asked (peer_confirm our had value 0x81)) (asked (f4 Q.PeerConfirm peer_x our_x value 0x81))
    -- The answers
    ∷ row (list (cond (reply given K.DH).0 (reply given K.DH).1 [])) (list new_key)
    ∷ row (list (reply given K.OwnConfirm)) (list our_confirm)
    ∷ row (list (reply given K.PeerConfirm)) (list confirm)
    ∷ row (number (reply given K.G2)) (number 4123456789)
    ∷ row (list ((reply given K.F5).0 ++ (reply given K.F5).1)) (list (mac_key ++ link_key))
    ∷ row (list (reply given K.PeerCheck)) (list check)
    ∷ row (list (reply given K.OwnCheck)) (list our_check)
    -- the kinds that have their answer, one given at a time
    ∷ row (answers false false false false false false false) (list (0 ∷ 0 ∷ 0 ∷ 0 ∷ 0 ∷ 0 ∷ 0 ∷ []))
    ∷ row (answers true false false false false false false) (list (1 ∷ 0 ∷ 0 ∷ 0 ∷ 0 ∷ 0 ∷ 0 ∷ []))
    ∷ row (answers false true false false false false false) (list (0 ∷ 1 ∷ 0 ∷ 0 ∷ 0 ∷ 0 ∷ 0 ∷ []))
    ∷ row (answers false false true false false false false) (list (0 ∷ 0 ∷ 1 ∷ 0 ∷ 0 ∷ 0 ∷ 0 ∷ []))
    ∷ row (answers false false false true false false false) (list (0 ∷ 0 ∷ 0 ∷ 1 ∷ 0 ∷ 0 ∷ 0 ∷ []))
    ∷ row (answers false false false false true false false) (list (0 ∷ 0 ∷ 0 ∷ 0 ∷ 1 ∷ 0 ∷ 0 ∷ []))
    ∷ row (answers false false false false false true false) (list (0 ∷ 0 ∷ 0 ∷ 0 ∷ 0 ∷ 1 ∷ 0 ∷ []))
    ∷ row (answers false false false false false false true) (list (0 ∷ 0 ∷ 0 ∷ 0 ∷ 0 ∷ 0 ∷ 1 ∷ []))
    -- What is kept: secrets not set are zero; of what is set anew, the rest stays
    ∷ row (kept (fresh new_x new_key)) (kept (secrets new_x new_key none none none none none 0))
    ∷ row (kept (set_confirm had value mac_key)) (kept (secrets peer_x dh_key value peer_nonce mac_key peer_secret our_secret 345678))
    ∷ row (kept (set_nonces had value mac_key)) (kept (secrets peer_x dh_key confirm value mac_key peer_secret our_secret 345678))
    ∷ row (kept (set_peer_nonce had value)) (kept (secrets peer_x dh_key confirm value our_nonce peer_secret our_secret 345678))
    ∷ row (kept (set_own_nonce had value)) (kept (secrets peer_x dh_key confirm peer_nonce value peer_secret our_secret 345678))
    ∷ row (kept (set_secrets had value mac_key)) (kept (secrets peer_x dh_key confirm peer_nonce our_nonce value mac_key 345678))
    -- the passkey becomes both secrets: 123,456 is hex 1E240
    ∷ row (kept (set_passkey had 123456)) (kept (secrets peer_x dh_key confirm peer_nonce our_nonce (secret 0x01 0xE2 0x40) (secret 0x01 0xE2 0x40) 123456))
    -- What comes: turned round; 16 for another code; 42, 17 or as the caller says for another length
    ∷ row (key 0x0C (reverse new_x ++ reverse new_y)) (list (new_x ++ new_y))
    ∷ row (key 0x0D (from 0 64)) (number 16)
    ∷ row (key 0x0C (from 0 63)) (number 42)
    ∷ row (key 0x0C (from 0 65)) (number 42)
    ∷ row (one 0x03 (reverse value)) (list value)
    ∷ row (one 0x04 (from 0 16)) (number 16)
    ∷ row (one 0x03 (from 0 15)) (number 36)
    ∷ row (one 0x03 (from 0 17)) (number 36)
    ∷ row (checked 0x0D (reverse value)) (list value)
    ∷ row (checked 0x0D (from 0 15)) (list [])
    ∷ row (checked 0x0C (from 0 16)) (number 16)
    -- an early value; a second one of any length fails 16
    ∷ row (early 0x03 (reverse value)) (list value)
    ∷ row (early 0x04 (from 0 16)) (number 16)
    ∷ row (early 0x03 (from 0 15)) (number 17)
    ∷ row (second 0x03 (from 0 16)) (number 16)
    ∷ row (second 0x03 (from 0 15)) (number 16)
    -- a command's code and payload, an event; an empty command fails 42; R2 and R3
    ∷ row (plays (command (3 ∷ 4 ∷ [])) 90) (list (3 ∷ 4 ∷ []))
    ∷ row (plays (types 999999) 90) (list (7 ∷ []))
    ∷ row (plays (command []) 90) (number 42)
    ∷ row (plays (command []) 89) (number 2)
    ∷ row (plays (types 1000000) 90) (number 3)
    -- an identity address: type 0 or 1, and six octets; later ones are ignored
    ∷ row (identity 0x09 (1 ∷ reverse (from 2 6))) (list (1 ∷ from 2 6))
    ∷ row (identity 0x09 (0 ∷ reverse (from 2 6) ++ (9 ∷ []))) (list (0 ∷ from 2 6))
    ∷ row (identity 0x08 (1 ∷ from 2 6)) (number 16)
    ∷ row (identity 0x09 (1 ∷ from 2 5)) (number 17)
    ∷ row (identity 0x09 (2 ∷ from 2 6)) (number 17)
    -- features, with their tests in order: length, IO, OOB, secure connections, key size
    ∷ row (features 0x01 (0x04 ∷ 0x01 ∷ 0xAD ∷ 0x11 ∷ 0x06 ∷ 0x07 ∷ [])) (list (0x04 ∷ 0x01 ∷ 0xAD ∷ 0x11 ∷ 0x06 ∷ 0x07 ∷ []))
    ∷ row (features 0x02 (0x04 ∷ 0x01 ∷ 0xAD ∷ 0x11 ∷ 0x06 ∷ 0x07 ∷ [])) (number 16)
    ∷ row (features 0x01 (0x04 ∷ 0x01 ∷ 0xA5 ∷ 0x0F ∷ 0x06 ∷ [])) (number 42)
    ∷ row (features 0x01 (0x05 ∷ 0x01 ∷ 0xA5 ∷ 0x0F ∷ 0x06 ∷ 0x07 ∷ [])) (number 42)
    ∷ row (features 0x01 (0x04 ∷ 0x02 ∷ 0xA5 ∷ 0x0F ∷ 0x06 ∷ 0x07 ∷ [])) (number 42)
    ∷ row (features 0x01 (0x04 ∷ 0x01 ∷ 0xA5 ∷ 0x0F ∷ 0x06 ∷ 0x07 ∷ [])) (number 35)
    ∷ row (features 0x01 (0x04 ∷ 0x01 ∷ 0xAD ∷ 0x0F ∷ 0x06 ∷ 0x07 ∷ [])) (number 38)
    -- an end with one event and nothing to do; what is not listed; a failure after an event
    ∷ row (ended (goes value [] (Some E.OobRequest))) (ended (moves value [] None (Some E.OobRequest) None))
    ∷ row (ended (runs given unlisted)) (ended (fails None F.InvalidState))
    ∷ row (ended (runs given (Parts.features 0x01 (Some E.BondLost) 0x01 (from 0 7) λ f. got []))) (ended (fails (Some E.BondLost) F.InvalidParameters))
    -- a refusal changes nothing; a failure sends nothing, does nothing and raises PairingFailed last; a call that goes on does as its end says
    ∷ row (came (said_of reader value (refuses R.OutboxShort))) (outcome value [] None None None (A.Refused R.OutboxShort))
    ∷ row (came (said_of reader value (fails (Some E.BondLost) F.Timeout))) (outcome (18 ∷ value) [] (Some E.BondLost) (Some (E.PairingFailed F.Timeout)) None (A.Failed F.Timeout))
    ∷ row (came (said_of reader value (moves check (pairing_random mac_key ∷ []) (Some E.BondLost) (Some E.OobRequest) (Some (X.StoreBond (bond link_key Encrypted nobody none))))))
    (outcome check (pairing_random mac_key ∷ []) (Some E.BondLost) (Some E.OobRequest) (Some (X.StoreBond (bond link_key Encrypted nobody none))) A.Taken)
    -- the code is tested before the length
    ∷ row (verdict (verdict_of true true F.InvalidValue value)) (verdict (Ok value))
    ∷ row (verdict (verdict_of true false F.InvalidValue value)) (verdict (Err F.InvalidValue))
    ∷ row (verdict (verdict_of false true F.InvalidValue value)) (verdict (Err F.InvalidState))
    ∷ row (verdict (verdict_of false false F.InvalidValue value)) (verdict (Err F.InvalidState))
    -- the passkey that is shown: the configured one; or the drawn one, R3 above 999,999
    ∷ row (reads given (Parts.shown (Some 111111) λ p. got (p ∷ []))) (list (111111 ∷ []))
    ∷ row (reads given (Parts.shown None λ p. got (p ∷ []))) (list (654321 ∷ []))
    ∷ row (reads (handing true 1000000) (Parts.shown None λ p. got (p ∷ []))) (number 3)
    -- The numbers
    ∷ row
    (list (map failure_number (F.InvalidState ∷ F.InvalidValue ∷ F.Timeout ∷ F.PasskeyEntryFailed ∷ F.AuthenticationRequirements ∷ F.ConfirmValueFailed
    ∷ F.EncryptionKeySize ∷ F.InvalidParameters ∷ F.DHKeyCheckFailed ∷ F.NumericComparisonFailed ∷ F.KeyRejected ∷ [])))
    (list (16 ∷ 17 ∷ 18 ∷ 33 ∷ 35 ∷ 36 ∷ 38 ∷ 42 ∷ 43 ∷ 44 ∷ 47 ∷ []))
    ∷ row (list (map refusal_number (R.Finished ∷ R.OutboxShort ∷ R.PasskeyRange ∷ []))) (list (1 ∷ 2 ∷ 3 ∷ []))
    ∷ []
