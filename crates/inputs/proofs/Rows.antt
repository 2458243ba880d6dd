-- The rows of a command and an event in the order in which they are written, part behind part, and in one list. Assumes nothing.
use mathlib.Core.Path.{◌≡◌}
use mathlib.Core.List.{List, [], ◌∷◌, ◌++◌, append_assoc, append-nil}
use Prim.Native.Nat.{ℕ}
use lib.ListN.{take, drop}
use Rattle.inputs.specs.declared.Call.{Call}
use Rattle.inputs.specs.declared.EventCall.{EventCall}
use Rattle.fields.specs.Fields.{little, flag_number, one, join}
use Rattle.fields.proofs.Parts.{join_append, five}
use Rattle.inputs.specs.Input.{given_number, call_rows, event_number, event_value, event_rows}

pub drawn_rows : (c : Call)
    → little 2 c.outbox ++ one (given_number c.given) ++ c.supplied.nonce ++ little 4 c.supplied.passkey ++ one (flag_number c.supplied.dhvalid)
    ≡ join (take 5 (call_rows c))
drawn_rows c =
    five (little 2 c.outbox) (one (given_number c.given)) c.supplied.nonce (little 4 c.supplied.passkey) (one (flag_number c.supplied.dhvalid))

four_between : (rs : List (List ℕ)) (a b c d : List ℕ) (ts : List (List ℕ)) → join rs ++ a ++ b ++ c ++ d ++ join ts ≡ join (rs ++ (a ∷ b ∷ c ∷ d ∷ ts))
unfolding join
four_between rs a b c d ts = rw (← join_append rs (a ∷ b ∷ c ∷ d ∷ ts)) (simp append_assoc)

pub call_rows_lem : (c : Call)
    → join (take 5 (call_rows c)) ++ c.supplied.dhkey ++ c.supplied.ownconfirm ++ c.supplied.peerconfirm ++ little 4 c.supplied.g2 ++ join (drop 9 (call_rows c))
    ≡ join (call_rows c)
call_rows_lem c = four_between (take 5 (call_rows c)) c.supplied.dhkey c.supplied.ownconfirm c.supplied.peerconfirm (little 4 c.supplied.g2) (drop 9 (call_rows c))

after_four : (l a b c d e : List ℕ) → l ++ (a ++ b) ++ c ++ d ++ e ≡ l ++ join (a ∷ b ∷ c ∷ d ∷ e ∷ [])
unfolding join
after_four l a b c d e = simp (append_assoc, append-nil)

pub event_rows_lem : (c : EventCall)
    → join (call_rows c.call) ++ (event_number c.came ∷ little 4 (event_value c.came)) ++ c.values.ownrandom ++ c.values.peerrandom ++ c.values.peerconfirm
    ≡ join (call_rows c.call) ++ join (event_rows c)
event_rows_lem c =
    after_four (join (call_rows c.call)) (one (event_number c.came)) (little 4 (event_value c.came)) c.values.ownrandom c.values.peerrandom c.values.peerconfirm
