-- The rows of a setup in the order in which they are written, part behind part, and in one list. Assumes nothing.
use mathlib.Core.Path.{◌≡◌}
use mathlib.Core.List.{List, ◌∷◌, ◌++◌, append_assoc}
use Prim.Native.Nat.{ℕ}
use mathlib.Core.Bool.{Bool}
use Rattle.method.specs.Method.{level_number}
use Rattle.protocol.specs.declared.Bond.{Bond}
use Rattle.setups.specs.declared.SetupCall.{SetupCall}
use Rattle.fields.specs.Fields.{flag_number, one, join}
use Rattle.fields.proofs.Parts.{five}
use Rattle.setups.specs.Setup.{address_octets, bond_rows, box_rows}

pub bond_rows_lem : (t : Bool) (b : Bond) → one (flag_number t) ++ b.ltk ++ one (level_number b.level) ++ address_octets b.address ++ b.irk ≡ join (bond_rows t b)
bond_rows_lem t b = five (one (flag_number t)) b.ltk (one (level_number b.level)) (address_octets b.address) b.irk

six_and : (a b c d e f : List ℕ) (rs : List (List ℕ)) → a ++ b ++ c ++ (d ++ e ++ f) ++ join rs ≡ join (a ∷ b ∷ c ∷ d ∷ e ∷ f ∷ rs)
unfolding join
six_and a b c d e f rs = simp append_assoc

pub box_rows_lem : (c : SetupCall)
    → c.keyx ++ c.keyy ++ c.irk ++ (address_octets c.own ++ address_octets c.identity ++ address_octets c.peer) ++ join (bond_rows c.there c.bond) ≡ join (box_rows c)
box_rows_lem c = six_and c.keyx c.keyy c.irk (address_octets c.own) (address_octets c.identity) (address_octets c.peer) (bond_rows c.there c.bond)
