-- `setups::place_address` meets its contract. Assumes nothing.
use mathlib.Core.Path.{◌≡◌, sym, ap}
use mathlib.Core.List.{List, ◌∷◌}
use Prim.Native.Nat.{ℕ}
use lib.ListN.{length}
use Rattle.address.specs.Identity.{kind_number}
use Rattle.fields.proofs.Parts.{six_bytes, as_rows}
use borrow.Author.Rules.{rules}
use Rattle.setups.proofs.place_address.Goals as goal

pub returns : goal.returns
returns c =
    let address = c.args.address in
    let v : length address.octets ≡ 6 = search rules in
    as_rows _ c.place_array.ensures
    (rw c.from-kind.ensures (ap (λ (l : List ℕ). kind_number address.kind ∷ l) (sym (six_bytes address.octets v))))
