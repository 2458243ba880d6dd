-- Laws of headers. Assumes nothing.
use mathlib.Core.Path.{◌≡◌, refl}
use mathlib.Core.List.{[], ◌∷◌}
use Prim.Native.Nat.{ℕ}
use lib.ListN.{get_or}
use Rattle.std.specs.Prelude.{Option, Some, None}
use Rattle.calls.specs.declared.Kind.{Kind}
use Rattle.calls.specs.declared.Kind.TheVariants as K
use Rattle.fields.specs.Fields.{little, join}
use Rattle.calls.specs.Header.{record_number}

-- a kind's number takes one byte of its two, and so does the 0 where there is no kind
pub header_rows : (n : ℕ) (k : Option Kind) → get_or (little 2 n) 0 0 ∷ get_or (little 2 n) 1 0 ∷ record_number k ∷ 0 ∷ [] ≡ join (little 2 n ∷ little 2 (record_number k) ∷ [])
unfolding little join
header_rows n (Some K.Setup) = refl
header_rows n (Some K.Command) = refl
header_rows n (Some K.Event) = refl
header_rows n (Some K.Timeout) = refl
header_rows n (Some K.Answer) = refl
header_rows n None = refl
