-- The header of a record: the payload's length and its kind, two bytes each.
use Rattle.std.specs.Prelude.{ℕ, List, [], ◌∷◌, cond, Option, Some, None, Result, length, eqb, leb}
use Rattle.std.specs.Option.{ok_or}
use Rattle.calls.specs.declared.Kind.{Kind}
use Rattle.calls.specs.declared.Kind.TheVariants as K
use Rattle.calls.specs.declared.UnknownKind.{UnknownKind}
use Rattle.calls.specs.declared.Header.{Header}
use Rattle.fields.specs.Fields.{little, number_at, join}

-- the kinds' numbers; 0 is no kind's
abbrev pub record_number : Option Kind → ℕ
record_number (Some K.Setup) = 1
record_number (Some K.Command) = 2
record_number (Some K.Event) = 3
record_number (Some K.Timeout) = 4
record_number (Some K.Answer) = 5
record_number None = 0

abbrev pub record_of : ℕ → Option Kind
record_of n =
    cond (eqb n 1) (Some K.Setup)
    (cond (eqb n 2) (Some K.Command)
    (cond (eqb n 3) (Some K.Event)
    (cond (eqb n 4) (Some K.Timeout)
    (cond (eqb n 5) (Some K.Answer)
    None))))

-- the kind with a number, or the number that no kind has
abbrev pub numbered_kind : ℕ → Result Kind UnknownKind
numbered_kind n = ok_or (record_of n) (record { 0 = n })

-- the four bytes; none where the length is above 512 or there is no kind
unfoldable pub header_octets : Header → List ℕ
header_octets h =
    cond (leb h.length 512)
    (cond (eqb (record_number h.kind) 0)
    []
    (join (
    little 2 h.length  -- 0
    ∷ little 2 (record_number h.kind)  -- 2
    ∷ [])))
    []

-- what four bytes say; another number of them has no payload and no kind
unfoldable pub read_header : List ℕ → Header
read_header l =
    cond (eqb (length l) 4)
    (record { length = number_at 2 0 l; kind = record_of (number_at 2 2 l) })
    (record { length = 0; kind = None })
