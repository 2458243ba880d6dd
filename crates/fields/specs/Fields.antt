-- What payloads are made of: bytes, little-endian numbers and byte strings at an offset; rows of a table; range tests.
use Rattle.std.specs.Prelude.{ℕ, zero, suc, ◌+◌, ◌*◌, ◌/◌, ◌%◌, ◌≡◌, List, [], ◌∷◌, ◌++◌, Bool, true, cond, ◌&&◌, length, take, drop, get_or, eqb, leb}
use Rattle.octets.specs.Octets.{zeros}
use Rattle.octets.specs.Write.{laid}

-- the k bytes of a number, least significant first
unfoldable pub little : ℕ → ℕ → List ℕ
little zero n = []
little (suc k) n = n % 256 ∷ little k (n / 256)

-- the number of bytes that are least significant first
unfoldable pub number : List ℕ → ℕ
number [] = 0
number (x ∷ xs) = x + 256 * number xs

-- the number of n bytes at an offset; bytes past the end count 0
abbrev pub number_at : ℕ → ℕ → List ℕ → ℕ
number_at n at l = number (take n (drop at l))

-- as many bytes at an offset as r has; r where there are not so many
unfoldable pub filled : List ℕ → ℕ → List ℕ → List ℕ
filled r at l = cond (leb (at + length r) (length l)) (take (length r) (drop at l)) r

-- n bytes at an offset; zeros where there are not n
abbrev pub field : ℕ → ℕ → List ℕ → List ℕ
field n at l = filled (zeros n) at l

-- a yes-or-no byte, and what one says
abbrev pub flag_number : Bool → ℕ
flag_number b = cond b 1 0

abbrev pub flag_at : ℕ → List ℕ → Bool
flag_at at l = eqb (get_or l at 0) 1

-- a row of one byte
abbrev pub one : ℕ → List ℕ
one x = x ∷ []

-- the rows of a table, one after the other
unfoldable pub join : List (List ℕ) → List ℕ
join [] = []
join (r ∷ rs) = r ++ join rs

-- whether every test passes
unfoldable pub every : List Bool → Bool
every [] = true
every (t ∷ ts) = t && every ts

-- whether the byte at an offset is at most a limit
abbrev pub at_most : ℕ → ℕ → List ℕ → Bool
at_most at limit l = leb (get_or l at 0) limit

-- a buffer once xs were written at an offset; as it was where they don't fit
unfoldable pub placed : ℕ → List ℕ → List ℕ → List ℕ
placed at xs out = take at out ++ laid xs (drop at out)

-- the contract of a writer of m bytes at an offset
pub record Placed (m at : ℕ) (xs before after : List ℕ) : Type 0 where
  pub size : length xs ≡ m
  pub octets : after ≡ placed at xs before
