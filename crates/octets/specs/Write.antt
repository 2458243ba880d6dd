-- What a writer leaves of a slice that it was lent: the octets over its start, or the slice as it was where it is too short for them.
use Rattle.std.specs.Prelude.{ℕ, ◌≡◌, List, ◌++◌, length, drop, cond, leb}

-- xs over the start of out, and the rest of out behind them
unfoldable pub over : List ℕ → List ℕ → List ℕ
over xs out = xs ++ drop (length xs) out

-- the slice at exit
unfoldable pub laid : List ℕ → List ℕ → List ℕ
laid xs out = cond (leb (length xs) (length out)) (over xs out) out

-- how many octets were written
unfoldable pub wrote : List ℕ → List ℕ → ℕ
wrote xs out = cond (leb (length xs) (length out)) (length xs) 0

-- the contract of every writer: xs were to be written, the slice was `before` and is `after`, and `r` was answered
pub record Wrote (xs before : List ℕ) (r : ℕ) (after : List ℕ) : Type 0 where
  pub count : r ≡ wrote xs before
  pub octets : after ≡ laid xs before
