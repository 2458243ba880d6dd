-- Octet strings as lists of numbers: turned round, and compared.
use Rattle.std.specs.Prelude.{ℕ, List, [], ◌∷◌, reverse, Bool, true, false, cond, ◌&&◌, length, replicate, eqb}

-- the same octets, last first
unfoldable pub flip : List ℕ → List ℕ
flip xs = reverse xs

-- n zeros
unfoldable pub zeros : ℕ → List ℕ
zeros n = replicate n 0

-- n octets turned round; zeros where there are not n
unfoldable pub turned : ℕ → List ℕ → List ℕ
turned n xs = cond (eqb (length xs) n) (flip xs) (zeros n)

-- whether two strings have the same octets
unfoldable pub same : List ℕ → List ℕ → Bool
same [] [] = true
same [] (y ∷ ys) = false
same (x ∷ xs) [] = false
same (x ∷ xs) (y ∷ ys) = eqb x y && same xs ys

-- whether every octet is zero
unfoldable pub all_zero : List ℕ → Bool
all_zero [] = true
all_zero (x ∷ xs) = eqb x 0 && all_zero xs
