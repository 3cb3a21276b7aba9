-- Numbers as text
use Rattle.std.specs.Prelude.{◌+◌, ◌-◌, ◌/◌, ◌%◌, ◌≡◌, ◌∷◌, ◌++◌}
use Rattle.digits.specs.Prelude.{ℕ, zero, suc, List, [], length, ltb}
use Rattle.rules.specs.Choice.{pick}
use Rattle.records.specs.Bytes.{overwrite}

-- A number in decimal, where so many digits are enough
unfoldable pub decimal_to : ℕ → ℕ → List ℕ
decimal_to zero n = []
decimal_to (suc k) n =
    let rest = decimal_to k (n / 10) in pick (ltb n 10) ((48 + n) ∷ []) (rest ++ ((48 + n % 10) ∷ []))

-- Twenty digits are enough below 2 to the power 64
abbrev pub decimal : ℕ → List ℕ
decimal n = decimal_to 20 n

-- A number below 100 in two digits, one below 10,000 in four
abbrev pub two_digits : ℕ → List ℕ
two_digits n = (48 + n / 10) ∷ (48 + n % 10) ∷ []

abbrev pub four_digits : ℕ → List ℕ
four_digits n = two_digits (n / 100) ++ two_digits (n % 100)

-- A 32-bit pattern in two's complement
unfoldable pub signed_decimal : ℕ → List ℕ
signed_decimal n = pick (ltb n 2147483648) (decimal n) (45 ∷ decimal (4294967296 - n))

-- Text put at a place: what is there afterwards, and the place after it
pub record Put (at : ℕ) (bs l m : List ℕ) (r : ℕ) : Type 0 where
  pub text : m ≡ overwrite at bs l
  pub end : r ≡ at + length bs
