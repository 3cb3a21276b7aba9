-- Records as lines of text
use Rattle.std.specs.Prelude.{◌+◌, ◌*◌, ◌-◌, ◌∷◌, ◌++◌}
use Rattle.listing.specs.Prelude.{ℕ, zero, suc, List, [], get_or, take, drop, ltb}
use Rattle.rules.specs.Choice.{pick}
use Rattle.digits.specs.Decimal.{decimal, signed_decimal}

-- The pattern whose bytes stand at a place, low byte first
unfoldable pub word_at : List ℕ → ℕ → ℕ
word_at bs p =
    get_or bs p 0 + 256 * get_or bs (p + 1) 0 + 65536 * get_or bs (p + 2) 0 + 16777216 * get_or bs (p + 3) 0

-- The sixteen fields of a record: eight bytes, then eight signed numbers
unfoldable pub field_of : List ℕ → ℕ → List ℕ
field_of bs i = pick (ltb i 8) (decimal (get_or bs i 0)) (signed_decimal (word_at bs (4 * i - 24)))

-- A blank, and a line end after the last field
unfoldable pub separator : ℕ → ℕ
separator i = pick (ltb i 15) 32 10

unfoldable pub fields_to : List ℕ → ℕ → List ℕ
fields_to bs zero = []
fields_to bs (suc i) = fields_to bs i ++ (field_of bs i ++ (separator i ∷ []))

abbrev pub line : List ℕ → List ℕ
line bs = fields_to bs 16

-- The lines of the first so many records
unfoldable pub lines_to : List ℕ → ℕ → List ℕ
lines_to bs zero = []
lines_to bs (suc i) = lines_to bs i ++ line (take 40 (drop (40 * i) bs))

-- "end", the number of the end call, the steps of the session
unfoldable pub closing : ℕ → ℕ → List ℕ
closing number steps = (((101 ∷ 110 ∷ 100 ∷ 32 ∷ []) ++ decimal number) ++ (32 ∷ [])) ++ decimal steps ++ (10 ∷ [])
