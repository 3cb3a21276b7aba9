-- Numbers in decimal
use Rattle.std.specs.Prelude.{◌≡◌, ◌∷◌, ◌++◌, ◌+◌, ◌/◌, ◌%◌, ◌^◌, ◌≤◌, ◌<◌}
use Rattle.digits.specs.Prelude.{refl, ap, ◌∙◌, Bool, true, false, List, [], append_assoc, ℕ, zero, suc, pow-suc, div-lt_iff_lt-mul, arith, lt-ltb, le-ltb, ltb-false, length, length-append, ltb}
use Rattle.rules.specs.Choice.{pick}
use Rattle.digits.specs.Decimal.{decimal_to, decimal, two_digits, four_digits}

-- A number of one digit
pub one_digit : (n : ℕ) → n < 10 → decimal n ≡ (48 + n) ∷ []
unfolding decimal_to
one_digit n h = rw (lt-ltb n 10 h) refl

-- A tenth of a number has a digit less
tenth : (m n : ℕ) → n < 10 ^ suc (suc m) → n / 10 < 10 ^ suc m
tenth m n h = (div-lt_iff_lt-mul {k = 10} {x = n} {y = 10 ^ suc m} (omega arith)).1 (rw (pow-suc 10 (suc m)) at h)

-- How many digits a number has at most
shorter : (m n : ℕ) (xs : List ℕ) (b : Bool) → ltb n 10 ≡ b → n < 10 ^ suc m → (0 < m → length xs ≤ m)
    → length (pick b ((48 + n) ∷ []) (xs ++ ((48 + n % 10) ∷ []))) ≤ suc m
shorter m n xs true e h k = omega arith
shorter zero n xs false e h k = simp length-append (omega (arith, ltb-false n 10 e))
shorter (suc m) n xs false e h k = simp length-append (omega (arith, k (omega arith)))

pub decimal_length : (m f n : ℕ) → n < 10 ^ suc m → length (decimal_to f n) ≤ suc m
unfolding decimal_to
decimal_length m zero n h = omega arith
decimal_length zero (suc f) n h = shorter zero n (decimal_to f (n / 10)) (ltb n 10) refl h (λ z. omega arith)
decimal_length (suc m) (suc f) n h =
    shorter (suc m) n (decimal_to f (n / 10)) (ltb n 10) refl h (λ z. decimal_length m f (n / 10) (tenth m n h))

-- Where so many digits are enough, more make no difference
enough : (f g n : ℕ) → n < 10 ^ suc f → f ≤ g → decimal_to (suc f) n ≡ decimal_to (suc g) n
unfolding decimal_to
enough zero g n h l = let t : n < 10 = omega arith in rw (lt-ltb n 10 t) refl
enough (suc f) zero n h l = absurd (omega arith)
enough (suc f) (suc g) n h l =
    ap (λ (x : List ℕ). pick (ltb n 10) ((48 + n) ∷ []) (x ++ ((48 + n % 10) ∷ [])))
    (enough f g (n / 10) (tenth f n h) (omega arith))

-- The last digit of a number, and the digits before it
last_digit : (n : ℕ) → 10 ≤ n → n < 4294967296 → decimal n ≡ decimal (n / 10) ++ ((48 + n % 10) ∷ [])
unfolding decimal_to
last_digit n h l =
    rw (le-ltb n 10 h) (ap (λ (x : List ℕ). x ++ ((48 + n % 10) ∷ [])) (enough 18 19 (n / 10) (omega arith) (omega arith)))

pub two_digits_lem : (n : ℕ) → 10 ≤ n → n < 100 → decimal n ≡ two_digits n
two_digits_lem n h l =
    last_digit n h (omega arith) ∙ ap (λ (x : List ℕ). x ++ ((48 + n % 10) ∷ [])) (one_digit (n / 10) (omega arith))

-- The last two digits
last_two : (n : ℕ) → 100 ≤ n → n < 4294967296 → decimal n ≡ decimal (n / 100) ++ two_digits (n % 100)
last_two n h l =
    let tens : n / 10 / 10 ≡ n / 100 = omega arith in
    let high : n / 10 % 10 ≡ n % 100 / 10 = omega arith in
    let low : n % 10 ≡ n % 100 % 10 = omega arith in
    last_digit n (omega arith) l
    ∙ ap (λ (x : List ℕ). x ++ ((48 + n % 10) ∷ [])) (last_digit (n / 10) (omega arith) (omega arith))
    ∙ append_assoc (decimal (n / 10 / 10)) ((48 + n / 10 % 10) ∷ []) ((48 + n % 10) ∷ [])
    ∙ rw (tens, high, low) refl

pub three_digits : (n : ℕ) → 100 ≤ n → n < 1000 → decimal n ≡ (48 + n / 100) ∷ two_digits (n % 100)
three_digits n h l =
    last_two n h (omega arith) ∙ ap (λ (x : List ℕ). x ++ two_digits (n % 100)) (one_digit (n / 100) (omega arith))

pub four_digits_lem : (n : ℕ) → 1000 ≤ n → n < 10000 → decimal n ≡ four_digits n
four_digits_lem n h l =
    last_two n (omega arith) (omega arith)
    ∙ ap (λ (x : List ℕ). x ++ two_digits (n % 100)) (two_digits_lem (n / 100) (omega arith) (omega arith))

-- The last four digits
pub last_four : (n : ℕ) → 10000 ≤ n → n < 4294967296 → decimal n ≡ decimal (n / 10000) ++ four_digits (n % 10000)
last_four n h l =
    let hundreds : n / 100 / 100 ≡ n / 10000 = omega arith in
    let high : n / 100 % 100 ≡ n % 10000 / 100 = omega arith in
    let low : n % 100 ≡ n % 10000 % 100 = omega arith in
    last_two n (omega arith) l
    ∙ ap (λ (x : List ℕ). x ++ two_digits (n % 100)) (last_two (n / 100) (omega arith) (omega arith))
    ∙ append_assoc (decimal (n / 100 / 100)) (two_digits (n / 100 % 100)) (two_digits (n % 100))
    ∙ rw (hundreds, high, low) refl
