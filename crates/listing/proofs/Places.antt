-- Text put at a place
use Rattle.std.specs.Prelude.{◌≡◌, ◌++◌, ◌+◌, ◌*◌, ◌-◌, ◌/◌, ◌≤◌, ◌<◌}
use Rattle.listing.specs.Prelude.{sym, List, ℕ, suc, min, min-le_right, le-div_iff_mul-le, arith, length, take, drop, drop-drop, length-take-le}
use Rattle.io.specs.Counts.{IsPrefixLen}
use Rattle.records.specs.Bytes.{overwrite}

-- A list copied into the part from a place on
pub copied : (at : ℕ) (bs l m : List ℕ) → m ≡ bs → take at l ++ (m ++ drop (at + length bs - at) (drop at l)) ≡ overwrite at bs l
unfolding overwrite
copied at bs l m e =
    let k : at + length bs - at ≡ length bs = omega arith in
    rw (e, k, drop-drop (length bs) at l)

-- A place within the text counts its bytes
pub counts : (n : ℕ) (l : List ℕ) → n ≤ length l → IsPrefixLen n l
counts n l h = (h, sym (length-take-le n l h))

-- The records of the output that are listed lie within it
pub record_fits : (w n r i : ℕ) → r ≡ min w n / 40 → i < r → 40 * i + 40 ≤ n
record_fits w n r i e h =
    let all : suc i * 40 ≤ min w n = (le-div_iff_mul-le {k = 40} {x = suc i} {y = min w n} (omega arith)).0 (omega arith) in
    omega (arith, min-le_right w n)
