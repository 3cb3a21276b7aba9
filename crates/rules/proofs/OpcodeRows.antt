-- The table of opcodes: its rows say what the bullets of "Operands and opcodes" say, group by group; and a row found by its place
use Rattle.std.specs.Prelude.{◌-◌, ◌%◌, ◌≡◌, ◌&&◌, ◌∷◌, ◌++◌}
use Rattle.rules.specs.Prelude.{ℕ, zero, suc, arith, refl, sym, ◌∙◌, List, [], map, get_or, replicate, ltb, leb, eqb, ltb-true}
use Rattle.rules.specs.Types.{Due, First, Second, Third, IncrementalLine, IncrementalPolygon, Role, MoveTo, Start, StepSize, LineCodes, PolygonCodes}
use Rattle.rules.specs.Drawing.{other, rows, row_of, role_of}
use Rattle.rules.proofs.Bools.{by_test, pick_yes, pick_no}
use Rattle.rules.proofs.Compute.{rules}
use Rattle.rules.proofs.Tables.{before}

-- n codes from c on; the opcodes are those from 2/0 to 3/15
abbrev codes_from : ℕ → ℕ → List ℕ
codes_from zero c = []
codes_from (suc n) c = c ∷ codes_from n (suc c)

abbrev opcodes : List ℕ
opcodes = codes_from 32 32

-- "Odd codes of ARC, RECTANGLE, POLYGON are filled.", which are the codes from 2/12 to 3/7, and no other code is
filled_as_said : map (λ c. (row_of c).filled) opcodes ≡ map (λ c. (leb 44 c && leb c 55) && eqb (c % 2) 1) opcodes
unfolding rules
filled_as_said = refl

-- The kinds by group: no record of DOMAIN, POINT SET and SELECT COLOUR, 1 POINT, 2 LINE, 3 ARC, 4 RECTANGLE, 5 POLYGON, 8 SET COLOUR;
-- "Others write kind 9 when opened; .."
kinds_as_said : map (λ c. (row_of c).kind) opcodes
    ≡ (9 ∷ 0 ∷ 9 ∷ 9 ∷ []) ++ (0 ∷ 0 ∷ []) ++ (1 ∷ 1 ∷ []) ++ replicate 4 2 ++ replicate 4 3
    ++ replicate 4 4 ++ replicate 4 5 ++ replicate 4 9 ++ (8 ∷ 9 ∷ 0 ∷ 9 ∷ [])
unfolding rules
kinds_as_said = refl

-- The form of a figure that sets its own start, two codes after the one that does not, has an absolute operand first and then the
-- operands of that one: LINE 2/10 and 2/11, ARC 2/14 and 2/15, RECTANGLE 3/2 and 3/3, POLYGON 3/6 and 3/7
abbrev role_at : ℕ → Due → Role
role_at c n = role_of (row_of c).pattern n

abbrev set_forms : List ℕ
set_forms = 42 ∷ 43 ∷ 46 ∷ 47 ∷ 50 ∷ 51 ∷ 54 ∷ 55 ∷ []

starts_as_said : map (λ c. role_at c First) set_forms ≡ replicate 6 MoveTo ++ replicate 2 Start
unfolding rules
starts_as_said = refl

seconds_as_said : map (λ c. role_at c Second) set_forms ≡ map (λ c. role_at (c - 2) First) set_forms
unfolding rules
seconds_as_said = refl

-- An arc's last operand is its third
thirds_as_said : map (λ c. role_at c Third) (46 ∷ 47 ∷ []) ≡ map (λ c. role_at (c - 2) Second) (46 ∷ 47 ∷ [])
unfolding rules
thirds_as_said = refl

-- 02, 5/13: "the step size", then "three moves to a data byte"
line_as_said : map (role_of IncrementalLine) (First ∷ Second ∷ Third ∷ []) ≡ StepSize ∷ replicate 2 LineCodes
unfolding rules
line_as_said = refl

polygon_as_said : map (role_of IncrementalPolygon) (First ∷ Second ∷ Third ∷ []) ≡ StepSize ∷ replicate 2 PolygonCodes
unfolding rules
polygon_as_said = refl

-- The row at the place of a code; that of a code below 2/0 is at the first place, whose opcode is not read
pub row_at : (o : ℕ) → get_or rows (o - 32) other ≡ row_of o
unfolding rows row_of
row_at o =
    by_test (ltb o 32)
    (λ e. let h = ltb-true o 32 e in sym (before rows other o 32 (omega arith)) ∙ sym (pick_yes other (get_or rows (o - 32) other) e))
    (λ e. sym (pick_no other (get_or rows (o - 32) other) e))
