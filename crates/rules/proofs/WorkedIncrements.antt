-- Data of incremental outlines (02, 5/13), worked by hand: read by their rows from a fresh drawing, and closed
use Rattle.std.specs.Prelude.{◌-◌, ◌^◌, ◌≡◌, ◌∷◌, ◌++◌}
use Rattle.rules.specs.Prelude.{ℕ, refl, true, false, List, [], map, length, replicate}
use Rattle.rules.specs.Types.{IncrementalLine, IncrementalPolygon, Drawing, Row, Record, Refused}
use Rattle.rules.specs.Numbers.{origin}
use Rattle.rules.specs.Drawing.{row, role_due, with_command, Outcome, NotDrawn, Draw, and_then, data_byte, complete, finish, new_command, fresh_drawing}
use Rattle.rules.specs.Calls.{number_of}
use Rattle.rules.proofs.Compute.{rules}

-- An outline by its opcode and row
record Kind : Type 0 where
  opcode : ℕ
  row : Row

abbrev line : Kind
line = record { opcode = 58; row = row IncrementalLine 2 false }

abbrev polygon : Kind
polygon = record { opcode = 59; row = row IncrementalPolygon 5 true }

-- Data bytes in turn
fed : Row → List ℕ → Drawing → Outcome
fed r [] d = Draw d []
fed r (b ∷ bs) d = and_then (data_byte r b d) (fed r bs)

-- The outline opened at (0, 0), its data, and closing
abbrev begun : Kind → List ℕ → Outcome
begun k bs = fed k.row bs (with_command (new_command k.opcode origin) fresh_drawing)

abbrev whole : Kind → List ℕ → Outcome
whole k bs =
    let r = k.row in
    and_then (begun k bs) (λ d. and_then (complete r d) (λ e. finish (role_due r e) r.filled e))

-- Of each record kind, flags, x0, y0, x1 and y1, and the drawing point left; a negative coordinate is its pattern

record Told : Type 0 where
  records : List (List ℕ)
  point : List ℕ

abbrev seen : Record → List ℕ
seen r = r.kind ∷ r.flags ∷ r.p0.x ∷ r.p0.y ∷ r.p1.x ∷ r.p1.y ∷ []

abbrev told_of : Outcome → Told
told_of (NotDrawn r) = record { records = []; point = [] }
told_of (Draw d rs) = record { records = map seen rs; point = d.pen.point.x ∷ d.pen.point.y ∷ [] }

record Worked : Type 0 where
  kind : Kind
  bytes : List ℕ
  told : Told

abbrev worked : Kind → List ℕ → List (List ℕ) → List ℕ → Worked
worked k bs rs p = record { kind = k; bytes = bs; told = record { records = rs; point = p } }

abbrev minus : ℕ → ℕ
minus n = 2 ^ 32 - n

-- A step of an quarter of the range in both axes
abbrev quarter : List ℕ
quarter = 73 ∷ 64 ∷ 64 ∷ []

table : List Worked
table =
    -- 01 10 11: along x, along y, along both
    worked line (quarter ++ (91 ∷ []))
    ((2 ∷ 0 ∷ 0 ∷ 0 ∷ 536870912 ∷ 0 ∷ [])
    ∷ (2 ∷ 0 ∷ 536870912 ∷ 0 ∷ 536870912 ∷ 536870912 ∷ [])
    ∷ (2 ∷ 0 ∷ 536870912 ∷ 536870912 ∷ 1073741824 ∷ 1073741824 ∷ []) ∷ [])
    (1073741824 ∷ 1073741824 ∷ [])
    -- the same as edges, and the closing edge
    ∷ worked polygon (quarter ++ (91 ∷ []))
    ((5 ∷ 1 ∷ 0 ∷ 0 ∷ 536870912 ∷ 0 ∷ [])
    ∷ (5 ∷ 1 ∷ 536870912 ∷ 0 ∷ 536870912 ∷ 536870912 ∷ [])
    ∷ (5 ∷ 1 ∷ 536870912 ∷ 536870912 ∷ 1073741824 ∷ 1073741824 ∷ [])
    ∷ (5 ∷ 5 ∷ 1073741824 ∷ 1073741824 ∷ 0 ∷ 0 ∷ []) ∷ [])
    (0 ∷ 0 ∷ [])
    -- A square: 01 10, both signs changed, 01 10
    ∷ worked line (quarter ++ (88 ∷ 118 ∷ []))
    ((2 ∷ 0 ∷ 0 ∷ 0 ∷ 536870912 ∷ 0 ∷ [])
    ∷ (2 ∷ 0 ∷ 536870912 ∷ 0 ∷ 536870912 ∷ 536870912 ∷ [])
    ∷ (2 ∷ 0 ∷ 536870912 ∷ 536870912 ∷ 0 ∷ 536870912 ∷ [])
    ∷ (2 ∷ 0 ∷ 0 ∷ 536870912 ∷ 0 ∷ 0 ∷ []) ∷ [])
    (0 ∷ 0 ∷ [])
    -- by three moves, dx changed before the third, and the closing edge; the last 00 waits for a change that does not come
    ∷ worked polygon (quarter ++ (88 ∷ 84 ∷ []))
    ((5 ∷ 1 ∷ 0 ∷ 0 ∷ 536870912 ∷ 0 ∷ [])
    ∷ (5 ∷ 1 ∷ 536870912 ∷ 0 ∷ 536870912 ∷ 536870912 ∷ [])
    ∷ (5 ∷ 1 ∷ 536870912 ∷ 536870912 ∷ 0 ∷ 536870912 ∷ [])
    ∷ (5 ∷ 5 ∷ 0 ∷ 536870912 ∷ 0 ∷ 0 ∷ []) ∷ [])
    (0 ∷ 0 ∷ [])
    -- The draw flag off after the first move and on after the third, then off again: a move that is not drawn moves the point
    ∷ worked line (quarter ++ (80 ∷ 88 ∷ 77 ∷ 96 ∷ []))
    ((2 ∷ 0 ∷ 0 ∷ 0 ∷ 536870912 ∷ 0 ∷ [])
    ∷ (2 ∷ 0 ∷ 1073741824 ∷ 536870912 ∷ 1610612736 ∷ 1073741824 ∷ [])
    ∷ (2 ∷ 2 ∷ 1610612736 ∷ 1073741824 ∷ minus 2147483648 ∷ 1073741824 ∷ [])
    ∷ (2 ∷ 0 ∷ minus 2147483648 ∷ 1073741824 ∷ minus 2147483648 ∷ 1610612736 ∷ []) ∷ [])
    (minus 2147483648 ∷ 1610612736 ∷ [])
    -- In a polygon the flag is on, and the code after its 00 00 is a change again
    ∷ worked polygon (quarter ++ (80 ∷ 88 ∷ 77 ∷ 96 ∷ []))
    ((5 ∷ 1 ∷ 0 ∷ 0 ∷ 536870912 ∷ 0 ∷ [])
    ∷ (5 ∷ 1 ∷ 536870912 ∷ 0 ∷ 536870912 ∷ 536870912 ∷ [])
    ∷ (5 ∷ 1 ∷ 536870912 ∷ 536870912 ∷ 1073741824 ∷ 536870912 ∷ [])
    ∷ (5 ∷ 1 ∷ 1073741824 ∷ 536870912 ∷ 1073741824 ∷ 0 ∷ [])
    ∷ (5 ∷ 5 ∷ 1073741824 ∷ 0 ∷ 0 ∷ 0 ∷ []) ∷ [])
    (0 ∷ 0 ∷ [])
    -- 00 00 01: a line's flag goes off, and it moves
    ∷ worked line (quarter ++ (65 ∷ [])) [] (536870912 ∷ 0 ∷ [])
    -- a polygon's dx changes its sign, and no move is made: no closing edge
    ∷ worked polygon (quarter ++ (65 ∷ [])) [] (0 ∷ 0 ∷ [])
    -- and with three moves after it
    ∷ worked line (quarter ++ (65 ∷ 85 ∷ [])) [] (2147483648 ∷ 0 ∷ [])
    ∷ worked polygon (quarter ++ (65 ∷ 85 ∷ []))
    ((5 ∷ 1 ∷ 0 ∷ 0 ∷ minus 536870912 ∷ 0 ∷ [])
    ∷ (5 ∷ 1 ∷ minus 536870912 ∷ 0 ∷ minus 1073741824 ∷ 0 ∷ [])
    ∷ (5 ∷ 1 ∷ minus 1073741824 ∷ 0 ∷ minus 1610612736 ∷ 0 ∷ [])
    ∷ (5 ∷ 5 ∷ minus 1610612736 ∷ 0 ∷ 0 ∷ 0 ∷ []) ∷ [])
    (0 ∷ 0 ∷ [])
    -- A 00 that ends a byte: the next byte begins with the change
    ∷ worked line (quarter ++ (84 ∷ 85 ∷ []))
    ((2 ∷ 0 ∷ 0 ∷ 0 ∷ 536870912 ∷ 0 ∷ [])
    ∷ (2 ∷ 0 ∷ 536870912 ∷ 0 ∷ 1073741824 ∷ 0 ∷ [])
    ∷ (2 ∷ 0 ∷ 1073741824 ∷ 0 ∷ 536870912 ∷ 0 ∷ [])
    ∷ (2 ∷ 0 ∷ 536870912 ∷ 0 ∷ 0 ∷ 0 ∷ []) ∷ [])
    (0 ∷ 0 ∷ [])
    ∷ worked polygon (quarter ++ (84 ∷ 85 ∷ []))
    ((5 ∷ 1 ∷ 0 ∷ 0 ∷ 536870912 ∷ 0 ∷ [])
    ∷ (5 ∷ 1 ∷ 536870912 ∷ 0 ∷ 1073741824 ∷ 0 ∷ [])
    ∷ (5 ∷ 1 ∷ 1073741824 ∷ 0 ∷ 536870912 ∷ 0 ∷ [])
    ∷ (5 ∷ 1 ∷ 536870912 ∷ 0 ∷ 0 ∷ 0 ∷ [])
    ∷ (5 ∷ 5 ∷ 0 ∷ 0 ∷ 0 ∷ 0 ∷ []) ∷ [])
    (0 ∷ 0 ∷ [])
    -- Changes of dx, of dy and of both, and dx once more
    ∷ worked line (quarter ++ (81 ∷ 82 ∷ 99 ∷ 116 ∷ []))
    ((2 ∷ 0 ∷ 0 ∷ 0 ∷ 536870912 ∷ 0 ∷ [])
    ∷ (2 ∷ 0 ∷ 536870912 ∷ 0 ∷ 0 ∷ 0 ∷ [])
    ∷ (2 ∷ 0 ∷ 0 ∷ 0 ∷ 0 ∷ minus 536870912 ∷ [])
    ∷ (2 ∷ 0 ∷ 0 ∷ minus 536870912 ∷ 536870912 ∷ 0 ∷ [])
    ∷ (2 ∷ 0 ∷ 536870912 ∷ 0 ∷ 1073741824 ∷ 0 ∷ []) ∷ [])
    (1073741824 ∷ 0 ∷ [])
    -- The least step, -2147483648, stays what it is when its sign changes, and that marks nothing: the second and the fourth move have flag
    -- 2 for their own sums
    ∷ worked line (100 ∷ 64 ∷ 64 ∷ 83 ∷ 91 ∷ [])
    ((2 ∷ 0 ∷ 0 ∷ 0 ∷ minus 2147483648 ∷ 0 ∷ [])
    ∷ (2 ∷ 2 ∷ minus 2147483648 ∷ 0 ∷ 0 ∷ 0 ∷ [])
    ∷ (2 ∷ 0 ∷ 0 ∷ 0 ∷ 0 ∷ minus 2147483648 ∷ [])
    ∷ (2 ∷ 2 ∷ 0 ∷ minus 2147483648 ∷ minus 2147483648 ∷ 0 ∷ []) ∷ [])
    (minus 2147483648 ∷ 0 ∷ [])
    ∷ worked polygon (100 ∷ 64 ∷ 64 ∷ 83 ∷ 91 ∷ [])
    ((5 ∷ 1 ∷ 0 ∷ 0 ∷ minus 2147483648 ∷ 0 ∷ [])
    ∷ (5 ∷ 3 ∷ minus 2147483648 ∷ 0 ∷ 0 ∷ 0 ∷ [])
    ∷ (5 ∷ 1 ∷ 0 ∷ 0 ∷ 0 ∷ minus 2147483648 ∷ [])
    ∷ (5 ∷ 3 ∷ 0 ∷ minus 2147483648 ∷ minus 2147483648 ∷ 0 ∷ [])
    ∷ (5 ∷ 5 ∷ minus 2147483648 ∷ 0 ∷ 0 ∷ 0 ∷ []) ∷ [])
    (0 ∷ 0 ∷ [])
    -- A move that leaves the range has flag 2, and the next has none
    ∷ worked line (88 ∷ 64 ∷ 64 ∷ 85 ∷ [])
    ((2 ∷ 0 ∷ 0 ∷ 0 ∷ 1610612736 ∷ 0 ∷ [])
    ∷ (2 ∷ 2 ∷ 1610612736 ∷ 0 ∷ minus 1073741824 ∷ 0 ∷ [])
    ∷ (2 ∷ 0 ∷ minus 1073741824 ∷ 0 ∷ 536870912 ∷ 0 ∷ []) ∷ [])
    (536870912 ∷ 0 ∷ [])
    -- one that is not drawn marks nothing
    ∷ worked line (88 ∷ 64 ∷ 64 ∷ 65 ∷ 80 ∷ 80 ∷ []) ((2 ∷ 0 ∷ minus 1073741824 ∷ 0 ∷ 536870912 ∷ 0 ∷ []) ∷ []) (536870912 ∷ 0 ∷ [])
    -- Sign changes alone are no move: no closing edge
    ∷ worked line (quarter ++ (68 ∷ [])) [] (0 ∷ 0 ∷ [])
    ∷ worked polygon (quarter ++ (68 ∷ [])) [] (0 ∷ 0 ∷ [])
    -- A begun step, closed, and a step with no code
    ∷ worked line (73 ∷ []) [] (0 ∷ 0 ∷ [])
    ∷ worked polygon (73 ∷ []) [] (0 ∷ 0 ∷ [])
    ∷ worked polygon quarter [] (0 ∷ 0 ∷ [])
    -- Moves of no length are moves
    ∷ worked polygon (64 ∷ 64 ∷ 64 ∷ 80 ∷ []) ((5 ∷ 1 ∷ 0 ∷ 0 ∷ 0 ∷ 0 ∷ []) ∷ (5 ∷ 5 ∷ 0 ∷ 0 ∷ 0 ∷ 0 ∷ []) ∷ []) (0 ∷ 0 ∷ [])
    ∷ []

increments_worked : map (λ w. told_of (whole w.kind w.bytes)) table ≡ map (λ w. w.told) table
unfolding rules fed table
increments_worked = refl

-- The vertex limit: the number, and how many records there are

abbrev counted : Outcome → List ℕ
counted (NotDrawn r) = number_of (Refused r) ∷ []
counted (Draw d rs) = 0 ∷ length rs ∷ []

-- So many bytes of three moves
abbrev moves : ℕ → List ℕ
moves n = quarter ++ replicate n 85

-- 411 moves pass, and are closed by one edge more; after them a byte without a move does, and none with one, wherever in it
increments_most :
    map (λ bs. counted (whole polygon (moves 137 ++ bs))) ([] ∷ (68 ∷ []) ∷ (80 ∷ []) ∷ (69 ∷ []) ∷ [])
    ≡ ((0 ∷ 412 ∷ []) ∷ (0 ∷ 412 ∷ []) ∷ (9 ∷ []) ∷ (9 ∷ []) ∷ [])
unfolding rules fed
increments_most = refl

-- 410 moves, and a byte of three: its second is one too many, and the byte is refused. One with a single move passes
increments_middle :
    map (λ bs. counted (begun polygon (moves 136 ++ (81 ∷ 81 ∷ []) ++ bs))) ([] ∷ (85 ∷ []) ∷ (81 ∷ []) ∷ [])
    ≡ ((0 ∷ 410 ∷ []) ∷ (9 ∷ []) ∷ (0 ∷ 411 ∷ []) ∷ [])
unfolding rules fed
increments_middle = refl

-- A line has no limit
increments_line : counted (whole line (moves 138)) ≡ (0 ∷ 414 ∷ [])
unfolding rules fed
increments_line = refl
