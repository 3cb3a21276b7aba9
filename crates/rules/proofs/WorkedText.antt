-- Worked numbers of text: where each act leaves cursor and drawing point
use Rattle.std.specs.Prelude.{◌-◌, ◌^◌, ◌≡◌, ◌∷◌}
use Rattle.rules.specs.Prelude.{ℕ, zero, suc, refl, List, [], map}
use Rattle.rules.specs.Types.{Point, Pen, First, Second, Third, Past}
use Rattle.rules.specs.Text.{with_text, with_settings, with_field, reach_along, stride, spacing_quarters, interrow_quarters, row_direction}
use Rattle.rules.specs.Text.{byte_one, byte_two, follow, advance, apb, row_up, home, apr, apd, close_text, addressed, reset_text, positioned}
use Rattle.rules.specs.Drawing.{fresh_drawing}
use Rattle.rules.proofs.Compute.{rules}

-- Where a page leaves them
record Stands : Type 0 where
  cursor : Point
  point : Point

record Worked : Type 0 where
  page : Pen
  left : Stands

abbrev stands : Pen → Stands
stands s = record { cursor = s.text.cursor; point = s.point }

abbrev dot : ℕ → ℕ → Point
dot x y = record { x = x; y = y }

-- Cursor and point at one place; a place of each
abbrev both : Pen → ℕ → ℕ → Worked
both s x y = record { page = s; left = record { cursor = dot x y; point = dot x y } }

abbrev each : Pen → Point → Point → Worked
each s c p = record { page = s; left = record { cursor = c; point = p } }

times : ℕ → (Pen → Pen) → Pen → Pen
times zero f s = s
times (suc n) f s = f (times n f s)

abbrev fresh : Pen
fresh = fresh_drawing.pen

-- TEXT with one byte, with two, and with a size after them
abbrev text1 : ℕ → Pen → Pen
text1 b s = close_text Second (with_text (with_settings (byte_one b s.text.settings) s.text) s)

abbrev text2 : ℕ → ℕ → Pen → Pen
text2 a b s = close_text Third (with_text (with_settings (byte_two b (byte_one a s.text.settings)) s.text) s)

abbrev text3 : ℕ → ℕ → Point → Pen → Pen
text3 a b f s = close_text Past (with_text (with_field f (with_settings (byte_two b (byte_one a s.text.settings)) s.text)) s)

-- 1/15, row, column
abbrev nsr : ℕ → ℕ → Pen → Pen
nsr row column s = positioned row column (with_text (reset_text s.text) s)

abbrev minus : ℕ → ℕ
minus n = 2 ^ 32 - n

worked : List Worked
worked =
    -- characters; the pair after a full line
    both (advance fresh) 53687040 0
    ∷ both (times 39 advance fresh) 2093794560 0
    ∷ both (times 40 advance fresh) 0 2063597568
    ∷ both (apd (apr (times 40 advance fresh))) 0 2063597568
    ∷ both (apr (apd (times 40 advance fresh))) 0 2063597568
    ∷ both (times 40 advance (home fresh)) 0 1509949440
    ∷ both (apd (apr (apr (times 40 advance (home fresh))))) 0 1509949440
    ∷ both (apd (apr (apd (apr (times 40 advance (home fresh)))))) 0 1426063360
    ∷ both (apd (times 40 advance (home fresh))) 0 1426063360
    -- 0/8, 0/10, 0/11, 1/14
    ∷ both (apb fresh) 2093796608 83886080
    ∷ both (advance (apb fresh)) 0 0
    ∷ both (apd fresh) 0 2063597568
    ∷ both (row_up fresh) 0 83886080
    ∷ both (home fresh) 0 1593835520
    ∷ both (times 19 apd (home fresh)) 0 0
    ∷ both (times 20 apd (home fresh)) 0 2063597568
    -- 1/15 and 1/12
    ∷ both (nsr 64 64 fresh) 0 1593835520
    ∷ both (nsr 65 66 fresh) 107374080 1509949440
    ∷ both (nsr 83 103 fresh) 2093794560 0
    ∷ both (nsr 127 127 fresh) 2093796608 0
    ∷ both (addressed 64 64 fresh) 1717985280 2063597568
    -- rotation and home
    ∷ both (text1 65 fresh) 83886080 0
    ∷ both (home (text1 65 fresh)) 83886080 1624034560
    ∷ both (home (text1 66 fresh)) 53687040 1677721600
    ∷ both (home (text1 67 fresh)) 0 1677721600
    -- path left: the first position is the right edge, a row down goes up
    ∷ both (apr (text1 68 fresh)) 2093796608 0
    ∷ both (apd (apr (text1 68 fresh))) 2093796608 83886080
    -- spacing 5/4, 3/2 and proportional: after the 31st and the 32nd, the 26th and the 27th, the 39th and the 40th
    ∷ both (times 31 advance (text1 80 (home fresh))) 2080366848 1593835520
    ∷ both (times 32 advance (text1 80 (home fresh))) 0 1509949440
    ∷ both (times 26 advance (text1 96 (home fresh))) 2093791232 1593835520
    ∷ both (times 27 advance (text1 96 (home fresh))) 0 1509949440
    ∷ both (times 39 advance (text1 112 (home fresh))) 2093794560 1593835520
    ∷ both (times 40 advance (text1 112 (home fresh))) 0 1509949440
    -- 32 fields of 1/32 at rotation 180: the right edge is held at U - 256
    ∷ both (times 31 advance (apr (text3 66 64 (dot 67108864 83886080) fresh))) 2147483392 83886080
    ∷ both (times 32 advance (apr (text3 66 64 (dot 67108864 83886080) fresh))) 67108864 2147483392
    -- cross-hair, and the moves of the point
    ∷ each (text2 64 96 fresh) (dot 0 0) (dot 26843392 41943040)
    ∷ each (follow (dot 2147483392 (minus 256)) fresh) (dot 2093796608 0) (dot 2147483392 (minus 256))
    ∷ both (close_text First (follow (dot 2147483392 (minus 256)) fresh)) 2093796608 0
    ∷ each (follow (dot 1073741824 1073741824) (text2 64 96 fresh)) (dot 1046898432 1031798784) (dot 1073741824 1073741824)
    ∷ each (follow (dot 512 512) (text2 64 68 fresh)) (dot 0 0) (dot 512 512)
    ∷ both (advance (follow (dot 512 512) (text2 64 68 fresh))) 53687040 0
    ∷ each (advance (text2 64 72 fresh)) (dot 53687040 0) (dot 0 0)
    ∷ each (follow (dot 512 0) (advance (text2 64 76 fresh))) (dot 53687040 0) (dot 512 0)
    ∷ []

as_worked : map (λ w. stands w.page) worked ≡ map (λ w. w.left) worked
unfolding rules worked times
as_worked = refl

-- Advance and row step of the default field: spacing 1, 5/4, 3/2, proportional; interrow 1, 5/4, 3/2, 2
advances : ℕ → ℕ
advances b = let t = (text1 b fresh).text in stride (reach_along t.settings.path t) (spacing_quarters t.settings.spacing)

row_steps : ℕ → ℕ → ℕ
row_steps a b = let t = (text2 a b fresh).text in stride (reach_along (row_direction t.settings.path) t) (interrow_quarters t.settings.interrow)

advances_as_worked : map advances (64 ∷ 80 ∷ 96 ∷ 112 ∷ 72 ∷ 65 ∷ []) ≡ 53687040 ∷ 67108608 ∷ 80530432 ∷ 53687040 ∷ 83886080 ∷ 83886080 ∷ []
unfolding rules advances
advances_as_worked = refl

row_steps_as_worked : map (row_steps 64) (64 ∷ 65 ∷ 66 ∷ 67 ∷ []) ≡ 83886080 ∷ 104857600 ∷ 125829120 ∷ 167772160 ∷ []
unfolding rules row_steps
row_steps_as_worked = refl
