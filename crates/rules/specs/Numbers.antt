-- The numbers of documents 01 and 02 that more than one definition needs; src/lib.rt has them as constants of the same names
use Rattle.std.specs.Prelude.{ℕ, ◌*◌, ◌/◌, ◌^◌}
use Rattle.rules.specs.Types.{Point}

-- "Open takes a store of exactly 8,192 bytes ..". "The store is 256 cells of 32 bytes."
abbrev pub store_size : ℕ
store_size = 8192

-- ".. byte 1 counts the body bytes (1 to 30) that follow."
abbrev pub most_bytes : ℕ
most_bytes = 30

-- ".. depth at most 8, .."
abbrev pub most_depth : ℕ
most_depth = 8

-- "Escape (1/11)"
abbrev pub esc : ℕ
esc = 27

-- 02, 4/13: "Annex D's control 1/8 .."
abbrev pub can : ℕ
can = 24

-- "Record, 40 bytes"
abbrev pub record_size : ℕ
record_size = 40

-- ".. fewer than 120 bytes free in the output, answer full; ..": three records
abbrev pub room_for_step : ℕ
room_for_step = 120

-- 02, 1/13: "The widest polygon on any registered page has 412 vertices, its start counted, .. That figure becomes the limit in place
-- of 256."
abbrev pub most_vertices : ℕ
most_vertices = 412

-- "drawing point (0, 0)"
abbrev pub origin : Point
origin = record { x = 0; y = 0 }

-- 02, 2/13: U, the width and the height of the unit screen
abbrev pub screen_side : ℕ
screen_side = 2 ^ 31

-- 02, 2/13: "the display area, whose top is 25/32 of U" (001:2599)
abbrev pub display_top : ℕ
display_top = screen_side * 25 / 32

-- 02, 2/13: ".. its default character field, .. truncated toward zero to multiples of 256 units, ..": "1/40 cut to a multiple of 256
-- and 5/128" (001:888)
abbrev pub fresh_width : ℕ
fresh_width = screen_side / 40 / 256 * 256

abbrev pub fresh_height : ℕ
fresh_height = screen_side * 5 / 128
