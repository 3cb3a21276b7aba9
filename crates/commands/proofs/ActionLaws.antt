-- Records of the drawing point and the opening of a command, carried out.
use Rattle.std.specs.Prelude.{◌+◌, ◌≡◌, ◌++◌}
use Rattle.std.proofs.Common.{ℕ, false, List, set, eq-eqb, ne_eqb}
use Rattle.rules.specs.declared.Command.{Command}
use Rattle.rules.specs.declared.Row.{Row}
use Rattle.rules.specs.declared.Look.{Look}
use Rattle.rules.specs.declared.Point.{Point}
use Rattle.rules.specs.declared.Drawing.{Drawing}
use Rattle.rules.specs.Numbers.{origin}
use Rattle.rules.specs.Record.{words, bytes_of, record_of, mark}
use Rattle.rules.specs.Drawing.{row_of, with_command, new_command, open_command}
use Rattle.records.specs.declared.Head.{Head}
use Rattle.records.specs.Bytes.{overwrite, head_bytes}
use Rattle.records.proofs.Heads.{record_bytes, head_code, head_kind}
use Rattle.figures.specs.Carried.{carry}
use Rattle.figures.specs.Tracing.{Inks}
use Rattle.figures.proofs.Carrying.{puts_none, puts_one, puts_carried}

-- The bytes of a record of the drawing point, its head made from the ink
pub mark_bytes : (g h ink : Head) (l : Look) (kind code : ℕ) (p pel : Point)
    → Inks ink pel l
    → head_bytes h ≡ set (set (head_bytes ink) 0 kind) 1 0
    → head_bytes g ≡ set (head_bytes h) 7 code
    → head_bytes g ++ words p ++ words origin ++ words origin ++ words pel ≡ bytes_of (mark l kind 0 code p)
unfolding mark record_of
mark_bytes g h ink l kind code p pel k e f =
    let i = head_kind h ink l 0 0 kind 0 0 0 p origin origin (k.head p origin origin) e in
    rw k.size (record_bytes (record_of l kind 0 0 code p origin origin) g (head_code g h l kind 0 0 0 code p origin origin i f))

-- The command c is opened, whose row is r
module _ (o : ℕ) (d : Drawing) (at : ℕ) (out : List ℕ) (c : Command) (r : Row) (e : c ≡ new_command o d.pen.point) (f : r ≡ row_of o) where
  -- A record is written where data is dropped
  pub open_marked : (out' : List ℕ) → r.kind ≡ 9 → out' ≡ overwrite at (bytes_of (mark d.look 9 0 o d.pen.point)) out
      → record { refused = false; drawing = with_command c d; at = at + 40; output = out' } ≡ carry (open_command o d) d at out
  unfolding open_command
  open_marked out' h w =
      puts_carried d (with_command c d) at (at + 40) out out' (rw (e, eq-eqb (row_of o).kind 9 (rw f at h)))
      (puts_one (mark d.look 9 0 o d.pen.point) at out out' w)

  pub open_unmarked : (r.kind ≡ 9 → ⊥) → record { refused = false; drawing = with_command c d; at = at; output = out } ≡ carry (open_command o d) d at out
  unfolding open_command
  open_unmarked h =
      puts_carried d (with_command c d) at at out out (rw (e, ne_eqb (row_of o).kind 9 (rw f at h))) (puts_none at out)
