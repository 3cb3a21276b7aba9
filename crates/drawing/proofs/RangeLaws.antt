-- What a drawing state in range has.
use Rattle.std.specs.Prelude.{◌≤◌, ◌<◌, ◌≡◌, ◌&&◌}
use Rattle.std.proofs.Common.{ℕ, arith, true, leb, eqb, ltb-true, leb-true, eqb-true}
use Rattle.rules.specs.declared.Domain.{Domain}
use Rattle.rules.specs.declared.Drawing.{Drawing}
use Rattle.rules.specs.declared.Role.{Role}
use Rattle.rules.specs.declared.Role.TheVariants.{MoveTo, DrawTo, DrawBy, Middle, ArcEnd, Start, Edge, StepSize, LineCodes, PolygonCodes, Lengths, Pel, TextFirst, TextSecond, TextField, TextMore, Foreground, Background, Shade, Dropped}
use Rattle.rules.specs.Numbers.{most_vertices}
use Rattle.rules.specs.Drawing.{row_of, length_of, role_due}
use Rattle.rules.specs.Ranges.{domain_fits, colour_fits, opcode_fits, vertices_fit, command_fits, begun_fits, drawing_fits}
use Rattle.rules.proofs.Bools.{and_left, and_right, by_test}
use Rattle.rules.proofs.DrawingRanges.{valid_command}

-- No operand is longer than the longer of the two lengths
length_most : (x : Role) (o : Domain) → o.single ≤ 8 → o.multi ≤ 8 → length_of x o ≤ 8
unfolding length_of
length_most MoveTo o s m = m
length_most DrawTo o s m = m
length_most DrawBy o s m = m
length_most Middle o s m = m
length_most ArcEnd o s m = m
length_most Start o s m = m
length_most Edge o s m = m
length_most StepSize o s m = m
length_most LineCodes o s m = omega arith
length_most PolygonCodes o s m = omega arith
length_most Lengths o s m = omega arith
length_most Pel o s m = m
length_most TextFirst o s m = omega arith
length_most TextSecond o s m = omega arith
length_most TextField o s m = m
length_most TextMore o s m = omega arith
length_most Foreground o s m = s
length_most Background o s m = s
length_most Shade o s m = m
length_most Dropped o s m = omega arith

operand_most : (x : Role) (o : Domain) → domain_fits o ≡ true → length_of x o ≤ 8
unfolding domain_fits
operand_most x o e =
    let s = leb 1 o.single && leb o.single 4 in
    let m = leb 1 o.multi && leb o.multi 8 in
    let h = leb-true o.single 4 (and_right (leb 1 o.single) _ (and_left s m e)) in
    length_most x o (omega arith) (leb-true o.multi 8 (and_right (leb 1 o.multi) _ (and_right s m e)))

begun_most : (count n : ℕ) → n ≤ 8 → begun_fits count n ≡ true → count < 8
unfolding begun_fits
begun_most count n h e =
    by_test (eqb count 0)
    (λ z. let k = eqb-true count 0 z in omega arith)
    (λ z. let k = ltb-true count n (rw z at e) in omega arith)

-- The bytes of the operand that is due
abbrev length_due : Drawing → ℕ
length_due d = length_of (role_due (row_of d.command.opcode) d) d.look.domain

-- An operand that is begun has room for a byte
pub count_most : (d : Drawing) → drawing_fits d ≡ true → d.pen.operand.count < 8
unfolding drawing_fits
count_most d e =
    let o = domain_fits d.look.domain in
    let c = colour_fits d.look.colour in
    let x = command_fits d.command in
    let t = begun_fits d.pen.operand.count (length_due d) in
    begun_most d.pen.operand.count (length_due d)
    (operand_most (role_due (row_of d.command.opcode) d) d.look.domain (and_left o (c && (x && t)) e))
    (and_right x t (and_right c (x && t) (and_right o (c && (x && t)) e)))

-- The vertices are within their limit
pub vertices_most : (d : Drawing) → drawing_fits d ≡ true → d.command.vertices ≤ most_vertices
unfolding command_fits vertices_fit
vertices_most d e =
    leb-true d.command.vertices most_vertices (and_right (leb 1 d.command.vertices) _ (and_right (opcode_fits d.command.opcode) _ (valid_command d e)))

-- The foreground is one of 16 addresses
pub foreground_most : (d : Drawing) → drawing_fits d ≡ true → d.look.colour.foreground ≤ 15
unfolding drawing_fits colour_fits
foreground_most d e =
    let f = leb d.look.colour.foreground 15 in
    let b = leb d.look.colour.background 15 in
    let r = command_fits d.command && begun_fits d.pen.operand.count (length_due d) in
    leb-true _ 15 (and_left f b (and_left (f && b) r (and_right (domain_fits d.look.domain) ((f && b) && r) e)))
