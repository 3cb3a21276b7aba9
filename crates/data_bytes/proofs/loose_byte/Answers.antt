use Rattle.rules.specs.Drawing.{loose_byte}
use Rattle.figures.proofs.Carrying.{none_carried}
use Rattle.data_bytes.proofs.LooseLaws.{line_due, polygon_due, loose_dropped}
use Rattle.data_bytes.proofs.loose_byte.Goals as goal

pub draw_codes-requires : goal.draw_codes-requires
draw_codes-requires c =
    (c.requires.1, line_due _ _ _ c.requires.0 c.in-LineCodes.is, c.requires.2)

pub draw_codes-requires-in-PolygonCodes : goal.draw_codes-requires-in-PolygonCodes
draw_codes-requires-in-PolygonCodes c =
    (c.requires.1, polygon_due _ _ _ c.requires.0 c.in-PolygonCodes.is, c.requires.2)

pub returns-in-LineCodes : goal.returns-in-LineCodes
unfolding loose_byte
returns-in-LineCodes c = rw c.in-LineCodes.is c.draw_codes.ensures

pub returns-in-PolygonCodes : goal.returns-in-PolygonCodes
unfolding loose_byte
returns-in-PolygonCodes c = rw c.in-PolygonCodes.is c.draw_codes-in-PolygonCodes.ensures

pub returns-in_default : goal.returns-in_default
returns-in_default c =
    none_carried _ _ _ _ (loose_dropped c.args.role c.args.row.filled c.args.byte _ c.in_default.not-LineCodes c.in_default.not-PolygonCodes)
