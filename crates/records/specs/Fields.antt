-- The mode and the colour bytes of a record
use Rattle.rules.specs.declared.Colour.{Colour}
use Rattle.rules.specs.Record.{mode_number, colour0, colour1, colour2}
use Rattle.records.specs.declared.Ink.{Ink}

abbrev pub ink_of : Colour → Ink
ink_of c =
    record {
      mode = mode_number c.mode;
      colour0 = colour0 c.mode c;
      colour1 = colour1 c.mode c;
      colour2 = colour2 c.mode c;
    }
