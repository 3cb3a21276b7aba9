-- The set that a byte is read from
use Rattle.rules.specs.declared.Element.{Element}
use Rattle.rules.specs.declared.Set.{Set}
use Rattle.rules.specs.declared.Sets.{Sets}
use Rattle.rules.specs.declared.Waiting.{Waiting}
use Rattle.rules.specs.declared.Waiting.TheVariants.{Nothing, Shifted, Escape, Designator, Longer, Name, Body, BodyEscape, Row, Column}
use Rattle.rules.specs.Coding.{set_of, shifted_to}

-- The code element that a byte is read from: the one a single shift names, else the one in use
unfoldable pub element_read : Waiting → Sets → Element
element_read Nothing s = s.used
element_read (Shifted x) s = shifted_to x
element_read Escape s = s.used
element_read (Designator e) s = s.used
element_read Longer s = s.used
element_read Name s = s.used
element_read (Body d) s = s.used
element_read (BodyEscape d) s = s.used
element_read (Row x) s = s.used
element_read (Column x r) s = s.used

-- and the set that it names
abbrev pub set_read : Waiting → Sets → Set
set_read w s = set_of (element_read w s) s
