-- The types of src/lib.rt with their variants, under one name each for all files. A variant that a type has the name of too is told
-- apart by its own type
pub use Rattle.std.specs.Prelude.{Option, Some, None, Result, Ok, Err}
pub use Rattle.rules.specs.declared.Repertoire.{Repertoire}
pub use Rattle.rules.specs.declared.Repertoire.TheVariants.{Primary, Supplementary, Mosaic, Drcs}
pub use Rattle.rules.specs.declared.Set.{Set}
pub use Rattle.rules.specs.declared.Set.TheVariants.{Characters, Pdi, Macro}
pub use Rattle.rules.specs.declared.Element.{Element}
pub use Rattle.rules.specs.declared.Element.TheVariants.{G0, G1, G2, G3}
pub use Rattle.rules.specs.declared.SingleShift.{SingleShift}
pub use Rattle.rules.specs.declared.SingleShift.TheVariants.{Ss2, Ss3}
pub use Rattle.rules.specs.declared.Sets.{Sets}
pub use Rattle.rules.specs.declared.Definition.{Definition}
pub use Rattle.rules.specs.declared.Waiting.{Waiting}
pub use Rattle.rules.specs.declared.Waiting.TheVariants.{Nothing, Shifted, Escape, Designator, Longer, Name, Body, BodyEscape, Row as Row·waiting, Column}
pub use Rattle.rules.specs.declared.Positioning.{Positioning}
pub use Rattle.rules.specs.declared.Positioning.TheVariants.{Aps, Nsr}
pub use Rattle.rules.specs.declared.Effector.{Effector}
pub use Rattle.rules.specs.declared.Effector.TheVariants.{Apb, Apf, Apd, Apu, Cs, Apr, Aph}
pub use Rattle.rules.specs.declared.Coding.{Coding}
pub use Rattle.rules.specs.declared.Control.{Control}
pub use Rattle.rules.specs.declared.Control.TheVariants.{Ignored, Locks, Shifts, Escapes, Recorded, Cancels, Formats, Positions}
pub use Rattle.rules.specs.declared.Class.{Class}
pub use Rattle.rules.specs.declared.Class.TheVariants.{Below, Column2, Above}
pub use Rattle.rules.specs.declared.Final.{Final}
pub use Rattle.rules.specs.declared.Final.TheVariants.{Opens, Refuses, UsesG2, UsesG3, Closes, NoMeaning}
pub use Rattle.rules.specs.declared.Inner.{Inner}
pub use Rattle.rules.specs.declared.Inner.TheVariants.{OpensNext, Bars, EndsBody, StartsAfresh, StoresBoth}
pub use Rattle.rules.specs.declared.Action.{Action}
pub use Rattle.rules.specs.declared.Action.TheVariants.{Idle, Close, Control as Control·action, Cancel, Format, Reset, Position, Character, Opcode, Data}
pub use Rattle.rules.specs.declared.Bodies.{Bodies}
pub use Rattle.rules.specs.declared.Cursor.{Cursor}
pub use Rattle.rules.specs.declared.Point.{Point}
pub use Rattle.rules.specs.declared.Operand.{Operand}
pub use Rattle.rules.specs.declared.Rotation.{Rotation}
pub use Rattle.rules.specs.declared.Rotation.TheVariants.{Degrees0, Degrees90, Degrees180, Degrees270}
pub use Rattle.rules.specs.declared.Path.{Path}
pub use Rattle.rules.specs.declared.Path.TheVariants.{Right, Left, Up, Down}
pub use Rattle.rules.specs.declared.Spacing.{Spacing}
pub use Rattle.rules.specs.declared.Spacing.TheVariants.{One, FiveFourths, ThreeHalves, Proportional}
pub use Rattle.rules.specs.declared.Interrow.{Interrow}
pub use Rattle.rules.specs.declared.Interrow.TheVariants.{OneRow, FiveFourthsRow, ThreeHalvesRow, TwoRows}
pub use Rattle.rules.specs.declared.Moving.{Moving}
pub use Rattle.rules.specs.declared.Moving.TheVariants.{Together, CursorLeads, PointLeads, Independent}
pub use Rattle.rules.specs.declared.Style.{Style}
pub use Rattle.rules.specs.declared.Style.TheVariants.{Underscore, Block, CrossHair, Custom}
pub use Rattle.rules.specs.declared.Settings.{Settings}
pub use Rattle.rules.specs.declared.Pair.{Pair}
pub use Rattle.rules.specs.declared.Pair.TheVariants.{NoPair, Automatic, ReturnSeen, FeedSeen}
pub use Rattle.rules.specs.declared.Text.{Text}
pub use Rattle.rules.specs.declared.Reach.{Reach}
pub use Rattle.rules.specs.declared.FieldBox.{FieldBox}
pub use Rattle.rules.specs.declared.Coordinate.{Coordinate}
pub use Rattle.rules.specs.declared.Pen.{Pen}
pub use Rattle.rules.specs.declared.Due.{Due}
pub use Rattle.rules.specs.declared.Due.TheVariants.{First, Second, Third, Past}
pub use Rattle.rules.specs.declared.Outline.{Outline}
pub use Rattle.rules.specs.declared.Outline.TheVariants.{Line, Polygon}
pub use Rattle.rules.specs.declared.Command.{Command}
pub use Rattle.rules.specs.declared.Domain.{Domain}
pub use Rattle.rules.specs.declared.Mode.{Mode}
pub use Rattle.rules.specs.declared.Mode.TheVariants.{Direct, Mapped, TwoColour}
pub use Rattle.rules.specs.declared.Colour.{Colour}
pub use Rattle.rules.specs.declared.Look.{Look}
pub use Rattle.rules.specs.declared.Drawing.{Drawing}
pub use Rattle.rules.specs.declared.Pattern.{Pattern}
pub use Rattle.rules.specs.declared.Pattern.TheVariants.{A, D, AA, AD, ArcDD, ArcADD, PolygonD, PolygonAD, IncrementalLine, IncrementalPolygon, Domain as Domain·pattern, Text as Text·pattern, SelectColour, SetColour, Skipped}
pub use Rattle.rules.specs.declared.Row.{Row}
pub use Rattle.rules.specs.declared.Role.{Role}
pub use Rattle.rules.specs.declared.Role.TheVariants.{MoveTo, DrawTo, DrawBy, Middle, ArcEnd, Start, Edge, StepSize, LineCodes, PolygonCodes, Lengths, Pel, TextFirst, TextSecond, TextField, TextMore, Foreground, Background, Shade as Shade·role, Dropped}
pub use Rattle.rules.specs.declared.Record.{Record}
pub use Rattle.rules.specs.declared.Refusal.{Refusal}
pub use Rattle.rules.specs.declared.Refusal.TheVariants.{BudgetUsed, ByteOver127, NameBelow, Unsupported, DefinitionInBody, StoreFull, TooDeep, TooManyVertices, EndInside, BodyBytesLeft, StoreSize, OutOfRange, AfterEnd, AddressOver15}
pub use Rattle.rules.specs.declared.Status.{Status}
pub use Rattle.rules.specs.declared.Status.TheVariants.{Running, Ended, Stopped}
pub use Rattle.rules.specs.declared.Session.{Session}
pub use Rattle.rules.specs.declared.Answer.{Answer}
pub use Rattle.rules.specs.declared.Answer.TheVariants.{Done, Full, Refused}
pub use Rattle.rules.specs.declared.Opened.{Opened}
pub use Rattle.rules.specs.declared.Fed.{Fed}
pub use Rattle.rules.specs.declared.Ended.{Ended as Ended·handed}
