-- Data that makes no operand.
use Rattle.std.specs.Prelude.{◌≡◌}
use Rattle.std.proofs.Common.{ℕ, refl, sym, ◌∙◌, Bool, true, false, []}
use Rattle.rules.specs.declared.Drawing.{Drawing}
use Rattle.rules.specs.declared.Due.{Due}
use Rattle.rules.specs.declared.Due.TheVariants.{First, Second, Third, Past}
use Rattle.rules.specs.declared.Pattern.{Pattern}
use Rattle.rules.specs.declared.Pattern.TheVariants.{A, D, AA, AD, ArcDD, ArcADD, PolygonD, PolygonAD, IncrementalLine, IncrementalPolygon, Domain as Domain·pattern, Text as Text·pattern, SelectColour, SetColour, Skipped}
use Rattle.rules.specs.declared.Role.{Role}
use Rattle.rules.specs.declared.Role.TheVariants.{MoveTo, DrawTo, DrawBy, Middle, ArcEnd, Start, Edge, StepSize, LineCodes, PolygonCodes, Lengths, Pel, TextFirst, TextSecond, TextField, TextMore, Foreground, Background, Shade, Dropped}
use Rattle.rules.specs.Drawing.{role_of, Draw, loose_byte}
use Rattle.rules.proofs.Bools.{true_false}
use Rattle.rules.proofs.DrawingRanges.{nth_all}
use Rattle.outlines.specs.Trails.{IsCodes}

-- Codes are due second and third of an incremental command, and nowhere else
abbrev is_code : Role → Bool
is_code MoveTo = false
is_code DrawTo = false
is_code DrawBy = false
is_code Middle = false
is_code ArcEnd = false
is_code Start = false
is_code Edge = false
is_code StepSize = false
is_code LineCodes = true
is_code PolygonCodes = true
is_code Lengths = false
is_code Pel = false
is_code TextFirst = false
is_code TextSecond = false
is_code TextField = false
is_code TextMore = false
is_code Foreground = false
is_code Background = false
is_code Shade = false
is_code Dropped = false

abbrev None : Role → Type 0
None x = is_code x ≡ false

codes_due : (p : Pattern) (n : Due) → is_code (role_of p n) ≡ true → IsCodes n
unfolding role_of
codes_due A n e = true_false (sym e)
codes_due D n e = true_false (sym e)
codes_due AA n e = true_false (sym e ∙ nth_all None n refl refl refl refl)
codes_due AD n e = true_false (sym e ∙ nth_all None n refl refl refl refl)
codes_due ArcDD n e = true_false (sym e ∙ nth_all None n refl refl refl refl)
codes_due ArcADD n e = true_false (sym e ∙ nth_all None n refl refl refl refl)
codes_due PolygonD n e = true_false (sym e)
codes_due PolygonAD n e = true_false (sym e ∙ nth_all None n refl refl refl refl)
codes_due IncrementalLine First e = true_false (sym e)
codes_due IncrementalLine Second e = refl
codes_due IncrementalLine Third e = refl
codes_due IncrementalLine Past e = true_false (sym e)
codes_due IncrementalPolygon First e = true_false (sym e)
codes_due IncrementalPolygon Second e = refl
codes_due IncrementalPolygon Third e = refl
codes_due IncrementalPolygon Past e = true_false (sym e)
codes_due Domain·pattern n e = true_false (sym e ∙ nth_all None n refl refl refl refl)
codes_due Text·pattern n e = true_false (sym e ∙ nth_all None n refl refl refl refl)
codes_due SelectColour n e = true_false (sym e ∙ nth_all None n refl refl refl refl)
codes_due SetColour n e = true_false (sym e ∙ nth_all None n refl refl refl refl)
codes_due Skipped n e = true_false (sym e)

pub line_due : (p : Pattern) (n : Due) (x : Role) → x ≡ role_of p n → x ≡ LineCodes → IsCodes n
line_due p n x e h = codes_due p n (rw (← e, h))

pub polygon_due : (p : Pattern) (n : Due) (x : Role) → x ≡ role_of p n → x ≡ PolygonCodes → IsCodes n
polygon_due p n x e h = codes_due p n (rw (← e, h))

-- Other data is dropped
pub loose_dropped : (x : Role) (filled : Bool) (b : ℕ) (d : Drawing) → (x ≡ LineCodes → ⊥) → (x ≡ PolygonCodes → ⊥) → loose_byte x filled b d ≡ Draw d []
unfolding loose_byte
loose_dropped MoveTo filled b d h k = refl
loose_dropped DrawTo filled b d h k = refl
loose_dropped DrawBy filled b d h k = refl
loose_dropped Middle filled b d h k = refl
loose_dropped ArcEnd filled b d h k = refl
loose_dropped Start filled b d h k = refl
loose_dropped Edge filled b d h k = refl
loose_dropped StepSize filled b d h k = refl
loose_dropped LineCodes filled b d h k = absurd (h refl)
loose_dropped PolygonCodes filled b d h k = absurd (k refl)
loose_dropped Lengths filled b d h k = refl
loose_dropped Pel filled b d h k = refl
loose_dropped TextFirst filled b d h k = refl
loose_dropped TextSecond filled b d h k = refl
loose_dropped TextField filled b d h k = refl
loose_dropped TextMore filled b d h k = refl
loose_dropped Foreground filled b d h k = refl
loose_dropped Background filled b d h k = refl
loose_dropped Shade filled b d h k = refl
loose_dropped Dropped filled b d h k = refl
