-- What is in range, part by part
use Rattle.std.specs.List.{list_all}
use Rattle.std.specs.Prelude.{◌≡◌, ◌&&◌, ◌∷◌, leb}
use Rattle.ranges.specs.Prelude.{refl, sym, ap, ◌∙◌, Bool, true, false, List, [], ℕ}
use types.Run.{OneOf, miss}
use denote.Enum.Declared.{tag_of}
use Rattle.rules.specs.contracts.Waiting.{the_type as the-waiting}
use Rattle.rules.specs.declared.Cursor.{Cursor}
use Rattle.rules.specs.declared.Waiting.{Waiting}
use Rattle.rules.specs.declared.Waiting.TheVariants.{Nothing, Shifted, Escape, Designator, Longer, Name, Body, BodyEscape, Row, Column}
use Rattle.rules.specs.Numbers.{most_bytes}
use Rattle.rules.specs.Ranges.{places_fit, waiting_fits}

-- Of two tests the first fails, or the second decides
pub and_first : {r a : Bool} (b : Bool) → r ≡ a → r ≡ false → r ≡ (a && b)
and_first b e h = rw (sym e ∙ h) h

pub and_second : {t r a b : Bool} → t ≡ a → t ≡ true → r ≡ b → r ≡ (a && b)
and_second e h f = rw (sym e ∙ h) f

-- The cursors one by one
pub places_each : (xs : List Cursor) → list_all (λ (x : Cursor). leb x.place most_bytes) xs ≡ places_fit xs
unfolding places_fit
places_each [] = refl
places_each (x ∷ xs) = ap (λ (b : Bool). leb x.place most_bytes && b) (places_each xs)

-- What holds no definition and no row byte is in range
abbrev nothing_held : List ℕ
nothing_held = 0 ∷ 1 ∷ 2 ∷ 3 ∷ 4 ∷ 5 ∷ 8 ∷ []

pub others_fit : (w : Waiting) → OneOf nothing_held (tag_of the-waiting w) → true ≡ waiting_fits w
unfolding waiting_fits
others_fit Nothing h = refl
others_fit (Shifted s) h = refl
others_fit Escape h = refl
others_fit (Designator e) h = refl
others_fit Longer h = refl
others_fit Name h = refl
others_fit (Body d) h = absurd (miss nothing_held 6 tt h)
others_fit (BodyEscape d) h = absurd (miss nothing_held 7 tt h)
others_fit (Row x) h = refl
others_fit (Column x r) h = absurd (miss nothing_held 9 tt h)
