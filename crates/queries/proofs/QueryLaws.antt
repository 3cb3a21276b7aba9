-- What is unread of a piece; and all that is promised of a colour
use Rattle.std.specs.Prelude.{◌≡◌, ◌-◌, Result}
use Rattle.queries.proofs.Prelude.{refl, sym, ap, ◌∙◌, Bool, true, false, List, ℕ, min, arith, leb, length, take, drop, length-drop, drop_of_length-le, take_all, leb-true, leb-false}
use Rattle.rules.specs.declared.Session.{Session}
use Rattle.rules.specs.declared.Refusal.{Refusal}
use Rattle.rules.specs.Calls.{colour, shade_number, shade_values, unread}
use Rattle.rules.specs.Promises.{Shades}

-- The part of a piece from where it is unread
pub unread_part : (piece : List ℕ) (consumed from : ℕ) → from ≡ min consumed (length piece)
    → take (length piece - from) (drop from piece) ≡ unread piece consumed
unfolding unread
unread_part piece consumed from e =
    take_all (length piece - from) (drop from piece) (omega (arith, length-drop from piece)) ∙ by (leb consumed (length piece)) refl
  where
    by : (t : Bool) → leb consumed (length piece) ≡ t → drop from piece ≡ drop consumed piece
    by true h = let k = leb-true consumed (length piece) h in let i : from ≡ consumed = omega arith in ap (λ (n : ℕ). drop n piece) i
    by false h =
        let k = leb-false consumed (length piece) h in
        drop_of_length-le piece {i = from} (omega arith) ∙ sym (drop_of_length-le piece {i = consumed} (omega arith))

-- The number and the values of a colour follow from the colour; `shade_tells` (rules, Numbers) says that they determine it
pub shades : {s : Session} {address : ℕ} {r : Result (List ℕ) Refusal} → r ≡ colour s address → Shades s address r
shades e = record { number = ap shade_number e; values = ap shade_values e; same = e }
