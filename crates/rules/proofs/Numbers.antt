-- A number determines its answer: different answers have different numbers
use Rattle.std.specs.Prelude.{◌≡◌, ◌∷◌}
use Rattle.rules.specs.Prelude.{ℕ, sym, refl, ap, ◌∙◌, List, [], get_or}
use Rattle.rules.specs.Types.{BudgetUsed, ByteOver127, NameBelow, Unsupported, DefinitionInBody, StoreFull, TooDeep}
use Rattle.rules.specs.Types.{TooManyVertices, EndInside, BodyBytesLeft, StoreSize, OutOfRange, AfterEnd, AddressOver15}
use Rattle.rules.specs.Types.{Answer, Done, Full, Refused, Refusal, Result, Ok, Err}
use Rattle.rules.specs.Calls.{refusal_number, number_of, shade_number, shade_values}

-- The answers, each at its number
abbrev answers : List Answer
answers =
    Done ∷ Full
    ∷ Refused BudgetUsed ∷ Refused ByteOver127 ∷ Refused NameBelow ∷ Refused Unsupported ∷ Refused DefinitionInBody
    ∷ Refused StoreFull ∷ Refused TooDeep ∷ Refused TooManyVertices ∷ Refused EndInside ∷ Refused BodyBytesLeft
    ∷ Refused StoreSize ∷ Refused OutOfRange ∷ Refused AfterEnd ∷ Refused AddressOver15 ∷ []

answer_at : (a : Answer) → get_or answers (number_of a) Done ≡ a
unfolding number_of refusal_number
answer_at Done = refl
answer_at Full = refl
answer_at (Refused BudgetUsed) = refl
answer_at (Refused ByteOver127) = refl
answer_at (Refused NameBelow) = refl
answer_at (Refused Unsupported) = refl
answer_at (Refused DefinitionInBody) = refl
answer_at (Refused StoreFull) = refl
answer_at (Refused TooDeep) = refl
answer_at (Refused TooManyVertices) = refl
answer_at (Refused EndInside) = refl
answer_at (Refused BodyBytesLeft) = refl
answer_at (Refused StoreSize) = refl
answer_at (Refused OutOfRange) = refl
answer_at (Refused AfterEnd) = refl
answer_at (Refused AddressOver15) = refl

pub number_tells : (a b : Answer) → number_of a ≡ number_of b → a ≡ b
number_tells a b e = sym (answer_at a) ∙ ap (λ (n : ℕ). get_or answers n Done) e ∙ answer_at b

-- The same of colour: its number, and G, R, B
pub shade_tells : (s t : Result (List ℕ) Refusal) → shade_number s ≡ shade_number t → shade_values s ≡ shade_values t → s ≡ t
unfolding shade_number shade_values number_of
shade_tells (Ok v) (Ok w) e f = ap Ok f
shade_tells (Ok v) (Err r) e f = let h : Done ≡ Refused r = number_tells Done (Refused r) e in cc
shade_tells (Err r) (Ok v) e f = let h : Refused r ≡ Done = number_tells (Refused r) Done e in cc
shade_tells (Err r) (Err q) e f = let h : Refused r ≡ Refused q = number_tells (Refused r) (Refused q) e in cc
