-- What an answer keeps of the first cells and of the store.
use Rattle.reactions.specs.Prelude.{refl, List, ℕ}
use Rattle.reactions.specs.View.{AsLentBy, AsLent}
use Rattle.reactions.specs.declared.Effect.{Effect}
use Rattle.reactions.specs.declared.Effect.TheVariants.{Calls, Acts, Uses, Designates}
use Rattle.reactions.specs.declared.Reacted.{Reacted}

same_as_lent : (e : Effect) (l : List ℕ) → AsLentBy e l l
same_as_lent (Calls n) l = refl
same_as_lent (Acts a) l = tt
same_as_lent (Uses e) l = refl
same_as_lent (Designates e x) l = refl

pub unchanged : (r : Reacted) (f st : List ℕ) → (AsLent r f f) × (AsLent r st st)
unchanged r f st = (same_as_lent r.effect f, same_as_lent r.effect st)
