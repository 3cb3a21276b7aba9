-- What the functions of the coding layer are handed and answer, as the rules have it
use Rattle.std.specs.Prelude.{◌≡◌, Result, Ok, Err}
use Rattle.reactions.specs.Prelude.{ℕ, List}
use Rattle.rules.specs.declared.Refusal.{Refusal}
use Rattle.rules.specs.declared.Set.{Set}
use Rattle.rules.specs.declared.Sets.{Sets}
use Rattle.rules.specs.declared.Waiting.{Waiting}
use Rattle.rules.specs.declared.Waiting.TheVariants.{Nothing}
use Rattle.rules.specs.declared.Class.{Class}
use Rattle.rules.specs.declared.Class.TheVariants.{Below, Column2, Above}
use Rattle.rules.specs.declared.Action.{Action}
use Rattle.rules.specs.declared.Action.TheVariants.{Idle, Close, Control, Cancel, Format, Reset, Position, Character, Opcode, Data}
use Rattle.rules.specs.declared.Coding.{Coding}
use Rattle.rules.specs.Coding.{Reaction, Refuse, Call, React, in_use, designate, wait, fresh_sets, control, graphic}
use Rattle.reactions.specs.declared.Effect.{Effect}
use Rattle.reactions.specs.declared.Effect.TheVariants.{Calls, Acts, Uses, Designates}
use Rattle.reactions.specs.declared.Reacted.{Reacted}

-- The state in the parts that functions take, the first cells lent beside them
abbrev pub coding_of : Sets → Waiting → List ℕ → Coding
coding_of s w f = record { sets = s; waiting = w; firsts = f }

-- An effect with the state and the store left
abbrev pub effect_on : Effect → Coding → List ℕ → Reaction
effect_on (Calls n) c st = Call c n
effect_on (Acts a) c st = React c st a
effect_on (Uses e) c st = React c st Idle
effect_on (Designates e x) c st = React c st Idle

-- Of the actions NSR's alone resets the sets
abbrev pub reset_sets : Action → Sets → Sets
reset_sets Idle s = s
reset_sets Close s = s
reset_sets (Control b) s = s
reset_sets (Cancel b) s = s
reset_sets (Format f b) s = s
reset_sets (Reset b) s = fresh_sets
reset_sets (Position x r c) s = s
reset_sets (Character x b) s = s
reset_sets (Opcode b) s = s
reset_sets (Data b) s = s

-- The sets after an effect
abbrev pub sets_after : Effect → Sets → Sets
sets_after (Calls n) s = s
sets_after (Acts a) s = reset_sets a s
sets_after (Uses e) s = in_use e s
sets_after (Designates e x) s = designate e x s

-- An answer, for the sets before it, with the first cells and the store left
abbrev pub reaction_of : Sets → Reacted → List ℕ → List ℕ → Reaction
reaction_of s r f st = effect_on r.effect (coding_of (sets_after r.effect s) r.waiting f) st

-- or a refusal
abbrev pub answer_of : Sets → Result Reacted Refusal → List ℕ → List ℕ → Reaction
answer_of s (Ok r) f st = reaction_of s r f st
answer_of s (Err x) f st = Refuse x

-- A call changes nothing of first cells and store, and neither does an element put in use or a set designated: what is left is what was lent
abbrev pub AsLentBy : Effect → List ℕ → List ℕ → Type 0
AsLentBy (Calls n) lent left = left ≡ lent
AsLentBy (Acts a) lent left = Unit
AsLentBy (Uses e) lent left = left ≡ lent
AsLentBy (Designates e x) lent left = left ≡ lent

abbrev pub AsLent : Reacted → List ℕ → List ℕ → Type 0
AsLent r lent left = AsLentBy r.effect lent left

-- A byte that is read from a set
unfoldable pub read_from : Set → Class → Coding → List ℕ → ℕ → Reaction
read_from x (Below k) c st b = control k (wait Nothing c) st b
read_from x Column2 c st b = graphic x (wait Nothing c) st b
read_from x Above c st b = graphic x (wait Nothing c) st b
