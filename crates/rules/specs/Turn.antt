-- One turn of a reading: spent bodies removed, the tests in their order, and a step. Every reading, and the expansion, repeats it
use Rattle.rules.specs.Prelude.{ℕ, zero, suc, Bool, true, false, List}
use Rattle.rules.specs.Types.{Record, Refusal, BudgetUsed, OutOfRange, Stopped, Answer, Done, Full, Refused}
use Rattle.rules.specs.Step.{State, with_status, remove_spent, Source, Sought, NothingLeft, Spoilt, Found, seek, Move, Stops, Goes, interpret}

-- An accepted step: its byte and where it came from, what is left of the piece, the state after it, and its records
pub record Taken : Type 0 where
  pub byte : ℕ
  pub source : Source
  pub rest : List ℕ
  pub after : State
  pub records : List Record

-- A turn with so much left of the budget ends the reading with an answer, or takes a step. No step is taken once the budget is used
pub data Turn : ℕ → Type 0 where
  Ends : {n : ℕ} → Answer → State → Turn n
  Takes : {n : ℕ} → Taken → Turn (suc n)

-- "A refused step changes nothing but the stop." "A 13 met inside a step stops the session like 2 to 10, with the counts so far; .."
abbrev pub stopped : {n : ℕ} → Refusal → State → Turn n
stopped r w = Ends (Refused r) (with_status (Stopped r) w)

unfoldable pub on_move : {n : ℕ} → Move → ℕ → Source → List ℕ → State → Turn (suc n)
on_move (Stops r) b s bs w = stopped r w
on_move (Goes u rs) b s bs w = Takes (record { byte = b; source = s; rest = bs; after = u; records = rs })

-- "Before each step, in this order: nothing left, answer done; fewer than 120 bytes free in the output, answer full; budget used, refuse;
-- .." 13 in a step ".. comes after 2 and before 3 for a cell read, .."
unfoldable pub on_sought : Bool → (n : ℕ) → Sought → State → Turn n
on_sought full n NothingLeft w = Ends Done w
on_sought true n Spoilt w = Ends Full w
on_sought true n (Found b v s bs) w = Ends Full w
on_sought false zero Spoilt w = stopped BudgetUsed w
on_sought false zero (Found b v s bs) w = stopped BudgetUsed w
on_sought false (suc n) Spoilt w = stopped OutOfRange w
on_sought false (suc n) (Found b v s bs) w = on_move (interpret v s b) b s bs w

-- "Removal comes before the checks and stands whatever they answer." `full` tells that the output has no room for a step
unfoldable pub turn : Bool → (n : ℕ) → State → List ℕ → Turn n
turn full n w bs = on_sought full n (seek (remove_spent w) bs) (remove_spent w)

-- The end of a reading that has no step left
unfoldable pub at_end : {A : Type 0} → Turn zero → (Answer → State → A) → A
at_end (Ends a w) ends = ends a w

-- and of one that may take a step
unfoldable pub on_turn : {A : Type 0} {n : ℕ} → Turn (suc n) → (Answer → State → A) → (Taken → A) → A
on_turn (Ends a w) ends takes = ends a w
on_turn (Takes t) ends takes = takes t

-- The definitions of this file, unfolded where a reading is computed
unfoldable pub turn_rules : Unit {0}
unfolding on_move on_sought turn at_end on_turn
turn_rules = tt
