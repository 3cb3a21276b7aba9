-- What the step around the coding layer leans on: only a byte that asks nothing of drawing changes first cells or store, so that a
-- refusal by drawing has none to undo; and a call's name is the byte, 2/0 to 7/15, so that it has a first cell.
use Rattle.std.specs.Prelude.{◌≡◌, ◌⊎◌, ◌≤◌, Option, Some, None}
use Rattle.coding.specs.Prelude.{refl, Bool, true, false, List, inl, inr, ℕ, ltb-false, ltb, eqb}
use Rattle.rules.proofs.Bools.{pick_all, pick_by}
use Rattle.rules.specs.declared.Action.{Action}
use Rattle.rules.specs.declared.Action.TheVariants.{Idle, Position}
use Rattle.rules.specs.declared.Class.{Class}
use Rattle.rules.specs.declared.Class.TheVariants.{Below, Column2, Above}
use Rattle.rules.specs.declared.Coding.{Coding}
use Rattle.rules.specs.declared.Control.{Control}
use Rattle.rules.specs.declared.Control.TheVariants.{Ignored, Locks, Shifts, Escapes, Recorded, Cancels, Formats, Positions}
use Rattle.rules.specs.declared.Definition.{Definition}
use Rattle.rules.specs.declared.Element.{Element}
use Rattle.rules.specs.declared.Final.{Final}
use Rattle.rules.specs.declared.Final.TheVariants.{Opens, Refuses, UsesG2, UsesG3, Closes, NoMeaning}
use Rattle.rules.specs.declared.Inner.{Inner}
use Rattle.rules.specs.declared.Inner.TheVariants.{OpensNext, Bars, EndsBody, StartsAfresh, StoresBoth}
use Rattle.rules.specs.declared.Set.{Set}
use Rattle.rules.specs.declared.Set.TheVariants.{Characters, Pdi, Macro}
use Rattle.rules.specs.declared.Waiting.{Waiting}
use Rattle.rules.specs.declared.Waiting.TheVariants.{Nothing, Shifted, Escape, Designator, Longer, Name, Body, BodyEscape, Row, Column}
use Rattle.rules.specs.Numbers.{esc}
use Rattle.rules.specs.Store.{first_of, Freeing, NotFreed, Freed, free_body, Storing, NotStored, Stored, store_byte, store_escape_and}
use Rattle.rules.specs.Coding.{Reaction, Refuse, Call, React, set_of, shifted_to, wait, named, open_body, keep, filling, in_body, inner_of, in_body_escape, final_of, escape, designated_by, designation, control, address_byte, graphic, class_of, react_to, react}
use Rattle.store.specs.Lent.{IsName}
use Rattle.reactions.specs.View.{coding_of, effect_on, sets_after, reaction_of}
use Rattle.reactions.specs.declared.Effect.{Effect}
use Rattle.reactions.specs.declared.Effect.TheVariants.{Calls, Acts}
use Rattle.reactions.specs.declared.Reacted.{Reacted}

-- Of the reaction to byte b in the state c with the store st
abbrev pub Told : Coding → List ℕ → ℕ → Reaction → Type 0
Told c st b (Refuse r) = Unit
Told c st b (Call c₁ n) = (n ≡ b) × (IsName n)
Told c st b (React c₁ st₁ a) = ((c₁.firsts ≡ c.firsts) × (st₁ ≡ st)) ⊎ (a ≡ Idle)

-- A byte that is no control is a name
abbrev Graphic : Class → ℕ → Type 0
Graphic (Below k) b = Unit
Graphic Column2 b = IsName b
Graphic Above b = IsName b

class_graphic : (b : ℕ) → b ≤ 127 → Graphic (class_of b) b
unfolding class_of
class_graphic b h =
    pick_by (λ k. Graphic k b) (ltb b 32) (λ e. tt)
    (λ e. pick_all (λ k. Graphic k b) (ltb b 48) (ltb-false b 32 e, h) (ltb-false b 32 e, h))

module _ (c : Coding) (st : List ℕ) (b : ℕ) where
  control_told : (k : Control) → Told c st b (control k (wait Nothing c) st b)
  unfolding control
  control_told Ignored = inl (refl, refl)
  control_told (Locks e) = inl (refl, refl)
  control_told (Shifts s) = inl (refl, refl)
  control_told Escapes = inl (refl, refl)
  control_told Recorded = inl (refl, refl)
  control_told Cancels = inl (refl, refl)
  control_told (Formats f) = inl (refl, refl)
  control_told (Positions x) = inl (refl, refl)

  -- A row or column byte is refused or leaves them as they are
  address_told : (w : Waiting) (a : Action) → Told c st b (address_byte b (React (wait w c) st a))
  unfolding address_byte
  address_told w a = pick_all (Told c st b) (ltb b 64) tt (inl (refl, refl))

  graphic_told : (x : Set) → IsName b → Told c st b (graphic x (wait Nothing c) st b)
  unfolding graphic
  graphic_told (Characters x) h = inl (refl, refl)
  graphic_told Pdi h = inl (refl, refl)
  graphic_told Macro h = (refl, h)

  escape_told : (x : Final) → Told c st b (escape x (wait Nothing c) st)
  unfolding escape
  escape_told Opens = inl (refl, refl)
  escape_told Refuses = tt
  escape_told UsesG2 = inl (refl, refl)
  escape_told UsesG3 = inl (refl, refl)
  escape_told Closes = inl (refl, refl)
  escape_told NoMeaning = inl (refl, refl)

  designation_told : (x : Option Set) (e : Element) → Told c st b (designation x e (wait Nothing c) st)
  unfolding designation
  designation_told (Some x) e = inl (refl, refl)
  designation_told None e = inl (refl, refl)

  named_told : (x : Freeing) → Told c st b (named x b c)
  unfolding named
  named_told (NotFreed r) = tt
  named_told (Freed st₁) = inr refl

  keep_told : (w : Definition → Waiting) (x : Storing) → Told c st b (keep w x c)
  unfolding keep
  keep_told w (NotStored r) = tt
  keep_told w (Stored f) = inr refl

  body_told : (t : Bool) (d : Definition) → Told c st b (in_body t d c st b)
  unfolding in_body
  body_told true d = inl (refl, refl)
  body_told false d = keep_told Body (store_byte (filling d c st) b)

  inner_told : (x : Inner) (d : Definition) → Told c st b (in_body_escape x d c st b)
  unfolding in_body_escape
  inner_told OpensNext d = inl (refl, refl)
  inner_told Bars d = tt
  inner_told EndsBody d = inl (refl, refl)
  inner_told StartsAfresh d = keep_told BodyEscape (store_byte (filling d c st) esc)
  inner_told StoresBoth d = keep_told Body (store_escape_and (filling d c st) b)

  waiting_told : (w : Waiting) (k : Class) → Graphic k b → Told c st b (react_to w k c st b)
  unfolding react_to open_body
  waiting_told Nothing (Below k) h = control_told k
  waiting_told Nothing Column2 h = graphic_told (set_of c.sets.used c.sets) h
  waiting_told Nothing Above h = graphic_told (set_of c.sets.used c.sets) h
  waiting_told (Shifted s) (Below k) h = control_told k
  waiting_told (Shifted s) Column2 h = graphic_told (set_of (shifted_to s) c.sets) h
  waiting_told (Shifted s) Above h = graphic_told (set_of (shifted_to s) c.sets) h
  waiting_told Escape (Below k) h = control_told k
  waiting_told Escape Column2 h = inl (refl, refl)
  waiting_told Escape Above h = escape_told (final_of b)
  waiting_told (Designator e) (Below k) h = control_told k
  waiting_told (Designator e) Column2 h = inl (refl, refl)
  waiting_told (Designator e) Above h = designation_told (designated_by b) e
  waiting_told Longer (Below k) h = control_told k
  waiting_told Longer Column2 h = inl (refl, refl)
  waiting_told Longer Above h = inl (refl, refl)
  waiting_told Name (Below k) h = tt
  waiting_told Name Column2 h = named_told (free_body (first_of c.firsts b) st)
  waiting_told Name Above h = named_told (free_body (first_of c.firsts b) st)
  waiting_told (Body d) k h = body_told (eqb b esc) d
  waiting_told (BodyEscape d) k h = inner_told (inner_of b) d
  waiting_told (Row x) k h = address_told (Column x b) Idle
  waiting_told (Column x r) k h = address_told Nothing (Position x r b)

  pub told : Told c st b (react c st b)
  unfolding react
  told =
      pick_by (Told c st b) (ltb 127 b) (λ e. tt)
      (λ e. waiting_told c.waiting (class_of b) (class_graphic b (ltb-false 127 b e)))

  -- The same of what the code answers
  module _ (r : Reacted) (f₁ st₁ : List ℕ) (e : reaction_of c.sets r f₁ st₁ ≡ react c st b) where
    told_by : (x : Effect) → r.effect ≡ x → Told c st b (effect_on x (coding_of (sets_after r.effect c.sets) r.waiting f₁) st₁)
    told_by x q = by r.effect (coding_of (sets_after r.effect c.sets) r.waiting f₁) (rw (← e) at told) q
      where
        by : (y : Effect) (c₁ : Coding) → Told c st b (effect_on y c₁ st₁) → y ≡ x → Told c st b (effect_on x c₁ st₁)
        by y c₁ h p = rw p at h

    pub call_name : (n : ℕ) → r.effect ≡ Calls n → (n ≡ b) × (IsName n)
    call_name n q = told_by (Calls n) q

    pub act_kept : (a : Action) → r.effect ≡ Acts a → ((f₁ ≡ c.firsts) × (st₁ ≡ st)) ⊎ (a ≡ Idle)
    act_kept a q = told_by (Acts a) q
