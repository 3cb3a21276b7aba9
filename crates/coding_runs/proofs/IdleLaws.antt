-- Runs of idle bytes, from what the calls hand back.
use Rattle.std.specs.Prelude.{◌≡◌, ◌⊎◌, ◌+◌, ◌≤◌}
use Rattle.coding_runs.specs.Prelude.{refl, sym, ap, ◌∙◌, true, false, List, inl, inr, ℕ, zero, suc, arith, le-ltb, ne_eqb, get_or}
use Rattle.rules.proofs.Bools.{true_false, false_true}
use Rattle.rules.proofs.CodingRanges.{ReactionFits, react_fits}
use Rattle.rules.specs.declared.Action.{Action}
use Rattle.rules.specs.declared.Action.TheVariants.{Idle as Idle·action, Close, Control, Cancel, Format, Reset, Position, Character, Opcode, Data}
use Rattle.rules.specs.declared.Coding.{Coding}
use Rattle.rules.specs.declared.Sets.{Sets}
use Rattle.rules.specs.declared.Waiting.{Waiting}
use Rattle.rules.specs.declared.Waiting.TheVariants.{Body}
use Rattle.rules.specs.Numbers.{esc}
use Rattle.rules.specs.Coding.{React, keep, in_body, react_to, react}
use Rattle.rules.specs.Ranges.{waiting_fits}
use Rattle.rules.specs.Store.{Filling}
use Rattle.store.specs.Each.{none, more}
use Rattle.store.specs.Runs.{StoresByte, Stores}
use Rattle.store.proofs.EachLaws.{each_as}
use Rattle.coding_runs.specs.Idle.{Coded, coded, IdleByte, Idle, idle_action, idle_effect}
use Rattle.reactions.specs.View.{coding_of, effect_on, sets_after, reaction_of, AsLentBy, AsLent}
use Rattle.reactions.specs.declared.Effect.{Effect}
use Rattle.reactions.specs.declared.Effect.TheVariants.{Calls, Acts, Uses, Designates}
use Rattle.reactions.specs.declared.Reacted.{Reacted}
use Rattle.coding.proofs.EffectLaws.{act_kept}

-- What is waited for stays in range; a run of no byte changes nothing
module _ (bytes : List ℕ) (from : ℕ) (x : Coded) where
  pub idle_fits : (n : ℕ) (y : Coded) → Idle bytes from x n y → waiting_fits x.coding.waiting ≡ true → waiting_fits y.coding.waiting ≡ true
  idle_fits zero y none k = k
  idle_fits (suc n) y (more {y = v} d e) k =
      let fits : ReactionFits v.store (React y.coding y.store Idle·action) = rw e at (react_fits v.coding v.store (get_or bytes (from + n) 0) (idle_fits n v d k)) in
      fits.2

  idle_none : (n : ℕ) (y : Coded) → n ≤ 0 → Idle bytes from x n y → y ≡ x
  idle_none zero y h none = refl
  idle_none (suc n) y h (more d e) = absurd (omega arith)

pub idle_still : (bytes rest : List ℕ) (from at n m : ℕ) (x : Coded) (s : Sets) (w w₁ : Waiting) (f f₁ st st₁ : List ℕ) → m ≤ 0
    → Idle rest at (coded (coding_of s w f) st) m (coded (coding_of s w₁ f₁) st₁)
    → Idle bytes from x n (coded (coding_of s w f) st) → Idle bytes from x n (coded (coding_of s w f₁) st₁)
idle_still bytes rest from at n m x s w w₁ f f₁ st st₁ h d r =
    let e = idle_none rest at (coded (coding_of s w f) st) m (coded (coding_of s w₁ f₁) st₁) h d in
    rw (ap (λ (y : Coded). y.coding.firsts) e, ap (λ (y : Coded). y.store) e) r

-- A run of bytes that a definition stores
module _ (s : Sets) where
  abbrev within : Filling → Coded
  within f = coded (coding_of s (Body f.definition) f.firsts) f.store

  body_idle : (b : ℕ) (f g : Filling) → StoresByte b f g → IdleByte b (within f) (within g)
  unfolding react react_to in_body keep
  body_idle b f g h = rw (le-ltb 127 b h.0.0, ne_eqb b esc h.0.1, h.1)

  pub stores_idle : (bytes : List ℕ) (from n : ℕ) (f g : Filling) → Stores bytes from f n g → Idle bytes from (within f) n (within g)
  stores_idle = each_as within body_idle

-- Which actions and effects are idle
idle_action_lem : (a : Action) → idle_action a ≡ true → a ≡ Idle·action
unfolding idle_action
idle_action_lem Idle·action h = refl
idle_action_lem Close h = false_true h
idle_action_lem (Control b) h = false_true h
idle_action_lem (Cancel b) h = false_true h
idle_action_lem (Format f b) h = false_true h
idle_action_lem (Reset b) h = false_true h
idle_action_lem (Position x r c) h = false_true h
idle_action_lem (Character x b) h = false_true h
idle_action_lem (Opcode b) h = false_true h
idle_action_lem (Data b) h = false_true h

idle_effect_lem : (x : Effect) (c : Coding) (st : List ℕ) → idle_effect x ≡ true → effect_on x c st ≡ React c st Idle·action
unfolding idle_effect
idle_effect_lem (Calls n) c st h = false_true h
idle_effect_lem (Acts a) c st h = ap (React c st) (idle_action_lem a h)
idle_effect_lem (Uses e) c st h = refl
idle_effect_lem (Designates e x) c st h = refl

-- A byte that is idle, and one that is not
module _ (s : Sets) (w : Waiting) (f st : List ℕ) (b : ℕ) (r : Reacted) (f₁ st₁ : List ℕ) (e : reaction_of s r f₁ st₁ ≡ react (coding_of s w f) st b) where
  abbrev after : Coding
  after = coding_of (sets_after r.effect s) r.waiting f₁

  pub idle_reacts : idle_effect r.effect ≡ true → react (coding_of s w f) st b ≡ React after st₁ Idle·action
  idle_reacts h = sym e ∙ idle_effect_lem r.effect after st₁ h

  pub busy_keeps : idle_effect r.effect ≡ false → (AsLent r f f₁) × (AsLent r st st₁) → (f₁ ≡ f) × (st₁ ≡ st)
  unfolding idle_effect idle_action
  busy_keeps h k = by r.effect refl h k
    where
      acts : (a : Action) → idle_action a ≡ false → ((f₁ ≡ f) × (st₁ ≡ st)) ⊎ (a ≡ Idle·action) → (f₁ ≡ f) × (st₁ ≡ st)
      acts a n (inl p) = p
      acts a n (inr q) = true_false (rw q at n)

      by : (x : Effect) → r.effect ≡ x → idle_effect x ≡ false → (AsLentBy x f f₁) × (AsLentBy x st st₁) → (f₁ ≡ f) × (st₁ ≡ st)
      by (Calls m) q n p = p
      by (Acts a) q n p = acts a n (act_kept (coding_of s w f) st b r f₁ st₁ e a q)
      by (Uses x) q n p = p
      by (Designates x y) q n p = p
