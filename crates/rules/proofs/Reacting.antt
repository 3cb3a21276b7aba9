-- What a byte does where nothing is waited for: it is read from the set in use, or is a control
use Rattle.std.specs.Prelude.{◌≤◌, ◌<◌, ◌≡◌}
use Rattle.rules.specs.Prelude.{ℕ, sym, ap, ◌∙◌, Bool, true, false, List, get_or, ltb, lt-ltb, le-ltb}
use Rattle.rules.specs.Types.{Class, Column2, Above, Coding, Ignored, Waiting, Nothing}
use Rattle.rules.specs.Choice.{pick}
use Rattle.rules.specs.Coding.{wait, set_of, controls, control, graphic, class_of, react_to, react}
use Rattle.rules.specs.Operands.{is_data}
use Rattle.rules.proofs.Bools.{pick_yes, pick_no}
use Rattle.rules.proofs.Spans.{least, most}

-- A byte up to 127 where nothing is waited for
module _ (b : ℕ) (most : b ≤ 127) (c : Coding) (st : List ℕ) (w : c.waiting ≡ Nothing) where
  resting : wait Nothing c ≡ c
  resting =
      let e = sym w in
      λ i. record { sets = c.sets; waiting = e i; firsts = c.firsts }

  by_class : {k : Class} → class_of b ≡ k → react c st b ≡ react_to Nothing k c st b
  unfolding react
  by_class e =
      pick_no _ _ (le-ltb 127 b most)
      ∙ ap (λ (x : Waiting). react_to x (class_of b) c st b) w
      ∙ ap (λ (k : Class). react_to Nothing k c st b) e

  pub from_set : 32 ≤ b → react c st b ≡ graphic (set_of c.sets.used c.sets) c st b
  unfolding class_of react_to
  from_set least = by_class (pick_no _ _ (le-ltb b 32 least)) ∙ by (ltb b 48)
    where
      by : (t : Bool) → react_to Nothing (pick t Column2 Above) c st b ≡ graphic (set_of c.sets.used c.sets) c st b
      by true = ap (λ (x : Coding). graphic (set_of c.sets.used c.sets) x st b) resting
      by false = ap (λ (x : Coding). graphic (set_of c.sets.used c.sets) x st b) resting

  pub from_controls : b < 32 → react c st b ≡ control (get_or controls b Ignored) c st b
  unfolding class_of react_to
  from_controls h =
      by_class (pick_yes _ _ (lt-ltb b 32 h)) ∙ ap (λ (x : Coding). control (get_or controls b Ignored) x st b) resting

-- A data byte
pub data_range : (b : ℕ) → is_data b ≡ true → (64 ≤ b) × (b ≤ 127)
unfolding is_data
data_range b e = (least 64 b 127 e, most 64 b 127 e)
