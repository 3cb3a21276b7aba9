-- A definition: what a function answers, from what its calls hand back.
use Rattle.std.specs.Prelude.{◌≡◌, ◌<◌, ◌≤◌}
use Rattle.coding.specs.Prelude.{refl, Bool, true, false, List, ℕ, lt-ltb, le-ltb, ltb}
use Rattle.rules.specs.declared.Class.TheVariants.{Column2, Above}
use Rattle.rules.specs.declared.Refusal.TheVariants.{NameBelow}
use Rattle.rules.specs.declared.Waiting.TheVariants.{Name}
use Rattle.rules.specs.declared.Coding.{Coding}
use Rattle.rules.specs.Choice.{pick}
use Rattle.rules.specs.Coding.{Refuse, open_body, class_of, react_to}

-- The name: below 2/0, and from there on
module _ (c : Coding) (st : List ℕ) (b : ℕ) where
  pub name_below : b < 32 → Refuse NameBelow ≡ react_to Name (class_of b) c st b
  unfolding react_to class_of
  name_below h = rw (lt-ltb b 32 h)

  pub name_above : 32 ≤ b → react_to Name (class_of b) c st b ≡ open_body b c st
  unfolding react_to class_of
  name_above h = rw (le-ltb b 32 h) (by (ltb b 48))
    where
      by : (t : Bool) → react_to Name (pick t Column2 Above) c st b ≡ open_body b c st
      by true = refl
      by false = refl
