-- Only a byte below 2/0 has the class of a control, the one at its place
use Rattle.std.specs.Prelude.{◌<◌, ◌≡◌}
use Rattle.tables.proofs.Prelude.{ℕ, refl, sym, ap, ◌∙◌, Bool, true, false, get_or, ltb, ltb-true}
use Rattle.rules.specs.declared.Class.{Class}
use Rattle.rules.specs.declared.Class.TheVariants.{Below, Column2, Above}
use Rattle.rules.specs.declared.Control.{Control}
use Rattle.rules.specs.declared.Control.TheVariants.{Ignored}
use Rattle.rules.specs.Coding.{controls, class_of}
use Rattle.rules.proofs.Bools.{true_false, by_test, pick_yes, pick_no, pick_all}

abbrev is_below : Class → Bool
is_below (Below k) = true
is_below Column2 = false
is_below Above = false

abbrev control_of : Class → Control
control_of (Below k) = k
control_of Column2 = Ignored
control_of Above = Ignored

pub below_control : (b : ℕ) (k : Control) → Below k ≡ class_of b → (b < 32) × (get_or controls b Ignored ≡ k)
unfolding class_of
below_control b k e =
    by_test (ltb b 32)
    (λ h. (ltb-true b 32 h, sym (ap control_of (e ∙ pick_yes _ _ h))))
    (λ h. true_false (ap is_below (e ∙ pick_no _ _ h) ∙ pick_all (λ (z : Class). is_below z ≡ false) (ltb b 48) refl refl))
