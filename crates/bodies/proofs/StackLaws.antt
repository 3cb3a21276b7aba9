-- Laws of the stack of bodies.
use Rattle.std.specs.Prelude.{◌≡◌, ◌-◌, ◌<◌, ◌≤◌}
use Rattle.bodies.specs.Prelude.{refl, sym, ap, ◌∙◌, Bool, true, false, List, ℕ, zero, suc, not-suc-le-zero, sub-one}
use Rattle.rules.specs.declared.Bodies.{Bodies}
use Rattle.rules.specs.Choice.{pick}
use Rattle.rules.specs.Bodies.{body_at, has_left, depth_left}
use Rattle.rules.proofs.Bools.{pick_yes, pick_no}

-- Removal: no body is left, the innermost has bytes left, it has none
module _ (st : List ℕ) (y : Bodies) where
  pub left_none : (d : ℕ) → d ≤ 0 → depth_left st y d ≡ 0
  unfolding depth_left
  left_none zero h = refl
  left_none (suc d) h = absurd (not-suc-le-zero h)

  left_at : (d : ℕ) → 0 < d → depth_left st y d ≡ pick (has_left st (body_at y (d - 1))) d (depth_left st y (d - 1))
  unfolding depth_left
  left_at zero h = absurd (not-suc-le-zero h)
  left_at (suc d) h = rw sub-one

  module _ (d : ℕ) (some : 0 < d) {r : Bool} (f : r ≡ has_left st (body_at y (d - 1))) where
    left_by : depth_left st y d ≡ pick r d (depth_left st y (d - 1))
    left_by = left_at d some ∙ ap (λ (t : Bool). pick t d (depth_left st y (d - 1))) (sym f)

    pub left_here : r ≡ true → depth_left st y d ≡ d
    left_here t = left_by ∙ pick_yes d _ t

    pub left_below : r ≡ false → depth_left st y d ≡ depth_left st y (d - 1)
    left_below t = left_by ∙ pick_no d _ t
