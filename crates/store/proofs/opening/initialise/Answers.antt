use Rattle.store.specs.Prelude.{◌∙◌, ap, ℕ, replicate}
use Rattle.store.proofs.opening.initialise.Goals as goal

pub link-requires : goal.link-requires
link-requires c =
    c.fill.ensures.after (λ y h. h) ∙ ap (λ (n : ℕ). replicate n 0) c.requires
