-- Laws of calls of empty bodies.
use Rattle.std.specs.Prelude.{◌≤◌}
use Rattle.bodies.specs.Prelude.{◌∙◌, subst, List, ℕ, arith, take, drop}
use Rattle.store.proofs.EachLaws.{first_at, rest_at}
use Rattle.bodies.specs.Calls.{NamesEmpty, CallsEmpty}

-- Calls over a part of the bytes are calls from there on
pub calls_part : (firsts bytes : List ℕ) (from most n : ℕ) → n ≤ most → CallsEmpty firsts (take most (drop from bytes)) 0 n → CallsEmpty firsts bytes from n
calls_part firsts bytes from most n h f i l =
    subst (λ (b : ℕ). NamesEmpty firsts b) (first_at (drop from bytes) most i (omega arith) ∙ rest_at bytes from i) (f i l)
