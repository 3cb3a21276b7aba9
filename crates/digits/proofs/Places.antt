-- Text put at a place
use Rattle.std.specs.Prelude.{◌∷◌, ◌++◌, ◌+◌, ◌≤◌, ◌<◌}
use Rattle.digits.specs.Prelude.{refl, sym, ap, ◌∙◌, List, [], ℕ, arith, length, set, length-append}
use Rattle.records.specs.Bytes.{overwrite}
use Rattle.records.proofs.Writes.{stored, then, overwrite_none}
use Rattle.digits.specs.Decimal.{Put}

-- Nothing put
pub nothing : (at : ℕ) (l : List ℕ) → Put at [] l l at
nothing at l = record { text = sym (overwrite_none l at); end = omega arith }

-- A byte stored
pub stored_byte : (b at : ℕ) (l : List ℕ) → at < length l → Put at (b ∷ []) l (set l at b) (at + 1)
stored_byte b at l h = record { text = stored (b ∷ []) l at (omega arith); end = refl }

-- Text put right after other text
pub joined : {at r r' : ℕ} {bs cs l m n : List ℕ} → at ≤ length l
    → Put at bs l m r → Put r cs m n r' → Put at (bs ++ cs) l n r'
joined {at} {r} {r'} {bs} {cs} {l} {m} {n} h p q =
    record {
      text = then l bs cs at h p.text (q.text ∙ ap (λ (i : ℕ). overwrite i cs m) p.end);
      end = simp length-append (omega arith);
    }
