-- The first eight bytes of a record as two numbers
use Rattle.std.specs.Prelude.{◌≡◌, ◌∷◌, ◌++◌}
use Rattle.records.specs.Prelude.{ap, ◌∙◌, List, [], ℕ, arith, set}
use Rattle.std.specs.Int.{w32, from_le_bytes}
use Rattle.std.proofs.lemmas.Nat.{le_bytes_4}
use Rattle.std.specs.Prelude.{◌<◌, refl, zero, suc, get_or}
use Rattle.rules.specs.declared.Look.{Look}
use Rattle.rules.specs.declared.Point.{Point}
use Rattle.rules.specs.declared.Record.{Record}
use Rattle.rules.specs.Record.{word, words, bytes_of, record_of}
use Rattle.records.specs.declared.Head.{Head}
use Rattle.records.specs.Bytes.{head_of, head_bytes}

-- Four bytes as a number
pub joined : (a b c d n : ℕ) → a < 256 → b < 256 → c < 256 → d < 256 → n ≡ from_le_bytes w32 (a ∷ b ∷ c ∷ d ∷ []) → word n ≡ a ∷ b ∷ c ∷ d ∷ []
unfolding word
joined a b c d n ha hb hc hd e = le_bytes_4 (a ∷ b ∷ c ∷ d ∷ []) n refl fits e
  where
    fits : (i : ℕ) → get_or (a ∷ b ∷ c ∷ d ∷ []) i 0 < 256
    fits zero = ha
    fits (suc zero) = hb
    fits (suc (suc zero)) = hc
    fits (suc (suc (suc zero))) = hd
    fits (suc (suc (suc (suc i)))) = omega arith

-- A record's bytes, its head known as numbers
pub record_bytes : (r : Record) (h : Head) → head_bytes h ≡ head_of r → head_bytes h ++ words r.p0 ++ words r.p1 ++ words r.p2 ++ words r.pel ≡ bytes_of r
unfolding bytes_of
record_bytes r h e = ap (λ (bs : List ℕ). bs ++ words r.p0 ++ words r.p1 ++ words r.p2 ++ words r.pel) e

-- A head with another code
pub head_code : (g h : Head) (l : Look) (kind flags set' old code : ℕ) (p q r : Point)
    → head_bytes h ≡ head_of (record_of l kind flags set' old p q r)
    → head_bytes g ≡ set (head_bytes h) 7 code
    → head_bytes g ≡ head_of (record_of l kind flags set' code p q r)
unfolding record_of
head_code g h l kind flags set' old code p q r e f = f ∙ ap (λ (bs : List ℕ). set bs 7 code) e

-- A head of another kind, with other flags
pub head_kind : (g h : Head) (l : Look) (old flags' kind flags set' code : ℕ) (p q r : Point)
    → head_bytes h ≡ head_of (record_of l old flags' set' code p q r)
    → head_bytes g ≡ set (set (head_bytes h) 0 kind) 1 flags
    → head_bytes g ≡ head_of (record_of l kind flags set' code p q r)
unfolding record_of
head_kind g h l old flags' kind flags set' code p q r e f = f ∙ ap (λ (bs : List ℕ). set (set bs 0 kind) 1 flags) e
