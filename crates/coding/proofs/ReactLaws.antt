-- The reaction by what is waited for.
use Rattle.rules.specs.declared.SingleShift.{SingleShift}
use Rattle.std.specs.Prelude.{◌⊎◌, ◌≡◌, ◌≤◌, ◌∷◌}
use Rattle.coding.specs.Prelude.{inl, inr, refl, true, List, [], ℕ, le-ltb, leb-true, leb}
use types.Run.{OneOf, miss}
use denote.Enum.Declared.{tag_of}
use Rattle.rules.specs.contracts.Waiting.{the_type as the-waiting}
use Rattle.rules.proofs.Bools.{and_left, and_right}
use Rattle.rules.specs.declared.Class.{Class}
use Rattle.rules.specs.declared.Class.TheVariants.{Below, Column2, Above}
use Rattle.rules.specs.declared.Coding.{Coding}
use Rattle.rules.specs.declared.Definition.{Definition}
use Rattle.rules.specs.declared.Set.{Set}
use Rattle.rules.specs.declared.Sets.{Sets}
use Rattle.rules.specs.declared.Waiting.{Waiting}
use Rattle.rules.specs.declared.Waiting.TheVariants.{Nothing, Shifted, Escape, Designator, Longer, Name, Body, BodyEscape, Row, Column}
use Rattle.rules.specs.Coding.{class_of, react_to, react}
use Rattle.rules.specs.Ranges.{name_fits}
use Rattle.store.specs.Lent.{IsName}
use Rattle.reactions.specs.View.{coding_of, read_from}
use Rattle.coding.specs.SetRead.{element_read, set_read}

-- The name being defined is one of the 96
pub is_name : (d : Definition) → name_fits d ≡ true → IsName d.name
unfolding name_fits
is_name d h =
    let least = leb 32 d.name in
    let most = leb d.name 127 in
    (leb-true 32 d.name (and_left least most h), leb-true d.name 127 (and_right least most h))

-- Outside escape sequences, definitions and row and column bytes the byte is read from its set
module _ (x : Set) (c : Coding) (st : List ℕ) (b : ℕ) where
  read_alone : (k : Class) → x ≡ set_read Nothing c.sets → read_from x k c st b ≡ react_to Nothing k c st b
  unfolding element_read read_from react_to
  read_alone (Below k) q = refl
  read_alone Column2 q = rw q
  read_alone Above q = rw q

  read_shifted : (s : SingleShift) (k : Class) → x ≡ set_read (Shifted s) c.sets → read_from x k c st b ≡ react_to (Shifted s) k c st b
  unfolding element_read read_from react_to
  read_shifted s (Below k) q = refl
  read_shifted s Column2 q = rw q
  read_shifted s Above q = rw q

  pub read_by_itself : (w : Waiting) (k : Class) → (w ≡ Nothing) ⊎ ((s : SingleShift) × (w ≡ Shifted s)) → x ≡ set_read w c.sets
      → read_from x k c st b ≡ react_to w k c st b
  read_by_itself w k (inl e) q = rw e (read_alone k (rw e at q))
  read_by_itself w k (inr (s, e)) q = rw e (read_shifted s k (rw e at q))

-- The same by tags
abbrev no_sequence : List ℕ
no_sequence = 0 ∷ 1 ∷ []

pub others_read : (w : Waiting) (x : Set) (k : Class) (c : Coding) (st : List ℕ) (b : ℕ) → OneOf no_sequence (tag_of the-waiting w)
    → x ≡ set_read w c.sets → read_from x k c st b ≡ react_to w k c st b
others_read Nothing x k c st b h q = read_alone x c st b k q
others_read (Shifted s) x k c st b h q = read_shifted x c st b s k q
others_read Escape x k c st b h q = absurd (miss no_sequence 2 tt h)
others_read (Designator e) x k c st b h q = absurd (miss no_sequence 3 tt h)
others_read Longer x k c st b h q = absurd (miss no_sequence 4 tt h)
others_read Name x k c st b h q = absurd (miss no_sequence 5 tt h)
others_read (Body d) x k c st b h q = absurd (miss no_sequence 6 tt h)
others_read (BodyEscape d) x k c st b h q = absurd (miss no_sequence 7 tt h)
others_read (Row y) x k c st b h q = absurd (miss no_sequence 8 tt h)
others_read (Column y r) x k c st b h q = absurd (miss no_sequence 9 tt h)

-- The element that a byte is read from: without a single shift, the one in use
abbrev no_shift : List ℕ
no_shift = 0 ∷ 2 ∷ 3 ∷ 4 ∷ 5 ∷ 6 ∷ 7 ∷ 8 ∷ 9 ∷ []

pub others_use : (w : Waiting) (s : Sets) → OneOf no_shift (tag_of the-waiting w) → s.used ≡ element_read w s
unfolding element_read
others_use Nothing s h = refl
others_use (Shifted x) s h = absurd (miss no_shift 1 tt h)
others_use Escape s h = refl
others_use (Designator e) s h = refl
others_use Longer s h = refl
others_use Name s h = refl
others_use (Body d) s h = refl
others_use (BodyEscape d) s h = refl
others_use (Row x) s h = refl
others_use (Column x r) s h = refl

-- A byte of 127 or below
pub inside : (s : Sets) (w : Waiting) (f st : List ℕ) (b : ℕ) → b ≤ 127 → (v : Waiting) → w ≡ v
    → react_to v (class_of b) (coding_of s v f) st b ≡ react (coding_of s w f) st b
unfolding react
inside s w f st b h v e = rw (le-ltb 127 b h, e)
