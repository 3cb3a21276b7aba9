-- TEXT's operands in a run.
use Rattle.std.specs.Prelude.{◌+◌, ◌/◌, ◌≤◌, ◌<◌, ◌≡◌, slice_range}
use Rattle.setting_runs.specs.Prelude.{ℕ, zero, suc, add-zero, arith, refl, sym, ap, ◌∙◌, subst, false, List, [], length, get_or, take, drop, get_or-drop, get_or-take}
use Rattle.rules.specs.declared.Command.{Command}
use Rattle.rules.specs.declared.Due.TheVariants.{First, Second, Third}
use Rattle.rules.specs.declared.Drawing.{Drawing}
use Rattle.rules.specs.declared.Look.{Look}
use Rattle.rules.specs.declared.Operand.{Operand}
use Rattle.rules.specs.declared.Pattern.TheVariants.{Text as Text·pattern}
use Rattle.rules.specs.declared.Point.{Point}
use Rattle.rules.specs.declared.Role.{Role}
use Rattle.rules.specs.declared.Role.TheVariants.{TextFirst, TextSecond, TextField}
use Rattle.rules.specs.declared.Row.{Row}
use Rattle.rules.specs.declared.Set.TheVariants.{Pdi}
use Rattle.rules.specs.declared.Text.{Text}
use Rattle.rules.specs.Operands.{point}
use Rattle.rules.specs.Text.{with_field, with_first, with_second}
use Rattle.rules.specs.Drawing.{row, rows, row_of, role_of, due_after, length_of, with_due, no_operand, Draw, apply}
use Rattle.std.proofs.Common.{Some}
use Rattle.operands.specs.Data.{whole_of}
use Rattle.figures.specs.Carried.{drawing_of}
use Rattle.figures.specs.Tracing.{pen_at}
use Rattle.figures.proofs.Carrying.{carry_none}
use Rattle.drawing_runs.specs.Run.{Run, none, standing}
use Rattle.setting_runs.specs.Settings.{operand_after, command_after, SetsTo}
use Rattle.drawing_runs.proofs.RunLaws.{each_data, whole_operand, whole_tells, run_then, run_dropped}

-- An operand of TEXT that comes whole and makes the text u of t
module _ (bytes : List ℕ) (from : ℕ) (c : Command) (l : Look) (t u : Text) (k : ℕ) where
  abbrev bs : List ℕ
  bs = take k (drop from bytes)

  abbrev text_row : Row
  text_row = row Text·pattern 9 false

  text_row_lem : c.opcode ≡ 34 → text_row ≡ row_of c.opcode
  unfolding row_of rows
  text_row_lem e = rw e

  pub operand_set : (n : Role) → c.opcode ≡ 34 → role_of Text·pattern c.due ≡ n → length_of n l.domain ≡ k
      → 1 ≤ k → k ≤ 8 → from + k ≤ length bytes → ((i : ℕ) → i < k → (64 ≤ get_or bytes (from + i) 0) × (get_or bytes (from + i) 0 ≤ 127))
      → ((r : Row) (d : Drawing) → d.look ≡ l → d.pen.text ≡ t → apply n r bs d ≡ Draw (record { pen = pen_at d.pen.point u d.pen.operand; command = d.command; look = d.look; map = d.map }) [])
      → SetsTo bytes from c l t k (command_after k c) u
  unfolding due_after
  operand_set n e due long some most fit each a p o m at out fresh eight room =
      let d = drawing_of (pen_at p t o) c l m in
      let f = drawing_of (pen_at p u o) c l m in
      let x = standing (pen_at p t o) c l m at out in
      let here : from + 0 ≡ from = add-zero from in
      let role : role_of (row_of c.opcode).pattern c.due ≡ n = ap (λ (r : Row). role_of r.pattern c.due) (sym (text_row_lem e)) ∙ due in
      let ran =
      whole_operand bytes from 0 x d at out room k (ap (λ (r : Role). length_of r l.domain) role ∙ long) some
      (λ i h. subst (λ (j : ℕ). (64 ≤ get_or bytes (j + i) 0) × (get_or bytes (j + i) 0 ≤ 127)) (sym here) (each i h)) (omega arith) (omega (arith, eight)) fresh f []
      (λ b. (λ i. apply (role i) (row_of c.opcode) (take k (drop (here i) bytes)) (drawing_of (pen_at p t b) c l m)) ∙ a (row_of c.opcode) (drawing_of (pen_at p t b) c l m) refl refl) none in
      subst (λ (j : ℕ). Run Pdi bytes from x j (standing (pen_at p u (operand_after k o)) (command_after k c) l m at out)) (omega arith)
      (subst (Run Pdi bytes from x (0 + k)) (carry_none _ _ _ _ ∙ ended k some) ran)
    where
      ended : (j : ℕ) → 1 ≤ j → standing (pen_at p u no_operand) (with_due (due_after (row_of c.opcode).pattern c.due) c) l m at out ≡ standing (pen_at p u (operand_after j o)) (command_after j c) l m at out
      ended zero h = absurd (omega arith)
      ended (suc j) h = ap (λ (r : Row). standing (pen_at p u no_operand) (with_due (due_after r.pattern c.due) c) l m at out) (sym (text_row_lem e))

-- TEXT's bytes, and its size
module _ (bytes : List ℕ) (from : ℕ) (c : Command) (l : Look) (t : Text) where
  first_byte : from + 1 ≤ length bytes → get_or (take 1 (drop from bytes)) 0 0 ≡ get_or bytes from 0
  first_byte h = get_or-take 1 (drop from bytes) 0 0 (omega arith) ∙ get_or-drop from bytes 0 0 ∙ ap (λ (i : ℕ). get_or bytes i 0) (add-zero from)

  one_data : get_or bytes from 0 / 64 ≡ 1 → (i : ℕ) → i < 1 → (64 ≤ get_or bytes (from + i) 0) × (get_or bytes (from + i) 0 ≤ 127)
  one_data e i h =
      let here : from + i ≡ from = omega arith in
      subst (λ (j : ℕ). (64 ≤ get_or bytes j 0) × (get_or bytes j 0 ≤ 127)) (sym here) (omega (arith, e), omega (arith, e))

  pub first_set : (u : Text) → c.opcode ≡ 34 → c.due ≡ First → from + 1 ≤ length bytes → get_or bytes from 0 / 64 ≡ 1 → u ≡ with_first (get_or bytes from 0) t
      → SetsTo bytes from c l t 1 (command_after 1 c) u
  unfolding role_of length_of apply
  first_set u e due fit is f =
      operand_set bytes from c l t u 1 TextFirst e (rw due) refl (omega arith) (omega arith) fit (one_data is)
      (λ r d g h i. Draw (record { pen = pen_at d.pen.point ((ap (λ (b : ℕ). with_first b d.pen.text) (first_byte fit) ∙ ap (with_first (get_or bytes from 0)) h ∙ sym f) i) d.pen.operand; command = d.command; look = d.look; map = d.map }) [])

  pub second_set : (u : Text) → c.opcode ≡ 34 → c.due ≡ Second → from + 1 ≤ length bytes → get_or bytes from 0 / 64 ≡ 1 → u ≡ with_second (get_or bytes from 0) t
      → SetsTo bytes from c l t 1 (command_after 1 c) u
  unfolding role_of length_of apply
  second_set u e due fit is f =
      operand_set bytes from c l t u 1 TextSecond e (rw due) refl (omega arith) (omega arith) fit (one_data is)
      (λ r d g h i. Draw (record { pen = pen_at d.pen.point ((ap (λ (b : ℕ). with_second b d.pen.text) (first_byte fit) ∙ ap (with_second (get_or bytes from 0)) h ∙ sym f) i) d.pen.operand; command = d.command; look = d.look; map = d.map }) [])

  pub field_set : (u : Text) (k : ℕ) (v : Point) → c.opcode ≡ 34 → c.due ≡ Third → l.domain.multi ≡ k → 1 ≤ k → k ≤ 8 → from + k ≤ length bytes
      → whole_of l.domain.three (take k (drop from bytes)) ≡ Some v → u ≡ with_field v t
      → SetsTo bytes from c l t k (command_after k c) u
  unfolding role_of length_of apply
  field_set u k v e due long some most fit w f =
      let z = whole_tells l.domain.three (take k (drop from bytes)) v w in
      operand_set bytes from c l t u k TextField e (rw due) long some most fit (each_data bytes from k fit z.0)
      (λ r d g h i. Draw (record { pen = pen_at d.pen.point ((ap (λ (y : Look). with_field (point y.domain.three (take k (drop from bytes))) d.pen.text) g ∙ ap (λ (q : Point). with_field q d.pen.text) (sym z.1) ∙ ap (with_field v) h ∙ sym f) i) d.pen.operand; command = d.command; look = d.look; map = d.map }) [])

  -- No byte
  pub none_set : (u : Text) → u ≡ t → SetsTo bytes from c l t 0 c u
  none_set u f p o m at out fresh eight room = rw f none

-- What one or more bytes leave of an operand
pub none_begun : (n : ℕ) (o : Operand) → (n ≡ 0 → ⊥) → no_operand ≡ operand_after n o
none_begun zero o h = absurd (h refl)
none_begun (suc n) o h = refl

-- Operands after operands
after_begun : (n : ℕ) (o : Operand) → o.count ≡ 0 → (operand_after n o).count ≡ 0
after_begun zero o e = e
after_begun (suc n) o e = refl

after_eight : (n : ℕ) (o : Operand) → length o.bytes ≡ 8 → length (operand_after n o).bytes ≡ 8
after_eight zero o e = e
after_eight (suc n) o e = refl

after_after : (n k : ℕ) (o : Operand) → operand_after k (operand_after n o) ≡ operand_after (n + k) o
after_after n zero o = ap (λ (j : ℕ). operand_after j o) (sym (add-zero n))
after_after n (suc k) o = none_begun (n + suc k) o (λ z. absurd (omega (arith, z)))

pub sets_then : (bytes : List ℕ) (from : ℕ) (l : Look) (c d e : Command) (t u v : Text) (n k : ℕ)
    → SetsTo bytes from c l t n d u → SetsTo bytes (from + n) d l u k e v → SetsTo bytes from c l t (n + k) e v
sets_then bytes from l c d e t u v n k a b p o m at out fresh eight room =
    let q = b p (operand_after n o) m at out (after_begun n o fresh) (after_eight n o eight) room in
    subst (λ (w : Operand). Run Pdi bytes from (standing (pen_at p t o) c l m at out) (n + k) (standing (pen_at p v w) e l m at out)) (after_after n k o)
    (run_then (a p o m at out fresh eight room) q)

-- Operands among the bytes from a place on
pub sets_dropped : (bytes : List ℕ) (n : ℕ) (c d : Command) (l : Look) (t u : Text) (k : ℕ) → SetsTo (slice_range bytes n (length bytes)) 0 c l t k d u → SetsTo bytes (0 + n) c l t k d u
sets_dropped bytes n c d l t u k sets p o m at out fresh eight room =
    subst (λ (j : ℕ). Run Pdi bytes j (standing (pen_at p t o) c l m at out) k (standing (pen_at p u (operand_after k o)) d l m at out)) (omega arith)
    (run_dropped bytes n (sets p o m at out fresh eight room))

-- The operand after TEXT's next is due
pub command_on : (n : ℕ) (c : Command) → (n ≡ 0 → ⊥) → with_due (due_after Text·pattern c.due) c ≡ command_after n c
unfolding due_after
command_on zero c h = absurd (h refl)
command_on (suc n) c h = refl

-- One operand more
pub sets_on : (bytes : List ℕ) (from : ℕ) (l : Look) (c d e : Command) (t u v : Text) (n k : ℕ) → e ≡ command_after k d
    → SetsTo bytes from c l t n d u → SetsTo bytes (from + n) d l u k (command_after k d) v → SetsTo bytes from c l t (n + k) e v
sets_on bytes from l c d e t u v n k f a b =
    subst (λ (x : Command). SetsTo bytes from c l t (n + k) x v) (sym f) (sets_then bytes from l c d (command_after k d) t u v n k a b)
