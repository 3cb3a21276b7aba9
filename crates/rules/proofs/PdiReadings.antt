-- Bytes that are read in PDI from the page: an opcode, and data
use Rattle.std.specs.Prelude.{◌≤◌, ◌≡◌, ◌∷◌, ◌++◌}
use Rattle.rules.specs.Prelude.{ℕ, zero, suc, arith, refl, sym, ap, ◌∙◌, true, List, [], length, ltb, le-ltb, le_of_suc-le-suc, suc-le-suc, not-suc-le-zero}
use Rattle.rules.specs.Types.{Done, Action, Opcode, Data, Bodies, Drawing, Record, Refusal}
use Rattle.rules.specs.Choice.{pick}
use Rattle.rules.specs.Operands.{is_data, all_data}
use Rattle.rules.specs.Record.{bytes_of_all}
use Rattle.rules.specs.Coding.{graphic}
use Rattle.rules.specs.Drawing.{NotDrawn, Draw, act}
use Rattle.rules.specs.Step.{State, stepped, remove_spent, FromPiece, NothingLeft, Found, seek_at, seek, bodies_after, on_outcome, on_reaction, opens_inside, interpret}
use Rattle.rules.specs.Reading.{Reading, Always, halts, step_then, reading}
use Rattle.rules.specs.Statements.{ReadsPdi, drawing_left}
use Rattle.rules.proofs.Bools.{and_left, and_right, pick_all}
use Rattle.rules.proofs.Reacting.{from_set, data_range}
use Rattle.rules.proofs.RecordCount.{records_append}
use Rattle.rules.proofs.Steps.{remove_twice}
use Rattle.rules.proofs.Readings.{budget, refused, reads_done, reads_halt, reads_step, refused_done}

-- The state after a byte
abbrev pub after_byte : State → Drawing → State
after_byte w d =
    let v = remove_spent w in stepped v.session.bodies v.session.coding d v.store v

-- A byte of the PDI set, as an action; it leaves no body
abbrev pdi_action : ℕ → Action
pdi_action b = pick (ltb b 64) (Opcode b) (Data b)

pdi_bodies : (b : ℕ) (y : Bodies) → bodies_after (pdi_action b) y ≡ y
pdi_bodies b y = pick_all (λ a. bodies_after a y ≡ y) (ltb b 64) refl refl

module _ (w : State) (k : ReadsPdi w) where
  pub pdi_found : (b : ℕ) (bs : List ℕ) → seek (remove_spent w) (b ∷ bs) ≡ Found b (remove_spent w) FromPiece bs
  unfolding seek seek_at
  pdi_found b bs = ap (λ (n : ℕ). seek_at n (remove_spent w) (b ∷ bs)) k.no_body

  pdi_none : seek (remove_spent w) [] ≡ NothingLeft
  unfolding seek seek_at
  pdi_none = ap (λ (n : ℕ). seek_at n (remove_spent w) []) k.no_body

  pdi_move : (b : ℕ) → 32 ≤ b → b ≤ 127
      → interpret (remove_spent w) FromPiece b
      ≡ on_outcome (act (pdi_action b) w.session.drawing) (pdi_action b) w.session.coding w.store (remove_spent w)
  unfolding interpret opens_inside on_reaction graphic remove_spent
  pdi_move b l h = rw (from_set b h w.session.coding w.store k.nothing l, k.pdi)

  pub pdi_after : (d : Drawing) → ReadsPdi (after_byte w d)
  unfolding remove_spent
  pdi_after d =
      record {
        pdi = k.pdi;
        nothing = k.nothing;
        no_body = ap (λ (v : State). v.session.bodies.depth) (remove_twice w) ∙ k.no_body;
      }

  pub pdi_reads : (n b : ℕ) (bs : List ℕ) {d : Drawing} {rs : List Record} → 32 ≤ b → b ≤ 127
      → act (pdi_action b) w.session.drawing ≡ Draw d rs
      → reading Always (suc n) w (b ∷ bs) ≡ step_then FromPiece (bytes_of_all rs) (reading Always n (after_byte w d) bs)
  unfolding on_outcome remove_spent
  pdi_reads n b bs {d} {rs} l h e = reads_step Always n w (b ∷ bs) refl (pdi_found b bs) (rw (pdi_move b l h, e, pdi_bodies b (remove_spent w).session.bodies))

  pub pdi_refuses : (n b : ℕ) (bs : List ℕ) {r : Refusal} → 32 ≤ b → b ≤ 127
      → act (pdi_action b) w.session.drawing ≡ NotDrawn r
      → reading Always (suc n) w (b ∷ bs) ≡ halts r (remove_spent w)
  unfolding on_outcome remove_spent
  pdi_refuses n b bs {r} l h e = reads_halt Always w {r = r} refl (refused (pdi_found b bs) (rw (pdi_move b l h, e)))

-- Data bytes, one after the other, with the drawing left and their records
pub data DataRun : Drawing → List ℕ → Drawing → List Record → Type 0 where
  none : {d : Drawing} → DataRun d [] d []
  more : {d n e : Drawing} {b : ℕ} {bs : List ℕ} {qs rs : List Record} → act (Data b) d ≡ Draw n qs → DataRun n bs e rs → DataRun d (b ∷ bs) e (qs ++ rs)

-- What a reading hands over that has nothing left to read
pub record Finished (x : Reading) (d : Drawing) (rs : List Record) : Type 0 where
  pub answer : x.answer ≡ Done
  pub drawing : drawing_left x ≡ d
  pub records : x.records ≡ bytes_of_all rs

-- Data read from the page
pub data_finished : {e : Drawing} {bs : List ℕ} {d : Drawing} {rs : List Record} → DataRun e bs d rs
    → (n : ℕ) (w : State) → ReadsPdi w → w.session.drawing ≡ e → all_data bs ≡ true → length bs ≤ n → Finished (reading Always n w bs) d rs
unfolding remove_spent bytes_of_all all_data
data_finished none n w k e a h =
    rw (reads_done Always n w [] (pdi_none w k)) record { answer = refl; drawing = e; records = refl }
data_finished (more {b = b} {bs = bs} {qs = qs} {rs = rs} m t) zero w k e a h = absurd (not-suc-le-zero h)
data_finished (more {n = d} {b = b} {bs = bs} {qs = qs} {rs = rs} m t) (suc n) w k e a h =
    let r = data_range b (and_left (is_data b) (all_data bs) a) in
    let s : act (pdi_action b) w.session.drawing ≡ Draw d qs = rw (le-ltb b 64 r.0, e) m in
    let i = data_finished t n (after_byte w d) (pdi_after w k d) refl (and_right (is_data b) (all_data bs) a) (le_of_suc-le-suc h) in
    rw (pdi_reads w k n b bs (omega arith) r.1 s)
    record {
      answer = i.answer;
      drawing = i.drawing;
      records = ap (λ (x : List ℕ). bytes_of_all qs ++ x) i.records ∙ sym (records_append qs rs);
    }

-- and the budget that it needs
pub data_budget : {e : Drawing} {bs : List ℕ} {d : Drawing} {rs : List Record} → DataRun e bs d rs
    → (n : ℕ) (w : State) → ReadsPdi w → w.session.drawing ≡ e → all_data bs ≡ true → (reading Always n w bs).answer ≡ Done → length bs ≤ n
unfolding all_data
data_budget none n w k e a h = omega arith
data_budget (more {b = b} {bs = bs} m t) zero w k e a h =
    refused_done (rw (reads_halt Always w refl (budget (Found b (remove_spent w) FromPiece bs) (pdi_found w k b bs) tt)) at h)
data_budget (more {n = d} {b = b} {bs = bs} {qs = qs} m t) (suc n) w k e a h =
    let r = data_range b (and_left (is_data b) (all_data bs) a) in
    let s : act (pdi_action b) w.session.drawing ≡ Draw d qs = rw (le-ltb b 64 r.0, e) m in
    suc-le-suc (data_budget t n (after_byte w d) (pdi_after w k d) refl (and_right (is_data b) (all_data bs) a) (rw (pdi_reads w k n b bs (omega arith) r.1 s) at h))
