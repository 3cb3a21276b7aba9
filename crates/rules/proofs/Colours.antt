-- SET COLOUR's data: the colour they give, and what is left of it where they are cut short
use Rattle.std.specs.Prelude.{◌*◌, ◌-◌, ◌/◌, ◌^◌, ◌≤◌, ◌<◌, ◌≡◌, ◌∷◌, ◌++◌}
use Rattle.rules.specs.Prelude.{ℕ, zero, suc, arith, refl, sym, ap, ◌∙◌, subst, true, false, List, [], append_assoc, append-nil, set, length, length-append, length-set, length-take, take, take_all, take-append-le, take-suc-set, ltb, eqb, ne_eqb, ltb-true, ltb-false}
use Rattle.rules.specs.Types.{Done, Opcode, Data, Close, Point, Operand, Drawing, Look, Mode, Direct, Mapped, TwoColour, Record, Second, Refusal, Result, Ok, Err}
use Rattle.rules.specs.Numbers.{origin}
use Rattle.rules.specs.Operands.{green_bits, red_bits, blue_bits, bits_of, from_top, is_data, all_data, begun}
use Rattle.rules.specs.Record.{figure, bytes_of_all}
use Rattle.rules.specs.Drawing.{rows, row_of, role_of, due_after, length_of, with_map, with_look, with_command, with_operand, with_due, colour_of, no_operand, Outcome, NotDrawn, Draw, and_then, map_at, shade_map, shade_to, apply, role_due, apply_begun, take_byte, data_byte, complete, finish, new_command, closed, close, open_command, act}
use Rattle.rules.specs.Step.{State, remove_spent, FromPiece, Found}
use Rattle.rules.specs.Ranges.{opcode_fits}
use Rattle.rules.specs.Reading.{Always, step_then, reading, tests, undivided, steps_left}
use Rattle.rules.specs.Statements.{ReadsPdi, set_colour, drawing_left, GivesColour, lost_bits, cut_after, CutColour}
use Rattle.rules.proofs.Bools.{and_left, and_right, and_both, by_test}
use Rattle.rules.proofs.Lists.{take_comm}
use Rattle.rules.proofs.Bits.{Bits, green_bits_lem, red_bits_lem, blue_bits_lem, all_bits, bits_take, from_take}
use Rattle.rules.proofs.RecordCount.{records_append}
use Rattle.rules.proofs.Steps.{tests_valid}
use Rattle.rules.proofs.Readings.{budget, reads_halt, reads_failed, reads_passed, refused_done}
use Rattle.rules.proofs.PdiReadings.{after_byte, pdi_found, pdi_after, pdi_reads, pdi_refuses, DataRun, none, more, data_finished, data_budget}
use Rattle.rules.proofs.DrawingRanges.{Drawn, Fits, act_fits, valid_domain, multi_range, then_drawn, dropped_same}

-- What giving a colour makes of the look and the map, and its records
abbrev shaded_look : Mode → ℕ → ℕ → ℕ → Look → Look
shaded_look Direct g r b l = record { domain = l.domain; colour = colour_of l.colour.mode g r b l.colour.foreground l.colour.background }
shaded_look Mapped g r b l = l
shaded_look TwoColour g r b l = l

abbrev shaded_map : Mode → ℕ → ℕ → ℕ → Look → List ℕ → List ℕ
shaded_map Direct g r b l m = m
shaded_map Mapped g r b l m = map_at l.colour.foreground g r b m
shaded_map TwoColour g r b l m = map_at l.colour.foreground g r b m

abbrev entry_record : ℕ → ℕ → ℕ → Look → Record
entry_record g r b l = figure l 8 0 (record { x = g; y = r }) (record { x = b; y = 0 }) origin

abbrev shade_records : Mode → ℕ → ℕ → ℕ → Look → List Record
shade_records Direct g r b l = []
shade_records Mapped g r b l = entry_record g r b l ∷ []
shade_records TwoColour g r b l = entry_record g r b l ∷ []

-- The colour of the bytes vs, given
abbrev value : (ℕ → List ℕ) → List ℕ → ℕ
value f vs = from_top 8 (bits_of f vs)

abbrev shaded_by : List ℕ → Drawing → Drawing
shaded_by vs d =
    let m = d.look.colour.mode in
    with_map (shaded_map m (value green_bits vs) (value red_bits vs) (value blue_bits vs) d.look d.map)
    (with_look (shaded_look m (value green_bits vs) (value red_bits vs) (value blue_bits vs) d.look) d)

abbrev records_by : List ℕ → Drawing → List Record
records_by vs d = shade_records d.look.colour.mode (value green_bits vs) (value red_bits vs) (value blue_bits vs) d.look

shades : (m : Mode) (g r b : ℕ) (d : Drawing)
    → shade_to m g r b d ≡ Draw (with_map (shaded_map m g r b d.look d.map) (with_look (shaded_look m g r b d.look) d)) (shade_records m g r b d.look)
unfolding shade_to shade_map
shades Direct g r b d = refl
shades Mapped g r b d = refl
shades TwoColour g r b d = refl

-- SET COLOUR opened at p, with the operand o begun; and with its operand applied
abbrev collecting : Point → Operand → Drawing → Drawing
collecting p o d = with_operand o (with_command (new_command 60 p) d)

abbrev applied : Point → Drawing → Drawing
applied p d = with_operand no_operand (with_command (with_due Second (new_command 60 p)) d)

-- The begun operand of the bytes cs, applied
apply_begun_lem : (p : Point) (o : Operand) (d : Drawing) (cs : List ℕ) → begun o ≡ cs
    → apply_begun (row_of 60) (collecting p o d) ≡ Draw (applied p (shaded_by cs d)) (records_by cs d)
unfolding apply_begun apply row_of rows role_of due_after and_then
apply_begun_lem p o d cs e =
    rw (e, shades d.look.colour.mode (value green_bits cs) (value red_bits cs) (value blue_bits cs) (collecting p o d), append-nil (records_by cs d))

-- With operands of N bytes, 1 to 8
module _ (p : Point) (d : Drawing) (least : 1 ≤ d.look.domain.multi) (most : d.look.domain.multi ≤ 8) where
  -- What SET COLOUR has come to, and its records, when the data bs are read: they make a begun operand, or have given their colour
  data Took (bs : List ℕ) : Drawing → List Record → Type 0 where
    part : (o : Operand) → begun o ≡ bs → o.count ≡ length bs → length o.bytes ≡ 8 → length bs < d.look.domain.multi
        → Took bs (collecting p o d) []
    whole : (cs : List ℕ) → take d.look.domain.multi bs ≡ cs → d.look.domain.multi ≤ length bs
        → Took bs (applied p (shaded_by cs d)) (records_by cs d)

  -- One byte more
  record TookNext (bs : List ℕ) (b : ℕ) (e : Drawing) (rs : List Record) : Type 0 where
    next : Drawing
    further : List Record
    drawn : act (Data b) e ≡ Draw next further
    took : Took (bs ++ (b ∷ [])) next (rs ++ further)

  abbrev with_next : Operand → ℕ → Operand
  with_next o b = record { bytes = set o.bytes o.count b; count = suc o.count }

  begun_next : (o : Operand) (b : ℕ) (bs : List ℕ) → begun o ≡ bs → o.count < length o.bytes → begun (with_next o b) ≡ bs ++ (b ∷ [])
  unfolding begun
  begun_next o b bs e h = take-suc-set o.bytes o.count b h ∙ ap (λ (cs : List ℕ). cs ++ (b ∷ [])) e

  length_next : (bs : List ℕ) (b : ℕ) → length (bs ++ (b ∷ [])) ≡ suc (length bs)
  length_next bs b = length-append bs (b ∷ []) ∙ omega arith

  took_next : (bs : List ℕ) (b : ℕ) (e : Drawing) (rs : List Record) → Took bs e rs → TookNext bs b e rs
  unfolding act data_byte take_byte length_of row_of rows role_of
  took_next bs b e rs (part o g c l s) =
      let u = begun_next o b bs g (omega arith) in
      let k = length_next bs b in
      let n = d.look.domain.multi in
      let z : eqb n 0 ≡ false = ne_eqb n 0 (λ e. omega arith) in
      by_test (ltb (suc o.count) n)
      (λ t. record {
        next = collecting p (with_next o b) d;
        further = [];
        drawn = rw (z, t);
        took = part (with_next o b) u (ap suc c ∙ sym k) (length-set o.bytes o.count b ∙ l) (omega (arith, ltb-true (suc o.count) n t));
      })
      (λ t.
      let cs = bs ++ (b ∷ []) in
      let f = ltb-false (suc o.count) n t in
      record {
        next = applied p (shaded_by cs d);
        further = records_by cs d;
        drawn = rw (z, t) (apply_begun_lem p (with_next o b) d cs u);
        took = whole cs (take_all n cs (omega arith)) (omega arith);
      })
  took_next bs b e rs (whole cs c l) =
      record {
        next = applied p (shaded_by cs d);
        further = [];
        drawn = dropped_same b (applied p (shaded_by cs d)) refl;
        took = subst (Took (bs ++ (b ∷ [])) (applied p (shaded_by cs d))) (sym (append-nil (records_by cs d)))
            (whole cs (take-append-le d.look.domain.multi bs (b ∷ []) l ∙ c) (omega (arith, length_next bs b)));
      }

  -- All of them
  record TookAll (cs bs : List ℕ) (e : Drawing) (rs : List Record) : Type 0 where
    left : Drawing
    records : List Record
    runs : DataRun e bs left records
    took : Took (cs ++ bs) left (rs ++ records)

  took_all : (cs bs : List ℕ) (e : Drawing) (rs : List Record) → Took cs e rs → TookAll cs bs e rs
  took_all cs [] e rs t = record { left = e; records = []; runs = none; took = rw (append-nil cs, append-nil rs) t }
  took_all cs (b ∷ bs) e rs t =
      let n = took_next cs b e rs t in
      let a = took_all (cs ++ (b ∷ [])) bs n.next (rs ++ n.further) n.took in
      record {
        left = a.left;
        records = n.further ++ a.records;
        runs = more n.drawn a.runs;
        took = rw (← append_assoc rs n.further a.records, ← append_assoc cs (b ∷ []) bs) a.took;
      }

  -- Closed, they have given their colour, that of the operand's bytes cs
  record Gave (cs : List ℕ) (e : Drawing) (rs : List Record) : Type 0 where
    closing : List Record
    closes : act Close e ≡ Draw (closed (shaded_by cs d)) closing
    all : rs ++ closing ≡ records_by cs d

  took_gave : (bs cs : List ℕ) (e : Drawing) (rs : List Record) → take d.look.domain.multi bs ≡ cs → 1 ≤ length bs → Took bs e rs → Gave cs e rs
  unfolding act close complete finish and_then row_of rows role_of
  took_gave bs cs e rs t h (part o g c l s) =
      let z : eqb o.count 0 ≡ false = ne_eqb o.count 0 (λ n. omega arith) in
      let u = g ∙ sym (take_all d.look.domain.multi bs (omega arith)) ∙ t in
      record {
        closing = records_by cs d;
        closes = rw (z, apply_begun_lem p o d cs u, append-nil (records_by cs d));
        all = refl;
      }
  took_gave bs cs e rs t h (whole vs c l) =
      rw (sym t ∙ c)
      record {
        closing = [];
        closes = refl;
        all = append-nil (records_by vs d);
      }

  -- Where they are enough they have given it
  took_whole : (bs cs : List ℕ) (e : Drawing) (rs : List Record) → take d.look.domain.multi bs ≡ cs → d.look.domain.multi ≤ length bs → Took bs e rs
      → (e.look ≡ (shaded_by cs d).look) × (e.map ≡ (shaded_by cs d).map) × (rs ≡ records_by cs d)
  took_whole bs cs e rs t h (part o g c l s) = absurd (omega arith)
  took_whole bs cs e rs t h (whole vs c l) = rw (sym t ∙ c) (refl, refl, refl)

-- SET COLOUR opened

-- It closes what is open, and no operand is begun
record IsClosed (d : Drawing) : Type 0 where
  from : Drawing
  is : d ≡ closed from

close_closed : (d : Drawing) → Drawn IsClosed (close d)
unfolding close
close_closed d =
    let r = row_of d.command.opcode in
    then_drawn (λ e. Unit {0}) IsClosed (complete r d) _ (drawn_any (complete r d))
    (λ e h. then_drawn (λ f. Unit {0}) IsClosed (finish (role_due r e) r.filled e) _ (drawn_any (finish (role_due r e) r.filled e))
    (λ f g. record { from = f; is = refl }))
  where
    drawn_any : (o : Outcome) → Drawn (λ e. Unit {0}) o
    drawn_any (NotDrawn x) = tt
    drawn_any (Draw e rs) = tt

record IsCollecting (d : Drawing) : Type 0 where
  from : Drawing
  is : d ≡ collecting from.pen.point no_operand from

open_collecting : (d : Drawing) → Drawn IsCollecting (act (Opcode 60) d)
unfolding act open_command
open_collecting d =
    then_drawn IsClosed IsCollecting (close d) (open_command 60) (close_closed d)
    (λ e c. record { from = c.from; is = ap (λ (f : Drawing). with_command (new_command 60 f.pen.point) f) c.is })

-- So much is left of the budget, and this is the drawing that it finds and the records of what it closed
record ColourOpened (w : State) : Type 0 where
  left : ℕ
  from : Drawing
  before : List Record
  least : 1 ≤ from.look.domain.multi
  most : from.look.domain.multi ≤ 8
  reads : (bs : List ℕ) → set_colour w bs
      ≡ step_then FromPiece (bytes_of_all before) (reading Always left (after_byte w (collecting from.pen.point no_operand from)) bs)

colour_opened : (w : State) (bs : List ℕ) → ReadsPdi w → (set_colour w bs).answer ≡ Done → ColourOpened w
unfolding undivided opcode_fits
colour_opened w bs k a = by (tests w) refl (steps_left w) refl (act (Opcode 60) w.session.drawing) refl
  where
    by : (t : Result (Unit {0}) Refusal) → tests w ≡ t → (n : ℕ) → steps_left w ≡ n → (o : Outcome) → act (Opcode 60) w.session.drawing ≡ o → ColourOpened w
    by (Err r) t n m o e = refused_done (rw (reads_failed Always w (60 ∷ bs) t) at a)
    by (Ok u) t zero m o e =
        refused_done (rw (reads_passed Always w (60 ∷ bs) t, m, reads_halt Always w refl (budget (Found 60 (remove_spent w) FromPiece bs) (pdi_found w k 60 bs) tt)) at a)
    by (Ok u) t (suc n) m (NotDrawn r) e =
        refused_done (rw (reads_passed Always w (60 ∷ bs) t, m, pdi_refuses w k n 60 bs (omega arith) (omega arith) e) at a)
    by (Ok u) t (suc n) m (Draw d rs) e =
        let c = subst (Drawn IsCollecting) e (open_collecting w.session.drawing) in
        let f = subst Fits c.is (subst (Drawn Fits) e (act_fits (Opcode 60) w.session.drawing refl (tests_valid w t).drawing)) in
        let s = multi_range c.from.look.domain (valid_domain (collecting c.from.pen.point no_operand c.from) f) in
        record {
          left = n;
          from = c.from;
          before = rs;
          least = s.0;
          most = s.1;
          reads = λ cs. rw (reads_passed Always w (60 ∷ cs) t, m) (pdi_reads w k n 60 cs (omega arith) (omega arith) (e ∙ ap (λ (x : Drawing). Draw x rs) c.is));
        }

-- All its data taken
takes : {w : State} (o : ColourOpened w) (bs : List ℕ)
    → TookAll o.from.pen.point o.from o.least o.most [] bs (collecting o.from.pen.point no_operand o.from) []
unfolding begun
takes o bs =
    took_all o.from.pen.point o.from o.least o.most [] bs (collecting o.from.pen.point no_operand o.from) []
    (part no_operand refl refl refl o.least)

-- The bytes cs of its operand give their colour
gives : (w : State) (k : ReadsPdi w) (o : ColourOpened w) (bs cs : List ℕ) → take o.from.look.domain.multi bs ≡ cs
    → all_data bs ≡ true → 1 ≤ length bs → length bs ≤ o.left → GivesColour w bs (value green_bits cs) (value red_bits cs) (value blue_bits cs)
unfolding bytes_of_all all_data
gives w k o bs cs t i h n =
    let f = o.from in
    let p = f.pen.point in
    let d = collecting p no_operand f in
    let u = after_byte w d in
    let a = takes o bs in
    let l = data_finished a.runs o.left u (pdi_after w k d) refl i n in
    let z = data_finished none o.left u (pdi_after w k d) refl refl (omega arith) in
    let g = took_gave p f o.least o.most bs cs a.left a.records t h a.took in
    let x = ap drawing_left (o.reads bs) ∙ l.drawing in
    let y = ap drawing_left (o.reads []) ∙ z.drawing in
    let q = bytes_of_all o.before in
    let after : q ++ bytes_of_all (records_by cs d) ≡ q ++ [] ++ bytes_of_all (records_by cs d) = rw (append-nil q) in
    record {
      accepted = rw (o.reads bs) l.answer;
      shaded = shaded_by cs d;
      written = records_by cs d;
      given = rw y (shades d.look.colour.mode (value green_bits cs) (value red_bits cs) (value blue_bits cs) d);
      completed = λ m.
          let c = took_whole p f o.least o.most bs cs a.left a.records t (rw y at m) a.took in
          (rw x c.0, rw x c.1, rw (o.reads bs, o.reads [], l.records, z.records, c.2) after);
      closing = g.closing;
      closes = rw x g.closes;
      all = rw (o.reads bs, o.reads [], l.records, z.records)
          (append_assoc q (bytes_of_all a.records) (bytes_of_all g.closing)
          ∙ ap (λ (v : List ℕ). q ++ v) (sym (records_append a.records g.closing) ∙ ap bytes_of_all g.all)
          ∙ after);
    }

-- A value of two bits a byte, of k bytes
cut_value : (f : ℕ → List ℕ) → ((b : ℕ) → length (f b) ≡ 2) → ((b : ℕ) → Bits (f b)) → (k n : ℕ) (bs : List ℕ)
    → value f (take n (take k bs)) ≡ cut_after k (value f (take n bs))
cut_value f wide bits k n bs =
    let v = value f (take n bs) in
    let e : 8 - 2 * k ≡ lost_bits k = omega arith in
    ap (value f) (take_comm n k bs)
    ∙ ap (from_top 8) (bits_take f 2 wide k (take n bs))
    ∙ from_take 8 (2 * k) (all_bits f bits (take n bs))
    ∙ ap (λ (m : ℕ). v / 2 ^ m * 2 ^ m) e

cut_data : (k : ℕ) (bs : List ℕ) → all_data bs ≡ true → all_data (take k bs) ≡ true
unfolding all_data
cut_data zero bs i = refl
cut_data (suc k) [] i = refl
cut_data (suc k) (b ∷ bs) i = and_both (and_left (is_data b) (all_data bs) i) (cut_data k bs (and_right (is_data b) (all_data bs) i))

-- SET COLOUR data cut after k bytes, k at least 1, for every N, in every mode
pub cut_colour : (w : State) (bs : List ℕ) (k : ℕ) → ReadsPdi w → all_data bs ≡ true → 1 ≤ length bs → 1 ≤ k → (set_colour w bs).answer ≡ Done → CutColour w bs k
unfolding green_bits red_bits blue_bits
cut_colour w bs k p i h j a =
    let o = colour_opened w bs p a in
    let n = o.from.look.domain.multi in
    let d = collecting o.from.pen.point no_operand o.from in
    let l = data_budget (takes o bs).runs o.left (after_byte w d) (pdi_after w p d) refl i (rw (o.reads bs) at a) in
    record {
      green = value green_bits (take n bs);
      red = value red_bits (take n bs);
      blue = value blue_bits (take n bs);
      whole = gives w p o bs (take n bs) refl i h l;
      cut = rw (
        ← cut_value green_bits (λ b. refl) green_bits_lem k n bs,
        ← cut_value red_bits (λ b. refl) red_bits_lem k n bs,
        ← cut_value blue_bits (λ b. refl) blue_bits_lem k n bs,
      )
          (gives w p o (take k bs) (take n (take k bs)) refl (cut_data k bs i) (omega (arith, length-take k bs)) (omega (arith, length-take k bs)));
    }
