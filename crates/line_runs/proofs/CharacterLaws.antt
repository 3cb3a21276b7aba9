-- Runs of characters
use Rattle.std.specs.Prelude.{◌≡◌, ◌∷◌, ◌++◌, ◌+◌, ◌*◌, ◌-◌, ◌%◌, ◌^◌, ◌<◌, ◌≤◌}
use Rattle.line_runs.specs.Prelude.{refl, sym, ap, ◌∙◌, subst, Bool, true, false, List, [], ℕ, zero, suc, add-zero, add-one, arith, length, get_or, set, ltb, ltb-true, ltb-false, eqb, eqb-true, eqb-false, ne_eqb}
use Rattle.rules.specs.declared.Action.{Action}
use Rattle.rules.specs.declared.Action.TheVariants.{Character, Format}
use Rattle.rules.specs.declared.Command.{Command}
use Rattle.rules.specs.declared.Drawing.{Drawing}
use Rattle.rules.specs.declared.Due.{Due}
use Rattle.rules.specs.declared.Due.TheVariants.{First, Second, Third, Past}
use Rattle.rules.specs.declared.Effector.{Effector}
use Rattle.rules.specs.declared.Effector.TheVariants.{Apb, Apf, Apd, Apu, Cs, Apr, Aph}
use Rattle.rules.specs.declared.Look.{Look}
use Rattle.rules.specs.declared.Operand.{Operand}
use Rattle.rules.specs.declared.Pair.{Pair}
use Rattle.rules.specs.declared.Pair.TheVariants.{NoPair, Automatic, ReturnSeen, FeedSeen}
use Rattle.rules.specs.declared.Pen.{Pen}
use Rattle.rules.specs.declared.Point.{Point}
use Rattle.rules.specs.declared.Record.{Record}
use Rattle.rules.specs.declared.Repertoire.{Repertoire}
use Rattle.rules.specs.declared.Repertoire.TheVariants.{Primary, Supplementary, Mosaic, Drcs}
use Rattle.rules.specs.declared.Set.{Set}
use Rattle.rules.specs.declared.Set.TheVariants.{Characters}
use Rattle.rules.specs.declared.Settings.{Settings}
use Rattle.rules.specs.declared.Text.{Text}
use Rattle.rules.specs.Numbers.{room_for_step, origin}
use Rattle.rules.specs.Record.{words, bytes_of, set_number, record_of, mark, character_record}
use Rattle.rules.specs.Choice.{pick}
use Rattle.rules.specs.Text.{set_cursor, set_along, next_along, fits_next, enter, row_in, row_down, first_position, automatic_pair, advance, spaces, typed}
use Rattle.rules.specs.Text.{opposite, with_cursor, led, aligned, row_up, apb, home, return_in, feed_in, formatted, close_text}
use Rattle.rules.specs.Coding.{React, character, graphic}
use Rattle.rules.specs.Drawing.{rows, row_of, role_of, command_of, Outcome, Draw, and_then, complete, finish, with_pen, new_command, close, marked, control_record, act, is_open}
use Rattle.rules.proofs.Bools.{pick_yes, pick_no}
use Rattle.rules.proofs.RecordCount.{closed_close}
use Rattle.rules.proofs.TextLaws.{led_led}
use Rattle.records.specs.declared.Head.{Head}
use Rattle.records.specs.Bytes.{overwrite, head_bytes}
use Rattle.records.proofs.Heads.{record_bytes, head_code}
use Rattle.figures.specs.Carried.{Carried, drawing_of}
use Rattle.figures.specs.Tracing.{Inks, pen_at}
use Rattle.moves.specs.Advance.{Advances}
use Rattle.text_lines.specs.Line.{packed, unpacked, place_after, Straight}
use Rattle.figures.proofs.Carrying.{carry_one}
use Rattle.drawing_runs.specs.Run.{ActsAs, Run, none, more, standing}
use Rattle.drawing_runs.specs.Strokes.{rested}
use Rattle.drawing_runs.proofs.ActsLaws.{graphic_acts, format_acts}
use Rattle.line_runs.specs.declared.Common.{Common}
use Rattle.line_runs.specs.Characters.{last_character, AtOnce, ClosesTo, typed_pen, command_after, typed_state, IsCharacter, IsFormat, IsCommon, Typed, Puts, pen_of, Goes, TypedOn, line_moved, line_text}

last_least : (x : Repertoire) → last_character x ≤ 127
last_least Primary = omega arith
last_least Supplementary = omega arith
last_least Mosaic = omega arith
last_least Drcs = omega arith

-- Bytes up to the last are characters
prints : (x : Repertoire) (b : ℕ) → b ≤ last_character x → character x b ≡ Character x b
unfolding character
prints Primary b h = rw (ne_eqb b 127 (omega arith))
prints Supplementary b h = rw (ne_eqb b 127 (omega arith))
prints Mosaic b h = refl
prints Drcs b h = refl

acts : (x : Repertoire) (b : ℕ) → 32 ≤ b → b ≤ last_character x → ActsAs (Characters x) b (Character x b)
unfolding graphic
acts x b h g =
    graphic_acts (Characters x) b (Character x b) h (omega (arith, last_least x)) (λ c st. ap (React c st) (prints x b g)) (λ y. refl)

-- No character looks at a begun operand
advance_rested : (p : Pen) → advance (rested p) ≡ rested (advance p)
unfolding advance automatic_pair row_down row_in first_position enter set_along set_cursor
advance_rested p = by (fits_next p.text.settings.path p.text)
  where
    by : (t : Bool) → unfold advance automatic_pair row_down row_in first_position enter set_along set_cursor in
        (pick t (set_along p.text.settings.path (next_along p.text.settings.path p.text) (rested p)) (automatic_pair (rested p))
        ≡ rested (pick t (set_along p.text.settings.path (next_along p.text.settings.path p.text) p) (automatic_pair p)))
    by true = refl
    by false = refl

typed_rested : (x : Repertoire) (b : ℕ) (p : Pen) → typed x b (rested p) ≡ rested (typed x b p)
unfolding typed
typed_rested x b p = by (spaces x b)
  where
    by : (t : Bool) → pick t (advance (rested p)) (rested p) ≡ rested (pick t (advance p) p)
    by true = advance_rested p
    by false = refl

-- A byte closes, has a record of what closing leaves, and changes the pen by g
abbrev Marks : Action → (Pen → Pen) → (Drawing → Record) → Type 0
Marks a g r = (d : Drawing) → act a d ≡ marked r (λ e. with_pen (g e.pen) e) d

type_marks : (x : Repertoire) (b : ℕ) → Marks (Character x b) (typed x b) (λ e. character_record e.look (set_number x) b e.pen.text)
unfolding act
type_marks x b d = refl

format_marks : (f : Effector) (b : ℕ) → Marks (Format f b) (formatted f) (control_record b)
unfolding act
format_marks f b d = refl

-- Closing leaves the pen p, with no operand begun
closes : (n : ℕ) (p₀ p₁ p : Pen) (c : Command) (l : Look) (m : List ℕ) → ClosesTo p₀ c p₁ → (n ≡ 0 → p₁ ≡ p)
    → close (drawing_of (typed_pen n p₀ p) (command_after n c) l m) ≡ Draw (drawing_of (rested p) (new_command 0 origin) l m) []
unfolding is_open act
closes zero p₀ p₁ p c l m k e = k l m ∙ ap (λ (q : Pen). Draw (drawing_of (rested q) (new_command 0 origin) l m) []) (e refl)
closes (suc n) p₀ p₁ p c l m k e = closed_close (drawing_of (rested p) (new_command 0 origin) l m) refl

marks_drawn : (a : Action) (g : Pen → Pen) (r : Drawing → Record) (d e : Drawing) → Marks a g r → close d ≡ Draw e []
    → act a d ≡ Draw (with_pen (g e.pen) e) (r e ∷ [])
unfolding and_then
marks_drawn a g r d e marks k =
    marks d ∙ ap (λ (o : Outcome). and_then o (λ (f : Drawing). Draw (with_pen (g f.pen) f) (r f ∷ []))) k

-- One step more, that has a record and leaves the pen q
step_on : (k : Common) (bytes : List ℕ) (from at : ℕ) (first : List ℕ) (p₀ p₁ : Pen) (n : ℕ) (p q : Pen) (out : List ℕ) {out' : List ℕ}
    (a : Action) (g : Pen → Pen) (r : Drawing → Record)
    → Typed k bytes from at first p₀ p₁ n p out
    → ((l : Look) → IsCommon k l → ActsAs (Characters k.set) (get_or bytes (from + n) 0) a)
    → Marks a g r
    → g (rested p) ≡ rested q
    → at + (40 * n + room_for_step) ≤ length out
    → ((l : Look) (m : List ℕ) → IsCommon k l → out' ≡ overwrite (at + 40 * n) (bytes_of (r (drawing_of (rested p) (new_command 0 origin) l m))) out)
    → Typed k bytes from at first p₀ p₁ (n + 1) q out'
step_on k bytes from at first p₀ p₁ n p q out {out'} a g r before asks marks pen room wrote =
    record {
      begun = λ e. absurd (omega (arith, e));
      ran = λ c l m z t. rw (add-one n) (stepped c l m z t);
    }
  where
    stepped : (c : Command) (l : Look) (m : List ℕ) → ClosesTo p₀ c p₁ → IsCommon k l
        → Run (Characters k.set) bytes from (standing p₀ c l m at first) (suc n) (typed_state (suc n) p₀ q c l m at out')
    stepped c l m z t =
        let e = drawing_of (rested p) (new_command 0 origin) l m in
        let drew = marks_drawn a g r (typed_state n p₀ p c l m at out).drawing e marks (closes n p₀ p₁ p c l m z before.begun) in
        let ran = more (before.ran c l m z t) (asks l t) (omega arith) drew in
        let place : at + 40 * n + 40 ≡ at + 40 * suc n = omega arith in
        subst (Run (Characters k.set) bytes from (standing p₀ c l m at first) (suc n))
        (carry_one _ _ _ _ _ ∙ (λ i. record { refused = false; drawing = with_pen (pen i) e; at = place i; output = sym (wrote l m t) i }))
        ran

-- No format effector looks at a begun operand

apb_rested : (p : Pen) → apb (rested p) ≡ rested (apb p)
unfolding apb row_up row_in enter set_along set_cursor
apb_rested p = by (fits_next (opposite p.text.settings.path) p.text)
  where
    by : (t : Bool) → unfold apb row_up row_in enter set_along set_cursor in
        (pick t (set_along (opposite p.text.settings.path) (next_along (opposite p.text.settings.path) p.text) (rested p)) (row_up (enter (opposite p.text.settings.path) (rested p)))
        ≡ rested (pick t (set_along (opposite p.text.settings.path) (next_along (opposite p.text.settings.path) p.text) p) (row_up (enter (opposite p.text.settings.path) p))))
    by true = refl
    by false = refl

return_rested : (w : Pair) (p : Pen) → return_in w (rested p) ≡ rested (return_in w p)
unfolding return_in first_position enter set_along set_cursor
return_rested NoPair p = refl
return_rested Automatic p = refl
return_rested ReturnSeen p = refl
return_rested (FeedSeen c) p = refl

feed_rested : (w : Pair) (p : Pen) → feed_in w (rested p) ≡ rested (feed_in w p)
unfolding feed_in row_down row_in set_along set_cursor
feed_rested NoPair p = refl
feed_rested Automatic p = refl
feed_rested ReturnSeen p = refl
feed_rested (FeedSeen c) p = refl

format_rested : (f : Effector) (p : Pen) → formatted f (rested p) ≡ rested (formatted f p)
unfolding row_up row_in set_along set_cursor home
format_rested Apb p = apb_rested p
format_rested Apf p = advance_rested p
format_rested Apd p = feed_rested p.text.pair p
format_rested Apu p = refl
format_rested Cs p = refl
format_rested Apr p = return_rested p.text.pair p
format_rested Aph p = refl

-- One character more, by a record's head with its code, from a pen whose text has a cursor and a field
typed_on : (k : Common) (g : Head) (bytes : List ℕ) (from at : ℕ) (first : List ℕ) (p₀ p₁ : Pen) (n : ℕ) (p q : Pen) (cursor field : Point) (out : List ℕ) {out' : List ℕ}
    → Typed k bytes from at first p₀ p₁ n p out
    → 32 ≤ get_or bytes (from + n) 0
    → get_or bytes (from + n) 0 ≤ k.last
    → at + (40 * n + room_for_step) ≤ length out
    → head_bytes g ≡ set (head_bytes k.head) 7 (get_or bytes (from + n) 0)
    → p.text.cursor ≡ cursor
    → p.text.field ≡ field
    → out' ≡ overwrite (at + 40 * n) (head_bytes g ++ words cursor ++ words field ++ words origin ++ words k.pel) out
    → q ≡ typed k.set (get_or bytes (from + n) 0) p
    → Typed k bytes from at first p₀ p₁ (n + 1) q out'
unfolding character_record record_of
typed_on k g bytes from at first p₀ p₁ n p q cursor field out before least most room coded ce fe w f =
    let b = get_or bytes (from + n) 0 in
    let u = p.text in
    let x = k.set in
    step_on k bytes from at first p₀ p₁ n p q out (Character x b) (typed x b) (λ e. character_record e.look (set_number x) b e.pen.text) before (λ l t. acts x b least (rw t.last_is at most)) (type_marks x b) (typed_rested x b p ∙ ap rested (sym f)) room
    (λ l m t. let e = head_code g k.head l 6 0 (set_number x) 0 b u.cursor u.field origin (t.head_is u.cursor u.field origin) coded in
    w
    ∙ (λ i. overwrite (at + 40 * n) (head_bytes g ++ words (sym ce i) ++ words (sym fe i) ++ words origin ++ words (t.pel_is i)) out)
    ∙ ap (λ (bs : List ℕ). overwrite (at + 40 * n) bs out) (record_bytes (record_of l 6 0 (set_number x) b u.cursor u.field origin) g e))

-- The byte at a place, of a run over all the bytes
pub code_at : (bytes : List ℕ) (n : ℕ) → get_or bytes n 0 ≡ get_or bytes (0 + n) 0
code_at bytes n = ap (λ (i : ℕ). get_or bytes i 0) (omega arith)

-- The text goes on alone

-- The pen is aligned with the last text alone
align_twice : (t u : Text) (s : Pen) → t.settings ≡ u.settings → aligned t (aligned u s) ≡ aligned t s
align_twice t u s e =
    let m = t.settings.moving in
    let same = ap (λ (z : Settings). led z.moving u s.point) (sym e) in
    let point = ap (led m t) same ∙ led_led m t u s.point in
    λ i. record { point = point i; text = t; operand = s.operand }

advance_hand : (v : Bool) (t u : Text) (p : Pen) → (pen_of v t p).text ≡ t → Advances t u → advance (pen_of v t p) ≡ aligned u p
advance_hand true t u p e a = a.0 (aligned t p).point p.operand ∙ align_twice u t p a.1
advance_hand false t u p e a =
    ap advance (λ i. record { point = p.point; text = e i; operand = p.operand }) ∙ a.0 p.point p.operand

pub type_spacing : (x : Repertoire) (b : ℕ) (v : Bool) (t u : Text) → spaces x b ≡ true → Advances t u → TypedOn x b v t true u
unfolding typed
type_spacing x b v t u s a p e = (refl, sym (pick_yes (advance (pen_of v t p)) (pen_of v t p) s ∙ advance_hand v t u p e a))

pub type_accent : (x : Repertoire) (b : ℕ) (v : Bool) (t : Text) → spaces x b ≡ false → TypedOn x b v t v t
unfolding typed
type_accent x b v t s p e = (e, sym (pick_no (advance (pen_of v t p)) (pen_of v t p) s))

pub pen_moved : (v : Bool) (t : Text) (p q : Pen) → v ≡ true → q ≡ aligned t p → q ≡ pen_of v t p
pen_moved v t p q e f = subst (λ (z : Bool). q ≡ pen_of z t p) (sym e) f

pub pen_stays : (v : Bool) (t : Text) (p : Pen) → v ≡ false → p ≡ pen_of v t p
pen_stays v t p e = subst (λ (z : Bool). p ≡ pen_of z t p) (sym e) refl

module _ (k : Common) (bytes : List ℕ) (from at : ℕ) where
  pub goes_none : (n : ℕ) (v : Bool) (t : Text) (out : List ℕ) → Goes k bytes from at n v t out n v t out
  goes_none n v t out p e = (e, λ first p₀ p₁ r. r)

  pub goes_then : (n i j : ℕ) (v w z : Bool) (t u s : Text) (out out₁ out₂ : List ℕ)
      → Goes k bytes from at n v t out i w u out₁ → Goes k bytes from at i w u out₁ j z s out₂ → Goes k bytes from at n v t out j z s out₂
  goes_then n i j v w z t u s out out₁ out₂ g h p e =
      let a = g p e in
      let b = h p a.0 in
      (b.0, λ first p₀ p₁ r. b.1 first p₀ p₁ (a.1 first p₀ p₁ r))

  -- A character more
  pub goes_on : (g : Head) (n b : ℕ) (v w : Bool) (t u : Text) (cursor field : Point) (out out' : List ℕ)
      → b ≡ get_or bytes (from + n) 0
      → IsCharacter k b
      → at + (40 * n + room_for_step) ≤ length out
      → head_bytes g ≡ set (head_bytes k.head) 7 b
      → t.cursor ≡ cursor
      → t.field ≡ field
      → out' ≡ overwrite (at + 40 * n) (head_bytes g ++ words cursor ++ words field ++ words origin ++ words k.pel) out
      → TypedOn k.set b v t w u
      → Goes k bytes from at n v t out (n + 1) w u out'
  goes_on g n b v w t u cursor field out out' here is room coded ce fe wrote f p e =
      let a = subst (λ (z : ℕ). TypedOn k.set z v t w u) here f p e in
      let is_here = subst (IsCharacter k) here is in
      let coded_here = subst (λ (z : ℕ). head_bytes g ≡ set (head_bytes k.head) 7 z) here coded in
      (a.0, λ first p₀ p₁ r. typed_on k g bytes from at first p₀ p₁ n (pen_of v t p) (pen_of w u p) cursor field out r is_here.0 is_here.1 room coded_here (ap (λ (z : Text). z.cursor) e ∙ ce) (ap (λ (z : Text). z.field) e ∙ fe) wrote a.1)

  -- A format effector more
  pub format_on : (f : Effector) (n b : ℕ) (p q : Pen) (out out' : List ℕ)
      → b ≡ get_or bytes (from + n) 0
      → IsFormat f b
      → at + (40 * n + room_for_step) ≤ length out
      → ((l : Look) → Inks k.ink k.pel l → out' ≡ overwrite (at + 40 * n) (bytes_of (mark l 7 0 b p.point)) out)
      → q ≡ formatted f p
      → Puts k bytes from at n p out (n + 1) q out'
  format_on f n b p q out out' here is room wrote e first p₀ p₁ r =
      step_on k bytes from at first p₀ p₁ n p q out (Format f b) (formatted f) (control_record b) r (λ l t. subst (λ (z : ℕ). ActsAs (Characters k.set) z (Format f b)) here (format_acts (Characters k.set) f b is.0 is.1)) (format_marks f b) (format_rested f p ∙ ap rested (sym e)) room (λ l m t. wrote l t.ink_is)

  pub puts_none : (n : ℕ) (p : Pen) (out : List ℕ) → Puts k bytes from at n p out n p out
  puts_none n p out first p₀ p₁ r = r

  pub puts_then : (n i j : ℕ) (p q s : Pen) (out out₁ out₂ : List ℕ)
      → Puts k bytes from at n p out i q out₁ → Puts k bytes from at i q out₁ j s out₂ → Puts k bytes from at n p out j s out₂
  puts_then n i j p q s out out₁ out₂ g h first p₀ p₁ r = h first p₀ p₁ (g first p₀ p₁ r)

  -- The same of a text that goes on alone, with its pen
  pub goes_all : (n i : ℕ) (v w : Bool) (t u : Text) (p q : Pen) (out out' : List ℕ) → (pen_of v t p).text ≡ t → Goes k bytes from at n v t out i w u out' → q ≡ pen_of w u p
      → Puts k bytes from at n (pen_of v t p) out i q out'
  goes_all n i v w t u p q out out' h g e = subst (λ (z : Pen). Puts k bytes from at n (pen_of v t p) out i z out') (sym e) (g p h).1

-- On a line

line_advances : (i : ℕ) (t : Text) (step most c c' c₀ : ℕ) → i < most → Straight t most step → unpacked c₀ ≡ t.cursor → c ≡ place_after step c₀ i → c₀ ≡ packed t.cursor → c' ≡ (c + step) % 2 ^ 64
    → Advances (line_text i c t) (with_cursor (unpacked c') NoPair t)
line_advances zero t step most c c' c₀ h s ue ce pe e =
    let next : unpacked c' ≡ unpacked ((packed t.cursor + step) % 2 ^ 64) = ap unpacked (e ∙ ap (λ (z : ℕ). (z + step) % 2 ^ 64) (ce ∙ pe)) in
    let here : unpacked (packed t.cursor) ≡ t.cursor = ap unpacked (sym pe) ∙ ue in (
      (λ p o. subst (λ (z : Point). advance (record { point = p; text = with_cursor z t.pair t; operand = o }) ≡ aligned (with_cursor (unpacked c') NoPair t) (record { point = p; text = with_cursor z t.pair t; operand = o })) here
          (s 0 h p t.pair o ∙ ap (λ (z : Point). aligned (with_cursor z NoPair t) (record { point = p; text = t; operand = o })) (sym next))),
      refl,
    )
line_advances (suc i) t step most c c' c₀ h s ue ce pe e =
    let here : c ≡ place_after step (packed t.cursor) (suc i) = ce ∙ ap (λ (z : ℕ). place_after step z (suc i)) pe in
    let next : c' ≡ place_after step (packed t.cursor) (suc (suc i)) = e ∙ ap (λ (z : ℕ). (z + step) % 2 ^ 64) here in (
      (λ p o. subst (λ (z : ℕ). advance (record { point = p; text = with_cursor (unpacked z) NoPair t; operand = o }) ≡ aligned (with_cursor (unpacked c') NoPair t) (record { point = p; text = with_cursor (unpacked z) NoPair t; operand = o })) (sym here)
          (s (suc i) h p NoPair o ∙ ap (λ (z : ℕ). aligned (with_cursor (unpacked z) NoPair t) (record { point = p; text = t; operand = o })) (sym next))),
      refl,
    )

line_cursor : (i : ℕ) (t : Text) (step c c₀ : ℕ) → unpacked c₀ ≡ t.cursor → c ≡ place_after step c₀ i → (line_text i c t).cursor ≡ unpacked c
line_cursor zero t step c c₀ ue ce = sym ue ∙ ap unpacked (sym ce)
line_cursor (suc i) t step c c₀ ue ce = refl

line_field : (i c : ℕ) (t : Text) → (line_text i c t).field ≡ t.field
line_field zero c t = refl
line_field (suc i) c t = refl

-- A line begins at a text
abbrev pub LineFrom : Text → Point → ℕ → ℕ → ℕ → Type 0
LineFrom t field c₀ most step = (c₀ ≡ packed t.cursor) × (unpacked c₀ ≡ t.cursor) × (t.field ≡ field) × Straight t most step

-- The characters of a line up to the n-th: the packed cursor after them, and what they leave
pub record OnLine (k : Common) (bytes : List ℕ) (from at : ℕ) (t : Text) (step c₀ count : ℕ) (first : List ℕ) (n c : ℕ) (out : List ℕ) : Type 0 where
  pub done : ℕ
  pub reached : n ≡ count + done
  pub place : c ≡ place_after step c₀ done
  pub goes : (v : Bool) → Goes k bytes from at count v t first n (line_moved done v) (line_text done c t) out

module _ (k : Common) (bytes : List ℕ) (from at : ℕ) (t : Text) (step c₀ count : ℕ) (first : List ℕ) where
  pub line_none : OnLine k bytes from at t step c₀ count first count c₀ first
  line_none = record { done = 0; reached = omega arith; place = refl; goes = λ v. goes_none k bytes from at count v t first }

  pub line_on : (g : Head) (field : Point) (n b c c' end : ℕ) (out : List ℕ) {out' : List ℕ} → LineFrom t field c₀ (end - count) step
      → OnLine k bytes from at t step c₀ count first n c out
      → n < end → c' ≡ (c + step) % 2 ^ 64
      → b ≡ get_or bytes (from + n) 0
      → IsCharacter k b × (spaces k.set b ≡ true)
      → at + (40 * n + room_for_step) ≤ length out
      → head_bytes g ≡ set (head_bytes k.head) 7 b
      → (q : Point) → q ≡ unpacked c
      → out' ≡ overwrite (at + 40 * n) (head_bytes g ++ words q ++ words field ++ words origin ++ words k.pel) out
      → OnLine k bytes from at t step c₀ count first (n + 1) c' out'
  line_on g field n b c c' end out {out'} s o below e at_place is room coded q qe wrote =
      let i = o.done in
      let far : i < end - count = omega (arith, o.reached) in
      let u : Text = with_cursor (unpacked c') NoPair t in
      let a = line_advances i t step (end - count) c c' c₀ far s.3 s.1 o.place s.0 e in
      let here = line_cursor i t step c c₀ s.1 o.place ∙ sym qe in
      let one : (v : Bool) → Goes k bytes from at n (line_moved i v) (line_text i c t) out (n + 1) true u out'
      = λ v. goes_on k bytes from at g n b (line_moved i v) true (line_text i c t) u q field out out' at_place is.0 room coded here (line_field i c t ∙ s.2) wrote (type_spacing k.set b (line_moved i v) (line_text i c t) u is.1 a) in
      record {
        done = suc i;
        reached = omega (arith, o.reached);
        place = e ∙ ap (λ (z : ℕ). (z + step) % 2 ^ 64) o.place;
        goes = λ v. goes_then k bytes from at count n (n + 1) v (line_moved i v) true t (line_text i c t) u first out out' (o.goes v) (one v);
      }

  pub line_all : (n c : ℕ) (out : List ℕ) → OnLine k bytes from at t step c₀ count first n c out → (v : Bool) → Goes k bytes from at count v t first n (line_moved (n - count) v) (line_text (n - count) c t) out
  line_all n c out o v =
      let e : o.done ≡ n - count = omega (arith, o.reached) in
      subst (λ (i : ℕ). Goes k bytes from at count v t first n (line_moved i v) (line_text i c t) out) e (o.goes v)

-- What a line leaves, by whether a character was put
pub line_left : (k : Common) (bytes : List ℕ) (from at : ℕ) (count n : ℕ) (v : Bool) (t : Text) (c : ℕ) (out out' : List ℕ) → n ≡ count
    → Goes k bytes from at count v t out n (line_moved (n - count) v) (line_text (n - count) c t) out' → Goes k bytes from at count v t out count v t out'
line_left k bytes from at count n v t c out out' e g =
    let z : n - count ≡ 0 = omega (arith, e) in
    subst (λ (i : ℕ). Goes k bytes from at count v t out i v t out') e (subst (λ (i : ℕ). Goes k bytes from at count v t out n (line_moved i v) (line_text i c t) out') z g)

pub line_went : (k : Common) (bytes : List ℕ) (from at : ℕ) (count n : ℕ) (v : Bool) (t u : Text) (c : ℕ) (q : Point) (out out' : List ℕ) → (n ≡ count → ⊥) → count ≤ n → q ≡ unpacked c → u ≡ with_cursor q NoPair t
    → Goes k bytes from at count v t out n (line_moved (n - count) v) (line_text (n - count) c t) out' → Goes k bytes from at count v t out n true u out'
line_went k bytes from at count n v t u c q out out' h l qe ue g =
    let z : n - count ≡ suc (n - count - 1) = omega (arith, h) in
    let u' : u ≡ with_cursor (unpacked c) NoPair t = ue ∙ ap (λ (p : Point). with_cursor p NoPair t) qe in
    subst (λ (s : Text). Goes k bytes from at count v t out n true s out') (sym u') (subst (λ (i : ℕ). Goes k bytes from at count v t out n (line_moved i v) (line_text i c t) out') z g)

pub line_shorter : (t : Text) (most n step : ℕ) → n ≤ most → Straight t most step → Straight t n step
line_shorter t most n step h s i l p w o = s i (omega (arith, h, l)) p w o

-- Characters put from a run's start on
typed_none : (k : Common) (bytes : List ℕ) (from at : ℕ) (out : List ℕ) (p₀ p : Pen) → Typed k bytes from at out p₀ p 0 p out
typed_none k bytes from at out p₀ p = record { begun = λ _. refl; ran = λ c l m o t. rw (add-zero at) none }

pub puts_run : (x : Repertoire) (k : Common) (l : Look) (bytes : List ℕ) (from at : ℕ) (p₀ p q : Pen) (out out' : List ℕ) (n : ℕ) (c : Command)
    → k.set ≡ x → IsCommon k l → ClosesTo p₀ c p → Puts k bytes from at 0 p out n q out'
    → (m : List ℕ) → Run (Characters x) bytes from (standing p₀ c l m at out) n (typed_state n p₀ q c l m at out')
puts_run x k l bytes from at p₀ p q out out' n c e t o r m =
    subst (λ (z : Repertoire). Run (Characters z) bytes from (standing p₀ c l m at out) n (typed_state n p₀ q c l m at out')) e
    ((r out p₀ p (typed_none k bytes from at out p₀ p)).ran c l m o t)

-- At least one
pub some_more : (n i j : ℕ) → n ≤ i → i ≤ j → (n ≡ i → j ≡ i + 1) → n < j
some_more n i j h k one = by (ltb n i) refl
  where
    by : (t : Bool) → ltb n i ≡ t → n < j
    by true e = omega (arith, ltb-true n i e, k)
    by false e = omega (arith, one (omega (arith, ltb-false n i e, h)), h)

-- What a run leaves by its count

ran_nothing : {s : Set} {bytes : List ℕ} {from n : ℕ} {x y : Carried} → n ≡ 0 → Run s bytes from x n y → y ≡ x
ran_nothing e none = refl
ran_nothing e (more r a room d) = absurd (omega (arith, e))

pub ran_none : {s : Set} {bytes : List ℕ} {from : ℕ} (n : ℕ) (p₀ p : Pen) (c : Command) (l : Look) (m : List ℕ) (at : ℕ) (first out : List ℕ)
    → n ≡ 0 → Run s bytes from (standing p₀ c l m at first) n (typed_state n p₀ p c l m at out) → Run s bytes from (standing p₀ c l m at first) n (standing p₀ c l m at out)
ran_none {s} {bytes} {from} n p₀ p c l m at first out e r =
    let f : out ≡ first = ap (λ (z : Carried). z.output) (ran_nothing e r) in
    subst (λ (o : List ℕ). Run s bytes from (standing p₀ c l m at first) n (standing p₀ c l m at o)) (sym f)
    (subst (λ (i : ℕ). Run s bytes from (standing p₀ c l m at first) i (standing p₀ c l m at first)) (sym e) none)

pub ran_some : {s : Set} {bytes : List ℕ} {from : ℕ} {y : Carried} (n : ℕ) (p₀ p : Pen) (c : Command) (l : Look) (m : List ℕ) (at : ℕ) (out : List ℕ)
    {p' : Pen} {c' : Command} → (n ≡ 0 → ⊥) → p' ≡ rested p → c' ≡ new_command 0 origin
    → Run s bytes from y n (typed_state n p₀ p c l m at out) → Run s bytes from y n (standing p' c' l m (at + 40 * n) out)
ran_some zero p₀ p c l m at out h e f r = absurd (h refl)
ran_some (suc n) p₀ p c l m at out h e f r = rw (e, f) r

-- What closing leaves

text_closed : (n : Due) (p : Point) (t : Text) (bs : List ℕ) (v : ℕ) (a b : Point) (w : Bool) (l : Look) (m : List ℕ)
    → close (drawing_of (pen_at p t (record { bytes = bs; count = 0 })) (command_of 34 n v a b w) l m)
    ≡ Draw (drawing_of (rested (close_text n (pen_at p t (record { bytes = bs; count = 0 })))) (new_command 0 origin) l m) []
unfolding close complete finish and_then role_of row_of rows
text_closed First p t bs v a b w l m = refl
text_closed Second p t bs v a b w l m = refl
text_closed Third p t bs v a b w l m = refl
text_closed Past p t bs v a b w l m = refl

-- TEXT, whose closing makes the text u of t
pub text_closes : (c : Command) (t u : Text) → c.opcode ≡ 34
    → ((p : Point) (o : Operand) → close_text c.due (record { point = p; text = t; operand = o }) ≡ aligned u (record { point = p; text = t; operand = o }))
    → (p : Pen) → p.text ≡ t → AtOnce c p.operand → ((pen_of true u p).text ≡ u) × ClosesTo p c (pen_of true u p)
text_closes c t u e k p f h = (refl, closing)
  where
    none_begun : p.operand.count ≡ 0
    none_begun = (h (λ z. absurd (omega (arith, e, z)))).1

    closing : ClosesTo p c (pen_of true u p)
    closing l m =
        (λ i. close (drawing_of (pen_at p.point (f i) (record { bytes = p.operand.bytes; count = none_begun i })) (command_of (e i) c.due c.vertices c.start c.kept c.noted) l m))
        ∙ text_closed c.due p.point t p.operand.bytes c.vertices c.start c.kept c.noted l m
        ∙ ap (λ (q : Pen). Draw (drawing_of (rested q) (new_command 0 origin) l m) []) (k p.point (record { bytes = p.operand.bytes; count = 0 }))

-- No command
pub none_closes : (c : Command) (t : Text) → (c.opcode ≡ 34 → ⊥) → (p : Pen) → p.text ≡ t → AtOnce c p.operand → ((pen_of false t p).text ≡ t) × ClosesTo p c (pen_of false t p)
unfolding is_open act
none_closes c t e p f h = (f, closing)
  where
    none_open : c.opcode ≡ 0
    none_open = by (eqb c.opcode 0) refl
      where
        by : (b : Bool) → eqb c.opcode 0 ≡ b → c.opcode ≡ 0
        by true g = eqb-true c.opcode 0 g
        by false g = absurd (e (h (eqb-false c.opcode 0 g)).0)

    closing : ClosesTo p c (pen_of false t p)
    closing l m = closed_close (drawing_of p c l m) (rw none_open)
