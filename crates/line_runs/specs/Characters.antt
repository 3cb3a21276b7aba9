-- Runs of characters
use Rattle.std.specs.Prelude.{◌+◌, ◌*◌, ◌<◌, ◌≤◌, ◌≡◌, ◌≢◌}
use Rattle.line_runs.specs.Prelude.{ℕ, zero, suc, Bool, true, false, List, [], length, get_or}
use Rattle.rules.specs.declared.Command.{Command}
use Rattle.rules.specs.declared.Control.TheVariants.{Ignored, Formats}
use Rattle.rules.specs.declared.Effector.{Effector}
use Rattle.rules.specs.declared.Look.{Look}
use Rattle.rules.specs.declared.Operand.{Operand}
use Rattle.rules.specs.declared.Pair.TheVariants.{NoPair}
use Rattle.rules.specs.declared.Pen.{Pen}
use Rattle.rules.specs.declared.Point.{Point}
use Rattle.rules.specs.declared.Repertoire.{Repertoire}
use Rattle.rules.specs.declared.Repertoire.TheVariants.{Primary, Supplementary, Mosaic, Drcs}
use Rattle.rules.specs.declared.Set.TheVariants.{Characters}
use Rattle.rules.specs.declared.Text.{Text}
use Rattle.rules.specs.Numbers.{room_for_step, origin}
use Rattle.rules.specs.Record.{set_number, record_of}
use Rattle.rules.specs.Text.{with_cursor, aligned, typed}
use Rattle.rules.specs.Coding.{controls}
use Rattle.rules.specs.Drawing.{Draw, new_command, close}
use Rattle.records.specs.Bytes.{head_of, head_bytes}
use Rattle.figures.specs.Carried.{Carried, drawing_of}
use Rattle.figures.specs.Tracing.{Inks}
use Rattle.text_lines.specs.Line.{unpacked}
use Rattle.line_runs.specs.declared.Common.{Common}
use Rattle.drawing_runs.specs.Run.{Run, standing}
use Rattle.drawing_runs.specs.Strokes.{rested}

-- "7/15 of primary or supplementary does nothing"
abbrev pub last_character : Repertoire → ℕ
last_character Primary = 126
last_character Supplementary = 126
last_character Mosaic = 127
last_character Drcs = 127

-- A command closes at once with the pen p₀: no record is written, and the pen is p then, with no operand begun
abbrev pub ClosesTo : Pen → Command → Pen → Type 0
ClosesTo p₀ c p = (l : Look) (m : List ℕ) → close (drawing_of p₀ c l m) ≡ Draw (drawing_of (rested p) (new_command 0 origin) l m) []

-- No command is open, or TEXT is with no operand begun
abbrev pub AtOnce : Command → Operand → Type 0
AtOnce c o = (c.opcode ≢ 0) → (c.opcode ≡ 34) × (o.count ≡ 0)

-- What so many characters leave of the pen p₀ and of a command: the first closes
abbrev pub typed_pen : ℕ → Pen → Pen → Pen
typed_pen zero p₀ p = p₀
typed_pen (suc n) p₀ p = rested p

abbrev pub command_after : ℕ → Command → Command
command_after zero c = c
command_after (suc n) c = new_command 0 origin

-- A state after so many characters that left the pen p, their records written from a place on
abbrev pub typed_state : ℕ → Pen → Pen → Command → Look → List ℕ → ℕ → List ℕ → Carried
typed_state n p₀ p c l m at out = standing (typed_pen n p₀ p) (command_after n c) l m (at + 40 * n) out

-- Room for each of so many characters
abbrev pub Room : ℕ → ℕ → List ℕ → Type 0
Room at most out = (n : ℕ) → n < most → at + (40 * n + room_for_step) ≤ length out

-- A byte of a set's characters, and one that is a format effector
abbrev pub IsCharacter : Common → ℕ → Type 0
IsCharacter k b = (32 ≤ b) × (b ≤ k.last)

abbrev pub IsFormat : Effector → ℕ → Type 0
IsFormat f b = (b < 32) × (get_or controls b Ignored ≡ Formats f)

-- What the records of a run have in common, by a look
pub record IsCommon (k : Common) (l : Look) : Type 0 where
  pub ink_is : Inks k.ink k.pel l
  pub last_is : k.last ≡ last_character k.set
  pub head_is : (q r s : Point) → head_bytes k.head ≡ head_of (record_of l 6 0 (set_number k.set) 0 q r s)
  pub pel_is : k.pel ≡ l.domain.pel

-- n characters from a place on left the pen p; closing had left p₁
pub record Typed (k : Common) (bytes : List ℕ) (from at : ℕ) (first : List ℕ) (p₀ p₁ : Pen) (n : ℕ) (p : Pen) (out : List ℕ) : Type 0 where
  pub begun : n ≡ 0 → p₁ ≡ p
  pub ran : (c : Command) (l : Look) (m : List ℕ) → ClosesTo p₀ c p₁ → IsCommon k l
      → Run (Characters k.set) bytes from (standing p₀ c l m at first) n (typed_state n p₀ p c l m at out)

-- Where n characters left the pen p, n' leave p'
abbrev pub Puts : Common → List ℕ → ℕ → ℕ → ℕ → Pen → List ℕ → ℕ → Pen → List ℕ → Type 0
Puts k bytes from at n p out n' p' out' =
    (first : List ℕ) (p₀ p₁ : Pen) → Typed k bytes from at first p₀ p₁ n p out → Typed k bytes from at first p₀ p₁ n' p' out'

-- The pen whose text went on to t: its point is aligned where the cursor was moved
abbrev pub pen_of : Bool → Text → Pen → Pen
pen_of true t p = aligned t p
pen_of false t p = p

-- The same of a text that goes on alone, whatever pen it is of
abbrev pub Goes : Common → List ℕ → ℕ → ℕ → ℕ → Bool → Text → List ℕ → ℕ → Bool → Text → List ℕ → Type 0
Goes k bytes from at n v t out n' v' t' out' =
    (p : Pen) → (pen_of v t p).text ≡ t
    → ((pen_of v' t' p).text ≡ t') × Puts k bytes from at n (pen_of v t p) out n' (pen_of v' t' p) out'

-- A character leaves the text t' of t
abbrev pub TypedOn : Repertoire → ℕ → Bool → Text → Bool → Text → Type 0
TypedOn x b v t v' t' = (p : Pen) → (pen_of v t p).text ≡ t → ((pen_of v' t' p).text ≡ t') × (pen_of v' t' p ≡ typed x b (pen_of v t p))

-- What i characters on a line leave of a text, the packed cursor after them c
abbrev pub line_moved : ℕ → Bool → Bool
line_moved zero v = v
line_moved (suc i) v = true

abbrev pub line_text : ℕ → ℕ → Text → Text
line_text zero c t = t
line_text (suc i) c t = with_cursor (unpacked c) NoPair t
