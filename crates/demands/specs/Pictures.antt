-- A page opened, read by feed calls and ended: the calls, and the picture that they draw
use Rattle.std.specs.Prelude.{◌+◌, ◌≤◌, ◌≡◌, ◌++◌}
use Rattle.demands.specs.Prelude.{ℕ, List, length, take, drop}
use Rattle.rules.specs.declared.Answer.{Answer}
use Rattle.rules.specs.declared.Answer.TheVariants.{Done, Full, Refused}
use Rattle.rules.specs.Numbers.{store_size}
use Rattle.rules.specs.Reading.{NotRefused}
use Rattle.rules.specs.Calls.{Terms, open_page, Handed, end}
use Rattle.rules.specs.Expansion.{expansion, end_page, Accepted, all_records, SameState}
use Rattle.demands.specs.Cuts.{fed_cuts}

-- What an end after calls that came to h comes to, into the rest of the output
abbrev pub end_more : Handed → Handed
end_more h =
    let e = end h.state (drop h.written h.output) in
    record {
      answer = e.answer;
      state = e.state;
      consumed = h.consumed;
      written = h.written + e.written;
      output = take h.written h.output ++ e.output;
    }

-- An end where the calls read all they were lent; else what they came to
unfoldable pub end_after : Answer → Handed → Handed
end_after Done h = end_more h
end_after Full h = h
end_after (Refused r) h = h

abbrev pub end_done : Handed → Handed
end_done h = end_after h.answer h

-- An open, feed calls from the session and store that it hands over, and an end
unfoldable pub drawn_cuts : Terms → List ℕ → List ℕ → List ℕ → List ℕ → List ℕ → Handed
drawn_cuts terms store page lengths rooms out = end_done (fed_cuts (open_page terms store).state page lengths rooms out)

abbrev pub records_of : Handed → List ℕ
records_of h = take h.written h.output

-- What the calls came to, lent a store to open and these bytes in all, in an output that was out: where all answered done, the page
-- is accepted, and records and state are those of the page as one piece; where the page is accepted, none is refused
pub record Draws (terms : Terms) (store bytes out : List ℕ) (h : Handed) : Type 0 where
  pub accepted : h.answer ≡ Done → Accepted terms bytes
  pub records : h.answer ≡ Done → records_of h ≡ all_records terms bytes
  pub state : h.answer ≡ Done → h.state ≡ (end_page terms bytes).state
  pub not_refused : length store ≡ store_size → Accepted terms bytes → NotRefused h.answer
  pub within : h.written ≤ length out

-- Demand 3, macros: calls that came to h read a page, all answered done, and calls that came to k are lent its expansion
pub record DrawnAlike (terms : Terms) (bytes : List ℕ) (h k : Handed) : Type 0 where
  pub accepted : Accepted terms (expansion terms bytes)
  pub not_refused : NotRefused k.answer
  pub records : k.answer ≡ Done → records_of h ≡ records_of k
  pub state : k.answer ≡ Done → SameState h.state k.state
