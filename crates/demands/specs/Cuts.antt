-- A page cut into feed calls: what one call more comes to, and what the calls come to together
use Rattle.std.specs.Prelude.{◌+◌, ◌-◌, ◌≤◌, ◌≡◌, ◌∷◌, ◌++◌}
use Rattle.demands.specs.Prelude.{ℕ, min, List, [], length, get_or, take, drop}
use Rattle.rules.specs.declared.Answer.TheVariants.{Done, Full}
use Rattle.rules.specs.Step.{State, remove_spent, NothingLeft, seek}
use Rattle.rules.specs.Reading.{Steps, rests, read_to, undivided}
use Rattle.rules.specs.Calls.{Handed, handed, feed, unread}

-- The sum of the numbers, however large
unfoldable pub total : List ℕ → ℕ
total [] = 0
total (n ∷ ns) = n + total ns

-- The bytes of a page that calls of these lengths are lent in all
abbrev pub lent_of : List ℕ → List ℕ → List ℕ
lent_of page lengths = take (total lengths) page

-- What a feed of what is unread of the page's first lent bytes comes to, into out[written..edge], after calls that came to h: counts
-- added up, the rest of the output as it was
abbrev pub fed_more : Handed → List ℕ → ℕ → ℕ → Handed
fed_more h page lent edge =
    let f = feed h.state (unread (take lent page) h.consumed) (take (edge - h.written) (drop h.written h.output)) in
    record {
      answer = f.answer;
      state = f.state;
      consumed = h.consumed + f.consumed;
      written = h.written + f.written;
      output = take h.written h.output ++ (f.output ++ drop edge h.output);
    }

-- A call for each length n: n further bytes of the page, after lent of them, and the next bytes of the output, as many as the room at
-- its place, each as far as there are so many
unfoldable pub fed_all : Handed → List ℕ → ℕ → List ℕ → List ℕ → Handed
fed_all h page lent [] rooms = h
fed_all h page lent (n ∷ ns) rooms =
    let next = min (lent + n) (length page) in
    fed_all (fed_more h page next (min (h.written + get_or rooms 0 0) (length h.output))) page next ns (drop 1 rooms)

-- At least one call
abbrev pub some_of : List ℕ → List ℕ
some_of [] = 0 ∷ []
some_of (n ∷ ns) = n ∷ ns

-- What the calls from the state w come to
unfoldable pub fed_cuts : State → List ℕ → List ℕ → List ℕ → List ℕ → Handed
fed_cuts w page lengths rooms out = fed_all (handed (rests Done w) out) page 0 (some_of lengths) rooms

-- Demand 3, cutting, of calls from the state w that were lent these bytes in all, and came to h in an output that was out: answer,
-- session, store, bytes consumed and written and the output are those of the undivided reading; where the answer is full, those of
-- the reading after as many accepted steps as the session counts more than at first, with spent bodies removed and something left
-- to read
pub record Undivided (w : State) (bytes out : List ℕ) (h : Handed) : Type 0 where
  pub not_full : (h.answer ≡ Full → ⊥) → h ≡ handed (undivided w bytes) out
  pub full : h.answer ≡ Full → h ≡ handed (read_to (Steps (h.state.session.steps - w.session.steps)) w bytes) out
  pub removed : h.answer ≡ Full → remove_spent h.state ≡ h.state
  pub left : h.answer ≡ Full → seek h.state (drop h.consumed bytes) ≡ NothingLeft → ⊥
  pub within : h.written ≤ length out
