-- What each call promises: its number, and all that it hands over, are those of the rules. One name for each call, cited by its
-- contract and by whoever calls it
use Rattle.std.specs.Prelude.{◌≡◌}
use Rattle.rules.specs.Prelude.{ℕ, List}
use Rattle.rules.specs.Types.{Session, Refusal, Result, Opened, Fed, Ended·handed}
use Rattle.rules.specs.Step.{State, state_lent}
use Rattle.rules.specs.Calls.{number_of, Terms, Opening, open_page, Handed, feed, end, colour, shade_number, shade_values}

-- What the calls answer, with the store and the output that they leave
abbrev pub opening_of : Opened → List ℕ → Opening
opening_of r st = record { answer = r.answer; state = state_lent r.session st }

abbrev pub handed_of : Fed → List ℕ → List ℕ → Handed
handed_of r st out =
    record {
      answer = r.answer;
      state = state_lent r.session st;
      consumed = r.consumed;
      written = r.written;
      output = out;
    }

-- End consumes nothing and leaves the store
abbrev pub ending_of : Ended·handed → List ℕ → List ℕ → Handed
ending_of r st out =
    record {
      answer = r.answer;
      state = state_lent r.session st;
      consumed = 0;
      written = r.written;
      output = out;
    }

-- Open, lent a store; left is the store as it is left
pub record Opens (terms : Terms) (store : List ℕ) (r : Opened) (left : List ℕ) : Type 0 where
  pub number : number_of r.answer ≡ number_of (open_page terms store).answer
  pub same : opening_of r left ≡ open_page terms store

-- Feed, lent the session and store w, a piece and an output; left and written are the store and the output as they are left
pub record Feeds (w : State) (piece out : List ℕ) (r : Fed) (left written : List ℕ) : Type 0 where
  pub number : number_of r.answer ≡ number_of (feed w piece out).answer
  pub same : handed_of r left written ≡ feed w piece out

-- End, lent the session and store w and an output; it only reads the store
pub record Ends (w : State) (out : List ℕ) (r : Ended·handed) (written : List ℕ) : Type 0 where
  pub number : number_of r.answer ≡ number_of (end w out).answer
  pub same : ending_of r w.store written ≡ end w out

-- Colour, of a session and an address
pub record Shades (s : Session) (address : ℕ) (r : Result (List ℕ) Refusal) : Type 0 where
  pub number : shade_number r ≡ shade_number (colour s address)
  pub values : shade_values r ≡ shade_values (colour s address)
  pub same : r ≡ colour s address
