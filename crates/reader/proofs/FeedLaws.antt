-- Feed, by the outcome of the tests; and of what is unread of a piece
use Rattle.std.specs.Prelude.{◌≡◌, ◌-◌, Result, Ok, Err}
use Rattle.reader.specs.Prelude.{sym, ◌∙◌, subst, List, ℕ, min, length, take, drop}
use Rattle.rules.specs.declared.Refusal.{Refusal}
use Rattle.rules.specs.declared.Session.{Session}
use Rattle.rules.specs.declared.Answer.TheVariants.{Refused}
use Rattle.rules.specs.Reading.{Room, reading, tests, Valid}
use Rattle.rules.specs.Step.{State, state_lent}
use Rattle.rules.specs.Calls.{handed, feed, unread}
use Rattle.queries.proofs.QueryLaws.{unread_part}
use Rattle.rules.proofs.Steps.{tests_valid}
use Rattle.rules.proofs.Readings.{reads_failed, reads_passed}
use Rattle.rules.specs.declared.Fed.{Fed}
use Rattle.rules.specs.Promises.{handed_of}
use Rattle.rules.specs.Promises.{Feeds}

-- Feed: what is lent fails a test and is handed back, or passes them and is read
module _ (s : Session) (st piece out : List ℕ) (v : Result (Unit {0}) Refusal) (e : v ≡ tests (state_lent s st)) where
  pub feed_fails : (r : Refusal) → v ≡ Err r → handed_of (record { answer = Refused r; consumed = 0; written = 0; session = s }) st out ≡ feed (state_lent s st) piece out
  unfolding feed
  feed_fails r h = rw (reads_failed (Room (length out)) (state_lent s st) piece (sym e ∙ h))

  pub feed_valid : v ≡ Ok tt → Valid (state_lent s st)
  feed_valid h = tests_valid (state_lent s st) (sym e ∙ h)

  pub feed_passes : v ≡ Ok tt → handed (reading (Room (length out)) (s.budget - s.steps) (state_lent s st) piece) out ≡ feed (state_lent s st) piece out
  unfolding feed
  feed_passes h = rw (reads_passed (Room (length out)) (state_lent s st) piece (sym e ∙ h))

-- A feed of the part of a piece from where it is unread is a feed of what is unread
pub fed_from : {w : State} (piece : List ℕ) {out left written : List ℕ} {r : Fed} (consumed from : ℕ) → from ≡ min consumed (length piece)
    → Feeds w (take (length piece - from) (drop from piece)) out r left written → Feeds w (unread piece consumed) out r left written
fed_from {w = w} piece {out = out} {left = left} {written = written} {r = r} consumed from e f =
    subst (λ (p : List ℕ). Feeds w p out r left written) (unread_part piece consumed from e) f
