-- The number of an answer follows from all that is handed over; `number_tells` (rules, Numbers) says that it determines the answer
use Rattle.std.specs.Prelude.{◌≡◌}
use Rattle.reader.specs.Prelude.{ℕ, ap, List}
use Rattle.rules.specs.Step.{State}
use Rattle.rules.specs.Calls.{number_of, Handed, feed, end}
use Rattle.rules.specs.declared.Fed.{Fed}
use Rattle.rules.specs.Promises.{handed_of}
use Rattle.rules.specs.declared.Ended.{Ended}
use Rattle.rules.specs.Promises.{ending_of}
use Rattle.rules.specs.Promises.{Feeds, Ends}

pub feeds : {w : State} {piece out left written : List ℕ} {r : Fed} → handed_of r left written ≡ feed w piece out → Feeds w piece out r left written
feeds e = record { number = ap (λ (h : Handed). number_of h.answer) e; same = e }

pub ends : {w : State} {out written : List ℕ} {r : Ended} → ending_of r w.store written ≡ end w out → Ends w out r written
ends e = record { number = ap (λ (h : Handed). number_of h.answer) e; same = e }
