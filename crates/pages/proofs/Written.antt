-- What a call says it wrote is in the output that it was lent
use Rattle.std.specs.Prelude.{◌≤◌, List, ℕ, length}
use Rattle.std.proofs.Common.{ap, arith}
use Rattle.rules.specs.declared.Fed.{Fed}
use Rattle.rules.specs.declared.Ended.{Ended}
use Rattle.rules.specs.Step.{State}
use Rattle.rules.specs.Calls.{Handed, feed, end}
use Rattle.rules.specs.Promises.{Feeds, Ends}
use Rattle.rules.proofs.CallLaws.{feed_kept, end_kept}

pub fed_within : {w : State} {piece out : List ℕ} {r : Fed} {left written : List ℕ} → Feeds w piece out r left written
    → r.written ≤ length out
unfolding feed
fed_within {w = w} {piece = piece} {out = out} f =
    let k = (feed_kept w piece (length out)).written in
    omega (arith, k, ap (λ (h : Handed). h.written) f.same)

pub ended_within : {w : State} {out : List ℕ} {r : Ended} {written : List ℕ} → Ends w out r written → r.written ≤ length out
unfolding end
ended_within {w = w} {out = out} f =
    let k = (end_kept w (length out)).written in
    omega (arith, k, ap (λ (h : Handed). h.written) f.same)
