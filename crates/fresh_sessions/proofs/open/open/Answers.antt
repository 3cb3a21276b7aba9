use Rattle.std.specs.Prelude.{◌≡◌}
use Rattle.fresh_sessions.proofs.Prelude.{ℕ, ap, List, ne_eqb, eq-eqb}
use Rattle.rules.specs.Calls.{number_of, Terms, Opening, open_page, open_as, fresh_state}
use Rattle.rules.specs.Promises.{Opens, opening_of}
use Rattle.rules.specs.declared.Opened.{Opened}
use Rattle.fresh_sessions.proofs.open.open.Goals as goal

-- The number of the answer follows from all that is handed over; `number_tells` (rules, Numbers) says that it determines the answer
opens : {terms : Terms} {store left : List ℕ} {r : Opened} → opening_of r left ≡ open_page terms store → Opens terms store r left
opens e = record { number = ap (λ (o : Opening). number_of o.answer) e; same = e }

pub returns-then-store-ne-STORE_SIZE : goal.returns-then-store-ne-STORE_SIZE
unfolding open_page open_as
returns-then-store-ne-STORE_SIZE c = opens (simp (ne_eqb _ _ c.if-store-ne-STORE_SIZE.true, c.fresh_session-session.ensures))

pub returns : goal.returns
unfolding open_page open_as fresh_state
returns c = opens (simp (eq-eqb _ _ c.if-store-ne-STORE_SIZE.false, c.fresh_session-session-2.ensures, c.initialise.ensures))
