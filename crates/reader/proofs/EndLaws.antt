-- What end hands over
use Rattle.std.specs.Prelude.{◌≡◌, Result, Ok, Err}
use Rattle.reader.specs.Prelude.{ℕ, refl, sym, ap, ◌∙◌, List, length}
use Rattle.rules.specs.declared.Answer.TheVariants.{Refused}
use Rattle.rules.specs.declared.Ended.{Ended as End}
use Rattle.rules.specs.declared.Refusal.{Refusal}
use Rattle.rules.specs.declared.Session.{Session}
use Rattle.rules.specs.Step.{State, state_lent}
use Rattle.rules.specs.Reading.{tests, Valid}
use Rattle.rules.specs.Calls.{handed, end_checks, ending, end}
use Rattle.rules.specs.Promises.{ending_of}
use Rattle.rules.proofs.Steps.{tests_valid}

-- What is lent fails a test and is handed back, or passes them and is ended
module _ (s : Session) (st out : List ℕ) (v : Result (Unit {0}) Refusal) (e : v ≡ tests (state_lent s st)) where
  pub end_fails : (r : Refusal) (x : End) → v ≡ Err r → x ≡ record { answer = Refused r; written = 0; session = s }
      → ending_of x st out ≡ end (state_lent s st) out
  unfolding end ending end_checks
  end_fails r x h k = ap (λ (z : End). ending_of z st out) k ∙ rw (sym e ∙ h)

  pub end_valid : v ≡ Ok tt → Valid (state_lent s st)
  end_valid h = tests_valid (state_lent s st) (sym e ∙ h)

pub end_is : (w : State) (out : List ℕ) → handed (ending (length out) w) out ≡ end w out
unfolding end
end_is w out = refl
