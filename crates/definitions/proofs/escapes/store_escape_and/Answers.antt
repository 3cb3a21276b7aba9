use Rattle.definitions.specs.Prelude.{sym, ◌∙◌, arith}
use Rattle.rules.specs.Store.{next_of}
use Rattle.definitions.proofs.EscapeLaws.{two_refused, first_stored, both_stored}
use Rattle.definitions.proofs.StoringLaws.{same_name}
use Rattle.std.proofs.Common.{rules}
use Rattle.std.proofs.lemmas.Result.{err_from_is_err_and}
use Rattle.definitions.proofs.escapes.store_escape_and.Goals as goal

pub store_byte-requires-2 : goal.store_byte-requires-2
store_byte-requires-2 c =
    (search rules, omega (arith, c.requires.1, same_name _ _ _ _ _ _ c.store_byte.ensures.stored c.in_ok-longer.was))

pub returns-in_err-room_for_two-clause-stored : goal.returns-in_err-room_for_two-clause-stored
unfolding next_of
returns-in_err-room_for_two-clause-stored c =
    let p = err_from_is_err_and c.from_residual.result c.from_residual.ensures.1 in
    rw (p.1, p.2) (two_refused _ _ c.requires.0 (omega arith) (c.slice_known-1.given 0).fits _ (sym c.in_err-room_for_two.was ∙ c.room_for_two.ensures))

pub returns-in_err-longer-clause-stored : goal.returns-in_err-longer-clause-stored
unfolding next_of
returns-in_err-longer-clause-stored c =
    absurd (first_stored _ c.args.byte c.requires.0 (omega arith) (c.slice_known-1.given 0).fits (sym c.in_ok-room_for_two.was ∙ c.room_for_two.ensures) _ _ _ c.store_byte.ensures.stored _ c.in_err-longer.was)

pub returns : goal.returns
unfolding next_of
returns c = let both = both_stored _ _ c.requires.0 (omega (arith, c.well_formed)) (c.slice_known-1.given 0).fits (sym c.in_ok-room_for_two.was ∙ c.room_for_two.ensures) _ _ _ c.store_byte.ensures.stored _ c.store_byte-2.result c.store_byte-2.new.firsts c.store_byte-2.new.store c.in_ok-longer.was c.store_byte-2.ensures.stored in record { stored = both.0; refused = both.1 }
