use Rattle.std.proofs.lemmas.Iterator.{YieldsList-from_slice}
use Rattle.std.proofs.lemmas.Iterator.Search.{all_from_yields_List}
use borrow.Author.Tests.{tests}
use Rattle.ranges.specs.Prelude.{◌∙◌, rules}
use Rattle.ranges.proofs.RangeLaws.{places_each}
use Rattle.ranges.proofs.stack.places_fit.Goals as goal

pub returns : goal.returns
returns c =
    all_from_yields_List _ _ _ _ c.all.ensures.ran (YieldsList-from_slice c.args.cursors.now cc) (λ x b q k. search (rules, tests)) ∙ places_each c.args.cursors.now
