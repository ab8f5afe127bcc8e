use borrow.Author.Tests.{tests}
use Rattle.std.proofs.Common.{rules}
use Rattle.std.proofs.lemmas.Iterator.Search.{position_from_yields_List}
use Rattle.jzon.specs.Readers.{is_null}
use Rattle.jzon.proofs.Chains.{YieldsList-from_elements}
use Rattle.jzon_examples.proofs.chains.first_null.Goals as goal

pub returns : goal.returns
returns c =
    position_from_yields_List is_null _ _ _ c.position.ensures.ran
    (YieldsList-from_elements _ c.members.ensures) (λ x b q k. search (rules, tests))
