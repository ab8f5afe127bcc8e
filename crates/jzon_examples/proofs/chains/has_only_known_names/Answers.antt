use borrow.Author.Tests.{tests}
use Rattle.std.proofs.Common.{◌||◌, codes, rules}
use Rattle.std.proofs.lemmas.Iterator.Search.{all_from_yields_List}
use Rattle.std.specs.Str.{bytes_eq}
use Rattle.jzon.proofs.Chains.{YieldsList-from_entries}
use Rattle.jzon_examples.proofs.chains.has_only_known_names.Goals as goal

pub returns : goal.returns
returns c =
    all_from_yields_List (λ p. bytes_eq p.0 (codes "name") || bytes_eq p.0 (codes "port")) _ _ _ c.all.ensures.ran
    (YieldsList-from_entries _ c.entries.ensures) (λ x b q k. search (rules, tests))
