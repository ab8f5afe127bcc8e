use Rattle.std.proofs.Common.{◌∙◌, ◌++◌, ap, arith, string_bytes}
use Rattle.jzon_tools.proofs.DiffElements.{index-below}
use Rattle.jzon_tools.proofs.patch.changes.push_index.Goals as goal

pub returns-clause-below : goal.returns-clause-below
returns-clause-below c =
    index-below (string_bytes c.args.path.now) (string_bytes c.push_str.new.self) c.args.index
    (omega (arith, c.ranges.index.fits))
    (c.in_ok-push_str.ensures.bytes ∙ ap (λ t. string_bytes c.args.path.now ++ t)
    (c.as_str.ensures.value ∙ c.in_ok-token.ensures.ok))
