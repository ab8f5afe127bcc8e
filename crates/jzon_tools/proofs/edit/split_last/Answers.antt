use Rattle.std.proofs.Common.{arith}
use Rattle.std.specs.Option.{option_copied}
use Rattle.jzon_pointer.specs.Pointer.{tokens_left}
use Rattle.jzon_tools.proofs.LastSteps.{is-last, lacks-slash, no_slash-insert}
use Rattle.jzon_pointer.proofs.TokenSteps.{last-parts}
use Rattle.jzon_tools.proofs.edit.split_last.Goals as goal

pub no_parent-requires : goal.no_parent-requires
no_parent-requires c =
    lacks-slash c.args.path.now
    (rw c.in_default.is at (last-parts 47 c.args.path.now c.rsplit_once.result c.rsplit_once.ensures.cases (omega arith)))

pub returns-in_default-clause-nothing : goal.returns-in_default-clause-nothing
returns-in_default-clause-nothing c = λ w v. no_slash-insert w v c.args.path.now
    (rw c.in_default.is at (last-parts 47 c.args.path.now c.rsplit_once.result c.rsplit_once.ensures.cases (omega arith)))

pub returns-clause-last : goal.returns-clause-last
returns-clause-last c =
    let cut = rw c.in-Some.is at (last-parts 47 c.args.path.now c.rsplit_once.result c.rsplit_once.ensures.cases (omega arith)) in
    is-last c.args.path.now c.in-Some.parent.now c.in-Some.token.now (tokens_left (option_copied c.in_ok-left.left))
    cut.0 cut.1 c.in_ok-left.ensures.tokens
