use Rattle.std.proofs.Common.{ap, ◌∙◌, arith}
use Rattle.std.proofs.lemmas.Str.Pattern.{split_parts}
use Rattle.jzon_pointer.specs.Pointer.{tokens_in}
use Rattle.jzon_pointer.proofs.TokenSteps.{tokens-first, tokens-only}
use Rattle.jzon_pointer.proofs.token.first_token.Goals as goal

pub returns-in-Some-clause-tokens : goal.returns-in-Some-clause-tokens
returns-in-Some-clause-tokens c =
    let cut = rw c.in-Some.is at (split_parts 47 c.args.text.now c.split_once.result c.split_once.ensures.cases (omega arith)) in
    ap tokens_in cut.0 ∙ tokens-first _ _ cut.1

pub returns-in-None-clause-tokens : goal.returns-in-None-clause-tokens
returns-in-None-clause-tokens c =
    tokens-only _
    (rw c.in-None.is at (split_parts 47 c.args.text.now c.split_once.result c.split_once.ensures.cases (omega arith)))
