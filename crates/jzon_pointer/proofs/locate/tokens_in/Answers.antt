use Rattle.std.proofs.Common.{sym, arith}
use Rattle.std.proofs.lemmas.Str.Pattern.{strip_prefix_char}
use Rattle.jzon_pointer.proofs.TokenSteps.{no_slash}
use Rattle.jzon_pointer.proofs.locate.tokens_in.Goals as goal

pub returns-in-None-clause-tokens : goal.returns-in-None-clause-tokens
returns-in-None-clause-tokens c =
    let other =
    rw c.in-None.is at (strip_prefix_char 47 c.args.pointer.now c.strip_prefix.result c.strip_prefix.ensures.cases (omega arith)) in
    sym (no_slash c.args.pointer.now (grind arith) other)
