use Rattle.std.proofs.Common.{refl, arith}
use Rattle.std.proofs.lemmas.Str.Pattern.{strip_prefix_char}
use Rattle.jzon_pointer.proofs.TokenSteps.{no_slash}
use Rattle.jzon_pointer.proofs.token.after_slash.Goals as goal

pub returns-in-None-clause-none : goal.returns-in-None-clause-none
returns-in-None-clause-none c =
    let other =
    rw c.in-None.is at (strip_prefix_char 47 c.args.path.now c.strip_prefix.result c.strip_prefix.ensures.cases (omega arith)) in
    (refl, no_slash c.args.path.now (grind arith) other)
