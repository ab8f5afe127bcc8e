use Rattle.jzon_base.proofs.Common.{◌≡◌, ◌++◌, replicate}
use Rattle.jzon_base.proofs.util.print_dec.push_zeros.Given as goal

abbrev pub invariant-loop : goal.invariant-loop
invariant-loop l = l.text.bytes ≡ l.initial.text.bytes ++ replicate l.counter 48
