use Rattle.jzon_base.proofs.Common.{◌≡◌, ℕ, ◌≤◌, ◌<◌, get_or}
use Rattle.jzon_base.specs.Tokens.{zero_digit}
use Rattle.jzon_base.proofs.digits.first_nonzero.Given as goal

abbrev pub invariant-loop-i : goal.invariant-loop-i
invariant-loop-i l = (j : ℕ) → l.start ≤ j → j < l.i → get_or l.digits j 0 ≡ zero_digit
