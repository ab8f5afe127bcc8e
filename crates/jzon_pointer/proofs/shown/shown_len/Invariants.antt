use Rattle.std.proofs.Common.{◌≡◌, ◌-◌, ◌^◌, flat_map, length, min}
use Rattle.jzon_pointer.specs.Shown.{shown_char}
use Rattle.jzon_pointer.proofs.shown.shown_len.Given as goal

-- how many bytes the characters so far take
abbrev pub invariant-loop-ch : goal.invariant-loop-ch
invariant-loop-ch l = l.bytes ≡ min (length (flat_map shown_char l.yielded)) (2 ^ 64 - 1)
