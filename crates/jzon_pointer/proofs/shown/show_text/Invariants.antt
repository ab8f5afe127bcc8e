use Rattle.std.proofs.Common.{flat_map}
use Rattle.std.specs.Fmt.{HasWritten, IsPlainFormatter}
use Rattle.jzon_pointer.specs.Shown.{shown_char}
use Rattle.jzon_pointer.proofs.shown.show_text.Given as goal

-- the characters so far are written
abbrev pub invariant-loop-ch : goal.invariant-loop-ch
invariant-loop-ch g l =
    IsPlainFormatter l.fn.f → HasWritten g.W.Write.write_str_gives l.fn.f (flat_map shown_char l.yielded) l.f
