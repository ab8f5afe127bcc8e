use Rattle.std.proofs.Common.{◌≡◌, ◌-◌, ◌^◌, min, length}
use Rattle.std.specs.Fmt.{HasWritten, IsPlainFormatter}
use Rattle.jzon_pointer.specs.Shown.{pieces}
use Rattle.jzon_pointer.proofs.shown.show_cut.Given as goal

-- the characters so far are written and counted
abbrev pub invariant-loop-ch : goal.invariant-loop-ch
invariant-loop-ch g l = record {
  counted : l.at ≡ min (length l.yielded) (2 ^ 64 - 1);
  written : IsPlainFormatter l.fn.f
      → HasWritten g.W.Write.write_str_gives l.fn.f (pieces l.front l.last 0 l.yielded) l.f;
}
