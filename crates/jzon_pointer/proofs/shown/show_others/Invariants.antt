use Rattle.std.proofs.Common.{map, take}
use Rattle.std.specs.Fmt.{HasWritten, IsPlainFormatter}
use Rattle.jzon_pointer.specs.Shown.{others_text}
use Rattle.jzon_pointer.proofs.shown.show_others.Given as goal

-- the names before the index are written
abbrev pub invariant-loop-name : goal.invariant-loop-name
invariant-loop-name g l =
    IsPlainFormatter l.fn.f
    → HasWritten g.W.Write.write_str_gives l.fn.f (others_text (map (λ n. n.now) (take l.name-index l.names))) l.f
