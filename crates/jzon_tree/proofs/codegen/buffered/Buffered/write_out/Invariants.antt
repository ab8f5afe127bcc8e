use Rattle.jzon_base.proofs.Common.{◌-◌}
use Rattle.std.specs.Io.KnownBytes.{Keeps}
use Rattle.jzon_tree.specs.Private.Buffered.{held}
use Rattle.jzon_tree.proofs.codegen.buffered.Buffered.write_out.Given as goal

-- the contents held don't change
abbrev pub invariant-loop-self : goal.invariant-loop-self
invariant-loop-self g l = Keeps (held g.W.Write.contents g.S.Start.start l.initial.self)
    (held g.W.Write.contents g.S.Start.start l.self)

abbrev pub decreases-loop-self : goal.decreases-loop-self
decreases-loop-self g l = l.self.buffer.len - l.self.taken
