use Rattle.std.proofs.KnownBytes.{Keeps-trans}
use Rattle.jzon_tree.specs.Private.Buffer.{buffer_items}
use Rattle.jzon_tree.proofs.Printing.HeldBytes.{held_moved}
use Rattle.jzon_tree.proofs.codegen.buffered.Buffered.write_out.Goals as goal

pub loop-self-preserved : goal.loop-self-preserved
loop-self-preserved g c = Keeps-trans _ _ _ c.loop-self.invariant
    (held_moved g.S.Start.start c.loop-self.self.inner.ghost_name c.loop-self.self.taken c.in_ok-count.count
    (buffer_items c.loop-self.self.buffer) c.as_slice.result.now _ _ c.as_slice.ensures c.in_ok-count.ensures.bytes)
