use Rattle.jzon_tree.specs.Private.Buffered.{untaken}
use Rattle.jzon_tree.proofs.Printing.HeldBytes.{held_passed, kept_then}
use Rattle.jzon_tree.proofs.codegen.buffered.Buffered.write_out_and_hold.Goals as goal

pub returns-in-Ok-clause-bytes : goal.returns-in-Ok-clause-bytes
returns-in-Ok-clause-bytes g c = (
  c.in-Ok.ensures.bound,
  kept_then _ _ _ _ c.write_out.ensures.bytes
      (held_passed g.S.Start.start c.write_out.new.self.inner.ghost_name c.in-Ok.count (untaken c.write_out.new.self)
      (untaken c.write_out.new.self) c.args.buf.now _ _ c.in_default.ensures.all c.in_default.ensures.all
      c.in-Ok.ensures.bytes),
)
