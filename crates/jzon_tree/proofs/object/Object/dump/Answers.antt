use Rattle.jzon_base.proofs.Common.{false, string_bytes}
use Rattle.jzon_tree.specs.Text.{compact_layout}
use Rattle.jzon_tree.specs.View.{view_object}
use Rattle.jzon_tree.proofs.Printing.MemoryTexts.{only_text}
use Rattle.jzon_tree.proofs.object.Object.dump.Goals as goal

pub returns-clause-text : goal.returns-clause-text
returns-clause-text c = only_text compact_layout.line false string_bytes (view_object c.args.self.now) _
    c.lay_out.ensures.writing
