use Rattle.jzon_base.proofs.Common.{true, string_bytes}
use Rattle.jzon_tree.specs.Text.{pretty_layout}
use Rattle.jzon_tree.specs.View.{view_object}
use Rattle.jzon_tree.proofs.Printing.MemoryTexts.{only_text}
use Rattle.jzon_tree.proofs.object.Object.pretty.Goals as goal

pub returns-clause-text : goal.returns-clause-text
returns-clause-text c = only_text (pretty_layout c.args.spaces).line true string_bytes (view_object c.args.self.now) _
    c.lay_out.ensures.writing
