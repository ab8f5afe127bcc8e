use Rattle.jzon_base.proofs.Common.{true}
use Rattle.jzon_tree.specs.Text.{pretty_layout}
use Rattle.jzon_tree.specs.View.{view}
use Rattle.jzon_tree.proofs.Laws.Unique.{sent_ok, sent_err}
use Rattle.jzon_tree.proofs.value.JsonValue.write_pretty.Goals as goal

pub returns-clause-ok : goal.returns-clause-ok
returns-clause-ok g c = sent_ok (pretty_layout c.args.spaces).line true (view c.args.self.now) _ _ c.write_in.result
    c.write_in.ensures.writing

pub returns-clause-err : goal.returns-clause-err
returns-clause-err g c = sent_err (pretty_layout c.args.spaces).line true (view c.args.self.now) _ _ c.write_in.result
    c.write_in.ensures.writing
