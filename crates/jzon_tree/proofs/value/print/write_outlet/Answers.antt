use Rattle.jzon_base.proofs.Common.{refl, rules}
use Rattle.jzon_tree.specs.View.{view}
use Rattle.jzon_tree.proofs.Laws.Unique.{given_back}
use Rattle.jzon_tree.proofs.value.print.write_outlet.Goals as goal

pub returns-clause-writing : goal.returns-clause-writing
returns-clause-writing g c = given_back (g.L.Layout.style c.args.layout) (view c.args.json.now) g.W.Write.contents _ _ _ _
    c.write_json-answer.result _ _ _ _ c.over-generator.ensures c.write_json-answer.ensures.written refl refl
    (λ name. search rules) refl
