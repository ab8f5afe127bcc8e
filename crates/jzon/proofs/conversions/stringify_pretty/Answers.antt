use Rattle.jzon_tree.specs.View.{view}
use Rattle.jzon.proofs.PrintedTexts.{text_held, refusal_of}
use Rattle.jzon.proofs.conversions.stringify_pretty.Goals as goal

pub returns-clause-text : goal.returns-clause-text
returns-clause-text g c = text_held _ (view c.in_ok-into_json.field-0) _ _ c.pretty.result
    c.in_ok-into_json.ensures.meant c.pretty.ensures.value c.pretty.ensures.text c.pretty.ensures.writing

pub returns-clause-refusal : goal.returns-clause-refusal
returns-clause-refusal g c = refusal_of _ (view c.in_ok-into_json.field-0) c.pretty.result
    c.in_ok-into_json.ensures.meant c.pretty.ensures.memory c.pretty.ensures.depth
