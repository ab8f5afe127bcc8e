use Rattle.jzon_tree.specs.View.{view}
use Rattle.jzon.proofs.PrintedTexts.{text_held, refusal_of}
use Rattle.jzon.proofs.conversions.stringify.Goals as goal

pub returns-clause-text : goal.returns-clause-text
returns-clause-text g c = text_held _ (view c.in_ok-into_json.field-0) _ _ c.dump.result
    c.in_ok-into_json.ensures.meant c.dump.ensures.value c.dump.ensures.text c.dump.ensures.writing

pub returns-clause-refusal : goal.returns-clause-refusal
returns-clause-refusal g c = refusal_of _ (view c.in_ok-into_json.field-0) c.dump.result
    c.in_ok-into_json.ensures.meant c.dump.ensures.memory c.dump.ensures.depth
