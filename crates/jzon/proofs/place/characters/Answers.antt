use Rattle.jzon_base.proofs.Common.{◌∙◌, ap, count_by}
use Rattle.jzon.specs.Private.Lines.{is_below}
use Rattle.jzon.proofs.Texts.ByteCounts.{characters_of}
use Rattle.jzon.proofs.place.characters.Goals as goal

pub returns-clause-count : goal.returns-clause-count
returns-clause-count c =
    c.count_below.ensures.count ∙ ap (count_by (is_below 127 192)) c.as_bytes.ensures.value
    ∙ characters_of c.args.text.now c.utf8.text c.type_inv.text
