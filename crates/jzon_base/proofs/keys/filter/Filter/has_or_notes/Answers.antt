use Rattle.jzon_base.proofs.Common.{◌∙◌, sym}
use Rattle.jzon_base.specs.Private.Filter.{HasBit}
use Rattle.jzon_base.proofs.KeyIndex.Filters.{missing_by}
use Rattle.jzon_base.proofs.keys.filter.Filter.has_or_notes.Goals as goal

pub returns-else-set_bit-clause-known : goal.returns-else-set_bit-clause-known
returns-else-set_bit-clause-known c =
    c.if-set_bit.false ∙ sym (missing_by (HasBit c.args.self.now.words) c.args.keys.now c.args.name.now c.set_bit.result
    c.requires c.set_bit.ensures.known c.if-set_bit.false)
