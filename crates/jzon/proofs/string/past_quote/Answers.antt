use Rattle.jzon_base.proofs.Common.{refl, sym, subst, iff_false}
use Rattle.jzon.specs.Private.Machine.{Reports}
use Rattle.jzon.proofs.Strings.Quotes.{quote_closes, quote_ends, string_stops}
use Rattle.jzon.proofs.string.past_quote.Goals as goal

pub returns-then-has_byte-clause-quote : goal.returns-then-has_byte-clause-quote
returns-then-has_byte-clause-quote c =
    let here = c.has_byte.ensures.0 c.if-has_byte.true in
    (refl, quote_ends c.args.source.now c.args.index c.utf8.source c.requires.boundary here)

pub returns-then-has_byte-clause-outcome : goal.returns-then-has_byte-clause-outcome
returns-then-has_byte-clause-outcome c r role bs =
    let here = c.has_byte.ensures.0 c.if-has_byte.true in
    quote_closes r role bs c.args.source.now c.args.index c.utf8.source c.requires.boundary here.0 here.1

pub returns-else-has_byte-clause-outcome : goal.returns-else-has_byte-clause-outcome
returns-else-has_byte-clause-outcome c r role bs =
    subst (Reports c.args.source.now c.fault_at.result)
    (sym (string_stops r role bs c.args.source.now c.args.index c.utf8.source c.requires.boundary c.requires.stop
    c.requires.no_escape
    (iff_false c.has_byte.ensures c.if-has_byte.false)))
    c.fault_at.ensures
