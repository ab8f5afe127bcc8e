use Rattle.jzon.proofs.Texts.WhitespaceBlocks.{usual_fits, usual_none, usual_within, usual_some}
use Rattle.jzon.proofs.whitespace.unusual_in_lanes.Goals as goal

pub overflow_sub-result : goal.overflow_sub-result
overflow_sub-result c = usual_fits c.args.bytes.now c.requires

pub returns-clause-none : goal.returns-clause-none
returns-clause-none c = λ none. usual_none c.args.bytes.now c.requires c.type_inv.bytes none

pub returns-clause-within : goal.returns-clause-within
returns-clause-within c = λ some. usual_within c.args.bytes.now c.requires some

pub returns-clause-some : goal.returns-clause-some
returns-clause-some c = λ some. usual_some c.args.bytes.now c.requires c.type_inv.bytes some
