use Rattle.jzon.proofs.Texts.WhitespaceBlocks.{block_fits, block_none, block_within, block_some}
use Rattle.jzon.proofs.whitespace.others_in_lanes.Goals as goal

pub overflow_sub-result : goal.overflow_sub-result
overflow_sub-result c = block_fits c.args.bytes.now c.args.start c.requires

pub returns-clause-none : goal.returns-clause-none
returns-clause-none c = λ none. block_none c.args.bytes.now c.args.start c.requires c.type_inv.bytes none

pub returns-clause-within : goal.returns-clause-within
returns-clause-within c = λ some. block_within c.args.bytes.now c.args.start c.requires some

pub returns-clause-some : goal.returns-clause-some
returns-clause-some c = λ some. block_some c.args.bytes.now c.args.start c.requires c.type_inv.bytes some
