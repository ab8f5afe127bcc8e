use Rattle.jzon_base.proofs.Common.{sym}
use Rattle.jzon_base.proofs.Entries.PairPositions.{find_pair}
use Rattle.jzon_base.proofs.pairs.Pairs.remove.Goals as goal

pub returns-clause-value : goal.returns-clause-value
returns-clause-value g c = sym (find_pair c.args.name.now c.args.self.now c.in_ok-position.position
    c.remove_at-key.result.0 c.remove_at-key.result.1 (sym c.in_ok-position.ensures) c.remove_at-key.ensures.entry)
