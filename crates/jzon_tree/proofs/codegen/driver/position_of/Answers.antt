use Rattle.jzon_base.proofs.Common.{sym, zero-add}
use Rattle.std.proofs.lemmas.List.FromFn.{get_or-range_with_len, length-range_with_len}
use Rattle.jzon_tree.proofs.codegen.driver.position_of.Goals as goal

pub returns-in-None : goal.returns-in-None
returns-in-None c =
    let h = rw (c.in-None.is, length-range_with_len 0 c.args.count) at c.requires.index_in_range in
    rw c.in-None.is (rw (get_or-range_with_len 0 c.args.count c.args.index 0 h) (sym (zero-add c.args.index)))
