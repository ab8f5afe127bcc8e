use Rattle.jzon_base.proofs.Common.{sym}
use Rattle.jzon_base.proofs.KeyIndex.Tables.{IsTable-push}
use Rattle.jzon_base.proofs.keys.Keys.put.Goals as goal

pub invariant_of-self-2 : goal.invariant_of-self-2
invariant_of-self-2 g c =
    let missing = rw c.as_slice.ensures.value at c.in-Err.ensures.position in
    let added = rw (c.as_slice-2.ensures.value, c.reserve_next.ensures.items) at c.in_ok-add_entry.ensures.ok in
    rw (c.push_reserved.ensures.items, c.in_ok-key.ensures.bytes, c.reserve_next.ensures.items) (IsTable-push c.self.inside.keys.items
    c.args.name.now c.add_entry.new.index c.self.invariant.distinct (sym missing) added)
