use Rattle.jzon_base.proofs.Common.{◌-◌, length, take, drop, sym, arith, length-take-le}
use Rattle.std.proofs.Common.{length-drop}
use Rattle.jzon_base.proofs.KeyIndex.Indexes.{hashed_from-none}
use Rattle.jzon_base.proofs.KeyIndex.Refills.{hashed_from-set}
use Rattle.jzon_base.proofs.keys.runs.refill.put_hashed.Goals as goal

pub loop-at-init : goal.loop-at-init
loop-at-init c = sym (hashed_from-none c.args.from)

pub loop-at-preserved : goal.loop-at-preserved
loop-at-preserved c =
    let ks = c.args.keys.now in
    let from = c.args.from in
    let rest = take (length ks - from) (drop from ks) in
    let long = length-take-le (length ks - from) (drop from ks) (omega (arith, length-drop from ks)) in
    hashed_from-set from rest c.loop-at.at c.loop-at.entries c.hash_of-hash.result _ _ (omega (arith, long)) (omega arith)
    c.loop-at.invariant c.index-rest-at.is c.as_str.ensures c.hash_of-hash.ensures
