use Rattle.jzon_base.proofs.Common.{refl, sym}
use Rattle.jzon_base.specs.Private.Keys.{IsIndex}
use Rattle.jzon_base.proofs.Entries.PutEach.{put_each-zip}
use Rattle.jzon_base.proofs.KeyIndex.Tables.{IsTable-one}
use Rattle.jzon_base.proofs.keys.Keys.from_entries.Goals as goal

pub invariant_of-result : goal.invariant_of-result
invariant_of-result g c =
    let ks = c.args.keys.items in
    let entries = c.in-Some.entries.items in
    let index : IsIndex ks entries = rw (c.in-Some.is, c.as_slice.ensures.value) at c.in_ok-entries.ensures.index in
    let distinct = rw (c.in-Some.is, c.as_slice.ensures.value) at c.in_ok-entries.ensures.distinct in
    rw c.in_ok-index.ensures (IsTable-one ks entries index.whole index.sorted (distinct.0 refl))

pub returns-clause-merged : goal.returns-clause-merged
returns-clause-merged g c =
    let distinct = rw (c.in-Some.is, c.as_slice.ensures.value) at c.in_ok-entries.ensures.distinct in
    sym (put_each-zip c.args.keys.items c.args.values.items c.requires (distinct.0 refl))
