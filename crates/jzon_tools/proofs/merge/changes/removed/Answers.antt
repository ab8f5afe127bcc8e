use Rattle.std.proofs.Common.{◌≡◌, ap, sym, ◌∙◌}
use Rattle.jzon.specs.Entries.{entries_of}
use Rattle.jzon.specs.PairList.{keys_of, put}
use Rattle.jzon.specs.View.{viewed}
use Rattle.jzon.proofs.ValueLaws.{keys-viewed, view-Null, viewed-put}
use Rattle.jzon_tools.proofs.DiffSteps.{seen-there}
use Rattle.jzon_tools.proofs.MergeDiffSteps.{removes-kept, removes-put, removes-start}
use Rattle.jzon_tools.proofs.merge.changes.removed.Goals as goal

pub loop-key-init : goal.loop-key-init
loop-key-init c =
    let from = entries_of c.args.from.now in
    let plain : c.into_iter-key-iterator.result ≡ keys_of from = cc in
    removes-start (viewed from) (viewed (entries_of c.args.to.now)) c.into_iter-key-iterator.result
    (viewed (entries_of c.new-patch.result)) (plain ∙ sym (keys-viewed from)) (ap viewed c.new-patch.ensures)

pub loop-key-preserved-in-Continue-1 : goal.loop-key-preserved-in-Continue-1
loop-key-preserved-in-Continue-1 c =
    let key = c.in-Some.key.now in
    let to = entries_of c.args.to.now in
    removes-put key c.loop-key.key-iterator c.next.new.self (viewed (entries_of c.args.from.now)) (viewed to)
    (viewed (entries_of c.loop-key.patch)) (viewed (entries_of c.insert.new.self)) c.in-Some.ensures.steps
    (seen-there key to ∙ sym c.contains_key.ensures ∙ c.if-not-contains_key.true)
    (ap viewed c.in_ok-insert.ensures.ok ∙ viewed-put key _ (entries_of c.loop-key.patch)
    ∙ ap (λ v. put key v (viewed (entries_of c.loop-key.patch))) view-Null) c.loop-key.invariant

pub loop-key-preserved : goal.loop-key-preserved
loop-key-preserved c =
    let key = c.in-Some.key.now in
    let to = entries_of c.args.to.now in
    removes-kept key c.loop-key.key-iterator c.next.new.self (viewed (entries_of c.args.from.now)) (viewed to)
    (viewed (entries_of c.loop-key.patch)) c.in-Some.ensures.steps
    (seen-there key to ∙ sym c.contains_key.ensures ∙ c.if-not-contains_key.false) c.loop-key.invariant
