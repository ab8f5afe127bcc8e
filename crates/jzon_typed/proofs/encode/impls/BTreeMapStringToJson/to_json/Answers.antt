use Rattle.std.proofs.Common.{ap, subst}
use Rattle.jzon.specs.Entries.{entries_of}
use Rattle.jzon.specs.View.{view, viewed}
use Rattle.jzon_typed.proofs.EncodeMapSteps.{IsPut, all-put, if-ok, none-put, one-put}
use Rattle.jzon_typed.proofs.encode.impls.BTreeMapStringToJson.to_json.Goals as goal

pub loop-key-init : goal.loop-key-init
loop-key-init g c =
    none-put g.T.ToJson.shows c.args.self.now.entries c.into_iter-key-iterator.result
    (viewed (entries_of c.new-members.result.object)) (cc) (ap viewed c.new-members.ensures)

pub loop-key-preserved : goal.loop-key-preserved
loop-key-preserved g c =
    let put = c.in_ok-members.ensures.put in
    one-put g.T.ToJson.shows c.args.self.now.entries c.loop-key.key-iterator c.next.new.self
    (viewed (entries_of c.loop-key.members.object)) (viewed (entries_of c.in_ok-members.members.object))
    (c.in-Some.key.now, c.in-Some.source.now) c.as_str.result.now put.0 c.loop-key.invariant c.in-Some.ensures.steps
    c.as_str.ensures.value put.1 put.2

pub returns-clause-value : goal.returns-clause-value
returns-clause-value g c =
    let all = c.args.self.now.entries in
    let ps = viewed (entries_of c.loop-key.members.object) in
    let put = subst (λ rest. IsPut g.T.ToJson.shows all rest ps) c.in-None.ensures.steps.0 c.loop-key.invariant in
    let up = c.iter-key-items.ensures.ordered in
    if-ok c.done.result _ _ c.done.ensures.value (λ v seen. (all-put g.T.ToJson.shows all ps (view v) up put seen, up))
