use Rattle.std.proofs.Common.{ap, rules, subst, sym}
use Rattle.std.proofs.lemmas.Map.Text.{btree_map_updates_text}
use Rattle.std.specs.BTreeMap.{get_by_text}
use Rattle.std.specs.Map.{lookup}
use Rattle.jzon_typed.specs.DecodeFields.{read_from}
use Rattle.jzon_typed.specs.DecodeMaps.{TakesEntries}
use Rattle.jzon_typed.proofs.DecodeMapSteps.{all-there, next-taken, none-read, one-read, rest-there}
use Rattle.jzon_typed.proofs.decode.impls.BTreeMapStringFromJson.from_json.Goals as goal

pub loop-key-init : goal.loop-key-init
loop-key-init g c = record {
  read = none-read g.T.FromJson.gives c.in_ok-fields.fields.object.now c.into_iter-key-iterator.result
      (get_by_text c.new-map.result) (cc) (λ k. ap (lookup _) c.new-map.ensures.empty);
  there = all-there c.in_ok-fields.fields.object.now c.into_iter-key-iterator.result (cc);
  ordered = c.new-map.ensures.ordered;
}

pub loop-key-preserved-in_ok-insert : goal.loop-key-preserved-in_ok-insert
loop-key-preserved-in_ok-insert g c = record {
  read = one-read g.T.FromJson.gives (read_from c.in_ok-fields.fields) c.in-Some.key.now _ _ c.next.new.self
      (get_by_text c.loop-key.map) (get_by_text c.insert.new.self) c.in_ok-entry.entry c.loop-key.invariant.read
      c.in-Some.ensures.steps c.in_ok-entry.ensures.value c.in_ok-from_str.ensures.ok
      (btree_map_updates_text _ c.loop-key.map c.insert.new.self _ c.in_ok-insert.ensures.updates);
  there = rest-there (read_from c.in_ok-fields.fields) c.in-Some.key.now _ c.next.new.self c.loop-key.invariant.there
      c.in-Some.ensures.steps;
  ordered = c.insert.ensures.ordered;
}

pub loop-key-preserved : goal.loop-key-preserved
loop-key-preserved g c = record {
  read = one-read g.T.FromJson.gives (read_from c.in_ok-fields.fields) c.in-Some.key.now _ _ c.next.new.self
      (get_by_text c.loop-key.map) (get_by_text c.insert.new.self) c.in_ok-entry.entry c.loop-key.invariant.read
      c.in-Some.ensures.steps c.in_ok-entry.ensures.value c.in_ok-from_str.ensures.ok
      (btree_map_updates_text _ c.loop-key.map c.insert.new.self _ c.in_ok-insert.ensures.updates);
  there = rest-there (read_from c.in_ok-fields.fields) c.in-Some.key.now _ c.next.new.self c.loop-key.invariant.there
      c.in-Some.ensures.steps;
  ordered = c.insert.ensures.ordered;
}

pub returns-in_err-entry-clause-takes : goal.returns-in_err-entry-clause-takes
returns-in_err-entry-clause-takes g c = λ taken.
    let there = subst (TakesEntries g.T.FromJson.takes) (sym c.in_ok-fields.ensures.value) taken in
    let entry = next-taken g.T.FromJson.takes (read_from c.in_ok-fields.fields) c.in-Some.key.now _ c.next.new.self
    c.loop-key.invariant.there c.in-Some.ensures.steps there in
    let memory = c.in_err-entry.ensures.takes entry in
    search (rules, memory)
