use Rattle.std.specs.BTreeMap.{IsOrdered, get_by_text}
use Rattle.std.specs.String.{string_cmp}
use Rattle.jzon_typed.specs.DecodeFields.{read_from}
use Rattle.jzon_typed.proofs.DecodeMapSteps.{AreThere, ReadsBut}
use Rattle.jzon_typed.proofs.decode.impls.BTreeMapStringFromJson.from_json.Given as goal

-- the entries of the keys before the iterator's are read
abbrev pub invariant-loop-key : goal.invariant-loop-key
invariant-loop-key g l = record {
  read : ReadsBut g.T.FromJson.gives (read_from l.fields) l.key-iterator (get_by_text l.map);
  there : AreThere (read_from l.fields) l.key-iterator;
  ordered : IsOrdered string_cmp l.map;
}
