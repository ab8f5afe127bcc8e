use Rattle.jzon.specs.Entries.{entries_of}
use Rattle.jzon.specs.View.{viewed}
use Rattle.jzon_typed.proofs.EncodeMapSteps.{IsPut}
use Rattle.jzon_typed.proofs.encode.impls.BTreeMapStringToJson.to_json.Given as goal

-- the entries before the iterator's are put
abbrev pub invariant-loop-key : goal.invariant-loop-key
invariant-loop-key g l = IsPut g.T.ToJson.shows l.self.entries l.key-iterator (viewed (entries_of l.members.object))
