use Rattle.std.proofs.Common.{sym}
use Rattle.jzon.specs.Entries.{entries_of}
use Rattle.jzon.specs.PairList.{keys_of}
use Rattle.jzon_pointer.proofs.NameSteps.{none-named}
use Rattle.jzon_pointer.proofs.token.position_decoded.Goals as goal

pub returns-in-Some-None : goal.returns-in-Some-None
returns-in-Some-None c =
    let none = rw c.in-Some-None.field-0-is at c.in-Some-None.ensures in
    sym (none-named c.args.token.now (keys_of (entries_of c.args.object.now)) (sym none))
