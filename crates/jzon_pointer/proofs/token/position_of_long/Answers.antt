use Rattle.std.proofs.Common.{sym}
use Rattle.jzon.specs.Entries.{entries_of}
use Rattle.jzon.specs.PairList.{keys_of}
use Rattle.jzon_pointer.proofs.NameSteps.{none-named}
use Rattle.jzon_pointer.proofs.token.position_of_long.Goals as goal

pub returns-in-Ok-None : goal.returns-in-Ok-None
returns-in-Ok-None c =
    let none = rw c.in-Ok-None.field-0-is at c.in-Ok-None.ensures in
    sym (none-named c.args.token.now (keys_of (entries_of c.args.object.now)) (sym none))
