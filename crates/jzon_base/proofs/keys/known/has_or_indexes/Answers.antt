use Rattle.jzon_base.proofs.Common.{sym}
use Rattle.jzon_base.proofs.KeyIndex.Tables.{IsTable-push}
use Rattle.jzon_base.proofs.keys.known.has_or_indexes.Goals as goal

pub returns-in_ok-add_entry-in-Err-clause-missing : goal.returns-in_ok-add_entry-in-Err-clause-missing
returns-in_ok-add_entry-in-Err-clause-missing c = λ _. IsTable-push c.args.keys.now c.args.name.now _
    c.requires.distinct (sym c.in-Err.ensures.position) c.in_ok-add_entry-in-Err.ensures.ok
