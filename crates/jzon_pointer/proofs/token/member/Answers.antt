use Rattle.std.proofs.Common.{rules}
use Rattle.jzon.specs.Entries.{entries_of}
use Rattle.jzon_pointer.proofs.NameSteps.{named-entry}
use Rattle.jzon_pointer.proofs.token.member.Goals as goal

pub returns-in_err-position_of : goal.returns-in_err-position_of
returns-in_err-position_of c = search (rules, named-entry c.args.token.now (entries_of c.args.object.now))

pub returns-in_err-_key : goal.returns-in_err-_key
returns-in_err-_key c = search (rules, named-entry c.args.token.now (entries_of c.args.object.now))

pub returns : goal.returns
returns c = search (rules, named-entry c.args.token.now (entries_of c.args.object.now))
