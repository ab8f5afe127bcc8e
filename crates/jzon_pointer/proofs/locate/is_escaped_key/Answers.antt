use Rattle.std.proofs.Common.{◌∙◌, false, refl, sym, None, Some}
use Rattle.jzon_pointer.proofs.LocateKeys.{names_read, names_refused}
use Rattle.jzon_pointer.proofs.locate.is_escaped_key.Goals as goal

pub returns-in-Some-clause-names : goal.returns-in-Some-clause-names
returns-in-Some-clause-names c =
    names_read c.args.quoted.now c.args.token.now c.in-Ok.string (Some c.in-Some.key.now) c.is_name.result c.utf8.quoted
    c.in-Ok.ensures.value c.in-Some.ensures c.is_name.ensures

pub returns-in-Ok-clause-names : goal.returns-in-Ok-clause-names
returns-in-Ok-clause-names c =
    names_read c.args.quoted.now c.args.token.now c.in-Ok.string None false c.utf8.quoted c.in-Ok.ensures.value
    c.in-None.ensures refl

pub returns-clause-names : goal.returns-clause-names
returns-clause-names c =
    names_refused c.args.quoted.now c.args.token.now c.in-Err.error false c.utf8.quoted
    (sym c.is_memory.ensures.test ∙ c.if-is_memory.false) c.in-Err.ensures.error
