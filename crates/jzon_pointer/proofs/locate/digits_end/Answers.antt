use Rattle.jzon.specs.Private.Lines.{is_below}
use Rattle.jzon_pointer.proofs.LocatePlain.{run_ends_within, skim_digits}
use Rattle.jzon_pointer.proofs.locate.digits_end.Goals as goal

pub returns-clause-skims : goal.returns-clause-skims
returns-clause-skims c = skim_digits c.args.bytes.now c.args.start c.run_end.result c.run_end.ensures

pub returns-clause-within : goal.returns-clause-within
returns-clause-within c =
    run_ends_within (is_below 48 10) c.args.bytes.now c.args.start c.run_end.result c.requires c.run_end.ensures
