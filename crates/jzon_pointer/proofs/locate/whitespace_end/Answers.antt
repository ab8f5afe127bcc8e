use Rattle.jzon.specs.Private.Lines.{is_below}
use Rattle.jzon_pointer.proofs.LocatePlain.{after_blanks, run_ends_within, skim_blanks}
use Rattle.jzon_pointer.proofs.locate.whitespace_end.Goals as goal

pub returns-clause-rest : goal.returns-clause-rest
returns-clause-rest c = after_blanks c.args.bytes.now c.args.start c.run_end.result c.run_end.ensures

pub returns-clause-skims : goal.returns-clause-skims
returns-clause-skims c = skim_blanks c.args.bytes.now c.args.start c.run_end.result c.run_end.ensures

pub returns-clause-within : goal.returns-clause-within
returns-clause-within c =
    run_ends_within (is_below 0 33) c.args.bytes.now c.args.start c.run_end.result c.requires c.run_end.ensures
