use Rattle.jzon.proofs.Texts.Answers.{accepted}
use Rattle.jzon.proofs.Texts.LocatedErrors.{located_of}
use Rattle.jzon.proofs.parser.parse_located.Goals as goal

pub returns-in-Ok-clause-value : goal.returns-in-Ok-clause-value
returns-in-Ok-clause-value c =
    (accepted c.args.reading.now c.args.source.now c.in-Ok.value c.in-Ok.ensures.outcome).0

pub returns-in-Ok-clause-readable : goal.returns-in-Ok-clause-readable
returns-in-Ok-clause-readable c =
    (accepted c.args.reading.now c.args.source.now c.in-Ok.value c.in-Ok.ensures.outcome).1

pub returns-in-Err-clause-error : goal.returns-in-Err-clause-error
returns-in-Err-clause-error c =
    rw (c.located.ensures.error, c.located.ensures.place)
    (located_of c.args.reading.now c.args.source.now c.in-Err.stop c.utf8.source c.in-Err.ensures.outcome)
