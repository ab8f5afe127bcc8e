use Rattle.jzon_base.proofs.Common.{Err, chars, sym, subst}
use Rattle.jzon.specs.Answer.{IsErrorUnlessMemory}
use Rattle.jzon.proofs.Texts.Answers.{accepted, answers_of}
use Rattle.jzon.proofs.parser.parse_as.Goals as goal

pub returns-in-Ok-clause-value : goal.returns-in-Ok-clause-value
returns-in-Ok-clause-value c =
    (accepted c.args.reading.now c.args.source.now c.in-Ok.value c.in-Ok.ensures.outcome).0

pub returns-in-Ok-clause-readable : goal.returns-in-Ok-clause-readable
returns-in-Ok-clause-readable c =
    (accepted c.args.reading.now c.args.source.now c.in-Ok.value c.in-Ok.ensures.outcome).1

pub returns-in-Err-clause-error : goal.returns-in-Err-clause-error
returns-in-Err-clause-error c =
    subst (IsErrorUnlessMemory c.args.reading.now (chars c.args.source.now)) (sym c.error.ensures)
    (answers_of c.args.reading.now c.args.source.now (Err c.in-Err.stop) c.in-Err.ensures.outcome)
