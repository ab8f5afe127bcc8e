use Rattle.jzon_tree.specs.View.{view}
use Rattle.jzon.specs.Private.Machine.{no_frames, after_value}
use Rattle.jzon.proofs.Texts.Cursors.{utf8_of}
use Rattle.jzon.proofs.Texts.StepsByByte.{from_end}
use Rattle.jzon.proofs.Texts.ReportedErrors.{reported}
use Rattle.jzon.proofs.Texts.TrailingWhitespace.{trailing_stops}
use Rattle.jzon.proofs.parser.expect_end.Goals as goal

pub returns-then-cursor-clause-outcome : goal.returns-then-cursor-clause-outcome
returns-then-cursor-clause-outcome c =
    let t = c.args.cursor.now in
    reported t.source.now c.fault.result _ _
    (trailing_stops t.reading t.source.now t.index (view c.args.value) (utf8_of t) t.boundary c.if-cursor.true
    (t.past_whitespace c.if-cursor.true))
    c.fault.ensures

pub returns-clause-outcome : goal.returns-clause-outcome
returns-clause-outcome c =
    let t = c.args.cursor.now in
    from_end t.reading t.source.now t.index (after_value no_frames (view c.args.value)) c.if-cursor.false
