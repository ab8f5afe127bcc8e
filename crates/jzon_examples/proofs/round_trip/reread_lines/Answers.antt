use Rattle.std.proofs.Common.{IsTrue, ◌∙◌}
use Rattle.jzon.specs.Laws.{IsReadAs}
use Rattle.jzon.specs.Reading.{usual}
use Rattle.jzon.specs.Same.{same}
use Rattle.jzon.specs.Value.{Value}
use Rattle.jzon.specs.View.{view}
use Rattle.jzon.proofs.AnswerLaws.{answer-value, answer-memory, reads-pretty}
use Rattle.jzon_examples.proofs.round_trip.reread_lines.Goals as goal

-- what the printed text is read as
abbrev IsSame : goal.After-drop-text → Value → Type 0
IsSame c w = IsTrue (same w (view c.args.value.now))

read : (c : goal.After-drop-text) → IsReadAs usual c.as_str.result.now (IsSame c)
read c =
    reads-pretty usual c.args.spaces (view c.args.value.now) c.as_str.result.now
    (c.in_ok-text.ensures.value, c.requires.nan, c.requires.depth) (c.as_str.ensures.value ∙ c.in_ok-text.ensures.text)

pub returns-clause-equal : goal.returns-clause-equal
returns-clause-equal c =
    answer-value usual (IsSame c) c.as_str.result.now c.parse.result (read c) c.parse.ensures.value

pub returns-clause-memory : goal.returns-clause-memory
returns-clause-memory c =
    answer-memory usual (IsSame c) c.as_str.result.now c.parse.result (read c) c.parse.ensures.error
