use Rattle.std.proofs.Common.{codes, refl}
use Rattle.std.specs.Str.{chars}
use Rattle.jzon.specs.Private.Classes.{class_of}
use Rattle.jzon.specs.Digits.{kept_len}
use Rattle.jzon.specs.Error.TheVariants.{UnexpectedCharacter}
use Rattle.jzon.specs.Fault.{character, IsErrorOf}
use Rattle.jzon.specs.Reading.{usual}
use Rattle.jzon.specs.Spelling.{drops_too_many, keeps_too_many}
use Rattle.jzon.proofs.AnswerLaws.{refused_error}
use Rattle.jzon_examples.proofs.faults.port_of_faulty.Goals as goal

-- the text, what is left of it from the fault on, the kind of fault, and the error; the checker computes the rest
fault : IsErrorOf usual (codes "{\"server\":{\"port\":80,}}") (UnexpectedCharacter 125 1 22)
unfolding class_of kept_len drops_too_many keeps_too_many
fault =
    refused_error usual (codes "{\"server\":{\"port\":80,}}") (codes "}}") character (UnexpectedCharacter 125 1 22) refl
    refl

pub returns : goal.returns
unfolding chars
returns c = c.port.ensures.rejected (UnexpectedCharacter 125 1 22) fault
