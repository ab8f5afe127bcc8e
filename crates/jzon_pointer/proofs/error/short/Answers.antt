use Rattle.jzon_pointer.proofs.ErrorLaw.{error-short}
use Rattle.jzon_pointer.proofs.error.short.Goals as goal

pub returns : goal.returns
returns c = error-short
