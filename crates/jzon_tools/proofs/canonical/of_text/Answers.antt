use Rattle.jzon_tools.proofs.CanonicalLaws.{one_text_law}
use Rattle.jzon_tools.proofs.canonical.of_text.Goals as goal

pub returns-clause-law : goal.returns-clause-law
returns-clause-law c = one_text_law

pub returns-in_err-value-clause-law : goal.returns-in_err-value-clause-law
returns-in_err-value-clause-law c = one_text_law
