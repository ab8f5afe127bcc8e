use Rattle.jzon_tools.proofs.CanonicalLaws.{canonical_law}
use Rattle.jzon_tools.proofs.canonical.law.Goals as goal

pub returns : goal.returns
returns c = canonical_law
