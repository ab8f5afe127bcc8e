use Rattle.jzon.proofs.laws.strict_styles.Goals as goal
use Rattle.jzon.proofs.ReadBack.StrictStyles.{strict_styles}

pub returns : goal.returns
returns c = strict_styles
