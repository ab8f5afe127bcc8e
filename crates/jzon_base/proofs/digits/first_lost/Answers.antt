use Rattle.jzon_base.proofs.Common.{refl}
use Rattle.jzon_base.proofs.Numbers.LostDigits.{lost_in_whole, lost_in_fraction, none_lost}
use Rattle.jzon_base.proofs.digits.first_lost.Goals as goal

pub returns-in-Some-clause-some : goal.returns-in-Some-clause-some
returns-in-Some-clause-some c =
    let found = c.in-Some.ensures.some in
    lost_in_whole c.args.whole.now c.args.fraction.now c.args.gone c.args.held c.requires.dropped c.requires.kept
    c.in-Some.i found.0 found.1 found.2 found.3

pub returns-in-Some-first_nonzero-clause-some : goal.returns-in-Some-first_nonzero-clause-some
returns-in-Some-first_nonzero-clause-some c =
    let found = c.in-Some-first_nonzero.ensures.some in
    lost_in_fraction c.args.whole.now c.args.fraction.now c.args.gone c.args.held c.requires.dropped c.requires.kept
    c.in-Some-first_nonzero.i (c.in-None.ensures.none refl) found.0 found.1 found.2 found.3

pub returns-in-None-first_nonzero-clause-none : goal.returns-in-None-first_nonzero-clause-none
returns-in-None-first_nonzero-clause-none c _ =
    none_lost c.args.whole.now c.args.fraction.now c.args.gone c.args.held c.requires.dropped c.requires.kept
    (c.in-None.ensures.none refl) (c.in-None-first_nonzero.ensures.none refl)
