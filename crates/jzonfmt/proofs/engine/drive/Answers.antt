use Rattle.std.proofs.Common.{◌∙◌, Err, sym}
use Rattle.std.proofs.KnownBytes.{Appends-kept}
use Rattle.jzonfmt.specs.declared.engine.RunFault.TheVariants.{Write}
use Rattle.jzonfmt.proofs.AddedBytes.{whole_beginning}
use Rattle.jzonfmt.proofs.engine.drive.Goals as goal

pub returns-in-Err-flush-clause-status : goal.returns-in-Err-flush-clause-status
returns-in-Err-flush-clause-status g c =
    let ran = c.in-Ok.ensures in
    rw (sym c.options_of.ensures ∙ c.in-Some.is) (
      Err (Write c.in-Err-flush.error),
      (ran.0, ran.1, (ran.2.0, ran.2.1, whole_beginning _ _ _ (Appends-kept _ _ _ _ ran.2.2 c.flush.ensures.bytes))),
      c.report.ensures,
    )
