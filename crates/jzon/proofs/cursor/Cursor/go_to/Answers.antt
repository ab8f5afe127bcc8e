use Rattle.jzon_base.proofs.Common.{refl}
use Rattle.jzon.proofs.cursor.Cursor.go_to.Goals as goal

pub invariant_of-self : goal.invariant_of-self
invariant_of-self c =
    record {
      utf8 = c.args.self.now.utf8;
      boundary = c.skip_whitespace-self.ensures.boundary;
      past_whitespace =
          c.skip_whitespace-self.ensures.stop;
    }

pub returns : goal.returns
returns c = record {
  text = refl;
  reading = refl;
  within = c.skip_whitespace-self.ensures.within;
  same =
      c.skip_whitespace-self.ensures.outcome;
}
