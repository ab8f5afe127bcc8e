use Rattle.jzon_base.proofs.Common.{refl, arith}
use Rattle.std.proofs.lemmas.Str.{IsCharBoundary-start}
use Rattle.jzon.proofs.cursor.Cursor.new.Goals as goal

pub skip_whitespace-requires : goal.skip_whitespace-requires
skip_whitespace-requires c = IsCharBoundary-start c.args.source.now c.utf8.source

pub invariant_of-result : goal.invariant_of-result
invariant_of-result c =
    record {
      utf8 = ∣ c.utf8.source ∣₁;
      boundary = c.skip_whitespace.ensures.boundary;
      past_whitespace =
          c.skip_whitespace.ensures.stop;
    }

pub returns : goal.returns
returns c = record { text = refl; reading = refl; within = omega arith; same = c.skip_whitespace.ensures.outcome }
