use Rattle.jzon_base.proofs.Common.{rules, ◌≡◌, ◌∙◌, ◌++◌, ap, sym, subst, arith, inr, string_bytes}
use Rattle.jzon_base.proofs.Common.{err_from_is_err_and, IsCharBoundary-after_ascii}
use Rattle.std.proofs.lemmas.Result.{MatchResult-weaker}
use Rattle.jzon.specs.Private.Machine.{Role, string, between, from, Reports}
use Rattle.jzon.proofs.Strings.Quotes.{backslash_begins}
use Rattle.jzon.specs.Reading.{Reading}
use Rattle.jzon.proofs.string.read_escapes.Goals.{After-has_byte-in-loop-start}
use Rattle.jzon.proofs.string.read_escapes.Goals as goal

pub read_escape-requires : goal.read_escape-requires
read_escape-requires c =
    let here = c.has_byte.ensures.0 c.loop-start-test.true in
    IsCharBoundary-after_ascii c.args.source.now c.loop-start.index c.utf8.source here.0 (omega (arith, here.1))

pub returns-in_err-ch-clause-outcome : goal.returns-in_err-ch-clause-outcome
returns-in_err-ch-clause-outcome c r role =
    let text = c.args.source.now in
    let here = c.has_byte.ensures.0 c.loop-start-test.true in
    let read = string_bytes c.loop-start.buffer in
    let reported = err_from_is_err_and c.from_residual.result c.from_residual.ensures.1 in
    let escape = c.loop-start.invariant.same r role
    ∙ backslash_begins r role read text c.loop-start.index c.utf8.source c.loop-start.invariant.boundary here.0 here.1
    in
    rw (reported.1, reported.2) (inr (subst (Reports text _) (sym escape)
    (c.in_err-ch.ensures.outcome r role read)))

-- an escape was read, and its character added
added : (c : After-has_byte-in-loop-start) (r : Reading) (role : Role)
    → from r c.args.source.now (string role (string_bytes c.args.buffer.now) between) c.args.start
    ≡ from r c.args.source.now (string role (string_bytes c.push.new.self) between) c.in_ok-ch.end
added c r role =
    let here = c.has_byte.ensures.0 c.loop-start-test.true in
    let read = string_bytes c.loop-start.buffer in
    c.loop-start.invariant.same r role
    ∙ backslash_begins r role read c.args.source.now c.loop-start.index c.utf8.source c.loop-start.invariant.boundary
    here.0 here.1
    ∙ c.in_ok-ch.ensures.outcome r role read
    ∙ ap (λ z. from r c.args.source.now (string role z between) c.in_ok-ch.end) (sym c.in_ok-push.ensures.bytes)

pub loop-start-preserved : goal.loop-start-preserved
loop-start-preserved c =
    record {
      within = omega (arith, c.in_ok-ch.ensures.end.0);
      boundary = c.in_ok-ch.ensures.end.1;
      stop = λ within. search rules;
      same = added (goal.at.loop-start-preserved c).After-has_byte-in-loop-start;
    }

pub loop-start-preserved-in-Continue-branch-3 : goal.loop-start-preserved-in-Continue-branch-3
loop-start-preserved-in-Continue-branch-3 c =
    record {
      within = omega (arith, c.in_ok-ch.ensures.end.0, c.plain_end-index.ensures.within);
      boundary = c.plain_end-index.ensures.boundary;
      stop = c.plain_end-index.ensures.stop;
      same = λ r role.
          added (goal.at.loop-start-preserved-in-Continue-branch-3 c).After-has_byte-in-loop-start r role
          ∙ c.plain_end-index.ensures.outcome r role _
          ∙ ap (λ z. from r c.args.source.now (string role z between) c.plain_end-index.result)
          (sym (c.in_ok-push_str.ensures.bytes ∙ ap (λ z. string_bytes c.push.new.self ++ z) c.range.ensures.value));
    }

pub returns-clause-outcome : goal.returns-clause-outcome
returns-clause-outcome c r role =
    let so_far = c.loop-start.invariant.same r role in
    MatchResult-weaker c.past_quote.result (c.past_quote.ensures.outcome r role (string_bytes c.loop-start.buffer))
    (λ end h. so_far ∙ h)
    (λ e h. inr (subst (Reports c.args.source.now e) (sym so_far) h))
