use Rattle.jzon_base.proofs.Common.{rules, ◌≢◌, ◌≡◌, ◌+◌, ◌∙◌, [], ◌∷◌, None, refl, sym, IsTrue}
use Rattle.jzon_tree.specs.View.{view}
use Rattle.jzon.specs.Reading.{Reading, usual}
use Rattle.jzon.specs.Private.Machine.{Frames, no_frames, before, value_mark}
use Rattle.jzon.proofs.Containers.PutValues.{puts_none}
use Rattle.jzon.proofs.Texts.ReportedErrors.{reported, fails_without_memory}
use Rattle.jzon.proofs.Containers.WholeLiterals.{Begins, ByFirst, WordEnds, word_begins, word_ends}
use Rattle.jzon.proofs.primitive.put_literal.Given.{Over}
use Rattle.jzon.proofs.primitive.put_literal.Goals.{After-has_four}
use Rattle.jzon.proofs.primitive.put_literal.Goals as goal

-- the last four letters of the literal
spells : (g : Over) (c : After-has_four g) → ByFirst c.args.first c.literal-value.result.1
    (110 ∷ 117 ∷ 108 ∷ 108 ∷ []) (116 ∷ 114 ∷ 117 ∷ 101 ∷ []) (97 ∷ 108 ∷ 115 ∷ 101 ∷ [])
spells g c = record {
  null = λ e. (c.literal-value.ensures.null e).1;
  yes = λ e. (c.literal-value.ensures.yes e).1;
  no = λ e. (c.literal-value.ensures.no e).1;
}

-- they begin after the first letter of `false` alone
short : (g : Over) (c : After-has_four g) → c.args.first ≢ 102 → c.args.start + c.from.result ≡ c.args.start
short g c other = search rules

long : (g : Over) (c : After-has_four g) → c.args.first ≡ 102 → c.args.start + c.from.result ≡ c.args.start + 1
long g c here = search rules

-- they are expected
begins : (g : Over) (c : After-has_four g) (r : Reading) (fs : Frames) → value_mark r fs ≡ None
    → Begins r c.args.source.now c.args.start (c.args.start + c.from.result) fs (view c.literal-value.result.0)
    c.literal-value.result.1
begins g c r fs m =
    word_begins r c.args.source.now c.args.start c.args.first (c.args.start + c.from.result) fs _
    c.literal-value.result.1 c.utf8.source c.requires.within (sym c.requires.first) m c.requires.word
    (record {
      null = λ e. (c.literal-value.ensures.null e).0;
      yes = λ e. (c.literal-value.ensures.yes e).0;
      no = λ e. (c.literal-value.ensures.no e).0;
    })
    (spells g c) (short g c) (long g c)

-- if they are there, the literal ends after them
ends : (g : Over) (c : After-has_four g) (r : Reading) (fs : Frames) → value_mark r fs ≡ None → IsTrue c.has_four.result
    → WordEnds r c.args.source.now c.args.start (c.args.start + c.from.result + 4) fs
    (view c.literal-value.result.0)
ends g c r fs m all =
    let four = c.has_four.ensures in
    word_ends r c.args.source.now c.args.start c.args.first (c.args.start + c.from.result) fs _ c.literal-value.result.1
    c.utf8.source (begins g c r fs m) c.requires.word (spells g c)
    (record {
      within = four.within all;
      first = four.first all;
      second = four.second all;
      third = four.third all;
      fourth = four.fourth all;
    })

pub returns-then-has_four-clause-end : goal.returns-then-has_four-clause-end
returns-then-has_four-clause-end g c =
    let at = (goal.at.returns-then-has_four-clause-end g c).After-has_four in
    let end = ends g at usual no_frames refl c.if-has_four.true in
    (end.past, end.boundary)

pub returns-then-has_four-clause-outcome : goal.returns-then-has_four-clause-outcome
returns-then-has_four-clause-outcome g c = (
  _,
  c.put.ensures,
  λ r fs m. (ends g (goal.at.returns-then-has_four-clause-outcome g c).After-has_four r fs m c.if-has_four.true).same,
)

pub read_letters-requires-clause-boundary : goal.read_letters-requires-clause-boundary
read_letters-requires-clause-boundary g c =
    (begins g (goal.at.read_letters-requires-clause-boundary g c).After-has_four usual no_frames refl).boundary

pub returns-in_err-end-clause-memory : goal.returns-in_err-end-clause-memory
returns-in_err-end-clause-memory g c =
    fails_without_memory c.args.source.now _ _ c.from_residual.result c.from_residual.ensures.1
    (c.in_err-end.ensures.outcome usual no_frames (view c.literal-value.result.0))

pub returns-in_err-end-clause-outcome : goal.returns-in_err-end-clause-outcome
returns-in_err-end-clause-outcome g c =
    puts_none (g.T.Target.takes c.args.target.now) c.args.target.now c.args.target.now c.from_residual.result
    c.args.source.now c.args.start before (λ r fs. value_mark r fs ≡ None) _ c.from_residual.ensures.1 refl (λ r fs m.
    let begin = begins g (goal.at.returns-in_err-end-clause-outcome g c).After-has_four r fs m in
    reported c.args.source.now _ _ _ begin.same (c.in_err-end.ensures.outcome r fs (view c.literal-value.result.0)))

pub returns-clause-outcome : goal.returns-clause-outcome
returns-clause-outcome g c = (
  _,
  c.put-2.ensures,
  λ r fs m. (begins g (goal.at.returns-clause-outcome g c).After-has_four r fs m).same
      ∙ c.in_ok-end.ensures.outcome r fs (view c.literal-value.result.0),
)
