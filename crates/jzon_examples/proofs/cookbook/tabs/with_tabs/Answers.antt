use Rattle.std.proofs.Common.{◌≡◌, ◌++◌, ◌∙◌, ap, subst, sym, Global, String, Result, Ok, Err, IsTrue}
use Rattle.std.specs.Prelude.{IfOk, MatchResult, is_ok}
use Rattle.jzon.specs.Laws.{IsReadAs}
use Rattle.jzon.specs.Reading.{usual}
use Rattle.jzon.specs.Same.{same}
use Rattle.jzon.specs.View.{view}
use Rattle.jzon.specs.Writing.{any_style}
use Rattle.jzon.proofs.AnswerLaws.{reads-writing}
use Rattle.jzon_examples.proofs.cookbook.tabs.with_tabs.Goals as goal

-- what follows of a text that was made holds of it after `map_err` too
kept : {E F : Type 0} (P Q : String Global → Type 0) (K : E → Type 0) (made : Result (String Global) E)
    (r : Result (String Global) F) → ((text : String Global) → P text → Q text) → IfOk made P
    → MatchResult made (λ text. r ≡ Ok text) K → is_ok r ≡ is_ok made → IfOk r Q
kept P Q K (Ok text) r f p e same = rw e (f text p)
kept P Q K (Err x) (Ok text) f p e same = absurd (cc same)
kept P Q K (Err x) (Err y) f p e same = tt

pub returns-in-Ok : goal.returns-in-Ok
returns-in-Ok c =
    let v = view c.args.value.now in
    let (b, is, written) = c.in-Ok.ensures.written.bytes in
    let read = reads-writing usual any_style 0 v b (λ strict. absurd (cc))
    (c.write_json.ensures.value, c.requires.nan, c.requires.depth) written in
    record {
      read = kept _ _ _ c.from_utf8.result c.map_err.result
          (λ text e. subst (λ bs. IsReadAs usual bs (λ again. IsTrue (same again v)))
          (sym (ap (λ w. w.items) e ∙ is ∙ ap (λ x. x ++ b) c.new.ensures.items)) read)
          c.from_utf8.ensures.ok c.map_err.ensures.cases c.map_err.ensures.variant;
    }
