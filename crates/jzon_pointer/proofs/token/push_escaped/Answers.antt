use Rattle.std.proofs.Common.{◌∷◌, [], ◌++◌, string_bytes, sym, ap, ◌∙◌, arith, rules}
use Rattle.std.proofs.lemmas.Result.{on_ok_weaker}
use Rattle.std.proofs.lemmas.Str.Pattern.{split_parts}
use Rattle.jzon_pointer.proofs.EscapedSteps.{escaped-turn, escaped-plain}
use Rattle.jzon_pointer.proofs.token.push_escaped.Goals as goal

pub escapes-preserved : goal.escapes-preserved
escapes-preserved c =
    let rest = c.escapes.rest.now in
    let cut = rw c.in-Some.is at (split_parts 126 rest c.split_once.result c.split_once.ensures.cases (omega arith)) in
    let made = c.in_ok-push_str.ensures.bytes ∙ ap (λ bs. bs ++ 126 ∷ 48 ∷ []) c.in_ok-push_slashed.ensures in (
      escaped-turn (string_bytes c.escapes.text) _ (string_bytes c.args.text.now) rest c.in-Some.plain.now
          c.in-Some.after.now c.args.key.now c.escapes.invariant.0 cut.0 cut.1 made,
      search rules,
    )

pub returns : goal.returns
returns c =
    let rest = c.escapes.rest.now in
    let lacks = rw c.in_default.is at (split_parts 126 rest c.split_once.result c.split_once.ensures.cases (omega arith)) in
    on_ok_weaker c.push_slashed-2.result
    (λ e. e ∙ ap (λ l. string_bytes c.escapes.text ++ l) (sym (escaped-plain rest lacks)) ∙ c.escapes.invariant.0)
    c.push_slashed-2.ensures
