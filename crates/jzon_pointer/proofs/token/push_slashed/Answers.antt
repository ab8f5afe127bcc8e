use Rattle.std.proofs.Common.{◌∷◌, [], ◌++◌, string_bytes, sym, ap, ◌∙◌, arith, rules}
use Rattle.std.proofs.lemmas.Str.Pattern.{split_parts}
use Rattle.jzon_pointer.proofs.EscapedSteps.{slashed-turn, slashed-plain}
use Rattle.jzon_pointer.proofs.token.push_slashed.Goals as goal

pub escapes-preserved : goal.escapes-preserved
escapes-preserved c =
    let rest = c.escapes.rest.now in
    let cut = rw c.in-Some.is at (split_parts 47 rest c.split_once.result c.split_once.ensures.cases (omega arith)) in
    let made = c.in_ok-push_str-2.ensures.bytes ∙ ap (λ bs. bs ++ 126 ∷ 49 ∷ []) c.in_ok-push_str.ensures.bytes in (
      slashed-turn (string_bytes c.escapes.text) _ (string_bytes c.args.text.now) rest c.in-Some.plain.now
          c.in-Some.after.now c.args.key.now c.escapes.invariant.0 cut.0 cut.1 made,
      search rules,
    )

pub returns : goal.returns
returns c =
    let rest = c.escapes.rest.now in
    let lacks = rw c.in_default.is at (split_parts 47 rest c.split_once.result c.split_once.ensures.cases (omega arith)) in
    c.in_ok-push_str-3.ensures.bytes ∙ ap (λ l. string_bytes c.escapes.text ++ l) (sym (slashed-plain rest lacks))
    ∙ c.escapes.invariant.0
