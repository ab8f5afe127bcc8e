use Rattle.std.proofs.Common.{◌≡◌, ◌++◌, ℕ, codes, refl, sym, ap}
use Rattle.std.proofs.Output.{has_written_append, has_written_of_eq}
use Rattle.jzon.specs.Error.{Error}
use Rattle.jzon.specs.Error.TheVariants.{UnexpectedCharacter}
use Rattle.jzon_pointer.specs.Errors.{text_words}
use Rattle.jzon_pointer.specs.Shown.{shown_char}
use Rattle.jzon_pointer.proofs.error.words.show_text_words.Goals as goal

unexpected-text : (e : Error) (ch line column : ℕ) → e ≡ UnexpectedCharacter ch line column
    → codes "Unexpected character: " ++ shown_char ch ≡ text_words e
unexpected-text e ch line column is = sym (ap text_words is)

pub returns-in_ok-write_str-in-UnexpectedCharacter :
    goal.returns-in_ok-write_str-in-UnexpectedCharacter
returns-in_ok-write_str-in-UnexpectedCharacter g c = λ plain ok.
    let took = g.W.Write.write_str_gives in
    let said = c.in_ok-write_str-in-UnexpectedCharacter.ensures.writes plain refl in
    let at = c.in-UnexpectedCharacter in
    has_written_of_eq took _ _ _ _ (unexpected-text c.args.error.now at.ch at.line at.column at.is)
    (has_written_append took _ _ _ _ _ said (c.show_char.ensures said.plain ok))
