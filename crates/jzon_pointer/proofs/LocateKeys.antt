-- The string of a key by itself: it is read, as the bytes that it means.
use Rattle.jzon_base.proofs.Common.{◌≡◌, ◌∙◌, ◌⊎◌, inl, inr, ℕ, List, [], Bool, false, refl, sym, ap, subst, encode_utf8_all, Option, Some, None}
use Rattle.std.specs.Str.{IsUtf8, chars}
use Rattle.std.proofs.lemmas.Str.{chars_from_encodes}
use Rattle.jzon_base.specs.declared.error.Error.{Error}
use Rattle.jzon_base.specs.declared.error.Error.TheVariants.{OutOfMemory}
use Rattle.jzon_base.proofs.Common.{false≢true}
use Rattle.jzon.specs.Answer.{IsMeaningOf}
use Rattle.jzon.specs.Fault.{IsErrorOf, Parses, Spells}
use Rattle.jzon.specs.Grammar.{Key, Node, IsKey}
use Rattle.jzon.specs.JsonValue.{JsonValue}
use Rattle.jzon.specs.Laws.{alone}
use Rattle.jzon.specs.Meaning.{bytes_of, meaning}
use Rattle.jzon.specs.Reading.{Reading, usual}
use Rattle.jzon.specs.Spelling.{Breach, Cell, key_cells, node_cells}
use Rattle.jzon.specs.View.{view}
use Rattle.jzon.proofs.Texts.OneTree.{same_tree}
use Rattle.jzon.proofs.Texts.Verdict.{one_tree_or_one_fault}
use Rattle.std.specs.Option.{MatchOption}
use Rattle.jzon.specs.Readers.{text_in}
use Rattle.jzon_pointer.specs.Locate.{node_text}
use Rattle.jzon_pointer.specs.Private.Walk.{AreClear, NamesQuoted, is_memory}
use Rattle.jzon_pointer.specs.Pointer.{names}
use Rattle.jzon_pointer.proofs.LocateClear.{clear_none, key_alone}

key_spells : (r : Reading) (key : Key) → IsKey r key → Spells usual (node_text (Node.string key.items) []) (alone (Node.string key.items))
unfolding node_text
key_spells r key g = ((tt, g.1, tt), refl)

key_parses : (r : Reading) (seen : List (List ℕ)) (key : Key) (m : Option Breach) (z : List Cell) → IsKey r key
    → AreClear (key_cells r seen key m z) → Parses usual (node_text (Node.string key.items) []) (alone (Node.string key.items))
key_parses r seen key m z g clear = (key_spells r key g, clear_none (node_cells usual (Node.string key.items) 0 None []) (key_alone r seen key m z clear))

quoted_chars : (quoted cs : List ℕ) → IsUtf8 quoted → quoted ≡ encode_utf8_all cs → cs ≡ chars quoted
quoted_chars quoted cs u e = chars_from_encodes cs quoted u (sym e)

-- what `parse` reads is this string
pub key_read : (r : Reading) (seen : List (List ℕ)) (key : Key) (m : Option Breach) (z : List Cell) (quoted : List ℕ)
    (v : JsonValue) → IsUtf8 quoted → IsKey r key → AreClear (key_cells r seen key m z)
    → quoted ≡ encode_utf8_all (node_text (Node.string key.items) []) → IsMeaningOf usual (chars quoted) v
    → view v ≡ meaning (Node.string key.items)
key_read r seen key m z quoted v u g clear e h =
    let spelt : Spells usual (chars quoted) (alone (Node.string key.items)) =
    subst (λ (t : List ℕ). Spells usual t (alone (Node.string key.items)))
    (quoted_chars quoted (node_text (Node.string key.items) []) u e) (key_spells r key g) in
    h.2 ∙ ap (λ d. meaning d.node) (same_tree usual (chars quoted) h.0 (alone (Node.string key.items)) h.1.0 spelt)

-- and it has no fault
pub key_no_error : (r : Reading) (seen : List (List ℕ)) (key : Key) (m : Option Breach) (z : List Cell) (quoted : List ℕ)
    (x : Error) → IsUtf8 quoted → IsKey r key → AreClear (key_cells r seen key m z)
    → quoted ≡ encode_utf8_all (node_text (Node.string key.items) []) → IsErrorOf usual (chars quoted) x → ⊥
key_no_error r seen key m z quoted x u g clear e h =
    let parses : Parses usual (chars quoted) (alone (Node.string key.items)) =
    subst (λ (t : List ℕ). Parses usual t (alone (Node.string key.items)))
    (quoted_chars quoted (node_text (Node.string key.items) []) u e) (key_parses r seen key m z g clear) in
    elim (one_tree_or_one_fault usual (chars quoted)) [
      | inl one ↦ one.3 h.0 h.1 h.2.0
      | inr none ↦ none.0 (alone (Node.string key.items)) parses
    ]

-- whether a token names what was read
pub names_read : (quoted t : List ℕ) (v : JsonValue) (text : Option (List ℕ)) (is : Bool) → IsUtf8 quoted
    → IsMeaningOf usual (chars quoted) v → text ≡ text_in (view v) → MatchOption text (is ≡ false) (λ x. is ≡ names t x)
    → NamesQuoted quoted t is
names_read quoted t v text is u h e n = λ r seen key m z g clear f.
    let same : text ≡ Some (bytes_of key.items) = e ∙ ap text_in (key_read r seen key m z quoted v u g clear f h) in
    subst (λ (o : Option (List ℕ)). MatchOption o (is ≡ false) (λ x. is ≡ names t x)) same n

refused_by : (x : Error) (t : List ℕ) → is_memory x ≡ false → (x ≡ OutOfMemory) ⊎ IsErrorOf usual t x
    → IsErrorOf usual t x
refused_by x t other (inl e) = absurd (false≢true (sym other ∙ ap is_memory e))
refused_by x t other (inr h) = h

pub names_refused : (quoted t : List ℕ) (x : Error) (is : Bool) → IsUtf8 quoted → is_memory x ≡ false
    → (x ≡ OutOfMemory) ⊎ IsErrorOf usual (chars quoted) x → NamesQuoted quoted t is
names_refused quoted t x is u other h = λ r seen key m z g clear f.
    absurd (key_no_error r seen key m z quoted x u g clear f (refused_by x (chars quoted) other h))
