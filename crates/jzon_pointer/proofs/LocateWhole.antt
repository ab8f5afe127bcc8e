-- From a text that is read to the spot of the value that the pointer names.
use Rattle.jzon_base.proofs.Common.{◌≡◌, ◌∙◌, ℕ, List, [], ◌++◌, sym, ap, subst, arith, drop, encode_utf8_all, encodes-chars}
use Rattle.jzon_base.proofs.Common.{Option, None, Some}
use Rattle.std.specs.Prelude.{chars, option_and_then}
use Rattle.std.specs.Str.{IsUtf8}
use Rattle.jzon.specs.Fault.{Parses}
use Rattle.jzon.specs.Grammar.{Document}
use Rattle.jzon.specs.Reading.{Reading}
use Rattle.jzon.specs.Spelling.{cells, node_cells, plain}
use Rattle.jzon.proofs.Texts.TreeCharacters.{spells}
use Rattle.jzon_pointer.specs.Locate.{Named, named_in, node_text, pointed, unnamed}
use Rattle.jzon_pointer.specs.Private.Walk.{Finds, From, IsSpotOf, Stands, after_whitespace}
use Rattle.jzon_pointer.specs.Pointer.{tokens_of}
use Rattle.jzon_pointer.specs.declared.locate.Passed.{Passed}
use Rattle.jzon.proofs.ReadBack.UnmarkedCells.{plain_rest, unmarked}
use Rattle.jzon_pointer.proofs.LocateTexts.{begins, node_text_is}
use Rattle.jzon_pointer.proofs.LocateWalks.{blanks_before, value_start}

stands_whole : (r : Reading) (bytes : List ℕ) (d : Document) (start : ℕ) → IsUtf8 bytes → Parses r (chars bytes) d
    → drop start bytes ≡ after_whitespace bytes
    → Stands r bytes 0 (record { name = start; value = start }) (unnamed d.node d.after)
stands_whole r bytes d start u h e =
    let text : bytes ≡ encode_utf8_all (d.before ++ node_text d.node d.after) =
    sym (encodes-chars bytes u) ∙ ap encode_utf8_all (sym h.0.1 ∙ spells r d
    ∙ ap (λ z. d.before ++ z) (sym (node_text_is d.node d.after))) in
    let here : From bytes start (node_text d.node d.after) =
    e ∙ ap after_whitespace text
    ∙ blanks_before r d.before (node_text d.node d.after) h.0.0.0 (begins r d.node d.after h.0.0.1) in record {
      grammar = h.0.0.1;
      clear = (
        None,
        plain d.after [],
        plain_rest d.before (node_cells r d.node 0 None (plain d.after []))
            (unmarked (cells r d) h.1),
      );
      value = here;
      name = here;
      start = value_start r bytes start d.node d.after h.0.0.1 here;
    }

-- what the walk over the whole value finds
pub spot_found : (r : Reading) (bytes pointer : List ℕ) (ts : List (List ℕ)) (start : ℕ) (w : Passed) → IsUtf8 bytes
    → Some ts ≡ tokens_of pointer → drop start bytes ≡ after_whitespace bytes
    → Finds bytes r.strict r.depth ts 0 (record { name = start; value = start }) w
    → (d : Document) → Parses r (chars bytes) d → IsSpotOf bytes w.found (pointed d pointer)
spot_found r bytes pointer ts start w u is e finds = λ d h.
    let same : named_in ts (unnamed d.node d.after) ≡ pointed d pointer =
    ap (option_and_then (λ us. named_in us (unnamed d.node d.after))) is in
    subst (λ (o : Option Named). IsSpotOf bytes w.found o) same
    (finds r (unnamed d.node d.after) (λ x. x, omega arith) (stands_whole r bytes d start u h e)).0
