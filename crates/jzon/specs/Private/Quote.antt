-- Strings, by the bytes of a text.
use Rattle.std.specs.Prelude.{◌≡◌, ℕ, ◌+◌, ◌-◌, ◌<◌, List, ◌++◌, ◌&&◌, Result, MatchResult, chars, drop, slice_index}
use Rattle.std.specs.Prelude.{encode_utf8}
use Rattle.std.specs.Str.{IsCharBoundary}
use Rattle.jzon_base.specs.Tokens.{quotation_mark}
use Rattle.jzon.specs.Reading.{Reading}
use Rattle.jzon.specs.declared.stop.Stop.{Stop}
use Rattle.jzon.specs.Grammar.{is_high, is_low, is_surrogate}
use Rattle.jzon.specs.Private.Machine.{Role, State, string, between, code, second_code, after_unit, move_pair}
use Rattle.jzon.specs.Private.Machine.{outcome_on, from, Leads, Reports}

-- the byte before `end` is a quote, at `start` or after it
abbrev pub EndsAtQuote : List ℕ → ℕ → ℕ → Type 0
EndsAtQuote source start end =
    (start < end) × IsCharBoundary source (end - 1) × IsCharBoundary source end
    × (slice_index source (end - 1) ≡ quotation_mark)

-- from offset `start` on, in these states, the character of the result is read, or the error says where it is wrong
abbrev pub ReadsCharacter : List ℕ → ℕ → (Role → List ℕ → State) → Result (ℕ × ℕ) Stop → Type 0
ReadsCharacter source start state result = (r : Reading) (role : Role) (bs : List ℕ)
    → Leads r source (state role bs) start result (λ ch. string role (bs ++ encode_utf8 ch) between)

-- the four digits of an escape from offset `start` on are read as this code unit, or the error reports their fault
abbrev pub ReadsUnit : List ℕ → ℕ → Result ℕ Stop → Type 0
ReadsUnit source start result = (r : Reading) (role : Role) (bs : List ℕ) → MatchResult result
    (λ u. from r source (string role bs (code 3 0)) start
    ≡ from r source (after_unit (is_surrogate u) role bs u) (start + 4))
    (λ e. Reports source e (from r source (string role bs (code 3 0)) start))

-- the four digits of the second escape of a surrogate pair, after the first escape's code unit `h`
abbrev pub ReadsSecondUnit : List ℕ → ℕ → Result ℕ Stop → Type 0
ReadsSecondUnit source start result = (r : Reading) (role : Role) (bs : List ℕ) (h : ℕ) → MatchResult result
    (λ u. from r source (string role bs (second_code h 3 0)) start
    ≡ outcome_on (move_pair (is_high h && is_low u) role bs h u) (λ p. from r source p (start + 4))
    (chars (drop (start + 3) source)))
    (λ e. Reports source e (from r source (string role bs (second_code h 3 0)) start))
