-- What the program does for its arguments (docs/JZONFMT.md).
use Rattle.std.specs.Prelude.{◌≡◌, ℕ, ◌^◌, Bool, true, false, List, [], ◌∷◌, length, nat_le, nat_lt, ◌&&◌}
use Rattle.std.specs.Prelude.{if◌then◌else◌, Result, Ok, Err, Option, None, Some, option_map, codes, MatchOption}
use Rattle.std.specs.Char.{is_digit}
use Rattle.std.specs.List.{list_all}
use Rattle.std.specs.Str.{bytes_eq}
use Rattle.std.specs.Str.Parse.{digits_value}
use Rattle.std.specs.Io.KnownBytes.{Keeps}
use Rattle.jzon.specs.ErrorText.{error_text}
use Rattle.jzon.specs.Reading.{Reading, usual}
use Rattle.jzonfmt.specs.declared.engine.Layout.{Layout}
use Rattle.jzonfmt.specs.declared.engine.Layout.TheVariants.{Compact, Pretty}
use Rattle.jzonfmt.specs.declared.engine.Options.{Options}
use Rattle.jzonfmt.specs.declared.engine.RunFault.{RunFault}
use Rattle.jzonfmt.specs.declared.engine.RunFault.TheVariants.{Read, NotUtf8, Json, Write, Memory}
use Rattle.jzonfmt.specs.Run.{Streams, Runs}

-- the message for a fault
abbrev pub fault_text : RunFault → List ℕ
fault_text (Read e) = codes "reading failed"
fault_text NotUtf8 = codes "input is not UTF-8"
fault_text (Json e) = error_text e
fault_text (Write e) = codes "writing failed"
fault_text Memory = codes "Out of memory"

-- the exit status after a fault: 1 for invalid input, 3 for an I/O error or a failed allocation
abbrev pub fault_status : RunFault → ℕ
fault_status NotUtf8 = 1
fault_status (Json e) = 1
fault_status _ = 3

-- the exit status of a result
abbrev pub status_of : {T : Type 0} → Result T RunFault → ℕ
status_of (Ok _) = 0
status_of (Err fault) = fault_status fault

-- the number of spaces that an argument of one to five decimal digits names, at most 65535
abbrev pub asked_spaces : List ℕ → Option ℕ
asked_spaces n =
    if nat_lt 0 (length n) && nat_le (length n) 5 && list_all (λ c. is_digit c 10) n
    && nat_lt (digits_value 10 n) (2 ^ 16) then Some (digits_value 10 n) else None

-- The layout that the arguments name, if they name one: none for the compact layout, and `--pretty N` for the pretty
-- one with N spaces.
abbrev pub asked_layout : List (List ℕ) → Option Layout
asked_layout [] = Some Compact
asked_layout (option ∷ spaces ∷ []) =
    if bytes_eq option (codes "--pretty") then option_map Pretty (asked_spaces spaces) else None
asked_layout _ = None

-- the reading of `parse`, or a strict one
abbrev pub reading_of : Bool → Reading
reading_of strict = record usual { strict = strict }

-- the options for a reading and a layout
abbrev pub asking : Bool → Layout → Options
asking strict layout = record { reading = reading_of strict; layout = layout }

-- a layout's arguments, with `--strict` after them or without it
abbrev pub asked_strict_last : List (List ℕ) → Option Options
asked_strict_last (a ∷ b ∷ option ∷ []) =
    if bytes_eq option (codes "--strict") then option_map (asking true) (asked_layout (a ∷ b ∷ [])) else None
asked_strict_last words = option_map (asking false) (asked_layout words)

-- What the arguments ask for: a layout; with `--strict` before or after it a strict reading, else that of `parse`.
abbrev pub asked_options : List (List ℕ) → Option Options
asked_options (option ∷ words) =
    if bytes_eq option (codes "--strict") then option_map (asking true) (asked_layout words)
    else asked_strict_last (option ∷ words)
asked_options [] = asked_strict_last []

-- For arguments that aren't valid the status is 2, and nothing is read or written; for others the program runs and
-- returns the status of the run.
abbrev pub Drives : List (List ℕ) → ℕ → Streams → Streams → Type 0
Drives words status before after =
    MatchOption (asked_options words)
    ((status ≡ 2) × Keeps before.unread after.unread × Keeps before.written after.written)
    (λ options. (answer : Result (Unit {0}) RunFault) × Runs options.reading options.layout answer before after
    × (status ≡ status_of answer))
