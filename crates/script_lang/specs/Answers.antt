-- How the answers of readers relate to what a text is.
--     Reads                   a reader without memory gives what reading gives
--     GivesCsv                a reader of a file gives what reading gives, or memory is wanted
--     GivesScript             the same of a reader of a script
use Rattle.std.specs.Prelude.{◌≡◌, ⊤, Option, Some, None, Result, Ok, Err, option_map}
use Rattle.script_lang.specs.declared.fault.CsvFault.{CsvFault}
use Rattle.script_lang.specs.declared.fault.CsvFault.TheVariants as csv
use Rattle.script_lang.specs.declared.fault.ScriptFault.{ScriptFault}
use Rattle.script_lang.specs.declared.fault.ScriptFault.TheVariants as script

-- what was returned, seen by view, is what reading gives
abbrev pub Reads : {X Y : Type 0} → (X → Y) → Option X → Option Y → Type 0
Reads view answer read = option_map view answer ≡ read

-- BadCsv comes only where nothing can be read
abbrev pub FailsCsv : {Y : Type 0} → CsvFault → Option Y → Type 0
FailsCsv csv.BadCsv read = read ≡ None
FailsCsv csv.NoMemory read = ⊤

-- what was returned, seen by view, is what reading gives, and BadCsv comes only where nothing can be read
abbrev pub GivesCsv : {X Y : Type 0} → (X → Y) → Result X CsvFault → Option Y → Type 0
GivesCsv view (Ok x) read = read ≡ Some (view x)
GivesCsv view (Err e) read = FailsCsv e read

-- BadScript comes only where nothing can be read
abbrev pub FailsScript : {Y : Type 0} → ScriptFault → Option Y → Type 0
FailsScript script.BadScript read = read ≡ None
FailsScript script.NoMemory read = ⊤

-- what was returned, seen by view, is what reading gives, and BadScript comes only where nothing can be read
abbrev pub GivesScript : {X Y : Type 0} → (X → Y) → Result X ScriptFault → Option Y → Type 0
GivesScript view (Ok x) read = read ≡ Some (view x)
GivesScript view (Err e) read = FailsScript e read
