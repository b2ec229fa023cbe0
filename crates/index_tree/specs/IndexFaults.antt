-- Why bytes are not read as an index.
--     IsIndexFault        the place of the first field that breaks its rule; nothing is said of want of memory
--     Reads               an answer that is what a reading gives, unless memory ran out
--     Stops               a reading that stops, unless memory ran out
use Rattle.std.specs.Prelude.{◌≡◌, ℕ, List, length, Result, Ok, Err, Some, ⊤}
use Rattle.byte_fields.specs.Reading.{fault_at}
use Rattle.index_tree.specs.declared.fault.IndexFault.{IndexFault}
use Rattle.index_tree.specs.declared.fault.IndexFault.TheVariants as faults
use Rattle.index_tree.specs.declared.fault.Stop.{Stop}
use Rattle.index_tree.specs.declared.fault.Stop.TheVariants as stops
use Rattle.index_tree.specs.IndexText.{index_of}

-- the fault is at the first field that breaks its rule; where memory ran out, nothing is said
abbrev pub IsIndexFault : List ℕ → IndexFault → Type 0
IsIndexFault bytes (faults.Bad at) = fault_at (length bytes) (index_of bytes) ≡ Some at
IsIndexFault bytes faults.NoMemory = ⊤

-- the answer, seen by `view`, is what the reading gives: the same value, or the same number of bytes left; where memory ran
-- out, nothing is said
abbrev pub Reads : {X Y : Type 0} → (X → Y) → Result X Stop → Result Y ℕ → Type 0
Reads view (Ok x) reading = reading ≡ Ok (view x)
Reads view (Err (stops.Bad left)) reading = reading ≡ Err left
Reads view (Err stops.NoMemory) reading = ⊤

-- the reading stops with so many bytes left; where memory ran out, nothing is said
abbrev pub Stops : {Y : Type 0} → Stop → Result Y ℕ → Type 0
Stops (stops.Bad left) reading = reading ≡ Err left
Stops stops.NoMemory reading = ⊤
