-- Why bytes are not read as an element or a snapshot.
--     IsFaultOf           the place of the first bad field, or want of memory
use Rattle.std.specs.Prelude.{◌≡◌, ℕ, Result, Some, ⊤}
use Rattle.byte_fields.specs.Reading.{fault_at}
use Rattle.version_chain.specs.declared.fault.EntryFault.{EntryFault}
use Rattle.version_chain.specs.declared.fault.EntryFault.TheVariants as faults

-- the place of the first field that breaks its rule, in bytes of this length; or want of memory, which tells nothing
abbrev pub IsFaultOf : {A : Type 0} → ℕ → Result A ℕ → EntryFault → Type 0
IsFaultOf len reading (faults.Bad at) = fault_at len reading ≡ Some at
IsFaultOf len reading faults.NoMemory = ⊤
