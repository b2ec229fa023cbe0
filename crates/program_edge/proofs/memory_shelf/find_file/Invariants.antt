use Rattle.std.proofs.Common.{◌≡◌, map, string_bytes, drop}
use Rattle.program_edge.specs.Memory.{held_under}
use Rattle.program_edge.proofs.memory_shelf.find_file.Given as goal

-- the first file of the name is among those that are left
abbrev pub invariant-loop-file : goal.invariant-loop-file
invariant-loop-file l = held_under (map (λ f. (string_bytes f.0, f.1.items)) (drop l.file-index l.files)) l.name ≡ held_under (map (λ f. (string_bytes f.0, f.1.items)) l.files) l.name
