use Rattle.std.proofs.Common.{◌≡◌, ◌++◌, filter, option_copied}
use Rattle.std.specs.Map.{keys_of}
use Rattle.bucket_core.specs.Calls.{matches}
use Rattle.bucket_core.proofs.contents.Contents.list.Given as goal

-- the keys so far and those that will match are all that match
abbrev pub invariant-loop-key : goal.invariant-loop-key
invariant-loop-key l = l.keys ++ filter (matches l.kind (option_copied l.name)) l.key-iterator ≡ filter (matches l.kind (option_copied l.name)) (keys_of l.self.entries.entries)
