use Rattle.std.proofs.Common.{◌≡◌, ◌+◌, ◌++◌, ℕ, List, [], reverse, take, drop}
use Rattle.frame_core.specs.Selecting.{then_map, places_of}
use Rattle.frame_core.proofs.selecting.asked_places.Given as goal

-- the places so far, and those of the names that are left, are the places of all
abbrev pub invariant-loop-asked : goal.invariant-loop-asked
invariant-loop-asked l = then_map (λ (ks : List ℕ). l.places ++ ks) (places_of (l.asked + 1) (reverse (take l.asked l.names)) (drop l.asked l.names) l.columns) ≡ places_of 1 [] l.names l.columns
