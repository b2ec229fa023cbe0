use Rattle.std.proofs.Common.{◌≡◌, true}
use Rattle.index_tree.proofs.IndexLoops.{HeadsSoFar}
use Rattle.index_tree.specs.Names.{AreNoted}
use Rattle.index_tree.proofs.reading.read_schema.Given as goal

-- the columns so far were read and their names noted, and what is left gives what the whole gives
abbrev pub invariant-loop : goal.invariant-loop
invariant-loop l = record {
  timed : l.schema.timed ≡ true;
  noted : AreNoted l.names l.schema.columns;
  so_far : HeadsSoFar l.count l.counter l.bytes l.rest l.schema.columns;
}
