use Rattle.std.proofs.Common.{None}
use Rattle.store_model.specs.ChainText.{start}
use Rattle.version_chain.specs.Reads.{form_of}
use Rattle.version_chain.proofs.Steps.{SoFar, mark_step}
use Rattle.version_chain.proofs.marks.read_marks.Given as goal

-- the marks so far were read, and what is left gives what the whole gives
abbrev pub invariant-loop : goal.invariant-loop
invariant-loop l = SoFar mark_step (start, None) l.count l.bytes l.counter l.marks (form_of l.next, l.tomb) l.rest
