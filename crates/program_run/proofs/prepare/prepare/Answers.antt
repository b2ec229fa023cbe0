use Rattle.std.proofs.Common.{List, length, map, ◌∙◌, sym, ap, subst}
use Rattle.std.specs.List.{AllZip}
use Rattle.std.proofs.lemmas.List.{length-map}
use Rattle.frame_core.specs.RawFrames.{table_of}
use Rattle.script_lang.specs.declared.load.Load.{Load}
use Rattle.program_run.specs.Causes.{GivesTable}
use Rattle.program_run.specs.Preparing.{LoadsHalt}
use Rattle.program_run.proofs.Loading.{as-many, loads_stop, prepared_plan}
use Rattle.program_run.proofs.Ready.{ready-plan}
use Rattle.program_run.proofs.prepare.prepare.Goals as goal

pub returns-in-Ok-clause-plan : goal.returns-in-Ok-clause-plan
returns-in-Ok-clause-plan g c =
    prepared_plan _ _ _ _ c.in_ok-script.script c.in_ok-script.options c.in-Ok.frames c.plan_of.result c.in_ok-script.ensures.found
    (subst (λ h. AllZip (GivesTable h) c.in_ok-script.script.loads (map table_of c.in-Ok.frames)) c.find_script.ensures.same
    (subst (λ (l : List Load). AllZip (GivesTable (g.F.Shelf.holds c.find_script.new.shelf)) l (map table_of c.in-Ok.frames)) c.items.ensures c.in-Ok.ensures.loaded))
    c.plan_of.ensures.options c.plan_of.ensures.names c.plan_of.ensures.parts c.plan_of.ensures.frames c.plan_of.ensures.memory

pub returns-in-Ok-clause-ready : goal.returns-in-Ok-clause-ready
returns-in-Ok-clause-ready g c =
    ready-plan c.in_ok-script.script c.in-Ok.frames c.plan_of.result c.in_ok-script.ensures.ready
    (ap length (sym c.items.ensures) ∙ (as-many (GivesTable (g.F.Shelf.holds c.find_script.new.shelf)) c.items.result.now (map table_of c.in-Ok.frames) c.in-Ok.ensures.loaded ∙ length-map c.in-Ok.frames table_of))
    c.plan_of.ensures.parts c.plan_of.ensures.frames

pub returns-in-Err-clause-plan : goal.returns-in-Err-clause-plan
returns-in-Err-clause-plan g c =
    loads_stop _ _ (g.F.Shelf.faults c.find_script.new.shelf) _ _ c.in_ok-script.script c.in-Err.halt c.find_script.ensures.never_falls c.in_ok-script.ensures.found.found
    (subst (λ h. LoadsHalt h (g.F.Shelf.faults c.find_script.new.shelf) (g.F.Shelf.faults c.load_frames.new.shelf) c.in_ok-script.script.loads c.in-Err.halt) c.find_script.ensures.same
    (subst (λ (l : List Load). LoadsHalt (g.F.Shelf.holds c.find_script.new.shelf) (g.F.Shelf.faults c.find_script.new.shelf) (g.F.Shelf.faults c.load_frames.new.shelf) l c.in-Err.halt) c.items.ensures c.in-Err.ensures.halts))
