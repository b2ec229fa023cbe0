use Rattle.std.proofs.Common.{map, subst, sym}
use Rattle.script_lang.specs.Scripts.{AreLoaded}
use Rattle.script_lang.proofs.Loaded.{draft-loaded}
use Rattle.script_lang.proofs.script.read_script.Goals as goal

pub returns-clause-loaded : goal.returns-clause-loaded
returns-clause-loaded c = subst AreLoaded (sym c.finished.ensures) (draft-loaded (map (λ line. line.now) c.deref.result.now) c.in_ok-draft.draft c.in_ok-draft.ensures)
