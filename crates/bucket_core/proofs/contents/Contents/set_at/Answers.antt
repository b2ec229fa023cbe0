use Rattle.std.proofs.Common.{ap, sym}
use Rattle.std.specs.Prelude.{is_some}
use Rattle.bucket_core.proofs.ContentsLemmas.{none_stands, entry_stands}
use Rattle.bucket_core.proofs.contents.Contents.set_at.Goals as goal

pub returns-in-None : goal.returns-in-None
returns-in-None c = λ h shows.
    sym (none_stands c.args.key.now c.args.self.now.entries.entries h shows.entries c.in-None.ensures.value).0

pub returns-in-Some : goal.returns-in-Some
returns-in-Some c = λ h shows.
    let s = entry_stands c.args.key.now c.args.self.now.entries.entries h c.in-Some.entry.now shows.entries c.in-Some.ensures.value in
    (ap is_some (sym s.0), s.1)
