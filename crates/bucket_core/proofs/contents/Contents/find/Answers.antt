use Rattle.std.proofs.Common.{ap, ◌∙◌, Some}
use Rattle.bucket_core.proofs.ContentsLemmas.{none_stands, entry_stands}
use Rattle.bucket_core.proofs.contents.Contents.find.Goals as goal

pub returns-in-None : goal.returns-in-None
returns-in-None c = λ h shows.
    let s = none_stands c.args.key.now c.args.self.now.entries.entries h shows.entries c.in-None.ensures.value in
    record { body = s.0; place = shows.count; since = s.1 }

pub returns-in_ok-try_clone-in-Some : goal.returns-in_ok-try_clone-in-Some
returns-in_ok-try_clone-in-Some c = λ h shows.
    let s = entry_stands c.args.key.now c.args.self.now.entries.entries h c.in-Some.entry.now shows.entries c.in-Some.ensures.value in
    record { body = ap Some c.in_ok-try_clone-in-Some.ensures ∙ s.0; place = shows.count; since = s.1 }
