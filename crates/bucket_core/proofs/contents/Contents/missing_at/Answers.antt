use Rattle.std.proofs.Common.{ℕ, inl, ap, sym, ◌∙◌, subst}
use Rattle.std.specs.Prelude.{is_some}
use Rattle.key_kind.specs.declared.key.Key.{Key}
use Rattle.bucket_core.specs.History.{stored, since}
use Rattle.bucket_core.specs.Calls.{IsMissingAt}
use Rattle.bucket_core.proofs.ContentsLemmas.{none_stands, entry_stands}
use Rattle.bucket_core.proofs.BucketLemmas.{IsMissingAt-elsewhere}
use Rattle.bucket_core.proofs.contents.Contents.missing_at.Goals as goal

pub returns-in-None : goal.returns-in-None
returns-in-None c = λ h shows.
    let s = none_stands c.args.key.now c.args.self.now.entries.entries h shows.entries c.in-None.ensures.value in
    inl (ap (λ (k : Key). is_some (stored h k)) (sym c.requires.key) ∙ ap is_some (sym s.0), shows.count)

pub returns-then-entry-since : goal.returns-then-entry-since
returns-then-entry-since c = λ h shows.
    let s = entry_stands c.args.key.now c.args.self.now.entries.entries h c.in-Some.entry.now shows.entries c.in-Some.ensures.value in
    (ap (λ (k : Key). is_some (stored h k)) (sym c.requires.key) ∙ ap is_some (sym s.0), ap (λ (k : Key). since h k) (sym c.requires.key) ∙ (sym s.1 ∙ c.if-entry-since.true))

pub returns-else-entry-since : goal.returns-else-entry-since
returns-else-entry-since c = λ h shows.
    let s = entry_stands c.args.key.now c.args.self.now.entries.entries h c.in-Some.entry.now shows.entries c.in-Some.ensures.value in
    subst (λ (n : ℕ). IsMissingAt h c.args.snap.now c.args.since n) (sym c.saturating_sub.ensures)
    (IsMissingAt-elsewhere h c.args.snap.now c.args.key.now c.args.since c.in-Some.entry.now.since c.requires.key (ap is_some (sym s.0), s.1) c.if-entry-since.false)
