use Rattle.std.proofs.Common.{◌∙◌, option_copied, sym, subst}
use Rattle.std.specs.Arc.{arc_value}
use Rattle.bucket_core.specs.declared.event.Event.{Event}
use Rattle.bucket_core.specs.Calls.{refer_event}
use Rattle.bucket_shared.specs.Changes.{IsClaimedLater}
use Rattle.bucket_shared.specs.SeatCalls.{number_at, badge_at, seen_at}
use Rattle.bucket_shared.specs.Sole.{is_sole}
use Rattle.bucket_shared.proofs.Adding.{refer-later}
use Rattle.bucket_shared.proofs.calls.PassBucketStoreLaw.refer.Goals as goal

pub change-requires : goal.change-requires
change-requires g c =
    let s = c.args.self.now.seated in
    let n = number_at s in
    let made = c.in-Ok.ensures in
    subst (λ (e : Event). IsClaimedLater s e) (sym (λ i. refer_event n (made.symbol i) (made.was i) (made.entry i) ((made.changes ∙ c.deref.ensures) i)))
    (λ now looks lawful was. refer-later n (is_sole (badge_at s)) (seen_at s) now c.args.symbol.now (option_copied c.args.was) c.args.entry.now (arc_value c.args.changes) looks lawful c.requires.may was)
