use Rattle.std.proofs.Common.{◌∷◌, [], length, length-append, refl, sym, ap, ◌∙◌, subst, arith}
use Rattle.std.proofs.lemmas.List.{length-reverse}
use Rattle.bucket_core.specs.History.{History, author}
use Rattle.bucket_core.specs.Laws.{IsLawful}
use Rattle.store_model.specs.Law.{IsClaimed}
use Rattle.bucket_shared.specs.SeatCalls.{number_at}
use Rattle.bucket_shared.specs.Stories.{event_row, history}
use Rattle.bucket_shared.proofs.Trying.{made_as, claimed, may_add, adds_tested, stays_added, stays_given}
use Rattle.bucket_shared.proofs.seated.Seated.change_named.Goals as goal

pub add-requires-clause-may : goal.add-requires-clause-may
add-requires-clause-may g c =
    let s = c.args.self.now in
    let mid = c.take-store.new.seat in
    let e = g.K.EventName.event in
    let tested = g.C.Change.tested c.args.change in
    let made = made_as c.make.new.contents s.limit (history mid) tested c.requires.event (c.in-Ok.ensures.made (number_at s) (history mid) c.take-store.ensures.stands.shows) in
    may_add s mid c.take-store.result e tested c.take-store.ensures c.requires.claim _ c.row-row.result made refl
    (ap author c.requires.event ∙ g.met.C.Change.by c.args.change (number_at s)) (ap event_row c.requires.event ∙ c.row-row.ensures.row (number_at s)) c.row-row.ensures.bound

pub returns-in-Ok-clause-stays : goal.returns-in-Ok-clause-stays
returns-in-Ok-clause-stays g c = stays_added c.args.self.now _ c.take-store.new.seat c.take-store.result g.K.EventName.event c.take-store.ensures c.add.ensures refl

pub returns-in-Ok-clause-did : goal.returns-in-Ok-clause-did
returns-in-Ok-clause-did g c =
    let mid = c.take-store.new.seat in
    adds_tested c.args.self.now mid c.take-store.result g.K.EventName.event (g.C.Change.tested c.args.change) c.take-store.ensures c.requires.claim _ c.make.new.contents _ (made_as c.make.new.contents c.args.self.now.limit (history mid) (g.C.Change.tested c.args.change) c.requires.event (c.in-Ok.ensures.made (number_at c.args.self.now) (history mid) c.take-store.ensures.stands.shows)) c.add.ensures.history
    (omega (arith, c.len-self.ensures, c.take-store.ensures.counted, ap length c.add.ensures.history, length-reverse mid.me.0.seen))

pub returns-in-Err-clause-stays : goal.returns-in-Err-clause-stays
returns-in-Err-clause-stays g c = stays_given c.args.self.now _ c.take-store.new.seat c.take-store.result c.take-store.ensures c.give.ensures.cell c.give.ensures.view refl

pub overflow_add-self : goal.overflow_add-self
overflow_add-self g c =
    let mid = c.take-store.new.seat in
    let made = c.in-Ok.ensures.made 0 (history mid) c.take-store.ensures.stands.shows in
    omega (arith, c.len-self.ensures, c.take-store.ensures.counted, made.room, c.args.self.now.limited, length-reverse mid.me.0.seen)

pub invariant_of-self-clause-counted : goal.invariant_of-self-clause-counted
invariant_of-self-clause-counted g c =
    let mid = c.take-store.new.seat in
    omega (arith, c.len-self.ensures, c.take-store.ensures.counted, ap length c.add.ensures.seen, length-append mid.me.0.seen (g.K.EventName.event ∷ []))

pub invariant_of-self-clause-lawful : goal.invariant_of-self-clause-lawful
invariant_of-self-clause-lawful g c =
    let mid = c.take-store.new.seat in
    let s = c.args.self.now in
    let e = g.K.EventName.event in
    let tested = g.C.Change.tested c.args.change in
    let made = made_as c.make.new.contents s.limit (history mid) tested c.requires.event (c.in-Ok.ensures.made (number_at s) (history mid) c.take-store.ensures.stands.shows) in
    ∣ subst (λ (h : History). IsLawful IsClaimed h) (sym c.add.ensures.history) ((made.may, claimed s mid c.take-store.result e tested c.take-store.ensures c.requires.claim c.make.new.contents made), c.take-store.ensures.stands.lawful) ∣₁
