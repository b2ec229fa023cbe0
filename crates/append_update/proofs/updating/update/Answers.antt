use Rattle.std.proofs.Common.{[], refl, sym}
use Rattle.reply_model.specs.CommitAnswers.{update_answer}
use Rattle.frame_write.proofs.ReplyLemmas.{goes_on}
use Rattle.append_update.specs.declared.wish.Wish.TheVariants as wishes
use Rattle.append_update.specs.Asking.{IsAnswered, Declines, Wants, Loses}
use Rattle.append_update.proofs.AloneLemmas.{tries_lay}
use Rattle.append_update.proofs.ReplyLemmas.{same_range, update_is_legal, unranged_is_legal}
use Rattle.append_update.proofs.SharedCalls.{update_shares}
use Rattle.append_update.proofs.updating.update.Goals as goal

pub try_all-requires-clause-wish : goal.try_all-requires-clause-wish
try_all-requires-clause-wish g c = (c.requires.storable, c.in-Ok.ensures.order, c.in-Ok.ensures.inside)

pub returns-in-Ok-clause-grown : goal.returns-in-Ok-clause-grown
returns-in-Ok-clause-grown g c =
    let wish = wishes.Replace c.args.frame c.in-Ok.range c.args.upsert in
    goes_on (g.B.Bucket.number c.args.bucket.now) (g.B.Bucket.sole c.args.bucket.now) c.args.symbol.now (IsAnswered (g.B.Bucket.number c.args.bucket.now) c.args.symbol.now wish c.args.options.now) (Declines c.args.symbol.now wish c.args.options.now) (Wants c.args.symbol.now wish c.args.options.now) (Loses c.args.symbol.now wish)
    _ _ _ _ _ _ _ c.try_all.ensures.did

pub returns-in-Ok-clause-legal : goal.returns-in-Ok-clause-legal
returns-in-Ok-clause-legal g c =
    update_is_legal (g.B.Bucket.number c.args.bucket.now) (g.B.Bucket.sole c.args.bucket.now) c.args.symbol.now c.args.frame c.args.range c.in-Ok.range c.args.upsert (wishes.Replace c.args.frame c.in-Ok.range c.args.upsert) c.args.options.now (g.B.Bucket.limit c.args.bucket.now) _ _ _ _ _ refl
    (sym c.in-Ok.ensures.range) c.in-Ok.ensures.inside c.try_all.ensures.did

pub returns-in-Err-clause-grown : goal.returns-in-Err-clause-grown
returns-in-Err-clause-grown g c = record { more = []; is = refl; alone = λ e. tt; lawful = λ l. l }

pub returns-in-Err-clause-legal : goal.returns-in-Err-clause-legal
returns-in-Err-clause-legal g c =
    unranged_is_legal (g.B.Bucket.number c.args.bucket.now) (g.B.Bucket.sole c.args.bucket.now) c.args.symbol.now c.args.frame.now c.args.range c.args.upsert c.args.options.now (g.B.Bucket.limit c.args.bucket.now) (g.B.Bucket.faults c.args.bucket.now) (g.B.Bucket.faults c.args.bucket.now)
    c.place.result (g.B.Bucket.seen c.args.bucket.now) c.in-Err.why (sym c.in-Err.ensures.range) c.requires.some_tries c.place.ensures

pub returns-in-Ok-clause-lays : goal.returns-in-Ok-clause-lays
returns-in-Ok-clause-lays g c = λ grows.
    let options = c.args.options.now in
    tries_lay (g.B.Bucket.number c.args.bucket.now) (g.B.Bucket.sole c.args.bucket.now) c.args.symbol.now (wishes.Replace c.args.frame c.in-Ok.range c.args.upsert) options (g.B.Bucket.limit c.args.bucket.now) _ _ _ _ _
    c.try_all.ensures.cutting (g.met.B.Bucket.lawful c.try_all.new.bucket) grows c.try_all.ensures.did (λ st. update_answer st c.args.upsert options.prune options.at c.args.range c.args.frame.now)
    (λ st. same_range st c.args.upsert options.prune options.at c.args.range c.in-Ok.range c.args.frame.now (sym c.in-Ok.ensures.range) c.in-Ok.ensures.inside)

pub returns-in-Ok-clause-shares : goal.returns-in-Ok-clause-shares
returns-in-Ok-clause-shares g c =
    update_shares (g.B.Bucket.number c.args.bucket.now) (g.B.Bucket.sole c.args.bucket.now) c.args.symbol.now c.args.options.now (g.B.Bucket.limit c.args.bucket.now) _ _ _ _ (g.met.B.Bucket.lawful c.try_all.new.bucket) c.args.frame c.args.range c.in-Ok.range c.args.upsert _ c.try_all.ensures.did (sym c.in-Ok.ensures.range)
