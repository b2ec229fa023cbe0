use Rattle.std.proofs.Common.{sym, ap, subst}
use Rattle.std.specs.Prelude.{IfOk}
use Rattle.frame_core.specs.Ranges.{Range}
use Rattle.append_update.specs.Shares.{ClearsSlots, SharesAs}
use Rattle.frame_write.proofs.ReplyLemmas.{goes_on}
use Rattle.append_update.specs.declared.wish.Wish.TheVariants as wishes
use Rattle.append_update.specs.Asking.{IsAnswered, Declines, Wants, Loses}
use Rattle.reply_model.specs.CommitAnswers.{clear_answer}
use Rattle.append_update.proofs.AloneLemmas.{tries_lay}
use Rattle.append_update.proofs.ReplyLemmas.{delete_is_legal}
use Rattle.append_update.proofs.SharedCalls.{clear_shares}
use Rattle.append_update.proofs.updating.delete_range.Goals as goal

pub returns-clause-grown : goal.returns-clause-grown
returns-clause-grown g c =
    let wish = wishes.Clear c.ordered-range.result in
    goes_on (g.B.Bucket.number c.args.bucket.now) (g.B.Bucket.sole c.args.bucket.now) c.args.symbol.now (IsAnswered (g.B.Bucket.number c.args.bucket.now) c.args.symbol.now wish c.args.options.now) (Declines c.args.symbol.now wish c.args.options.now) (Wants c.args.symbol.now wish c.args.options.now) (Loses c.args.symbol.now wish)
    _ _ _ _ _ _ _ c.try_all.ensures.did

pub returns-clause-legal : goal.returns-clause-legal
returns-clause-legal g c =
    delete_is_legal (g.B.Bucket.number c.args.bucket.now) (g.B.Bucket.sole c.args.bucket.now) c.args.symbol.now c.args.range (wishes.Clear c.ordered-range.result) c.args.options.now (g.B.Bucket.limit c.args.bucket.now) _ _ _ _ _
    (ap (λ r. wishes.Clear r) c.ordered-range.ensures.same) c.try_all.ensures.did

pub returns-clause-lays : goal.returns-clause-lays
returns-clause-lays g c = λ grows.
    let options = c.args.options.now in
    tries_lay (g.B.Bucket.number c.args.bucket.now) (g.B.Bucket.sole c.args.bucket.now) c.args.symbol.now (wishes.Clear c.ordered-range.result) options (g.B.Bucket.limit c.args.bucket.now) _ _ _ _ _
    c.try_all.ensures.cutting (g.met.B.Bucket.lawful c.try_all.new.bucket) grows c.try_all.ensures.did (clear_answer c.args.range options.prune options.at)
    (λ st. ap (λ range. clear_answer range options.prune options.at st) (sym c.ordered-range.ensures.same))

pub returns-clause-shares : goal.returns-clause-shares
returns-clause-shares g c =
    subst (λ (range : Range). IfOk c.try_all.result (λ done. SharesAs (g.B.Bucket.number c.args.bucket.now) c.args.symbol.now (ClearsSlots c.args.symbol.now c.args.options.now.cutting range) done.place (g.B.Bucket.seen c.args.bucket.now) (g.B.Bucket.seen c.try_all.new.bucket))) c.ordered-range.ensures.same
    (clear_shares (g.B.Bucket.number c.args.bucket.now) (g.B.Bucket.sole c.args.bucket.now) c.args.symbol.now c.args.options.now (g.B.Bucket.limit c.args.bucket.now) _ _ _ _ (g.met.B.Bucket.lawful c.try_all.new.bucket) c.ordered-range.result _ c.try_all.ensures.did)
