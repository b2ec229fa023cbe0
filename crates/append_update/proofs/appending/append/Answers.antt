use Rattle.std.proofs.Common.{refl}
use Rattle.reply_model.specs.CommitAnswers.{append_answer}
use Rattle.frame_write.proofs.ReplyLemmas.{goes_on}
use Rattle.append_update.specs.declared.wish.Wish.TheVariants as wishes
use Rattle.append_update.specs.Asking.{IsAnswered, Declines, Wants, Loses}
use Rattle.append_update.proofs.AloneLemmas.{tries_lay}
use Rattle.append_update.proofs.ReplyLemmas.{append_is_legal}
use Rattle.append_update.proofs.SharedCalls.{append_shares}
use Rattle.append_update.proofs.appending.append.Goals as goal

pub returns-clause-grown : goal.returns-clause-grown
returns-clause-grown g c =
    goes_on (g.B.Bucket.number c.args.bucket.now) (g.B.Bucket.sole c.args.bucket.now) c.args.symbol.now (IsAnswered (g.B.Bucket.number c.args.bucket.now) c.args.symbol.now (wishes.Append c.args.frame) c.args.options.now) (Declines c.args.symbol.now (wishes.Append c.args.frame) c.args.options.now) (Wants c.args.symbol.now (wishes.Append c.args.frame) c.args.options.now) (Loses c.args.symbol.now (wishes.Append c.args.frame))
    _ _ _ _ _ _ _ c.try_all.ensures.did

pub returns-clause-legal : goal.returns-clause-legal
returns-clause-legal g c =
    append_is_legal (g.B.Bucket.number c.args.bucket.now) (g.B.Bucket.sole c.args.bucket.now) c.args.symbol.now c.args.frame (wishes.Append c.args.frame) c.args.options.now (g.B.Bucket.limit c.args.bucket.now) _ _ _ _ _ refl c.try_all.ensures.did

pub returns-clause-lays : goal.returns-clause-lays
returns-clause-lays g c = λ grows.
    tries_lay (g.B.Bucket.number c.args.bucket.now) (g.B.Bucket.sole c.args.bucket.now) c.args.symbol.now (wishes.Append c.args.frame) c.args.options.now (g.B.Bucket.limit c.args.bucket.now) _ _ _ _ _
    c.try_all.ensures.cutting (g.met.B.Bucket.lawful c.try_all.new.bucket) grows c.try_all.ensures.did (λ st. append_answer st c.args.options.now.prune c.args.options.now.at c.args.frame.now) (λ st. refl)

pub returns-clause-shares : goal.returns-clause-shares
returns-clause-shares g c = append_shares (g.B.Bucket.number c.args.bucket.now) (g.B.Bucket.sole c.args.bucket.now) c.args.symbol.now c.args.options.now (g.B.Bucket.limit c.args.bucket.now) _ _ _ _ (g.met.B.Bucket.lawful c.try_all.new.bucket) c.args.frame _ c.try_all.ensures.did
