use Rattle.std.proofs.Common.{subst}
use Rattle.library_api.specs.Steps.{client_of, IsLegalIn, IsIsolatedIn, IsStepAlone}
use Rattle.library_api.proofs.StepLemmas.{step_alone, step_isolated}
use Rattle.library_api.proofs.library.Library.step.Goals as goal

pub returns-clause-legal : goal.returns-clause-legal
returns-clause-legal g c =
    let new = c.perform-reply.new.bucket in
    subst (λ l. IsLegalIn (client_of c.args.frames.now l.settings (g.B.Bucket.number l.bucket) (g.B.Bucket.limit l.bucket)) (g.B.Bucket.faults l.bucket) (g.B.Bucket.faults new) (g.B.Bucket.seen l.bucket) (g.B.Bucket.seen new) c.args.command.now c.perform-reply.result)
    c.self.view_is c.perform-reply.ensures.legal

pub returns-clause-isolated : goal.returns-clause-isolated
returns-clause-isolated g c =
    let new = c.perform-reply.new.bucket in
    let bucket = c.self.inside.bucket in
    let settings = c.self.inside.settings in
    subst (λ l. IsIsolatedIn (client_of c.args.frames.now l.settings (g.B.Bucket.number l.bucket) (g.B.Bucket.limit l.bucket)) (g.B.Bucket.seen l.bucket) (g.B.Bucket.seen new) c.args.command.now c.perform-reply.result)
    c.self.view_is
    (step_isolated c.commands_are_isolated.ensures (client_of c.args.frames.now settings (g.B.Bucket.number bucket) (g.B.Bucket.limit bucket)) (g.B.Bucket.faults bucket) (g.B.Bucket.faults new)
    (g.B.Bucket.seen bucket) (g.B.Bucket.seen new) c.args.command.now c.perform-reply.result c.perform-reply.ensures.legal)

pub returns-clause-alone : goal.returns-clause-alone
returns-clause-alone g c =
    let new = c.perform-reply.new.bucket in
    let bucket = c.self.inside.bucket in
    let settings = c.self.inside.settings in
    subst (λ l. IsStepAlone l.settings (client_of c.args.frames.now l.settings (g.B.Bucket.number l.bucket) (g.B.Bucket.limit l.bucket)) (g.B.Bucket.seen l.bucket) (g.B.Bucket.seen new) c.args.command.now c.perform-reply.result)
    c.self.view_is
    (step_alone c.legal_replies_alone_are_sole.ensures c.legal_reclaims_alone_are_sole.ensures (client_of c.args.frames.now settings (g.B.Bucket.number bucket) (g.B.Bucket.limit bucket)) settings (g.B.Bucket.faults bucket) (g.B.Bucket.faults new) (g.B.Bucket.sole bucket)
    (g.B.Bucket.seen bucket) (g.B.Bucket.seen new) c.args.command.now c.perform-reply.result c.requires.served c.perform-reply.ensures.grown c.perform-reply.ensures.legal c.perform-reply.ensures.lays c.perform-reply.ensures.looked)
