use Rattle.std.proofs.Common.{◌∙◌, ℕ, List, length, refl, sym, subst}
use Rattle.bucket_shared.specs.Passes.{limit_of}
use Rattle.reply_model.specs.declared.reply.Reply.{Reply}
use Rattle.library_api.specs.declared.settings.Settings.{Settings}
use Rattle.reply_model.specs.Blocks.{run_cutting}
use Rattle.client_sessions.specs.Blocks.{clients_of, IsSessionOf, AreRun}
use Rattle.client_sessions.proofs.Runs.{run_is, sole_end}
use Rattle.client_sessions.proofs.parts.run_parts.Given.{Over}
use Rattle.client_sessions.proofs.parts.run_parts.Goals as goal

-- the first commands, the blocks and the last commands, judged by the clients of the run
begun : (g : Over) (c : goal.After-in_order g) → IsSessionOf (run_cutting c.args.settings.cutting) (clients_of c.args.frames.now c.args.settings (limit_of c.args.pass)) c.args.first.now c.session-pass.result.1 c.args.pass c.session-pass.result.0
begun g c = subst (λ (s : Settings). IsSessionOf (run_cutting s.cutting) (clients_of c.args.frames.now s (limit_of c.args.pass)) c.args.first.now c.session-pass.result.1 c.args.pass c.session-pass.result.0) c.again.ensures c.session-pass.ensures

met : (g : Over) (c : goal.After-in_order g) → AreRun (run_cutting c.args.settings.cutting) (clients_of c.args.frames.now c.args.settings (limit_of c.args.pass)) c.args.blocks.now c.in_order.result c.session-pass.result.0 c.run_blocks-pass.result.0
met g c =
    subst (λ (n : ℕ). AreRun (run_cutting c.args.settings.cutting) (clients_of c.args.frames.now c.args.settings n) c.args.blocks.now c.in_order.result c.session-pass.result.0 c.run_blocks-pass.result.0) (begun g c).limit
    (subst (λ (told : List (List Reply)). AreRun (run_cutting c.args.settings.cutting) (clients_of c.args.frames.now c.args.settings (limit_of c.session-pass.result.0)) c.args.blocks.now told c.session-pass.result.0 c.run_blocks-pass.result.0) (sym c.in_order.ensures) c.run_blocks-pass.ensures.run)

ended : (g : Over) (c : goal.After-in_order g) → IsSessionOf (run_cutting c.args.settings.cutting) (clients_of c.args.frames.now c.args.settings (limit_of c.args.pass)) c.args.last.now c.session-pass-2.result.1 c.run_blocks-pass.result.0 c.session-pass-2.result.0
ended g c =
    subst (λ (n : ℕ). IsSessionOf (run_cutting c.args.settings.cutting) (clients_of c.args.frames.now c.args.settings n) c.args.last.now c.session-pass-2.result.1 c.run_blocks-pass.result.0 c.session-pass-2.result.0) ((met g c).limit ∙ (begun g c).limit)
    (subst (λ (s : Settings). IsSessionOf (run_cutting s.cutting) (clients_of c.args.frames.now s (limit_of c.run_blocks-pass.result.0)) c.args.last.now c.session-pass-2.result.1 c.run_blocks-pass.result.0 c.session-pass-2.result.0) c.again-2.ensures c.session-pass-2.ensures)

pub returns-clause-ran : goal.returns-clause-ran
returns-clause-ran g c =
    run_is (run_cutting c.args.settings.cutting) (clients_of c.args.frames.now c.args.settings (limit_of c.args.pass)) (λ n. refl) c.args.settings.moment (λ n. refl) (λ m n. refl) (length c.args.frames.now) c.args.first.now c.args.blocks.now c.args.last.now c.requires.first c.requires.last
    (record { first = c.session-pass.result.1; blocks = c.in_order.result; last = c.session-pass-2.result.1 })
    c.args.pass c.session-pass.result.0 c.run_blocks-pass.result.0 c.session-pass-2.result.0 c.requires.sole (begun g c) (met g c) (ended g c)

-- the pass is sole again
pub returns-clause-sole : goal.returns-clause-sole
returns-clause-sole g c =
    sole_end (run_cutting c.args.settings.cutting) (clients_of c.args.frames.now c.args.settings (limit_of c.args.pass)) (λ n. refl) c.args.settings.moment (λ n. refl) (λ m n. refl) (length c.args.frames.now) c.args.first.now c.args.blocks.now c.args.last.now c.requires.first c.requires.last
    (record { first = c.session-pass.result.1; blocks = c.in_order.result; last = c.session-pass-2.result.1 })
    c.args.pass c.session-pass.result.0 c.run_blocks-pass.result.0 c.session-pass-2.result.0 c.requires.sole (begun g c) (met g c) (ended g c)
