use Rattle.std.proofs.Common.{rules, ◌∙◌, ◌+◌, ℕ, List, [], take, refl, sym, subst, arith}
use Rattle.version_chain.specs.Traces.{GoesOn}
use Rattle.reply_model.specs.declared.reply.Reply.{Reply}
use Rattle.reply_model.specs.Windows.{Client}
use Rattle.library_api.specs.Steps.{client_of, IsLegalIn, IsStepAlone}
use Rattle.reply_model.specs.Blocks.{run_cutting}
use Rattle.library_api.specs.declared.settings.Settings.{Settings}
use Rattle.client_sessions.specs.Sessions.{IsSession}
use Rattle.client_sessions.proofs.Sessions.{session_none, same_client, session_at, session_all}
use Rattle.client_sessions.proofs.session.carry_out.Goals as goal

pub loop-command-init : goal.loop-command-init
loop-command-init g c = record {
  session = subst (λ (rs : List Reply). IsSession (run_cutting c.args.library.now.settings.cutting) (client_of c.args.frames.now c.args.library.now.settings (g.B.Bucket.number c.args.library.now.bucket) (g.B.Bucket.limit c.args.library.now.bucket)) (g.B.Bucket.sole c.args.library.now.bucket) (g.B.Bucket.faults c.args.library.now.bucket) (g.B.Bucket.faults c.args.library.now.bucket) [] rs (g.B.Bucket.seen c.args.library.now.bucket) (g.B.Bucket.seen c.args.library.now.bucket)) (sym c.requires.none)
      (session_none (run_cutting c.args.library.now.settings.cutting) c.runs_alone_are_sole.ensures.grow (client_of c.args.frames.now c.args.library.now.settings (g.B.Bucket.number c.args.library.now.bucket) (g.B.Bucket.limit c.args.library.now.bucket)) (g.B.Bucket.sole c.args.library.now.bucket) (g.B.Bucket.faults c.args.library.now.bucket) (g.B.Bucket.seen c.args.library.now.bucket));
  steady = record { same_number = refl; same_limit = refl; faults_rise = omega arith; stays_sole = λ s. s };
  settings = refl;
  count = search rules;
  room = c.requires.room;
}

pub loop-command-preserved : goal.loop-command-preserved
loop-command-preserved g c =
    let was = c.args.library.now in
    let mid = c.loop-command.library in
    let new = c.step-reply.new.self in
    let now = client_of c.args.frames.now was.settings (g.B.Bucket.number was.bucket) (g.B.Bucket.limit was.bucket) in
    let same = same_client c.args.frames.now mid.settings was.settings (g.B.Bucket.number mid.bucket) (g.B.Bucket.number was.bucket) (g.B.Bucket.limit mid.bucket) (g.B.Bucket.limit was.bucket)
    c.loop-command.invariant.settings c.loop-command.invariant.steady.same_number c.loop-command.invariant.steady.same_limit in
    record {
      session = subst (λ (rs : List Reply). IsSession (run_cutting was.settings.cutting) now (g.B.Bucket.sole was.bucket) (g.B.Bucket.faults was.bucket) (g.B.Bucket.faults new.bucket) (take (c.loop-command.command-index + 1) c.args.commands.now) rs (g.B.Bucket.seen was.bucket) (g.B.Bucket.seen new.bucket)) (sym c.noted-replies.ensures.items)
          (session_at (run_cutting was.settings.cutting) c.runs_alone_are_sole.ensures.grow now c.args.commands.now c.loop-command.command-index c.loop-command.replies.items c.command-item.result c.step-reply.result
          (g.B.Bucket.seen was.bucket) (g.B.Bucket.seen mid.bucket) (g.B.Bucket.seen new.bucket)
          (g.B.Bucket.faults was.bucket) (g.B.Bucket.faults mid.bucket) (g.B.Bucket.faults new.bucket) (g.B.Bucket.sole was.bucket) (g.B.Bucket.sole mid.bucket)
          c.loop-command-test.true c.command-item.is c.step-reply.ensures.steady.faults_rise c.loop-command.invariant.steady.stays_sole c.loop-command.invariant.session
          (subst (λ (n : ℕ). GoesOn n (g.B.Bucket.sole mid.bucket) (g.B.Bucket.seen mid.bucket) (g.B.Bucket.seen new.bucket)) c.loop-command.invariant.steady.same_number c.step-reply.ensures.grown)
          (subst (λ (x : Client). IsLegalIn x (g.B.Bucket.faults mid.bucket) (g.B.Bucket.faults new.bucket) (g.B.Bucket.seen mid.bucket) (g.B.Bucket.seen new.bucket) c.command-item.result c.step-reply.result) same c.step-reply.ensures.legal)
          (subst (λ (x : Settings). IsStepAlone x now (g.B.Bucket.seen mid.bucket) (g.B.Bucket.seen new.bucket) c.command-item.result c.step-reply.result) c.loop-command.invariant.settings
          (subst (λ (x : Client). IsStepAlone mid.settings x (g.B.Bucket.seen mid.bucket) (g.B.Bucket.seen new.bucket) c.command-item.result c.step-reply.result) same c.step-reply.ensures.alone)));
      steady = record {
        same_number = c.step-reply.ensures.steady.same_number ∙ c.loop-command.invariant.steady.same_number;
        same_limit = c.step-reply.ensures.steady.same_limit ∙ c.loop-command.invariant.steady.same_limit;
        faults_rise = omega (arith, c.loop-command.invariant.steady.faults_rise, c.step-reply.ensures.steady.faults_rise);
        stays_sole = λ s. c.step-reply.ensures.steady.stays_sole (c.loop-command.invariant.steady.stays_sole s);
      };
      settings = c.step-reply.ensures.settings ∙ c.loop-command.invariant.settings;
      count = omega (arith, c.noted-replies.ensures.len, c.loop-command.invariant.count);
      room = omega (arith, c.loop-command.invariant.room, c.noted-replies.ensures.space);
    }

pub returns-clause-session : goal.returns-clause-session
returns-clause-session g c =
    let was = c.args.library.now in
    let now = client_of c.args.frames.now was.settings (g.B.Bucket.number was.bucket) (g.B.Bucket.limit was.bucket) in
    subst (λ (rs : List Reply). IsSession (run_cutting was.settings.cutting) now (g.B.Bucket.sole was.bucket) (g.B.Bucket.faults was.bucket) (g.B.Bucket.faults c.loop-command.library.bucket) c.args.commands.now rs (g.B.Bucket.seen was.bucket) (g.B.Bucket.seen c.loop-command.library.bucket)) (sym c.from_vec.ensures)
    (session_all (run_cutting was.settings.cutting) now (g.B.Bucket.sole was.bucket) c.args.commands.now c.loop-command.command-index c.loop-command.replies.items (g.B.Bucket.seen was.bucket) (g.B.Bucket.seen c.loop-command.library.bucket)
    (g.B.Bucket.faults was.bucket) (g.B.Bucket.faults c.loop-command.library.bucket) (omega (arith, c.loop-command-test.false)) c.loop-command.invariant.session)
