use Rattle.std.proofs.Common.{◌≡◌, ◌≤◌, take, length}
use Rattle.std.specs.Vec.{vec_len, vec_capacity}
use Rattle.bucket_core.specs.Calls.{IsSteady}
use Rattle.library_api.specs.Steps.{client_of}
use Rattle.reply_model.specs.Blocks.{run_cutting}
use Rattle.client_sessions.specs.Sessions.{IsSession}
use Rattle.client_sessions.proofs.session.carry_out.Given as goal

-- the commands so far were carried out, and there is room for the other replies
abbrev pub invariant-loop-command : goal.invariant-loop-command
invariant-loop-command g l = record {
  session : IsSession (run_cutting l.fn.library.settings.cutting) (client_of l.frames l.fn.library.settings (g.B.Bucket.number l.fn.library.bucket) (g.B.Bucket.limit l.fn.library.bucket)) (g.B.Bucket.sole l.fn.library.bucket) (g.B.Bucket.faults l.fn.library.bucket) (g.B.Bucket.faults l.library.bucket)
      (take l.command-index l.commands) l.replies.items (g.B.Bucket.seen l.fn.library.bucket) (g.B.Bucket.seen l.library.bucket);
  steady : IsSteady g.B.Bucket.number g.B.Bucket.limit g.B.Bucket.faults g.B.Bucket.sole l.fn.library.bucket l.library.bucket;
  settings : l.library.settings ≡ l.fn.library.settings;
  count : vec_len l.replies ≡ l.command-index;
  room : length l.commands ≤ vec_capacity l.replies;
}
