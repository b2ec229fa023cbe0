use Rattle.std.proofs.Common.{rules, ◌≡◌, ◌∙◌, ℕ, List, [], ◌∷◌, length, reverse, refl, sym, ap, subst, arith}
use Rattle.std.specs.List.{AllByRecursion}
use Rattle.std.proofs.lemmas.List.{reverse-append}
use Rattle.turn_cell.specs.declared.badge.Badge.{Badge}
use Rattle.bucket_shared.specs.Passes.{limit_of}
use Rattle.expr_clause.specs.declared.command.Command.{Command}
use Rattle.reply_model.specs.declared.reply.Reply.{Reply}
use Rattle.reply_model.specs.Blocks.{run_cutting}
use Rattle.client_sessions.specs.Sessions.{AreNamed}
use Rattle.client_sessions.specs.Blocks.{clients_of, IsSessionOf, AreRun}
use denote.Exit.{no}
use denote.Param.{param}
use denote.Param.Send.{IsSync, param_send, param_sync, arg_send, shr_send, shr_slice_send}
use Rattle.std.proofs.Crossing.{Vec-send}
use Rattle.std.proofs.alloc.Global.TheSendSync as heap
use Rattle.base_types.proofs.items.Items.TheSendSync as items
use Rattle.frame_core.proofs.raw.RawFrame.TheSendSync as raw
use Rattle.reply_model.proofs.reply.Reply.TheSendSync as reply
use Rattle.bucket_shared.proofs.pass.Pass.TheSendSync as pass
use Rattle.library_api.proofs.settings.Settings.TheSendSync as settings
use Rattle.client_sessions.proofs.room.Room.TheSendSync as room
use Rattle.client_sessions.proofs.Lending.{closure_send, blocks_sync}
use Rattle.client_sessions.proofs.BlockRuns.{run_none, run_here, run_beside}
use Rattle.client_sessions.proofs.blocks.+fn-run_blocks-join+arg2+run_blocks.Goals as goal

-- no blocks
pub returns-in_default-clause-run : goal.returns-in_default-clause-run
returns-in_default-clause-run g t c =
    let client = clients_of c.args.frames.now c.args.settings (limit_of c.args.pass) in
    let none : c.args.blocks.now ≡ [] = search rules in
    subst (λ (bs : List (List Command)). AreRun (run_cutting c.args.settings.cutting) client bs (reverse c.args.told.items) c.args.pass c.args.pass) (sym none)
    (subst (λ (ts : List (List Reply)). AreRun (run_cutting c.args.settings.cutting) client [] (reverse ts) c.args.pass c.args.pass) (sym c.requires.none) (run_none (run_cutting c.args.settings.cutting) client c.args.pass))

-- no further pass: the block with this one, and then the others
pub returns-in_default-split-clause-run : goal.returns-in_default-split-clause-run
returns-in_default-split-clause-run g t c =
    let cutting = run_cutting c.args.settings.cutting in
    let client = clients_of c.args.frames.now c.args.settings (limit_of c.args.pass) in
    let replies = c.session-pass.result.1 in
    let told = c.run_blocks-pass.result.1.items in
    let blocks : c.in-Some.commands.now ∷ c.in-Some.rest.now ≡ c.args.blocks.now = search rules in
    let ready : AllByRecursion (AreNamed (length c.args.frames.now)) (c.in-Some.commands.now ∷ c.in-Some.rest.now) = subst (λ (bs : List (List Command)). AllByRecursion (AreNamed (length c.args.frames.now)) bs) (sym blocks) c.requires.named in
    let again : reverse c.noted.result.items ≡ replies ∷ reverse told = ap reverse c.noted.ensures.items ∙ reverse-append told (replies ∷ []) in
    let stays = c.in_default-split.ensures.stays in
    let s = subst (λ (n : ℕ). IsSessionOf cutting (clients_of c.args.frames.now c.args.settings n) c.in-Some.commands.now replies c.split.new.self c.session-pass.result.0) stays.limit c.session-pass.ensures in
    let r = subst (λ (n : ℕ). AreRun (run_cutting c.args.settings.cutting) (clients_of c.args.frames.now c.args.settings n) c.in-Some.rest.now (reverse told) c.session-pass.result.0 c.run_blocks-pass.result.0) (s.limit ∙ stays.limit) c.run_blocks-pass.ensures.run in
    subst (λ (z : List (List Command) × List (List Reply)). AreRun (run_cutting c.args.settings.cutting) client z.0 z.1 c.args.pass c.run_blocks-pass.result.0) (λ i. (blocks i, sym again i))
    (run_here cutting client (λ n. refl) (λ m n. refl) (length c.args.frames.now) c.in-Some.commands.now ready.0 replies c.in-Some.rest.now (reverse told) c.args.pass c.split.new.self c.session-pass.result.0 c.run_blocks-pass.result.0
    stays.store stays.badge stays.limit c.split.ensures.looks s r)

-- the block with a pass of its own, beside the others
pub returns-clause-run : goal.returns-clause-run
returns-clause-run g t c =
    let cutting = run_cutting c.args.settings.cutting in
    let client = clients_of c.args.frames.now c.args.settings (limit_of c.args.pass) in
    let replies = c.join-pass.result.1.1 in
    let told = c.join-pass.result.0.1.items in
    let blocks : c.in-Some.commands.now ∷ c.in-Some.rest.now ≡ c.args.blocks.now = search rules in
    let ready : AllByRecursion (AreNamed (length c.args.frames.now)) (c.in-Some.commands.now ∷ c.in-Some.rest.now) = subst (λ (bs : List (List Command)). AllByRecursion (AreNamed (length c.args.frames.now)) bs) (sym blocks) c.requires.named in
    let again : reverse c.joined.result.1.items ≡ replies ∷ reverse told = ap reverse c.joined.ensures.items ∙ reverse-append told (replies ∷ []) in
    let split = c.in-Ok.ensures.split in
    let r = subst (λ (n : ℕ). AreRun (run_cutting c.args.settings.cutting) (clients_of c.args.frames.now c.args.settings n) c.in-Some.rest.now (reverse told) c.split.new.self c.join-pass.result.0.0) split.same_limit c.join-pass.ensures.first.0 in
    let s = subst (λ (n : ℕ). IsSessionOf cutting (clients_of c.args.frames.now c.args.settings n) c.in-Some.commands.now replies c.in-Ok.other c.join-pass.result.1.0) split.limit c.join-pass.ensures.second in
    subst (λ (z : List (List Command) × List (List Reply)). AreRun (run_cutting c.args.settings.cutting) client z.0 z.1 c.args.pass c.joined.result.0) (λ i. (blocks i, sym again i))
    (run_beside cutting client (λ n. refl) (λ m n. refl) (length c.args.frames.now) c.in-Some.commands.now ready.0 replies c.in-Some.rest.now (reverse told) c.args.pass c.split.new.self c.in-Ok.other c.join-pass.result.0.0 c.join-pass.result.1.0 c.joined.result.0
    split.same_store (ap (λ (b : Badge). b.number) split.gave) split.same_limit c.split.ensures.looks split r s
    c.joined.ensures.store c.joined.ensures.client c.joined.ensures.limit c.joined.ensures.badge c.joined.ensures.looks c.joined.ensures.other_looks c.joined.ensures.awaits)

-- all that the other thread gets may go there
pub join-pass-requires-send-F : goal.join-pass-requires-send-F
join-pass-requires-send-F g t c κs within =
    let wait : IsSync (param 0 g.row.R) = search (rules, param_sync) in
    let gate : IsSync (param 1 g.row.G) = search (rules, param_sync) in
    param_send 1 _ (arg_send _ no _ (closure_send _ (_ ∷ _ ∷ _ ∷ _ ∷ _ ∷ _ ∷ _ ∷ _ ∷ _ ∷ [])
    (shr_send _ _ _ wait, (shr_send _ _ _ heap.the_sync, (pass.the_send, (shr_send _ _ _ gate, (shr_send _ _ _ settings.the_sync, (shr_slice_send _ _ _ raw.the_sync, (shr_slice_send _ _ _ blocks_sync, (Vec-send _ room.the_send, (Vec-send _ (items.the_send _ reply.the_send), tt)))))))))))
