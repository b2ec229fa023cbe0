-- The commands of a plain script, all of which a library carries out.
use Rattle.std.proofs.Common.{◌≡◌, ℕ, true, List, [], ◌∷◌, length, Result, Ok, Err, sym, subst}
use Rattle.std.specs.Prelude.{◌&&◌, IfOk}
use Rattle.std.specs.List.{AllByRecursion, list_all}
use Rattle.std.proofs.lemmas.Bool.{and_parts}
use Rattle.frame_core.specs.declared.raw.RawFrame.{RawFrame}
use Rattle.expr_clause.specs.declared.command.Command.{Command}
use Rattle.expr_clause.specs.declared.command.Command.TheVariants as commands
use Rattle.library_api.specs.Steps.{is_carried_out, IsNamed}
use Rattle.client_sessions.specs.Sessions.{AreNamed}
use Rattle.client_sessions.specs.Parts.{Parts}
use Rattle.script_lang.specs.declared.client.ClientPart.{ClientPart}
use Rattle.script_lang.specs.declared.script.Script.{Script}
use Rattle.script_lang.specs.Scripts.{IsLoaded, AllLoaded, AreLoaded}
use Rattle.program_run.specs.declared.prepare.Plan.{Plan}
use Rattle.program_run.specs.declared.stop.Halt.{Halt}
use Rattle.program_run.specs.Jobs.{client_blocks, parts_of, is_carried_client, is_carried_script, AreReady}
use Rattle.program_run.specs.Preparing.{parts_in}

-- the frame that a command names is there
loaded_command : (n : ℕ) (c : Command) → IsLoaded n c → IsNamed n c
loaded_command n (commands.Stage symbol frame) loaded = absurd loaded
loaded_command n (commands.Finalize symbol append sorted at prune) loaded = absurd loaded
loaded_command n (commands.Discard symbol) loaded = absurd loaded
loaded_command n (commands.Snapshot snap picks) loaded = absurd loaded
loaded_command n (commands.DeleteSnapshot snap) loaded = absurd loaded
loaded_command n commands.Symbols loaded = absurd loaded
loaded_command n commands.Snapshots loaded = absurd loaded
loaded_command n (commands.Read symbol as_of range columns clauses) loaded = tt
loaded_command n c loaded = loaded

-- the commands of one part
ready-part : (n : ℕ) (list : List Command) → AllLoaded n list → list_all is_carried_out list ≡ true → AreNamed n list
ready-part n [] loaded carried = tt
ready-part n (c ∷ list) loaded carried =
    let both = and_parts (is_carried_out c) (list_all is_carried_out list) carried in
    ((both.0, loaded_command n c loaded.0), ready-part n list loaded.1 both.1)

-- the commands of clients
ready-clients : (n : ℕ) (clients : List ClientPart) → AllByRecursion (λ (part : ClientPart). AllLoaded n part.commands) clients → list_all is_carried_client clients ≡ true →
    AllByRecursion (AreNamed n) (client_blocks clients)
ready-clients n [] loaded carried = tt
ready-clients n (part ∷ clients) loaded carried =
    let both = and_parts (is_carried_client part) (list_all is_carried_client clients) carried in
    (ready-part n part.commands loaded.0 both.0, ready-clients n clients loaded.1 both.1)

-- the commands of a script's parts
pub ready-script : (script : Script) → AreLoaded script → is_carried_script script ≡ true → AreReady (length script.loads) (parts_of script)
ready-script script loaded carried =
    let front = and_parts (list_all is_carried_out script.first && list_all is_carried_client script.clients) (list_all is_carried_out script.last) carried in
    let both = and_parts (list_all is_carried_out script.first) (list_all is_carried_client script.clients) front.0 in
    record {
      first = ready-part (length script.loads) script.first loaded.first both.0;
      blocks = ready-clients (length script.loads) script.clients loaded.clients both.1;
      last = ready-part (length script.loads) script.last loaded.last front.1;
    }

-- the commands of a plan are those of its script, over as many frames
pub ready-plan : (script : Script) (frames : List RawFrame) (result : Result Plan Halt) → AreReady (length script.loads) (parts_of script) → length script.loads ≡ length frames →
    IfOk result (λ plan. parts_in plan ≡ parts_of script) → IfOk result (λ plan. plan.frames ≡ frames) → IfOk result (λ plan. AreReady (length plan.frames) (parts_in plan))
ready-plan script frames (Err halt) ready many parts same = tt
ready-plan script frames (Ok plan) ready many parts same =
    subst (λ (p : Parts). AreReady (length plan.frames) p) (sym parts)
    (subst (λ (list : List RawFrame). AreReady (length list) (parts_of script)) (sym same) (subst (λ (n : ℕ). AreReady n (parts_of script)) many ready))
