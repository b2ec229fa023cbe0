-- The scripts that the program runs.
--     client_names, parts_of  the clients' names, and the commands of the parts
--     script_in               the script of a text
--     AreReady                a library carries out each command, and the frames that they name are among so many
use Rattle.std.specs.Prelude.{ℕ, Bool, ◌&&◌, List, map, Option}
use Rattle.std.specs.List.{list_all, AllByRecursion}
use Rattle.frame_core.specs.Texts.{Text}
use Rattle.expr_clause.specs.declared.command.Command.{Command}
use Rattle.library_api.specs.Steps.{is_carried_out}
use Rattle.client_sessions.specs.Sessions.{AreNamed}
use Rattle.client_sessions.specs.Parts.{Parts}
use Rattle.script_lang.specs.declared.client.ClientPart.{ClientPart}
use Rattle.script_lang.specs.declared.script.Script.{Script}
use Rattle.script_lang.specs.Fronts.{◌>>=◌, where_true}
use Rattle.script_lang.specs.Scripts.{plain_script_of}

-- the names of clients
abbrev pub client_names : List ClientPart → List Text
client_names clients = map (λ (c : ClientPart). c.name) clients

-- the commands of each client
abbrev pub client_blocks : List ClientPart → List (List Command)
client_blocks clients = map (λ (c : ClientPart). c.commands) clients

-- the commands of a script's parts
abbrev pub parts_of : Script → Parts
parts_of script = record { first = script.first; blocks = client_blocks script.clients; last = script.last }

-- the library carries out each command of a client
abbrev pub is_carried_client : ClientPart → Bool
is_carried_client client = list_all is_carried_out client.commands

-- the library carries out each command of each part
abbrev pub is_carried_script : Script → Bool
is_carried_script script = list_all is_carried_out script.first && list_all is_carried_client script.clients && list_all is_carried_out script.last

-- the script of a text, if the library carries out each of its commands
abbrev pub script_in : Text → Option Script
script_in text = plain_script_of text >>= λ script. where_true (is_carried_script script) script

-- the library carries out each command of the parts, and the frames that they name are among so many
pub record AreReady (frames : ℕ) (parts : Parts) : Type 0 where
  pub first : AreNamed frames parts.first
  pub blocks : AllByRecursion (AreNamed frames) parts.blocks
  pub last : AreNamed frames parts.last
