-- Commands of the last client.
use Rattle.std.proofs.Common.{◌≡◌, List, [], ◌∷◌, ◌++◌, Option, Some, refl, ap}
use Rattle.expr_clause.specs.declared.command.Command.{Command}
use Rattle.script_lang.specs.declared.client.ClientPart.{ClientPart}
use Rattle.script_lang.specs.Fronts.{◌>>=◌}
use Rattle.script_lang.specs.Clients.{in_last_client}

-- the last client is the one behind all others
pub in_last_client-append : (parts : List ClientPart) (part : ClientPart) (c : Command) → in_last_client (parts ++ part ∷ []) c ≡ Some (parts ++ record part { commands = part.commands ++ c ∷ [] } ∷ [])
in_last_client-append [] part c = refl
in_last_client-append (p ∷ []) part c = refl
in_last_client-append (p ∷ q ∷ parts) part c = ap (λ (later : Option (List ClientPart)). later >>= λ more. Some (p ∷ more)) (in_last_client-append (q ∷ parts) part c)
