-- The clients of a script.
--     is_client_name          a client's name
--     new_client_of           one that no client before has, while there are fewer than 16
--     in_last_client          one more command in the part of the last client
use Rattle.std.specs.Prelude.{ℕ, Bool, ◌==◌, ◌&&◌, ◌||◌, not, List, [], ◌∷◌, ◌++◌, length, Option, Some, None, nat_lt, codes}
use Rattle.std.specs.List.{list_any}
use Rattle.std.specs.Char.{is_ascii_alphanumeric}
use Rattle.std.specs.Str.{byte}
use Rattle.frame_core.specs.Texts.{Text, same_text}
use Rattle.expr_clause.specs.declared.command.Command.{Command}
use Rattle.script_lang.specs.declared.client.ClientPart.{ClientPart}
use Rattle.script_lang.specs.Fronts.{◌>>=◌, where_true}
use Rattle.script_lang.specs.Words.{is_short}

-- a letter, a digit, `_` or `-`
abbrev pub is_client_byte : ℕ → Bool
is_client_byte c = is_ascii_alphanumeric c || (c == byte "_") || (c == byte "-")

-- the names of the parts that are no client's
abbrev pub part_names : List Text
part_names = codes "first" ∷ codes "last" ∷ []

-- the name of a part that is no client's
abbrev pub is_part_name : Text → Bool
is_part_name word = list_any (same_text word) part_names

-- 1 to 32 letters, digits, `_` and `-`, and not the name of another part
abbrev pub is_client_name : Text → Bool
is_client_name word = is_short is_client_byte word && not (is_part_name word)

-- a client has this name
abbrev pub is_taken : List ClientPart → Text → Bool
is_taken clients name = list_any (λ (c : ClientPart). same_text name c.name) clients

-- the name of one more client: there are 16 at most, no two of one name
abbrev pub new_client_of : List ClientPart → Text → Option Text
new_client_of clients word = where_true (nat_lt (length clients) 16 && is_client_name word && not (is_taken clients word)) word

-- the command stands behind those of the last client, if there is one
abbrev pub in_last_client : List ClientPart → Command → Option (List ClientPart)
in_last_client [] c = None
in_last_client (part ∷ []) c = Some (record part { commands = part.commands ++ c ∷ [] } ∷ [])
in_last_client (part ∷ next ∷ parts) c = in_last_client (next ∷ parts) c >>= λ later. Some (part ∷ later)
