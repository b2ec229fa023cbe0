-- What a run prints.
--     transcript              the lines of all replies, and of the end; each is one put of the sink
use Rattle.std.specs.Prelude.{ℕ, List, [], ◌∷◌, ◌++◌, codes}
use Rattle.frame_core.specs.Texts.{Text}
use Rattle.client_sessions.specs.declared.parts.PartReplies.{PartReplies}
use Rattle.reply_text.specs.Replies.{part_lines, clients_lines, end_line}

-- the lines of a run, by the clients' names: the replies of its parts in the script's order, and the length of the history in the end
abbrev pub transcript : List Text → PartReplies → ℕ → List Text
transcript names r end = part_lines (codes "first") 1 r.first ++ clients_lines names r.blocks ++ part_lines (codes "last") 1 r.last ++ end_line end ∷ []
