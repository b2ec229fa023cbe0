use Rattle.std.proofs.Common.{pos, [], sym, subst}
use Rattle.store_model.specs.declared.chain.LinkRow.{LinkRow}
use Rattle.version_chain.specs.Entries.{IsEntry}
use Rattle.version_chain.specs.Marking.{element_key}
use Rattle.version_chain.proofs.marking.element_bytes.Goals as goal

-- any row, since none is spelled
some_row : LinkRow
some_row = record { version = 0; stamp = pos 0; rows = 0; index = element_key 0 [] 0 }

pub entry_bytes-requires : goal.entry_bytes-requires
entry_bytes-requires c =
    subst (λ p. IsEntry (record { prev = p; changes = c.in_ok-changes.changes })) (sym c.in_ok-prev.ensures)
    (subst (λ ms. IsEntry (record { prev = c.args.was.now; changes = ms })) (sym (c.in_ok-changes.ensures some_row)) (c.requires.entry some_row))
