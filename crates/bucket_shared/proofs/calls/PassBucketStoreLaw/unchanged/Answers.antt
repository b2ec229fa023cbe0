use Rattle.std.proofs.Common.{◌≡◌, ◌∙◌, ◌∷◌, ℕ, ap, subst}
use Rattle.std.proofs.lemmas.Bool.{OnTrue_at, OnTrue_from, OnFalse_at, OnFalse_from}
use Rattle.key_kind.specs.Names.{Name}
use Rattle.turn_cell.specs.declared.view.View.{View}
use Rattle.turn_cell.specs.Views.{note_at}
use Rattle.bucket_core.specs.declared.event.Event.{Event}
use Rattle.bucket_shared.specs.Notes.{NoneAfter}
use Rattle.bucket_shared.specs.Rows.{row}
use Rattle.bucket_shared.proofs.Unreferred.{refers_after-row}
use Rattle.bucket_shared.proofs.calls.PassBucketStoreLaw.unchanged.Goals as goal

pub returns-clause-told : goal.returns-clause-told
returns-clause-told c = λ yes.
    refers_after-row c.args.self.now.seated.seat.me.0.seen c.args.symbol.now c.row_of-row.result c.args.place
    (c.row_of-row.ensures.row ∙ ap (λ (n : Name). row n) c.name.ensures.same)
    (OnTrue_at yes c.unchanged.ensures.none_after)

pub returns-clause-unchanged : goal.returns-clause-unchanged
returns-clause-unchanged c = λ yes.
    refers_after-row c.args.self.now.seated.seat.me.0.seen c.args.symbol.now c.row_of-row.result c.args.place
    (c.row_of-row.ensures.row ∙ ap (λ (n : Name). row n) c.name.ensures.same)
    (OnTrue_at yes c.unchanged.ensures.none_after)

-- what the cell tells of the number of the row holds of the symbol's row
pub returns-clause-none_after : goal.returns-clause-none_after
returns-clause-none_after c = OnTrue_from c.unchanged.result _ (λ yes.
    subst (λ (q : ℕ). NoneAfter q c.args.place c.args.self.now.seated.seat.me.0.seen)
    (c.row_of-row.ensures.row ∙ ap (λ (n : Name). row n) c.name.ensures.same)
    (OnTrue_at yes c.unchanged.ensures.none_after))

-- the row of the symbol has got the note
pub returns-clause-changed : goal.returns-clause-changed
returns-clause-changed c = OnFalse_from c.unchanged.result _ (λ no.
    let is : c.row_of-row.result ≡ row c.args.symbol.now = c.row_of-row.ensures.row ∙ ap (λ (n : Name). row n) c.name.ensures.same in
    let found = OnFalse_at no c.unchanged.ensures.noted in
    record { changed_at = found.0; after = found.1; noted = ap (λ (v : View Event). v.notes) found.2 ∙ ap (λ (q : ℕ). note_at q found.0 ∷ c.args.self.now.seated.seat.me.0.notes) is })

pub returns-clause-same_notes : goal.returns-clause-same_notes
returns-clause-same_notes c = OnTrue_from c.unchanged.result _ (λ yes. ap (λ (v : View Event). v.notes) (OnTrue_at yes c.unchanged.ensures.same))
