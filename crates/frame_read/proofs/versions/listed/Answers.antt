use Rattle.std.proofs.Common.{rules, ◌≡◌, true, false, ap, refl, sym, ◌∙◌, Ok}
use Rattle.std.specs.Prelude.{is_some}
use Rattle.frame_read.proofs.VersionLemmas.{answer_of, versions_told, unreferred_told}
use Rattle.frame_read.proofs.versions.listed.Goals as goal

pub returns-then-is_none-clause-refused : goal.returns-then-is_none-clause-refused
returns-then-is_none-clause-refused c = λ before now h symbol is.
    let none : is_some c.args.state.now.was ≡ false = search rules in
    (refl, unreferred_told h symbol c.args.state.now is none)

pub returns-in-Ok-clause-listed : goal.returns-in-Ok-clause-listed
returns-in-Ok-clause-listed c = λ h symbol lawful is.
    let some : is_some c.args.state.now.was ≡ true = search rules in
    (refl, versions_told h symbol c.args.state.now lawful is some ∙ ap (λ rows. Ok (answer_of rows)) (sym c.in-Ok.ensures))
