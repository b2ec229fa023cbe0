use Rattle.std.proofs.Common.{◌≡◌, ◌≤◌, arith, sym, ap, ◌∙◌, not, None, List, ℕ, length}
use Rattle.std.proofs.lemmas.Bool.Decides.{nat_tests}
use Rattle.std.specs.List.{position}
use Rattle.key_kind.specs.Names.{is_graphic}
use Rattle.key_kind.proofs.NameRules.{IsName-from}
use Rattle.key_kind.proofs.name.Name.make.Goals as goal

pub of-requires : goal.of-requires
of-requires c =
    let none : position (λ x. not (is_graphic x)) c.args.text.now ≡ None = ap (λ (bytes : List ℕ). position (λ x. not (is_graphic x)) bytes) (sym c.as_bytes.ensures.value) ∙ sym c.in_default.ensures in
    let some : 1 ≤ length c.args.text.now = grind (arith, nat_tests, c.is_empty.ensures, c.if-is_empty.false) in
    IsName-from c.args.text.now some (omega arith) none
