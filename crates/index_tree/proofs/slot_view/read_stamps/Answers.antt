use Rattle.std.proofs.Common.{◌∙◌, sym, refl, rules, w64, SFits, to_z, of_z, ℤ, ℕ, ◌≡◌, true, false}
use Rattle.std.specs.Prelude.{◌&&◌, Bool}
use Rattle.std.specs.Ordering.{int_eq}
use Rattle.std.proofs.lemmas.Int.{to_z-of_z}
use Rattle.std.proofs.lemmas.Result.{err_from_is_err_and}
use Rattle.index_tree.specs.IndexText.{Reach, rules_after}
use Rattle.index_tree.proofs.slot_view.read_stamps.Goals as goal

-- a number with a sign that was passed is the same number
stamps_first : (total : ℕ) (reach : Reach) (k t : ℤ) (b : Bool) → SFits w64 k → SFits w64 t → ((rules_after total reach).first (to_z w64 (of_z w64 t)) && int_eq (to_z w64 (of_z w64 k)) (to_z w64 (of_z w64 t))) ≡ b → ((rules_after total reach).first t && int_eq k t) ≡ b
stamps_first total reach k t b fits_k fits_t e = (λ i. (rules_after total reach).first (sym (to_z-of_z w64 t fits_t) i) && int_eq (sym (to_z-of_z w64 k fits_k) i) (sym (to_z-of_z w64 t fits_t) i)) ∙ e

stamps_last : (total : ℕ) (reach : Reach) (k s t : ℤ) (b : Bool) → SFits w64 k → SFits w64 s → SFits w64 t → ((rules_after total reach).last (to_z w64 (of_z w64 s)) (to_z w64 (of_z w64 t)) && int_eq (to_z w64 (of_z w64 k)) (to_z w64 (of_z w64 t))) ≡ b → ((rules_after total reach).last s t && int_eq k t) ≡ b
stamps_last total reach k s t b fits_k fits_s fits_t e = (λ i. (rules_after total reach).last (sym (to_z-of_z w64 s fits_s) i) (sym (to_z-of_z w64 t fits_t) i) && int_eq (sym (to_z-of_z w64 k fits_k) i) (sym (to_z-of_z w64 t fits_t) i)) ∙ e

pub returns-then-not-takes_first : goal.returns-then-not-takes_first
returns-then-not-takes_first c = λ total.
    rw (c.in_ok-first.ensures, stamps_first total c.args.reach.now c.args.key.now.first c.in_ok-first.first false (search rules) (search rules) (sym (c.takes_first.ensures total) ∙ c.if-not-takes_first.true)) refl

pub returns-in_err-last : goal.returns-in_err-last
returns-in_err-last c = λ total.
    let p = err_from_is_err_and c.from_residual-in_err-last.result c.from_residual-in_err-last.ensures.1 in
    rw (p.1, p.2, c.in_ok-first.ensures, stamps_first total c.args.reach.now c.args.key.now.first c.in_ok-first.first true (search rules) (search rules) (sym (c.takes_first.ensures total) ∙ c.if-not-takes_first.false), c.in_err-last.ensures) refl

pub returns-then-not-takes_last : goal.returns-then-not-takes_last
returns-then-not-takes_last c = λ total.
    rw (c.in_ok-first.ensures, stamps_first total c.args.reach.now c.args.key.now.first c.in_ok-first.first true (search rules) (search rules) (sym (c.takes_first.ensures total) ∙ c.if-not-takes_first.false), c.in_ok-last.ensures, stamps_last total c.args.reach.now c.args.key.now.last c.in_ok-first.first c.in_ok-last.last false (search rules) (search rules) (search rules) (sym (c.takes_last.ensures total) ∙ c.if-not-takes_last.true)) refl

pub returns : goal.returns
returns c = λ total.
    let first_fits : SFits w64 c.in_ok-first.first = search rules in
    let last_fits : SFits w64 c.in_ok-last.last = search rules in
    rw (to_z-of_z w64 c.in_ok-first.first first_fits, to_z-of_z w64 c.in_ok-last.last last_fits, c.in_ok-first.ensures, stamps_first total c.args.reach.now c.args.key.now.first c.in_ok-first.first true (search rules) (search rules) (sym (c.takes_first.ensures total) ∙ c.if-not-takes_first.false), c.in_ok-last.ensures, stamps_last total c.args.reach.now c.args.key.now.last c.in_ok-first.first c.in_ok-last.last true (search rules) (search rules) (search rules) (sym (c.takes_last.ensures total) ∙ c.if-not-takes_last.false)) refl
