-- The text of holds that were left.
use Rattle.std.proofs.Common.{◌≡◌, true, false, suc, List, [], ◌∷◌, ◌++◌, length, refl, sym, ◌∙◌, arith}
use Rattle.std.specs.Prelude.{◌==◌, codes}
use Rattle.std.specs.List.{join_with_byte}
use Rattle.std.proofs.lemmas.Bool.{true≢false, ne_eqb}
use Rattle.frame_core.specs.Texts.{Text}
use Rattle.reply_text.specs.Replies.{left_text}

-- there are none
pub left-none : (symbols : List Text) → true ≡ (length symbols == 0) → left_text symbols ≡ []
unfolding left_text
left-none [] none = refl
left-none (symbol ∷ more) none = absurd (true≢false (none ∙ ne_eqb (suc (length more)) 0 (λ e. absurd (omega (arith, e)))))

-- there are some
pub left-some : (symbols : List Text) → false ≡ (length symbols == 0) → left_text symbols ≡ codes " left=" ++ join_with_byte 44 symbols
unfolding left_text
left-some [] some = absurd (true≢false (sym some))
left-some (symbol ∷ more) some = refl
