-- Names that are noted in a set are those of the columns so far.
use Rattle.std.proofs.Common.{◌≡◌, ℕ, Bool, true, false, cond, ◌||◌, List, [], ◌∷◌, ◌++◌, refl, sym, ap, ◌∙◌}
use Rattle.std.specs.Ordering.{nat_cmp, is_eq}
use Rattle.std.specs.Cmp.Lexicographic.{slice_cmp, bytes_decides}
use Rattle.std.proofs.lemmas.Map.Text.{is_eq-slice_cmp}
use Rattle.std.proofs.lemmas.List.Folds.{list_any-append}
use Rattle.frame_core.specs.declared.cell.ColType.{ColType}
use Rattle.frame_core.specs.Texts.{same_text}
use Rattle.frame_core.specs.Schemas.{Head}
use Rattle.index_tree.specs.Names.{NameSet, has_name, AreNoted}
use Rattle.index_tree.proofs.IndexLoops.{is_named, behind, any_behind}

both : (a b : Bool) → (a ≡ true → b ≡ true) → (b ≡ true → a ≡ true) → a ≡ b
both true b f g = sym (f refl)
both false true f g = g refl
both false false f g = refl

text_sym : (a b : List ℕ) → same_text a b ≡ same_text b a
text_sym a b = both (same_text a b) (same_text b a) (λ e. (bytes_decides b a).1 (sym ((bytes_decides a b).0 e))) (λ e. (bytes_decides a b).1 (sym ((bytes_decides b a).0 e)))

-- one name more is noted
pub noted_more : (name other : List ℕ) (old : Bool) → cond (is_eq (slice_cmp nat_cmp name other)) true old ≡ (same_text other name || old)
noted_more name other old = ap (λ (b : Bool). cond b true old) (is_eq-slice_cmp name other ∙ text_sym name other) ∙ as_or (same_text other name)
  where
    as_or : (b : Bool) → cond b true old ≡ (b || old)
    as_or true = refl
    as_or false = refl

-- one column more, whose name is noted
pub noted_push : (old new : NameSet) (heads : List Head) (name : List ℕ) (kind : ColType) → AreNoted old heads → ((other : List ℕ) → has_name new other ≡ (same_text other name || has_name old other)) → AreNoted new (heads ++ (name, kind) ∷ [])
noted_push old new heads name kind noted more = λ other.
    more other ∙ ap (λ (b : Bool). same_text other name || b) (noted other) ∙ swapped (same_text other name) (is_named other heads)
    ∙ sym (list_any-append (λ (head : Head). same_text other head.0) heads ((name, kind) ∷ []))
  where
    swapped : (a b : Bool) → (a || b) ≡ (b || (a || false))
    swapped true true = refl
    swapped true false = refl
    swapped false true = refl
    swapped false false = refl

-- the columns are noted in any order
pub noted_behind : (names : NameSet) (heads : List Head) → AreNoted names heads → AreNoted names (behind [] heads)
noted_behind names heads noted = λ other. noted other ∙ sym (any_behind other [] heads ∙ or_false (is_named other heads))
  where
    or_false : (b : Bool) → (b || false) ≡ b
    or_false true = refl
    or_false false = refl
