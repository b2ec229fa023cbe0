-- What the heads of symbols have after one more is set, and after a history.
use Rattle.std.proofs.Common.{◌≡◌, Bool, true, false, cond, List, Option, Some, None, refl, ap, sym, ◌∙◌, subst}
use Rattle.std.specs.Prelude.{is_some, unwrap_or, IsTrue, Result, Ok, Err, OnOk, OnErr}
use Rattle.std.specs.Map.{lookup}
use Rattle.std.specs.BTreeMap.{BTreeMap, Updates, is_at}
use Rattle.std.specs.Cmp.Lexicographic.{slice_cmp, texts_ties}
use Rattle.std.specs.Ordering.{nat_cmp}
use Rattle.std.proofs.lemmas.Bool.{true≢false}
use Rattle.key_kind.specs.Names.{Name, same_name}
use Rattle.key_kind.proofs.KeyTests.{same_name_is, same_key_is, same_key_self}
use Rattle.key_kind.specs.declared.key.Key.{Key}
use Rattle.key_kind.specs.Keys.{same_key}
use Rattle.bucket_core.specs.declared.head.Head.{Head}
use Rattle.bucket_core.specs.Heads.{no_head, head_in, has_room}

-- the head that is found for a symbol, if any
abbrev pub found : List (Name × Head) → Name → Option Head
found heads symbol = lookup (is_at (slice_cmp nat_cmp symbol)) heads

-- the list has what the other has, and for one symbol this head
abbrev pub Sets : List (Name × Head) → List (Name × Head) → Name → Head → Type 0
Sets old new symbol head = (other : Name) → found new other ≡ cond (is_at (slice_cmp nat_cmp symbol) other) (Some head) (found old other)

-- what a list has that was set
pub head_in-set : (old new : List (Name × Head)) (symbol : Name) (head : Head) → Sets old new symbol head → (other : Name) → head_in new other ≡ cond (same_name symbol other) head (head_in old other)
head_in-set old new symbol head sets other =
    ap (λ (f : Option Head). unwrap_or f no_head) (sets other)
    ∙ (ap (λ b. unwrap_or (cond b (Some head) (found old other)) no_head) (sym (texts_ties symbol other))
    ∙ by (same_name symbol other) (found old other))
  where
    by : (b : Bool) (f : Option Head) → unwrap_or (cond b (Some head) f) no_head ≡ cond b head (unwrap_or f no_head)
    by true f = refl
    by false f = refl

-- a map that may have failed to be set, where there was room
pub head_in-set_in_room : {E : Type 0} (result : Result (Option Head) E) (old new : BTreeMap Name Head) (symbol : Name) (head : Head) → OnOk result (Updates (slice_cmp nat_cmp) old new symbol (Some head)) → OnErr result (found old.entries symbol ≡ None) → has_room old.entries symbol ≡ true → (other : Name) → head_in new.entries other ≡ cond (same_name symbol other) head (head_in old.entries other)
head_in-set_in_room (Ok x) old new symbol head sets none room other = head_in-set old.entries new.entries symbol head sets.0 other
head_in-set_in_room (Err x) old new symbol head sets none room other = absurd (true≢false (sym room ∙ ap is_some none))

-- an entry without a Refer changes no head
pub head_in-room : (old new : List (Name × Head)) (symbol : Name) → Sets old new symbol no_head → has_room old symbol ≡ false → (other : Name) → head_in new other ≡ head_in old other
head_in-room old new symbol sets none other =
    head_in-set old new symbol no_head sets other ∙ by (same_name symbol other) refl
  where
    nothing : (f : Option Head) → is_some f ≡ false → no_head ≡ unwrap_or f no_head
    nothing None e = refl
    nothing (Some x) e = absurd (true≢false e)

    by : (b : Bool) → same_name symbol other ≡ b → cond b no_head (head_in old other) ≡ head_in old other
    by true e = subst (λ s. no_head ≡ head_in old s) (same_name_is symbol other e) (nothing (found old symbol) none)
    by false e = refl

-- the test of two entries tells whether they are equal
pub same_entries : (b : Bool) (x y : Option Key) (a d : Key) → b ≡ same_key a d → x ≡ Some a → y ≡ Some d → (IsTrue b → x ≡ y) × (x ≡ y → IsTrue b)
same_entries b x y a d is left right = (
  λ t. left ∙ (ap Some (same_key_is a d (sym is ∙ t)) ∙ sym right),
  λ e. is ∙ (ap (same_key a) (ap (λ (o : Option Key). unwrap_or o a) (sym right ∙ (sym e ∙ left))) ∙ same_key_self a),
)
