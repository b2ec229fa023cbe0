-- A refused command leaves the versions, the buried numbers and the staged pieces as they were, StoreFault aside: none of its own events changes them.
use Rattle.std.proofs.Common.{◌≡◌, ℕ, Bool, true, false, List, [], ◌∷◌, ◌++◌, map, Option, Some, None, refl, sym, ◌∙◌, ap, subst, inl, inr, not, ◌&&◌}
use Rattle.std.specs.Prelude.{◌⊎◌, MatchBool}
use Rattle.std.specs.List.{list_any, flat_map, AllByRecursion}
use Rattle.std.proofs.lemmas.Bool.{true≢false, or_parts, or_from}
use Rattle.key_kind.specs.Names.{Name}
use Rattle.key_kind.specs.declared.key.Key.{Key}
use Rattle.key_kind.specs.declared.key.Holder.{Holder}
use Rattle.key_kind.specs.declared.key.KeyKind.{KeyKind}
use Rattle.key_kind.specs.declared.key.KeyKind.TheVariants as kinds
use Rattle.key_kind.specs.Keys.{same_kind}
use Rattle.bucket_core.specs.declared.event.Change.{Change}
use Rattle.bucket_core.specs.declared.event.Change.TheVariants as changes
use Rattle.bucket_core.specs.declared.event.Event.{Event}
use Rattle.bucket_core.specs.declared.event.Event.TheVariants as events
use Rattle.bucket_core.specs.History.{History, Bytes}
use Rattle.expr_clause.specs.declared.command.Pick.{Pick}
use Rattle.reply_model.specs.declared.reply.Reply.{Reply}
use Rattle.reply_model.specs.Answering.{Session}
use Rattle.reply_model.specs.Windows.{Window, own_events, is_cut}
use Rattle.reply_model.specs.Tries.{put_of, drop_of, IsKeyOf, Before, of_mark, of_version, IsTry, IsRefused, IsAccepted, IsTurn, Turn, AreTurns}
use Rattle.reply_model.specs.Kinds.{Kind, kind_of, Makes, Finalizes, Buries, Discards, Holds, Unholds}
use Rattle.reply_model.specs.OwnEvents.{IsOwnOf, is_last_of, IsHold, IsRelease, IsHolding, IsUnholding, AnyMarks, IsOwn, is_done, is_end, is_empty_burial, holder_at, IsBeginning}
use Rattle.reply_model.specs.Runs.{is_mark, harms, RefusedHarmsNothing}

-- ---- lists

none_of_both : (xs ys : List Event) → list_any harms xs ≡ false → list_any harms ys ≡ false → list_any harms (xs ++ ys) ≡ false
none_of_both [] ys e f = f
none_of_both (x ∷ xs) ys e f = let r = or_parts (harms x) (list_any harms xs) e in or_from (harms x) (list_any harms (xs ++ ys)) r.0 (none_of_both xs ys r.1 f)

none_of_first : (xs ys : List Event) → list_any harms (xs ++ ys) ≡ false → list_any harms xs ≡ false
none_of_first [] ys e = refl
none_of_first (x ∷ xs) ys e = let r = or_parts (harms x) (list_any harms (xs ++ ys)) e in or_from (harms x) (list_any harms xs) r.0 (none_of_first xs ys r.1)

-- ---- tries

put_harms_nothing : (c : ℕ) (key : Key) (body : Bytes) (kind : KeyKind) → key.kind ≡ kind → same_kind kind kinds.Staged ≡ false → harms (events.Put c key body) ≡ false
put_harms_nothing c key body kind e f = subst (λ (x : KeyKind). same_kind x kinds.Staged ≡ false) (sym e) f

puts_harm_nothing : (c : ℕ) (xs ys : List (Key × Bytes)) → list_any harms (map (put_of c) xs) ≡ false → list_any harms (map (put_of c) ys) ≡ false → list_any harms (map (put_of c) (xs ++ ys)) ≡ false
puts_harm_nothing c [] ys e f = f
puts_harm_nothing c (x ∷ xs) ys e f =
    let r = or_parts (harms (put_of c x)) (list_any harms (map (put_of c) xs)) e in
    or_from (harms (put_of c x)) (list_any harms (map (put_of c) (xs ++ ys))) r.0 (puts_harm_nothing c xs ys r.1 f)

tiles_harm_nothing : (c : ℕ) (symbol : Name) (tiles : List (Key × Bytes)) → AllByRecursion (λ (p : Key × Bytes). IsKeyOf kinds.TableData symbol p.0) tiles → list_any harms (map (put_of c) tiles) ≡ false
tiles_harm_nothing c symbol [] a = refl
tiles_harm_nothing c symbol (p ∷ tiles) a = or_from (harms (put_of c p)) (list_any harms (map (put_of c) tiles)) (put_harms_nothing c p.0 p.1 kinds.TableData a.0.0 refl) (tiles_harm_nothing c symbol tiles a.1)

before_harms_nothing : (c : ℕ) (symbol : Name) (o : Option Key) (first : List (Key × Bytes)) → Before symbol o first → list_any harms (map (put_of c) first) ≡ false
before_harms_nothing c symbol None first of_mark = refl
before_harms_nothing c symbol (Some of_index) first (of_version tiles own body index is tile_are spelled order) =
    puts_harm_nothing c tiles ((of_index, body) ∷ []) (tiles_harm_nothing c symbol tiles tile_are)
    (or_from (harms (events.Put c of_index body)) false (put_harms_nothing c of_index body kinds.TableIndex is.0 refl) refl)

pub try_harms_nothing : (c : ℕ) (symbol : Name) (makes : Bool) (puts : List (Key × Bytes)) (entry : Key) → IsTry symbol makes puts entry → list_any harms (map (put_of c) puts) ≡ false
try_harms_nothing c symbol makes puts entry t = ap (λ (ps : List (Key × Bytes)). list_any harms (map (put_of c) ps)) t.is
    ∙ puts_harm_nothing c t.first ((entry, t.body) ∷ []) (before_harms_nothing c symbol _ t.first t.before)
    (or_from (harms (events.Put c entry t.body)) false (put_harms_nothing c entry t.body kinds.Version t.entry_is.0 refl) refl)

drops_harm_nothing : (c : ℕ) (ps : List (Key × Bytes)) → list_any harms (map (drop_of c) ps) ≡ false
drops_harm_nothing c [] = refl
drops_harm_nothing c (p ∷ ps) = drops_harm_nothing c ps

pub tries_harm_nothing : (c : ℕ) (symbol : Name) (makes : Bool) (ts : List (List Event)) → AllByRecursion (IsRefused c symbol makes) ts → list_any harms (flat_map (λ t. t) ts) ≡ false
tries_harm_nothing c symbol makes [] a = refl
tries_harm_nothing c symbol makes (t ∷ ts) a = none_of_both t (flat_map (λ u. u) ts)
    (ap (list_any harms) a.0.3 ∙ none_of_both (map (put_of c) a.0.0) (map (drop_of c) a.0.0) (try_harms_nothing c symbol makes a.0.0 a.0.1 a.0.2) (drops_harm_nothing c a.0.0))
    (tries_harm_nothing c symbol makes ts a.1)

-- a turn that is not done
undone_harms_nothing : {told : Bool} (h : History) (s : Session) (w : Window) (symbol : Name) (makes : Bool) (Marks : List Change → Type 0) (es : List Event) → IsTurn h s w symbol makes false told Marks es → list_any harms es ≡ false
undone_harms_nothing h s w symbol makes Marks es t = ap (list_any harms) t.is
    ∙ none_of_both (flat_map (λ u. u) t.tries) t.last (tries_harm_nothing s.client symbol makes t.tries t.refused) (ap (list_any harms) t.ends)

-- ---- turns of holds and of releases

-- a change of this form is a mark
abbrev Marking : (Change → Type 0) → Type 0
Marking Mark = (c : Change) → Mark c → is_mark (c ∷ []) ≡ true

hold_marks : (holder : Holder) → Marking (IsHold holder)
hold_marks holder (changes.Held other number) m = refl
hold_marks holder (changes.Wrote frame at) m = absurd m
hold_marks holder (changes.Appended frame at) m = absurd m
hold_marks holder (changes.Updated frame range at) m = absurd m
hold_marks holder (changes.Removed versions) m = absurd m
hold_marks holder (changes.Released other) m = absurd m
hold_marks holder (changes.Discarded pieces) m = absurd m
hold_marks holder changes.Restated m = absurd m

release_marks : (holder : Holder) → Marking (IsRelease holder)
release_marks holder (changes.Released other) m = refl
release_marks holder (changes.Held other number) m = absurd m
release_marks holder (changes.Wrote frame at) m = absurd m
release_marks holder (changes.Appended frame at) m = absurd m
release_marks holder (changes.Updated frame range at) m = absurd m
release_marks holder (changes.Removed versions) m = absurd m
release_marks holder (changes.Discarded pieces) m = absurd m
release_marks holder changes.Restated m = absurd m

mark_harms_nothing : (c : ℕ) (symbol : Name) (was : Option Key) (entry : Key) (list : List Change) → is_mark list ≡ true → harms (events.Refer c symbol was entry list) ≡ false
mark_harms_nothing c symbol was entry list e = ap not e

accepted_harms_nothing : (c : ℕ) (symbol : Name) (makes : Bool) (Mark : Change → Type 0) (es : List Event) → Marking Mark
    → IsAccepted c symbol makes (λ list. (x : Change) × Mark x × (list ≡ x ∷ [])) es → list_any harms es ≡ false
accepted_harms_nothing c symbol makes Mark es marking a = ap (list_any harms) a.6
    ∙ none_of_both (map (put_of c) a.0) (events.Refer c symbol a.1 a.2 a.3 ∷ []) (try_harms_nothing c symbol makes a.0 a.2 a.4)
    (or_from (harms (events.Refer c symbol a.1 a.2 a.3)) false (mark_harms_nothing c symbol a.1 a.2 a.3 (ap is_mark a.5.2 ∙ marking a.5.0 a.5.1)) refl)

turn_harms_nothing : (h : History) (s : Session) (w : Window) (symbol : Name) (done : Bool) (Mark : Change → Type 0) (es : List Event) → Marking Mark
    → IsTurn h s w symbol false done false (λ list. (x : Change) × Mark x × (list ≡ x ∷ [])) es → list_any harms es ≡ false
turn_harms_nothing h s w symbol false Mark es marking t = undone_harms_nothing h s w symbol false (λ list. (x : Change) × Mark x × (list ≡ x ∷ [])) es t
turn_harms_nothing h s w symbol true Mark es marking t = ap (list_any harms) t.is
    ∙ none_of_both (flat_map (λ u. u) t.tries) t.last (tries_harm_nothing s.client symbol false t.tries t.refused) (accepted_harms_nothing s.client symbol false Mark t.last marking t.ends)

turns_harm_nothing : (h : History) (s : Session) (w : Window) (picks : List Pick) (Mark : Change → Type 0) (es : List Event) → Marking Mark → AreTurns h s w picks Mark es → list_any harms es ≡ false
turns_harm_nothing h s w picks Mark es marking a = ap (list_any harms) a.is ∙ each a.turns
  where
    each : (ts : List (Turn h s w Mark)) → list_any harms (flat_map (λ (t : Turn h s w Mark). t.own) ts) ≡ false
    each [] = refl
    each (t ∷ ts) = none_of_both t.own (flat_map (λ (u : Turn h s w Mark). u.own) ts) (turn_harms_nothing h s w t.symbol t.done Mark t.own marking t.is) (each ts)

holding_harms_nothing : (h : History) (s : Session) (w : Window) (snap : Name) (picks : List Pick) (done : Bool) (es : List Event) → IsHolding h s w snap picks done es → list_any harms es ≡ false
holding_harms_nothing h s w snap picks done es x = ap (list_any harms) x.is ∙ none_of_both x.holds x.rest (turns_harm_nothing h s w picks _ x.holds (hold_marks _) x.each_hold) (rest done x.rest x.ends)
  where
    rest : (d : Bool) (r : List Event) → MatchBool d ((body : Bytes) × (r ≡ events.Name s.client snap body ∷ [])) (AreTurns h s w picks (IsRelease (holder_at h s.client w)) r) → list_any harms r ≡ false
    rest true r e = ap (list_any harms) e.1
    rest false r e = turns_harm_nothing h s w picks _ r (release_marks _) e

unholding_harms_nothing : (h : History) (s : Session) (w : Window) (snap : Name) (done : Bool) (es : List Event) → MatchBool done (IsUnholding h s w snap es) (es ≡ []) → list_any harms es ≡ false
unholding_harms_nothing h s w snap false es e = ap (list_any harms) e
unholding_harms_nothing h s w snap true es e = ap (list_any harms) e.is ∙ turns_harm_nothing h s w [] _ e.rest (release_marks _) e.each

-- ---- commands

-- a command that is not done
undone_command : (h : History) (s : Session) (w : Window) (k : Kind) (reply : Reply) (es : List Event) → IsOwnOf h s w k reply false es → list_any harms es ≡ false
undone_command h s w (Makes symbol) reply es o = undone_harms_nothing h s w symbol true AnyMarks es o
undone_command h s w (Finalizes symbol) reply es o = undone_harms_nothing h s w symbol true AnyMarks es o
undone_command h s w (Buries symbol burial) reply es o = undone_harms_nothing h s w symbol false AnyMarks es o
undone_command h s w (Discards symbol) reply es o = undone_harms_nothing h s w symbol false AnyMarks es o
undone_command h s w (Holds snap picks) reply es o = holding_harms_nothing h s w snap picks false es o
undone_command h s w (Unholds snap) reply es o = unholding_harms_nothing h s w snap false es o
undone_command h s w k reply es o = ap (list_any harms) o

-- an event that harms is one with which a command of one symbol is done
ends_harm : (es : List Event) → list_any is_end es ≡ false → list_any harms es ≡ false
ends_harm [] e = refl
ends_harm (events.Put c key body ∷ es) e = let r = or_parts (same_kind key.kind kinds.Staged) (list_any is_end es) e in or_from (same_kind key.kind kinds.Staged) (list_any harms es) r.0 (ends_harm es r.1)
ends_harm (events.Refer c s was entry list ∷ es) e = absurd (true≢false e)
ends_harm (events.Name c snap body ∷ es) e = ends_harm es e
ends_harm (events.Unname c snap ∷ es) e = ends_harm es e
ends_harm (events.Drop c key ∷ es) e = ends_harm es e

-- a beginning of such events
abbrev Beginning : History → Session → Window → Kind → Reply → List Event → Type 0
Beginning h s w k reply es = IsBeginning (IsOwnOf h s w k reply true) es ⊎ IsBeginning (IsOwnOf h s w k reply false) es

-- a command that a call ended
cut_command : (h : History) (s : Session) (w : Window) (k : Kind) (reply : Reply) (es : List Event) → list_any (is_last_of k) es ≡ false → Beginning h s w k reply es → list_any harms es ≡ false
cut_command h s w (Holds snap picks) reply es short (inl b) = none_of_first es b.more (holding_harms_nothing h s w snap picks true (es ++ b.more) b.whole)
cut_command h s w (Holds snap picks) reply es short (inr b) = none_of_first es b.more (holding_harms_nothing h s w snap picks false (es ++ b.more) b.whole)
cut_command h s w (Unholds snap) reply es short (inl b) = none_of_first es b.more (unholding_harms_nothing h s w snap true (es ++ b.more) b.whole)
cut_command h s w (Unholds snap) reply es short (inr b) = none_of_first es b.more (unholding_harms_nothing h s w snap false (es ++ b.more) b.whole)
cut_command h s w k reply es short b = ends_harm es short

pub refused_harms_nothing : RefusedHarmsNothing
refused_harms_nothing h s c reply w own refused no_fault =
    elim (is_cut reply.outcome) as (λ b. is_cut reply.outcome ≡ b → MatchBool b (Beginning h s w (kind_of c) reply es) (IsOwn h s w c reply (is_done reply) es) → list_any harms es ≡ false) [
      | true ↦ λ cut m. cut_command h s w (kind_of c) reply es (own.short cut no_fault) m
      | false ↦ λ cut m. undone_command h s w (kind_of c) reply es (subst (λ d. IsOwn h s w c reply d es) (ap (λ b. not b && not (is_empty_burial reply reply.outcome)) refused) m)
    ] refl own.events
  where
    es : List Event
    es = own_events h s.client w
