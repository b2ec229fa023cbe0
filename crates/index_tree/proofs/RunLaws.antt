-- Runs of slots, one behind another.
use Rattle.std.proofs.Common.{◌≡◌, ℕ, ◌+◌, ◌-◌, ◌<◌, List, [], ◌∷◌, ◌++◌, length, get_or, drop, Option, Some, None, refl, sym, ap, ◌∙◌, append_assoc, arith}
use Rattle.std.specs.Prelude.{option_map, slice_get}
use Rattle.std.specs.List.{flat_map}
use Rattle.std.proofs.lemmas.List.{append-nil, drop_more}
use Rattle.std.proofs.lemmas.List.Concat.{flat_map-cons, flat_map-append}
use Rattle.index_tree.specs.declared.index.Slot.{Slot}
use Rattle.index_tree.specs.declared.span.Span.{Span}
use Rattle.index_tree.specs.SlotTexts.{span_of, all_slots}
use Rattle.index_tree.specs.IndexText.{slot_text}

-- the first and the last slot, without their keys
abbrev pub first_span : List Slot → Option Span
first_span slots = option_map span_of (slice_get slots 0)

abbrev pub last_span : List Slot → Option Span
last_span slots = option_map span_of (slice_get slots (length slots - 1))

-- one run more
pub runs_more : (runs : List (List Slot)) (run : List Slot) → all_slots (runs ++ run ∷ []) ≡ all_slots runs ++ run
runs_more [] run = append-nil run
runs_more (first ∷ runs) run = ap (λ (l : List Slot). first ++ l) (runs_more runs run) ∙ sym (append_assoc first (all_slots runs) run)

-- the spelling of all runs
pub runs_text : (runs : List (List Slot)) → flat_map (flat_map slot_text) runs ≡ flat_map slot_text (all_slots runs)
runs_text [] = refl
runs_text (run ∷ runs) = flat_map-cons (flat_map slot_text) run runs ∙ (ap (λ (l : List ℕ). flat_map slot_text run ++ l) (runs_text runs) ∙ sym (flat_map-append slot_text run (all_slots runs)))

-- ---- the first slot

pub first_some : (run more : List Slot) (span : Span) → first_span run ≡ Some span → first_span (run ++ more) ≡ Some span
first_some [] more span e = cc
first_some (s ∷ run) more span e = e

pub first_none : (run : List Slot) → first_span run ≡ None → run ≡ []
first_none [] e = refl
first_none (s ∷ run) e = cc

-- a run that has no slot is left out
pub first_left : (runs : List (List Slot)) (i : ℕ) (run : List Slot) → i < length runs → run ≡ get_or runs i run → first_span run ≡ None → all_slots (drop i runs) ≡ all_slots (drop (i + 1) runs)
first_left runs i run lt is e =
    ap all_slots (drop_more runs i run lt)
    ∙ ap (λ (r : List Slot). r ++ all_slots (drop (i + 1) runs)) (sym is ∙ first_none run e)

pub first_found : (runs : List (List Slot)) (i : ℕ) (run all : List Slot) (span : Span) → i < length runs → run ≡ get_or runs i run → all_slots (drop i runs) ≡ all → first_span run ≡ Some span → Some span ≡ first_span all
first_found runs i run all span lt is so_far e =
    sym (first_some run (all_slots (drop (i + 1) runs)) span e)
    ∙ ap first_span (ap (λ (r : List Slot). r ++ all_slots (drop (i + 1) runs)) is ∙ (sym (ap all_slots (drop_more runs i run lt)) ∙ so_far))

-- ---- the last slot

last_in : (s : Slot) (run : List Slot) → slice_get (s ∷ run) (length run) ≡ slice_get (s ∷ run) (length (s ∷ run) - 1)
last_in s run =
    let same : length run ≡ length (s ∷ run) - 1 = omega arith in
    ap (slice_get (s ∷ run)) same

-- a slot before others is not the last
last_behind : (x s : Slot) (run : List Slot) → last_span (x ∷ s ∷ run) ≡ last_span (s ∷ run)
last_behind x s run = ap (option_map span_of) (sym (last_in x (s ∷ run)) ∙ last_in s run)

pub last_some : (before run : List Slot) (span : Span) → last_span run ≡ Some span → last_span (before ++ run) ≡ Some span
last_some [] run span e = e
last_some (x ∷ []) [] span e = cc
last_some (x ∷ []) (s ∷ run) span e = last_behind x s run ∙ e
last_some (x ∷ y ∷ before) run span e = last_behind x y (before ++ run) ∙ last_some (y ∷ before) run span e

pub last_none : (run : List Slot) → last_span run ≡ None → run ≡ []
last_none [] e = refl
last_none (s ∷ run) e = absurd (has_last s run e)
  where
    has_last : (s : Slot) (run : List Slot) → last_span (s ∷ run) ≡ None → ⊥
    has_last s [] e = cc
    has_last s (t ∷ run) e = has_last t run (sym (last_behind s t run) ∙ e)

-- a run behind others that has no slot is left out
pub last_left : (before : List (List Slot)) (run : List Slot) → last_span run ≡ None → all_slots (before ++ run ∷ []) ≡ all_slots before
last_left before run e = runs_more before run ∙ (ap (λ (r : List Slot). all_slots before ++ r) (last_none run e) ∙ append-nil (all_slots before))

pub last_found : (before : List (List Slot)) (run all : List Slot) (span : Span) → all_slots (before ++ run ∷ []) ≡ all → last_span run ≡ Some span → Some span ≡ last_span all
last_found before run all span so_far e = sym (last_some (all_slots before) run span e) ∙ ap last_span (sym (runs_more before run) ∙ so_far)
