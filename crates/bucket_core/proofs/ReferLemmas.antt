-- Where a symbol was referred, and whether it was after a place.
use Rattle.std.proofs.Common.{◌≡◌, ℕ, suc, ◌-◌, ◌≤◌, ◌<◌, true, false, cond, not, [], ◌∷◌, length, take, ap, sym, ◌∙◌, arith}
use Rattle.std.specs.Prelude.{nat_le, ◌||◌}
use Rattle.std.specs.List.{list_any}
use Rattle.std.proofs.Math.Logic.{⊎_elim}
use Rattle.std.proofs.lemmas.Bool.{cases_lt, le-leb, lt-leb}
use Rattle.key_kind.specs.Names.{Name, same_name}
use Rattle.bucket_core.specs.declared.event.Event.{Event}
use Rattle.bucket_core.specs.declared.event.Event.TheVariants as events
use Rattle.bucket_core.specs.History.{History, referred_at}
use Rattle.bucket_core.specs.Laws.{refers}
use Rattle.bucket_core.specs.Calls.{refers_after}

-- no Refer is above the end
pub referred_at-le-length : (h : History) (symbol : Name) → referred_at h symbol ≤ length h
referred_at-le-length [] symbol = omega arith
referred_at-le-length (events.Put c key body ∷ h) symbol = let le : referred_at h symbol ≤ length h = referred_at-le-length h symbol in omega arith
referred_at-le-length (events.Refer c s was entry list ∷ h) symbol =
    let le : referred_at h symbol ≤ length h = referred_at-le-length h symbol in
    elim (same_name s symbol) as (λ b. cond b (suc (length h)) (referred_at h symbol) ≤ suc (length h)) [ true ↦ omega arith | false ↦ omega arith ]
referred_at-le-length (events.Name c snap body ∷ h) symbol = let le : referred_at h symbol ≤ length h = referred_at-le-length h symbol in omega arith
referred_at-le-length (events.Unname c snap ∷ h) symbol = let le : referred_at h symbol ≤ length h = referred_at-le-length h symbol in omega arith
referred_at-le-length (events.Drop c key ∷ h) symbol = let le : referred_at h symbol ≤ length h = referred_at-le-length h symbol in omega arith

-- after the end there is no Refer
nothing_after : (h : History) (symbol : Name) (place : ℕ) → length h ≤ place → refers_after h symbol place ≡ false
nothing_after h symbol place past =
    let none : length h - place ≡ 0 = omega arith in
    ap (λ n. list_any (refers symbol) (take n h)) none

-- the newest event is above a place before it
after_one : (e : Event) (h : History) (symbol : Name) (place : ℕ) → place ≤ length h → refers_after (e ∷ h) symbol place ≡ (refers symbol e || refers_after h symbol place)
after_one e h symbol place within =
    let more : suc (length h) - place ≡ suc (length h - place) = omega arith in
    ap (λ n. list_any (refers symbol) (take n (e ∷ h))) more

-- the newest Refer is at most at a place exactly where none is above it
pub nat_le-referred_at : (h : History) (symbol : Name) (place : ℕ) → nat_le (referred_at h symbol) place ≡ not (refers_after h symbol place)
nat_le-referred_at [] symbol place =
    le-leb 0 place (omega arith) ∙ ap not (sym (nothing_after [] symbol place (omega arith)))
nat_le-referred_at (e ∷ h) symbol place =
    ⊎_elim
    (λ (within : place < suc (length h)). step e (nat_le-referred_at h symbol place) (omega arith))
    (λ (past : suc (length h) ≤ place).
    le-leb (referred_at (e ∷ h) symbol) place (omega (arith, referred_at-le-length (e ∷ h) symbol)) ∙ ap not (sym (nothing_after (e ∷ h) symbol place past)))
    (cases_lt place (suc (length h)))
  where
    step : (e : Event) → nat_le (referred_at h symbol) place ≡ not (refers_after h symbol place) → place ≤ length h → nat_le (referred_at (e ∷ h) symbol) place ≡ not (refers_after (e ∷ h) symbol place)
    step (events.Put c key body) is within = is ∙ ap not (sym (after_one (events.Put c key body) h symbol place within))
    step (events.Refer c s was entry list) is within =
        elim (same_name s symbol) as (λ b. nat_le (cond b (suc (length h)) (referred_at h symbol)) place ≡ not (b || refers_after h symbol place)) [
          | true ↦ lt-leb (suc (length h)) place (omega arith)
          | false ↦ is
        ] ∙ ap not (sym (after_one (events.Refer c s was entry list) h symbol place within))
    step (events.Name c snap body) is within = is ∙ ap not (sym (after_one (events.Name c snap body) h symbol place within))
    step (events.Unname c snap) is within = is ∙ ap not (sym (after_one (events.Unname c snap) h symbol place within))
    step (events.Drop c key) is within = is ∙ ap not (sym (after_one (events.Drop c key) h symbol place within))
