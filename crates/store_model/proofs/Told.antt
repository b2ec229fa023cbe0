-- The same where a history is only known to be lawful, and not why.
use Rattle.std.proofs.Common.{◌≡◌, true, false, List, [], ◌∷◌, ◌++◌, Option, Some, None, ℕ}
use denote.Struct.Props.{props}
use Rattle.std.specs.List.{list_any}
use mathlib.Core.HLevel.{⊥_prop}
use mathlib.Core.Logic.{∥∥₁_elim}
use Rattle.key_kind.specs.declared.key.Key.{Key}
use Rattle.key_kind.specs.Names.{Name}
use Rattle.bucket_core.specs.declared.event.Event.TheVariants as events
use Rattle.bucket_core.specs.History.{History, Bytes, reference, AllByOthers}
use Rattle.bucket_core.specs.Laws.{refers}
use Rattle.bucket_core.specs.Calls.{HasMovedOn}
use Rattle.store_model.specs.Law.{IsLawful}
use Rattle.store_model.specs.OwnPuts.{IsOwnPut, AreOwnPuts, IsTableKind}
use Rattle.store_model.proofs.OwnPuts.{put_is_own, own_puts_at_put, own_puts_beside}
use Rattle.store_model.proofs.Untouched.{has_moved_on, another_reference}
use Rattle.store_model.proofs.Stability.{is_false}

own_told : (h : History) (client : ℕ) (key : Key) (body : Bytes) (g : History) → ∥ IsLawful g ∥₁ → (IsLawful g → IsOwnPut h client key body) → IsOwnPut h client key body
own_told h client key body g lawful f = record {
  unlinked = record {
    own = ∥∥₁_elim lawful (hlevel props) (λ l. (f l).unlinked.own);
    table = ∥∥₁_elim lawful (hlevel props) (λ l. (f l).unlinked.table);
    unreached = ∥∥₁_elim lawful (hlevel props) (λ l. (f l).unlinked.unreached);
    no_entry = ∥∥₁_elim lawful (hlevel props) (λ l. (f l).unlinked.no_entry);
  };
  put = ∥∥₁_elim lawful (hlevel props) (λ l. (f l).put);
  stands = ∥∥₁_elim lawful (hlevel props) (λ l. (f l).stands);
}

puts_told : (h : History) (client : ℕ) (puts : List (Key × Bytes)) (g : History) → ∥ IsLawful g ∥₁ → (IsLawful g → AreOwnPuts h client puts) → AreOwnPuts h client puts
puts_told h client [] g lawful f = tt
puts_told h client (p ∷ puts) g lawful f = (own_told h client p.0 p.1 g lawful (λ l. (f l).0), puts_told h client puts g lawful (λ l. (f l).1))

-- own puts stay so while others add events
pub own_puts_stay : (h more : History) (client : ℕ) (puts : List (Key × Bytes)) → ∥ IsLawful (more ++ h) ∥₁ → AllByOthers client more → AreOwnPuts h client puts → AreOwnPuts (more ++ h) client puts
own_puts_stay h more client puts lawful others all = puts_told (more ++ h) client puts (more ++ h) lawful (λ l. own_puts_beside h more client puts l others all)

-- and at an own Put, which is one of them from then on
pub own_puts_grow : (h more : History) (client : ℕ) (key : Key) (body : Bytes) (puts : List (Key × Bytes)) → ∥ IsLawful (events.Put client key body ∷ (more ++ h)) ∥₁ → AllByOthers client more → IsTableKind key.kind
    → AreOwnPuts h client puts → AreOwnPuts (events.Put client key body ∷ (more ++ h)) client puts × IsOwnPut (events.Put client key body ∷ (more ++ h)) client key body
own_puts_grow h more client key body puts lawful others table all = (
  puts_told (events.Put client key body ∷ (more ++ h)) client puts (events.Put client key body ∷ (more ++ h)) lawful (λ l. own_puts_at_put (more ++ h) client key body puts l.1 l.0.1 (own_puts_beside h more client puts l.1 others all)),
  own_told (events.Put client key body ∷ (more ++ h)) client key body (events.Put client key body ∷ (more ++ h)) lawful (λ l. put_is_own (more ++ h) client key body l.1 l.0.1 table),
)

-- where a Refer was added the reference has moved on
pub has_moved_on_told : (h more : History) (symbol : Name) → ∥ IsLawful (more ++ h) ∥₁ → list_any (refers symbol) more ≡ true → HasMovedOn (more ++ h) symbol (reference h symbol)
has_moved_on_told h more symbol lawful e = by (reference h symbol) (λ l. has_moved_on h more symbol l e)
  where
    by : (was : Option Key) → (IsLawful (more ++ h) → HasMovedOn (more ++ h) symbol was) → HasMovedOn (more ++ h) symbol was
    by None f = λ same. ∥∥₁_elim lawful ⊥_prop (λ l. f l same)
    by (Some key) f = (λ same. ∥∥₁_elim lawful ⊥_prop (λ l. (f l).0 same), ∥∥₁_elim lawful (hlevel props) (λ l. (f l).1))

-- where the reference is the same, none was added
pub unreferred_told : (h more : History) (symbol : Name) → ∥ IsLawful (more ++ h) ∥₁ → reference (more ++ h) symbol ≡ reference h symbol → list_any (refers symbol) more ≡ false
unreferred_told h more symbol lawful same = is_false _ (λ e. ∥∥₁_elim lawful ⊥_prop (λ l. another_reference h more symbol l e same))
