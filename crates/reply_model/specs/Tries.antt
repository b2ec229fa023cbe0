-- The events of one commit: tries that were refused, and one that was accepted.
--     Before, IsTry        what one try puts
--     IsRefused, IsAccepted      a try that drops its keys again; a try that ends with its Refer
--     IsTurn               refused tries, and an accepted one or none
--     Turn, AreTurns       turns over symbols in ascending order, each with one change
use Rattle.std.specs.Prelude.{◌≡◌, ℕ, ◌+◌, ◌-◌, ◌≤◌, ◌&&◌, not, Bool, true, false, if◌then◌else◌, List, [], ◌∷◌, ◌++◌, map, length, filter, Option, Some, None, Ok, MatchBool, is_some}
use Rattle.std.specs.List.{list_any, flat_map, AllByRecursion}
use Rattle.key_kind.specs.declared.key.KeyKind.{KeyKind}
use Rattle.key_kind.specs.declared.key.KeyKind.TheVariants as kinds
use Rattle.key_kind.specs.declared.key.Key.{Key}
use Rattle.key_kind.specs.Names.{Name, same_name}
use Rattle.key_kind.specs.Keys.{same_key}
use Rattle.bucket_core.specs.declared.event.Change.{Change}
use Rattle.bucket_core.specs.declared.event.Event.{Event}
use Rattle.bucket_core.specs.declared.event.Event.TheVariants as events
use Rattle.bucket_core.specs.History.{History, Bytes}
use Rattle.expr_clause.specs.declared.command.Pick.{Pick}
use Rattle.reply_model.specs.Answering.{Session}
use Rattle.index_tree.specs.declared.index.Slot.{Slot}
use Rattle.index_tree.specs.declared.index.Index.{Index}
use Rattle.index_tree.specs.IndexText.{index_of}
use Rattle.store_model.specs.declared.chain.ChainMark.{ChainMark}
use Rattle.store_model.specs.declared.chain.ChainMark.TheVariants as marks
use Rattle.store_model.specs.declared.chain.Entry.{Entry}
use Rattle.store_model.specs.ChainText.{entry_of}
use Rattle.store_model.specs.Listings.{NamesRise}
use Rattle.reply_model.specs.Windows.{Window, refers_by_others}

-- the event of a put, and of the drop of its key
abbrev pub put_of : ℕ → Key × Bytes → Event
put_of client p = events.Put client p.0 p.1

-- the drop of what was put
abbrev pub drop_of : ℕ → Key × Bytes → Event
drop_of client p = events.Drop client p.0

-- the keys of puts
abbrev pub keys_of_puts : List (Key × Bytes) → List Key
keys_of_puts = map (λ (p : Key × Bytes). p.0)

-- a key of this kind and of this symbol
abbrev pub IsKeyOf : KeyKind → Name → Key → Type 0
IsKeyOf kind symbol key = (key.kind ≡ kind) × (key.name ≡ symbol)

-- the index key of the version that an element makes
abbrev pub index_linked : List ChainMark → Option Key
index_linked [] = None
index_linked (marks.Link row ∷ more) = Some row.index
index_linked (_ ∷ more) = None

-- what a try puts before its element: nothing, or the new tiles of an index in the order of its slots, and then that index
pub data Before : Name → Option Key → List (Key × Bytes) → Type 0 where
  of_mark : {symbol : Name} → Before symbol None []
  of_version : {symbol : Name} (tiles : List (Key × Bytes)) (key : Key) (body : Bytes) (index : Index)
      → IsKeyOf kinds.TableIndex symbol key → AllByRecursion (λ (p : Key × Bytes). IsKeyOf kinds.TableData symbol p.0) tiles
      → index_of body ≡ Ok index
      → keys_of_puts tiles ≡ filter (λ k. list_any (same_key k) (keys_of_puts tiles)) (map (λ (s : Slot). s.key) index.slots)
      → Before symbol (Some key) (tiles ++ (key, body) ∷ [])

-- the puts of one try on a symbol: those of a version, where it makes one, and its element
pub record IsTry (symbol : Name) (makes : Bool) (puts : List (Key × Bytes)) (entry : Key) : Type 0 where
  pub first : List (Key × Bytes)
  pub body : Bytes
  pub element : Entry
  pub is : puts ≡ first ++ (entry, body) ∷ []
  pub entry_is : IsKeyOf kinds.Version symbol entry
  pub spelled : entry_of body ≡ Ok element
  pub before : Before symbol (index_linked element.changes) first
  pub of_kind : is_some (index_linked element.changes) ≡ makes

-- a refused try: its puts, and then the drops of the same keys
abbrev pub IsRefused : ℕ → Name → Bool → List Event → Type 0
IsRefused client symbol makes es =
    (puts : List (Key × Bytes)) × (entry : Key) × IsTry symbol makes puts entry × (es ≡ map (put_of client) puts ++ map (drop_of client) puts)

-- an accepted try, with these changes: its puts, and then the Refer of its element
abbrev pub IsAccepted : ℕ → Name → Bool → (List Change → Type 0) → List Event → Type 0
IsAccepted client symbol makes Marks es =
    (puts : List (Key × Bytes)) × (was : Option Key) × (entry : Key) × (list : List Change)
    × IsTry symbol makes puts entry × Marks list × (es ≡ map (put_of client) puts ++ events.Refer client symbol was entry list ∷ [])

-- one more where it is done
abbrev pub one_if : Bool → ℕ
one_if b = if b then 1 else 0

-- refused tries, each of which met a Refer by another, and where it is done an accepted one. Where the library's own answer is told, the walk
-- that gave it was a try too. There are no more tries than may be made
pub record IsTurn (h : History) (s : Session) (w : Window) (symbol : Name) (makes done told : Bool) (Marks : List Change → Type 0) (es : List Event) : Type 0 where
  pub tries : List (List Event)
  pub last : List Event
  pub is : es ≡ flat_map (λ t. t) tries ++ last
  pub refused : AllByRecursion (IsRefused s.client symbol makes) tries
  pub met : length tries ≤ refers_by_others h s.client symbol w
  pub few : length tries + one_if done ≤ s.tries - one_if (not done && told)
  pub ends : MatchBool done (IsAccepted s.client symbol makes Marks last) (last ≡ [])

-- a turn of one symbol, which commits one such change or none
pub record Turn (h : History) (s : Session) (w : Window) (Mark : Change → Type 0) : Type 0 where
  pub symbol : Name
  pub done : Bool
  pub own : List Event
  pub is : IsTurn h s w symbol false done false (λ list. (c : Change) × Mark c × (list ≡ c ∷ [])) own

-- the symbol is among those that were asked, or all were
abbrev pub is_asked : List Pick → Name → Bool
is_asked [] symbol = true
is_asked (p ∷ picks) symbol = list_any (λ (q : Pick). same_name q.symbol symbol) (p ∷ picks)

-- turns over asked symbols in ascending order, and their events
pub record AreTurns (h : History) (s : Session) (w : Window) (picks : List Pick) (Mark : Change → Type 0) (es : List Event) : Type 0 where
  pub turns : List (Turn h s w Mark)
  pub asked : AllByRecursion (λ (t : Turn h s w Mark). is_asked picks t.symbol ≡ true) turns
  pub rising : NamesRise (map (λ (t : Turn h s w Mark). t.symbol) turns)
  pub is : es ≡ flat_map (λ (t : Turn h s w Mark). t.own) turns
