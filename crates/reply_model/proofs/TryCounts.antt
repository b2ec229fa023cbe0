-- How many keys of each kind a try puts.
use Rattle.std.proofs.Common.{◌≡◌, ℕ, suc, ◌+◌, Bool, true, false, List, [], ◌∷◌, ◌++◌, map, length, Option, Some, None, refl, sym, ◌∙◌, ap, arith, length-append, cond}
use Rattle.std.specs.Prelude.{◌&&◌, Ok, not, filter, reverse, count_by, is_some}
use Rattle.std.specs.List.{list_any, AllByRecursion}
use Rattle.std.proofs.lemmas.Bool.{true≢false, or_parts, or_from}
use Rattle.std.proofs.lemmas.List.{reverse-reverse, reverse-append, length-reverse, length-map}
use Rattle.std.proofs.lemmas.List.Sums.{sum_by-append}
use Rattle.std.proofs.lemmas.List.Folds.{list_any-append}
use Rattle.segment_cut.proofs.Lists.{count_by-cons}
use Rattle.key_kind.specs.Names.{Name, same_name}
use Rattle.key_kind.specs.declared.key.Key.{Key}
use Rattle.key_kind.specs.declared.key.KeyKind.{KeyKind}
use Rattle.key_kind.specs.declared.key.KeyKind.TheVariants as kinds
use Rattle.key_kind.specs.Keys.{is_put, same_kind, same_key}
use Rattle.bucket_core.specs.declared.event.Event.{Event}
use Rattle.bucket_core.specs.declared.event.Event.TheVariants as events
use Rattle.bucket_core.specs.History.{History, Bytes, PutOnce}
use Rattle.index_tree.specs.declared.index.Slot.{Slot}
use Rattle.index_tree.specs.declared.index.Index.{Index}
use Rattle.index_tree.specs.IndexText.{index_of}
use Rattle.store_model.specs.declared.chain.Entry.{Entry}
use Rattle.store_model.specs.ChainText.{entry_of}
use Rattle.reply_model.specs.Tries.{put_of, keys_of_puts, IsKeyOf, Before, of_mark, of_version, IsTry, index_linked}
use Rattle.reply_model.specs.Rows.{keys_of}
use Rattle.reply_model.proofs.Places.{none_of_reversed}
use Rattle.reply_model.proofs.StoredCounts.{is_of, keys_behind_put}

-- ---- puts behind a history

-- an event that is no Put of a kind that clients put
abbrev pub is_no_put : Event → Bool
is_no_put (events.Put client key body) = not (is_put key.kind)
is_no_put e = true

-- the Put of such a key of the symbol
abbrev pub puts_of : Name → KeyKind → Event → Bool
puts_of symbol kind (events.Put client key body) = is_of symbol kind key
puts_of symbol kind e = false

-- each of them counts for its own kind and symbol
pub keys_behind_puts : (symbol : Name) (kind : KeyKind) (es old : History) → list_any is_no_put es ≡ false → PutOnce (es ++ old)
    → keys_of (es ++ old) symbol kind ≡ count_by (puts_of symbol kind) es + keys_of old symbol kind
keys_behind_puts symbol kind [] old none once = omega arith
keys_behind_puts symbol kind (events.Put c key body ∷ es) old none once =
    let parts = or_parts (not (is_put key.kind)) (list_any is_no_put es) none in
    omega (
      arith,
      keys_behind_put (es ++ old) c key body symbol kind (of_not (is_put key.kind) parts.0) once.0,
      count_by-cons (puts_of symbol kind) (events.Put c key body) es,
      keys_behind_puts symbol kind es old parts.1 once.1,
    )
  where
    of_not : (b : Bool) → not b ≡ false → b ≡ true
    of_not true f = refl
    of_not false f = absurd (true≢false f)
keys_behind_puts symbol kind (events.Refer c s was entry list ∷ es) old none once = absurd (true≢false none)
keys_behind_puts symbol kind (events.Name c snap body ∷ es) old none once = absurd (true≢false none)
keys_behind_puts symbol kind (events.Unname c snap ∷ es) old none once = absurd (true≢false none)
keys_behind_puts symbol kind (events.Drop c key ∷ es) old none once = absurd (true≢false none)

-- ---- the puts of a try

counted_append : {X : Type 0} (p : X → Bool) (xs ys : List X) → count_by p (xs ++ ys) ≡ count_by p xs + count_by p ys
counted_append p xs ys = sum_by-append (λ x. cond (p x) 1 0) xs ys

-- a list and its reverse count alike
pub counted_reversed : (p : Event → Bool) (xs : List Event) → count_by p (reverse xs) ≡ count_by p xs
counted_reversed p [] = refl
counted_reversed p (x ∷ xs) = omega (arith, ap (count_by p) (reverse-append (x ∷ []) xs), counted_append p (reverse xs) (x ∷ []), count_by-cons p x [], count_by-cons p x xs, counted_reversed p xs)

-- keys of one kind and symbol count so many for these, and none for others
counted_keys : (client : ℕ) (own symbol : Name) (is kind : KeyKind) (ps : List (Key × Bytes)) → AllByRecursion (λ (p : Key × Bytes). IsKeyOf is own p.0) ps
    → count_by (puts_of symbol kind) (map (put_of client) ps) ≡ cond (same_kind is kind && same_name own symbol) (length ps) 0
counted_keys client own symbol is kind [] all = both (same_kind is kind && same_name own symbol)
  where
    both : (b : Bool) → ◌≡◌ {A = ℕ} 0 (cond b 0 0)
    both true = refl
    both false = refl
counted_keys client own symbol is kind (p ∷ ps) all =
    let same : puts_of symbol kind (put_of client p) ≡ (same_kind is kind && same_name own symbol) =
    ap (λ k. same_kind k kind && same_name p.0.name symbol) all.0.0 ∙ ap (λ n. same_kind is kind && same_name n symbol) all.0.1 in
    one_more (same_kind is kind && same_name own symbol) (ap (λ (b : Bool). cond {A = ℕ} b 1 0) same)
    (count_by-cons (puts_of symbol kind) (put_of client p) (map (put_of client) ps)) (counted_keys client own symbol is kind ps all.1)
  where
    one_more : (b : Bool) {all one rest : ℕ} → one ≡ cond b 1 0 → all ≡ one + rest → rest ≡ cond b (length ps) 0 → all ≡ cond b (suc (length ps)) 0
    one_more true f g h = omega (arith, f, g, h)
    one_more false f g h = omega (arith, f, g, h)

no_put_of : (client : ℕ) (symbol : Name) (kind : KeyKind) (ps : List (Key × Bytes)) → is_put kind ≡ true → AllByRecursion (λ (p : Key × Bytes). IsKeyOf kind symbol p.0) ps
    → list_any is_no_put (map (put_of client) ps) ≡ false
no_put_of client symbol kind [] put all = refl
no_put_of client symbol kind (p ∷ ps) put all =
    or_from (not (is_put p.0.kind)) (list_any is_no_put (map (put_of client) ps)) (ap not (ap is_put all.0.0 ∙ put)) (no_put_of client symbol kind ps put all.1)

map_append : (client : ℕ) (xs ys : List (Key × Bytes)) → map (put_of client) (xs ++ ys) ≡ map (put_of client) xs ++ map (put_of client) ys
map_append client [] ys = refl
map_append client (x ∷ xs) ys = ap (λ es. put_of client x ∷ es) (map_append client xs ys)

none_append : (xs ys : List Event) → list_any is_no_put xs ≡ false → list_any is_no_put ys ≡ false → list_any is_no_put (xs ++ ys) ≡ false
none_append xs ys e f = list_any-append is_no_put xs ys ∙ or_from (list_any is_no_put xs) (list_any is_no_put ys) e f

-- the tiles and the index of a version that is put, the tiles in the order of the index
record PutsTable (o : Option Key) (tiles : ℕ) (first : List (Key × Bytes)) : Type 0 where
  tile_puts : List (Key × Bytes)
  key : Key
  body : Bytes
  index : Index
  is : first ≡ tile_puts ++ (key, body) ∷ []
  linked : o ≡ Some key
  counted : tiles ≡ length tile_puts
  spelled : index_of body ≡ Ok index
  order : keys_of_puts tile_puts ≡ filter (λ k. list_any (same_key k) (keys_of_puts tile_puts)) (map (λ (s : Slot). s.key) index.slots)

-- how many tiles and indexes stand before the element
record PutsFirst (client : ℕ) (symbol : Name) (o : Option Key) (makes : Bool) (first : List (Key × Bytes)) : Type 0 where
  tiles : ℕ
  indexes : ℕ
  size : length first ≡ tiles + indexes
  none : list_any is_no_put (map (put_of client) first) ≡ false
  counted : (other : Name) (kind : KeyKind) → count_by (puts_of other kind) (map (put_of client) first)
      ≡ cond (same_kind kinds.TableData kind && same_name symbol other) tiles 0 + cond (same_kind kinds.TableIndex kind && same_name symbol other) indexes 0
  with_index : makes ≡ true → indexes ≡ 1
  without : makes ≡ false → (tiles ≡ 0) × (indexes ≡ 0)
  table : makes ≡ true → PutsTable o tiles first

first_puts : (client : ℕ) (symbol : Name) (o : Option Key) (makes : Bool) (first : List (Key × Bytes)) → Before symbol o first → is_some o ≡ makes → PutsFirst client symbol o makes first
first_puts client symbol None makes first of_mark is = record {
  tiles = 0;
  indexes = 0;
  size = refl;
  none = refl;
  counted = λ other kind. nothing (same_kind kinds.TableData kind && same_name symbol other) (same_kind kinds.TableIndex kind && same_name symbol other);
  with_index = λ m. absurd (true≢false (sym (is ∙ m)));
  without = λ m. (refl, refl);
  table = λ m. absurd (true≢false (sym (is ∙ m)));
}
  where
    nothing : (a b : Bool) → ◌≡◌ {A = ℕ} 0 (cond a 0 0 + cond b 0 0)
    nothing true true = refl
    nothing true false = refl
    nothing false true = refl
    nothing false false = refl
first_puts client symbol (Some key) makes first (of_version tiles own body index key_is tile_are spelled order) is = record {
  tiles = length tiles;
  indexes = 1;
  size = length-append tiles ((key, body) ∷ []);
  none = ap (list_any is_no_put) (map_append client tiles ((key, body) ∷ []))
      ∙ none_append (map (put_of client) tiles) (map (put_of client) ((key, body) ∷ [])) (no_put_of client symbol kinds.TableData tiles refl tile_are) (no_put_of client symbol kinds.TableIndex ((key, body) ∷ []) refl (key_is, tt));
  counted = λ other kind. ap (count_by (puts_of other kind)) (map_append client tiles ((key, body) ∷ []))
      ∙ omega (
        arith,
        counted_append (puts_of other kind) (map (put_of client) tiles) (map (put_of client) ((key, body) ∷ [])),
        counted_keys client symbol other kinds.TableData kind tiles tile_are,
        counted_keys client symbol other kinds.TableIndex kind ((key, body) ∷ []) (key_is, tt),
      );
  with_index = λ m. refl;
  without = λ m. absurd (true≢false (is ∙ m));
  table = λ m. record { tile_puts = tiles; key = key; body = body; index = index; is = refl; linked = refl; counted = refl; spelled = spelled; order = order };
}

-- the puts of a version: its tiles, its index over them, and the element that links it
pub record PutsVersion (entry : Key) (tiles : ℕ) (list : List (Key × Bytes)) : Type 0 where
  pub tile_puts : List (Key × Bytes)
  pub key : Key
  pub body : Bytes
  pub index : Index
  pub element_body : Bytes
  pub element : Entry
  pub is : list ≡ (tile_puts ++ (key, body) ∷ []) ++ (entry, element_body) ∷ []
  pub linked : index_linked element.changes ≡ Some key
  pub counted : tiles ≡ length tile_puts
  pub spelled : index_of body ≡ Ok index
  pub element_spelled : entry_of element_body ≡ Ok element
  pub order : keys_of_puts tile_puts ≡ filter (λ k. list_any (same_key k) (keys_of_puts tile_puts)) (map (λ (s : Slot). s.key) index.slots)

-- what a try puts, the newest first: so many tiles and indexes, and an element
pub record PutsKeys (symbol : Name) (makes : Bool) (entry : Key) (es : List Event) : Type 0 where
  pub client : ℕ
  pub list : List (Key × Bytes)
  pub is : es ≡ reverse (map (put_of client) list)
  pub tiles : ℕ
  pub indexes : ℕ
  pub size : length es ≡ tiles + indexes + 1
  pub none : list_any is_no_put es ≡ false
  pub counted : (other : Name) (kind : KeyKind) → count_by (puts_of other kind) es
      ≡ cond (same_kind kinds.TableData kind && same_name symbol other) tiles 0 + cond (same_kind kinds.TableIndex kind && same_name symbol other) indexes 0
      + cond (same_kind kinds.Version kind && same_name symbol other) 1 0
  pub with_index : makes ≡ true → indexes ≡ 1
  pub without : makes ≡ false → (tiles ≡ 0) × (indexes ≡ 0)
  pub version : makes ≡ true → PutsVersion entry tiles list

pub reversed_none : (p : Event → Bool) (es : List Event) → list_any p es ≡ false → list_any p (reverse es) ≡ false
reversed_none p es none = none_of_reversed p (reverse es) (ap (list_any p) (reverse-reverse es) ∙ none)

pub try_puts : (client : ℕ) (symbol : Name) (makes : Bool) (puts : List (Key × Bytes)) (entry : Key) → IsTry symbol makes puts entry → PutsKeys symbol makes entry (reverse (map (put_of client) puts))
try_puts client symbol makes puts entry t =
    let first = first_puts client symbol (index_linked t.element.changes) makes t.first t.before t.of_kind in
    let last : List (Key × Bytes) = (entry, t.body) ∷ [] in
    let is : map (put_of client) puts ≡ map (put_of client) t.first ++ map (put_of client) last = ap (λ ps. map (put_of client) ps) t.is ∙ map_append client t.first last in
    record {
      client = client;
      list = puts;
      is = refl;
      tiles = first.tiles;
      indexes = first.indexes;
      size = omega (arith, length-reverse (map (put_of client) puts), length-map puts (put_of client), ap (λ (ps : List (Key × Bytes)). length ps) t.is, length-append t.first last, first.size);
      none = reversed_none is_no_put (map (put_of client) puts) (ap (list_any is_no_put) is
          ∙ none_append (map (put_of client) t.first) (map (put_of client) last) first.none (no_put_of client symbol kinds.Version last refl (t.entry_is, tt)));
      counted = λ other kind. counted_reversed (puts_of other kind) (map (put_of client) puts) ∙ (ap (count_by (puts_of other kind)) is
          ∙ omega (
            arith,
            counted_append (puts_of other kind) (map (put_of client) t.first) (map (put_of client) last),
            first.counted other kind,
            counted_keys client symbol other kinds.Version kind last (t.entry_is, tt),
          ));
      with_index = first.with_index;
      without = first.without;
      version = λ m. let table = first.table m in record {
        tile_puts = table.tile_puts;
        key = table.key;
        body = table.body;
        index = table.index;
        element_body = t.body;
        element = t.element;
        is = t.is ∙ ap (λ ps. ps ++ last) table.is;
        linked = table.linked;
        counted = table.counted;
        spelled = table.spelled;
        element_spelled = t.spelled;
        order = table.order;
      };
    }
