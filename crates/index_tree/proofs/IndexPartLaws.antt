-- An index is read in parts: its columns, its counts and its slots.
use Rattle.std.proofs.Common.{◌≡◌, ℕ, Bool, true, false, List, [], length, Result, Ok, Err, refl, sym, ap, ◌∙◌}
use Rattle.std.specs.Prelude.{nat_le}
use Rattle.std.specs.Int.{w16, w32}
use Rattle.byte_fields.specs.Reading.{Reading, ◌>>=◌, wanted, number_at, magic_at, whole}
use Rattle.byte_fields.specs.Readers.{IsBytes}
use Rattle.byte_fields.proofs.Steps.{done, ok_is, bind_ok}
use Rattle.frame_core.specs.Schemas.{Schema, Head}
use Rattle.index_tree.specs.declared.index.Slot.{Slot}
use Rattle.index_tree.specs.declared.index.Index.{Index}
use Rattle.index_tree.specs.IndexText.{index_magic, no_reach, heads_at, slots_at, index_at, index_of}
use Rattle.index_tree.specs.IndexParts.{columns_at, counts_at, tiles_of}
use Rattle.index_tree.proofs.IndexLaws.{Opened, front_opened}

-- two steps before a third are one step before two
then_then : {A B C : Type 0} (r : Result A ℕ) (f : A → Result B ℕ) (g : B → Result C ℕ) → (r >>= f >>= g) ≡ (r >>= λ x. f x >>= g)
then_then (Ok x) f g = refl
then_then (Err left) f g = refl

-- what follows the columns, field by field
columns_then : {A : Type 0} (bytes : List ℕ) (next : (ℕ × List Head) × List ℕ → Result A ℕ)
    → (columns_at bytes >>= next) ≡ (magic_at index_magic bytes >>= λ m. number_at w16 m.1 >>= λ n. heads_at [] n.0 n.1 >>= λ heads. next ((n.0, heads.0), heads.1))
unfolding columns_at
columns_then bytes next =
    then_then (magic_at index_magic bytes) (λ m. number_at w16 m.1 >>= λ n. heads_at [] n.0 n.1 >>= λ heads. Ok ((n.0, heads.0), heads.1)) next
    ∙ (λ i. magic_at index_magic bytes >>= λ m. then_then (number_at w16 m.1) (λ n. heads_at [] n.0 n.1 >>= λ heads. Ok ((n.0, heads.0), heads.1)) next i)
    ∙ (λ i. magic_at index_magic bytes >>= λ m. number_at w16 m.1 >>= λ n. then_then (heads_at [] n.0 n.1) (λ heads. Ok ((n.0, heads.0), heads.1)) next i)

-- what follows the counts, field by field
counts_then : {A : Type 0} (bytes : List ℕ) (next : (ℕ × ℕ) × List ℕ → Result A ℕ)
    → (counts_at bytes >>= next) ≡ (number_at w32 bytes >>= λ rows. number_at w32 rows.1 >>= λ count. next ((rows.0, count.0), count.1))
unfolding counts_at
counts_then bytes next =
    then_then (number_at w32 bytes) (λ rows. number_at w32 rows.1 >>= λ count. Ok ((rows.0, count.0), count.1)) next
    ∙ (λ i. number_at w32 bytes >>= λ rows. then_then (number_at w32 rows.1) (λ count. Ok ((rows.0, count.0), count.1)) next i)

-- the index of these columns and tiles
abbrev pub index_of_tiles : List Head → ℕ × List Slot → Index
index_of_tiles heads tiles = record { schema = record { timed = true; columns = heads }; rows = tiles.0; slots = tiles.1 }

-- the index that the bytes spell, by its parts
abbrev pub index_in_parts : List ℕ → Result Index ℕ
index_in_parts bytes = do
  columns ← columns_at bytes
  tiles ← tiles_of columns.0.0 columns.1
  Ok (index_of_tiles columns.0.1 tiles)

-- what is made of a reading that leaves nothing
whole_made : {A B : Type 0} (make : A → B) (r : Reading A) → (whole r >>= λ x. Ok (make x)) ≡ whole (r >>= λ x. Ok (make x.0, x.1))
whole_made make (Err left) = refl
whole_made {A} {B} make (Ok x) = by (nat_le (length x.1) 0)
  where
    by : (holds : Bool) → (wanted holds x.1 (done x.0) >>= λ y. done (make y)) ≡ wanted holds x.1 (done (make x.0))
    by true = refl
    by false = refl

-- the rows and the slots that were read
abbrev slots_made : ℕ → List Slot × List ℕ → Reading (ℕ × List Slot)
slots_made rows slots = Ok ((rows, slots.0), slots.1)

-- the rows and the slots, behind the counts
abbrev slots_from : ℕ → (ℕ × ℕ) × List ℕ → Reading (ℕ × List Slot)
slots_from columns counts = slots_at counts.0.0 columns no_reach counts.0.1 counts.1 >>= slots_made counts.0.0

-- the index whose tiles were read
abbrev index_made : List Head → (ℕ × List Slot) × List ℕ → Reading Index
index_made heads tiles = Ok (index_of_tiles heads tiles.0, tiles.1)

-- the tiles of an index, field by field
abbrev by_fields : List Head → ℕ → List ℕ → Reading Index
by_fields heads columns bytes = do
  rows ← number_at w32 bytes
  count ← number_at w32 rows.1
  slots ← slots_at rows.0 columns no_reach count.0 count.1
  index_made heads ((rows.0, slots.0), slots.1)

tiles_made : (heads : List Head) (columns : ℕ) (bytes : List ℕ) → (tiles_of columns bytes >>= λ tiles. done (index_of_tiles heads tiles)) ≡ whole (by_fields heads columns bytes)
tiles_made heads columns bytes =
    whole_made (index_of_tiles heads) (counts_at bytes >>= slots_from columns)
    ∙ ap whole (
    then_then (counts_at bytes) (slots_from columns) (index_made heads)
    ∙ (λ i. counts_at bytes >>= λ counts. then_then (slots_at counts.0.0 columns no_reach counts.0.1 counts.1) (slots_made counts.0.0) (index_made heads) i)
    ∙ counts_then bytes (λ counts. slots_at counts.0.0 columns no_reach counts.0.1 counts.1 >>= λ slots. index_made heads ((counts.0.0, slots.0), slots.1))
    )

-- a reading that leaves nothing at its end, and at the end of its last step
whole_in : {A B C D : Type 0} (r : Reading A) (f : A × List ℕ → Reading B) (g : B × List ℕ → Reading C) (h : B × List ℕ → C × List ℕ → Reading D)
    → (r >>= λ a. f a >>= λ b. g b >>= λ c. whole (h b c)) ≡ whole (r >>= λ a. f a >>= λ b. g b >>= λ c. h b c)
whole_in (Err left) f g h = refl
whole_in {A} {B} {C} {D} (Ok a) f g h = second (f a)
  where
    third : (b : B × List ℕ) (q : Reading C) → (q >>= λ c. whole (h b c)) ≡ whole (q >>= λ c. h b c)
    third b (Ok c) = refl
    third b (Err left) = refl

    second : (q : Reading B) → (q >>= λ b. g b >>= λ c. whole (h b c)) ≡ whole (q >>= λ b. g b >>= λ c. h b c)
    second (Ok b) = third b (g b)
    second (Err left) = refl

pub index_by_parts : (bytes : List ℕ) → index_of bytes ≡ index_in_parts bytes
unfolding index_of index_at
index_by_parts bytes = sym (
    columns_then bytes (λ columns. tiles_of columns.0.0 columns.1 >>= λ tiles. done (index_of_tiles columns.0.1 tiles))
    ∙ (λ i. magic_at index_magic bytes >>= λ m. number_at w16 m.1 >>= λ n. heads_at [] n.0 n.1 >>= λ heads. tiles_made heads.0 n.0 heads.1 i)
    ∙ whole_in (magic_at index_magic bytes) (λ m. number_at w16 m.1) (λ n. heads_at [] n.0 n.1) (λ n heads. by_fields heads.0 n.0 heads.1)
    )

-- where the columns and the counts of an index were read, its slots are what is left
pub parts_opened : (bytes after_columns after_counts : List ℕ) (columns rows count : ℕ) (schema : Schema) (index : Index) → IsBytes bytes → schema.timed ≡ true
    → columns_at bytes ≡ Ok ((columns, schema.columns), after_columns)
    → counts_at after_columns ≡ Ok ((rows, count), after_counts)
    → index_of bytes ≡ Ok index → Opened bytes after_counts schema rows count
unfolding columns_at counts_at
parts_opened bytes after_columns after_counts columns rows count schema index fits timed read_columns read_counts is =
    let magic = bind_ok (magic_at index_magic bytes) (λ m. number_at w16 m.1 >>= λ n. heads_at [] n.0 n.1 >>= λ heads. Ok ((n.0, heads.0), heads.1)) ((columns, schema.columns), after_columns) read_columns in
    let number = bind_ok (number_at w16 magic.0.1) (λ n. heads_at [] n.0 n.1 >>= λ heads. Ok ((n.0, heads.0), heads.1)) ((columns, schema.columns), after_columns) magic.2 in
    let heads = bind_ok (heads_at [] number.0.0 number.0.1) (λ heads. Ok ((number.0.0, heads.0), heads.1)) ((columns, schema.columns), after_columns) number.2 in
    let front = ok_is ((number.0.0, heads.0.0), heads.0.1) ((columns, schema.columns), after_columns) heads.2 in
    let first = bind_ok (number_at w32 after_columns) (λ n. number_at w32 n.1 >>= λ m. Ok ((n.0, m.0), m.1)) ((rows, count), after_counts) read_counts in
    let second = bind_ok (number_at w32 first.0.1) (λ m. Ok ((first.0.0, m.0), m.1)) ((rows, count), after_counts) first.2 in
    let counts = ok_is ((first.0.0, second.0.0), second.0.1) ((rows, count), after_counts) second.2 in
    front_opened bytes magic.0.1 number.0.1 after_columns first.0.1 after_counts index_magic magic.0.0 columns rows count schema index fits refl timed
    magic.1
    (number.1 ∙ (λ i. Ok ((front i).0.0, number.0.1)))
    ((λ i. heads_at [] ((sym front i).0.0) number.0.1) ∙ heads.1 ∙ (λ i. Ok ((front i).0.1, (front i).1)))
    (first.1 ∙ (λ i. Ok ((counts i).0.0, first.0.1)))
    (second.1 ∙ (λ i. Ok ((counts i).0.1, (counts i).1)))
    is
