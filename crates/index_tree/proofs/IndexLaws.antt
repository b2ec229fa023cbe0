-- Each index that keeps the rules has one spelling.
use Rattle.std.proofs.Common.{◌≡◌, ℕ, zero, suc, ◌^◌, ◌<◌, Bool, true, not, ◌||◌, List, [], ◌∷◌, ◌++◌, ◌+◌, ◌-◌, ◌≤◌, map, length, drop, Ok, refl, sym, ap, subst, ◌∙◌, append_assoc, arith}
use Rattle.std.specs.Int.{w16, w32, to_be_bytes}
use Rattle.std.specs.List.{AllByRecursion, flat_map, list_any}
use Rattle.std.proofs.lemmas.List.{append-nil, length-append, drop_at}
use Rattle.std.proofs.lemmas.List.Concat.{flat_map-cons}
use Rattle.byte_fields.specs.Reading.{◌>>=◌, number_at, magic_at}
use Rattle.byte_fields.specs.Readers.{IsBytes}
use Rattle.byte_fields.proofs.Steps.{done, ok_is, bind_ok, bind_is, wanted_ok, wanted_is, both_true, whole_takes, whole_again, Takes, Takes-nothing, Takes-then}
use Rattle.byte_fields.proofs.Numbers.{wide16, wide32, number_takes, number_again, magic_takes, magic_again}
use Rattle.byte_fields.proofs.Lists.{flat_map-front}
use Rattle.frame_core.specs.Texts.{same_text}
use Rattle.frame_core.specs.Schemas.{Schema, Head, IsColName, are_new}
use Rattle.segment_bytes.specs.Heads.{head_text, head_at}
use Rattle.segment_bytes.proofs.HeadLaws.{IsNew, head_takes, head_again}
use Rattle.index_tree.specs.declared.index.Slot.{Slot}
use Rattle.index_tree.specs.declared.index.Index.{Index}
use Rattle.index_tree.specs.IndexText.{index_magic, slot_text, index_text, heads_at, Reach, no_reach, reach_of, slot_at, slots_at, index_at, index_of}
use Rattle.index_tree.specs.IndexRules.{FitsSlot, IsSlot, Cover, IsIndex}
use Rattle.index_tree.specs.SlotTexts.{slots_in, SpellSlots, SpellFrom}
use Rattle.index_tree.proofs.SlotLaws.{slot_takes, slot_again}
use Rattle.index_tree.proofs.SlotTextLaws.{slots_are, spell_read}
use Rattle.index_tree.proofs.SlotRules.{AllowedFrom, kept_all, allowed_all, fits_all}

-- ---- columns

-- n columns were taken, whose names are new
record HeadsRead (earlier : List Head) (bytes : List ℕ) (n : ℕ) (heads : List Head) (rest : List ℕ) : Type 0 where
  takes : Takes bytes (flat_map head_text heads) rest
  count : length heads ≡ n
  named : AllByRecursion (λ (c : Head). IsColName c.0) heads
  new : are_new (map (λ (h : Head). h.0) earlier) (map (λ (h : Head). h.0) heads) ≡ true

list_any-map : {X Y : Type 0} (p : Y → Bool) (f : X → Y) (xs : List X) → list_any p (map f xs) ≡ list_any (λ x. p (f x)) xs
list_any-map p f [] = refl
list_any-map p f (x ∷ xs) = ap (λ (b : Bool). p (f x) || b) (list_any-map p f xs)

heads_take : (earlier : List Head) (n : ℕ) (bytes : List ℕ) (x : List Head × List ℕ) → IsBytes bytes → heads_at earlier n bytes ≡ Ok x → HeadsRead earlier bytes n x.0 x.1
heads_take earlier zero bytes x fits e =
    subst (λ (y : List Head × List ℕ). HeadsRead earlier bytes 0 y.0 y.1) (ok_is ([], bytes) x e) (record { takes = Takes-nothing bytes fits; count = refl; named = tt; new = refl })
heads_take earlier (suc n) bytes x fits e =
    let a = bind_ok (head_at earlier bytes) (λ head. heads_at (head.0 ∷ earlier) n head.1 >>= λ more. Ok (head.0 ∷ more.0, more.1)) x e in
    let b = bind_ok (heads_at (a.0.0 ∷ earlier) n a.0.1) (λ more. Ok (a.0.0 ∷ more.0, more.1)) x a.2 in
    let first = head_takes earlier bytes a.0 fits a.1 in
    let second = heads_take (a.0.0 ∷ earlier) n a.0.1 b.0 first.takes.rest_fits b.1 in
    let both = Takes-then bytes (head_text a.0.0) a.0.1 (flat_map head_text b.0.0) b.0.1 first.takes second.takes in
    let made : List Head × List ℕ = (a.0.0 ∷ b.0.0, b.0.1) in
    let new : not (list_any (same_text a.0.0.0) (map (λ (h : Head). h.0) earlier)) ≡ true = ap not (list_any-map (same_text a.0.0.0) (λ (h : Head). h.0) earlier) ∙ first.new in
    subst (λ (y : List Head × List ℕ). HeadsRead earlier bytes (suc n) y.0 y.1) (ok_is made x b.2) (record {
      takes = rw flat_map-cons both;
      count = ap suc second.count;
      named = (first.named, second.named);
      new = rw (new, second.new) refl;
    })

heads_again : (earlier : List Head) (heads : List Head) (rest : List ℕ) → AllByRecursion (λ (c : Head). IsColName c.0) heads → are_new (map (λ (h : Head). h.0) earlier) (map (λ (h : Head). h.0) heads) ≡ true → heads_at earlier (length heads) (flat_map head_text heads ++ rest) ≡ Ok (heads, rest)
heads_again earlier [] rest named new = refl
heads_again earlier (head ∷ heads) rest named new =
    let b = both_true (not (list_any (same_text head.0) (map (λ (h : Head). h.0) earlier))) (are_new (head.0 ∷ map (λ (h : Head). h.0) earlier) (map (λ (h : Head). h.0) heads)) new in
    let fresh : IsNew earlier head.0 = ap not (sym (list_any-map (same_text head.0) (λ (h : Head). h.0) earlier)) ∙ b.0 in
    ap (heads_at earlier (suc (length heads))) (flat_map-front head_text head heads rest)
    ∙ bind_is (head_at earlier (head_text head ++ (flat_map head_text heads ++ rest))) (head, flat_map head_text heads ++ rest) (λ h. heads_at (h.0 ∷ earlier) (length heads) h.1 >>= λ more. Ok (h.0 ∷ more.0, more.1)) (head_again earlier head (flat_map head_text heads ++ rest) named.0 fresh)
    ∙ bind_is (heads_at (head ∷ earlier) (length heads) (flat_map head_text heads ++ rest)) (heads, rest) (λ more. Ok (head ∷ more.0, more.1)) (heads_again (head ∷ earlier) heads rest named.1 b.1)

-- ---- slots

-- n slots were taken, which keep the rules behind slots that reach so far
record SlotsRead (total columns : ℕ) (reach : Reach) (bytes : List ℕ) (n : ℕ) (slots : List Slot) (rest : List ℕ) : Type 0 where
  takes : Takes bytes (flat_map slot_text slots) rest
  count : length slots ≡ n
  fits : AllByRecursion FitsSlot slots
  allowed : AllowedFrom total columns reach slots

slots_take : (total columns : ℕ) (reach : Reach) (n : ℕ) (bytes : List ℕ) (x : List Slot × List ℕ) → IsBytes bytes → slots_at total columns reach n bytes ≡ Ok x → SlotsRead total columns reach bytes n x.0 x.1
slots_take total columns reach zero bytes x fits e =
    let g = wanted_ok _ bytes (done ([], bytes)) x e in
    subst (λ (y : List Slot × List ℕ). SlotsRead total columns reach bytes 0 y.0 y.1) (ok_is ([], bytes) x g.1) (record { takes = Takes-nothing bytes fits; count = refl; fits = tt; allowed = g.0 })
slots_take total columns reach (suc n) bytes x fits e =
    let a = bind_ok (slot_at total columns reach bytes) (λ slot. slots_at total columns (reach_of columns slot.0) n slot.1 >>= λ more. Ok (slot.0 ∷ more.0, more.1)) x e in
    let b = bind_ok (slots_at total columns (reach_of columns a.0.0) n a.0.1) (λ more. Ok (a.0.0 ∷ more.0, more.1)) x a.2 in
    let first = slot_takes total columns reach bytes a.0 fits a.1 in
    let second = slots_take total columns (reach_of columns a.0.0) n a.0.1 b.0 first.takes.rest_fits b.1 in
    let both = Takes-then bytes (slot_text a.0.0) a.0.1 (flat_map slot_text b.0.0) b.0.1 first.takes second.takes in
    let made : List Slot × List ℕ = (a.0.0 ∷ b.0.0, b.0.1) in
    subst (λ (y : List Slot × List ℕ). SlotsRead total columns reach bytes (suc n) y.0 y.1) (ok_is made x b.2) (record {
      takes = rw flat_map-cons both;
      count = ap suc second.count;
      fits = (first.fits, second.fits);
      allowed = (first.allowed, second.allowed);
    })

slots_again : (total columns : ℕ) (reach : Reach) (slots : List Slot) (rest : List ℕ) → AllByRecursion FitsSlot slots → AllowedFrom total columns reach slots → slots_at total columns reach (length slots) (flat_map slot_text slots ++ rest) ≡ Ok (slots, rest)
slots_again total columns reach [] rest fits allowed = wanted_is _ rest (done ([], rest)) allowed
slots_again total columns reach (s ∷ slots) rest fits allowed =
    ap (slots_at total columns reach (suc (length slots))) (flat_map-front slot_text s slots rest)
    ∙ bind_is (slot_at total columns reach (slot_text s ++ (flat_map slot_text slots ++ rest))) (s, flat_map slot_text slots ++ rest) (λ slot. slots_at total columns (reach_of columns slot.0) (length slots) slot.1 >>= λ more. Ok (slot.0 ∷ more.0, more.1)) (slot_again total columns reach s (flat_map slot_text slots ++ rest) fits.0 allowed.0)
    ∙ bind_is (slots_at total columns (reach_of columns s) (length slots) (flat_map slot_text slots ++ rest)) (slots, rest) (λ more. Ok (s ∷ more.0, more.1)) (slots_again total columns (reach_of columns s) slots rest fits.1 allowed.1)

-- ---- an index

-- an index was taken
record IndexRead (bytes : List ℕ) (i : Index) (rest : List ℕ) : Type 0 where
  takes : Takes bytes (index_text i) rest
  is : IsIndex i

-- what was read, by the counts
record IsIndexOf (b0 b6 : List ℕ) (heads : List Head) (rows : ℕ) (slots : List Slot) (columns count : ℕ) : Type 0 where
  few_columns : columns < 2 ^ 16
  few_slots : count < 2 ^ 32
  takes : Takes b0 (index_magic ++ to_be_bytes w16 columns ++ flat_map head_text heads ++ to_be_bytes w32 rows ++ to_be_bytes w32 count ++ flat_map slot_text slots) b6
  kept : AllByRecursion (IsSlot columns) slots
  cover : Cover rows columns slots

index_made : (b0 b1 b2 b3 b4 b5 b6 front : List ℕ) (columns rows count : ℕ) (heads : List Head) (slots : List Slot) → IsBytes b0
    → magic_at index_magic b0 ≡ Ok (front, b1)
    → number_at w16 b1 ≡ Ok (columns, b2)
    → heads_at [] columns b2 ≡ Ok (heads, b3)
    → number_at w32 b3 ≡ Ok (rows, b4)
    → number_at w32 b4 ≡ Ok (count, b5)
    → slots_at rows columns no_reach count b5 ≡ Ok (slots, b6)
    → IndexRead b0 (record { schema = record { timed = true; columns = heads }; rows = rows; slots = slots }) b6
index_made b0 b1 b2 b3 b4 b5 b6 front columns rows count heads slots fits h0 h1 h2 h3 h4 h5 =
    let t0 = magic_takes index_magic b0 front b1 fits h0 in
    let t1 = number_takes w16 (2 ^ 16) wide16 b1 columns b2 t0.rest_fits h1 in
    let t2 = heads_take [] columns b2 (heads, b3) t1.takes.rest_fits h2 in
    let t3 = number_takes w32 (2 ^ 32) wide32 b3 rows b4 t2.takes.rest_fits h3 in
    let t4 = number_takes w32 (2 ^ 32) wide32 b4 count b5 t3.takes.rest_fits h4 in
    let t5 = slots_take rows columns no_reach count b5 (slots, b6) t4.takes.rest_fits h5 in
    let x1 = index_magic ++ to_be_bytes w16 columns in
    let x2 = x1 ++ flat_map head_text heads in
    let x3 = x2 ++ to_be_bytes w32 rows in
    let x4 = x3 ++ to_be_bytes w32 count in
    let e1 = Takes-then b0 index_magic b1 (to_be_bytes w16 columns) b2 t0 t1.takes in
    let e2 = Takes-then b0 x1 b2 (flat_map head_text heads) b3 e1 t2.takes in
    let e3 = Takes-then b0 x2 b3 (to_be_bytes w32 rows) b4 e2 t3.takes in
    let e4 = Takes-then b0 x3 b4 (to_be_bytes w32 count) b5 e3 t4.takes in
    let e5 = Takes-then b0 x4 b5 (flat_map slot_text slots) b6 e4 t5.takes in
    let kept = kept_all rows columns slots t5.fits t5.allowed in
    let all : IsIndexOf b0 b6 heads rows slots columns count = record { few_columns = t1.below; few_slots = t4.below; takes = e5; kept = kept.each; cover = kept.cover } in
    let both : IsIndexOf b0 b6 heads rows slots (length heads) (length slots) = subst (λ (n : ℕ). IsIndexOf b0 b6 heads rows slots (length heads) n) (sym t5.count) (subst (λ (n : ℕ). IsIndexOf b0 b6 heads rows slots n count) (sym t2.count) all) in
    record {
      takes = both.takes;
      is = record { timed = refl; columns = record { named = t2.named; distinct = t2.new }; few_columns = both.few_columns; few_rows = t3.below; few_slots = both.few_slots; each = both.kept; cover = both.cover };
    }

index_takes : (bytes : List ℕ) (x : Index × List ℕ) → IsBytes bytes → index_at bytes ≡ Ok x → IndexRead bytes x.0 x.1
unfolding index_at
index_takes bytes x fits e =
    let a = bind_ok (magic_at index_magic bytes) (λ m. number_at w16 m.1 >>= λ n. heads_at [] n.0 n.1 >>= λ heads. number_at w32 heads.1 >>= λ rows. number_at w32 rows.1 >>= λ count. slots_at rows.0 n.0 no_reach count.0 count.1 >>= λ slots. Ok (record { schema = record { timed = true; columns = heads.0 }; rows = rows.0; slots = slots.0 }, slots.1)) x e in
    let b = bind_ok (number_at w16 a.0.1) (λ n. heads_at [] n.0 n.1 >>= λ heads. number_at w32 heads.1 >>= λ rows. number_at w32 rows.1 >>= λ count. slots_at rows.0 n.0 no_reach count.0 count.1 >>= λ slots. Ok (record { schema = record { timed = true; columns = heads.0 }; rows = rows.0; slots = slots.0 }, slots.1)) x a.2 in
    let c = bind_ok (heads_at [] b.0.0 b.0.1) (λ heads. number_at w32 heads.1 >>= λ rows. number_at w32 rows.1 >>= λ count. slots_at rows.0 b.0.0 no_reach count.0 count.1 >>= λ slots. Ok (record { schema = record { timed = true; columns = heads.0 }; rows = rows.0; slots = slots.0 }, slots.1)) x b.2 in
    let d = bind_ok (number_at w32 c.0.1) (λ rows. number_at w32 rows.1 >>= λ count. slots_at rows.0 b.0.0 no_reach count.0 count.1 >>= λ slots. Ok (record { schema = record { timed = true; columns = c.0.0 }; rows = rows.0; slots = slots.0 }, slots.1)) x c.2 in
    let f = bind_ok (number_at w32 d.0.1) (λ count. slots_at d.0.0 b.0.0 no_reach count.0 count.1 >>= λ slots. Ok (record { schema = record { timed = true; columns = c.0.0 }; rows = d.0.0; slots = slots.0 }, slots.1)) x d.2 in
    let g = bind_ok (slots_at d.0.0 b.0.0 no_reach f.0.0 f.0.1) (λ slots. Ok (record { schema = record { timed = true; columns = c.0.0 }; rows = d.0.0; slots = slots.0 }, slots.1)) x f.2 in
    let made : Index × List ℕ = (record { schema = record { timed = true; columns = c.0.0 }; rows = d.0.0; slots = g.0.0 }, g.0.1) in
    subst (λ (y : Index × List ℕ). IndexRead bytes y.0 y.1) (ok_is made x g.2) (index_made bytes a.0.1 b.0.1 c.0.1 d.0.1 f.0.1 g.0.1 a.0.0 b.0.0 d.0.0 f.0.0 c.0.0 g.0.0 fits a.1 b.1 c.1 d.1 f.1 g.1)

regrouped : (a b c d f g rest : List ℕ) → (((((a ++ b) ++ c) ++ d) ++ f) ++ g) ++ rest ≡ a ++ (b ++ (c ++ (d ++ (f ++ (g ++ rest)))))
regrouped a b c d f g rest = simp append_assoc

-- a timed schema is its columns
timed_is : (i : Index) → i.schema.timed ≡ true → (record { schema = record { timed = true; columns = i.schema.columns }; rows = i.rows; slots = i.slots }) ≡ i
timed_is i timed = λ j. record { schema = record { timed = sym timed j; columns = i.schema.columns }; rows = i.rows; slots = i.slots }

index_read_again : (i : Index) (rest : List ℕ) → IsIndex i → index_at (index_text i ++ rest) ≡ Ok (i, rest)
unfolding index_at
index_read_again i rest is =
    let columns = length i.schema.columns in
    let fits = fits_all i.rows columns i.slots is.few_rows is.few_columns is.each is.cover in
    let allowed = allowed_all i.rows columns i.slots is.each is.cover in
    let b5 = flat_map slot_text i.slots ++ rest in
    let b4 = to_be_bytes w32 (length i.slots) ++ b5 in
    let b3 = to_be_bytes w32 i.rows ++ b4 in
    let b2 = flat_map head_text i.schema.columns ++ b3 in
    let b1 = to_be_bytes w16 columns ++ b2 in
    let h0 : magic_at index_magic (index_magic ++ b1) ≡ Ok (index_magic, b1) = magic_again index_magic b1 in
    let h1 : number_at w16 b1 ≡ Ok (columns, b2) = number_again w16 (2 ^ 16) wide16 columns b2 is.few_columns in
    let h2 : heads_at [] columns b2 ≡ Ok (i.schema.columns, b3) = heads_again [] i.schema.columns b3 is.columns.named is.columns.distinct in
    let h3 : number_at w32 b3 ≡ Ok (i.rows, b4) = number_again w32 (2 ^ 32) wide32 i.rows b4 is.few_rows in
    let h4 : number_at w32 b4 ≡ Ok (length i.slots, b5) = number_again w32 (2 ^ 32) wide32 (length i.slots) b5 is.few_slots in
    let h5 : slots_at i.rows columns no_reach (length i.slots) b5 ≡ Ok (i.slots, rest) = slots_again i.rows columns no_reach i.slots rest fits allowed in
    ap index_at (regrouped index_magic (to_be_bytes w16 columns) (flat_map head_text i.schema.columns) (to_be_bytes w32 i.rows) (to_be_bytes w32 (length i.slots)) (flat_map slot_text i.slots) rest)
    ∙ rw (h0, h1, h2, h3, h4, h5) refl
    ∙ ap (λ (x : Index). Ok (x, rest)) (timed_is i is.timed)

-- ---- the law

-- the bytes are the spelling of an index, which keeps the rules
pub record Spelled (bytes : List ℕ) (i : Index) : Type 0 where
  pub text : bytes ≡ index_text i
  pub is : IsIndex i

pub index_spelled : (bytes : List ℕ) (i : Index) → IsBytes bytes → index_of bytes ≡ Ok i → Spelled bytes i
unfolding index_of
index_spelled bytes i fits e =
    let r = index_takes bytes (i, []) fits (whole_takes (index_at bytes) i e) in
    record { text = r.takes.parts ∙ append-nil (index_text i); is = r.is }

pub index_again : (i : Index) → IsIndex i → index_of (index_text i) ≡ Ok i
unfolding index_of
index_again i is =
    let read : index_at (index_text i) ≡ Ok (i, []) = ap index_at (sym (append-nil (index_text i))) ∙ index_read_again i [] is in
    whole_again (index_at (index_text i)) i read

-- ---- an index whose slots are not read

-- what stands before the slots of a spelled index was read, and the bytes behind it spell slots
pub record Opened (bytes behind : List ℕ) (schema : Schema) (rows count : ℕ) : Type 0 where
  pub slots : List Slot
  pub within : length behind ≤ length bytes
  pub from : SpellFrom (length bytes - length behind) count bytes
  pub slots_are : slots_in count (drop (length bytes - length behind) bytes) ≡ slots
  pub spelled : SpellSlots count behind slots
  pub is : index_of bytes ≡ Ok (record { schema = schema; rows = rows; slots = slots })

-- two fronts, one behind the other
fronts : (x y a b c : List ℕ) → a ≡ x ++ b → b ≡ y ++ c → a ≡ (x ++ y) ++ c
fronts x y a b c e f = e ∙ (ap (λ (l : List ℕ). x ++ l) f ∙ sym (append_assoc x y c))

-- slots that are spelled behind a front
ends_at : (front bytes behind : List ℕ) (count : ℕ) (slots : List Slot) → bytes ≡ front ++ behind → SpellSlots count behind slots → (length behind ≤ length bytes) × SpellFrom (length bytes - length behind) count bytes × (slots_in count (drop (length bytes - length behind) bytes) ≡ slots)
ends_at front bytes behind count slots parts spelled =
    let long : length bytes ≡ length front + length behind = ap length parts ∙ length-append front behind in
    let place : length front ≡ length bytes - length behind = omega (arith, long) in
    let rest : drop (length bytes - length behind) bytes ≡ behind = ap (drop (length bytes - length behind)) parts ∙ drop_at front behind (length bytes - length behind) place in
    let read : SpellSlots count behind (slots_in count behind) = spell_read count behind slots spelled in (
      omega (arith, long),
      record { within = omega (arith, long); spelled = subst (λ (b : List ℕ). SpellSlots count b (slots_in count b)) (sym rest) read },
      ap (slots_in count) rest ∙ slots_are count behind slots spelled,
    )

pub front_opened : (b0 b1 b2 b3 b4 b5 magic front : List ℕ) (columns rows count : ℕ) (schema : Schema) (i : Index) → IsBytes b0 → magic ≡ index_magic → schema.timed ≡ true
    → magic_at magic b0 ≡ Ok (front, b1)
    → number_at w16 b1 ≡ Ok (columns, b2)
    → heads_at [] columns b2 ≡ Ok (schema.columns, b3)
    → number_at w32 b3 ≡ Ok (rows, b4)
    → number_at w32 b4 ≡ Ok (count, b5)
    → index_of b0 ≡ Ok i → Opened b0 b5 schema rows count
unfolding index_of index_at
front_opened b0 b1 b2 b3 b4 b5 magic front columns rows count schema i fits is_magic timed m0 h1 h2 h3 h4 e =
    let h0 : magic_at index_magic b0 ≡ Ok (front, b1) = subst (λ (t : List ℕ). magic_at t b0 ≡ Ok (front, b1)) is_magic m0 in
    let t0 = magic_takes index_magic b0 front b1 fits h0 in
    let t1 = number_takes w16 (2 ^ 16) wide16 b1 columns b2 t0.rest_fits h1 in
    let t2 = heads_take [] columns b2 (schema.columns, b3) t1.takes.rest_fits h2 in
    let t3 = number_takes w32 (2 ^ 32) wide32 b3 rows b4 t2.takes.rest_fits h3 in
    let t4 = number_takes w32 (2 ^ 32) wide32 b4 count b5 t3.takes.rest_fits h4 in
    let made : List Slot → Index = λ slots. record { schema = record { timed = true; columns = schema.columns }; rows = rows; slots = slots } in
    let read : index_at b0 ≡ (slots_at rows columns no_reach count b5 >>= λ slots. Ok (made slots.0, slots.1)) = rw (h0, h1, h2, h3, h4) refl in
    let s = bind_ok (slots_at rows columns no_reach count b5) (λ slots. Ok (made slots.0, slots.1)) (i, []) (sym read ∙ whole_takes (index_at b0) i e) in
    let same : (made s.0.0, s.0.1) ≡ (i, []) = ok_is (made s.0.0, s.0.1) (i, []) s.2 in
    let taken = slots_take rows columns no_reach count b5 s.0 t4.takes.rest_fits s.1 in
    let n1 = to_be_bytes w16 columns in
    let n2 = flat_map head_text schema.columns in
    let n3 = to_be_bytes w32 rows in
    let n4 = to_be_bytes w32 count in
    let parts : b0 ≡ (index_magic ++ (n1 ++ (n2 ++ (n3 ++ n4)))) ++ b5 =
    fronts index_magic (n1 ++ (n2 ++ (n3 ++ n4))) b0 b1 b5 t0.parts (fronts n1 (n2 ++ (n3 ++ n4)) b1 b2 b5 t1.takes.parts (fronts n2 (n3 ++ n4) b2 b3 b5 t2.takes.parts (fronts n3 n4 b3 b4 b5 t3.takes.parts t4.takes.parts))) in
    let spelled : SpellSlots count b5 s.0.0 = record {
      text = taken.takes.parts ∙ (ap (λ (x : Index × List ℕ). flat_map slot_text s.0.0 ++ x.1) same ∙ append-nil (flat_map slot_text s.0.0));
      len = taken.count;
      fits = taken.fits;
    } in
    let at = ends_at (index_magic ++ (n1 ++ (n2 ++ (n3 ++ n4)))) b0 b5 count s.0.0 parts spelled in
    record {
      slots = s.0.0;
      spelled = spelled;
      within = at.0;
      from = at.1;
      slots_are = at.2;
      is = e ∙ ((λ j. Ok (sym same j).0) ∙ ap (λ (x : Index). Ok x) (timed_is (record { schema = schema; rows = rows; slots = s.0.0 }) timed));
    }
