-- The loops that read the columns and the slots of an index.
use Rattle.std.proofs.Common.{◌≡◌, ℕ, suc, ◌+◌, ◌-◌, ◌<◌, ◌≤◌, Bool, true, false, not, ◌&&◌, ◌||◌, List, [], ◌∷◌, ◌++◌, length, Ok, Err, refl, sym, ap, ◌∙◌, append_assoc, arith}
use Rattle.std.specs.Prelude.{nat_eq}
use Rattle.std.specs.List.{list_any}
use Rattle.std.proofs.lemmas.List.{append-nil}
use Rattle.byte_fields.specs.Reading.{Reading, ◌>>=◌, wanted}
use Rattle.byte_fields.proofs.Steps.{done}
use Rattle.frame_core.specs.declared.cell.ColType.{ColType}
use Rattle.frame_core.specs.Texts.{same_text}
use Rattle.frame_core.specs.Schemas.{Head}
use Rattle.segment_bytes.specs.Heads.{head_at}
use Rattle.index_tree.specs.declared.index.Slot.{Slot}
use Rattle.index_tree.specs.declared.fault.Stop.{Stop}
use Rattle.index_tree.specs.declared.fault.Stop.TheVariants as stops
use Rattle.index_tree.specs.IndexFaults.{Reads, Stops}
use Rattle.index_tree.specs.IndexText.{Reach, no_reach, reach_of, heads_at, slot_at, slots_at}

-- ---- what was read, and what is left

-- these values before those that a reading gives
abbrev pub with_front : {A : Type 0} → List A → Reading (List A) → Reading (List A)
with_front xs r = r >>= λ more. Ok (xs ++ more.0, more.1)

with_none : {A : Type 0} (r : Reading (List A)) → with_front [] r ≡ r
with_none (Ok more) = refl
with_none (Err left) = refl

with_more : {A : Type 0} (xs : List A) (x : A) (r : Reading (List A)) → with_front xs (r >>= λ more. Ok (x ∷ more.0, more.1)) ≡ with_front (xs ++ x ∷ []) r
with_more {A} xs x (Ok more) = ap (λ (ys : List A). done (ys, more.1)) (sym (append_assoc xs (x ∷ []) more.0))
with_more {A} xs x (Err left) = refl

-- ---- columns

-- the columns before these, and these, the last first
abbrev pub behind : List Head → List Head → List Head
behind earlier [] = earlier
behind earlier (head ∷ heads) = behind (head ∷ earlier) heads

behind_push : (earlier heads : List Head) (head : Head) → behind earlier (heads ++ head ∷ []) ≡ head ∷ behind earlier heads
behind_push earlier [] head = refl
behind_push earlier (other ∷ heads) head = behind_push (other ∷ earlier) heads head

abbrev pub is_named : List ℕ → List Head → Bool
is_named name heads = list_any (λ (head : Head). same_text name head.0) heads

pub any_behind : (name : List ℕ) (earlier heads : List Head) → is_named name (behind earlier heads) ≡ (is_named name heads || is_named name earlier)
any_behind name earlier [] = refl
any_behind name earlier (head ∷ heads) = any_behind name (head ∷ earlier) heads ∙ swapped (is_named name heads) (same_text name head.0) (is_named name earlier)
  where
    swapped : (a b c : Bool) → (a || (b || c)) ≡ ((b || a) || c)
    swapped true true c = refl
    swapped true false c = refl
    swapped false true c = refl
    swapped false false c = refl

-- the first columns were read, and what is left gives what the whole gives
abbrev pub HeadsSoFar : ℕ → ℕ → List ℕ → List ℕ → List Head → Type 0
HeadsSoFar count at first rest heads = with_front heads (heads_at (behind [] heads) (count - at) rest) ≡ heads_at [] count first

pub heads_none : (count : ℕ) (first : List ℕ) → HeadsSoFar count 0 first first []
heads_none count first = let all : count - 0 ≡ count = omega arith in with_none (heads_at [] (count - 0) first) ∙ ap (λ (n : ℕ). heads_at [] n first) all

heads_step : (count at : ℕ) (rest : List ℕ) (heads : List Head) → at < count → heads_at (behind [] heads) (count - at) rest ≡ (head_at (behind [] heads) rest >>= λ head. heads_at (head.0 ∷ behind [] heads) (count - (at + 1)) head.1 >>= λ more. Ok (head.0 ∷ more.0, more.1))
heads_step count at rest heads lt = let k : count - at ≡ suc (count - (at + 1)) = omega arith in ap (λ (n : ℕ). heads_at (behind [] heads) n rest) k

pub heads_more : (count at : ℕ) (first rest : List ℕ) (heads : List Head) (name : List ℕ) (kind : ColType) (after : List ℕ) → at < count → HeadsSoFar count at first rest heads → head_at (behind [] heads) rest ≡ Ok ((name, kind), after) → HeadsSoFar count (at + 1) first after (heads ++ (name, kind) ∷ [])
heads_more count at first rest heads name kind after lt so_far read =
    let next = heads_at ((name, kind) ∷ behind [] heads) (count - (at + 1)) after in
    ap (λ (earlier : List Head). with_front (heads ++ (name, kind) ∷ []) (heads_at earlier (count - (at + 1)) after)) (behind_push [] heads (name, kind))
    ∙ sym (with_more heads (name, kind) next)
    ∙ ap (λ r. with_front heads (r >>= λ head. heads_at (head.0 ∷ behind [] heads) (count - (at + 1)) head.1 >>= λ more. Ok (head.0 ∷ more.0, more.1))) (sym read)
    ∙ ap (with_front heads) (sym (heads_step count at rest heads lt))
    ∙ so_far

heads_stop : (count at : ℕ) (first rest : List ℕ) (heads : List Head) (left : ℕ) → at < count → HeadsSoFar count at first rest heads → head_at (behind [] heads) rest ≡ Err left → heads_at [] count first ≡ Err left
heads_stop count at first rest heads left lt so_far h =
    sym so_far ∙ ap (with_front heads) (heads_step count at rest heads lt)
    ∙ ap (λ r. with_front heads (r >>= λ head. heads_at (head.0 ∷ behind [] heads) (count - (at + 1)) head.1 >>= λ more. Ok (head.0 ∷ more.0, more.1))) h

-- the reading of a column stopped, and so does that of all
pub heads_stopped : {X Y : Type 0} (seen : X → Head × List ℕ) (shown : Y → List Head × List ℕ) (count at : ℕ) (first rest : List ℕ) (heads : List Head) (why : Stop) → at < count → HeadsSoFar count at first rest heads → Reads seen (Err why) (head_at (behind [] heads) rest) → Reads shown (Err why) (heads_at [] count first)
heads_stopped seen shown count at first rest heads (stops.Bad left) lt so_far h = heads_stop count at first rest heads left lt so_far h
heads_stopped seen shown count at first rest heads stops.NoMemory lt so_far h = tt

pub heads_end : (count at : ℕ) (first rest : List ℕ) (heads : List Head) → count ≤ at → HeadsSoFar count at first rest heads → heads_at [] count first ≡ Ok (heads, rest)
heads_end count at first rest heads le so_far =
    let k : count - at ≡ 0 = omega arith in
    sym so_far ∙ ap (λ (n : ℕ). with_front heads (heads_at (behind [] heads) n rest)) k ∙ ap (λ (hs : List Head). done (hs, rest)) (append-nil heads)

-- ---- slots

-- the first slots were read, and what is left gives what the whole gives
abbrev pub SlotsSoFar : ℕ → ℕ → ℕ → ℕ → List ℕ → List ℕ → Reach → List Slot → Type 0
SlotsSoFar total columns count at first rest reach slots = with_front slots (slots_at total columns reach (count - at) rest) ≡ slots_at total columns no_reach count first

pub slots_none : (total columns count : ℕ) (first : List ℕ) → SlotsSoFar total columns count 0 first first no_reach []
slots_none total columns count first = let all : count - 0 ≡ count = omega arith in with_none (slots_at total columns no_reach (count - 0) first) ∙ ap (λ (n : ℕ). slots_at total columns no_reach n first) all

slots_step : (total columns count at : ℕ) (rest : List ℕ) (reach : Reach) → at < count → slots_at total columns reach (count - at) rest ≡ (slot_at total columns reach rest >>= λ slot. slots_at total columns (reach_of columns slot.0) (count - (at + 1)) slot.1 >>= λ more. Ok (slot.0 ∷ more.0, more.1))
slots_step total columns count at rest reach lt = let k : count - at ≡ suc (count - (at + 1)) = omega arith in ap (λ (n : ℕ). slots_at total columns reach n rest) k

pub slots_more : (total columns count at : ℕ) (first rest : List ℕ) (reach : Reach) (slots : List Slot) (slot : Slot) (after : List ℕ) → at < count → SlotsSoFar total columns count at first rest reach slots → slot_at total columns reach rest ≡ Ok (slot, after) → SlotsSoFar total columns count (at + 1) first after (reach_of columns slot) (slots ++ slot ∷ [])
slots_more total columns count at first rest reach slots slot after lt so_far h =
    sym (with_more slots slot (slots_at total columns (reach_of columns slot) (count - (at + 1)) after))
    ∙ ap (λ r. with_front slots (r >>= λ s. slots_at total columns (reach_of columns s.0) (count - (at + 1)) s.1 >>= λ more. Ok (s.0 ∷ more.0, more.1))) (sym h)
    ∙ ap (with_front slots) (sym (slots_step total columns count at rest reach lt))
    ∙ so_far

slots_fail : (total columns count at : ℕ) (first rest : List ℕ) (reach : Reach) (slots : List Slot) (left : ℕ) → at < count → SlotsSoFar total columns count at first rest reach slots → slot_at total columns reach rest ≡ Err left → slots_at total columns no_reach count first ≡ Err left
slots_fail total columns count at first rest reach slots left lt so_far h =
    sym so_far ∙ ap (with_front slots) (slots_step total columns count at rest reach lt)
    ∙ ap (λ r. with_front slots (r >>= λ s. slots_at total columns (reach_of columns s.0) (count - (at + 1)) s.1 >>= λ more. Ok (s.0 ∷ more.0, more.1))) h

-- the reading of a slot stopped, and so does that of all
pub slots_stopped : {Y : Type 0} (shown : Y → List Slot × List ℕ) (total columns count at : ℕ) (first rest : List ℕ) (reach : Reach) (slots : List Slot) (why : Stop) → at < count → SlotsSoFar total columns count at first rest reach slots → Stops why (slot_at total columns reach rest) → Reads shown (Err why) (slots_at total columns no_reach count first)
slots_stopped shown total columns count at first rest reach slots (stops.Bad left) lt so_far h = slots_fail total columns count at first rest reach slots left lt so_far h
slots_stopped shown total columns count at first rest reach slots stops.NoMemory lt so_far h = tt

-- whether nothing is left to cover
abbrev pub reach_is_whole : ℕ → Reach → Bool
reach_is_whole total reach = not reach.is_open && nat_eq (reach.first_row + reach.rows) total

slots_last : (total columns count at : ℕ) (first rest : List ℕ) (reach : Reach) (slots : List Slot) (b : Bool) → count ≤ at → b ≡ reach_is_whole total reach → SlotsSoFar total columns count at first rest reach slots → slots_at total columns no_reach count first ≡ with_front slots (wanted b rest (Ok ([], rest)))
slots_last total columns count at first rest reach slots b le e so_far =
    let k : count - at ≡ 0 = omega arith in
    sym so_far ∙ ap (λ (n : ℕ). with_front slots (slots_at total columns reach n rest)) k ∙ ap (λ (x : Bool). with_front slots (wanted x rest (Ok ([], rest)))) (sym e)

pub slots_end : (total columns count at : ℕ) (first rest : List ℕ) (reach : Reach) (slots : List Slot) → count ≤ at → true ≡ reach_is_whole total reach → SlotsSoFar total columns count at first rest reach slots → slots_at total columns no_reach count first ≡ Ok (slots, rest)
slots_end total columns count at first rest reach slots le e so_far = slots_last total columns count at first rest reach slots true le e so_far ∙ ap (λ (ss : List Slot). done (ss, rest)) (append-nil slots)

pub slots_short : (total columns count at : ℕ) (first rest : List ℕ) (reach : Reach) (slots : List Slot) → count ≤ at → false ≡ reach_is_whole total reach → SlotsSoFar total columns count at first rest reach slots → slots_at total columns no_reach count first ≡ Err (length rest)
slots_short total columns count at first rest reach slots le e so_far = slots_last total columns count at first rest reach slots false le e so_far
