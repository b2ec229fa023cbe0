-- An element that is spelled is read again, and what is read as an element was spelled so.
use Rattle.std.proofs.Common.{◌≡◌, ℕ, zero, suc, ◌<◌, ◌≤◌, ◌^◌, Bool, true, false, cond, List, [], ◌∷◌, ◌++◌, length, refl, sym, ap, subst, ◌∙◌, append_assoc, arith, Ok, Err, Some, None, Option, nat_eq, inl, inr}
use Rattle.std.specs.Prelude.{◌⊎◌, ◌&&◌, ⊤, nat_le, IfSome, flat_map}
use Rattle.std.specs.Int.{w8, w64, to_be_bytes}
use Rattle.std.specs.List.{AllByRecursion}
use Rattle.std.proofs.lemmas.List.{append-nil}
use Rattle.std.proofs.lemmas.List.Concat.{flat_map-cons}
use Rattle.std.proofs.lemmas.Bool.Decides.{nat_tests}
use Rattle.std.proofs.lemmas.Bool.{true≢false, and_parts, eqb-true, leb-true}
use Rattle.byte_fields.specs.Reading.{Reading, ◌>>=◌, wanted, number_at, magic_at}
use Rattle.byte_fields.specs.Readers.{IsBytes}
use Rattle.byte_fields.proofs.Steps.{ok_is, bind_ok, bind_is, wanted_ok, wanted_is, Takes, Takes-then, Takes-nothing, whole_takes, whole_again}
use Rattle.byte_fields.proofs.Numbers.{byte_takes, byte_again, wide64, number_takes, number_again, magic_takes, magic_again}
use Rattle.key_kind.specs.declared.key.KeyKind.TheVariants as kinds
use Rattle.key_kind.specs.declared.key.Key.{Key}
use Rattle.key_kind.specs.KeyText.{key_text, key_of_at}
use Rattle.key_kind.specs.Keys.{FitsFields}
use Rattle.key_kind.proofs.KeyReading.{key_of_again, key_of_takes}
use Rattle.store_model.specs.declared.chain.ChainMark.{ChainMark}
use Rattle.store_model.specs.declared.chain.ChainMark.TheVariants as marks
use Rattle.store_model.specs.declared.chain.Entry.{Entry}
use Rattle.store_model.specs.Commits.{IsFilled}
use Rattle.store_model.specs.ChainText.{mark_text, optional_key_text, entry_magic, entry_text, Form, first, start, linked, buried, ended, form_started, form_behind, form_at, mark_at, tomb_of, marks_at, optional_key_at, entry_at, entry_of}
use Rattle.version_chain.specs.Entries.{IsKeyOf, IsMark, AreTombs, AreTombsAndDiscard, IsForm, IsEntry, FitsMark, FitsEntry}
use Rattle.version_chain.proofs.MarkLaws.{tag_of, body_text, mark_text-is, IsAboveTomb, IsTag, mark_takes, mark_again, filled, one_at_least}

-- ---- the form of what follows

-- what may follow in a form, behind a Tomb or not
abbrev pub Follows : Form → Option ℕ → List ChainMark → Type 0
Follows first tomb [] = ⊤
Follows first tomb (m ∷ ms) = (tomb ≡ None) × IsForm (m ∷ ms)
Follows start tomb [] = ⊤
Follows start tomb (m ∷ ms) = (tomb ≡ None) × IsForm (m ∷ ms)
Follows linked tomb ms = AreTombsAndDiscard tomb ms
Follows buried tomb ms = AreTombs tomb ms
Follows ended tomb ms = ms ≡ []

none_left : (f : Form) (tomb : Option ℕ) → Follows f tomb []
none_left first tomb = tt
none_left start tomb = tt
none_left linked tomb = tt
none_left buried tomb = tt
none_left ended tomb = refl

no_form : (f : Form) → None ≡ Some f → ⊥
no_form f e = cc

to_form : (a b : Form) → Some a ≡ Some b → a ≡ b
to_form a b e = cc

-- the start stands behind no Tomb
abbrev IsStart : Form → Option ℕ → Type 0
IsStart first tomb = tomb ≡ None
IsStart start tomb = tomb ≡ None
IsStart _ tomb = ⊤

-- one mark more stands before what may follow it; at the beginning of an element
more_started : (b : Form) (tomb : Option ℕ) (m : ChainMark) (ms : List ChainMark) → tomb ≡ None → form_started (tag_of m) ≡ Some b → Follows b (tomb_of m) ms → (tomb ≡ None) × IsForm (m ∷ ms)
more_started b tomb (marks.Link l) ms at e more = (at, subst (λ f. Follows f None ms) (sym (to_form linked b e)) more)
more_started b tomb (marks.Tomb v) ms at e more = (at, subst (λ f. Follows f (Some v) ms) (sym (to_form buried b e)) more)
more_started b tomb (marks.Hold h v) ms at e more = (at, subst (λ (xs : List ChainMark). IsForm (marks.Hold h v ∷ xs)) (sym (subst (λ f. Follows f None ms) (sym (to_form ended b e)) more)) tt)
more_started b tomb (marks.Release h) ms at e more = (at, subst (λ (xs : List ChainMark). IsForm (marks.Release h ∷ xs)) (sym (subst (λ f. Follows f None ms) (sym (to_form ended b e)) more)) tt)
more_started b tomb (marks.Discard ps) ms at e more = (at, subst (λ (xs : List ChainMark). IsForm (marks.Discard ps ∷ xs)) (sym (subst (λ f. Follows f None ms) (sym (to_form ended b e)) more)) tt)
more_started b tomb (marks.Compact told) ms at e more = absurd (no_form b e)

-- and anywhere
follows_more : (f b : Form) (tomb : Option ℕ) (m : ChainMark) (ms : List ChainMark) → IsStart f tomb → form_behind f (tag_of m) ≡ Some b → IsAboveTomb tomb m → Follows b (tomb_of m) ms → Follows f tomb (m ∷ ms)
follows_more first b tomb m ms at e above more = more_started b tomb m ms at e more
follows_more start b tomb m ms at e above more = more_started b tomb m ms at e more
follows_more linked b tomb (marks.Link l) ms at e above more = absurd (no_form b e)
follows_more linked b tomb (marks.Tomb v) ms at e above more = (above, subst (λ f. Follows f (Some v) ms) (sym (to_form linked b e)) more)
follows_more linked b tomb (marks.Hold h v) ms at e above more = absurd (no_form b e)
follows_more linked b tomb (marks.Release h) ms at e above more = absurd (no_form b e)
follows_more linked b tomb (marks.Discard ps) ms at e above more = subst (λ (xs : List ChainMark). AreTombsAndDiscard tomb (marks.Discard ps ∷ xs)) (sym (subst (λ f. Follows f None ms) (sym (to_form ended b e)) more)) tt
follows_more linked b tomb (marks.Compact told) ms at e above more = absurd (no_form b e)
follows_more buried b tomb (marks.Link l) ms at e above more = absurd (no_form b e)
follows_more buried b tomb (marks.Tomb v) ms at e above more = (above, subst (λ f. Follows f (Some v) ms) (sym (to_form buried b e)) more)
follows_more buried b tomb (marks.Hold h v) ms at e above more = absurd (no_form b e)
follows_more buried b tomb (marks.Release h) ms at e above more = absurd (no_form b e)
follows_more buried b tomb (marks.Discard ps) ms at e above more = absurd (no_form b e)
follows_more buried b tomb (marks.Compact told) ms at e above more = absurd (no_form b e)
follows_more ended b tomb m ms at e above more = absurd (no_form b e)

-- the first mark, and what may follow it
record First (f : Form) (tomb : Option ℕ) (m : ChainMark) (ms : List ChainMark) : Type 0 where
  pub behind : Form
  pub form : form_behind f (tag_of m) ≡ Some behind
  pub above : IsAboveTomb tomb m
  pub more : Follows behind (tomb_of m) ms
  pub later : IsStart behind (tomb_of m)

-- at the beginning of an element
first_started : (f : Form) → ((tag : ℕ) → form_behind f tag ≡ form_started tag) → (tomb : Option ℕ) (m : ChainMark) (ms : List ChainMark) → tomb ≡ None → IsForm (m ∷ ms) → First f tomb m ms
first_started f is tomb (marks.Link l) ms none e = record { behind = linked; form = is 1; above = tt; more = e; later = tt }
first_started f is tomb (marks.Tomb v) ms none e = record { behind = buried; form = is 2; above = subst (λ o. IsAboveTomb o (marks.Tomb v)) (sym none) tt; more = e; later = tt }
first_started f is tomb (marks.Hold h v) [] none e = record { behind = ended; form = is 3; above = tt; more = refl; later = tt }
first_started f is tomb (marks.Hold h v) (m ∷ ms) none e = absurd e
first_started f is tomb (marks.Release h) [] none e = record { behind = ended; form = is 4; above = tt; more = refl; later = tt }
first_started f is tomb (marks.Release h) (m ∷ ms) none e = absurd e
first_started f is tomb (marks.Discard ps) [] none e = record { behind = ended; form = is 5; above = tt; more = refl; later = tt }
first_started f is tomb (marks.Discard ps) (m ∷ ms) none e = absurd e
first_started f is tomb (marks.Compact told) ms none e = absurd e

-- and anywhere
follows_first : (f : Form) (tomb : Option ℕ) (m : ChainMark) (ms : List ChainMark) → Follows f tomb (m ∷ ms) → First f tomb m ms
follows_first first tomb m ms e = first_started first (λ tag. refl) tomb m ms e.0 e.1
follows_first start tomb m ms e = first_started start (λ tag. refl) tomb m ms e.0 e.1
follows_first linked tomb (marks.Link l) ms e = absurd e
follows_first linked tomb (marks.Tomb v) ms e = record { behind = linked; form = refl; above = e.0; more = e.1; later = tt }
follows_first linked tomb (marks.Hold h v) ms e = absurd e
follows_first linked tomb (marks.Release h) ms e = absurd e
follows_first linked tomb (marks.Discard ps) [] e = record { behind = ended; form = refl; above = tt; more = refl; later = tt }
follows_first linked tomb (marks.Discard ps) (m ∷ ms) e = absurd e
follows_first linked tomb (marks.Compact told) ms e = absurd e
follows_first buried tomb (marks.Link l) ms e = absurd e
follows_first buried tomb (marks.Tomb v) ms e = record { behind = buried; form = refl; above = e.0; more = e.1; later = tt }
follows_first buried tomb (marks.Hold h v) ms e = absurd e
follows_first buried tomb (marks.Release h) ms e = absurd e
follows_first buried tomb (marks.Discard ps) ms e = absurd e
follows_first buried tomb (marks.Compact told) ms e = absurd e
follows_first ended tomb m ms e = absurd (filled_no m ms e)
  where
    filled_no : (m : ChainMark) (ms : List ChainMark) → m ∷ ms ≡ [] → ⊥
    filled_no m ms e = cc

-- ---- the number of a mark

-- a form's number was taken
record FormRead (f : Form) (bytes : List ℕ) (tag : ℕ) (b : Form) (rest : List ℕ) : Type 0 where
  pub takes : Takes bytes (tag ∷ []) rest
  pub form : form_behind f tag ≡ Some b

pub form_again : (f b : Form) (tag : ℕ) (rest : List ℕ) → form_behind f tag ≡ Some b → form_at f (tag ∷ rest) ≡ Ok ((tag, b), rest)
form_again f b tag rest e = rw (byte_again tag rest, e) refl

form_takes : (f : Form) (bytes : List ℕ) (tag : ℕ) (b : Form) (rest : List ℕ) → IsBytes bytes → form_at f bytes ≡ Ok ((tag, b), rest) → FormRead f bytes tag b rest
form_takes f bytes tag b rest fits e =
    let a = bind_ok (number_at w8 bytes) _ ((tag, b), rest) e in
    let t = byte_takes bytes a.0.0 a.0.1 fits a.1 in
    let whole : bytes ≡ a.0.0 ∷ a.0.1 = t.takes.parts in
    elim (form_behind f a.0.0) as (λ o. form_behind f a.0.0 ≡ o → FormRead f bytes tag b rest) [
      | None ↦ λ none. absurd (fails a.0.0 a.0.1 none (ap (form_at f) (sym whole) ∙ e))
      | Some behind ↦ λ is. subst (λ (p : (ℕ × Form) × List ℕ). FormRead f bytes p.0.0 p.0.1 p.1)
          (ok_is ((a.0.0, behind), a.0.1) ((tag, b), rest) (sym (form_again f behind a.0.0 a.0.1 is) ∙ (ap (form_at f) (sym whole) ∙ e)))
          (record { takes = t.takes; form = is })
    ] refl
  where
    fails : (n : ℕ) (after : List ℕ) → form_behind f n ≡ None → form_at f (n ∷ after) ≡ Ok ((tag, b), rest) → ⊥
    fails n after none e = let no : form_at f (n ∷ after) ≡ Err (suc (length after)) = rw (byte_again n after, none) refl in clash _ _ _ no e
      where
        clash : (r : Reading (ℕ × Form)) (k : ℕ) (x : (ℕ × Form) × List ℕ) → r ≡ Err k → r ≡ Ok x → ⊥
        clash r k x p q = cc

-- the numbers of the first mark of an element are those of marks
tags_started : (b : Form) (tag : ℕ) → form_started tag ≡ Some b → IsTag tag
tags_started b tag e =
    elim (nat_eq tag 1) as (λ t. nat_eq tag 1 ≡ t → cond t (Some linked) (cond (nat_eq tag 2) (Some buried) (cond (nat_le 3 tag && nat_le tag 5) (Some ended) None)) ≡ Some b → IsTag tag) [
      | true ↦ λ is g. inl (eqb-true tag 1 is)
      | false ↦ λ not_one g. elim (nat_eq tag 2) as (λ t. nat_eq tag 2 ≡ t → cond t (Some buried) (cond (nat_le 3 tag && nat_le tag 5) (Some ended) None) ≡ Some b → IsTag tag) [
        | true ↦ λ is g. inr (inl (eqb-true tag 2 is))
        | false ↦ λ not_two g. elim (nat_le 3 tag && nat_le tag 5) as (λ t. (nat_le 3 tag && nat_le tag 5) ≡ t → cond t (Some ended) None ≡ Some b → IsTag tag) [
          | true ↦ λ is g. let both = and_parts (nat_le 3 tag) (nat_le tag 5) is in inr (inr (among (leb-true 3 tag both.0) (leb-true tag 5 both.1)))
          | false ↦ λ no g. absurd (no_form b g)
        ] refl g
      ] refl g
    ] refl e
  where
    among : 3 ≤ tag → tag ≤ 5 → (tag ≡ 3) ⊎ (tag ≡ 4) ⊎ (tag ≡ 5)
    among low high = elim (nat_eq tag 3) as (λ t. nat_eq tag 3 ≡ t → (tag ≡ 3) ⊎ (tag ≡ 4) ⊎ (tag ≡ 5)) [
      | true ↦ λ is. inl (eqb-true tag 3 is)
      | false ↦ λ no. elim (nat_eq tag 4) as (λ t. nat_eq tag 4 ≡ t → (tag ≡ 3) ⊎ (tag ≡ 4) ⊎ (tag ≡ 5)) [
        | true ↦ λ is. inr (inl (eqb-true tag 4 is))
        | false ↦ λ nor. inr (inr (grind (arith, nat_tests, low, high, no, nor)))
      ] refl
    ] refl

-- each form's numbers are those of marks
pub form_tags : (f b : Form) (tag : ℕ) → form_behind f tag ≡ Some b → IsTag tag
form_tags first b tag e = tags_started b tag e
form_tags start b tag e = tags_started b tag e
form_tags linked b tag e =
    elim (nat_eq tag 2) as (λ t. nat_eq tag 2 ≡ t → cond t (Some linked) (cond (nat_eq tag 5) (Some ended) None) ≡ Some b → IsTag tag) [
      | true ↦ λ is g. inr (inl (eqb-true tag 2 is))
      | false ↦ λ no g. elim (nat_eq tag 5) as (λ t. nat_eq tag 5 ≡ t → cond t (Some ended) None ≡ Some b → IsTag tag) [
        | true ↦ λ is g. inr (inr (inr (inr (eqb-true tag 5 is))))
        | false ↦ λ nor g. absurd (no_form b g)
      ] refl g
    ] refl e
form_tags buried b tag e =
    elim (nat_eq tag 2) as (λ t. nat_eq tag 2 ≡ t → cond t (Some buried) None ≡ Some b → IsTag tag) [
      | true ↦ λ is g. inr (inl (eqb-true tag 2 is))
      | false ↦ λ no g. absurd (no_form b g)
    ] refl e
form_tags ended b tag e = absurd (no_form b e)

-- ---- marks

-- marks were taken
pub record MarksRead (f : Form) (tomb : Option ℕ) (n : ℕ) (bytes : List ℕ) (ms : List ChainMark) (rest : List ℕ) : Type 0 where
  pub takes : Takes bytes (flat_map mark_text ms) rest
  pub len : length ms ≡ n
  pub each : AllByRecursion IsMark ms
  pub fits : AllByRecursion FitsMark ms
  pub follows : Follows f tomb ms

-- an element begins in this form
abbrev starts : Form → Bool
starts first = true
starts start = true
starts linked = false
starts buried = false
starts ended = false

never_started : (b : Form) (tag : ℕ) → form_started tag ≡ Some b → starts b ≡ false
never_started b tag e = elim (nat_eq tag 1) as (λ t. cond t (Some linked) (cond (nat_eq tag 2) (Some buried) (cond (nat_le 3 tag && nat_le tag 5) (Some ended) None)) ≡ Some b → starts b ≡ false) [
  | true ↦ λ g. subst (λ f. starts f ≡ false) (to_form linked b g) refl
  | false ↦ λ g. elim (nat_eq tag 2) as (λ t. cond t (Some buried) (cond (nat_le 3 tag && nat_le tag 5) (Some ended) None) ≡ Some b → starts b ≡ false) [
    | true ↦ λ k. subst (λ f. starts f ≡ false) (to_form buried b k) refl
    | false ↦ λ k. elim (nat_le 3 tag && nat_le tag 5) as (λ t. cond t (Some ended) None ≡ Some b → starts b ≡ false) [ true ↦ λ n. subst (λ f. starts f ≡ false) (to_form ended b n) refl | false ↦ λ n. absurd (no_form b n) ] k
  ] g
] e

never : (f b : Form) (tag : ℕ) → form_behind f tag ≡ Some b → starts b ≡ false
never first b tag e = never_started b tag e
never start b tag e = never_started b tag e
never linked b tag e = elim (nat_eq tag 2) as (λ t. cond t (Some linked) (cond (nat_eq tag 5) (Some ended) None) ≡ Some b → starts b ≡ false) [
  | true ↦ λ g. subst (λ f. starts f ≡ false) (to_form linked b g) refl
  | false ↦ λ g. elim (nat_eq tag 5) as (λ t. cond t (Some ended) None ≡ Some b → starts b ≡ false) [ true ↦ λ k. subst (λ f. starts f ≡ false) (to_form ended b k) refl | false ↦ λ k. absurd (no_form b k) ] g
] e
never buried b tag e = elim (nat_eq tag 2) as (λ t. cond t (Some buried) None ≡ Some b → starts b ≡ false) [ true ↦ λ g. subst (λ f. starts f ≡ false) (to_form buried b g) refl | false ↦ λ g. absurd (no_form b g) ] e
never ended b tag e = absurd (no_form b e)

-- behind a mark nothing starts
later_start : (f b : Form) (m : ChainMark) → form_behind f (tag_of m) ≡ Some b → IsStart b (tomb_of m)
later_start f b m e = by f b (tag_of m) e
  where
    by : (f b : Form) (tag : ℕ) → form_behind f tag ≡ Some b → IsStart b (tomb_of m)
    by f first tag e = absurd (true≢false (never f first tag e))
    by f start tag e = absurd (true≢false (never f start tag e))
    by f linked tag e = tt
    by f buried tag e = tt
    by f ended tag e = tt

pub marks_takes : (f : Form) (tomb : Option ℕ) (n : ℕ) (bytes : List ℕ) (ms : List ChainMark) (rest : List ℕ) → IsStart f tomb → IsBytes bytes → marks_at f tomb n bytes ≡ Ok (ms, rest) → MarksRead f tomb n bytes ms rest
marks_takes f tomb zero bytes ms rest at fits e =
    subst (λ (p : List ChainMark × List ℕ). MarksRead f tomb 0 bytes p.0 p.1) (ok_is ([], bytes) (ms, rest) e) (record {
      takes = Takes-nothing bytes fits;
      len = refl;
      each = tt;
      fits = tt;
      follows = none_left f tomb;
    })
marks_takes f tomb (suc n) bytes ms rest at fits e =
    let a = bind_ok (form_at f bytes) _ (ms, rest) e in
    let b = bind_ok (mark_at a.0.0.0 tomb a.0.1) _ (ms, rest) a.2 in
    let c = bind_ok (marks_at a.0.0.1 (tomb_of b.0.0) n b.0.1) _ (ms, rest) b.2 in
    let t = form_takes f bytes a.0.0.0 a.0.0.1 a.0.1 fits a.1 in
    let m = mark_takes a.0.0.0 tomb a.0.1 b.0.0 b.0.1 (form_tags f a.0.0.1 a.0.0.0 t.form) t.takes.rest_fits b.1 in
    let behind : form_behind f (tag_of b.0.0) ≡ Some a.0.0.1 = ap (form_behind f) m.tag_is ∙ t.form in
    let more = marks_takes a.0.0.1 (tomb_of b.0.0) n b.0.1 c.0.0 c.0.1 (later_start f a.0.0.1 b.0.0 behind) m.takes.rest_fits c.1 in
    let tag : Takes bytes (tag_of b.0.0 ∷ []) a.0.1 = subst (λ (k : ℕ). Takes bytes (k ∷ []) a.0.1) (sym m.tag_is) t.takes in
    let one : Takes bytes (mark_text b.0.0) b.0.1 = subst (λ (t : List ℕ). Takes bytes t b.0.1) (sym (mark_text-is b.0.0)) (Takes-then bytes (tag_of b.0.0 ∷ []) a.0.1 (body_text b.0.0) b.0.1 tag m.takes) in
    subst (λ (p : List ChainMark × List ℕ). MarksRead f tomb (suc n) bytes p.0 p.1) (ok_is (b.0.0 ∷ c.0.0, c.0.1) (ms, rest) c.2) (record {
      takes = subst (λ (t : List ℕ). Takes bytes t c.0.1) (sym (flat_map-cons mark_text b.0.0 c.0.0)) (Takes-then bytes (mark_text b.0.0) b.0.1 (flat_map mark_text c.0.0) c.0.1 one more.takes);
      len = ap suc more.len;
      each = (m.is_mark, more.each);
      fits = (m.fits, more.fits);
      follows = follows_more f a.0.0.1 tomb b.0.0 c.0.0 at behind m.above more.follows;
    })

pub marks_again : (f : Form) (tomb : Option ℕ) (ms : List ChainMark) (rest : List ℕ) → AllByRecursion IsMark ms → AllByRecursion FitsMark ms → Follows f tomb ms → marks_at f tomb (length ms) (flat_map mark_text ms ++ rest) ≡ Ok (ms, rest)
marks_again f tomb [] rest each fits follows = refl
marks_again f tomb (m ∷ ms) rest each fits follows =
    let head = follows_first f tomb m ms follows in
    let t2 = flat_map mark_text ms ++ rest in
    let t1 = body_text m ++ t2 in
    let whole : flat_map mark_text (m ∷ ms) ++ rest ≡ tag_of m ∷ t1 =
    ap (λ (t : List ℕ). t ++ rest) (flat_map-cons mark_text m ms) ∙ (append_assoc (mark_text m) (flat_map mark_text ms) rest ∙ ap (λ (t : List ℕ). t ++ t2) (mark_text-is m)) in
    ap (marks_at f tomb (suc (length ms))) whole
    ∙ (bind_is (form_at f (tag_of m ∷ t1)) ((tag_of m, head.behind), t1) _ (form_again f head.behind (tag_of m) t1 head.form)
    ∙ (bind_is (mark_at (tag_of m) tomb t1) (m, t2) _ (mark_again m tomb t2 each.0 fits.0 head.above)
    ∙ bind_is (marks_at head.behind (tomb_of m) (length ms) t2) (ms, rest) _ (marks_again head.behind (tomb_of m) ms rest each.1 fits.1 head.more)))

-- ---- the element before

-- a byte, and a key behind it, were taken
record PrevRead (bytes : List ℕ) (prev : Option Key) (rest : List ℕ) : Type 0 where
  pub takes : Takes bytes (optional_key_text prev) rest
  pub is_key : IfSome prev (IsKeyOf kinds.Version)
  pub fits : IfSome prev FitsFields

no_prev : (rest : List ℕ) → optional_key_at (0 ∷ rest) ≡ Ok (None, rest)
no_prev rest = rw (byte_again 0 rest) refl

some_prev : (rest : List ℕ) → optional_key_at (1 ∷ rest) ≡ (key_of_at kinds.Version rest >>= λ key. Ok (Some key.0, key.1))
some_prev rest = rw (byte_again 1 rest) refl

prev_takes : (bytes : List ℕ) (prev : Option Key) (rest : List ℕ) → IsBytes bytes → optional_key_at bytes ≡ Ok (prev, rest) → PrevRead bytes prev rest
prev_takes bytes prev rest fits e =
    let a = bind_ok (number_at w8 bytes) _ (prev, rest) e in
    let t = byte_takes bytes a.0.0 a.0.1 fits a.1 in
    let w = wanted_ok (nat_le a.0.0 1) bytes _ (prev, rest) a.2 in
    by a.0.0 a.0.1 (leb-true a.0.0 1 w.0) t.takes (ap optional_key_at (sym t.takes.parts) ∙ e)
  where
    by : (n : ℕ) (after : List ℕ) → n ≤ 1 → Takes bytes (n ∷ []) after → optional_key_at (n ∷ after) ≡ Ok (prev, rest) → PrevRead bytes prev rest
    by zero after le t e = subst (λ (p : Option Key × List ℕ). PrevRead bytes p.0 p.1) (ok_is (None, after) (prev, rest) (sym (no_prev after) ∙ e)) (record { takes = t; is_key = tt; fits = tt })
    by (suc zero) after le t e =
        let k = bind_ok (key_of_at kinds.Version after) _ (prev, rest) (sym (some_prev after) ∙ e) in
        let r = key_of_takes kinds.Version after k.0.0 k.0.1 t.rest_fits k.1 in
        subst (λ (p : Option Key × List ℕ). PrevRead bytes p.0 p.1) (ok_is (Some k.0.0, k.0.1) (prev, rest) k.2) (record {
          takes = Takes-then bytes (1 ∷ []) after (key_text k.0.0) k.0.1 t r.read.takes;
          is_key = record { kind_is = r.kind_is; is_key = r.read.is_key };
          fits = r.read.fits;
        })
    by (suc (suc n)) after le t e = absurd (omega (arith, le))

prev_again : (prev : Option Key) (rest : List ℕ) → IfSome prev (IsKeyOf kinds.Version) → IfSome prev FitsFields → optional_key_at (optional_key_text prev ++ rest) ≡ Ok (prev, rest)
prev_again None rest is fits = no_prev rest
prev_again (Some key) rest is fits =
    some_prev (key_text key ++ rest)
    ∙ bind_is (key_of_at kinds.Version (key_text key ++ rest)) (key, rest) _ (subst (λ k. key_of_at k (key_text key ++ rest) ≡ Ok (key, rest)) is.kind_is (key_of_again key rest is.is_key fits))

-- ---- elements

-- the bytes are the spelling of an element
pub record Spelled (bytes : List ℕ) (e : Entry) : Type 0 where
  pub text : bytes ≡ entry_text e
  pub is_entry : IsEntry e
  pub fits : FitsEntry e

form_is : (ms : List ChainMark) → IsFilled ms → Follows start None ms → IsForm ms
form_is [] some follows = absurd some
form_is (m ∷ ms) some follows = follows.1

form_filled : (ms : List ChainMark) → IsForm ms → IsFilled ms
form_filled [] form = absurd form
form_filled (m ∷ ms) form = tt

form_follows : (ms : List ChainMark) → IsForm ms → Follows start None ms
form_follows [] form = tt
form_follows (m ∷ ms) form = (refl, form)

pub entry_takes : (bytes : List ℕ) (e : Entry) → IsBytes bytes → entry_of bytes ≡ Ok e → Spelled bytes e
unfolding entry_of
entry_takes bytes entry fits e =
    let r = whole_takes (entry_at bytes) entry e in
    let a = bind_ok (magic_at entry_magic bytes) _ (entry, []) r in
    let b = bind_ok (optional_key_at a.0.1) _ (entry, []) a.2 in
    let c = bind_ok (number_at w64 b.0.1) _ (entry, []) b.2 in
    let d = bind_ok (wanted (nat_le 1 c.0.0) b.0.1 (marks_at start None c.0.0 c.0.1)) _ (entry, []) c.2 in
    let w = wanted_ok (nat_le 1 c.0.0) b.0.1 (marks_at start None c.0.0 c.0.1) d.0 d.1 in
    let t1 = magic_takes entry_magic bytes a.0.0 a.0.1 fits a.1 in
    let t2 = prev_takes a.0.1 b.0.0 b.0.1 t1.rest_fits b.1 in
    let t3 = number_takes w64 (2 ^ 64) wide64 b.0.1 c.0.0 c.0.1 t2.takes.rest_fits c.1 in
    let t4 = marks_takes start None c.0.0 c.0.1 d.0.0 d.0.1 refl t3.takes.rest_fits w.1 in
    let count : Takes b.0.1 (to_be_bytes w64 (length d.0.0)) c.0.1 = subst (λ (n : ℕ). Takes b.0.1 (to_be_bytes w64 n) c.0.1) (sym t4.len) t3.takes in
    let made : Entry × List ℕ = (record { prev = b.0.0; changes = d.0.0 }, d.0.1) in
    let same : made ≡ (entry, []) = ok_is made (entry, []) d.2 in
    let all = Takes-then bytes _ c.0.1 (flat_map mark_text d.0.0) d.0.1 (Takes-then bytes _ b.0.1 (to_be_bytes w64 (length d.0.0)) c.0.1 (Takes-then bytes entry_magic a.0.1 (optional_key_text b.0.0) b.0.1 t1 t2.takes) count) t4.takes in
    subst (λ (x : Entry). Spelled bytes x) (ap (λ (p : Entry × List ℕ). p.0) same) (record {
      text = all.parts ∙ (ap (λ (t : List ℕ). entry_text made.0 ++ t) (ap (λ (p : Entry × List ℕ). p.1) same) ∙ append-nil (entry_text made.0));
      is_entry = record { prev = t2.is_key; marks = t4.each; form = form_is d.0.0 (filled d.0.0 c.0.0 t4.len w.0) t4.follows };
      fits = record { prev = t2.fits; count = subst (λ (n : ℕ). n < 2 ^ 64) (sym t4.len) t3.below; marks = t4.fits };
    })

pub entry_again : (e : Entry) → IsEntry e → FitsEntry e → entry_of (entry_text e) ≡ Ok e
unfolding entry_of entry_at
entry_again e is fits =
    let t3 = flat_map mark_text e.changes ++ [] in
    let t2 = to_be_bytes w64 (length e.changes) ++ t3 in
    let t1 = optional_key_text e.prev ++ t2 in
    let text : entry_text e ≡ entry_magic ++ t1 = regrouped entry_magic (optional_key_text e.prev) (to_be_bytes w64 (length e.changes)) (flat_map mark_text e.changes) in
    whole_again (entry_at (entry_text e)) e
    (ap entry_at text
    ∙ (bind_is (magic_at entry_magic (entry_magic ++ t1)) (entry_magic, t1) _ (magic_again entry_magic t1)
    ∙ (bind_is (optional_key_at t1) (e.prev, t2) _ (prev_again e.prev t2 is.prev fits.prev)
    ∙ (bind_is (number_at w64 t2) (length e.changes, t3) _ (number_again w64 (2 ^ 64) wide64 (length e.changes) t3 fits.count)
    ∙ bind_is (wanted (nat_le 1 (length e.changes)) t2 (marks_at start None (length e.changes) t3)) (e.changes, []) _
    (wanted_is (nat_le 1 (length e.changes)) t2 (marks_at start None (length e.changes) t3) (one_at_least e.changes (form_filled e.changes is.form))
    ∙ marks_again start None e.changes [] is.marks fits.marks (form_follows e.changes is.form))))))
  where
    regrouped : (a b c d : List ℕ) → ((a ++ b) ++ c) ++ d ≡ a ++ (b ++ (c ++ (d ++ [])))
    regrouped a b c d = simp (append_assoc, append-nil)
