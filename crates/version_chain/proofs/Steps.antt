-- Loops that read a list of values, each of which says what may come behind it.
use Rattle.std.proofs.Common.{◌≡◌, ℕ, Bool, true, false, drop, w32, w64, zero, suc, ◌+◌, ◌-◌, ◌<◌, ◌≤◌, List, [], ◌∷◌, ◌++◌, length, Result, Ok, Err, Option, Some, refl, sym, ap, ◌∙◌, append_assoc, arith}
use Rattle.std.specs.Prelude.{nat_le, option_map, slice_get}
use Rattle.std.specs.Option.{option_map_or}
use Rattle.std.proofs.lemmas.List.{append-nil, length-append}
use Rattle.byte_fields.specs.Reading.{Reading, ◌>>=◌, wanted, number_at}
use Rattle.byte_fields.proofs.Steps.{bind_is}
use Rattle.key_kind.specs.declared.key.KeyKind.TheVariants as kinds
use Rattle.key_kind.specs.Names.{Name}
use Rattle.key_kind.specs.KeyText.{key_of_at, name_at}
use Rattle.bucket_core.specs.declared.event.PieceName.{PieceName}
use Rattle.store_model.specs.declared.chain.ChainMark.{ChainMark}
use Rattle.store_model.specs.declared.snapshot.SnapRow.{SnapRow}
use Rattle.store_model.specs.ChainText.{Form, pieces_at, form_at, mark_at, tomb_of, marks_at, snap_rows_at}
use Rattle.version_chain.specs.declared.fields.Stop.{Stop}
use Rattle.version_chain.specs.declared.fields.Stop.TheVariants as stops
use Rattle.version_chain.specs.Reads.{StopsAt, piece_rises, piece_at, symbol_rises, snap_row_at}

-- so many values, each behind the state that the one before left
abbrev pub steps_at : {A S : Type 0} → (S → List ℕ → Reading (A × S)) → S → ℕ → List ℕ → Reading (List A)
steps_at step state zero bytes = Ok ([], bytes)
steps_at step state (suc n) bytes = do
  x ← step state bytes
  more ← steps_at step x.0.1 n x.1
  Ok (x.0.0 ∷ more.0, more.1)

-- with the values that were read before
abbrev pub behind : {A : Type 0} → List A → Reading (List A) → Reading (List A)
behind values reading = reading >>= λ more. Ok (values ++ more.0, more.1)

behind_none : {A : Type 0} (r : Reading (List A)) → behind [] r ≡ r
behind_none (Ok x) = refl
behind_none (Err left) = refl

behind_more : {A : Type 0} (values : List A) (x : A) (r : Reading (List A)) → behind values (r >>= λ more. Ok (x ∷ more.0, more.1)) ≡ behind (values ++ x ∷ []) r
behind_more values x (Ok more) = ap (λ ys. Ok (ys, more.1)) (sym (append_assoc values (x ∷ []) more.0))
behind_more values x (Err left) = refl

module _ {A S : Type 0} (step : S → List ℕ → Reading (A × S)) (start : S) (n : ℕ) (bytes : List ℕ) where
  -- what is left, behind the values so far, gives what the whole gives
  abbrev pub SoFar : ℕ → List A → S → List ℕ → Type 0
  SoFar i values state rest = behind values (steps_at step state (n - i) rest) ≡ steps_at step start n bytes

  pub so_far_none : SoFar 0 [] start bytes
  so_far_none = let all : n - 0 ≡ n = omega arith in ap (λ k. behind [] (steps_at step start k bytes)) all ∙ behind_none (steps_at step start n bytes)

  one_left : (i : ℕ) → i < n → n - i ≡ suc (n - (i + 1))
  one_left i lt = omega arith

  pub so_far_more : (i : ℕ) (values : List A) (state : S) (rest : List ℕ) (x : A) (next : S) (after : List ℕ) → i < n → step state rest ≡ Ok ((x, next), after) → SoFar i values state rest → SoFar (i + 1) (values ++ x ∷ []) next after
  so_far_more i values state rest x next after lt e so_far =
      sym (behind_more values x (steps_at step next (n - (i + 1)) after))
      ∙ (ap (behind values) (sym (bind_is (step state rest) ((x, next), after) (λ y. steps_at step y.0.1 (n - (i + 1)) y.1 >>= λ more. Ok (y.0.0 ∷ more.0, more.1)) e))
      ∙ (ap (λ k. behind values (steps_at step state k rest)) (sym (one_left i lt)) ∙ so_far))

  pub so_far_fails : (i : ℕ) (values : List A) (state : S) (rest : List ℕ) (left : ℕ) → i < n → step state rest ≡ Err left → SoFar i values state rest → steps_at step start n bytes ≡ Err left
  so_far_fails i values state rest left lt e so_far =
      sym so_far ∙ (ap (λ k. behind values (steps_at step state k rest)) (one_left i lt)
      ∙ ap (λ r. behind values (r >>= λ y. steps_at step y.0.1 (n - (i + 1)) y.1 >>= λ more. Ok (y.0.0 ∷ more.0, more.1))) e)

  pub so_far_ends : (i : ℕ) (values : List A) (state : S) (rest : List ℕ) → n ≤ i → SoFar i values state rest → steps_at step start n bytes ≡ Ok (values, rest)
  so_far_ends i values state rest le so_far =
      let none : n - i ≡ 0 = omega arith in
      sym so_far ∙ (ap (λ k. behind values (steps_at step state k rest)) none ∙ ap (λ ys. Ok (ys, rest)) (append-nil values))

-- ---- one step after another

bind_bind : {A B C : Type 0} (r : Result A ℕ) (f : A → Result B ℕ) (g : B → Result C ℕ) → ((r >>= f) >>= g) ≡ (r >>= λ x. f x >>= g)
bind_bind (Ok x) f g = refl
bind_bind (Err left) f g = refl

bind_same : {A B : Type 0} (r : Result A ℕ) (f g : A → Result B ℕ) → ((x : A) → f x ≡ g x) → (r >>= f) ≡ (r >>= g)
bind_same (Ok x) f g same = same x
bind_same (Err left) f g same = refl

wanted_bind : {A B : Type 0} (holds : Bool) (field : List ℕ) (r : Result A ℕ) (g : A → Result B ℕ) → (wanted holds field r >>= g) ≡ wanted holds field (r >>= g)
wanted_bind true field r g = refl
wanted_bind false field r g = refl

-- where one reading fails as another, a reader that stops in the one stops in the other
pub stops_as : {Y W : Type 0} (stop : Stop) (r : Result Y ℕ) (q : Result W ℕ) → ((left : ℕ) → r ≡ Err left → q ≡ Err left) → StopsAt stop r → StopsAt stop q
stops_as (stops.Left left) r q same e = same left e
stops_as stops.NoMemory r q same e = tt

-- ---- the lists of an element and of a snapshot

-- the next piece, and that it stands before what follows
abbrev pub piece_step : Option PieceName → List ℕ → Reading (PieceName × Option PieceName)
piece_step before bytes = piece_at before bytes >>= λ p. Ok ((p.0, Some p.0), p.1)

pub pieces_step : (before : Option PieceName) (n : ℕ) (bytes : List ℕ) → pieces_at before n bytes ≡ steps_at piece_step before n bytes
pieces_step before zero bytes = refl
pieces_step before (suc n) bytes =
    sym (bind_bind (piece_at before bytes) (λ p. Ok ((p.0, Some p.0), p.1)) (λ x. steps_at piece_step x.0.1 n x.1 >>= λ more. Ok (x.0.0 ∷ more.0, more.1))
    ∙ (bind_bind (number_at w32 bytes) _ on
    ∙ bind_same (number_at w32 bytes) _ _ (λ client.
    bind_bind (wanted (option_map_or (λ p. nat_le p.client client.0) before true) bytes (number_at w64 client.1)) _ on
    ∙ bind_same (wanted (option_map_or (λ p. nat_le p.client client.0) before true) bytes (number_at w64 client.1)) _ _ (λ serial. one client serial (pieces_step (Some (record { client = client.0; serial = serial.0 })) n serial.1)))))
  where
    on : PieceName × List ℕ → Reading (List PieceName)
    on p = steps_at piece_step (Some p.0) n p.1 >>= λ more. Ok (p.0 ∷ more.0, more.1)

    one : (client serial : ℕ × List ℕ) → pieces_at (Some (record { client = client.0; serial = serial.0 })) n serial.1 ≡ steps_at piece_step (Some (record { client = client.0; serial = serial.0 })) n serial.1
        → (wanted (piece_rises before (record { client = client.0; serial = serial.0 })) client.1 (Ok (record { client = client.0; serial = serial.0 }, serial.1)) >>= on)
        ≡ (wanted (piece_rises before (record { client = client.0; serial = serial.0 })) client.1 (pieces_at (Some (record { client = client.0; serial = serial.0 })) n serial.1) >>= λ more. Ok (record { client = client.0; serial = serial.0 } ∷ more.0, more.1))
    one client serial more =
        let p : PieceName = record { client = client.0; serial = serial.0 } in
        wanted_bind (piece_rises before p) client.1 (Ok (p, serial.1)) on
        ∙ (ap (λ r. wanted (piece_rises before p) client.1 (r >>= λ more. Ok (p ∷ more.0, more.1))) (sym more)
        ∙ sym (wanted_bind (piece_rises before p) client.1 (pieces_at (Some p) n serial.1) (λ more. Ok (p ∷ more.0, more.1))))

-- the next mark, and what may follow it
abbrev pub mark_step : Form × Option ℕ → List ℕ → Reading (ChainMark × (Form × Option ℕ))
mark_step state bytes = do
  behind ← form_at state.0 bytes
  mark ← mark_at behind.0.0 state.1 behind.1
  Ok ((mark.0, (behind.0.1, tomb_of mark.0)), mark.1)

pub marks_step : (form : Form) (tomb : Option ℕ) (n : ℕ) (bytes : List ℕ) → marks_at form tomb n bytes ≡ steps_at mark_step (form, tomb) n bytes
marks_step form tomb zero bytes = refl
marks_step form tomb (suc n) bytes =
    sym (bind_bind (form_at form bytes) _ on
    ∙ bind_same (form_at form bytes) _ _ (λ next.
    bind_bind (mark_at next.0.0 tomb next.1) _ on
    ∙ bind_same (mark_at next.0.0 tomb next.1) _ _ (λ mark. ap (λ r. r >>= λ more. Ok (mark.0 ∷ more.0, more.1)) (sym (marks_step next.0.1 (tomb_of mark.0) n mark.1)))))
  where
    on : (ChainMark × (Form × Option ℕ)) × List ℕ → Reading (List ChainMark)
    on x = steps_at mark_step x.0.1 n x.1 >>= λ more. Ok (x.0.0 ∷ more.0, more.1)

-- the next symbol of a snapshot, and that it stands before what follows
abbrev pub row_step : Option Name → List ℕ → Reading (SnapRow × Option Name)
row_step before bytes = snap_row_at before bytes >>= λ r. Ok ((r.0, Some r.0.symbol), r.1)

pub rows_step : (before : Option Name) (n : ℕ) (bytes : List ℕ) → snap_rows_at before n bytes ≡ steps_at row_step before n bytes
rows_step before zero bytes = refl
rows_step before (suc n) bytes =
    sym (bind_bind (snap_row_at before bytes) (λ r. Ok ((r.0, Some r.0.symbol), r.1)) (λ x. steps_at row_step x.0.1 n x.1 >>= λ more. Ok (x.0.0 ∷ more.0, more.1))
    ∙ (bind_bind (name_at bytes) _ on
    ∙ bind_same (name_at bytes) _ _ (λ symbol.
    bind_bind (wanted (symbol_rises before symbol.0) (drop 1 bytes) (number_at w64 symbol.1)) _ on
    ∙ bind_same (wanted (symbol_rises before symbol.0) (drop 1 bytes) (number_at w64 symbol.1)) _ _ (λ version.
    bind_bind (key_of_at kinds.TableIndex version.1) _ on
    ∙ bind_same (key_of_at kinds.TableIndex version.1) _ _ (λ index.
    ap (λ r. r >>= λ more. Ok (record { symbol = symbol.0; version = version.0; index = index.0 } ∷ more.0, more.1)) (sym (rows_step (Some symbol.0) n index.1)))))))
  where
    on : SnapRow × List ℕ → Reading (List SnapRow)
    on r = steps_at row_step (Some r.0.symbol) n r.1 >>= λ more. Ok (r.0 ∷ more.0, more.1)

pub tag_fails : (form : Form) (tomb : Option ℕ) (bytes : List ℕ) (left : ℕ) → form_at form bytes ≡ Err left → mark_step (form, tomb) bytes ≡ Err left
tag_fails form tomb bytes left e = ap (λ r. r >>= λ behind. mark_at behind.0.0 tomb behind.1 >>= λ mark. Ok ((mark.0, (behind.0.1, tomb_of mark.0)), mark.1)) e

pub mark_fails : (form : Form) (tomb : Option ℕ) (bytes : List ℕ) (tag : ℕ) (next : Form) (after : List ℕ) (left : ℕ) → form_at form bytes ≡ Ok ((tag, next), after) → mark_at tag tomb after ≡ Err left → mark_step (form, tomb) bytes ≡ Err left
mark_fails form tomb bytes tag next after left e f =
    ap (λ r. r >>= λ behind. mark_at behind.0.0 tomb behind.1 >>= λ mark. Ok ((mark.0, (behind.0.1, tomb_of mark.0)), mark.1)) e
    ∙ ap (λ r. r >>= λ mark. Ok ((mark.0, (next, tomb_of mark.0)), mark.1)) f

pub mark_found : (form : Form) (tomb : Option ℕ) (bytes : List ℕ) (tag : ℕ) (next : Form) (after : List ℕ) (mark : ChainMark) (rest : List ℕ) → form_at form bytes ≡ Ok ((tag, next), after) → mark_at tag tomb after ≡ Ok (mark, rest)
    → mark_step (form, tomb) bytes ≡ Ok ((mark, (next, tomb_of mark)), rest)
mark_found form tomb bytes tag next after mark rest e f =
    ap (λ r. r >>= λ behind. mark_at behind.0.0 tomb behind.1 >>= λ mark. Ok ((mark.0, (behind.0.1, tomb_of mark.0)), mark.1)) e
    ∙ ap (λ r. r >>= λ mark. Ok ((mark.0, (next, tomb_of mark.0)), mark.1)) f

-- ---- the last row

-- the symbol of the last row so far
abbrev pub last_symbol : List SnapRow → Option Name
last_symbol rows = option_map (λ (row : SnapRow). row.symbol) (slice_get rows (length rows - 1))

pub last_symbol-push : (rows : List SnapRow) (row : SnapRow) → last_symbol (rows ++ row ∷ []) ≡ Some row.symbol
last_symbol-push rows row =
    let at : length (rows ++ row ∷ []) - 1 ≡ length rows = omega (arith, length-append rows (row ∷ [])) in
    ap (λ n. option_map (λ (r : SnapRow). r.symbol) (slice_get (rows ++ row ∷ []) n)) at ∙ ap (option_map (λ (r : SnapRow). r.symbol)) (found rows)
  where
    found : (rows : List SnapRow) → slice_get (rows ++ row ∷ []) (length rows) ≡ Some row
    found [] = refl
    found (r ∷ rows) = found rows
