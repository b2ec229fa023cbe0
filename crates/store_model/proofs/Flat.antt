-- Bytes that spell an index are that index as an object.
use Rattle.std.proofs.Common.{◌≡◌, ℕ, true, List, [], ap, ◌∙◌, Ok}
use Rattle.std.specs.Prelude.{take, drop, length, nat_le, nat_eq, cond}
use Rattle.std.specs.Cmp.Lexicographic.{pointwise}
use Rattle.std.specs.Int.{w16, w32}
use Rattle.byte_fields.specs.Reading.{◌>>=◌, wanted, number_at, bytes_at, magic_at}
use Rattle.byte_fields.proofs.Steps.{done, ok_is, bind_ok, wanted_ok, whole_takes}
use Rattle.std.proofs.lemmas.Slice.Eq.{bytes_eq-Decides}
use Rattle.index_tree.specs.declared.index.Index.{Index}
use Rattle.index_tree.specs.declared.page.IndexObject.TheVariants as objects
use Rattle.index_tree.specs.IndexText.{index_magic, heads_at, slots_at, no_reach, index_at, index_of}
use Rattle.index_tree.specs.PageText.{page_magic, root_magic, page_of, root_of, as_object, object_of}

-- the bytes begin with what was read first
front_is : (magic bytes : List ℕ) (x : List ℕ × List ℕ) → magic_at magic bytes ≡ Ok x → take (length magic) bytes ≡ magic
front_is magic bytes x e =
    let a = bind_ok (bytes_at (length magic) bytes) (λ m. wanted (pointwise nat_eq m.0 magic) bytes (Ok m)) x e in
    let g = wanted_ok (pointwise nat_eq a.0.0 magic) bytes (done a.0) x a.2 in
    let b = wanted_ok (nat_le (length magic) (length bytes)) bytes (done (take (length magic) bytes, drop (length magic) bytes)) a.0 a.1 in
    ap (λ (p : List ℕ × List ℕ). p.0) (ok_is (take (length magic) bytes, drop (length magic) bytes) a.0 b.1) ∙ (bytes_eq-Decides a.0.0 magic).0 g.0

index_begins : (bytes : List ℕ) (i : Index) → index_of bytes ≡ Ok i → take 4 bytes ≡ index_magic
unfolding index_of index_at
index_begins bytes i e =
    let a = bind_ok (magic_at index_magic bytes) (λ m. number_at w16 m.1 >>= λ n. heads_at [] n.0 n.1 >>= λ heads. number_at w32 heads.1 >>= λ rows. number_at w32 rows.1 >>= λ count. slots_at rows.0 n.0 no_reach count.0 count.1 >>= λ slots. Ok (record { schema = record { timed = true; columns = heads.0 }; rows = rows.0; slots = slots.0 }, slots.1)) (i, []) (whole_takes (index_at bytes) i e) in
    front_is index_magic bytes a.0 a.1

pub flat_object : (bytes : List ℕ) (i : Index) → index_of bytes ≡ Ok i → object_of bytes ≡ Ok (objects.Flat i)
unfolding object_of
flat_object bytes i e =
    let front : take 4 bytes ≡ index_magic = index_begins bytes i e in
    ap (λ f. cond (pointwise nat_eq f page_magic) (as_object objects.Page (page_of bytes))
    (cond (pointwise nat_eq f root_magic) (as_object objects.Root (root_of bytes)) (as_object objects.Flat (index_of bytes)))) front
    ∙ ap (as_object objects.Flat) e
