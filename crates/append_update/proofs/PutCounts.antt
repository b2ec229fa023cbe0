-- How many puts of a client a try adds.
use Rattle.std.proofs.Common.{◌≡◌, ℕ, suc, ◌+◌, ◌≤◌, Bool, true, false, List, [], ◌∷◌, ◌++◌, map, length, refl, sym, ap, ◌∙◌, cond, arith}
use Rattle.std.specs.Prelude.{filter, count_by, nat_eq}
use Rattle.segment_cut.proofs.Lists.{count_by-cons, count_by-no}
use Rattle.key_kind.specs.declared.key.Key.{Key}
use Rattle.bucket_core.specs.declared.event.Event.{Event}
use Rattle.bucket_core.specs.declared.event.Event.TheVariants as events
use Rattle.bucket_core.specs.History.{History, Bytes, author, puts_by}
use Rattle.reply_model.specs.Tries.{put_of}
use Rattle.reply_model.proofs.TryCounts.{counted_reversed}
use Rattle.version_chain.specs.Traces.{Went}

-- a Put
abbrev is_put : Event → Bool
is_put (events.Put client key body) = true
is_put e = false

-- the client's events among these
abbrev own_among : ℕ → History → History
own_among client es = filter (λ e. nat_eq (author e) client) es

-- an event that is no Put counts for none
not_put : (client c : ℕ) (e : Event) (more old : History) → is_put e ≡ false → puts_by client (more ++ old) ≡ count_by is_put (own_among client more) + puts_by client old
    → puts_by client (more ++ old) ≡ count_by is_put (cond (nat_eq c client) (e ∷ own_among client more) (own_among client more)) + puts_by client old
not_put client c e more old is rest = by (nat_eq c client)
  where
    by : (b : Bool) → puts_by client (more ++ old) ≡ count_by is_put (cond b (e ∷ own_among client more) (own_among client more)) + puts_by client old
    by true =
        let none : count_by is_put (e ∷ own_among client more) ≡ count_by is_put (own_among client more) = count_by-no is_put e (own_among client more) is in
        omega (arith, none, rest)
    by false = rest

-- the client's puts among these and before them
puts_among : (client : ℕ) (more old : History) → puts_by client (more ++ old) ≡ count_by is_put (own_among client more) + puts_by client old
puts_among client [] old = omega arith
puts_among client (events.Put c key body ∷ more) old = by (puts_among client more old) (nat_eq c client)
  where
    by : puts_by client (more ++ old) ≡ count_by is_put (own_among client more) + puts_by client old
        → (b : Bool) → cond b (suc (puts_by client (more ++ old))) (puts_by client (more ++ old)) ≡ count_by is_put (cond b (events.Put c key body ∷ own_among client more) (own_among client more)) + puts_by client old
    by rest true = omega (arith, count_by-cons is_put (events.Put c key body) (own_among client more), rest)
    by rest false = rest
puts_among client (events.Refer c symbol was entry list ∷ more) old = not_put client c (events.Refer c symbol was entry list) more old refl (puts_among client more old)
puts_among client (events.Name c snap body ∷ more) old = not_put client c (events.Name c snap body) more old refl (puts_among client more old)
puts_among client (events.Unname c snap ∷ more) old = not_put client c (events.Unname c snap) more old refl (puts_among client more old)
puts_among client (events.Drop c key ∷ more) old = not_put client c (events.Drop c key) more old refl (puts_among client more old)

-- what a client put is no less later
pub puts_grow : (client : ℕ) (more old : History) → puts_by client old ≤ puts_by client (more ++ old)
puts_grow client more old = omega (arith, puts_among client more old)

all_puts : (client : ℕ) (puts : List (Key × Bytes)) → count_by is_put (map (put_of client) puts) ≡ length puts
all_puts client [] = refl
all_puts client (p ∷ puts) = omega (arith, count_by-cons is_put (put_of client p) (map (put_of client) puts), all_puts client puts)

-- a try adds its puts
pub puts_counted : (client : ℕ) (sole : Bool) (old new : History) (puts : List (Key × Bytes)) → Went client sole old new (map (put_of client) puts) → puts_by client new ≡ puts_by client old + length puts
puts_counted client sole old new puts went =
    let whole : puts_by client new ≡ count_by is_put (own_among client went.more) + puts_by client old = ap (puts_by client) went.is ∙ puts_among client went.more old in
    let own : count_by is_put (own_among client went.more) ≡ length puts =
    sym (counted_reversed is_put (own_among client went.more)) ∙ (ap (count_by is_put) went.own_are ∙ all_puts client puts) in
    omega (arith, whole, own)
