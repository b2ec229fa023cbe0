-- What two equal answers hold.
use Rattle.std.proofs.Common.{◌≡◌, ap, sym}
use Rattle.std.specs.Prelude.{is_ok, is_some, unwrap_or, Some, None, Result, Ok, Err}
use Rattle.std.proofs.lemmas.Bool.{true≢false}

abbrev value_or : {A E : Type 0} → A → Result A E → A
value_or d (Ok x) = x
value_or d (Err w) = d

pub ok_is : {A E : Type 0} (x y : A) → ◌≡◌ {A = Result A E} (Ok x) (Ok y) → x ≡ y
ok_is x y e = ap (value_or x) e

pub err_ok : {A E G : Type 0} (w : E) (x : A) → ◌≡◌ {A = Result A E} (Err w) (Ok x) → G
err_ok w x e = absurd (true≢false (sym (ap is_ok e)))

pub some_is : {X : Type 0} (x y : X) → Some x ≡ Some y → x ≡ y
some_is x y e = ap (λ o. unwrap_or o x) e

pub none_some : {X : Type 0} {G : Type 0} (x : X) → None ≡ Some x → G
none_some x e = absurd (true≢false (sym (ap is_some e)))
