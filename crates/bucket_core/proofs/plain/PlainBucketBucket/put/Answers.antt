use Rattle.std.proofs.Common.{◌≤◌, sym, ◌≡◌, suc, ap, ◌∙◌, arith}
use Rattle.std.proofs.lemmas.Bool.{true≢false}
use Rattle.std.specs.Arc.{arc_value}
use Rattle.bucket_core.specs.History.{puts_by}
use Rattle.bucket_core.specs.Calls.{put_event}
use Rattle.bucket_core.proofs.BucketLemmas.{puts_by-le-length, puts_by-own, IsLawful-add}
use Rattle.bucket_core.proofs.plain.PlainBucketBucket.put.Goals as goal

pub overflow_add-self : goal.overflow_add-self
overflow_add-self g c =
    let s = c.args.self.now in
    let free : (s.most ≤ c.len-count.result → ⊥) = λ full. true≢false (sym (c.is_full.ensures.1 full) ∙ c.if-is_full.false) in
    omega (arith, s.counted, puts_by-le-length s.number s.log, c.len-count.ensures, free)

pub invariant_of-self : goal.invariant_of-self
invariant_of-self g c =
    let s = c.args.self.now in
    record {
      counted = let more : puts_by s.number c.put.new.self ≡ suc (puts_by s.number s.log) = ap (puts_by s.number) c.in-Ok.ensures.ok ∙ puts_by-own s.number c.args.key (arc_value c.args.body) s.log in omega (arith, s.counted, more);
      lawful = IsLawful-add g.L.Law.claimed (put_event s.number c.args.key (arc_value c.args.body)) s.log c.put.new.self c.in-Ok.ensures.ok s.lawful tt c.requires.claim;
    }
