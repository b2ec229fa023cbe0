use Rattle.std.proofs.Common.{arith}
use Rattle.frame_write.proofs.plan.lay_table.Goals as goal

pub returns : goal.returns
returns c = record {
  put = c.in_ok-put.put;
  puts_are = c.in_ok-index.ensures.puts;
  key_is = c.in_ok-put.ensures.key;
  spelled = c.in_ok-put.ensures.body;
  key = c.in_ok-index.ensures.key;
  next = omega (arith, c.in-Some.ensures.1);
  fits = omega (arith, c.in-Some.ensures.0);
}
