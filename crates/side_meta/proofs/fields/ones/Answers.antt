use Rattle.std.proofs.Common.{◌≡◌, ◌-◌, ◌*◌, ◌/◌, ◌%◌, ◌≤◌, ◌^◌, refl, lit≤}
use Rattle.side_meta.proofs.Sides.{at_each}
use Rattle.side_meta.proofs.fields.ones.Goals as goal

pub overflow_sub-result : goal.overflow_sub-result
overflow_sub-result c =
    at_each (λ l. 1 * 2 ^ l % 4294967296 ≤ 64)
    (lit≤ tt) (lit≤ tt) (lit≤ tt) (lit≤ tt) (lit≤ tt) (lit≤ tt) (lit≤ tt)
    c.args.spec.now.log_bits c.args.spec.now.bits

pub returns : goal.returns
returns c =
    at_each (λ l. 18446744073709551615 / 2 ^ (64 - 1 * 2 ^ l % 4294967296) ≡ 2 ^ 2 ^ l - 1)
    refl refl refl refl refl refl refl
    c.args.spec.now.log_bits c.args.spec.now.bits
