-- What is left is the rows divided by 3 as often as the loop has turned.
use Rattle.std.proofs.Common.{◌≡◌, ◌/◌, ◌^◌}
use Rattle.coding.proofs.walks.enough.Given as goal

abbrev pub invariant-loop : goal.invariant-loop
invariant-loop l = l.left ≡ l.rows / (3 ^ l.counter)
