-- The product modulo 3, with the sign of the position.
use Rattle.std.proofs.Common.{length}
use Rattle.tally.proofs.RowSums.{odd_term, even_term}
use Rattle.tally.proofs.shares.Matrix.term.Goals as goal

pub returns-then-parity-eq1 : goal.returns-then-parity-eq1
returns-then-parity-eq1 g c = odd_term g.C.Coding g.met.C.Ternary.three c.args.self.now.rows.now (length c.args.self.now.rows.now) c.args.position (g.C.Coding.meant c.args.sum) c.requires c.product-product.ensures c.if-parity-eq1.true

pub returns-else-parity-eq1 : goal.returns-else-parity-eq1
returns-else-parity-eq1 g c = even_term g.C.Coding g.met.C.Ternary.three c.args.self.now.rows.now (length c.args.self.now.rows.now) c.args.position (g.C.Coding.meant c.args.sum) c.requires c.product-product.ensures c.if-parity-eq1.false
